use Rattle.std.proofs.Common.{◌≡◌, ◌<◌, Err, refl, arith, rules}
use Rattle.trace.specs.Events.{most}
use Rattle.cuts.specs.declared.fault.JobFault.TheVariants.{Processes}
use Rattle.cuts.specs.Jobs.{too_many, no_bit}
use Rattle.cuts.proofs.SameJob.{same_job}
use Rattle.cuts.proofs.Shifts.{shifted_out}
use Rattle.cuts.proofs.job.TraceJob.begin.Goals as goal

pub returns-then-watch-n-ne0 : goal.returns-then-watch-n-ne0
returns-then-watch-n-ne0 c = (no_bit (omega arith) (shifted_out c.args.watch c.args.n c.if-watch-n-ne0.true), refl)

pub returns-in_err-map_err : goal.returns-in_err-map_err
returns-in_err-map_err c =
    let j = c.args.self.now in
    let is : c.from_residual.result ≡ Err Processes = search rules in
    let refused : (most < c.args.n) × (c.begin.new.self ≡ j.trace) = search rules in
    rw is (too_many refused.0, same_job _ j refused.1 refl refl refl)
