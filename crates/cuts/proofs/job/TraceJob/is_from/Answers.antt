use Rattle.std.proofs.Common.{◌<◌, ◌==◌, length, arith, rules}
use Rattle.cuts.specs.Jobs.{happened}
use Rattle.cuts.specs.Sides.{sent_from}
use Rattle.cuts.proofs.Deals.{from_nobody, from_sender}
use Rattle.cuts.proofs.Found.{found}
use Rattle.cuts.proofs.job.TraceJob.is_from.Goals as goal

pub returns : goal.returns
returns c =
    let es = happened c.args.self.now in
    let other = c.args.process in
    let m = c.args.message in
    found es (λ e. e.process == other) (sent_from es m other) c.sender.result c.and_then.result c.is_some_and.result c.sender.ensures c.and_then.ensures c.is_some_and.ensures (λ p at. search rules)
    (λ e of. search rules) (from_nobody es m other) (λ p s. let there : p < length es = omega (arith, s.1.0.within, s.1.2) in (there, from_sender es m other p there s.0))
