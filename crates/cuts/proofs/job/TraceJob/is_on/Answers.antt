use Rattle.std.proofs.Common.{ap, rules}
use Rattle.trace.specs.Events.{does, nth}
use Rattle.cuts.specs.Jobs.{happened}
use Rattle.cuts.specs.Sides.{asks}
use Rattle.cuts.proofs.Deals.{asks_past}
use Rattle.cuts.proofs.Found.{tested}
use Rattle.cuts.proofs.job.TraceJob.is_on.Goals as goal

pub returns : goal.returns
returns c =
    let es = happened c.args.self.now in
    let s = c.args.side in
    let h = c.args.number in
    tested (λ e. asks es s e.action) (asks es s (does es (nth es s.place h))) c.nth_event.result c.is_some_and.result c.nth_event.ensures c.is_some_and.ensures (λ e of. search rules) (asks_past es s h)
    (λ e n. ap (λ x. asks es s x.action) n.1)
