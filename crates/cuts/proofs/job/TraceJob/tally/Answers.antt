use Rattle.std.proofs.Common.{◌≡◌, ℕ, Bool, ◌+◌, List, length, filter, ap, arith, rules, tests}
use Rattle.std.proofs.lemmas.Iterator.{YieldsList-from_map, YieldsList-from_range}
use Rattle.std.proofs.lemmas.Iterator.Consumers.{count_from_yields_List, YieldsList-from_filter}
use Rattle.trace.specs.Events.{does, nth}
use Rattle.cuts.specs.Sides.{asks, tallied}
use Rattle.cuts.specs.Jobs.{happened}
use Rattle.cuts.proofs.Counting.{above_range, tally_range}
use Rattle.cuts.proofs.job.TraceJob.tally.Goals as goal

pub returns : goal.returns
returns c =
    let es = happened c.args.self.now in
    let s = c.args.side in
    let h = c.args.height in
    let on : ℕ → Bool = λ k. asks es s (does es (nth es s.place k)) in
    let count =
    count_from_yields_List c.filter.result c.count.result c.count.ensures.ran
    (YieldsList-from_filter _ on (YieldsList-from_map _ (λ (k : ℕ). k + 1) (YieldsList-from_range 0 h h (cc) (omega arith)) c.map.ensures.closure (λ x r q k. search rules)) c.filter.ensures.closure
    (λ x b q k. search (rules, tests))) in
    let end : 0 + h ≡ h = omega arith in
    omega (arith, count, ap (λ (xs : List ℕ). length (filter on xs)) (above_range h 0), tally_range es (asks es s) s.place h 0, ap (tallied es s) end)
