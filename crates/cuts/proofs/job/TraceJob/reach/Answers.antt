use Rattle.std.proofs.Common.{ℕ, Bool, ◌+◌, ◌-◌, refl, arith, rules, tests}
use Rattle.std.proofs.lemmas.Iterator.{YieldsList-from_map, YieldsList-from_range}
use Rattle.std.proofs.lemmas.Iterator.Consumers.{nth_from_yields_List, YieldsList-from_filter}
use Rattle.trace.specs.Events.{does, nth, total}
use Rattle.cuts.specs.Sides.{asks, tallied}
use Rattle.cuts.specs.Jobs.{happened}
use Rattle.cuts.proofs.Counting.{nth_reaches}
use Rattle.cuts.proofs.job.TraceJob.reach.Goals as goal

pub returns : goal.returns
returns c =
    let es = happened c.args.self.now in
    let s = c.args.side in
    let a = c.args.from in
    let n = total es s.place - a in
    let on : ℕ → Bool = λ k. asks es s (does es (nth es s.place k)) in
    let found =
    nth_from_yields_List c.nth.result _ (c.args.missing - 1) c.nth.ensures.ran
    (YieldsList-from_filter _ on (YieldsList-from_map _ (λ (k : ℕ). k + 1) (YieldsList-from_range a (total es s.place) n (cc) (omega arith)) c.map.ensures.closure (λ x r q k. search rules)) c.filter.ensures.closure
    (λ x b q k. search (rules, tests))) in
    nth_reaches es (asks es s) s.place n a (c.args.missing - 1) (tallied es s a + c.args.missing) c.nth.result refl (omega arith) found
