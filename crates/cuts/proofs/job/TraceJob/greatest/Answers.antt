use Rattle.std.proofs.Common.{◌≡◌, ℕ, ◌+◌, ◌<◌, take, None, get_or, MatchOption, sym, ap, ◌∙◌, subst, arith, rules}
use Rattle.std.proofs.lemmas.List.{get_or-take}
use Rattle.std.proofs.lemmas.Option.{MatchOption-at_some, MatchOption-at_none}
use Rattle.lattice.specs.Order.{at}
use Rattle.trace.specs.declared.clock.Clock.{Clock}
use Rattle.trace.specs.Clocks.{merged}
use Rattle.trace.specs.Growth.{ClockAt, NthAt}
use Rattle.trace.proofs.Traces.{valid}
use Rattle.cuts.specs.Jobs.{processes, happened}
use Rattle.cuts.specs.Greatest.{Merged, merged_greatest}
use Rattle.cuts.proofs.Found.{match_then}
use Rattle.cuts.proofs.Merging.{merge_found}
use Rattle.cuts.proofs.job.TraceJob.greatest.Goals as goal
use Rattle.cuts.proofs.job.TraceJob.greatest.Goals.{in-Some, in_default}

pub loop-i-preserved : goal.loop-i-preserved
loop-i-preserved c =
    let j = c.args.self.now in
    let es = happened j in
    let h = at c.args.v.now in
    let i = c.loop-i.i in
    let n = c.processes-n.result in
    let hs = c.heights.result.now in
    let inside : i < n = search rules in
    let height : get_or (take n hs) i 0 ≡ h i = get_or-take n hs i 0 inside ∙ ap (λ xs. get_or xs i 0) c.heights.ensures in
    let clock_found : MatchOption c.nth-last.result (c.and_then.result ≡ None) (λ (p : ℕ). ClockAt j.trace p c.and_then.result) =
    match_then c.nth-last.result c.and_then.ensures (λ none. none) (λ p at. search rules) in
    let step = merge_found j.trace h i c.loop-i.most.entries c.nth-last.result c.and_then.result (subst (λ (x : ℕ). NthAt j.trace i x c.nth-last.result) height c.nth-last.ensures) clock_found c.loop-i.invariant in
    elim c.match-and_then.branch [
      | in-Some w ↦
          subst (Merged es h (i + 1)) (sym (ap (λ (x : Clock). x.entries) w.most-is ∙ w.merge.ensures))
          (MatchOption-at_some (Merged es h (i + 1) c.loop-i.most.entries) (λ (x : Clock). Merged es h (i + 1) (merged c.loop-i.most.entries x.entries)) w.in-Some.clock w.in-Some.is step)
      | in_default w ↦ subst (Merged es h (i + 1)) (sym (ap (λ (x : Clock). x.entries) w.most-is)) (MatchOption-at_none (Merged es h (i + 1) c.loop-i.most.entries) (λ (x : Clock). Merged es h (i + 1) (merged c.loop-i.most.entries x.entries)) w.in_default.is step)
    ]

pub returns : goal.returns
returns c j lt =
    let t = c.args.self.now in
    merged_greatest (processes t) (happened t) (at c.args.v.now) c.loop-i.most.entries (valid t.trace)
    (subst (λ i. Merged (happened t) (at c.args.v.now) i c.loop-i.most.entries) (omega arith) c.loop-i.invariant) j (omega (arith, t.trace.few))
