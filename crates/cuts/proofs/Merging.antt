-- One process more in the greatest entries: with the clock of its last event in the cut, or without if it has none. Assumes nothing.
use Rattle.std.proofs.Common.{◌≡◌, ℕ, ◌+◌, List, None, Some, Option, MatchOption, sym, subst, arith}
use Rattle.trace.specs.declared.clock.Clock.{Clock}
use Rattle.trace.specs.declared.trace.Trace.{Trace}
use Rattle.trace.specs.Clocks.{merged}
use Rattle.trace.specs.Growth.{events, NthAt, ClockAt}
use Rattle.cuts.specs.Greatest.{Merged, merged_skip, merged_more}

pub merge_found : (t : Trace) (h : ℕ → ℕ) (i : ℕ) (m : List ℕ) (place : Option ℕ) (r : Option Clock) → NthAt t i (h i) place → MatchOption place (r ≡ None) (λ p. ClockAt t p r) → Merged (events t) h i m
    → MatchOption r (Merged (events t) h (i + 1) m) (λ c. Merged (events t) h (i + 1) (merged m c.entries))
merge_found t h i m None None none _ s = merged_skip (events t) h i m none s
merge_found t h i m None (Some c) none out s = cc
merge_found t h i m (Some p) None n out s = absurd (omega (arith, n.0))
merge_found t h i m (Some p) (Some c) n is s = subst (λ (xs : List ℕ). Merged (events t) h (i + 1) (merged m xs)) (sym is.rule) (merged_more (events t) h i p m n.0 n.1 n.2 s)
