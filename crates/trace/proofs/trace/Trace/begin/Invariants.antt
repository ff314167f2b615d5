use Rattle.std.proofs.Common.{◌≡◌, ℕ, ◌<◌, ◌≤◌, [], length, get_or, vec_capacity, All}
use Rattle.trace.specs.Events.{longest, most}
use Rattle.trace.proofs.trace.Trace.begin.Given as goal

-- the lists so far are empty, and each keeps its memory
abbrev pub invariant-loop-places : goal.invariant-loop-places
invariant-loop-places l =
    (length l.places-items ≡ most) × All (λ v. longest ≤ vec_capacity v) l.places-items × ((k : ℕ) (d : _) → k < l.places-index → (get_or l.places-items k d).items ≡ [])
