-- Cuts of a trace: the height of place i is the number of events of process i in the cut. Assumes nothing.
use Rattle.std.specs.Prelude.{◌≡◌, ℕ, ◌<◌, ◌≤◌, Bool, List, length, nat_lt}
use Rattle.lattice.specs.First.{some}
use Rattle.trace.specs.declared.event.Event.{Event}
use Rattle.trace.specs.Events.{by, total, number}

-- each place below n is at most its process's number of events
abbrev pub Within : ℕ → List Event → (ℕ → ℕ) → Type 0
Within n es h = (i : ℕ) → i < n → h i ≤ total es i

-- whether some place below n is above it
abbrev pub beyond : ℕ → List Event → (ℕ → ℕ) → Bool
beyond n es h = some (λ i. nat_lt (total es i) (h i)) n

-- event e is in the cut
abbrev pub InCut : List Event → (ℕ → ℕ) → ℕ → Type 0
InCut es h e = number es e ≤ h (by es e)

-- event e is its process's last event in the cut
pub record Last (es : List Event) (h : ℕ → ℕ) (e : ℕ) : Type 0 where
  pub there : e < length es
  pub is : number es e ≡ h (by es e)
