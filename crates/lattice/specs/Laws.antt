-- What every condition owes: its replies against the vectors on which it holds. Assumes nothing.
use Rattle.std.specs.Prelude.{ℕ, ◌<◌, ◌≤◌}
use Rattle.lattice.specs.declared.vector.Vector.{Vector}
use Rattle.lattice.specs.declared.condition.Reply.{Reply}
use Rattle.lattice.specs.Limits.{places}
use Rattle.lattice.specs.Order.{at, AtMost}
use Rattle.lattice.specs.Replies.{IsHolds, IsLift, IsNever}

pub record Lawful (holds : Vector → Type 0) (reply : Vector → Reply) : Type 0 where
  -- the reply is "holds" exactly when the condition holds
  pub holds_then : (v : Vector) → IsHolds (reply v) → holds v
  pub holds_only : (v : Vector) → holds v → IsHolds (reply v)
  -- a lift is of a place, and rises; every vector at or above, on which the condition holds, has at least the new height there
  pub place : (v : Vector) (p h : ℕ) → IsLift (reply v) p h → p < places
  pub rises : (v : Vector) (p h : ℕ) → IsLift (reply v) p h → at v p < h
  pub needed : (v : Vector) (p h : ℕ) → IsLift (reply v) p h → (w : Vector) → AtMost v w → holds w → h ≤ at w p
  -- "never": the condition holds on no vector at or above
  pub never : (v : Vector) → IsNever (reply v) → (w : Vector) → AtMost v w → holds w → ⊥

-- where a condition holds, told by its replies alone
abbrev pub Holding : (Vector → Reply) → Vector → Type 0
Holding reply v = IsHolds (reply v)
