-- Rivals, and what the gates condition replies, in words. Assumes nothing.
use Rattle.std.specs.Prelude.{ℕ, ◌<◌, ◌≤◌}
use Rattle.lattice.specs.declared.condition.Reply.{Reply}
use Rattle.lattice.specs.declared.condition.Reply.TheVariants.{Holds, Lift, Never}
use Rattle.gates.specs.Orders.{position}
use Rattle.gates.specs.Stable.{Sides, reach, GatePrefers, Placed}

-- van j is a rival of van i at gate g: the gate prefers j to i, and j has the gate at its present position or an earlier one
pub record Rival (s : Sides) (h : ℕ → ℕ) (i g j : ℕ) : Type 0 where
  pub other : j < s.n
  pub preferred : GatePrefers s g j i
  pub came : position s.n (s.van j) g ≤ h j

-- van i has a rival at the gate at position p of its order
abbrev pub Contested : Sides → (ℕ → ℕ) → ℕ → ℕ → Type 0
Contested s h i p = (j : ℕ) × Rival s h i (s.van i p) j

-- it has none
abbrev pub Free : Sides → (ℕ → ℕ) → ℕ → ℕ → Type 0
Free s h i p = (j : ℕ) → Rival s h i (s.van i p) j → ⊥

-- every van has a gate, and none has a rival there
pub record Settled (s : Sides) (h : ℕ → ℕ) : Type 0 where
  pub placed : Placed s h
  pub quiet : (i : ℕ) → i < s.n → Free s h i (h i)

-- q is van i's next position where no van is its rival, or the end of its order
pub record Next (s : Sides) (h : ℕ → ℕ) (i q : ℕ) : Type 0 where
  pub later : h i < q
  pub within : q ≤ reach s i
  pub passed : (p : ℕ) → h i < p → p < q → Contested s h i p
  pub free : q < reach s i → Free s h i q

-- the reply: "never" where a van is past its order; else the lowest van with a rival at its present gate
-- is lifted to its next position; "holds" where there is none
pub data Says (s : Sides) (h : ℕ → ℕ) : Reply → Type 0 where
  never : (i : ℕ) → i < s.n → reach s i ≤ h i → Says s h Never
  lift : Placed s h → (i q : ℕ) → i < s.n → ((k : ℕ) → k < i → Free s h k (h k)) → Contested s h i (h i) → Next s h i q → Says s h (Lift (i, q))
  holds : Settled s h → Says s h Holds
