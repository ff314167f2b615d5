-- The reply of the gates condition, computed; that it is the one in words of `Says` is a law of `GatesLaws`. Assumes nothing.
use Rattle.std.specs.Prelude.{ℕ, ◌+◌, Bool, cond, not, ◌&&◌, leb, nat_le, nat_lt}
use Rattle.lattice.specs.First.{first, some}
use Rattle.lattice.specs.declared.condition.Reply.{Reply}
use Rattle.lattice.specs.declared.condition.Reply.TheVariants.{Holds, Lift, Never}
use Rattle.gates.specs.Orders.{position}
use Rattle.gates.specs.Stable.{Sides, reach}

-- whether van j is a rival of van i at gate g
abbrev pub rival : Sides → (ℕ → ℕ) → ℕ → ℕ → ℕ → Bool
rival s h i g j = nat_lt (position s.n (s.gate g) j) (position s.n (s.gate g) i) && nat_le (position s.n (s.van j) g) (h j)

-- whether some van is a rival of van i at the gate at position p of its order
abbrev pub contested : Sides → (ℕ → ℕ) → ℕ → ℕ → Bool
contested s h i p = some (rival s h i (s.van i p)) s.n

abbrev pub free : Sides → (ℕ → ℕ) → ℕ → ℕ → Bool
free s h i p = not (contested s h i p)

-- van i's next position where no van is its rival, or the end of its order
abbrev pub next : Sides → (ℕ → ℕ) → ℕ → ℕ
next s h i = first (free s h i) (h i + 1) (reach s i)

-- the lowest van with a rival at its present gate, or n
abbrev pub lowest : Sides → (ℕ → ℕ) → ℕ
lowest s h = first (λ i. contested s h i (h i)) 0 s.n

abbrev pub reply_to : Sides → (ℕ → ℕ) → Reply
reply_to s h =
    cond (some (λ i. leb (reach s i) (h i)) s.n) Never
    (cond (nat_lt (lowest s h) s.n) (Lift (lowest s h, next s h (lowest s h))) Holds)
