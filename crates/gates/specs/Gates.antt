-- The orders of vans and gates as a search holds them, and what the public calls say. Assumes nothing.
use Rattle.std.specs.Prelude.{◌≡◌, ℕ, ◌<◌, ◌≤◌, List, Option, Result, map, MatchOption, MatchResult}
use Rattle.lattice.specs.declared.vector.Vector.{Vector}
use Rattle.lattice.specs.declared.condition.Reply.{Reply}
use Rattle.lattice.specs.declared.condition.Reply.TheVariants.{Holds}
use Rattle.lattice.specs.Order.{at}
use Rattle.gates.specs.declared.fault.OrderFault.{OrderFault}
use Rattle.gates.specs.declared.gates.Gates.{Gates}
use Rattle.gates.specs.declared.order.Order.{Order}
use Rattle.gates.specs.declared.side.Side.{Side}
use Rattle.gates.specs.declared.side.Side.TheVariants as side
use Rattle.gates.specs.Orders.{most, number_at, Whole, Unfit, Put}
use Rattle.gates.specs.Stable.{Sides, reach, Stable}
use Rattle.gates.specs.Rivals.{Settled, Says}
use Rattle.gates.specs.Reply.{reply_to}

-- the numbers of each order of a table
abbrev pub rows_of : List Order → List (List ℕ)
rows_of table = map (λ (o : Order). o.numbers) table

-- the orders that the two tables hold; numbers from n on mean nothing
abbrev pub sides : Gates → Sides
sides m = record { n = m.count; van = number_at (rows_of m.vans); gate = number_at (rows_of m.gates) }

-- n vans and n gates, with the order 0, 1, 2 and so on for each
pub record Plain (n : ℕ) (m : Gates) : Type 0 where
  pub count : (sides m).n ≡ n
  pub vans : (i p : ℕ) → i < n → p < n → (sides m).van i p ≡ p
  pub gates : (g p : ℕ) → g < n → p < n → (sides m).gate g p ≡ p

-- a new pair of tables, refused above 16
abbrev pub Started : ℕ → Option Gates → Type 0
Started n r = MatchOption r (most < n) (λ m. (n ≤ most) × Plain n m)

-- the table of a side, and that of the other
abbrev pub table_of : Side → Gates → List Order
table_of side.Vans m = m.vans
table_of side.Gates m = m.gates

abbrev pub other_of : Side → Gates → List Order
other_of side.Vans m = m.gates
other_of side.Gates m = m.vans

-- an order for row i of a side: it is taken and replaces that row alone, or is refused and changes nothing
abbrev pub RowPut : Side → ℕ → List ℕ → Gates → Result (Unit {0}) OrderFault → Gates → Type 0
RowPut s i list m r m' =
    MatchResult r
    (λ _. Put (sides m).n i list (number_at (rows_of (table_of s m))) (number_at (rows_of (table_of s m'))) × ((sides m').n ≡ (sides m).n) × (other_of s m' ≡ other_of s m))
    (λ e. Unfit (sides m).n i list e × (m' ≡ m))

-- the gate at a position of van i's order, where there is such a van and such a position
abbrev pub GateAt : Gates → ℕ → ℕ → Option ℕ → Type 0
GateAt m i p r = MatchOption r ((i < (sides m).n → p < reach (sides m) i → ⊥)) (λ g. (i < (sides m).n) × (p < reach (sides m) i) × (g ≡ (sides m).van i p))

-- laws of the gates condition
pub record GatesLaws (m : Gates) : Type 0 where
  -- every order is whole
  pub vans : (i : ℕ) → i < (sides m).n → Whole (sides m).n ((sides m).van i)
  pub gates : (g : ℕ) → g < (sides m).n → Whole (sides m).n ((sides m).gate g)
  -- the reply to each vector is what the words say, and they leave no other
  pub says : (v : Vector) → Says (sides m) (at v) (reply_to (sides m) (at v))
  pub only : (v : Vector) (r : Reply) → Says (sides m) (at v) r → reply_to (sides m) (at v) ≡ r
  -- a placing is stable exactly when every van has a gate and none has a rival there
  pub settled : (v : Vector) → Stable (sides m) (at v) → Settled (sides m) (at v)
  pub stable : (v : Vector) → Settled (sides m) (at v) → Stable (sides m) (at v)
  -- places from n on are free
  pub same_reply : (v w : Vector) → ((i : ℕ) → i < (sides m).n → at v i ≡ at w i) → reply_to (sides m) (at v) ≡ reply_to (sides m) (at w)
  pub same_stable : (v w : Vector) → ((i : ℕ) → i < (sides m).n → at v i ≡ at w i) → Stable (sides m) (at v) → Stable (sides m) (at w)
  -- without vans it holds on every vector
  pub blank : (sides m).n ≡ 0 → (v : Vector) → Stable (sides m) (at v) × (reply_to (sides m) (at v) ≡ Holds)
