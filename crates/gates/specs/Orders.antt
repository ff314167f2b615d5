-- Orders of the numbers below n, most liked first. Assumes nothing.
use Rattle.std.specs.Prelude.{codes, ◌≡◌, ℕ, ◌<◌, ◌≤◌, List, [], length, ◌≢◌, nat_eq, slice_index, slice_index_or}
use Rattle.lattice.specs.First.{first}
use Rattle.gates.specs.declared.fault.OrderFault.{OrderFault}
use Rattle.gates.specs.declared.fault.OrderFault.TheVariants.{Row, Order}

-- how many vans, and how many gates, there can be
abbrev pub most : ℕ
most = 16

-- the number at position p of row i
abbrev pub number_at : List (List ℕ) → ℕ → ℕ → ℕ
number_at rows i p = slice_index (slice_index_or rows i []) p

-- the position of x in an order of n numbers, from 0, or n if x is not in it
abbrev pub position : ℕ → (ℕ → ℕ) → ℕ → ℕ
position n order x = first (λ p. nat_eq (order p) x) 0 n

-- the order has every number below n, each once, and no other
pub record Whole (n : ℕ) (order : ℕ → ℕ) : Type 0 where
  pub within : (p : ℕ) → p < n → order p < n
  pub distinct : (p q : ℕ) → p < n → q < n → order p ≡ order q → p ≡ q
  pub every : (x : ℕ) → x < n → (p : ℕ) × (p < n) × (order p ≡ x)

-- a list that is an order of the numbers below n
pub record OrderOf (n : ℕ) (list : List ℕ) : Type 0 where
  pub long : length list ≡ n
  pub whole : Whole n (λ p. slice_index list p)

-- why a list is refused for row i of n rows
pub data Unfit (n i : ℕ) (list : List ℕ) : OrderFault → Type 0 where
  no_row : n ≤ i → Unfit n i list Row
  no_order : i < n → (OrderOf n list → ⊥) → Unfit n i list Order

-- the text of that
abbrev pub fault_text : OrderFault → List ℕ
fault_text Row = codes "there is no such row"
fault_text Order = codes "not every number below the count once"

-- the list is an order for row i; it stands there now, and every other row is as it was
pub record Put (n i : ℕ) (list : List ℕ) (before after : ℕ → ℕ → ℕ) : Type 0 where
  pub row : i < n
  pub order : OrderOf n list
  pub here : (p : ℕ) → p < n → after i p ≡ slice_index list p
  pub others : (k p : ℕ) → (k ≢ i) → after k p ≡ before k p
