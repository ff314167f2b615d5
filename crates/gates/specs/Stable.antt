-- Vans at gates, and when a placing is stable (Gale and Shapley 1962). Assumes nothing.
use Rattle.std.specs.Prelude.{◌≡◌, ℕ, ◌<◌}
use Rattle.gates.specs.Orders.{position}

-- n vans and n gates: `van i p` is the gate at position p of van i's order, `gate g p` the van at position p of gate g's
pub record Sides : Type 0 where
  pub n : ℕ
  pub van : ℕ → ℕ → ℕ
  pub gate : ℕ → ℕ → ℕ

-- how many gates van i's order has: all of them, as every order is whole
abbrev pub reach : Sides → ℕ → ℕ
reach s i = s.n

-- van i prefers gate g to gate f
abbrev pub VanPrefers : Sides → ℕ → ℕ → ℕ → Type 0
VanPrefers s i g f = position s.n (s.van i) g < position s.n (s.van i) f

-- gate g prefers van i to van k
abbrev pub GatePrefers : Sides → ℕ → ℕ → ℕ → Type 0
GatePrefers s g i k = position s.n (s.gate g) i < position s.n (s.gate g) k

-- the gate that van i has, at position h i of its order
abbrev pub taken : Sides → (ℕ → ℕ) → ℕ → ℕ
taken s h i = s.van i (h i)

-- every van has a gate
abbrev pub Placed : Sides → (ℕ → ℕ) → Type 0
Placed s h = (i : ℕ) → i < s.n → h i < reach s i

-- gate g prefers van i to what it has, be it a van or nothing
abbrev pub GateWants : Sides → (ℕ → ℕ) → ℕ → ℕ → Type 0
GateWants s h g i = (k : ℕ) → k < s.n → taken s h k ≡ g → GatePrefers s g i k

-- each van has a gate, no two the same, and no van and gate prefer each other to what they have
pub record Stable (s : Sides) (h : ℕ → ℕ) : Type 0 where
  pub placed : Placed s h
  pub apart : (i k : ℕ) → i < s.n → k < s.n → taken s h i ≡ taken s h k → i ≡ k
  pub content : (i g : ℕ) → i < s.n → g < s.n → VanPrefers s i g (taken s h i) → GateWants s h g i → ⊥
