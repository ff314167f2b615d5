-- Two depots of two vans and two gates. Assumes nothing.
use Rattle.std.specs.Prelude.{ℕ, List, [], ◌∷◌}
use Rattle.lattice.specs.declared.vector.Vector.{Vector}
use Rattle.lattice.specs.declared.condition.Reply.{Reply}
use Rattle.lattice.specs.Order.{at}
use Rattle.gates.specs.Orders.{number_at}
use Rattle.gates.specs.Stable.{Sides}
use Rattle.gates.specs.Reply.{reply_to}

-- gate 0 likes van 1 best, gate 1 van 0; the vans' orders are given
abbrev depot : List ℕ → List ℕ → Sides
depot van₀ van₁ = record { n = 2; van = number_at (van₀ ∷ van₁ ∷ []); gate = number_at ((1 ∷ 0 ∷ []) ∷ (0 ∷ 1 ∷ []) ∷ []) }

-- both vans like gate 0 best
abbrev pub alike : Sides
alike = depot (0 ∷ 1 ∷ []) (0 ∷ 1 ∷ [])

-- each van likes another gate best
abbrev pub apart : Sides
apart = depot (0 ∷ 1 ∷ []) (1 ∷ 0 ∷ [])

-- the replies of the gates condition in a depot
abbrev pub replies : Sides → Vector → Reply
replies s v = reply_to s (at v)
