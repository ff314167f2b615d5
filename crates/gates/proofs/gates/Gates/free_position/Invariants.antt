-- What the walk over positions keeps, and the one over vans inside it. Assumes nothing.
use Rattle.std.proofs.Common.{◌≡◌, ℕ, ◌+◌, ◌<◌, ◌≤◌, false}
use Rattle.lattice.specs.Order.{at}
use Rattle.gates.specs.Gates.{sides}
use Rattle.gates.specs.Reply.{rival, free}
use Rattle.gates.proofs.gates.Gates.free_position.Given as goal

-- no position so far is free
abbrev pub invariant-next : goal.invariant-next
invariant-next l = (k : ℕ) → at l.v l.i ≤ k → k < l.present + l.past → free (sides l.self) (at l.v) l.i k ≡ false

-- no van so far is a rival
abbrev pub invariant-loop-j : goal.invariant-loop-j
invariant-loop-j l = (k : ℕ) → k < l.j → rival (sides l.self) (at l.v) l.i l.gate k ≡ false
