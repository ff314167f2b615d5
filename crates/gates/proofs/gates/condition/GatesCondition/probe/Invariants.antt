-- What the walk over the vans keeps. Assumes nothing.
use Rattle.lattice.specs.Order.{at}
use Rattle.gates.specs.Gates.{sides}
use Rattle.gates.specs.Replies.{QuietBelow}
use Rattle.gates.proofs.gates.condition.GatesCondition.probe.Given as goal

-- no van so far has a rival at its gate
abbrev pub invariant-loop-i : goal.invariant-loop-i
invariant-loop-i l = QuietBelow (sides l.self) (at l.v) l.i
