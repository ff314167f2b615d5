-- What the walk over an order keeps. Assumes nothing.
use Rattle.std.proofs.Common.{get_or}
use Rattle.gates.proofs.Rows.{Filled}
use Rattle.gates.proofs.order.Order.new.Given as goal

abbrev pub invariant-loop-p : goal.invariant-loop-p
invariant-loop-p l = Filled l.count (λ p. get_or l.numbers p 0) l.p l.order l.ranks
