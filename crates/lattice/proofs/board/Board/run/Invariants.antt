use Rattle.lattice.proofs.Promised.{Searching}
use Rattle.lattice.proofs.board.Board.run.Given as goal

abbrev pub invariant-loop-used : goal.invariant-loop-used
invariant-loop-used g l = Searching (g.C.Condition.reply l.condition) l.budget l.initial.self l.used l.self
