use Rattle.commands.proofs.Heights.{Sofar}
use Rattle.commands.proofs.words.Words.heights.Given as goal

abbrev pub invariant-loop-height : goal.invariant-loop-height
invariant-loop-height l = Sofar l.fn.self l.self l.height-index l.height-items
