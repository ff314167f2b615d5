use Rattle.commands.proofs.Spelling.{Sofar}
use Rattle.commands.proofs.hex.decode.Given as goal

abbrev pub invariant-loop-i : goal.invariant-loop-i
invariant-loop-i l = Sofar l.word l.i l.memory
