use Rattle.jobfile.proofs.Ordering.{SomeRows}
use Rattle.jobfile.proofs.rows.rows.Given as goal

abbrev pub invariant-loop-i : goal.invariant-loop-i
invariant-loop-i l = SomeRows l.side l.i l.initial.reader l.reader l.initial.gates l.gates
