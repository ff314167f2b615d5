use Rattle.lattice.specs.Order.{at}
use Rattle.cuts.specs.Jobs.{happened}
use Rattle.cuts.specs.Greatest.{Merged}
use Rattle.cuts.proofs.job.TraceJob.greatest.Given as goal

-- the clocks of the last events of the processes so far are merged
abbrev pub invariant-loop-i : goal.invariant-loop-i
invariant-loop-i l = Merged (happened l.self) (at l.v) l.i l.most.entries
