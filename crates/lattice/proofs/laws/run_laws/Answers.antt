use Rattle.lattice.proofs.Runs.{runs_add}
use Rattle.lattice.proofs.Once.{one_run, one_board}
use Rattle.lattice.proofs.laws.run_laws.Goals as goal

pub returns : goal.returns
returns c = record { add = runs_add; run = one_run; board = one_board }
