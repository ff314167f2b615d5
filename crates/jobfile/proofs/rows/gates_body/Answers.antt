use Rattle.wire.specs.Parts.{here}
use Rattle.jobfile.proofs.Taking.{err_exit}
use Rattle.jobfile.proofs.Ordering.{gates_end}
use Rattle.jobfile.proofs.rows.gates_body.Goals as goal

pub returns-in_err-rows : goal.returns-in_err-rows
returns-in_err-rows c =
    err_exit _ _ _ c.from_residual.ensures.1 (here c.in_err-rows.ensures)

pub returns : goal.returns
returns c = gates_end _ c.rows.new.reader _ c.rows.new.gates c.in_ok-rows.ensures c.rows-2.new.reader c.rows-2.new.gates c.rows-2.result c.rows-2.ensures
