use Rattle.std.proofs.Common.{arith}
use Rattle.jobfile.proofs.Taking.{err_exit}
use Rattle.jobfile.proofs.Ordering.{rows_more, rows_break}
use Rattle.jobfile.proofs.rows.rows.Goals as goal

pub returns-in_err-row : goal.returns-in_err-row
returns-in_err-row c =
    err_exit _ _ _ c.from_residual.ensures.1 (rows_break _ _ _ _ _ _ c.loop-i.invariant _ (omega (arith, c.loop-i.invariant.count, c.loop-i-test.true, c.count-i-end.ensures)) c.in_err-row.ensures)

pub loop-i-preserved : goal.loop-i-preserved
loop-i-preserved c = rows_more _ _ _ _ _ _ c.loop-i.invariant _ _ c.in_ok-row.ensures
