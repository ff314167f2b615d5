use Rattle.std.proofs.Common.{arith}
use Rattle.jobfile.proofs.Taking.{first_byte, missing_as, range_at, err_exit}
use Rattle.jobfile.proofs.fields.payload_letter.Goals as goal

pub returns-in_err-letter : goal.returns-in_err-letter
returns-in_err-letter c =
    err_exit _ _ _ c.from_residual.ensures.1 (missing_as _ _ _ _ _ _ c.in_err-letter.ensures)

pub returns-in_default : goal.returns-in_default
returns-in_default c =
    let read = c.in_ok-letter.ensures in
    range_at _ _ _ _ _ _ _ _ _ c.position.ensures (read.0.small 0) (first_byte read) (grind arith)
