use Rattle.jobfile.proofs.Taking.{missing_as, ranged_word, err_exit}
use Rattle.jobfile.proofs.fields.word.Goals as goal

pub returns-in_err-bytes : goal.returns-in_err-bytes
returns-in_err-bytes g c =
    err_exit _ _ _ c.from_residual.ensures.1 (missing_as _ _ _ _ _ _ c.in_err-bytes.ensures)

pub returns : goal.returns
returns g c =
    rw (c.ok_or.ensures.value, c.then_some.ensures)
    (ranged_word (goal.F-post g c.args.in_range) _ _ _ c.position.ensures c.in_ok-bytes.ensures c.from_be_bytes-value.ensures c.in_range.ensures)
