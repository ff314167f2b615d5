use Rattle.std.proofs.Common.{◌≤◌, arith}
use Rattle.std.proofs.lemmas.Bool.{leb-true, leb-false}
use Rattle.jobfile.specs.Table.{Byte, byte_of}
use Rattle.jobfile.proofs.Taking.{first_byte, missing_as, ranged, err_exit}
use Rattle.jobfile.proofs.fields.channel_count.Goals as goal

pub returns-in_err-count : goal.returns-in_err-count
returns-in_err-count c =
    err_exit _ _ _ c.from_residual.ensures.1 (missing_as _ _ _ _ _ _ c.in_err-count.ensures)

pub returns : goal.returns
returns c =
    let read = c.in_ok-count.ensures in
    rw (c.ok_or.ensures.value, c.then_some.ensures)
    (ranged 1 Byte byte_of (λ v. v ≤ 8) c.args.reader.now c.bytes.new.reader _ _ _ c.position.ensures (read.0.small 0) (first_byte read) read.1.total (leb-true _ _) (λ many few. omega (arith, leb-false _ _ many, few)))
