use Rattle.std.proofs.Common.{sym, ap, arith}
use Rattle.payload.specs.declared.kinds.ScanWish.{ScanWish}
use Rattle.jobfile.specs.Table.{kind_width}
use Rattle.jobfile.specs.Fields.{letter_of_kind}
use Rattle.jobfile.proofs.Taking.{first_words, missing_as, err_exit}
use Rattle.jobfile.proofs.fields.wish.Goals as goal

pub returns-in_err-wish_of-in-Code : goal.returns-in_err-wish_of-in-Code
returns-in_err-wish_of-in-Code c =
    let short = c.in_err-wish_of-in-Code.ensures in
    err_exit _ _ _ c.from_residual.ensures.1 (missing_as _ _ _ _ _ _ (omega (arith, short.0, ap (λ k. kind_width (letter_of_kind k)) c.in-Code.is), short.1))

pub returns-in_err-wish_of-in-Scan : goal.returns-in_err-wish_of-in-Scan
returns-in_err-wish_of-in-Scan c =
    let short = c.in_err-wish_of-in-Scan.ensures in
    err_exit _ _ _ c.from_residual-in_err-wish_of-in-Scan.ensures.1 (missing_as _ _ _ _ _ _ (omega (arith, short.0, ap (λ k. kind_width (letter_of_kind k)) c.in-Scan.is), short.1))

pub returns-in_ok-wish_of-in-Scan : goal.returns-in_ok-wish_of-in-Scan
returns-in_ok-wish_of-in-Scan c =
    let read = c.in_ok-wish_of-in-Scan.ensures in
    let stop = ap (λ (w : ScanWish). w.stop) read.says in
    let parcels = ap (λ (w : ScanWish). w.parcels) read.says in (
      (
        (sym (ap letter_of_kind c.in-Scan.is), (omega (arith, stop, read.bytes 0, read.bytes 1), omega (arith, parcels, read.bytes 2, read.bytes 3))),
        tt,
      ),
      first_words _ _ _ read.took.is _ _ read.long read.bytes stop parcels,
      read.took.total,
    )
