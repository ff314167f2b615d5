use Rattle.std.proofs.Common.{sym, arith}
use Rattle.std.proofs.lemmas.Bool.{eqb-false}
use Rattle.wire.proofs.Reading.{behind_at}
use Rattle.wire.proofs.frame.end.Goals as goal

pub returns-then-not-is_empty : goal.returns-then-not-is_empty
returns-then-not-is_empty c =
    let some = eqb-false _ 0 (sym c.if-not-is_empty.ensures) in
    behind_at _ _ _ (omega arith) (omega arith)
