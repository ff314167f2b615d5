use Rattle.std.proofs.Common.{arith, rules}
use Rattle.std.proofs.lemmas.Result.{err_from_is_err_and}
use Rattle.wire.specs.Parts.{broken, kept}
use Rattle.wire.proofs.frame.read.Goals as goal

pub returns-then-file-gt-LARGEST : goal.returns-then-file-gt-LARGEST
returns-then-file-gt-LARGEST c = broken (omega arith)

pub returns-in_default : goal.returns-in_default
returns-in_default c = kept (omega arith) (broken (omega arith))

pub returns-then-version-ne-VERSION : goal.returns-then-version-ne-VERSION
returns-then-version-ne-VERSION c = kept (omega arith) (kept (omega arith) (broken (omega arith)))

pub returns-then-from_be_bytes-file : goal.returns-then-from_be_bytes-file
returns-then-from_be_bytes-file c = kept (omega arith) (kept (omega arith) (kept (omega arith) (broken (omega arith))))

pub returns-in_err-kind : goal.returns-in_err-kind
returns-in_err-kind c =
    let p = err_from_is_err_and c.from_residual.result c.from_residual.ensures.1 in
    let other = c.in_err-kind.ensures in
    rw (p.1, p.2, other.0) (kept (omega arith) (kept (omega arith) (kept (omega arith) (kept (omega arith) (broken (search (rules, other.1)))))))

pub returns-then-not-contains : goal.returns-then-not-contains
returns-then-not-contains c = kept (omega arith) (kept (omega arith) (kept (omega arith) (kept (omega arith) (kept (search rules) (broken (grind arith))))))
