-- The order that is put stands in its row, and the other rows are as they were. Assumes nothing.
use Rattle.std.proofs.Common.{refl, arith}
use Rattle.std.proofs.lemmas.Result.{err_from_is_err_and}
use Rattle.gates.specs.Orders.{no_row, no_order}
use Rattle.gates.proofs.Rows.{put_row}
use Rattle.gates.proofs.gates.Gates.put.Goals as goal

pub returns-then-row-self : goal.returns-then-row-self
returns-then-row-self c = (no_row (omega arith), refl)

pub returns-in_err-order : goal.returns-in_err-order
returns-in_err-order c =
    let p = err_from_is_err_and c.from_residual.result c.from_residual.ensures.1 in
    rw (p.1, p.2, c.in_err-order.ensures.0) (no_order (omega arith) c.in_err-order.ensures.1, refl)

pub returns-in-Vans : goal.returns-in-Vans
returns-in-Vans c = rw c.in-Vans.is (put_row _ c.args.self.now.vans c.args.row c.in_ok-order.order c.args.order.now (omega arith) (omega arith) c.in_ok-order.ensures, refl, refl)

pub returns-in-Gates : goal.returns-in-Gates
returns-in-Gates c = rw c.in-Gates.is (put_row _ c.args.self.now.gates c.args.row c.in_ok-order.order c.args.order.now (omega arith) (omega arith) c.in_ok-order.ensures, refl, refl)
