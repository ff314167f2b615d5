use Rattle.std.proofs.Common.{rules}
use Rattle.jobfile.proofs.Taking.{err_exit}
use Rattle.jobfile.proofs.Ordering.{row_short, row_ends}
use Rattle.jobfile.proofs.rows.row.Goals as goal

pub returns-in_err-order : goal.returns-in_err-order
returns-in_err-order c =
    err_exit _ _ _ c.from_residual.ensures.1 (row_short _ _ _ _ _ c.count.ensures c.in_err-order.ensures.reads)

pub returns : goal.returns
returns c =
    row_ends _ _ c.args.reader.now c.row.new.reader c.args.gates.now c.in_ok-order.order.now c.count.ensures c.in_ok-order.ensures.reads
    c.put.new.self c.args.side c.put.result c.map_err.result c.position-start.result c.put.ensures (search rules) c.requires c.position-start.ensures
