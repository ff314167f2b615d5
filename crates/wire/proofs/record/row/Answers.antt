use Rattle.wire.proofs.Reading.{row_read}
use Rattle.wire.proofs.record.row.Goals as goal

pub returns-clause-reads : goal.returns-clause-reads
returns-clause-reads c = rw c.ok_or.ensures.value (row_read _ _ _ _ _ c.take.ensures.cases c.take.ensures.total c.total.ensures)
