use Rattle.std.proofs.Common.{arith}
use Rattle.jobfile.proofs.Taking.{err_exit}
use Rattle.jobfile.proofs.Happening.{events_break, events_done}
use Rattle.jobfile.proofs.events.event_list.Goals as goal

pub returns-in_err-event : goal.returns-in_err-event
returns-in_err-event c =
    err_exit _ _ _ c.from_residual.ensures.1 (events_break _ _ _ _ _ c.loop.invariant _ _ c.loop-test.true c.in_err-event.ensures)

pub returns : goal.returns
returns c = events_done _ _ _ _ _ c.loop.invariant _ (omega (arith, c.loop.auto.counter-end, c.loop-test.false))
