use Rattle.std.proofs.Common.{◌≡◌, ◌<◌, length, arith, rules}
use Rattle.trace.specs.Growth.{events, last_clock, taken_in}
use Rattle.trace.specs.Clocks.{mattern}
use Rattle.trace.proofs.Tables.{total_few, clock_read}
use Rattle.trace.proofs.Traces.{valid, clocks_as_events}
use Rattle.trace.proofs.trace.Trace.tick.Goals as goal
use Rattle.trace.proofs.trace.Trace.tick.Goals.{in-Some, in_default}

pub index-requires : goal.index-requires
index-requires c = let long = clocks_as_events c.args.self.now in search rules

pub overflow_add-clock : goal.overflow_add-clock
overflow_add-clock c = let t = c.args.self.now in omega (arith, total_few t.n (events t) (valid t) c.args.process)

pub returns : goal.returns
returns c =
    let t = c.args.self.now in
    let es = events t in
    let met : c.match-sent.clock.entries ≡ taken_in (mattern es (length es)) c.args.sent (last_clock es c.args.process) =
    elim c.match-sent.branch [
      | in-Some w ↦
          let long = clocks_as_events t in
          let at : w.in-Some.sent < length t.clocks.items = search rules in
          let read = clock_read es t.clocks.items w.in-Some.sent w.index.result.now t.clocked at w.index.ensures in
          search rules
      | in_default w ↦ search rules
    ] in
    search rules
