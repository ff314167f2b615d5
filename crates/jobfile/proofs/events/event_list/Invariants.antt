use Rattle.jobfile.specs.Fields.{EventsRead}
use Rattle.jobfile.proofs.events.event_list.Given as goal

abbrev pub invariant-loop : goal.invariant-loop
invariant-loop l = EventsRead l.counter l.initial.reader l.reader l.initial.job l.job
