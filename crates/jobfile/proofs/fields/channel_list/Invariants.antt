use Rattle.jobfile.specs.Fields.{ChannelsRead}
use Rattle.jobfile.proofs.fields.channel_list.Given as goal

-- so many channels are read
abbrev pub invariant-loop : goal.invariant-loop
invariant-loop l = ChannelsRead l.counter l.initial.reader l.reader l.initial.job l.job
