-- The two sides of a channel, as the code walks them. Assumes nothing.
use Rattle.std.specs.Prelude.{ℕ, Bool, ◌&&◌, List, length, Some, None, Option, ◌==◌, nat_lt}
use Rattle.lattice.specs.declared.condition.Reply.{Reply}
use Rattle.lattice.specs.declared.condition.Reply.TheVariants.{Lift, Never}
use Rattle.trace.specs.Events.{by, source}
use Rattle.trace.specs.declared.event.Event.{Event}
use Rattle.trace.specs.declared.event.Action.{Action}
use Rattle.cuts.specs.declared.channel.Side.{Side}
use Rattle.cuts.specs.declared.channel.Way.{Way}
use Rattle.cuts.specs.declared.channel.Way.TheVariants.{To, From}
use Rattle.cuts.specs.Channels.{to_process, from_process, tally}

abbrev pub asked : List Event → Way → ℕ → Action → Bool
asked es To p = to_process p
asked es From p = from_process es p

-- whether an action is on the side
abbrev pub asks : List Event → Side → Action → Bool
asks es s = asked es s.way s.other

-- how many of the first h events of the side's process are on it
abbrev pub tallied : List Event → Side → ℕ → ℕ
tallied es s = tally es (asks es s) s.place

-- whether process p sent message m
abbrev pub sent_from : List Event → ℕ → ℕ → Bool
sent_from es m p = nat_lt (source es m) (length es) && by es (source es m) == p

abbrev pub lift_or : ℕ → Option ℕ → Reply
lift_or p None = Never
lift_or p (Some q) = Lift (p, q)
