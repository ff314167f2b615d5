-- A trace of two processes: 0 sends message 7 to 1, which has an event before it receives the message and one after. Assumes nothing.
use Rattle.std.specs.Prelude.{ℕ, List, [], ◌∷◌, refl}
use Rattle.lattice.specs.declared.vector.Vector.{Vector}
use Rattle.lattice.specs.declared.condition.Reply.{Reply}
use Rattle.lattice.specs.Order.{at}
use Rattle.lattice.specs.Replies.{joined}
use Rattle.payload.specs.declared.wish.Wish.{Wish}
use Rattle.trace.specs.declared.event.Event.{Event}
use Rattle.trace.specs.declared.event.Action.{Action}
use Rattle.trace.specs.declared.event.Action.TheVariants.{Local, Send, Receive}
use Rattle.cuts.specs.declared.channel.Channel.{Channel}
use Rattle.cuts.specs.Consistent.{consistent_reply}
use Rattle.cuts.specs.Watched.{watched_reply}
use Rattle.cuts.specs.Channels.{channels_reply}

-- an event with a code for its payload
abbrev coded : ℕ → Action → ℕ → Event
coded process action code = record { process = process; action = action; payload = code ∷ 0 ∷ 0 ∷ 0 ∷ []; four = refl }

abbrev pub sample : List Event
sample = coded 0 (Send 1 7) 5 ∷ coded 1 Local 5 ∷ coded 1 (Receive 7) 2 ∷ coded 1 Local 5 ∷ []

-- the channel from 0 to 1
abbrev pub link : Channel
link = record { sender = 0; receiver = 1 }

-- the replies of consistent paired with the pair of watched, both processes being watched, and channels
abbrev pub replies : Wish → List Channel → Vector → Reply
replies wish cs v = joined (consistent_reply 2 sample (at v)) (joined (watched_reply 2 sample wish 3 (at v)) (channels_reply 2 sample cs (at v)))
