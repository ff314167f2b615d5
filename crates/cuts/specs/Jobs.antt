-- Trace jobs, and what their public calls say. Assumes nothing.
use Rattle.std.specs.Prelude.{◌≡◌, ℕ, ◌^◌, ◌<◌, ◌≤◌, List, [], ◌∷◌, ◌++◌, length, take, replicate, vec_items, Option, Result, MatchOption, MatchResult, OnErr, ◌≢◌}
use Rattle.lattice.specs.declared.vector.Vector.{Vector}
use Rattle.lattice.specs.declared.condition.Reply.{Reply}
use Rattle.lattice.specs.declared.condition.Reply.TheVariants.{Holds}
use Rattle.lattice.specs.Order.{at}
use Rattle.lattice.specs.Laws.{Lawful}
use Rattle.payload.specs.declared.wish.Wish.{Wish}
use Rattle.payload.specs.declared.wish.Wish.TheVariants.{Code}
use Rattle.payload.specs.Marks.{width_of}
use Rattle.trace.specs.declared.event.Event.{Event}
use Rattle.trace.specs.declared.event.Action.{Action}
use Rattle.trace.specs.declared.event.EventFault.{EventFault}
use Rattle.trace.specs.Events.{most}
use Rattle.trace.specs.Rules.{Valid}
use Rattle.trace.specs.Growth.{events, Refused}
use Rattle.cuts.specs.declared.channel.Channel.{Channel}
use Rattle.cuts.specs.declared.fault.JobFault.{JobFault}
use Rattle.cuts.specs.declared.fault.JobFault.TheVariants.{Processes, Watch, Channels, Sender, Receiver, Payload, Event as Refuses}
use Rattle.cuts.specs.declared.job.TraceJob.{TraceJob}
use Rattle.cuts.specs.Consistent as consistent
use Rattle.cuts.specs.Watched as watched
use Rattle.cuts.specs.Channels as channels

abbrev pub processes : TraceJob → ℕ
processes j = j.trace.n

abbrev pub happened : TraceJob → List Event
happened j = events j.trace

abbrev pub listed : TraceJob → List Channel
listed j = vec_items j.channels

-- the three conditions of a job, and their replies
abbrev pub Consistent : TraceJob → Vector → Type 0
Consistent j v = consistent.Consistent (processes j) (happened j) (at v)

abbrev pub consistent_reply : TraceJob → Vector → Reply
consistent_reply j v = consistent.consistent_reply (processes j) (happened j) (at v)

abbrev pub ConsistentSays : TraceJob → Vector → Reply → Type 0
ConsistentSays j v = consistent.ConsistentSays (processes j) (happened j) (at v)

abbrev pub Watched : TraceJob → Vector → Type 0
Watched j v = watched.Watched (processes j) (happened j) j.wish j.watch (at v)

abbrev pub watched_reply : TraceJob → Vector → Reply
watched_reply j v = watched.watched_reply (processes j) (happened j) j.wish j.watch (at v)

abbrev pub WatchedSays : TraceJob → Vector → Reply → Type 0
WatchedSays j v = watched.WatchedSays (processes j) (happened j) j.wish j.watch (at v)

abbrev pub Empty : TraceJob → Vector → Type 0
Empty j v = channels.Channels (processes j) (happened j) (listed j) (at v)

abbrev pub channels_reply : TraceJob → Vector → Reply
channels_reply j v = channels.channels_reply (processes j) (happened j) (listed j) (at v)

abbrev pub ChannelsSays : TraceJob → Vector → Reply → Type 0
ChannelsSays j v = channels.ChannelsSays (processes j) (happened j) (listed j) (at v)

-- a blank job
pub record Blank (j : TraceJob) : Type 0 where
  pub wish : j.wish ≡ Code 0
  pub watch : j.watch ≡ 0
  pub processes : processes j ≡ 0
  pub events : happened j ≡ []
  pub channels : listed j ≡ []

-- why a start is refused
pub data BadStart (n watch : ℕ) : JobFault → Type 0 where
  too_many : most < n → BadStart n watch Processes
  no_bit : n ≤ most → 2 ^ n ≤ watch → BadStart n watch Watch

-- begun anew with so many processes, watch bits and wish, without channels and events; refused above 16, or for a bit at n or above
abbrev pub Begun : ℕ → ℕ → Wish → TraceJob → Result (Unit {0}) JobFault → TraceJob → Type 0
Begun n watch wish j r k =
    MatchResult r
    (λ _. (n ≤ most) × (watch < 2 ^ n) × (processes k ≡ n) × (k.watch ≡ watch) × (k.wish ≡ wish) × (listed k ≡ []) × (happened k ≡ []))
    (λ e. BadStart n watch e × (k ≡ j))

-- why a channel is refused
pub data BadChannel (n : ℕ) (cs : List Channel) (sender receiver : ℕ) : JobFault → Type 0 where
  full : length cs ≡ 8 → BadChannel n cs sender receiver Channels
  no_sender : length cs < 8 → n ≤ sender → BadChannel n cs sender receiver Sender
  no_receiver : length cs < 8 → sender < n → n ≤ receiver → BadChannel n cs sender receiver Receiver
  itself : length cs < 8 → sender < n → receiver ≡ sender → BadChannel n cs sender receiver Receiver

-- a channel that there is room for, between two of the processes
pub record GoodChannel (n : ℕ) (cs : List Channel) (sender receiver : ℕ) : Type 0 where
  pub room : length cs < 8
  pub sends : sender < n
  pub receives : receiver < n
  pub apart : receiver ≡ sender → ⊥

-- one channel more, or refused and nothing changed
abbrev pub Listed : ℕ → ℕ → TraceJob → Result (Unit {0}) JobFault → TraceJob → Type 0
Listed sender receiver j r k =
    MatchResult r
    (λ _. GoodChannel (processes j) (listed j) sender receiver × (listed k ≡ listed j ++ record { sender = sender; receiver = receiver } ∷ []) × (k.trace ≡ j.trace) × (k.wish ≡ j.wish) × (k.watch ≡ j.watch))
    (λ e. BadChannel (processes j) (listed j) sender receiver e × (k ≡ j))

-- a payload in the first of four bytes
abbrev pub padded : List ℕ → List ℕ
padded part = take 4 (part ++ replicate 4 0)

-- why an event is refused: the payload's width is looked at first
pub data BadEvent (j : TraceJob) (part : List ℕ) (ev : Event) : JobFault → Type 0 where
  no_payload : (length part ≢ width_of j.wish) → BadEvent j part ev Payload
  refused : {e : EventFault} → length part ≡ width_of j.wish → Refused (processes j) (happened j) ev e → BadEvent j part ev (Refuses e)

-- the event of a process, an action and a payload
pub record EventOf (process : ℕ) (action : Action) (part : List ℕ) (ev : Event) : Type 0 where
  pub process_is : ev.process ≡ process
  pub action_is : ev.action ≡ action
  pub payload_is : ev.payload ≡ padded part

-- an event with its payload is taken, exactly when the trace keeps its rules with it; or it is refused and nothing changed
pub record Recorded (process : ℕ) (action : Action) (part : List ℕ) (j : TraceJob) (r : Result (Unit {0}) JobFault) (k : TraceJob) : Type 0 where
  pub event : Event
  pub is : EventOf process action part event
  pub outcome : MatchResult r
      (λ _. (length part ≡ width_of j.wish) × Valid (processes k) (happened k) × (happened k ≡ happened j ++ event ∷ []) × (processes k ≡ processes j) × (k.wish ≡ j.wish) × (k.watch ≡ j.watch) × (k.channels ≡ j.channels))
      (λ e. BadEvent j part event e × (k ≡ j))
  pub exactly : length part ≡ width_of j.wish → Valid (processes j) (happened j ++ event ∷ []) → OnErr r (⊥)

-- the least wanted height of a process above a height, if there is one
abbrev pub NextWanted : TraceJob → ℕ → ℕ → Option ℕ → Type 0
NextWanted j i h r =
    MatchOption r ((k : ℕ) → h < k → watched.Wanted (happened j) j.wish i k → ⊥)
    (λ q. (h < q) × watched.Wanted (happened j) j.wish i q × ((k : ℕ) → h < k → k < q → watched.Wanted (happened j) j.wish i k → ⊥))

-- laws of the three conditions
pub record TraceLaws (j : TraceJob) : Type 0 where
  -- the replies keep the laws of every condition
  pub consistent_lawful : Lawful (Consistent j) (consistent_reply j)
  pub watched_lawful : Lawful (Watched j) (watched_reply j)
  pub channels_lawful : Lawful (Empty j) (channels_reply j)
  -- the reply to each vector is what the words say
  pub consistent_says : (v : Vector) → ConsistentSays j v (consistent_reply j v)
  pub watched_says : (v : Vector) → WatchedSays j v (watched_reply j v)
  pub channels_says : (v : Vector) → ChannelsSays j v (channels_reply j v)
  -- and the words leave no other
  pub consistent_only : (v : Vector) (r : Reply) → ConsistentSays j v r → consistent_reply j v ≡ r
  pub watched_only : (v : Vector) (r : Reply) → WatchedSays j v r → watched_reply j v ≡ r
  pub channels_only : (v : Vector) (r : Reply) → ChannelsSays j v r → channels_reply j v ≡ r
  -- places from n on are free
  pub consistent_free : (v w : Vector) → ((i : ℕ) → i < processes j → at v i ≡ at w i) → consistent_reply j v ≡ consistent_reply j w
  pub watched_free : (v w : Vector) → ((i : ℕ) → i < processes j → at v i ≡ at w i) → watched_reply j v ≡ watched_reply j w
  pub channels_free : (v w : Vector) → ((i : ℕ) → i < processes j → at v i ≡ at w i) → channels_reply j v ≡ channels_reply j w
  -- without processes each holds on every vector
  pub blank : processes j ≡ 0 → (v : Vector) → (consistent_reply j v ≡ Holds) × (watched_reply j v ≡ Holds) × (channels_reply j v ≡ Holds)
