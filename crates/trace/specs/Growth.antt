-- A trace grows event by event. Assumes nothing.
use Rattle.std.specs.Prelude.{◌≡◌, ℕ, ◌+◌, ◌<◌, ◌≤◌, Bool, false, ◌&&◌, List, [], ◌∷◌, ◌++◌, length, IfSome, Some, None, Option, Result, MatchOption, MatchResult, OnErr, ◌==◌, ◌≢◌, nat_lt, slice_index, slice_index_or, slice_set}
use Rattle.trace.specs.declared.event.Event.{Event}
use Rattle.trace.specs.declared.event.Action.{Action}
use Rattle.trace.specs.declared.event.Action.TheVariants.{Local, Send, Receive}
use Rattle.trace.specs.declared.event.EventFault.{EventFault}
use Rattle.trace.specs.declared.event.EventFault.TheVariants.{Full, Process, Receiver, Message}
use Rattle.trace.specs.declared.clock.Clock.{Clock}
use Rattle.trace.specs.declared.trace.Trace.{Trace}
use Rattle.trace.specs.Events.{most, longest, by, does, number, total, source, Sending, Receiving}
use Rattle.trace.specs.Rules.{Valid}
use Rattle.trace.specs.Clocks.{zeros, merged, latest, mattern, clock, Knows}

-- the events of a trace, in file order
abbrev pub events : Trace → List Event
events t = t.events.items

-- a message rule that the action of process p breaks after these events
pub data BreaksMessages (es : List Event) (p : ℕ) : Action → Type 0 where
  sent_again : {to m : ℕ} → (s : Sending es) → s.message ≡ m → BreaksMessages es p (Send to m)
  unsent : {m : ℕ} → ((s : Sending es) → s.message ≢ m) → BreaksMessages es p (Receive m)
  misdirected : {m : ℕ} → (s : Sending es) → s.message ≡ m → (s.to ≢ p) → BreaksMessages es p (Receive m)
  received_again : {m : ℕ} → (r : Receiving es) → r.message ≡ m → BreaksMessages es p (Receive m)

-- a receiver that process p cannot send to
pub data NoReceiver (n p : ℕ) : Action → Type 0 where
  absent : {to m : ℕ} → n ≤ to → NoReceiver n p (Send to m)
  itself : {to m : ℕ} → to ≡ p → NoReceiver n p (Send to m)

-- why an event is refused: the rules are looked at in this order
pub data Refused (n : ℕ) (es : List Event) (ev : Event) : EventFault → Type 0 where
  full : length es ≡ longest → Refused n es ev Full
  no_process : length es < longest → n ≤ ev.process → Refused n es ev Process
  no_receiver : length es < longest → ev.process < n → NoReceiver n ev.process ev.action → Refused n es ev Receiver
  no_message : length es < longest → ev.process < n → (NoReceiver n ev.process ev.action → ⊥) → BreaksMessages es ev.process ev.action → Refused n es ev Message

-- it keeps every rule
pub record Fits (n : ℕ) (es : List Event) (ev : Event) : Type 0 where
  pub room : length es < longest
  pub process : ev.process < n
  pub receiver : NoReceiver n ev.process ev.action → ⊥
  pub messages : BreaksMessages es ev.process ev.action → ⊥

-- the place of the event that sent what an action receives
abbrev pub sent_by : List Event → Action → Option ℕ
sent_by es Local = None
sent_by es (Send to m) = None
sent_by es (Receive m) = Some (source es m)

abbrev pub Judged : Trace → Event → Result (Option ℕ) EventFault → Type 0
Judged t ev r = MatchResult r (λ sent. Fits t.n (events t) ev × (sent ≡ sent_by (events t) ev.action)) (λ e. Refused t.n (events t) ev e)

-- a place of an event, if one is given
abbrev pub Within : List Event → Option ℕ → Type 0
Within es o = IfSome o (λ e. e < length es)

-- whether an action is a send to process p
abbrev pub named_by : ℕ → Action → Bool
named_by p Local = false
named_by p (Send to m) = to == p
named_by p (Receive m) = false

-- whether the event at a place is one
abbrev pub names_at : List Event → ℕ → ℕ → Bool
names_at es e p = nat_lt e (length es) && named_by p (does es e)

-- clock c once it has taken in the clock of the event at a place, if one is given
abbrev pub taken_in : List (List ℕ) → Option ℕ → List ℕ → List ℕ
taken_in cs None c = c
taken_in cs (Some e) c = merged c (slice_index_or cs e zeros)

-- the clock of the last of these events that is of process p, zeros if there is none
abbrev pub last_clock : List Event → ℕ → List ℕ
last_clock es p = latest es (mattern es (length es)) p (length es)

-- the clock of the event after these, if it is of process p and receives what the event at a place sent
abbrev pub ticked : List Event → ℕ → Option ℕ → List ℕ
ticked es p sent = slice_set (taken_in (mattern es (length es)) sent (last_clock es p)) p (total es p + 1)

-- an event is taken, and the trace keeps the rules with it; or it is refused, since it would break one, and nothing changes
pub record Pushed (t : Trace) (ev : Event) (r : Result (Unit {0}) EventFault) (u : Trace) : Type 0 where
  pub outcome : MatchResult r (λ _. (u.n ≡ t.n) × (events u ≡ events t ++ ev ∷ []) × Valid u.n (events u)) (λ e. Refused t.n (events t) ev e × (u ≡ t))
  pub exactly : Valid t.n (events t ++ ev ∷ []) → OnErr r (⊥)

-- no events; the number of processes given, or refused above 16, and then nothing changes
pub record Begun (n : ℕ) (t : Trace) (r : Result (Unit {0}) EventFault) (u : Trace) : Type 0 where
  pub outcome : MatchResult r (λ _. (n ≤ most) × (u.n ≡ n) × (events u ≡ [])) (λ e. (most < n) × (e ≡ Process) × (u ≡ t))

-- c is the clock of event e: by Mattern's rule, and so that each entry counts what happened before
pub record ClockOf (t : Trace) (e : ℕ) (c : Clock) : Type 0 where
  pub within : e < length (events t)
  pub rule : c.entries ≡ clock (events t) e
  pub counts : (j : ℕ) → j < t.n → Knows (events t) e j (slice_index c.entries j)

-- the clock of event e, if there is such an event
abbrev pub ClockAt : Trace → ℕ → Option Clock → Type 0
ClockAt t e r = MatchOption r (length (events t) ≤ e) (λ c. ClockOf t e c)

-- the place of the h-th event of process i, if it has so many
abbrev pub NthAt : Trace → ℕ → ℕ → Option ℕ → Type 0
NthAt t i h r = MatchOption r ((1 ≤ h) → (h ≤ total (events t) i) → ⊥) (λ e. (e < length (events t)) × (by (events t) e ≡ i) × (number (events t) e ≡ h))

-- the place of the event that sends message m, or that receives it, if there is one
abbrev pub SenderAt : Trace → ℕ → Option ℕ → Type 0
SenderAt t m r = MatchOption r ((s : Sending (events t)) → s.message ≢ m) (λ e. (e ≡ source (events t) m) × ((s : Sending (events t)) × (s.message ≡ m) × (s.at ≡ e)))

abbrev pub ReceiverAt : Trace → ℕ → Option ℕ → Type 0
ReceiverAt t m r = MatchOption r ((q : Receiving (events t)) → q.message ≢ m) (λ e. (q : Receiving (events t)) × (q.message ≡ m) × (q.at ≡ e))
