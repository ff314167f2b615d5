-- What a trace keeps of its rules, and what its tables hold beside its events. Assumes nothing.
use Rattle.std.specs.Prelude.{◌≡◌, ℕ, ◌-◌, ◌<◌, ◌≤◌, ◌≢◌, Bool, true, false, ◌&&◌, List, [], map, length, ◌==◌, slice_index, slice_index_or}
use Rattle.std.specs.Global.{Vec}
use Rattle.trace.specs.declared.event.Event.{Event}
use Rattle.trace.specs.declared.event.Action.{Action}
use Rattle.trace.specs.declared.event.Action.TheVariants.{Local, Send, Receive}
use Rattle.trace.specs.declared.clock.Clock.{Clock}
use Rattle.trace.specs.declared.trace.Ends.{Ends}
use Rattle.trace.specs.Events.{most, longest, by, does, number, total, sends, source, Sending, Receiving}

-- the entries of each clock
abbrev pub rows : List Clock → List (List ℕ)
rows = map (λ c. c.entries)

-- for each process, the places of its events
abbrev pub listed : List (Vec ℕ) → List (List ℕ)
listed = map (λ v. v.items)

-- the table has the place of each event: that of the h-th event of process i is the h-th in the list of i
abbrev pub Indexed : List Event → List (List ℕ) → Type 0
Indexed es places = (e : ℕ) → e < length es → slice_index (slice_index_or places (by es e) []) (number es e - 1) ≡ e

-- the table has, by message number, the place of each event whose action passes the test; of other numbers it says nothing
abbrev pub Finds : (ℕ → Action → Bool) → List Event → List ℕ → Type 0
Finds test es table = (e m : ℕ) → e < length es → test m (does es e) ≡ true → slice_index table m ≡ e

-- the table of messages as two: where each is sent, and where it is received
abbrev pub sent_at : List Ends → List ℕ
sent_at = map (λ m. m.sent)

abbrev pub received_at : List Ends → List ℕ
received_at = map (λ m. m.received)

-- whether an action receives message m
abbrev pub receives : ℕ → Action → Bool
receives m Local = false
receives m (Send to k) = false
receives m (Receive k) = k == m

-- what the tables have: the places of each process are those of its events, and messages are found where they are sent and received
pub record Tabled (es : List Event) (places : List (List ℕ)) (messages : List Ends) : Type 0 where
  pub counted : (i : ℕ) → i < most → length (slice_index_or places i []) ≡ total es i
  pub indexed : Indexed es places
  pub sent : Finds sends es (sent_at messages)
  pub received : Finds receives es (received_at messages)

-- whether an action sends message m to process p
abbrev pub sends_to : ℕ → ℕ → Action → Bool
sends_to p m Local = false
sends_to p m (Send to k) = to == p && k == m
sends_to p m (Receive k) = false

-- each message that is received was sent earlier in the file, to the process that receives it
abbrev pub Answers : List Event → (ℕ → ℕ) → Type 0
Answers es from = (r : Receiving es) → (from r.message < r.at) × (sends_to (by es r.at) r.message (does es (from r.message)) ≡ true)

-- the rules of a trace, as `Valid` has them, in the form that a trace keeps: it names no sending event, so it has one proof at most
pub record KeepsRules (n : ℕ) (es : List Event) : Type 0 where
  pub short : length es ≤ longest
  pub process : (e : ℕ) → e < length es → by es e < n
  pub receiver : (s : Sending es) → s.to < n
  pub other : (s : Sending es) → s.to ≢ by es s.at
  pub sent_once : (s t : Sending es) → s.message ≡ t.message → s.at ≡ t.at
  pub received_once : (r q : Receiving es) → r.message ≡ q.message → r.at ≡ q.at
  pub answers : Answers es (source es)
