-- Jobs as values, which of them are well formed, and the bytes that a job file has for each. Assumes nothing.
use Rattle.std.specs.Prelude.{◌≡◌, ℕ, ◌+◌, ◌^◌, ◌<◌, ◌≤◌, Option, None, Some, List, [], ◌∷◌, ◌++◌, length, take, ◌≢◌, slice_index}
use Rattle.std.specs.List.{flat_map, AllByRecursion}
use Rattle.gates.specs.Orders.{OrderOf}
use Rattle.payload.specs.declared.wish.Wish.{Wish}
use Rattle.payload.specs.declared.wish.Wish.TheVariants.{Code, Scan}
use Rattle.payload.specs.Marks.{width_of}
use Rattle.trace.specs.declared.event.Event.{Event}
use Rattle.trace.specs.declared.event.Action.{Action}
use Rattle.trace.specs.declared.event.Action.TheVariants.{Local, Send, Receive}
use Rattle.trace.specs.Rules.{Valid}
use Rattle.cuts.specs.declared.channel.Channel.{Channel}
use Rattle.cuts.specs.Jobs.{padded}
use Rattle.wire.specs.Bytes.{word2}
use Rattle.wire.specs.declared.frame.JobKind.{JobKind}
use Rattle.wire.specs.Frames.{trace_letter, gates_letter, job_letter, headed, largest, most}
use Rattle.wire.specs.Records.{Raw, local, send, receive, sized_record, OwnRules}

-- the letters of a job: T for a trace, M for gates, and - for a blank one
abbrev pub blank_letter : ℕ
blank_letter = 45

abbrev pub letter_by : Option JobKind → ℕ
letter_by (Some kind) = job_letter kind
letter_by None = blank_letter

pub data Form : Type 0 where
  -- n, the watch bits, the wish, the channels and the events
  trace : ℕ → ℕ → Wish → List Channel → List Event → Form
  -- n, the vans' orders and the gates'
  gates : ℕ → List (List ℕ) → List (List ℕ) → Form

abbrev pub letter_of : Form → ℕ
letter_of (trace n watch wish channels events) = trace_letter
letter_of (gates n vans rows) = gates_letter

abbrev pub size_of : Form → ℕ
size_of (trace n watch wish channels events) = n
size_of (gates n vans rows) = n

-- the payload letters, K for codes and C for scans, and the bytes of a wish
abbrev pub code_letter : ℕ
code_letter = 75

abbrev pub scan_letter : ℕ
scan_letter = 67

abbrev pub kind_letter : Wish → ℕ
kind_letter (Code c) = code_letter
kind_letter (Scan s) = scan_letter

abbrev pub wish_bytes : Wish → List ℕ
wish_bytes (Code c) = c ∷ []
wish_bytes (Scan s) = word2 s.stop ++ word2 s.parcels

abbrev pub channel_bytes : Channel → List ℕ
channel_bytes c = c.sender ∷ c.receiver ∷ []

-- the record of a process, a payload and an action
abbrev pub record_with : ℕ → List ℕ → Action → Raw
record_with p x Local = local p x
record_with p x (Send to m) = send p to m x
record_with p x (Receive m) = receive p m x

-- the record of an event whose payload has so many bytes
abbrev pub record_of : ℕ → Event → Raw
record_of width e = record_with e.process (take width e.payload) e.action

abbrev pub event_bytes : ℕ → Event → List ℕ
event_bytes width e = sized_record (record_of width e)

-- payload letter, watch bits, wish, number of channels, channels, number of events, events
abbrev pub trace_bytes : ℕ → Wish → List Channel → List Event → List ℕ
trace_bytes watch wish channels events =
    (kind_letter wish ∷ []) ++ (word2 watch ++ (wish_bytes wish
    ++ ((length channels ∷ []) ++ (flat_map channel_bytes channels
    ++ (word2 (length events) ++ flat_map (event_bytes (width_of wish)) events)))))

-- a row is its own bytes
abbrev pub row_bytes : List ℕ → List ℕ
row_bytes row = row

abbrev pub body_of : Form → List ℕ
body_of (trace n watch wish channels events) = trace_bytes watch wish channels events
body_of (gates n vans rows) = flat_map row_bytes vans ++ flat_map row_bytes rows

-- the file of a job
abbrev pub encoded : Form → List ℕ
encoded form = headed (7 + length (body_of form)) (letter_of form) (size_of form) (body_of form)

-- the numbers of a wish fit into its bytes
abbrev pub WishFits : Wish → Type 0
WishFits (Code c) = c < 256
WishFits (Scan s) = (s.stop < 65536) × (s.parcels < 65536)

-- a channel between two of the processes
abbrev pub ChannelOk : ℕ → Channel → Type 0
ChannelOk n c = (c.sender < n) × (c.receiver < n) × (c.receiver ≢ c.sender)

-- an event that keeps its own rules, with zeros behind its payload
abbrev pub EventOk : ℕ → ℕ → Event → Type 0
EventOk n width e = OwnRules n width (record_of width e) × (e.payload ≡ padded (take width e.payload))

-- events that keep their own rules and those of messages
abbrev pub EventsOk : ℕ → ℕ → List Event → Type 0
EventsOk n width es = Valid n es × AllByRecursion (EventOk n width) es

pub record TraceRules (n watch : ℕ) (wish : Wish) (channels : List Channel) (events : List Event) : Type 0 where
  -- no watch bit at n or above
  pub bits : watch < 2 ^ n
  pub wished : WishFits wish
  pub few : length channels ≤ 8
  pub between : AllByRecursion (ChannelOk n) channels
  pub happened : EventsOk n (width_of wish) events

-- a row is an order of the numbers below n, and there are n of them
abbrev pub RowOk : ℕ → List ℕ → Type 0
RowOk n row = OrderOf n row

abbrev pub RowsOk : ℕ → List (List ℕ) → Type 0
RowsOk n rows = (length rows ≡ n) × AllByRecursion (RowOk n) rows

abbrev pub Rules : Form → Type 0
Rules (trace n watch wish channels events) = TraceRules n watch wish channels events
Rules (gates n vans rows) = RowsOk n vans × RowsOk n rows

pub record WellFormed (form : Form) : Type 0 where
  pub some : 1 ≤ size_of form
  pub few : size_of form ≤ most (letter_of form)
  pub rules : Rules form
  pub short : length (encoded form) ≤ largest
  -- its file is one of bytes
  pub bytes : (k : ℕ) → slice_index (encoded form) k < 256
