-- The faults of the job reader as rows, and what its steps take off a body and where they put it. Assumes nothing.
use Rattle.std.specs.Prelude.{◌≡◌, ℕ, ◌<◌, List, [], ◌∷◌, ◌++◌, length, Result, MatchResult, ◌≢◌, slice_index}
use Rattle.std.specs.List.{flat_map, AllByRecursion}
use Rattle.refusal.specs.declared.Layer.TheVariants.{Job}
use Rattle.refusal.specs.declared.Refusal.{Refusal}
use Rattle.refusal.specs.declared.Rule.TheVariants as rule
use Rattle.refusal.specs.Table.{row}
use Rattle.gates.specs.declared.gates.Gates.{Gates}
use Rattle.gates.specs.declared.order.Order.{Order}
use Rattle.gates.specs.declared.side.Side.{Side}
use Rattle.gates.specs.Orders.{number_at}
use Rattle.gates.specs.Gates.{sides, rows_of, table_of, other_of}
use Rattle.payload.specs.Marks.{width_of}
use Rattle.trace.specs.declared.event.Event.{Event}
use Rattle.trace.specs.Rules.{Valid}
use Rattle.cuts.specs.declared.channel.Channel.{Channel}
use Rattle.cuts.specs.declared.job.TraceJob.{TraceJob}
use Rattle.cuts.specs.Jobs.{processes, happened, listed}
use Rattle.wire.specs.declared.reader.Reader.{Reader}
use Rattle.wire.specs.Frames.{frame_row}
use Rattle.wire.specs.Records.{record_row}
use Rattle.jobfile.specs.declared.fault.JobFault.{JobFault}
use Rattle.jobfile.specs.declared.fault.JobFault.TheVariants as fault
use Rattle.jobfile.specs.declared.fields.Kind.{Kind}
use Rattle.jobfile.specs.declared.fields.Kind.TheVariants as kinds
use Rattle.jobfile.specs.Forms.{code_letter, scan_letter, channel_bytes, event_bytes, trace_bytes, row_bytes, ChannelOk, EventOk, EventsOk, TraceRules, RowOk, RowsOk}

-- each fault of the job reader as its row: those of the layers below are theirs
abbrev pub job_row : JobFault → Refusal
job_row (fault.Frame e) = frame_row e
job_row (fault.Record e) = record_row e
job_row (fault.Missing p) = row rule.Missing p Job
job_row (fault.Field p) = row rule.Field p Job
job_row (fault.Message p) = row rule.Message p Job

-- the letter of a kind of payload
abbrev pub letter_of_kind : Kind → ℕ
letter_of_kind kinds.Code = code_letter
letter_of_kind kinds.Scan = scan_letter

-- these bytes are taken, and what follows them is left
pub record Took (bytes : List ℕ) (before left : Reader) : Type 0 where
  pub is : before.rest.now ≡ bytes ++ left.rest.now
  pub total : left.total ≡ before.total

-- so many bytes
pub record Bytes (width : ℕ) (bytes : List ℕ) : Type 0 where
  pub long : length bytes ≡ width
  pub small : (k : ℕ) → slice_index bytes k < 256

-- so many bytes are taken, or they are not there
abbrev pub Short : ℕ → Reader → JobFault → Type 0
Short width before e = (length before.rest.now < width) × (job_row e ≡ row rule.Missing before.total Job)

abbrev pub BytesRead : ℕ → Reader → Result (List ℕ) JobFault → Reader → Type 0
BytesRead width before r left = MatchResult r (λ bytes. Bytes width bytes × Took bytes before left) (λ e. Short width before e)

-- the wish that so many bytes state
pub record PayloadRead {W : Type 0} (wide : ℕ) (stated : List ℕ → W) (wish : W) (before left : Reader) : Type 0 where
  pub part : List ℕ
  pub long : length part ≡ wide
  pub bytes : (k : ℕ) → slice_index part k < 256
  pub says : wish ≡ stated part
  pub took : Took part before left

-- the trace job is another in its channels alone, or in its events alone
pub record SameButChannels (j k : TraceJob) : Type 0 where
  pub trace : k.trace ≡ j.trace
  pub wish : k.wish ≡ j.wish
  pub watch : k.watch ≡ j.watch

pub record SameButEvents (j k : TraceJob) : Type 0 where
  pub processes : processes k ≡ processes j
  pub wish : k.wish ≡ j.wish
  pub watch : k.watch ≡ j.watch
  pub channels : k.channels ≡ j.channels

-- one channel more
pub record ChannelRead (before left : Reader) (j k : TraceJob) : Type 0 where
  pub channel : Channel
  pub ok : ChannelOk (processes j) channel
  pub took : Took (channel_bytes channel) before left
  pub list : listed k ≡ listed j ++ channel ∷ []
  pub same : SameButChannels j k

-- so many channels, where there were none
pub record ChannelsRead (count : ℕ) (before left : Reader) (j k : TraceJob) : Type 0 where
  pub many : length (listed k) ≡ count
  pub ok : AllByRecursion (ChannelOk (processes j)) (listed k)
  pub took : Took (flat_map channel_bytes (listed k)) before left
  pub same : SameButChannels j k

-- one event more
pub record EventRead (before left : Reader) (j k : TraceJob) : Type 0 where
  pub event : Event
  pub ok : EventOk (processes j) (width_of j.wish) event
  pub valid : Valid (processes k) (happened k)
  pub took : Took (event_bytes (width_of j.wish) event) before left
  pub list : happened k ≡ happened j ++ event ∷ []
  pub same : SameButEvents j k

-- so many events, where there were none
pub record EventsRead (count : ℕ) (before left : Reader) (j k : TraceJob) : Type 0 where
  pub many : length (happened k) ≡ count
  pub ok : EventsOk (processes j) (width_of j.wish) (happened k)
  pub took : Took (flat_map (event_bytes (width_of j.wish)) (happened k)) before left
  pub same : SameButEvents j k

-- the whole body of a trace job
pub record TraceRead (n : ℕ) (before left : Reader) (k : TraceJob) : Type 0 where
  pub count : processes k ≡ n
  pub rules : TraceRules n k.watch k.wish (listed k) (happened k)
  pub took : Took (trace_bytes k.watch k.wish (listed k) (happened k)) before left

-- row i of a side
pub record RowRead (s : Side) (i : ℕ) (before left : Reader) (g h : Gates) : Type 0 where
  pub list : List ℕ
  pub order : RowOk (sides g).n list
  pub took : Took list before left
  pub here : (p : ℕ) → p < (sides g).n → number_at (rows_of (table_of s h)) i p ≡ slice_index list p
  pub others : (k p : ℕ) → (k ≢ i) → number_at (rows_of (table_of s h)) k p ≡ number_at (rows_of (table_of s g)) k p
  pub count : (sides h).n ≡ (sides g).n
  pub other : other_of s h ≡ other_of s g

-- the rows stand in a table
abbrev pub Stand : ℕ → List (List ℕ) → List Order → Type 0
Stand n list table = (i p : ℕ) → i < n → p < n → number_at (rows_of table) i p ≡ number_at list i p

-- all rows of a side
pub record RowsRead (s : Side) (before left : Reader) (g h : Gates) : Type 0 where
  pub rows : List (List ℕ)
  pub ok : RowsOk (sides g).n rows
  pub took : Took (flat_map row_bytes rows) before left
  pub stand : Stand (sides g).n rows (table_of s h)
  pub count : (sides h).n ≡ (sides g).n
  pub other : other_of s h ≡ other_of s g

-- the whole body of a gates job
pub record GatesRead (n : ℕ) (before left : Reader) (h : Gates) : Type 0 where
  pub vans : List (List ℕ)
  pub gates : List (List ℕ)
  pub ok : RowsOk n vans × RowsOk n gates
  pub took : Took (flat_map row_bytes vans ++ flat_map row_bytes gates) before left
  pub count : (sides h).n ≡ n
  pub stand : Stand n vans h.vans × Stand n gates h.gates
