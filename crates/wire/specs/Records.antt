-- Records: events, as long as their payload is a part of the file, and the bytes of rows. Assumes nothing.
use Rattle.std.specs.Prelude.{◌≡◌, ℕ, ◌-◌, ◌<◌, List, ◌∷◌, ◌++◌, length, ◌≢◌}
use Rattle.refusal.specs.declared.Layer.TheVariants.{Record}
use Rattle.refusal.specs.declared.Refusal.{Refusal}
use Rattle.refusal.specs.declared.Rule.TheVariants as rule
use Rattle.refusal.specs.Table.{row}
use Rattle.wire.specs.declared.record.Record.{Record as TheRecord}
use Rattle.wire.specs.declared.record.Record.TheVariants as records
use Rattle.wire.specs.declared.record.RecordFault.{RecordFault}
use Rattle.wire.specs.declared.record.RecordFault.TheVariants as fault
use Rattle.wire.specs.Bytes.{word2}

-- what an event's record says
pub data Raw : Type 0 where
  local : (process : ℕ) (payload : List ℕ) → Raw
  send : (process to message : ℕ) (payload : List ℕ) → Raw
  receive : (process message : ℕ) (payload : List ℕ) → Raw

abbrev pub raw_of : TheRecord → Raw
raw_of (records.Local p x) = local p x.now
raw_of (records.Send p to m x) = send p to m x.now
raw_of (records.Receive p m x) = receive p m x.now

-- process, letter, for a send the receiver and the message number, for a receive the message number, and then the payload
abbrev pub record_bytes : Raw → List ℕ
record_bytes (local p x) = p ∷ 76 ∷ x
record_bytes (send p to m x) = p ∷ 83 ∷ to ∷ word2 m ++ x
record_bytes (receive p m x) = p ∷ 82 ∷ word2 m ++ x

-- a record behind its length
abbrev pub sized : List ℕ → List ℕ
sized body = length body ∷ body

abbrev pub sized_record : Raw → List ℕ
sized_record raw = sized (record_bytes raw)

-- an event's own rules: a process, and for a send another one as its receiver; a payload of the width
abbrev pub OwnRules : ℕ → ℕ → Raw → Type 0
OwnRules n width (local p x) = (p < n) × (length x ≡ width)
OwnRules n width (send p to m x) = (p < n) × (to < n) × (to ≢ p) × (m < 65536) × (length x ≡ width)
OwnRules n width (receive p m x) = (p < n) × (m < 65536) × (length x ≡ width)

-- a record is broken: its length is missing, or the record ends beyond the file, or it is none that keeps its own rules
pub data RecordBroken (total n width : ℕ) (s : List ℕ) : Refusal → Type 0 where
  no_length : length s ≡ 0 → RecordBroken total n width s (row rule.Missing total Record)
  cut_short : (size : ℕ) (t : List ℕ) → s ≡ size ∷ t → length t < size → RecordBroken total n width s (row rule.Missing total Record)
  no_event : (body t : List ℕ) → s ≡ sized body ++ t → ((raw : Raw) → OwnRules n width raw → body ≢ record_bytes raw) → RecordBroken total n width s (row rule.Event (total - length s) Record)

-- a row of n bytes is not there
pub data RowShort (total n : ℕ) (s : List ℕ) : Refusal → Type 0 where
  missing : length s < n → RowShort total n s (row rule.Missing total Record)

-- each fault of a record as its row
abbrev pub record_row : RecordFault → Refusal
record_row (fault.Missing p) = row rule.Missing p Record
record_row (fault.Event p) = row rule.Event p Record
record_row (fault.Row p) = row rule.Row p Record
