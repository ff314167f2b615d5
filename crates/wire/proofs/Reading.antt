-- What the functions that read a file need: its end, a record behind its length, and a row. Assumes nothing.
use Rattle.std.proofs.Common.{◌≡◌, ℕ, ◌-◌, ◌<◌, ◌≤◌, List, [], ◌∷◌, ◌++◌, length, get_or, take, drop, sym, refl, ap, ◌∙◌, arith, Option, None, Some, Result, Err, MatchOption}
use Rattle.std.specs.Borrow.{Bor}
use Rattle.std.specs.Option.{ok_or}
use Rattle.std.proofs.lemmas.List.{take_all, nil_from_length}
use Rattle.refusal.specs.declared.Layer.TheVariants.{Frame, Record}
use Rattle.refusal.specs.declared.Rule.TheVariants as rule
use Rattle.refusal.specs.Table.{row}
use Rattle.wire.specs.declared.reader.Reader.{Reader}
use Rattle.wire.specs.declared.record.RecordFault.TheVariants as RecordFault
use Rattle.wire.specs.Parts.{Reads}
use Rattle.wire.specs.Frames.{Behind, behind}
use Rattle.wire.specs.Records.{Raw, local, send, receive, record_bytes, sized_record, OwnRules, RecordBroken, record_row, no_length, cut_short, no_event, RowShort, missing}

-- where a value must be there and is not, the fault is that of its absence
pub absent : {T E : Type 0} (o : Option T) {fault e : E} {r : Result T E} → r ≡ ok_or o fault → r ≡ Err e → (o ≡ None) × (e ≡ fault)
absent None value err = (refl, grind arith)
absent (Some x) value err = absurd (grind arith)

-- something is left behind the body, from this place on
pub behind_at : (total : ℕ) (s : List ℕ) (p : ℕ) → 0 < length s → p ≡ total - length s → Behind total s (row rule.Behind p Frame)
behind_at total s p some at = rw at (behind some)

-- so many bytes x were taken from s, and t is left
abbrev pub Taken : List ℕ → ℕ → List ℕ → List ℕ → Type 0
Taken s count x t = (length x ≡ count) × (s ≡ x ++ t)

-- one byte
pub one_byte : (s : List ℕ) → length s ≡ 1 → s ≡ get_or s 0 0 ∷ []
one_byte [] e = absurd (omega arith)
one_byte (x ∷ s) e = ap (◌∷◌ x) (nil_from_length s (omega arith))

-- the taken byte stands first
pub byte_first : (s size t : List ℕ) → Taken s 1 size t → s ≡ get_or size 0 0 ∷ t
byte_first s size t taken = taken.1 ∙ ap (λ z. z ++ t) (one_byte size taken.0)

-- a body begins with a process and a letter
pub headed_by : (body : List ℕ) (letter : ℕ) → 2 ≤ length body → letter ≡ get_or body 1 0 → body ≡ get_or body 0 0 ∷ letter ∷ take (length body - 2) (drop 2 body)
headed_by [] letter long at = absurd (omega arith)
headed_by (x ∷ []) letter long at = absurd (omega arith)
headed_by (x ∷ y ∷ s) letter long at = rw at (ap (λ z. x ∷ y ∷ z) (sym (take_all (length (x ∷ y ∷ s) - 2) s (omega arith))))

-- nothing is left for the length of a record
pub no_length_at : (total n width : ℕ) (s : List ℕ) (p : ℕ) → length s < 1 → p ≡ total → RecordBroken total n width s (row rule.Missing p Record)
no_length_at total n width s p short at = rw at (no_length (omega arith))

module _ (s size t : List ℕ) (one : Taken s 1 size t) where
  -- less is left than the record's length says
  pub cut_short_at : (total n width p : ℕ) → length t < get_or size 0 0 → p ≡ total → RecordBroken total n width s (row rule.Missing p Record)
  cut_short_at total n width p short at = rw at (cut_short (get_or size 0 0) t (byte_first s size t one) short)

  module _ (body u : List ℕ) (whole : Taken t (get_or size 0 0) body u) where
    -- what was taken is the record behind its length
    behind_length : s ≡ length body ∷ body ++ u
    behind_length = byte_first s size t one ∙ ap (λ z. z ∷ t) (sym whole.0) ∙ ap (◌∷◌ (length body)) whole.1

    -- it is no event
    pub no_event_at : (total n width p : ℕ) → p ≡ total - length s → ((raw : Raw) → OwnRules n width raw → body ≡ record_bytes raw → ⊥) → RecordBroken total n width s (row rule.Event p Record)
    no_event_at total n width p at none = rw at (no_event body u behind_length none)

    -- it is this event
    pub event_at : (raw : Raw) → body ≡ record_bytes raw → s ≡ sized_record raw ++ u
    event_at raw same = behind_length ∙ ap (λ z. length z ∷ z ++ u) same

-- an event's record has a process and a letter, so what is shorter is none
pub too_short : (n width : ℕ) (body : List ℕ) → length body < 2 → (raw : Raw) → OwnRules n width raw → body ≡ record_bytes raw → ⊥
too_short n width body short (local p x) own is = omega (arith, ap length is)
too_short n width body short (send p to m x) own is = omega (arith, ap length is)
too_short n width body short (receive p m x) own is = omega (arith, ap length is)

-- less is left than a row's bytes
pub row_short_at : (total n : ℕ) (s : List ℕ) (p : ℕ) → length s < n → p ≡ total → RowShort total n s (row rule.Missing p Record)
row_short_at total n s p short at = rw at (missing short)

-- a row is read if its bytes are there
pub row_read : (n : ℕ) (before left : Reader) (taken : Option (Bor (List ℕ))) (p : ℕ) →
    MatchOption taken ((length before.rest.now < n) × (left ≡ before)) (λ x. Taken before.rest.now n x.now left.rest.now) → left.total ≡ before.total → p ≡ before.total →
    Reads (λ list. length list ≡ n) (λ list. list) (λ total. RowShort total n) (λ x. x.now) record_row before (ok_or taken (RecordFault.Missing p)) left
row_read n before left None p known same at = row_short_at before.total n before.rest.now p known.0 at
row_read n before left (Some x) p known same at = (known.0, known.1, same)
