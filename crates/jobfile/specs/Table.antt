-- The table of refusals: which rule a file breaks first, in the order of checks, at which byte and in which layer. Assumes nothing.
use Rattle.std.specs.Prelude.{◌≡◌, ℕ, ◌-◌, ◌^◌, ◌<◌, ◌≤◌, cond, ◌⊎◌, List, [], ◌∷◌, ◌++◌, length, ◌==◌, ◌≢◌}
use Rattle.std.specs.List.{flat_map, AllByRecursion}
use Rattle.refusal.specs.declared.Layer.TheVariants.{Record, Job}
use Rattle.refusal.specs.declared.Refusal.{Refusal}
use Rattle.refusal.specs.declared.Rule.TheVariants as rule
use Rattle.refusal.specs.Table.{row}
use Rattle.payload.specs.declared.wish.Wish.{Wish}
use Rattle.payload.specs.Marks.{width_of}
use Rattle.trace.specs.declared.event.Event.{Event}
use Rattle.trace.specs.Events.{longest}
use Rattle.trace.specs.Growth.{BreaksMessages}
use Rattle.wire.specs.Bytes.{word2}
use Rattle.wire.specs.Parts.{Then, Each, FieldBroken}
use Rattle.wire.specs.Frames.{trace_letter, gates_letter, Framed, FrameBroken, Behind}
use Rattle.wire.specs.Records.{RecordBroken}
use Rattle.jobfile.specs.Forms.{Form, letter_of, size_of, code_letter, scan_letter, kind_letter, wish_bytes, channel_bytes, event_bytes, row_bytes, body_of, WishFits, ChannelOk, EventOk, EventsOk, RowOk, Rules}

-- what fits into one byte, and a field of it with a range and what follows it
abbrev pub Byte : ℕ → Type 0
Byte v = v < 256

abbrev pub byte_of : ℕ → List ℕ
byte_of v = v ∷ []

abbrev pub ByteThen : (ℕ → Type 0) → ℕ → (ℕ → List ℕ → Refusal → Type 0) → List ℕ → Refusal → Type 0
ByteThen Range total After = Then (λ v. Byte v × Range v) byte_of (FieldBroken 1 Byte byte_of Range total) After

-- the same with two bytes
abbrev pub Word : ℕ → Type 0
Word v = v < 65536

abbrev pub WordThen : (ℕ → Type 0) → ℕ → (ℕ → List ℕ → Refusal → Type 0) → List ℕ → Refusal → Type 0
WordThen Range total After = Then (λ v. Word v × Range v) word2 (FieldBroken 2 Word word2 Range total) After

-- a list of so many parts, and what follows it
abbrev pub ListThen : {A : Type 0} → ℕ → (List A → Type 0) → (A → List ℕ) → (List A → List ℕ → Refusal → Type 0) → (List A → List ℕ → Refusal → Type 0) → List ℕ → Refusal → Type 0
ListThen count Good bytes Broken After = Then (λ xs. (length xs ≡ count) × Good xs) (flat_map bytes) (Each count Good bytes Broken) After

-- the payload letters, and how wide a payload is
abbrev pub IsKind : ℕ → Type 0
IsKind letter = (letter ≡ code_letter) ⊎ (letter ≡ scan_letter)

abbrev pub kind_width : ℕ → ℕ
kind_width letter = cond (letter == code_letter) 1 4

-- a wish of the kind that the letter names; every number is in its range
abbrev pub WishOf : ℕ → Wish → Type 0
WishOf letter wish = (kind_letter wish ≡ letter) × WishFits wish

abbrev pub WishThen : ℕ → ℕ → (Wish → List ℕ → Refusal → Type 0) → List ℕ → Refusal → Type 0
WishThen letter total After = Then (λ w. WishOf letter w × Unit {0}) wish_bytes (FieldBroken (kind_width letter) (WishOf letter) wish_bytes (λ _. Unit {0}) total) After

-- a channel is two fields: the sender below n, and the receiver below n and not the sender
abbrev pub IsReceiver : ℕ → ℕ → ℕ → Type 0
IsReceiver n sender receiver = (receiver < n) × (receiver ≢ sender)

abbrev pub ChannelBroken : ℕ → ℕ → List ℕ → Refusal → Type 0
ChannelBroken n total = ByteThen (λ sender. sender < n) total (λ sender. FieldBroken 1 Byte byte_of (IsReceiver n sender) total)

-- an event is broken after those before it: its record is, or it keeps its own rules and breaks one of messages
pub data EventBroken (n width total : ℕ) (es : List Event) (s : List ℕ) : Refusal → Type 0 where
  itself : {r : Refusal} → RecordBroken total n width s r → EventBroken n width total es s r
  message : (e : Event) (t : List ℕ) → s ≡ event_bytes width e ++ t → EventOk n width e → BreaksMessages es e.process e.action → EventBroken n width total es s (row rule.Message (total - length s) Job)

-- the body of a trace job, in file order
abbrev pub TraceBroken : ℕ → ℕ → List ℕ → Refusal → Type 0
TraceBroken n total =
    ByteThen IsKind total λ letter.
    WordThen (λ watch. watch < 2 ^ n) total λ watch.
    WishThen letter total λ wish.
    ByteThen (λ count. count ≤ 8) total λ count.
    ListThen count (AllByRecursion (ChannelOk n)) channel_bytes (λ _. ChannelBroken n total) λ channels.
    WordThen (λ many. many ≤ longest) total λ many.
    Each many (EventsOk n (width_of wish)) (event_bytes (width_of wish)) (EventBroken n (width_of wish) total)

-- a row of n bytes is not there, or is no order of the numbers below n
pub data RowBroken (n total : ℕ) (s : List ℕ) : Refusal → Type 0 where
  missing : length s < n → RowBroken n total s (row rule.Missing total Record)
  no_order : (list t : List ℕ) → length list ≡ n → s ≡ list ++ t → (RowOk n list → ⊥) → RowBroken n total s (row rule.Row (total - length s) Record)

-- n rows for the vans, and then n for the gates
abbrev pub RowsBroken : ℕ → ℕ → List ℕ → Refusal → Type 0
RowsBroken n total = Each n (AllByRecursion (RowOk n)) row_bytes (λ _. RowBroken n total)

abbrev pub GatesBroken : ℕ → ℕ → List ℕ → Refusal → Type 0
GatesBroken n total = ListThen n (AllByRecursion (RowOk n)) row_bytes (λ _. RowBroken n total) (λ vans. RowsBroken n total)

-- a file is broken: its frame, or after a good frame its body, or bytes stand behind a body of which all is good
pub data Broken (file : List ℕ) : Refusal → Type 0 where
  frame : {r : Refusal} → FrameBroken file r → Broken file r
  trace : {r : Refusal} (n : ℕ) (body : List ℕ) → Framed file trace_letter n body → TraceBroken n (length file) body r → Broken file r
  gates : {r : Refusal} (n : ℕ) (body : List ℕ) → Framed file gates_letter n body → GatesBroken n (length file) body r → Broken file r
  behind : {r : Refusal} (form : Form) (t : List ℕ) → Framed file (letter_of form) (size_of form) (body_of form ++ t) → Rules form → Behind (length file) t r → Broken file r
