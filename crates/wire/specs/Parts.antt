-- The parts of a file in their order, and what is refused. A relation that says how a part is broken is given what is left
-- of the file from the part's first byte on, and answers with a row of the table. Assumes nothing.
use Rattle.std.specs.Prelude.{◌≡◌, ℕ, ◌-◌, ◌<◌, List, ◌++◌, length, Result, MatchResult}
use Rattle.std.specs.List.{flat_map}
use Rattle.refusal.specs.declared.Layer.TheVariants.{Job}
use Rattle.refusal.specs.declared.Refusal.{Refusal}
use Rattle.refusal.specs.declared.Rule.TheVariants as rule
use Rattle.refusal.specs.Table.{row}
use Rattle.wire.specs.declared.reader.Reader.{Reader}

-- checks in their order: this one is broken and its row is given, or it is kept and a later one is broken
pub data Checks (Kept : Type 0) (r : Refusal) (Later : Refusal → Type 0) : Refusal → Type 0 where
  broken : (Kept → ⊥) → Checks Kept r Later r
  kept : {q : Refusal} → Kept → Later q → Checks Kept r Later q

-- a part is broken; or it was read well, the bytes of a good value stand there, and what follows them is broken
pub data Then {A : Type 0} (Good : A → Type 0) (bytes : A → List ℕ) (Broken : List ℕ → Refusal → Type 0) (After : A → List ℕ → Refusal → Type 0) (s : List ℕ) (r : Refusal) : Type 0 where
  here : Broken s r → Then Good bytes Broken After s r
  after : (a : A) (t : List ℕ) → Good a → s ≡ bytes a ++ t → After a t r → Then Good bytes Broken After s r

-- of so many parts some were read well, and the next is broken
pub data Each {A : Type 0} (count : ℕ) (Good : List A → Type 0) (bytes : A → List ℕ) (Broken : List A → List ℕ → Refusal → Type 0) (s : List ℕ) (r : Refusal) : Type 0 where
  next : (xs : List A) (t : List ℕ) → length xs < count → Good xs → s ≡ flat_map bytes xs ++ t → Broken xs t r → Each count Good bytes Broken s r

-- a field outside records: one of its bytes is missing, or they are those of a value out of range
pub data FieldBroken {A : Type 0} (width : ℕ) (Fits : A → Type 0) (bytes : A → List ℕ) (Range : A → Type 0) (total : ℕ) (s : List ℕ) : Refusal → Type 0 where
  missing : length s < width → FieldBroken width Fits bytes Range total s (row rule.Missing total Job)
  range : (a : A) (t : List ℕ) → Fits a → s ≡ bytes a ++ t → (Range a → ⊥) → FieldBroken width Fits bytes Range total s (row rule.Field (total - length s) Job)

-- a part is read: the bytes of a good value stood there, and what follows them is left; or it is broken
abbrev pub Reads : {V X A : Type 0} → (A → Type 0) → (A → List ℕ) → (ℕ → List ℕ → Refusal → Type 0) → (V → A) → (X → Refusal) → Reader → Result V X → Reader → Type 0
Reads Good bytes Broken value refusal before r left =
    MatchResult r
    (λ v. Good (value v) × (before.rest.now ≡ bytes (value v) ++ left.rest.now) × (left.total ≡ before.total))
    (λ e. Broken before.total before.rest.now (refusal e))
