-- Fields that are taken off a body: their bytes, how one is broken, and what several take. Assumes nothing.
use Rattle.std.proofs.Common.{◌≡◌, ℕ, ◌+◌, ◌-◌, ◌*◌, ◌/◌, ◌^◌, ◌<◌, List, [], ◌∷◌, ◌++◌, length, get_or, Bool, true, false, Result, Ok, Err, MatchResult, refl, sym, ap, ◌∙◌, subst, ap₂, arith}
use Rattle.std.specs.Bool.{then_some}
use Rattle.std.specs.Option.{ok_or}
use Rattle.std.specs.Result.{IsErrAnd}
use Rattle.std.proofs.lemmas.Result.{err_from_is_err_and}
use Rattle.std.proofs.lemmas.Nat.{pow_pos, be_bytes_2}
use Rattle.std.proofs.Math.Nat.{div-lt_iff_lt-mul}
use Rattle.refusal.specs.declared.Layer.TheVariants.{Job}
use Rattle.refusal.specs.declared.Refusal.{Refusal}
use Rattle.wire.specs.Bytes.{word2}
use Rattle.wire.specs.declared.reader.Reader.{Reader}
use Rattle.refusal.specs.declared.Rule.TheVariants as rule
use Rattle.refusal.specs.Table.{row}
use Rattle.wire.specs.Parts.{Reads, FieldBroken, missing, range}
use Rattle.wire.proofs.Words.{word2_number}
use Rattle.wire.proofs.Reading.{one_byte, byte_first}
use Rattle.jobfile.specs.declared.fault.JobFault.{JobFault as Fault}
use Rattle.jobfile.specs.declared.fault.JobFault.TheVariants as JobFault
use Rattle.jobfile.specs.Table.{Word}
use Rattle.jobfile.specs.Fields.{job_row, Bytes, Took}

-- lists of two bytes to four
two_bytes : (s : List ℕ) → length s ≡ 2 → s ≡ get_or s 0 0 ∷ get_or s 1 0 ∷ []
two_bytes [] e = absurd (omega arith)
two_bytes (x ∷ s) e = ap (◌∷◌ x) (one_byte s (omega arith))

three_bytes : (s : List ℕ) → length s ≡ 3 → s ≡ get_or s 0 0 ∷ get_or s 1 0 ∷ get_or s 2 0 ∷ []
three_bytes [] e = absurd (omega arith)
three_bytes (x ∷ s) e = ap (◌∷◌ x) (two_bytes s (omega arith))

four_bytes : (s : List ℕ) → length s ≡ 4 → s ≡ get_or s 0 0 ∷ get_or s 1 0 ∷ get_or s 2 0 ∷ get_or s 3 0 ∷ []
four_bytes [] e = absurd (omega arith)
four_bytes (x ∷ s) e = ap (◌∷◌ x) (three_bytes s (omega arith))

-- the numbers of taken bytes stand first
pub first_byte : {part : List ℕ} {before left : Reader} → Bytes 1 part × Took part before left → before.rest.now ≡ get_or part 0 0 ∷ left.rest.now
first_byte {part} {before} {left} read = byte_first before.rest.now part left.rest.now (read.0.long, read.1.is)

first_word : {part : List ℕ} {before left : Reader} (v : ℕ) → Bytes 2 part × Took part before left → v ≡ get_or part 0 0 * 256 + get_or part 1 0 → before.rest.now ≡ word2 v ++ left.rest.now
first_word {part} {left = left} v read at = read.1.is ∙ ap (λ z. z ++ left.rest.now) (sym (be_bytes_2 part v read.0.long read.0.small (omega arith)))

module _ (s part t : List ℕ) (is : s ≡ part ++ t) where
  pub first_words : (v w : ℕ) → length part ≡ 4 → ((k : ℕ) → get_or part k 0 < 256) → v ≡ get_or part 0 0 * 256 + get_or part 1 0 → w ≡ get_or part 2 0 * 256 + get_or part 3 0 → s ≡ (word2 v ++ word2 w) ++ t
  first_words v w long small at next =
      let p = word2_number (get_or part 0 0) (get_or part 1 0) v (small 0) (small 1) (omega arith) in
      let q = word2_number (get_or part 2 0) (get_or part 3 0) w (small 2) (small 3) (omega arith) in
      is ∙ ap (λ z. z ++ t) (four_bytes part long) ∙ sym (ap₂ (λ y z. (y ++ z) ++ t) p q)

-- how a field is broken, with the place of the fault
module _ {A : Type 0} (width : ℕ) (Fits : A → Type 0) (bytes : A → List ℕ) (Range : A → Type 0) (total : ℕ) (s : List ℕ) where
  pub missing_as : {r : Refusal} → (length s < width) × (r ≡ row rule.Missing total Job) → FieldBroken width Fits bytes Range total s r
  missing_as short = rw short.1 (missing short.0)

  pub range_at : (p : ℕ) (a : A) (t : List ℕ) → p ≡ total - length s → Fits a → s ≡ bytes a ++ t → (Range a → ⊥) → FieldBroken width Fits bytes Range total s (row rule.Field p Job)
  range_at p a t at fits is out = rw at (range a t fits is out)

-- a field of one number, by the test of its range
pub ranged : (width : ℕ) (Fits : ℕ → Type 0) (bytes : ℕ → List ℕ) (Range : ℕ → Type 0) (before left : Reader) (p v : ℕ) (good : Bool) →
    p ≡ before.total - length before.rest.now → Fits v → before.rest.now ≡ bytes v ++ left.rest.now → left.total ≡ before.total → (good ≡ true → Range v) → (good ≡ false → Range v → ⊥) →
    Reads (λ k. Fits k × Range k) bytes (FieldBroken width Fits bytes Range) (λ k. k) job_row before (ok_or (then_some good v) (JobFault.Field p)) left
ranged width Fits bytes Range before left p v true at fits is total within out = ((fits, within refl), is, total)
ranged width Fits bytes Range before left p v false at fits is total within out = range_at width Fits bytes Range before.total before.rest.now p v left.rest.now at fits is (out refl)

-- such a field in two bytes, by any test
pub ranged_word : (test : ℕ → Bool → Type 0) {part : List ℕ} {before left : Reader} (p v : ℕ) (good : Bool) →
    p ≡ before.total - length before.rest.now → Bytes 2 part × Took part before left → v ≡ get_or part 0 0 * 256 + get_or part 1 0 → test v good →
    Reads (λ k. Word k × test k true) word2 (FieldBroken 2 Word word2 (λ k. test k false → ⊥)) (λ k. k) job_row before (ok_or (then_some good v) (JobFault.Field p)) left
ranged_word test {part} {before} {left} p v true place read at tested =
    ((omega (arith, at, read.0.small 0, read.0.small 1), tested), first_word v read at, read.1.total)
ranged_word test {part} {before} {left} p v false place read at tested =
    range_at 2 Word word2 (λ k. test k false → ⊥) before.total before.rest.now p v left.rest.now place (omega (arith, at, read.0.small 0, read.0.small 1)) (first_word v read at) (λ never. never tested)

-- the range that such a test decides
module _ (Passed Failed Range : ℕ → Type 0) (within : (k : ℕ) → Word k → Passed k → Range k) (out : (k : ℕ) → Word k → Failed k → Range k → ⊥) where
  broken_range : {total : ℕ} {s : List ℕ} {r : Refusal} → FieldBroken 2 Word word2 (λ k. Failed k → ⊥) total s r → FieldBroken 2 Word word2 Range total s r
  broken_range (missing short) = missing short
  broken_range (range k t fits is fails) = range k t fits is (λ good. fails (λ failed. out k fits failed good))

  pub by_test : (before left : Reader) (r : Result ℕ Fault) →
      Reads (λ k. Word k × Passed k) word2 (FieldBroken 2 Word word2 (λ k. Failed k → ⊥)) (λ k. k) job_row before r left →
      Reads (λ k. Word k × Range k) word2 (FieldBroken 2 Word word2 Range) (λ k. k) job_row before r left
  by_test before left (Ok k) ((fits, tested), is, total) = ((fits, within k fits tested), is, total)
  by_test before left (Err e) broken = broken_range broken

-- a number without bits at k or above
pub within_bits : (x k : ℕ) → x / 2 ^ k ≡ 0 → x < 2 ^ k
within_bits x k none = omega (arith, (div-lt_iff_lt-mul {x = x} {y = 1} (pow_pos k)).0 (omega arith))

-- what the exit of a `?` returns
pub err_exit : {V E : Type 0} (r : Result V E) {e : E} (P : V → Type 0) (Q : E → Type 0) → IsErrAnd r (λ d. d ≡ e) → Q e → MatchResult r P Q
err_exit r P Q is known =
    let p = err_from_is_err_and r is in
    rw (p.1, p.2) known

-- an error put in place of another
pub mapped_err : {V E D : Type 0} (r : Result V E) (m : Result V D) (Post : E → D → Type 0) (P : V → Type 0) (Q : E → Type 0) (R : D → Type 0) →
    MatchResult r P Q → MatchResult r (λ x. m ≡ Ok x) (λ e. IsErrAnd m (Post e)) → ((e : E) (d : D) → Q e → Post e d → R d) → MatchResult m P R
mapped_err (Ok x) m Post P Q R known is then = subst (λ z. MatchResult z P R) (sym is) known
mapped_err (Err e) m Post P Q R known is then =
    let (d, at, post) = err_from_is_err_and m is in
    subst (λ z. MatchResult z P R) (sym at) (then e d known post)
