-- A part that is read in one way: no two values, not both a value and a refusal, no two refusals. Assumes nothing.
use Rattle.std.proofs.Common.{◌≡◌, ℕ, ◌<◌, List, ◌++◌, length, sym, refl, ap, ◌∙◌, subst, subst₂, arith, length-append}
use Rattle.refusal.specs.declared.Refusal.{Refusal}
use Rattle.wire.specs.Parts.{Checks, broken, kept, Then, here, after, FieldBroken, missing, range}
use Rattle.wire.proofs.Words.{split_same}

pub record OneWay {A : Type 0} (Good : A → Type 0) (bytes : A → List ℕ) (Broken : List ℕ → Refusal → Type 0) : Type 0 where
  pub one_value : {s t u : List ℕ} {a b : A} → Good a → s ≡ bytes a ++ t → Good b → s ≡ bytes b ++ u → (a ≡ b) × (t ≡ u)
  pub not_both : {s : List ℕ} (t : List ℕ) {a : A} {r : Refusal} → Good a → s ≡ bytes a ++ t → Broken s r → ⊥
  pub one_refusal : {s : List ℕ} {r q : Refusal} → Broken s r → Broken s q → r ≡ q

-- a field of one width, whose bytes tell its values apart
module _ {A : Type 0} (width : ℕ) (Fits : A → Type 0) (bytes : A → List ℕ) (Range : A → Type 0) (total : ℕ) where
  module _ (long : (a : A) → Fits a → length (bytes a) ≡ width) (one : (a b : A) → Fits a → Fits b → bytes a ≡ bytes b → a ≡ b) where
    same : {s : List ℕ} (t u : List ℕ) {a b : A} → Fits a → s ≡ bytes a ++ t → Fits b → s ≡ bytes b ++ u → (a ≡ b) × (t ≡ u)
    same t u {a} {b} fa ea fb eb =
        let (bytes_same, rest) = split_same (bytes a) (bytes b) t u (omega (arith, long a fa, long b fb)) (sym ea ∙ eb) in
        (one a b fa fb bytes_same, rest)

    not_short : {s : List ℕ} (t : List ℕ) {a : A} → Fits a → s ≡ bytes a ++ t → length s < width → ⊥
    not_short t {a} fa ea short = omega (arith, long a fa, ap length ea, length-append (bytes a) t)

    field_not_both : {s : List ℕ} (t : List ℕ) {a : A} {r : Refusal} → Fits a → Range a → s ≡ bytes a ++ t → FieldBroken width Fits bytes Range total s r → ⊥
    field_not_both t fa ra ea (missing short) = not_short t fa ea short
    field_not_both t fa ra ea (range b u fb eb out) = out (subst Range (same t u fa ea fb eb).0 ra)

    field_one_refusal : {s : List ℕ} {r q : Refusal} → FieldBroken width Fits bytes Range total s r → FieldBroken width Fits bytes Range total s q → r ≡ q
    field_one_refusal (missing h) (missing k) = refl
    field_one_refusal (missing h) (range b u fb eb out) = absurd (not_short u fb eb h)
    field_one_refusal (range b u fb eb out) (missing h) = absurd (not_short u fb eb h)
    field_one_refusal (range b u fb eb out) (range a t fa ea off) = refl

    pub field_one_way : OneWay (λ a. Fits a × Range a) bytes (FieldBroken width Fits bytes Range total)
    field_one_way = record {
      one_value = λ {s} {t} {u} ga ea gb eb. same t u ga.0 ea gb.0 eb;
      not_both = λ t ga ea x. field_not_both t ga.0 ga.1 ea x;
      one_refusal = λ x y. field_one_refusal x y;
    }

-- a part, and what follows it
module _ {A : Type 0} {Good : A → Type 0} {bytes : A → List ℕ} {Broken : List ℕ → Refusal → Type 0} {After : A → List ℕ → Refusal → Type 0} (one : OneWay Good bytes Broken) where
  pub then_not_both : {s : List ℕ} (t : List ℕ) {a : A} {r : Refusal} → Good a → s ≡ bytes a ++ t → (After a t r → ⊥) → Then Good bytes Broken After s r → ⊥
  then_not_both t ga ea none (here x) = one.not_both t ga ea x
  then_not_both t {r = r} ga ea none (after b u gb eb x) =
      let (value, rest) = one.one_value gb eb ga ea in
      none (subst₂ (λ c l. After c l r) value rest x)

  pub then_one_refusal : ((a : A) → Good a → (t : List ℕ) (r q : Refusal) → After a t r → After a t q → r ≡ q) →
      {s : List ℕ} {r q : Refusal} → Then Good bytes Broken After s r → Then Good bytes Broken After s q → r ≡ q
  then_one_refusal later (here x) (here y) = one.one_refusal x y
  then_one_refusal later (here x) (after a t ga ea y) = absurd (one.not_both t ga ea x)
  then_one_refusal later (after a t ga ea y) (here x) = absurd (one.not_both t ga ea x)
  then_one_refusal later {s} {r} {q} (after a t ga ea x) (after b u gb eb y) =
      let (value, rest) = one.one_value ga ea gb eb in
      later b gb u r q (subst₂ (λ c l. After c l r) value rest x) y

pub checks_one : {Kept : Type 0} {Later : Refusal → Type 0} {r p q : Refusal} → ((a b : Refusal) → Later a → Later b → a ≡ b) → Checks Kept r Later p → Checks Kept r Later q → p ≡ q
checks_one later (broken denied) (broken other) = refl
checks_one later (broken denied) (kept k y) = absurd (denied k)
checks_one later (kept k x) (broken denied) = absurd (denied k)
checks_one {p = p} {q = q} later (kept k x) (kept l y) = later p q x y
