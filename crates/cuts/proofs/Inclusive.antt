-- What a range with its end gives, as a list. Assumes nothing.
use Rattle.std.proofs.Common.{◌≡◌, ℕ, zero, suc, ◌+◌, ◌-◌, false, List, ◌∷◌, length, None, Some, Option, refl, sym, ap, ◌∙◌, subst, ⊎_elim, arith}
use Rattle.std.specs.List.{range_with_len}
use Rattle.std.specs.Range.{range_inclusive_start, range_inclusive_end, range_inclusive_exhausted, range_inclusive_len, range_inclusive_left, range_inclusive_steps}
use Rattle.std.specs.declared.ops.RangeInclusive.{RangeInclusive}
use Rattle.std.proofs.lemmas.Bool.{cases_Bool}
use Rattle.std.proofs.lemmas.Iterator.{YieldsList}
use Rattle.std.proofs.lemmas.Iterator.Consumers.{YieldsList-from_shown}

abbrev left : RangeInclusive ℕ → ℕ
left = range_inclusive_left (λ x y. y - x)

abbrev pub steps : RangeInclusive ℕ → Option ℕ → RangeInclusive ℕ → Type 0
steps = range_inclusive_steps (λ x y. y - x) (λ x y. y ≡ x + 1)

abbrev shown : RangeInclusive ℕ → List ℕ
shown s = range_with_len (range_inclusive_start s) (left s)

one_more : (a n m : ℕ) → n + 1 ≡ m → range_with_len a m ≡ a ∷ range_with_len (a + 1) n
one_more a n zero e = absurd (omega arith)
one_more a n (suc m) e = let same : m ≡ n = omega arith in ap (λ (k : ℕ). a ∷ range_with_len (a + 1) k) same

none_left : (a b n : ℕ) → n ≡ 0 → range_with_len a n ≡ range_with_len b n
none_left a b zero e = refl
none_left a b (suc n) e = absurd (omega arith)

length_range : (a n : ℕ) → length (range_with_len a n) ≡ n
length_range a zero = refl
length_range a (suc n) = omega (arith, length_range (a + 1) n)

ends : (s t : RangeInclusive ℕ) → steps s None t → length (shown s) ≡ 0
ends s t e = length_range (range_inclusive_start s) (left s) ∙ e.1.0

goes : (s : RangeInclusive ℕ) (x : ℕ) (t : RangeInclusive ℕ) → steps s (Some x) t → shown s ≡ x ∷ shown t
goes s x t e =
    let a = range_inclusive_start s in
    let tail : range_with_len (a + 1) (left t) ≡ shown t =
    ⊎_elim
    (λ over. none_left (a + 1) (range_inclusive_start t) (left t) (ap (range_inclusive_len (λ (p q : ℕ). q - p) (range_inclusive_start t) (range_inclusive_end t)) over))
    (λ more. ap (λ (k : ℕ). range_with_len k (left t)) (sym (e.1.2 more)))
    (cases_Bool (range_inclusive_exhausted t)) in
    one_more a (left t) (left s) e.1.1 ∙ ap (λ (xs : List ℕ). a ∷ xs) tail ∙ ap (λ (k : ℕ). k ∷ shown t) (sym e.1.0)

pub YieldsList-from_inclusive : (s : RangeInclusive ℕ) (a b n : ℕ) → range_inclusive_start s ≡ a → range_inclusive_end s ≡ b → range_inclusive_exhausted s ≡ false → b - a + 1 - (a - b) ≡ n
    → YieldsList steps (λ x. x) s (range_with_len a n)
YieldsList-from_inclusive s a b n start end fresh long =
    let few : left s ≡ n =
    ap (range_inclusive_len (λ (p q : ℕ). q - p) (range_inclusive_start s) (range_inclusive_end s)) fresh ∙ ap (λ (k : ℕ). range_inclusive_end s - k + 1 - (k - range_inclusive_end s)) start
    ∙ ap (λ (k : ℕ). k - a + 1 - (a - k)) end ∙ long in
    subst (λ (xs : List ℕ). YieldsList steps (λ x. x) s xs) (ap (λ (k : ℕ). range_with_len k (left s)) start ∙ ap (range_with_len a) few) (YieldsList-from_shown steps (λ x. x) shown ends goes s)
