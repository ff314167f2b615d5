-- What a search of a list finds, by the places of its items. Assumes nothing.
use Rattle.std.proofs.Common.{◌≡◌, ℕ, ◌+◌, ◌-◌, ◌<◌, ◌≤◌, Bool, true, false, List, length, get_or, map, take, None, Some, Option, MatchOption, MatchBool, refl, sym, ap, ◌∙◌, subst, arith}
use Rattle.std.specs.List.{range_with_len, enumerate_from, zip, AllWithin, HoldsAt}
use Rattle.std.proofs.lemmas.Slice.Zip.{length-zip, get_or-zip}
use Rattle.std.proofs.lemmas.List.FromFn.{length-map-range_with_len, get_or-map-range_with_len, length-enumerate_from, get_or-enumerate_from}
use Rattle.std.proofs.lemmas.List.{length-take-le, get_or-take, get_or_default}
use Rattle.lattice.specs.First.{some}
use Rattle.lattice.proofs.First.{some_true, some_false}

-- a search by place of a list whose items are known by their places
module _ {X : Type 0} (n : ℕ) (all : List X) (item : ℕ → X) (long : length all ≡ n) (reads : (k : ℕ) → k < n → get_or all k (item k) ≡ item k) where
  -- whether some item passes
  pub any_item : (test : X → Bool) (r : Bool)
      → MatchBool r ((k : ℕ) × (k < length all) × HoldsAt (λ x. test x ≡ true) all k) (AllWithin (λ x. test x ≡ false) all 0 (length all))
      → r ≡ some (λ k. test (item k)) n
  any_item test true f =
      let lt : f.0 < n = omega (arith, f.1) in
      sym (some_true (λ k. test (item k)) n f.0 lt (subst (λ (x : X). test x ≡ true) (reads f.0 lt) (f.2 (item f.0))))
  any_item test false none =
      sym (some_false (λ k. test (item k)) n (λ k lt. subst (λ (x : X). test x ≡ false) (reads k lt) (none k (item k) (omega arith) (omega arith))))

  -- the place of the first that does
  pub first_item : (Yes No : X → Type 0) (r : Option ℕ)
      → MatchOption r (AllWithin No all 0 (length all)) (λ i. (i < length all) × HoldsAt Yes all i × AllWithin No all 0 i)
      → MatchOption r ((k : ℕ) → k < n → No (item k)) (λ i. (i < n) × Yes (item i) × ((k : ℕ) → k < i → No (item k)))
  first_item Yes No None none = λ k lt. subst No (reads k lt) (none k (item k) (omega arith) (omega arith))
  first_item Yes No (Some i) f =
      let here : i < n = omega (arith, f.0) in
      (here, subst Yes (reads i here) (f.1 (item i)), λ k lt. subst No (reads k (omega arith)) (f.2 k (item k) (omega arith) lt))

-- the first heights of a vector, each with its place
module _ (n : ℕ) (hs : List ℕ) (fits : n ≤ length hs) where
  abbrev pub numbered : List (ℕ × ℕ)
  numbered = enumerate_from 0 (take n hs)

  pub length_numbered : length numbered ≡ n
  length_numbered = length-enumerate_from 0 (take n hs) ∙ length-take-le n hs fits

  pub get_numbered : (k : ℕ) → k < n → get_or numbered k (k, get_or hs k 0) ≡ (k, get_or hs k 0)
  get_numbered k lt =
      let from : 0 + k ≡ k = omega arith in
      get_or-enumerate_from 0 (take n hs) k (k, get_or hs k 0) (omega (arith, length-take-le n hs fits))
      ∙ ap (λ (x : ℕ). (x, get_or (take n hs) k (get_or hs k 0))) from
      ∙ ap (λ (x : ℕ). (k, x)) (get_or-take n hs k (get_or hs k 0) lt ∙ get_or_default hs k (get_or hs k 0) 0 (omega arith))

-- the numbers one above those of a range
abbrev pub above : ℕ → ℕ → List ℕ
above a n = map (λ k. k + 1) (range_with_len a n)

length_above : (a n : ℕ) → length (above a n) ≡ n
length_above a n = length-map-range_with_len (λ k. k + 1) a n

at_above : (a n k : ℕ) → k < n → get_or (above a n) k 0 ≡ a + k + 1
at_above a n k lt = get_or-map-range_with_len (λ k. k + 1) a n k (a + k) 0 lt refl

-- one of them that is passed over by place fails the test by value
passed_over : (test : ℕ → Bool) (a n m q : ℕ) → a < q → q ≤ a + m → m ≤ n → AllWithin (λ x. test x ≡ false) (above a n) 0 m → test q ≡ false
passed_over test a n m q low high fits none =
    let is : get_or (above a n) (q - (a + 1)) 0 ≡ q = at_above a n (q - (a + 1)) (omega arith) ∙ omega arith in
    subst (λ (x : ℕ). test x ≡ false) is (none (q - (a + 1)) 0 (omega arith) (omega arith))

-- the first of them that passes a test
pub first_above : (test : ℕ → Bool) (a n : ℕ) (r : Option ℕ)
    → MatchOption r (AllWithin (λ x. test x ≡ false) (above a n) 0 (length (above a n)))
    (λ x. (test x ≡ true) × (k : ℕ) × (k < length (above a n)) × HoldsAt (λ y. y ≡ x) (above a n) k × AllWithin (λ y. test y ≡ false) (above a n) 0 k)
    → MatchOption r ((q : ℕ) → a < q → q ≤ a + n → test q ≡ false) (λ x. (a < x) × (x ≤ a + n) × (test x ≡ true) × ((q : ℕ) → a < q → q < x → test q ≡ false))
first_above test a n None none = λ q low high. passed_over test a n n q low high (omega arith) (subst (λ (m : ℕ). AllWithin (λ x. test x ≡ false) (above a n) 0 m) (length_above a n) none)
first_above test a n (Some x) f =
    let k = f.1 in
    let lt : k < n = omega (arith, f.2, length_above a n) in
    let is : x ≡ a + k + 1 = sym (f.3 0) ∙ at_above a n k lt in
    (omega arith, omega arith, f.0, λ q low high. passed_over test a n k q low (omega arith) (omega arith) f.4)

-- the first heights of a vector, each with the entry at its place
module _ (n : ℕ) (hs entries : List ℕ) (fits : n ≤ length hs) (fit : n ≤ length entries) where
  abbrev pub beside : List (ℕ × ℕ)
  beside = zip (take n hs) entries

  pub length_beside : length beside ≡ n
  length_beside = omega (arith, length-zip (take n hs) entries, length-take-le n hs fits)

  pub get_beside : (k : ℕ) → k < n → get_or beside k (get_or hs k 0, get_or entries k 0) ≡ (get_or hs k 0, get_or entries k 0)
  get_beside k lt =
      get_or-zip (take n hs) entries k (get_or hs k 0, get_or entries k 0) (omega (arith, length-take-le n hs fits)) (omega arith)
      ∙ ap (λ (x : ℕ). (x, get_or entries k (get_or entries k 0))) (get_or-take n hs k (get_or hs k 0) lt ∙ get_or_default hs k (get_or hs k 0) 0 (omega arith))
      ∙ ap (λ (x : ℕ). (get_or hs k 0, x)) (get_or_default entries k (get_or entries k 0) 0 (omega arith))
