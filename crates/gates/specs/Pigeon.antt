-- n numbers below n, no two alike, are all of them. Assumes nothing.
use Rattle.std.specs.List.{All, AllByRecursion, IsDistinct, list_any, range_with_len}
use Rattle.std.proofs.Common.{◌≡◌, ℕ, ◌<◌, ◌≢◌, List, ◌∷◌, length, map, get_or, eqb, true, false, sym, ◌∙◌, arith}
use Rattle.std.proofs.lemmas.Bool.{eqb-true, ne_eqb}
use Rattle.std.proofs.lemmas.List.Elements.{All-cons, recursion_from_All}
use Rattle.std.proofs.lemmas.List.Folds.{Any-from_list_any}
use Rattle.std.proofs.lemmas.List.FromFn.{length-map-range_with_len, get_or-map-range_with_len}
use Rattle.std.proofs.lemmas.Map.Keys.{IsDistinct-cons, IsDistinct-from_apart}
use Rattle.std.proofs.lemmas.Map.Steps.{length-le_from_distinct_below}

abbrev pub Into : ℕ → ℕ → (ℕ → ℕ) → Type 0
Into n m f = (k : ℕ) → k < n → f k < m

abbrev pub Apart : ℕ → (ℕ → ℕ) → Type 0
Apart n f = (j k : ℕ) → j < n → k < n → f j ≡ f k → j ≡ k

-- else one that is missed would make n + 1 numbers below n
module _ (n : ℕ) (f : ℕ → ℕ) (into : Into n n f) (apart : Apart n f) (x : ℕ) (lx : x < n) (miss : (k : ℕ) → k < n → f k ≢ x) where
  abbrev all : List ℕ
  all = map f (range_with_len 0 n)

  many : length all ≡ n
  many = length-map-range_with_len f 0 n

  at : (k d : ℕ) → k < length all → get_or all k d ≡ f k
  at k d l = get_or-map-range_with_len f 0 n k k d (omega (arith, many)) (omega arith)

  small : All (λ y. y < n) (x ∷ all)
  small = All-cons (λ y. y < n) x all lx (λ k d l. omega (arith, at k d l, into k (omega (arith, many))))

  differ : AllByRecursion (λ y. eqb x y ≡ false) all
  differ = recursion_from_All _ all (λ k d l. ne_eqb x (get_or all k d) (λ e. miss k (omega (arith, many)) (sym (at k d l) ∙ sym e)))

  distinct : IsDistinct eqb all
  distinct = IsDistinct-from_apart eqb all (λ i j d lt lj. ne_eqb (get_or all i d) (get_or all j d) (λ e.
      let same : i ≡ j = apart i j (omega (arith, many)) (omega (arith, many)) (sym (at i d (omega arith)) ∙ e ∙ at j d lj) in
      omega arith))

  below : (q : ℕ) → list_any (eqb q) (x ∷ all) ≡ true → q < n
  below q e =
      let (k, y, l, here, same) = Any-from_list_any (eqb q) (x ∷ all) e in
      omega (arith, eqb-true q y same, here, small k y l)

  pub onto : ⊥
  onto = omega (arith, many, length-le_from_distinct_below (x ∷ all) n (IsDistinct-cons eqb x all differ distinct) below)
