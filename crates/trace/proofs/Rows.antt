-- The greater of two rows, entry by entry. Assumes nothing.
use Rattle.std.proofs.Common.{◌≡◌, ℕ, zero, suc, ◌+◌, ◌<◌, ◌≤◌, max, List, [], ◌∷◌, length, get_or, sym, refl, ap, subst, ⊎_elim, arith}
use Rattle.std.specs.Array.{IsFromFnResultFrom}
use Rattle.std.proofs.lemmas.Bool.{cases_eq}
use denote.Param.Members.{Mut, Called}
use Rattle.trace.specs.Clocks.{merged}

-- what holds of each call of a closure that stays as it is holds of each item that it made
module _ {F B : Type 0} (g : Mut F (ℕ × Unit {0}) B) (f : F) (P : ℕ → B → Type 0) (stays : (i : ℕ) (y : B) (q : F) → Called g f (i, tt) y q → (q ≡ f) × P i y) where
  pub made_by : (ys : List B) (i n : ℕ) → IsFromFnResultFrom g f ys i n → (k : ℕ) (d : B) → i ≤ k → k < i + n → P k (get_or ys k d)
  made_by ys i zero made k d low high = absurd (omega arith)
  made_by ys i (suc n) made k d low high =
      let s = stays i made.1 made.0 made.3 in
      ⊎_elim
      (λ here. subst (λ (j : ℕ). P j (get_or ys j d)) here (subst (P i) (sym (made.2.1 d)) s.1))
      (λ ne. made_by ys (i + 1) n (subst (λ q. IsFromFnResultFrom g q ys (i + 1) n) s.0 made.4) k d (omega arith) (omega arith))
      (cases_eq i k)

pub length_merged : (xs ys : List ℕ) → length (merged xs ys) ≡ length xs
length_merged [] ys = refl
length_merged (x ∷ xs) [] = refl
length_merged (x ∷ xs) (y ∷ ys) = ap suc (length_merged xs ys)

pub get_or-merged : (xs ys : List ℕ) (k : ℕ) → k < length xs → get_or (merged xs ys) k 0 ≡ max (get_or xs k 0) (get_or ys k 0)
get_or-merged [] ys k h = omega arith
get_or-merged (x ∷ xs) [] k h = omega arith
get_or-merged (x ∷ xs) (y ∷ ys) zero h = refl
get_or-merged (x ∷ xs) (y ∷ ys) (suc k) h = get_or-merged xs ys k (omega arith)
