-- Heights of a vector after one of them is set. Assumes nothing.
use Rattle.std.proofs.Common.{◌≡◌, ℕ, suc, ◌+◌, ◌*◌, ◌<◌, ◌≤◌, List, [], ◌∷◌, length, get_or, set, sum, sym, ap, ◌∙◌, subst, ⊎_elim, arith, length-set}
use Rattle.std.specs.List.{AllByRecursion}
use Rattle.std.proofs.lemmas.List.{get_or-set_same, get_or-set_other}
use Rattle.std.proofs.lemmas.List.Sums.{sum_by-set}
use Rattle.std.proofs.ByRecursion.{sum_by_le}
use Rattle.std.proofs.lemmas.Bool.{cases_eq}
use denote.Struct.Record.{values_one}
use Rattle.lattice.specs.declared.vector.Vector.{Vector}
use Rattle.lattice.specs.contracts.vector.Vector.{struct, the_propositions}
use Rattle.lattice.specs.Limits.{places, highest, deciding}
use Rattle.lattice.specs.Order.{at, With}

-- what holds of every other height, and of the one that is set, holds of every height after
pub set_others : (P : ℕ → ℕ → Type 0) (l : List ℕ) (p h : ℕ) → p < length l → P p h → ((i : ℕ) → i < length l → (i ≡ p → ⊥) → P i (get_or l i 0)) → (i : ℕ) → i < length l → P i (get_or (set l p h) i 0)
set_others P l p h lt here rest i li =
    ⊎_elim
    (λ e. subst (λ (j : ℕ). P j (get_or (set l p h) j 0)) (sym e) (subst (P p) (sym (get_or-set_same l p h 0 lt)) here))
    (λ ne. subst (P i) (sym (get_or-set_other l p i h 0 ne)) (rest i li ne))
    (cases_eq i p)

pub set_all : (P : ℕ → ℕ → Type 0) (l : List ℕ) (p h : ℕ) → p < length l → P p h → ((i : ℕ) → i < length l → P i (get_or l i 0)) → (i : ℕ) → i < length l → P i (get_or (set l p h) i 0)
set_all P l p h lt here rest = set_others P l p h lt here (λ i li _. rest i li)

module _ (P : ℕ → ℕ → Type 0) (v w : Vector) (p h : ℕ) (lt : p < places) (e : With v p h w) where
  pub set_each_other : P p h → ((i : ℕ) → i < places → (i ≡ p → ⊥) → P i (at v i)) → (i : ℕ) → i < places → P i (at w i)
  set_each_other here rest i li =
      subst (λ l. P i (get_or l i 0)) (sym e)
      (set_others P v.heights p h (omega (arith, v.sized)) here (λ j hj. rest j (omega (arith, v.sized))) i (omega (arith, v.sized)))

  pub set_each : P p h → ((i : ℕ) → i < places → P i (at v i)) → (i : ℕ) → i < places → P i (at w i)
  set_each here rest = set_each_other here (λ i li _. rest i li)

pub set_here : (v w : Vector) (p h : ℕ) → p < places → With v p h w → at w p ≡ h
set_here v w p h lt e = ap (λ l. get_or l p 0) e ∙ get_or-set_same v.heights p h 0 (omega (arith, v.sized))

pub set_sum : (v w : Vector) (p h : ℕ) → p < places → With v p h w → sum w.heights + at v p ≡ sum v.heights + h
set_sum v w p h lt e = ap (λ l. sum l + at v p) e ∙ sum_by-set (λ x. x) v.heights p h 0 (omega (arith, v.sized))

-- vectors with the same heights are the same
pub same_vector : (v w : Vector) → v.heights ≡ w.heights → v ≡ w
same_vector v w e = values_one struct the_propositions v w (ap (λ l. (l, tt)) e)

-- a list whose every element is at most m
all_le : (m : ℕ) (l : List ℕ) → ((i : ℕ) → i < length l → get_or l i 0 ≤ m) → AllByRecursion (λ x. x ≤ m) l
all_le m [] h = tt
all_le m (x ∷ l) h = (h 0 (omega arith), all_le m l (λ i hi. h (suc i) (omega arith)))

list_bound : (m : ℕ) (l : List ℕ) → ((i : ℕ) → i < length l → get_or l i 0 ≤ m) → sum l ≤ length l * m
list_bound m l h = omega (arith, sum_by_le (λ x. x) m l (all_le m l h))

pub total_bound : (v : Vector) → sum v.heights ≤ deciding
total_bound v = omega (arith, list_bound highest v.heights (λ i hi. v.bounded i (omega (arith, v.sized))), v.sized)

-- where a height can still rise, the heights together are below that
pub total_strict : (v : Vector) (p h : ℕ) → p < places → at v p < h → h ≤ highest → sum v.heights < deciding
total_strict v p h lt up le =
    let small = set_all (λ i x. x ≤ highest) v.heights p h (omega (arith, v.sized)) le (λ i hi. v.bounded i (omega (arith, v.sized))) in
    let all = list_bound highest (set v.heights p h) (λ i hi. small i (omega (arith, length-set v.heights p h))) in
    omega (arith, all, length-set v.heights p h, v.sized, sum_by-set (λ x. x) v.heights p h 0 (omega (arith, v.sized)))
