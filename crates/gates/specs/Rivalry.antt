-- Rivals in words and as tests, and as vans go down their orders. Assumes nothing.
use Rattle.std.specs.Prelude.{◌≡◌, ℕ, ◌<◌, ◌≤◌, true, false}
use Rattle.std.proofs.Common.{subst, arith, ⊎_elim}
use Rattle.std.proofs.lemmas.Bool.{cases_Bool, and_parts, and_from, both_ways, lt-ltb, le-leb, leb-true, ltb-true, not_from_true, not_from_false}
use Rattle.lattice.specs.First.{first}
use Rattle.lattice.proofs.First.{some_true, some_false, some_passes}
use Rattle.gates.specs.Stable.{Sides}
use Rattle.gates.specs.Rivals.{Rival, Contested, Free}
use Rattle.gates.specs.Reply.{rival, contested, free}

-- the vans have at least the positions that they had
abbrev pub Further : Sides → (ℕ → ℕ) → (ℕ → ℕ) → Type 0
Further s h h' = (j : ℕ) → j < s.n → h j ≤ h' j

-- a rival stays one
pub rival_further : {s : Sides} {h h' : ℕ → ℕ} → Further s h h' → {i g j : ℕ} → Rival s h i g j → Rival s h' i g j
rival_further up {i} {g} {j} r = record { other = r.other; preferred = r.preferred; came = omega (arith, r.came, up j r.other) }

pub contested_further : {s : Sides} {h h' : ℕ → ℕ} → Further s h h' → {i p : ℕ} → Contested s h i p → Contested s h' i p
contested_further up c = (c.0, rival_further up c.1)

pub free_before : {s : Sides} {h h' : ℕ → ℕ} → Further s h h' → {i p : ℕ} → Free s h' i p → Free s h i p
free_before up f j r = f j (rival_further up r)

module _ (s : Sides) (h : ℕ → ℕ) (i : ℕ) where
  rival_then : (g j : ℕ) → j < s.n → rival s h i g j ≡ true → Rival s h i g j
  rival_then g j l e = let both = and_parts _ _ e in record { other = l; preferred = ltb-true _ _ both.0; came = leb-true _ _ both.1 }

  rival_from : (g j : ℕ) → Rival s h i g j → rival s h i g j ≡ true
  rival_from g j r = and_from _ _ (lt-ltb _ _ r.preferred) (le-leb _ _ r.came)

  pub contested_then : (p : ℕ) → contested s h i p ≡ true → Contested s h i p
  contested_then p e =
      let test = rival s h i (s.van i p) in
      let j = first test 0 s.n in
      (j, rival_then (s.van i p) j (ltb-true j s.n e) (some_passes test s.n e))

  pub contested_from : (p : ℕ) → Contested s h i p → contested s h i p ≡ true
  contested_from p c = some_true (rival s h i (s.van i p)) s.n c.0 c.1.other (rival_from (s.van i p) c.0 c.1)

  pub free_then : (p : ℕ) → contested s h i p ≡ false → Free s h i p
  free_then p e j r = both_ways (contested s h i p) e (contested_from p (j, r))

  pub free_from : (p : ℕ) → Free s h i p → contested s h i p ≡ false
  free_from p f = ⊎_elim (λ (e : contested s h i p ≡ true). let c = contested_then p e in absurd (f c.0 c.1)) (λ e. e) (cases_Bool (contested s h i p))

  -- the gate g at position p is not free, since j is a rival there, or free, since nobody is
  pub not_free : (p g j : ℕ) → g ≡ s.van i p → j < s.n → rival s h i g j ≡ true → free s h i p ≡ false
  not_free p g j e l r = not_from_true (contested s h i p) (some_true (rival s h i (s.van i p)) s.n j l (subst (λ x. rival s h i x j ≡ true) e r))

  pub is_free : (p g : ℕ) → g ≡ s.van i p → ((j : ℕ) → j < s.n → rival s h i g j ≡ false) → free s h i p ≡ true
  is_free p g e none =
      not_from_false (contested s h i p) (some_false (rival s h i (s.van i p)) s.n (λ j l. subst (λ x. rival s h i x j ≡ false) e (none j l)))
