-- A pair of lawful conditions is lawful. Assumes nothing.
use Rattle.std.specs.Prelude.{◌≡◌, ℕ, ◌⊎◌, refl}
use Rattle.std.proofs.Common.{ap, ◌∙◌, inl, inr, ⊎_elim, arith}
use Rattle.lattice.specs.declared.vector.Vector.{Vector}
use Rattle.lattice.specs.declared.condition.Reply.{Reply}
use Rattle.lattice.specs.declared.condition.Reply.TheVariants.{Holds, Lift, Never}
use Rattle.lattice.specs.Replies.{joined}
use Rattle.lattice.specs.Laws.{Lawful}

both_hold : (a b : Reply) → joined a b ≡ Holds → (a ≡ Holds) × (b ≡ Holds)
both_hold Holds b e = (refl, e)
both_hold (Lift l) b e = let z : ◌≡◌ {A = ℕ} 0 1 = cc in absurd (omega arith)
both_hold Never b e = let z : ◌≡◌ {A = ℕ} 0 1 = cc in absurd (omega arith)

either : (a b r : Reply) → joined a b ≡ r → (a ≡ r) ⊎ (b ≡ r)
either Holds b r e = inr e
either (Lift l) b r e = inl e
either Never b r e = inl e

module _ {P Q : Vector → Type 0} {f g : Vector → Reply} (first : Lawful P f) (second : Lawful Q g) where
  pub pair_lawful : Lawful (λ v. P v × Q v) (λ v. joined (f v) (g v))
  pair_lawful = record {
    holds_then = λ v e. let both = both_hold (f v) (g v) e in (first.holds_then v both.0, second.holds_then v both.1);
    holds_only = λ v h. ap (λ r. joined r (g v)) (first.holds_only v h.0) ∙ second.holds_only v h.1;
    place = λ v p h e. ⊎_elim (first.place v p h) (second.place v p h) (either (f v) (g v) (Lift (p, h)) e);
    rises = λ v p h e. ⊎_elim (first.rises v p h) (second.rises v p h) (either (f v) (g v) (Lift (p, h)) e);
    needed = λ v p h e w up hold. ⊎_elim (λ r. first.needed v p h r w up hold.0) (λ r. second.needed v p h r w up hold.1) (either (f v) (g v) (Lift (p, h)) e);
    never = λ v e w up hold. ⊎_elim (λ r. first.never v r w up hold.0) (λ r. second.never v r w up hold.1) (either (f v) (g v) Never e);
  }
