-- Three cases at one vector give all that a condition owes. Assumes nothing.
use Rattle.std.specs.Prelude.{◌≡◌, ℕ, ◌<◌, ◌≤◌}
use Rattle.std.proofs.Common.{subst, arith}
use Rattle.lattice.specs.declared.vector.Vector.{Vector}
use Rattle.lattice.specs.declared.condition.Reply.{Reply}
use Rattle.lattice.specs.declared.condition.Reply.TheVariants.{Holds, Lift, Never}
use Rattle.lattice.specs.Limits.{places}
use Rattle.lattice.specs.Order.{at, AtMost}
use Rattle.lattice.specs.Laws.{Lawful}

-- what a condition owes at one vector, by its reply
pub data View (H : Vector → Type 0) (v : Vector) (r : Reply) : Type 0 where
  holds : H v → r ≡ Holds → View H v r
  lifts : (p h : ℕ) → p < places → at v p < h → ((w : Vector) → AtMost v w → H w → h ≤ at w p) → r ≡ Lift (p, h) → View H v r
  never : ((w : Vector) → AtMost v w → H w → ⊥) → r ≡ Never → View H v r

record Lifts (H : Vector → Type 0) (v : Vector) (p h : ℕ) : Type 0 where
  place : p < places
  above : at v p < h
  needed : (w : Vector) → AtMost v w → H w → h ≤ at w p

view_lifts : (H : Vector → Type 0) (v : Vector) (r : Reply) (p h : ℕ) → View H v r → r ≡ Lift (p, h) → Lifts H v p h
view_lifts H v r p h (holds _ is) e = absurd (let z : ◌≡◌ {A = ℕ} 0 1 = cc in omega arith)
view_lifts H v r p h (never _ is) e = absurd (let z : ◌≡◌ {A = ℕ} 0 1 = cc in omega arith)
view_lifts H v r p h (lifts q g small above needed is) e =
    let same : ◌≡◌ {A = ℕ × ℕ} (q, g) (p, h) = cc in
    subst (λ (x : ℕ × ℕ). Lifts H v x.0 x.1) same (record { place = small; above = above; needed = needed })

pub view_lawful : (H : Vector → Type 0) (f : Vector → Reply) → ((v : Vector) → View H v (f v)) → Lawful H f
view_lawful H f view =
    record {
      holds_then = λ v e.
          elim (view v) [
            | holds h _ ↦ h
            | lifts _ _ _ _ _ is ↦ absurd (let z : ◌≡◌ {A = ℕ} 0 1 = cc in omega arith)
            | never _ is ↦ absurd (let z : ◌≡◌ {A = ℕ} 0 1 = cc in omega arith)
          ];
      holds_only = λ v h.
          elim (view v) [
            | holds _ is ↦ is
            | lifts _ _ _ above needed _ ↦ absurd (omega (arith, needed v (λ i _. omega arith) h))
            | never out _ ↦ absurd (out v (λ i _. omega arith) h)
          ];
      place = λ v p h e. (view_lifts H v (f v) p h (view v) e).place;
      rises = λ v p h e. (view_lifts H v (f v) p h (view v) e).above;
      needed = λ v p h e. (view_lifts H v (f v) p h (view v) e).needed;
      never = λ v e w up h.
          elim (view v) [
            | holds _ is ↦ let z : ◌≡◌ {A = ℕ} 0 1 = cc in omega arith
            | lifts _ _ _ _ _ is ↦ let z : ◌≡◌ {A = ℕ} 0 1 = cc in omega arith
            | never out _ ↦ out w up h
          ];
    }
