-- Heights beyond a process's events, and the h-th event of a process. Assumes nothing.
use Rattle.std.specs.Prelude.{◌≡◌, ℕ, ◌<◌, ◌≤◌, true, false, ◌&&◌, List, length, ◌==◌, ◌≢◌, nat_lt, refl}
use Rattle.std.proofs.Common.{sym, ap, ◌∙◌, ⊎_elim, arith}
use Rattle.std.proofs.lemmas.Bool.{cases_lt, both_ways, eqb-true, eq-eqb, lt-ltb, le-ltb, ltb-true, ltb-false, and_parts, and_from}
use Rattle.lattice.specs.First.{first, Least}
use Rattle.lattice.proofs.First.{first_least, some_true, some_false, none_passes, some_passes}
use Rattle.trace.specs.declared.event.Event.{Event}
use Rattle.trace.specs.Events.{by, number, total, nth}
use Rattle.trace.proofs.Counts.{number_is, number_from_le, number_total, numbered}
use Rattle.cuts.specs.Cuts.{Within, beyond}

-- a place below n above its process's events
pub record Over (n : ℕ) (es : List Event) (h : ℕ → ℕ) : Type 0 where
  pub place : ℕ
  pub less : place < n
  pub over : total es place < h place

pub beyond_true : (n : ℕ) (es : List Event) (h : ℕ → ℕ) (i : ℕ) → i < n → total es i < h i → beyond n es h ≡ true
beyond_true n es h i lt over = some_true (λ k. nat_lt (total es k) (h k)) n i lt (lt-ltb _ _ over)

pub beyond_false : (n : ℕ) (es : List Event) (h : ℕ → ℕ) → Within n es h → beyond n es h ≡ false
beyond_false n es h w = some_false (λ k. nat_lt (total es k) (h k)) n (λ k lt. le-ltb _ _ (w k lt))

pub beyond_within : (n : ℕ) (es : List Event) (h : ℕ → ℕ) → beyond n es h ≡ false → Within n es h
beyond_within n es h e i lt = ltb-false _ _ (none_passes (λ k. nat_lt (total es k) (h k)) n e i lt)

pub beyond_over : (n : ℕ) (es : List Event) (h : ℕ → ℕ) → beyond n es h ≡ true → Over n es h
beyond_over n es h e =
    let f = first (λ k. nat_lt (total es k) (h k)) 0 n in
    record { place = f; less = ltb-true f n e; over = ltb-true _ _ (some_passes (λ k. nat_lt (total es k) (h k)) n e) }

-- the number of an event
pub number_low : (es : List Event) (e : ℕ) → 1 ≤ number es e
number_low es e = omega (arith, number_is es e (by es e) refl)

-- in one process, an event has its number alone
pub same_event : (es : List Event) (a b : ℕ) → by es a ≡ by es b → number es a ≡ number es b → a ≡ b
same_event es a b of is =
    let up = number_from_le es a b of (omega arith) in
    let down = number_from_le es b a (sym of) (omega arith) in
    omega arith

-- what the search for the h-th event finds
pub record Nth (es : List Event) (i h : ℕ) : Type 0 where
  pub there : nth es i h < length es
  pub of : by es (nth es i h) ≡ i
  pub is : number es (nth es i h) ≡ h

nth_least : (es : List Event) (i h : ℕ) → Least (λ e. (by es e == i) && number es e == h) 0 (length es) (nth es i h)
nth_least es i h = first_least (λ e. (by es e == i) && number es e == h) 0 (length es) (omega arith)

pub nth_there : (es : List Event) (i h : ℕ) → nth es i h < length es → Nth es i h
nth_there es i h lt =
    let two = and_parts _ _ ((nth_least es i h).passes lt) in
    record { there = lt; of = eqb-true _ _ two.0; is = eqb-true _ _ two.1 }

nth_found : (es : List Event) (i h e : ℕ) → e < length es → by es e ≡ i → number es e ≡ h → nth es i h < length es
nth_found es i h e lt of is =
    ⊎_elim (λ y. y)
    (λ (ge : length es ≤ nth es i h). absurd (both_ways _ ((nth_least es i h).before e (omega arith) (omega arith)) (and_from _ _ (eq-eqb _ _ of) (eq-eqb _ _ is))))
    (cases_lt (nth es i h) (length es))

-- it is the event of that process with that number
pub nth_is : (es : List Event) (i h e : ℕ) → e < length es → by es e ≡ i → number es e ≡ h → nth es i h ≡ e
nth_is es i h e lt of is =
    let y = nth_there es i h (nth_found es i h e lt of is) in
    same_event es (nth es i h) e (y.of ∙ sym of) (y.is ∙ sym is)

-- and there is one exactly for the heights from 1 to the process's number of events
pub nth_exists : (es : List Event) (i h : ℕ) → 1 ≤ h → h ≤ total es i → Nth es i h
nth_exists es i h low high =
    let a = numbered es (length es) i h low high in
    nth_there es i h (nth_found es i h a.at a.within a.of a.is)

pub number_high : (es : List Event) (i h e : ℕ) → e < length es → by es e ≡ i → number es e ≡ h → h ≤ total es i
number_high es i h e lt of is = omega (arith, number_total es e lt, ap (total es) of)

pub nth_low : (es : List Event) (i h : ℕ) → Nth es i h → 1 ≤ h
nth_low es i h y = omega (arith, number_low es (nth es i h), y.is)

pub nth_high : (es : List Event) (i h : ℕ) → Nth es i h → h ≤ total es i
nth_high es i h y = number_high es i h (nth es i h) y.there y.of y.is

-- at another height no event of the process has it for its number
pub nth_none : (es : List Event) (i h : ℕ) → (1 ≤ h → h ≤ total es i → ⊥) → (e : ℕ) → e < length es → by es e ≡ i → number es e ≢ h
nth_none es i h none e lt of is = none (omega (arith, number_low es e)) (number_high es i h e lt of is)
