-- The greatest entry in the clocks of the last events in the cut. Assumes nothing.
use Rattle.std.specs.Prelude.{◌≡◌, ℕ, zero, suc, ◌+◌, ◌<◌, ◌≤◌, max, ◌⊎◌, List, length, ◌≢◌, slice_index, refl}
use Rattle.std.proofs.Common.{sym, ap, subst, ◌∙◌, inl, inr, ⊎_elim, arith}
use Rattle.std.proofs.lemmas.List.{get_or-replicate, length-replicate}
use Rattle.std.proofs.lemmas.Bool.{cases_eq, cases_lt, eq-eqb, ne_eqb, cond-true, cond-false}
use Rattle.trace.specs.declared.event.Event.{Event}
use Rattle.trace.specs.Events.{most, by, number, total}
use Rattle.trace.specs.Clocks.{zeros, merged, clock, entry}
use Rattle.trace.specs.Rules.{Valid}
use Rattle.trace.proofs.Rows.{length_merged, get_or-merged}
use Rattle.cuts.specs.Cuts.{Last}
use Rattle.cuts.specs.Consistent.{greatest}
use Rattle.cuts.specs.Cutting.{nth_none, same_event}

-- one event more
greatest_here : (es : List Event) (h : ℕ → ℕ) (j k : ℕ) → number es k ≡ h (by es k) → greatest es h j (suc k) ≡ max (greatest es h j k) (entry es k j)
greatest_here es h j k e = cond-true _ _ _ (eq-eqb _ _ e)

greatest_skip : (es : List Event) (h : ℕ → ℕ) (j k : ℕ) → (number es k ≢ h (by es k)) → greatest es h j (suc k) ≡ greatest es h j k
greatest_skip es h j k ne = cond-false _ _ _ (ne_eqb _ _ ne)

-- it is at least each of them
greatest_above : (es : List Event) (h : ℕ → ℕ) (j k e : ℕ) → e < k → number es e ≡ h (by es e) → entry es e j ≤ greatest es h j k
greatest_above es h j zero e lt last = absurd (omega arith)
greatest_above es h j (suc k) e lt last =
    ⊎_elim
    (λ (less : e < k).
    let r = greatest_above es h j k e less last in
    ⊎_elim (λ is. omega (arith, greatest_here es h j k is)) (λ ne. omega (arith, greatest_skip es h j k ne)) (cases_eq (number es k) (h (by es k))))
    (λ (ge : k ≤ e).
    let same : k ≡ e = omega arith in
    let is = subst (λ (x : ℕ). number es x ≡ h (by es x)) (sym same) last in
    subst (λ (x : ℕ). entry es x j ≤ greatest es h j (suc k)) same (omega (arith, greatest_here es h j k is)))
    (cases_lt e k)

pub greatest_ge : (es : List Event) (h : ℕ → ℕ) (j e : ℕ) → Last es h e → entry es e j ≤ greatest es h j (length es)
greatest_ge es h j e l = greatest_above es h j (length es) e l.there l.is

-- and 0 or one of them
record Among (es : List Event) (h : ℕ → ℕ) (j k : ℕ) : Type 0 where
  event : ℕ
  before : event < k
  last : number es event ≡ h (by es event)
  is : greatest es h j k ≡ entry es event j

among : (es : List Event) (h : ℕ → ℕ) (j k : ℕ) → 0 < greatest es h j k → Among es h j k
among es h j zero pos = absurd (omega arith)
among es h j (suc k) pos =
    let earlier : greatest es h j (suc k) ≡ greatest es h j k → Among es h j (suc k) =
    λ same. let g = among es h j k (omega arith) in record { event = g.event; before = omega arith; last = g.last; is = same ∙ g.is } in
    ⊎_elim
    (λ last.
    let here = greatest_here es h j k last in
    ⊎_elim
    (λ (lt : greatest es h j k < entry es k j). record { event = k; before = omega arith; last = last; is = omega arith })
    (λ (ge : entry es k j ≤ greatest es h j k). earlier (omega arith))
    (cases_lt (greatest es h j k) (entry es k j)))
    (λ ne. earlier (greatest_skip es h j k ne))
    (cases_eq (number es k) (h (by es k)))

pub record Entry (es : List Event) (h : ℕ → ℕ) (j m : ℕ) : Type 0 where
  pub event : ℕ
  pub last : Last es h event
  pub is : m ≡ entry es event j

pub greatest_from : (es : List Event) (h : ℕ → ℕ) (j : ℕ) → 0 < greatest es h j (length es) → Entry es h j (greatest es h j (length es))
greatest_from es h j pos = let g = among es h j (length es) pos in record { event = g.event; last = record { there = g.before; is = g.last }; is = g.is }

-- so these two tell it
pub greatest_is : (es : List Event) (h : ℕ → ℕ) (j m : ℕ) → ((e : ℕ) → Last es h e → entry es e j ≤ m) → (m ≡ 0) ⊎ Entry es h j m → greatest es h j (length es) ≡ m
greatest_is es h j m above from =
    let low : m ≤ greatest es h j (length es) =
    ⊎_elim (λ (none : m ≡ 0). omega arith) (λ (f : Entry es h j m). omega (arith, greatest_ge es h j f.event f.last, f.is)) from in
    ⊎_elim
    (λ pos. let g = greatest_from es h j pos in omega (arith, above g.event g.last, g.is))
    (λ (none : greatest es h j (length es) ≤ 0). omega arith)
    (cases_lt 0 (greatest es h j (length es)))

-- m is the greatest entry for process j in the clocks of the last events of the first i processes, 0 if there are none
pub record Most (es : List Event) (h : ℕ → ℕ) (j i m : ℕ) : Type 0 where
  pub above : (e : ℕ) → Last es h e → by es e < i → entry es e j ≤ m
  pub from : (m ≡ 0) ⊎ Entry es h j m

pub most_none : (es : List Event) (h : ℕ → ℕ) (j : ℕ) → Most es h j 0 0
most_none es h j = record { above = λ e l lt. absurd (omega arith); from = inl refl }

-- one process more, without a last event or with one
pub most_skip : (es : List Event) (h : ℕ → ℕ) (j i m : ℕ) → ((e : ℕ) → Last es h e → by es e ≢ i) → Most es h j i m → Most es h j (i + 1) m
most_skip es h j i m none s =
    record {
      above = λ e l lt. ⊎_elim (λ (at : by es e ≡ i). absurd (none e l at)) (λ (ne : by es e ≡ i → ⊥). s.above e l (omega arith)) (cases_eq (by es e) i);
      from = s.from;
    }

pub most_more : (es : List Event) (h : ℕ → ℕ) (j i m e : ℕ) → Last es h e → by es e ≡ i → Most es h j i m → Most es h j (i + 1) (max m (entry es e j))
most_more es h j i m e l of s =
    record {
      above = λ f k lt.
          ⊎_elim
          (λ (at : by es f ≡ i).
          let same = same_event es f e (at ∙ sym of) (k.is ∙ ap h (at ∙ sym of) ∙ sym l.is) in
          omega (arith, ap (λ (x : ℕ). entry es x j) same))
          (λ (ne : by es f ≡ i → ⊥). omega (arith, s.above f k (omega arith)))
          (cases_eq (by es f) i);
      from =
          ⊎_elim
          (λ (lt : m < entry es e j). inr (record { event = e; last = l; is = omega arith }))
          (λ (ge : entry es e j ≤ m).
          let keep : max m (entry es e j) ≡ m = omega arith in
          ⊎_elim (λ (none : m ≡ 0). inl (keep ∙ none)) (λ (f : Entry es h j m). inr (record { event = f.event; last = f.last; is = keep ∙ f.is })) s.from)
          (cases_lt m (entry es e j));
    }

pub most_greatest : (n : ℕ) (es : List Event) (h : ℕ → ℕ) (j m : ℕ) → Valid n es → Most es h j n m → greatest es h j (length es) ≡ m
most_greatest n es h j m valid s = greatest_is es h j m (λ e l. s.above e l (valid.process e l.there)) s.from

-- a clock that has the greatest entries of the last events of the first i processes
pub record Merged (es : List Event) (h : ℕ → ℕ) (i : ℕ) (c : List ℕ) : Type 0 where
  pub sized : length c ≡ most
  pub each : (j : ℕ) → j < most → Most es h j i (slice_index c j)

pub merged_none : (es : List Event) (h : ℕ → ℕ) → Merged es h 0 zeros
merged_none es h =
    record {
      sized = length-replicate {A = ℕ} most 0;
      each = λ j lt. subst (λ (m : ℕ). Most es h j 0 m) (sym (get_or-replicate {A = ℕ} most j 0 0 lt)) (most_none es h j);
    }

-- process i has no event of number h i
pub merged_skip : (es : List Event) (h : ℕ → ℕ) (i : ℕ) (c : List ℕ) → (1 ≤ h i → h i ≤ total es i → ⊥) → Merged es h i c → Merged es h (i + 1) c
merged_skip es h i c none s =
    record {
      sized = s.sized;
      each = λ j lt. most_skip es h j i (slice_index c j) (λ e l of. nth_none es i (h i) none e l.there of (l.is ∙ ap h of)) (s.each j lt);
    }

pub last_of : (es : List Event) (h : ℕ → ℕ) (i e : ℕ) → e < length es → by es e ≡ i → number es e ≡ h i → Last es h e
last_of es h i e lt of is = record { there = lt; is = is ∙ ap h (sym of) }

-- or event e has it
pub merged_more : (es : List Event) (h : ℕ → ℕ) (i e : ℕ) (c : List ℕ) → e < length es → by es e ≡ i → number es e ≡ h i → Merged es h i c → Merged es h (i + 1) (merged c (clock es e))
merged_more es h i e c there of is s =
    record {
      sized = length_merged c (clock es e) ∙ s.sized;
      each = λ j lt.
          subst (λ (m : ℕ). Most es h j (i + 1) m) (sym (get_or-merged c (clock es e) j (omega (arith, s.sized))))
          (most_more es h j i (slice_index c j) e (last_of es h i e there of is) of (s.each j lt));
    }

pub merged_greatest : (n : ℕ) (es : List Event) (h : ℕ → ℕ) (c : List ℕ) → Valid n es → Merged es h n c → (j : ℕ) → j < most → slice_index c j ≡ greatest es h j (length es)
merged_greatest n es h c valid s j lt = sym (most_greatest n es h j (slice_index c j) valid (s.each j lt))
