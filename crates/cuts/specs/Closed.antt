-- The laws of the consistent cut. Assumes nothing.
use Rattle.std.specs.Prelude.{◌≡◌, ℕ, ◌<◌, ◌≤◌, true, false, List, length, refl}
use Rattle.std.proofs.Common.{sym, ap, subst, ◌∙◌, inr, ⊎_elim, arith}
use Rattle.std.proofs.lemmas.Bool.{cases_Bool, cases_lt, lt-ltb, le-ltb, ltb-true, ltb-false, cond-true, cond-false}
use Rattle.lattice.specs.declared.vector.Vector.{Vector}
use Rattle.lattice.specs.declared.condition.Reply.{Reply}
use Rattle.lattice.specs.declared.condition.Reply.TheVariants.{Holds, Lift, Never}
use Rattle.lattice.specs.Order.{at}
use Rattle.lattice.specs.Laws.{Lawful}
use Rattle.lattice.specs.First.{first}
use Rattle.lattice.proofs.First.{first_least, first_is}
use Rattle.trace.specs.declared.event.Event.{Event}
use Rattle.trace.specs.Events.{by}
use Rattle.trace.specs.Clocks.{entry, Knows}
use Rattle.trace.specs.Rules.{Valid}
use Rattle.trace.proofs.Counts.{number_is}
use Rattle.trace.proofs.Known.{before_less, before_within, number_past, then_past}
use Rattle.cuts.specs.Cuts.{Within, beyond, InCut, Last}
use Rattle.cuts.specs.Consistent.{Consistent, Enough, ConsistentSays, greatest, wanting, consistent_reply}
use Rattle.cuts.specs.Consistent.ConsistentSays.{past, enough, behind}
use Rattle.cuts.specs.Views.{View, view_lawful}
use Rattle.cuts.specs.Views.View.{holds, lifts, never}
use Rattle.cuts.specs.Cutting.{beyond_true, beyond_false, beyond_within, beyond_over, nth_exists}
use Rattle.cuts.specs.Greatest.{greatest_ge, greatest_from, greatest_is, last_of}

-- a place has enough exactly when it is not below the greatest entry
enough_from : (es : List Event) (h : ℕ → ℕ) (j : ℕ) → greatest es h j (length es) ≤ h j → Enough es h j
enough_from es h j le e last = omega (arith, greatest_ge es h j e last)

enough_most : (es : List Event) (h : ℕ → ℕ) (j : ℕ) → Enough es h j → greatest es h j (length es) ≤ h j
enough_most es h j all =
    ⊎_elim
    (λ pos. let g = greatest_from es h j pos in omega (arith, all g.event g.last, g.is))
    (λ (none : greatest es h j (length es) ≤ 0). omega arith)
    (cases_lt 0 (greatest es h j (length es)))

module _ (n : ℕ) (es : List Event) (h : ℕ → ℕ) where
  abbrev wants : ℕ → ℕ
  wants k = greatest es h k (length es)

  -- the reply, by the places that are below the greatest entry
  pub consistent_never : beyond n es h ≡ true → consistent_reply n es h ≡ Never
  consistent_never b = cond-true _ _ _ b

  pub consistent_holds : beyond n es h ≡ false → ((k : ℕ) → k < n → greatest es h k (length es) ≤ h k) → consistent_reply n es h ≡ Holds
  consistent_holds b all =
      let top =
      first_is (wanting es h) 0 n n
      (record { low = omega arith; high = omega arith; passes = λ lt. absurd (omega arith); before = λ k _ lt. le-ltb _ _ (all k lt) }) in
      cond-false _ _ _ b ∙ cond-false _ _ _ (le-ltb (first (wanting es h) 0 n) n (omega arith))

  pub consistent_lift : (i : ℕ) → beyond n es h ≡ false → i < n → ((k : ℕ) → k < i → greatest es h k (length es) ≤ h k) → h i < greatest es h i (length es)
      → consistent_reply n es h ≡ Lift (i, greatest es h i (length es))
  consistent_lift i b lt lower above =
      let is =
      first_is (wanting es h) 0 n i
      (record { low = omega arith; high = omega arith; passes = λ _. lt-ltb _ _ above; before = λ k _ less. le-ltb _ _ (lower k less) }) in
      cond-false _ _ _ b ∙ cond-true _ _ _ (lt-ltb (first (wanting es h) 0 n) n (omega arith)) ∙ ap (λ (x : ℕ). Lift (x, wants x)) is

  -- it is what the words say
  pub consistent_says : ConsistentSays n es h (consistent_reply n es h)
  consistent_says =
      let i = first (wanting es h) 0 n in
      let l = first_least (wanting es h) 0 n (omega arith) in
      let lower : (k : ℕ) → k < i → wants k ≤ h k = λ k less. ltb-false _ _ (l.before k (omega arith) less) in
      ⊎_elim
      (λ b. let o = beyond_over n es h b in subst (ConsistentSays n es h) (sym (consistent_never b)) (past o.place o.less o.over))
      (λ b.
      ⊎_elim
      (λ (lt : i < n).
      let above = ltb-true _ _ (l.passes lt) in
      let g = greatest_from es h i (omega arith) in
      subst (ConsistentSays n es h) (sym (consistent_lift i b lt lower above ∙ ap (λ (m : ℕ). Lift (i, m)) g.is))
      (behind (beyond_within n es h b) i g.event lt (λ k less. enough_from es h k (lower k less)) g.last (omega (arith, g.is))
      (λ f last. omega (arith, g.is, greatest_ge es h i f last))))
      (λ (ge : n ≤ i).
      let all : (k : ℕ) → k < n → wants k ≤ h k = λ k less. lower k (omega arith) in
      subst (ConsistentSays n es h) (sym (consistent_holds b all)) (enough (beyond_within n es h b) (λ k less. enough_from es h k (all k less))))
      (cases_lt i n))
      (cases_Bool (beyond n es h))

  -- and the words leave no other
  pub consistent_only : (r : Reply) → ConsistentSays n es h r → consistent_reply n es h ≡ r
  consistent_only _ (past i lt over) = consistent_never (beyond_true n es h i lt over)
  consistent_only _ (enough within all) = consistent_holds (beyond_false n es h within) (λ k lt. enough_most es h k (all k lt))
  consistent_only _ (behind within i e lt lower last above most) =
      let m = greatest_is es h i (entry es e i) most (inr (record { event = e; last = last; is = refl })) in
      consistent_lift i (beyond_false n es h within) lt (λ k less. enough_most es h k (lower k less)) (omega arith) ∙ ap (λ (x : ℕ). Lift (i, x)) m

module _ (n : ℕ) (es : List Event) (valid : Valid n es) where
  -- the words at heights that agree below n
  other_last : (h g : ℕ → ℕ) → ((i : ℕ) → i < n → h i ≡ g i) → (e : ℕ) → Last es h e → Last es g e
  other_last h g same e l = record { there = l.there; is = l.is ∙ same (by es e) (valid.process e l.there) }

  other_enough : (h g : ℕ → ℕ) → ((i : ℕ) → i < n → h i ≡ g i) → (i : ℕ) → i < n → Enough es h i → Enough es g i
  other_enough h g same i lt all e l = omega (arith, all e (other_last g h (λ k less. sym (same k less)) e l), same i lt)

  other_words : (h g : ℕ → ℕ) → ((i : ℕ) → i < n → h i ≡ g i) → (r : Reply) → ConsistentSays n es h r → ConsistentSays n es g r
  other_words h g same _ (past i lt over) = past i lt (omega (arith, same i lt))
  other_words h g same _ (enough within all) = enough (λ i lt. omega (arith, within i lt, same i lt)) (λ i lt. other_enough h g same i lt (all i lt))
  other_words h g same _ (behind within i e lt lower last above most) =
      behind (λ k less. omega (arith, within k less, same k less)) i e lt (λ k less. other_enough h g same k (omega arith) (lower k less)) (other_last h g same e last)
      (omega (arith, same i lt)) (λ f l. most f (other_last g h (λ k less. sym (same k less)) f l))

  -- places from n on are free
  pub consistent_free : (h g : ℕ → ℕ) → ((i : ℕ) → i < n → h i ≡ g i) → consistent_reply n es h ≡ consistent_reply n es g
  consistent_free h g same = sym (consistent_only n es g (consistent_reply n es h) (other_words h g same (consistent_reply n es h) (consistent_says n es h)))

  module _ (few : n ≤ 16) (knows : (e j : ℕ) → e < length es → j < n → Knows es e j (entry es e j)) where
    -- a consistent cut with event e has as many events of process j as e's clock says
    known : (g : ℕ → ℕ) (e j : ℕ) → e < length es → j < n → Consistent n es g → InCut es g e → entry es e j ≤ g j
    known g e j he hj cut there =
        ⊎_elim
        (λ (pos : 0 < entry es e j).
        let k = knows e j he hj in
        let a = nth_exists es j (entry es e j) pos k.there in
        let here : InCut es g _ = ⊎_elim (λ f. cut.closed _ e f there) (λ same. subst (InCut es g) (sym same) there) (k.first _ a.there a.of (omega (arith, a.is))) in
        omega (arith, here, a.is, ap g a.of))
        (λ (none : entry es e j ≤ 0). omega arith)
        (cases_lt 0 (entry es e j))

    -- where each place has enough, the cut is consistent
    closed : (h : ℕ → ℕ) → Within n es h → ((i : ℕ) → i < n → Enough es h i) → Consistent n es h
    closed h within all =
        record {
          within = within;
          closed = λ a b f there.
              let hb = before_within n es valid few a b f in
              let ha = before_less n es valid few a b f in
              let i = by es b in
              let last = nth_exists es i (h i) (omega (arith, number_is es b i refl)) (within i (valid.process b hb)) in
              let past_it = then_past n es valid few a b _ f (number_past n es valid few b _ last.there (sym last.of) (omega (arith, last.is))) in
              let k = (knows _ (by es a) last.there (valid.process a (omega arith))).only a (omega arith) refl past_it in
              omega (arith, all (by es a) (valid.process a (omega arith)) _ (last_of es h i _ last.there last.of last.is));
        }

    view : (v : Vector) (r : Reply) → ConsistentSays n es (at v) r → View (λ w. Consistent n es (at w)) v r
    view v _ (past i lt over) = never (λ w up cut. omega (arith, up i (omega arith), cut.within i lt)) refl
    view v _ (enough within all) = holds (closed (at v) within all) refl
    view v _ (behind within i e lt lower last above most) =
        lifts i (entry es e i) (omega arith) above
        (λ w up cut. known (at w) e i last.there lt cut (omega (arith, last.is, up (by es e) (omega (arith, valid.process e last.there))))) refl

    pub consistent_lawful : Lawful (λ v. Consistent n es (at v)) (λ v. consistent_reply n es (at v))
    consistent_lawful = view_lawful _ _ (λ v. view v (consistent_reply n es (at v)) (consistent_says n es (at v)))

-- without processes every cut is consistent
pub consistent_blank : (n : ℕ) (es : List Event) (h : ℕ → ℕ) → n ≡ 0 → consistent_reply n es h ≡ Holds
consistent_blank n es h e = consistent_only n es h Holds (enough (λ i lt. absurd (omega arith)) (λ i lt. absurd (omega arith)))
