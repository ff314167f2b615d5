-- The computed reply is the one in words, and the only one. Assumes nothing.
use Rattle.std.specs.Prelude.{◌≡◌, ℕ, ◌+◌, ◌<◌, ◌≤◌, Bool, true, false, cond, nat_le, nat_lt}
use borrow.Author.Count.{below_more}
use Rattle.std.proofs.Common.{sym, ap, subst, ◌∙◌, ⊎_elim, arith}
use Rattle.std.proofs.lemmas.Bool.{cond-true, cond-false, cases_Bool, le-leb, lt-leb, leb-true, leb-false, ltb-true, lt-ltb, not-true, not-false, not_from_true, not_from_false}
use Rattle.lattice.specs.First.{first, some, Least}
use Rattle.lattice.proofs.First.{first_on, first_least, first_is, some_true, some_false, some_passes, none_passes}
use Rattle.lattice.specs.declared.condition.Reply.{Reply}
use Rattle.lattice.specs.declared.condition.Reply.TheVariants.{Holds, Lift, Never}
use Rattle.gates.specs.Stable.{Sides, reach, Placed}
use Rattle.gates.specs.Rivals.{Contested, Says, never, lift, holds}
use Rattle.gates.specs.Reply.{contested, free, next, lowest, reply_to}
use Rattle.gates.specs.Rivalry.{contested_then, contested_from, free_then, free_from}

module _ (s : Sides) (h : ℕ → ℕ) where
  -- van k is past its last gate; it has a rival at its gate
  abbrev past : ℕ → Bool
  past k = nat_le (reach s k) (h k)

  abbrev pressed : ℕ → Bool
  pressed k = contested s h k (h k)

  -- none of the vans below i has a rival at its gate
  abbrev pub QuietBelow : ℕ → Type 0
  QuietBelow i = (k : ℕ) → k < i → pressed k ≡ false

  not_past : Placed s h → some past s.n ≡ false
  not_past placed = some_false past s.n (λ k l. lt-leb (reach s k) (h k) (placed k l))

  pub says_is : (r : Reply) → Says s h r → reply_to s h ≡ r
  says_is _ (never i l le) = cond-true (some past s.n) _ _ (some_true past s.n i l (le-leb (reach s i) (h i) le))
  says_is _ (lift placed i q l quiet here nx) =
      let i_is : lowest s h ≡ i = first_is pressed 0 s.n i (record {
        low = omega arith;
        high = omega arith;
        passes = λ _. contested_from s h i (h i) here;
        before = λ k _ lk. free_from s h k (h k) (quiet k lk);
      }) in
      let q_is : next s h i ≡ q = first_is (free s h i) (h i + 1) (reach s i) q (record {
        low = omega (arith, nx.later);
        high = nx.within;
        passes = λ lq. not_from_false (contested s h i q) (free_from s h i q (nx.free lq));
        before = λ k lo hi. not_from_true (contested s h i k) (contested_from s h i k (nx.passed k (omega arith) hi));
      }) in
      cond-false (some past s.n) _ _ (not_past placed)
      ∙ ap (λ k. cond (nat_lt k s.n) (Lift (k, next s h k)) Holds) i_is
      ∙ cond-true (nat_lt i s.n) _ _ (lt-ltb i s.n l)
      ∙ ap (λ k. Lift (i, k)) q_is
  says_is _ (holds settled) =
      cond-false (some past s.n) _ _ (not_past settled.placed)
      ∙ cond-false (some pressed s.n) _ _ (some_false pressed s.n (λ k l. free_from s h k (h k) (settled.quiet k l)))

  placed_from : some past s.n ≡ false → Placed s h
  placed_from e k l = leb-false (reach s k) (h k) (none_passes past s.n e k l)

  never_from : some past s.n ≡ true → Says s h Never
  never_from e =
      let i = first past 0 s.n in
      never i (ltb-true i s.n e) (leb-true (reach s i) (h i) (some_passes past s.n e))

  -- some van has no gate
  pub says_never : (Placed s h → ⊥) → Says s h Never
  says_never loose = ⊎_elim never_from (λ e. absurd (loose (placed_from e))) (cases_Bool (some past s.n))

  -- the lowest van with a rival, and the first free position from its present one on
  pub says_lift : Placed s h → (i q : ℕ) → i < s.n → QuietBelow i → h i < q → Least (free s h i) (h i) s.n q → Says s h (Lift (i, q))
  says_lift placed i q l quiet later least =
      let rival_at : (p : ℕ) → h i ≤ p → p < q → Contested s h i p = λ p lo hi. contested_then s h i p (not-false (contested s h i p) (least.before p lo hi)) in
      lift placed i q l (λ k lk. free_then s h k (h k) (quiet k lk)) (rival_at (h i) (omega arith) later) (record {
        later = later;
        within = least.high;
        passed = λ p lo hi. rival_at p (omega arith) hi;
        free = λ lq. free_then s h i q (not-true (contested s h i q) (least.passes lq));
      })

  -- a van whose first free position is no later than its present one has no rival there
  pub quiet_more : (i q : ℕ) → QuietBelow i → h i < s.n → q ≤ h i → Least (free s h i) (h i) s.n q → QuietBelow (i + 1)
  quiet_more i q quiet l le least =
      let same : q ≡ h i = omega (arith, least.low) in
      below_more (λ k. pressed k ≡ false) i quiet (not-true (pressed i) (subst (λ p. free s h i p ≡ true) same (least.passes (omega arith))))

  pub says_holds : Placed s h → QuietBelow s.n → Says s h Holds
  says_holds placed quiet = holds (record { placed = placed; quiet = λ k l. free_then s h k (h k) (quiet k l) })

  pub says : Says s h (reply_to s h)
  says = ⊎_elim (λ e. known (never_from e))
      (λ e. ⊎_elim (to_lift (placed_from e)) (λ q. known (says_holds (placed_from e) (none_passes pressed s.n q))) (cases_Bool (some pressed s.n)))
      (cases_Bool (some past s.n))
    where
      known : {r : Reply} → Says s h r → Says s h (reply_to s h)
      known {r} x = subst (Says s h) (sym (says_is r x)) x

      to_lift : Placed s h → some pressed s.n ≡ true → Says s h (reply_to s h)
      to_lift all e =
          let i = lowest s h in
          let l : i < s.n = ltb-true i s.n e in
          let on : first (free s h i) (h i) s.n ≡ next s h i = first_on (free s h i) (h i) s.n (all i l) (not_from_true (pressed i) (some_passes pressed s.n e)) in
          let later = (first_least (free s h i) (h i + 1) s.n (omega (arith, all i l))).low in
          known (says_lift all i (first (free s h i) (h i) s.n) l
          (λ k lk. (first_least pressed 0 s.n (omega arith)).before k (omega arith) lk)
          (omega (arith, on, later))
          (first_least (free s h i) (h i) s.n (omega (arith, all i l))))
