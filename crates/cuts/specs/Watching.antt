-- The laws of the watched processes. Assumes nothing.
use Rattle.std.specs.Prelude.{◌≡◌, ℕ, ◌+◌, ◌/◌, ◌%◌, ◌^◌, ◌<◌, ◌≤◌, true, false, cond, not, List, ◌==◌, nat_le, refl}
use Rattle.std.proofs.Common.{sym, ap, subst, ◌∙◌, ⊎_elim, arith}
use Rattle.std.proofs.lemmas.Bool.{cases_Bool, cases_eq, cases_lt, both_ways, lt-ltb, le-ltb, le-leb, lt-leb, eqb-true, eq-eqb, and_parts, and_from, and_cases, not-true, not-false, not_from_true, not_from_false, and_left, and_right, ne_eqb, cond-true, cond-false}
use Rattle.lattice.specs.declared.vector.Vector.{Vector}
use Rattle.lattice.specs.declared.condition.Reply.{Reply}
use Rattle.lattice.specs.declared.condition.Reply.TheVariants.{Holds, Lift, Never}
use Rattle.lattice.specs.Order.{at}
use Rattle.lattice.specs.Laws.{Lawful}
use Rattle.lattice.specs.First.{first}
use Rattle.lattice.proofs.First.{first_least, first_is}
use Rattle.payload.specs.declared.wish.Wish.{Wish}
use Rattle.trace.specs.declared.event.Event.{Event}
use Rattle.trace.specs.Events.{total}
use Rattle.cuts.specs.Cuts.{beyond}
use Rattle.cuts.specs.Watched.{IsWatched, Wanted, state_wanted, Watched, LowestUnwanted, WatchedSays, next_wanted_state, unwanted, watched_reply}
use Rattle.cuts.specs.Watched.WatchedSays.{past, all, later, nothing}
use Rattle.cuts.specs.Views.{View, view_lawful}
use Rattle.cuts.specs.Views.View.{holds, lifts, never}
use Rattle.cuts.specs.Cutting.{beyond_true, beyond_false, beyond_within, beyond_over}
use Rattle.cuts.specs.Wants.{state_is_wanted, wanted_state, state_unwanted, unwanted_state, wanted_high, next_is, next_none, next_is_wanted, next_above, next_least, next_past}

module _ (es : List Event) (wish : Wish) (watch : ℕ) where
  -- a place that is not both watched and in an unwanted state
  pub settled : (h : ℕ → ℕ) (i : ℕ) → unwanted es wish watch h i ≡ false → IsWatched watch i → Wanted es wish i (h i)
  settled h i e w =
      ⊎_elim
      (λ f. absurd (both_ways _ f (eq-eqb _ _ w)))
      (λ f. state_is_wanted es wish i (h i) (not-false _ f))
      (and_cases (watch / 2 ^ i % 2 == 1) (not (state_wanted es wish i (h i))) e)

  pub settled_from : (h : ℕ → ℕ) (i : ℕ) → (IsWatched watch i → Wanted es wish i (h i)) → unwanted es wish watch h i ≡ false
  settled_from h i f =
      ⊎_elim
      (λ w. and_right (watch / 2 ^ i % 2 == 1) _ (not_from_true _ (wanted_state es wish i (h i) (f w))))
      (λ ne. and_left (watch / 2 ^ i % 2 == 1) _ (ne_eqb _ _ ne))
      (cases_eq (watch / 2 ^ i % 2) 1)

module _ (n : ℕ) (es : List Event) (wish : Wish) (watch : ℕ) where
  module _ (h : ℕ → ℕ) where
    -- the lowest watched place in an unwanted state is the first that passes the test
    pub lowest : (i : ℕ) → i < n → unwanted es wish watch h i ≡ true → ((k : ℕ) → k < i → unwanted es wish watch h k ≡ false) → LowestUnwanted n es wish watch h i
    lowest i lt here before =
        let two = and_parts (watch / 2 ^ i % 2 == 1) _ here in
        record {
          place = lt;
          watched = eqb-true _ _ two.0;
          unwanted = state_unwanted es wish i (h i) (not-true _ two.1);
          lowest = λ k less w. settled es wish watch h k (before k less) w;
        }

    abbrev place : ℕ
    place = first (unwanted es wish watch h) 0 n

    lowest_is : (i : ℕ) → LowestUnwanted n es wish watch h i → place ≡ i
    lowest_is i l =
        first_is (unwanted es wish watch h) 0 n i
        (record {
          low = omega arith;
          high = omega (arith, l.place);
          passes = λ _. and_from _ _ (eq-eqb _ _ l.watched) (not_from_false _ (unwanted_state es wish i (h i) l.unwanted));
          before = λ k _ less. settled_from es wish watch h k (l.lowest k less);
        })

    abbrev next : ℕ → ℕ
    next i = next_wanted_state es wish i (h i + 1)

    -- how the reply is computed
    reply_past : beyond n es h ≡ true → watched_reply n es wish watch h ≡ Never
    reply_past b = cond-true _ _ _ b

    reply_all : beyond n es h ≡ false → n ≤ place → watched_reply n es wish watch h ≡ Holds
    reply_all b ge = cond-false _ _ _ b ∙ cond-false _ _ _ (le-ltb _ _ ge)

    reply_at : (i : ℕ) → beyond n es h ≡ false → place ≡ i → i < n → watched_reply n es wish watch h ≡ cond (nat_le (next i) (total es i)) (Lift (i, next i)) Never
    reply_at i b is lt =
        cond-false _ _ _ b ∙ cond-true _ _ _ (lt-ltb place n (omega arith)) ∙ ap (λ (x : ℕ). cond (nat_le (next x) (total es x)) (Lift (x, next x)) Never) is

    reply_later : (i q : ℕ) → beyond n es h ≡ false → place ≡ i → i < n → next i ≡ q → q ≤ total es i → watched_reply n es wish watch h ≡ Lift (i, q)
    reply_later i q b is lt same le = reply_at i b is lt ∙ cond-true _ _ _ (le-leb (next i) (total es i) (omega arith)) ∙ ap (λ (x : ℕ). Lift (i, x)) same

    reply_nothing : (i : ℕ) → beyond n es h ≡ false → place ≡ i → i < n → total es i < next i → watched_reply n es wish watch h ≡ Never
    reply_nothing i b is lt gt = reply_at i b is lt ∙ cond-false _ _ _ (lt-leb _ _ gt)

    -- the reply is what the words say
    pub watched_says : WatchedSays n es wish watch h (watched_reply n es wish watch h)
    watched_says =
        let l = first_least (unwanted es wish watch h) 0 n (omega arith) in
        ⊎_elim
        (λ b. let o = beyond_over n es h b in subst (WatchedSays n es wish watch h) (sym (reply_past b)) (past o.place o.less o.over))
        (λ b.
        let within = beyond_within n es h b in
        ⊎_elim
        (λ (lt : place < n).
        let low = lowest place lt (l.passes lt) (λ k less. l.before k (omega arith) less) in
        let reach = within place lt in
        ⊎_elim
        (λ (gt : total es place < next place).
        subst (WatchedSays n es wish watch h) (sym (reply_nothing place b refl lt gt)) (nothing within place low (next_past es wish place (h place) reach gt)))
        (λ (le : next place ≤ total es place).
        subst (WatchedSays n es wish watch h) (sym (reply_later place (next place) b refl lt refl le))
        (later within place (next place) low (next_above es wish place (h place) reach) (next_is_wanted es wish place (h place) reach le) (next_least es wish place (h place) reach)))
        (cases_lt (total es place) (next place)))
        (λ (ge : n ≤ place).
        subst (WatchedSays n es wish watch h) (sym (reply_all b ge))
        (all (record { within = within; wanted = λ i lt w. settled es wish watch h i (l.before i (omega arith) (omega arith)) w })))
        (cases_lt place n))
        (cases_Bool (beyond n es h))

    -- and the words leave no other
    pub watched_only : (r : Reply) → WatchedSays n es wish watch h r → watched_reply n es wish watch h ≡ r
    watched_only _ (past i lt over) = reply_past (beyond_true n es h i lt over)
    watched_only _ (all k) =
        let top =
        first_is (unwanted es wish watch h) 0 n n
        (record { low = omega arith; high = omega arith; passes = λ lt. absurd (omega arith); before = λ i _ lt. settled_from es wish watch h i (k.wanted i lt) }) in
        reply_all (beyond_false n es h k.within) (omega arith)
    watched_only _ (later within i q low above w least) =
        reply_later i q (beyond_false n es h within) (lowest_is i low) low.place (next_is es wish i (h i) q above w least) (wanted_high es wish i q w)
    watched_only _ (nothing within i low none) = reply_nothing i (beyond_false n es h within) (lowest_is i low) low.place (next_none es wish i (h i) none)

  -- the words at heights that agree below n
  other_lowest : (h g : ℕ → ℕ) → ((i : ℕ) → i < n → h i ≡ g i) → (i : ℕ) → LowestUnwanted n es wish watch h i → LowestUnwanted n es wish watch g i
  other_lowest h g same i l =
      record {
        place = l.place;
        watched = l.watched;
        unwanted = λ w. l.unwanted (subst (Wanted es wish i) (sym (same i l.place)) w);
        lowest = λ k lt w. subst (Wanted es wish k) (same k (omega (arith, l.place))) (l.lowest k lt w);
      }

  other_words : (h g : ℕ → ℕ) → ((i : ℕ) → i < n → h i ≡ g i) → (r : Reply) → WatchedSays n es wish watch h r → WatchedSays n es wish watch g r
  other_words h g same _ (past i lt over) = past i lt (omega (arith, same i lt))
  other_words h g same _ (all k) =
      all (record { within = λ i lt. omega (arith, k.within i lt, same i lt); wanted = λ i lt w. subst (Wanted es wish i) (same i lt) (k.wanted i lt w) })
  other_words h g same _ (later within i q low above w least) =
      let e = same i low.place in
      later (λ k lt. omega (arith, within k lt, same k lt)) i q (other_lowest h g same i low) (omega arith) w (λ k lt. least k (omega arith))
  other_words h g same _ (nothing within i low none) =
      let e = same i low.place in
      nothing (λ k lt. omega (arith, within k lt, same k lt)) i (other_lowest h g same i low) (λ k lt. none k (omega arith))

  -- places from n on are free
  pub watched_free : (h g : ℕ → ℕ) → ((i : ℕ) → i < n → h i ≡ g i) → watched_reply n es wish watch h ≡ watched_reply n es wish watch g
  watched_free h g same = sym (watched_only g (watched_reply n es wish watch h) (other_words h g same (watched_reply n es wish watch h) (watched_says h)))

  -- without processes none is watched
  pub watched_blank : (h : ℕ → ℕ) → n ≡ 0 → watched_reply n es wish watch h ≡ Holds
  watched_blank h e = watched_only h Holds (all (record { within = λ i lt. absurd (omega arith); wanted = λ i lt. absurd (omega arith) }))

  -- a wanted state at or above an unwanted one is above it
  risen : (v w : Vector) (i : ℕ) → at v i ≤ at w i → (Wanted es wish i (at v i) → ⊥) → Wanted es wish i (at w i) → at v i < at w i
  risen v w i up none good =
      ⊎_elim (λ lt. lt) (λ (ge : at w i ≤ at v i). let same : at w i ≡ at v i = omega arith in absurd (none (subst (Wanted es wish i) same good))) (cases_lt (at v i) (at w i))

  module _ (few : n ≤ 16) where
    view : (v : Vector) (r : Reply) → WatchedSays n es wish watch (at v) r → View (λ w. Watched n es wish watch (at w)) v r
    view v _ (past i lt over) = never (λ w up k. omega (arith, up i (omega arith), k.within i lt)) refl
    view v _ (all k) = holds k refl
    view v _ (later within i q low above _ least) =
        lifts i q (omega (arith, low.place)) above
        (λ w up k.
        let good = k.wanted i low.place low.watched in
        let lt = risen v w i (up i (omega (arith, low.place))) low.unwanted good in
        ⊎_elim (λ (less : at w i < q). absurd (least (at w i) lt less good)) (λ ge. ge) (cases_lt (at w i) q))
        refl
    view v _ (nothing within i low none) =
        never
        (λ w up k.
        let good = k.wanted i low.place low.watched in
        none (at w i) (risen v w i (up i (omega (arith, low.place))) low.unwanted good) good)
        refl

    pub watched_lawful : Lawful (λ v. Watched n es wish watch (at v)) (λ v. watched_reply n es wish watch (at v))
    watched_lawful = view_lawful _ _ (λ v. view v (watched_reply n es wish watch (at v)) (watched_says (at v)))
