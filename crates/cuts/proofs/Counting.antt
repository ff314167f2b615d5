-- Counting what is on one side of a channel over a range of heights. Assumes nothing.
use Rattle.std.proofs.Common.{◌≡◌, ℕ, zero, suc, ◌+◌, ◌-◌, ◌<◌, ◌≤◌, Bool, true, List, ◌∷◌, length, filter, Option, MatchOption, refl, sym, ap, ◌∙◌, subst, ⊎_elim, arith}
use Rattle.std.specs.List.{range_with_len, slice_get}
use Rattle.std.specs.Option.{option_map}
use Rattle.std.proofs.lemmas.Iterator.Adapters.{option_map_id}
use Rattle.std.proofs.lemmas.Bool.{cases_Bool, cases_lt, cond-true, cond-false}
use Rattle.trace.specs.declared.event.Event.{Event}
use Rattle.trace.specs.declared.event.Action.{Action}
use Rattle.trace.specs.Events.{does, nth, total}
use Rattle.cuts.specs.Channels.{tally, Reaches}
use Rattle.cuts.specs.Tallies.{tally_on, tally_off, tally_mono, Short}
use Rattle.cuts.proofs.Found.{match_then}
use Rattle.cuts.proofs.Searches.{above}

-- the numbers above a, as a range from the next one on
pub above_range : (n a : ℕ) → above a n ≡ range_with_len (a + 1) n
above_range zero a = refl
above_range (suc n) a = ap (λ (xs : List ℕ). (a + 1) ∷ xs) (above_range n (a + 1))

module _ (es : List Event) (test : Action → Bool) (i : ℕ) where
  -- whether the event with this number does what is asked
  abbrev on : ℕ → Bool
  on h = test (does es (nth es i h))

  abbrev counted : ℕ → ℕ
  counted h = tally es test i h

  -- those among the next n are what is counted more
  pub tally_range : (n a : ℕ) → counted (a + n) ≡ counted a + length (filter on (range_with_len (a + 1) n))
  tally_range zero a = let e : a + 0 ≡ a = omega arith in omega (arith, ap counted e)
  tally_range (suc n) a =
      let e : a + suc n ≡ a + 1 + n = omega arith in
      let later = tally_range n (a + 1) in
      let rest = filter on (range_with_len (a + 1 + 1) n) in
      ⊎_elim
      (λ y. omega (arith, ap counted e, later, tally_on es test i a y, ap length (cond-true (on (a + 1)) ((a + 1) ∷ rest) rest y)))
      (λ y. omega (arith, ap counted e, later, tally_off es test i a y, ap length (cond-false (on (a + 1)) ((a + 1) ∷ rest) rest y)))
      (cases_Bool (on (a + 1)))

  -- the height q, at most the end, is the least at which the count is reached
  record At (end count q : ℕ) : Type 0 where
    high : q ≤ end
    enough : count ≤ counted q
    least : (k : ℕ) → k < q → counted k < count

  -- what a search for the height at which a count is reached answers
  abbrev Answer : ℕ → ℕ → Option ℕ → Type 0
  Answer end count r = MatchOption r (counted end < count) (At end count)

  same_answer : (end count e c : ℕ) (r : Option ℕ) → end ≡ e → count ≡ c → Answer end count r → Answer e c r
  same_answer end count e c r ends counts f = subst (λ (x : ℕ). Answer x c r) ends (subst (λ (x : ℕ). Answer end x r) counts f)

  -- the next one is on the side: it, or one of those after it
  here : (n a m : ℕ) (rest : List ℕ) → on (a + 1) ≡ true → ((k : ℕ) → Answer (a + 1 + n) (counted (a + 1) + k + 1) (slice_get rest k)) → Answer (a + suc n) (counted a + m + 1) (slice_get ((a + 1) ∷ rest) m)
  here n a zero rest y later =
      let more = tally_on es test i a y in
      record { high = omega arith; enough = omega arith; least = λ k lt. omega (arith, tally_mono es test i k a (omega arith)) }
  here n a (suc m) rest y later =
      let more = tally_on es test i a y in
      same_answer (a + 1 + n) (counted (a + 1) + m + 1) (a + suc n) (counted a + suc m + 1) (slice_get rest m) (omega arith) (omega arith) (later m)

  -- the m-th of those among the next n, counted from 0
  nth_at : (n a m : ℕ) → Answer (a + n) (counted a + m + 1) (slice_get (filter on (above a n)) m)
  nth_at zero a m = let e : a + 0 ≡ a = omega arith in omega (arith, ap counted e)
  nth_at (suc n) a m =
      let rest = filter on (above (a + 1) n) in
      ⊎_elim
      (λ y. subst (λ (xs : List ℕ). Answer (a + suc n) (counted a + m + 1) (slice_get xs m)) (sym (cond-true (on (a + 1)) ((a + 1) ∷ rest) rest y)) (here n a m rest y (λ k. nth_at n (a + 1) k)))
      (λ y.
      let same = tally_off es test i a y in
      subst (λ (xs : List ℕ). Answer (a + suc n) (counted a + m + 1) (slice_get xs m)) (sym (cond-false (on (a + 1)) ((a + 1) ∷ rest) rest y))
      (same_answer (a + 1 + n) (counted (a + 1) + m + 1) (a + suc n) (counted a + m + 1) (slice_get rest m) (omega arith) (omega arith) (nth_at n (a + 1) m)))
      (cases_Bool (on (a + 1)))

  -- where the next n end at the total
  pub nth_reaches : (n a m count : ℕ) (r : Option ℕ) → n ≡ total es i - a → count ≡ counted a + m + 1 → option_map (λ x. x) r ≡ slice_get (filter on (above a n)) m
      → MatchOption r (Short es counted i count) (Reaches es counted i count)
  nth_reaches n a m count r long much is =
      match_then r (same_answer (a + n) (counted a + m + 1) (a + n) count r refl (sym much) (subst (Answer (a + n) (counted a + m + 1)) (sym is ∙ option_map_id r) (nth_at n a m)))
      (λ short k le. omega (arith, tally_mono es test i k (a + n) (omega arith)))
      (λ q f.
      record {
        there = ⊎_elim (λ (up : a < q). omega (arith, f.high)) (λ (low : q ≤ a). absurd (omega (arith, tally_mono es test i q a low, f.enough))) (cases_lt a q);
        enough = f.enough;
        least = f.least;
      })
