-- After every list of calls, what is promised holds. Assumes nothing but the laws of the condition.
use Rattle.std.proofs.Common.{◌≡◌, ℕ, ◌+◌, ◌≤◌, ◌∷◌, Ok, Err, sym, refl, ◌∙◌, subst, arith}
use Rattle.refusal.specs.declared.Refusal.{Refusal}
use Rattle.lattice.specs.declared.vector.Vector.{Vector}
use Rattle.lattice.specs.declared.condition.Reply.{Reply}
use Rattle.lattice.specs.declared.board.Board.{Board}
use Rattle.lattice.specs.declared.verdict.Verdict as verdict
use Rattle.lattice.specs.declared.verdict.Verdict.{Verdict}
use Rattle.lattice.specs.declared.verdict.Answer.{Answer}
use Rattle.lattice.specs.declared.call.Call.{Call}
use Rattle.lattice.specs.Limits.{deciding}
use Rattle.lattice.specs.Order.{at}
use Rattle.lattice.specs.Laws.{Lawful}
use Rattle.lattice.specs.Refusals.{Accepted, Refused}
use Rattle.lattice.specs.Steps.{IsOpen, IsFound, IsNone, answer_of, reading, FloorStep, CeilingStep, Climb, Liftable, Ends, holds as held, never, above, spent, RunStep, found, none, searched}
use Rattle.lattice.specs.History.{Entry, History, floor, ceiling, run, after, Step, floored, floor_refused, ceiled, ceiling_refused, ran, answered, Reached, new, called}
use Rattle.lattice.specs.Promises.{Solution, LeastSolution, Unsolvable, Decides, found as decides_found, none as decides_none, NextLift, Tells, pending_open as open_pending, found_found, none_none, RunPromise, Latest, Promises, Throughout}
use Rattle.lattice.specs.Calls.{Kept, RunCall, BoundCall}
use Rattle.lattice.proofs.Heights.{total_strict}
use Rattle.lattice.proofs.Verdicts.{open_not_found, open_not_none, found_not_none, pending_open}
use Rattle.lattice.proofs.Climbs.{climb_sum}
use Rattle.lattice.proofs.Bounds.{over, under, shut_none, ceiling_accepted}
use Rattle.lattice.proofs.Keeps.{Keeps, keeps}

-- an entry has what a read would answer after it
step_after : {reply : Vector → Reply} {a : Call} {e : Entry} {b c : Board} → Step reply b a e c → after e ≡ reading c
step_after (floored acc f) = refl
step_after (floor_refused bad) = refl
step_after (ceiled acc f) = refl
step_after (ceiling_refused bad) = refl
step_after (ran s) = refl
step_after answered = refl

tells : (v : Verdict) → Tells (answer_of v) v
tells verdict.TheVariants.Open = open_pending
tells verdict.TheVariants.Found = found_found
tells verdict.TheVariants.None = none_none

-- a verdict that is not open decides
decides : {holds : Vector → Type 0} {l : History} {w : Vector} (v : Verdict) → (IsOpen v → ⊥) → (IsFound v → Solution holds l w) → (IsNone v → Unsolvable holds l) → Decides holds l (answer_of v)
decides verdict.TheVariants.Open closed solves nothing = absurd (closed refl)
decides {w = w} verdict.TheVariants.Found closed solves nothing = decides_found w (solves refl)
decides verdict.TheVariants.None closed solves nothing = decides_none (nothing refl)

module _ {holds : Vector → Type 0} {reply : Vector → Reply} (laws : Lawful holds reply) where
  module _ {l : History} {b : Board} (k : Keeps laws l b) where
    least : IsFound b.verdict → LeastSolution holds l b.vector
    least e = record {
      solves = record {
        satisfied = k.found e;
        floors = k.floors;
        ceilings = λ p h t.
            let lt = (ceiling_accepted l k.judged t).0 in
            omega (arith, (k.tops p lt).within h t, k.inside (found_not_none e) p lt);
      };
      least = λ u s. k.below u (over s);
    }

    none_left : IsNone b.verdict → Unsolvable holds l
    none_left e w s = shut_none (k.none e) w (k.below w (over s)) (under b.ceilings w k.tops s) s.satisfied

    next_lift : Liftable reply b.ceilings b.vector → NextLift reply l b.vector
    next_lift (p, h, r, le) = record { place = p; height = h; top = at b.ceilings p; lifts_there = r; ceiling_there = k.tops p (laws.place _ p h r); fits = le }

  -- a run that leaves the board open has used its budget, and can lift; a large budget never does
  module _ {top u : Vector} {budget n : ℕ} where
    spent_end : {v : Verdict} → Ends reply top budget n u v → IsOpen v → (n ≡ budget) × Liftable reply top u
    spent_end (held r) e = absurd (open_not_found e refl)
    spent_end (never r) e = absurd (open_not_none e refl)
    spent_end (above r gt) e = absurd (open_not_none e refl)
    spent_end (spent up sp) e = (sp, up)

    closed_end : {v : Vector} → Climb reply top v n u → {o : Verdict} → Ends reply top budget n u o → deciding ≤ budget → IsOpen o → ⊥
    closed_end climb ends big e = by (spent_end ends e)
      where
        by : (n ≡ budget) × Liftable reply top u → ⊥
        by (sp, (p, h, r, le)) =
            let lt = laws.place u p h r in
            omega (arith, sp, big, climb_sum laws climb, total_strict u p h lt (laws.rises u p h r) (omega (arith, le, top.bounded p lt)))

  -- a run that ends on found or none
  settled : {l : History} {c : Board} {budget n : ℕ} → Keeps laws (run budget (answer_of c.verdict) n (reading c) ∷ l) c → (IsOpen c.verdict → ⊥)
      → RunPromise holds reply budget (answer_of c.verdict) n (run budget (answer_of c.verdict) n (reading c) ∷ l) (reading c)
  settled {c = c} k shut = record {
    stands = tells c.verdict;
    exact = λ f. absurd (shut (pending_open c.verdict f));
    next = λ f. absurd (shut (pending_open c.verdict f));
    decided = λ big. decides c.verdict shut (λ f. (least k f).solves) (none_left k);
  }

  run_promise : {l : History} {b c : Board} {budget n : ℕ} → Keeps laws (run budget (answer_of c.verdict) n (reading c) ∷ l) c → RunStep reply budget b n c
      → RunPromise holds reply budget (answer_of c.verdict) n (run budget (answer_of c.verdict) n (reading c) ∷ l) (reading c)
  run_promise k (found e) = settled k (λ o. open_not_found o e)
  run_promise k (none e) = settled k (λ o. open_not_none o e)
  run_promise {c = c} k (searched e s) = record {
    stands = tells c.verdict;
    exact = λ f. (spent_end s.ends (pending_open c.verdict f)).0;
    next = λ f. next_lift k (subst (λ t. Liftable reply t c.vector) (sym s.ceilings) (spent_end s.ends (pending_open c.verdict f)).1);
    decided = λ big. decides c.verdict (closed_end s.climb s.ends big) (λ f. (least k f).solves) (none_left k);
  }

  latest_step : {l : History} {a : Call} {e : Entry} {b c : Board} → Keeps laws (e ∷ l) c → Step reply b a e c → Latest holds reply (e ∷ l) (reading c)
  latest_step k (floored acc f) = refl
  latest_step k (floor_refused bad) = refl
  latest_step k (ceiled acc f) = refl
  latest_step k (ceiling_refused bad) = refl
  latest_step k (ran s) = (refl, run_promise k s)
  latest_step k answered = refl

  latest : {l : History} {b : Board} → Keeps laws l b → Reached reply l b → Latest holds reply l (reading b)
  latest k (new f) = tt
  latest k (called r s) = latest_step k s

  pub promised : {l : History} {b : Board} → Reached reply l b → Promises holds reply l (reading b)
  promised {l} {b} r =
      let k = keeps laws r in
      record {
        below = λ w s. k.below w (over s);
        found = least k;
        none = none_left k;
        budgets = omega (arith, k.budgets, k.counted);
        counted = k.counted;
        bounded = b.counted;
        judged = k.judged;
        latest = latest k r;
      }

  pub kept : {l : History} {b : Board} → Reached reply l b → Kept holds reply l b
  kept r = record { reached = r; promises = promised r }

  -- after each call on the way too
  pub throughout : {l : History} {b : Board} → Reached reply l b → Throughout holds reply l
  throughout (new f) = tt
  throughout (called {l = l} {e = e} r s) = (subst (Promises holds reply (e ∷ l)) (sym (step_after s)) (promised (called r s)), throughout r)

module _ {b c : Board} {p h : ℕ} (acc : Accepted p h) where
  pub floor_taken : FloorStep p h b c → BoundCall FloorStep floor p h b (Ok tt) c
  floor_taken f = record { step = (acc, f); promise = λ reply laws l r. kept laws (called r (floored acc f)) }

  pub ceiling_taken : CeilingStep p h b c → BoundCall CeilingStep ceiling p h b (Ok tt) c
  ceiling_taken f = record { step = (acc, f); promise = λ reply laws l r. kept laws (called r (ceiled acc f)) }

module _ {b : Board} {p h : ℕ} {e : Refusal} (bad : Refused p h e) where
  pub floor_unmoved : BoundCall FloorStep floor p h b (Err e) b
  floor_unmoved = record { step = (bad, refl); promise = λ reply laws l r. kept laws (called r (floor_refused bad)) }

  pub ceiling_unmoved : BoundCall CeilingStep ceiling p h b (Err e) b
  ceiling_unmoved = record { step = (bad, refl); promise = λ reply laws l r. kept laws (called r (ceiling_refused bad)) }

pub run_call : {holds : Vector → Type 0} {reply : Vector → Reply} → Lawful holds reply → {budget k : ℕ} {b c : Board} {a : Answer} → a ≡ answer_of c.verdict → RunStep reply budget b k c → RunCall holds reply budget b a c
run_call {holds} {reply} laws {budget} {k} {b} {c} {a} e s = record {
  lifts = k;
  step = s;
  answer = e;
  promise = λ l r. subst (λ x. Kept holds reply (run budget x k (reading c) ∷ l) c) (sym e) (kept laws (called r (ran s)));
}

-- a search under way: so many lifts lead from b to the board in hand, and nothing else has changed
pub record Searching (reply : Vector → Reply) (budget : ℕ) (b : Board) (k : ℕ) (w : Board) : Type 0 where
  pub climb : Climb reply b.ceilings b.vector k w.vector
  pub afforded : k ≤ budget
  pub ceilings : w.ceilings ≡ b.ceilings
  pub verdict : w.verdict ≡ b.verdict
  pub count : w.count ≡ b.count + k

-- it ends with a verdict, and the board is the one in hand for the rest
pub search_ends : {holds : Vector → Type 0} {reply : Vector → Reply} → Lawful holds reply → {budget k : ℕ} {b w c : Board} {a : Answer} → IsOpen b.verdict → Searching reply budget b k w → c.vector ≡ w.vector → c.ceilings ≡ w.ceilings → c.count ≡ w.count → a ≡ answer_of c.verdict → Ends reply b.ceilings budget k w.vector c.verdict → RunCall holds reply budget b a c
search_ends {holds} {reply} laws {budget} {k} {b} {w} {c} before s vector ceilings count e ends =
    run_call laws e (searched before (record {
      climb = rw vector s.climb;
      afforded = s.afforded;
      ends = rw vector ends;
      ceilings = ceilings ∙ s.ceilings;
      count = count ∙ s.count;
    }))
