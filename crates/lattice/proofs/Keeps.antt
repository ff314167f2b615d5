-- What every call on a board keeps, for a condition that keeps the laws. Assumes nothing but the laws.
use Rattle.std.proofs.Common.{◌≡◌, ℕ, ◌<◌, ◌≤◌, min, max, ◌⊎◌, [], ◌∷◌, get_or, set, Ok, sym, refl, ap, ◌∙◌, subst, inl, inr, ⊎_elim, arith}
use Rattle.std.proofs.lemmas.List.{get_or-replicate, set-get_or}
use Rattle.std.proofs.lemmas.Bool.{cases_lt}
use Rattle.lattice.specs.declared.vector.Vector.{Vector}
use Rattle.lattice.specs.declared.condition.Reply.{Reply}
use Rattle.lattice.specs.declared.board.Board.{Board}
use Rattle.lattice.specs.declared.verdict.Verdict.{Verdict}
use Rattle.lattice.specs.declared.call.Call.{Call}
use Rattle.lattice.specs.Limits.{places, highest}
use Rattle.lattice.specs.Order.{at, AtMost}
use Rattle.lattice.specs.Laws.{Lawful}
use Rattle.lattice.specs.Refusals.{Accepted}
use Rattle.lattice.specs.Steps.{IsOpen, IsFound, IsNone, answer_of, reopened, reading, Fresh, FloorStep, CeilingStep, Climb, Ends, holds as held, never, above, spent, RunStep, found, none, searched}
use Rattle.lattice.specs.History.{Entry, History, floor, ceiling, run, FloorAccepted, CeilingAccepted, Judged, lifts, if_pending, pending_budgets, Step, floored, floor_refused, ceiled, ceiling_refused, ran, answered, Reached, new, called}
use Rattle.lattice.specs.Promises.{CeilingOf}
use Rattle.lattice.proofs.Heights.{set_each, set_each_other, set_here, same_vector}
use Rattle.lattice.proofs.Verdicts.{open_not_found, open_not_none, found_not_none, reopened_not_found, reopened_none}
use Rattle.lattice.proofs.Climbs.{climb_up, climb_below, climb_inside}
use Rattle.lattice.proofs.Bounds.{Neutral, run_neutral, read_neutral, floor_neutral, ceiling_neutral, Over, Shut, nowhere, past, shut_more, floor_accepted}

less : {holds : Vector → Type 0} {e : Entry} {l : History} {w : Vector} → ((p h : ℕ) → FloorAccepted p h l → FloorAccepted p h (e ∷ l)) → Over holds (e ∷ l) w → Over holds l w
less taken s = record { satisfied = s.satisfied; floors = λ p h t. s.floors p h (taken p h t) }

module _ {holds : Vector → Type 0} {reply : Vector → Reply} (laws : Lawful holds reply) where
  pub record Keeps (l : History) (b : Board) : Type 0 where
    pub below : (w : Vector) → Over holds l w → AtMost b.vector w
    pub floors : (p h : ℕ) → FloorAccepted p h l → h ≤ at b.vector p
    pub tops : (p : ℕ) → p < places → CeilingOf l p (at b.ceilings p)
    pub judged : Judged l
    pub inside : (IsNone b.verdict → ⊥) → AtMost b.vector b.ceilings
    pub found : IsFound b.verdict → holds b.vector
    pub none : IsNone b.verdict → Shut holds b.vector b.ceilings
    pub counted : b.count ≡ lifts l
    pub budgets : pending_budgets l ≤ lifts l

  keeps_new : {b : Board} → Fresh b → Keeps [] b
  keeps_new {b} f =
      let zero_at : (i : ℕ) → i < places → at b.vector i ≡ 0 = λ i hi. ap (λ l. get_or l i 0) f.heights ∙ get_or-replicate places i 0 0 hi in
      let top_at : (i : ℕ) → i < places → at b.ceilings i ≡ highest = λ i hi. ap (λ l. get_or l i 0) f.ceilings ∙ get_or-replicate places i highest 0 hi in
      record {
        below = λ w s i hi. omega (arith, zero_at i hi);
        floors = λ p h t. absurd t;
        tops = λ p lt. record { within = λ h t. absurd t; given = inl (top_at p lt) };
        judged = tt;
        inside = λ ne i hi. omega (arith, zero_at i hi);
        found = λ e. absurd (open_not_found f.verdict e);
        none = λ e. absurd (open_not_none f.verdict e);
        counted = f.count;
        budgets = omega arith;
      }

  tops_neutral : {e : Entry} → Neutral e → (l : History) (p t : ℕ) → CeilingOf l p t → CeilingOf (e ∷ l) p t
  tops_neutral idle l p t c = record { within = λ h m. c.within h (idle.ceilings l p h m); given = ⊎_elim inl (λ m. inr (idle.ceilings_back l p t m)) c.given }

  -- a call that moves nothing
  keeps_same : {l : History} {b : Board} {e : Entry} → Neutral e → ((w : Vector) → Over holds (e ∷ l) w → Over holds l w) → lifts (e ∷ l) ≡ lifts l → pending_budgets (e ∷ l) ≡ pending_budgets l → Keeps l b → Keeps (e ∷ l) b
  keeps_same {l} idle earlier same_lifts same_budgets k = record {
    below = λ w s. k.below w (earlier w s);
    floors = λ p h t. k.floors p h (idle.floors l p h t);
    tops = λ p lt. tops_neutral idle l p _ (k.tops p lt);
    judged = idle.judged l k.judged;
    inside = k.inside;
    found = k.found;
    none = k.none;
    counted = k.counted ∙ sym same_lifts;
    budgets = omega (arith, k.budgets, same_lifts, same_budgets);
  }

  -- the end of a search, from a board that kept what every call keeps
  module _ {l : History} {b : Board} (kept : Keeps l b) (is_open : IsOpen b.verdict) {n : ℕ} {u : Vector} (climb : Climb reply b.ceilings b.vector n u) where
    -- what the ends say of the verdict that they leave
    record End (budget : ℕ) (v : Verdict) : Type 0 where
      found : IsFound v → holds u
      none : IsNone v → Shut holds u b.ceilings
      budgets : if_pending (answer_of v) budget ≤ n

    at_end : {budget : ℕ} {v : Verdict} → Ends reply b.ceilings budget n u v → End budget v
    at_end (held r) = record { found = λ e. laws.holds_then u r; none = λ e. absurd (found_not_none refl e); budgets = omega arith }
    at_end (never r) = record { found = λ e. absurd (found_not_none e refl); none = λ e. nowhere (laws.never u r); budgets = omega arith }
    at_end (above {p = p} {h = h} r gt) = record {
      found = λ e. absurd (found_not_none e refl);
      none = λ e. past p (laws.place u p h r) (λ w up s. omega (arith, gt, laws.needed u p h r w up s));
      budgets = omega arith;
    }
    at_end (spent up sp) = record { found = λ e. absurd (open_not_found refl e); none = λ e. absurd (open_not_none refl e); budgets = omega (arith, sp) }

  keeps_ran : {l : History} {b c : Board} {budget n : ℕ} → Keeps l b → RunStep reply budget b n c → Keeps (run budget (answer_of c.verdict) n (reading c) ∷ l) c
  keeps_ran {budget = budget} k (found e) = keeps_same run_neutral (λ w s. less (λ p h t. t) s) (omega arith) (omega (arith, ap (λ v. if_pending (answer_of v) budget) e)) k
  keeps_ran {budget = budget} k (none e) = keeps_same run_neutral (λ w s. less (λ p h t. t) s) (omega arith) (omega (arith, ap (λ v. if_pending (answer_of v) budget) e)) k
  keeps_ran {l} {b} {c} {budget} {n} k (searched e s) =
      let end = at_end k e s.climb s.ends in
      let up = climb_up laws s.climb in
      record {
        below = λ w o. climb_below laws s.climb w o.satisfied (k.below w (less (λ p h t. t) o));
        floors = λ p h t. omega (arith, k.floors p h t, up p (floor_accepted l k.judged t).0);
        tops = λ p lt. subst (λ t. CeilingOf (run budget (answer_of c.verdict) n (reading c) ∷ l) p (at t p)) (sym s.ceilings) (tops_neutral run_neutral l p _ (k.tops p lt));
        judged = k.judged;
        inside = λ ne. subst (AtMost c.vector) (sym s.ceilings) (climb_inside laws s.climb (k.inside (open_not_none e)));
        found = end.found;
        none = λ f. subst (Shut holds c.vector) (sym s.ceilings) (end.none f);
        counted = omega (arith, s.count, k.counted);
        budgets = omega (arith, k.budgets, end.budgets);
      }

  keeps_floored : {l : History} {b c : Board} (p h : ℕ) → Keeps l b → Accepted p h → FloorStep p h b c → Keeps (floor p h (Ok tt) (reading c) ∷ l) c
  keeps_floored {l} {b} {c} p h k acc f =
      let v = b.vector in
      let w = c.vector in
      let top = c.ceilings in
      let here : at w p ≡ max (at v p) h = set_here v w p (max (at v p) h) acc.0 f.vector in
      let each = λ (P : ℕ → ℕ → Type 0). set_each P v w p (max (at v p) h) acc.0 f.vector in
      let up : AtMost v w = each (λ i x. at v i ≤ x) (omega arith) (λ i hi. omega arith) in
      let earlier : (s : Vector) → Over holds (floor p h (Ok tt) (reading c) ∷ l) s → Over holds l s = λ s o. less (λ q g t. inr t) o in
      let inside₀ : (IsNone b.verdict → ⊥) → AtMost v top = λ ne. subst (AtMost v) (sym f.ceilings) (k.inside ne) in
      let none₀ : IsNone b.verdict → Shut holds v top = λ e. subst (Shut holds v) (sym f.ceilings) (k.none e) in
      let still_none : IsNone b.verdict → IsNone c.verdict =
      λ e. ⊎_elim f.over (λ fits. ⊎_elim (λ rose. f.rose fits rose ∙ ap reopened e) (λ same. f.kept fits same ∙ e) (cases_lt (at v p) (at w p))) (cases_lt (at top p) (at w p)) in
      record {
        below = λ s o. each (λ i x. x ≤ at s i) (omega (arith, o.floors p h (inl (refl, refl)), k.below s (earlier s o) p acc.0)) (k.below s (earlier s o));
        floors = λ q g t. ⊎_elim (λ e. subst (λ i. g ≤ at w i) e.0 (omega arith)) (λ t. omega (arith, k.floors q g t, up q (floor_accepted l k.judged t).0)) t;
        tops = λ q lt. let o = k.tops q lt in let same : at top q ≡ at b.ceilings q = ap (λ t. at t q) f.ceilings in
            record { within = λ g t. omega (arith, o.within g t); given = ⊎_elim (λ (e : at b.ceilings q ≡ highest). inl (omega arith)) (λ t. inr (subst (λ x. CeilingAccepted q x l) (sym same) t)) o.given };
        judged = (acc, k.judged);
        inside = λ ne. ⊎_elim (λ over. absurd (ne (f.over over))) (λ fits. each (λ i x. x ≤ at top i) (omega arith) (inside₀ (λ e. ne (still_none e)))) (cases_lt (at top p) (at w p));
        found = λ e. ⊎_elim (λ over. absurd (found_not_none e (f.over over)))
            (λ fits. ⊎_elim (λ rose. absurd (reopened_not_found b.verdict (sym (f.rose fits rose) ∙ e)))
            (λ (same : at w p ≤ at v p). let stays : max (at v p) h ≡ at v p = omega arith in
            subst holds (sym (same_vector w v (f.vector ∙ ap (set v.heights p) stays ∙ set-get_or v.heights p 0))) (k.found (sym (f.kept fits same) ∙ e)))
            (cases_lt (at v p) (at w p))) (cases_lt (at top p) (at w p));
        none = λ e. ⊎_elim (λ (high : at top p < at w p). past p acc.0 (λ s high_up sol. omega (arith, high_up p acc.0)))
            (λ fits. shut_more (none₀ (⊎_elim (λ rose. reopened_none b.verdict (sym (f.rose fits rose) ∙ e)) (λ same. sym (f.kept fits same) ∙ e) (cases_lt (at v p) (at w p)))) up (λ i hi. omega arith))
            (cases_lt (at top p) (at w p));
        counted = f.count ∙ k.counted;
        budgets = k.budgets;
      }

  keeps_ceiled : {l : History} {b c : Board} (p h : ℕ) → Keeps l b → Accepted p h → CeilingStep p h b c → Keeps (ceiling p h (Ok tt) (reading c) ∷ l) c
  keeps_ceiled {l} {b} {c} p h k acc f =
      let v = c.vector in
      let top = b.ceilings in
      let low = c.ceilings in
      let here : at low p ≡ min (at top p) h = set_here top low p (min (at top p) h) acc.0 f.ceilings in
      let each = λ (P : ℕ → ℕ → Type 0). set_each P top low p (min (at top p) h) acc.0 f.ceilings in
      let down : AtMost low top = each (λ i x. x ≤ at top i) (omega arith) (λ i hi. omega arith) in
      let inside₀ : (IsNone b.verdict → ⊥) → AtMost v top = λ ne. subst (λ u. AtMost u top) (sym f.vector) (k.inside ne) in
      let none₀ : IsNone b.verdict → Shut holds v top = λ e. subst (λ u. Shut holds u top) (sym f.vector) (k.none e) in
      record {
        below = λ s o. subst (λ u. AtMost u s) (sym f.vector) (k.below s (less (λ q g t. t) o));
        floors = λ q g t. subst (λ u. g ≤ at u q) (sym f.vector) (k.floors q g t);
        tops = set_each_other (λ i x. CeilingOf (ceiling p h (Ok tt) (reading c) ∷ l) i x) top low p (min (at top p) h) acc.0 f.ceilings
            (let o = k.tops p acc.0 in record {
              within = λ g t. ⊎_elim (λ e. omega (arith, e.1)) (λ t. omega (arith, o.within g t)) t;
              given = ⊎_elim (λ (lt : at top p < h). let e : min (at top p) h ≡ at top p = omega arith in subst (λ x. (x ≡ highest) ⊎ CeilingAccepted p x (ceiling p h (Ok tt) (reading c) ∷ l)) (sym e) (⊎_elim inl (λ t. inr (inr t)) o.given))
                  (λ (le : h ≤ at top p). inr (inl (refl, omega arith))) (cases_lt (at top p) h);
            })
            (λ i li ne. let o = k.tops i li in record { within = λ g t. ⊎_elim (λ e. absurd (ne (sym e.0))) (o.within g) t; given = ⊎_elim inl (λ t. inr (inr t)) o.given });
        judged = (acc, k.judged);
        inside = λ ne. ⊎_elim (λ over. absurd (ne (f.over over))) (λ fits. each (λ i x. at v i ≤ x) (omega arith) (inside₀ (λ e. ne (f.kept fits ∙ e)))) (cases_lt (at low p) (at v p));
        found = λ e. ⊎_elim (λ over. absurd (found_not_none e (f.over over))) (λ fits. subst holds (sym f.vector) (k.found (sym (f.kept fits) ∙ e))) (cases_lt (at low p) (at v p));
        none = λ e. ⊎_elim (λ (high : at low p < at v p). past p acc.0 (λ s high_up sol. omega (arith, high_up p acc.0)))
            (λ fits. shut_more (none₀ (sym (f.kept fits) ∙ e)) (λ i hi. omega arith) down) (cases_lt (at low p) (at v p));
        counted = f.count ∙ k.counted;
        budgets = k.budgets;
      }

  keeps_step : {l : History} {a : Call} {e : Entry} {b c : Board} → Keeps l b → Step reply b a e c → Keeps (e ∷ l) c
  keeps_step k (floored {p = p} {h = h} acc f) = keeps_floored p h k acc f
  keeps_step k (floor_refused bad) = keeps_same (floor_neutral bad) (λ w s. less (λ p h t. t) s) refl refl k
  keeps_step k (ceiled {p = p} {h = h} acc f) = keeps_ceiled p h k acc f
  keeps_step k (ceiling_refused bad) = keeps_same (ceiling_neutral bad) (λ w s. less (λ p h t. t) s) refl refl k
  keeps_step k (ran s) = keeps_ran k s
  keeps_step k answered = keeps_same read_neutral (λ w s. less (λ p h t. t) s) refl refl k

  pub keeps : {l : History} {b : Board} → Reached reply l b → Keeps l b
  keeps (new f) = keeps_new f
  keeps (called r s) = keeps_step (keeps r) s
