-- The same calls on a new board have one result. Assumes nothing.
use Rattle.std.proofs.Common.{◌≡◌, ℕ, ◌<◌, ◌≤◌, cond, ltb, ◌∷◌, map, set, Ok, Err, sym, refl, ap, ◌∙◌, subst, ⊎_elim, arith}
use Rattle.std.proofs.lemmas.Bool.{cases_lt, cases_order, cond-true, cond-false, lt-ltb, le-ltb}
use denote.Struct.Record.{values_one}
use Rattle.refusal.specs.declared.Refusal.{Refusal}
use Rattle.lattice.specs.declared.vector.Vector.{Vector}
use Rattle.lattice.specs.declared.condition.Reply.{Reply}
use Rattle.lattice.specs.declared.condition.Reply.TheVariants.{Holds, Lift, Never}
use Rattle.lattice.specs.declared.board.Board.{Board}
use Rattle.lattice.specs.contracts.board.Board.{struct, the_propositions}
use Rattle.lattice.specs.contracts.vector.Vector.{the_row as vector_row}
use Rattle.lattice.specs.contracts.verdict.Verdict.{the_row as verdict_row}
use Rattle.lattice.specs.declared.verdict.Verdict as verdict
use Rattle.lattice.specs.declared.verdict.Verdict.{Verdict}
use Rattle.lattice.specs.declared.call.Call.{Call}
use Rattle.lattice.specs.Order.{at}
use Rattle.lattice.specs.Replies.{IsLift}
use Rattle.lattice.specs.Refusals.{Accepted, Refused, no_place, too_high}
use Rattle.lattice.specs.Steps.{Fresh, FloorStep, CeilingStep, Climb, stay, lift, Liftable, Ends, holds as held, never, above, spent, Searched, RunStep, found, none, searched, reading, answer_of}
use Rattle.lattice.specs.History.{Entry, History, floor, ceiling, run, asked, Step, floored, floor_refused, ceiled, ceiling_refused, ran, answered, Reached, new, called}
use Rattle.lattice.specs.Runs.{OneRun, OneBoard}
use Rattle.lattice.proofs.Heights.{same_vector}
use Rattle.lattice.proofs.Verdicts.{open_not_found, open_not_none, found_not_none}

-- boards with the same parts are the same
same_board : (b c : Board) → b.vector ≡ c.vector → b.ceilings ≡ c.ceilings → b.verdict ≡ c.verdict → b.count ≡ c.count → b ≡ c
same_board b c e f g h = values_one struct (the_propositions vector_row.coded verdict_row.coded) b c (cc)

fresh_once : {b c : Board} → Fresh b → Fresh c → b ≡ c
fresh_once {b} {c} f g =
    same_board b c (same_vector _ _ (f.heights ∙ sym g.heights)) (same_vector _ _ (f.ceilings ∙ sym g.ceilings)) (f.verdict ∙ sym g.verdict) (f.count ∙ sym g.count)

refused_once : {p h : ℕ} {e f : Refusal} → Refused p h e → Refused p h f → e ≡ f
refused_once (no_place x) (no_place y) = refl
refused_once (no_place x) (too_high y z) = absurd (omega arith)
refused_once (too_high x z) (no_place y) = absurd (omega arith)
refused_once (too_high x z) (too_high y w) = refl

refused_only : {p h : ℕ} {e : Refusal} → Accepted p h → Refused p h e → ⊥
refused_only a (no_place x) = omega (arith, a.0)
refused_only a (too_high x y) = omega (arith, a.1)

module _ {p h : ℕ} {b c d : Board} where
  floor_once : FloorStep p h b c → FloorStep p h b d → c ≡ d
  floor_once f g =
      let same : c.vector ≡ d.vector = same_vector _ _ (f.vector ∙ sym g.vector) in
      let tops : c.ceilings ≡ d.ceilings = f.ceilings ∙ sym g.ceilings in
      let v : at c.vector p ≡ at d.vector p = ap (λ u. at u p) same in
      let t : at c.ceilings p ≡ at d.ceilings p = ap (λ u. at u p) tops in
      same_board c d same tops
      (⊎_elim (λ over. f.over over ∙ sym (g.over (omega arith)))
      (λ fits. ⊎_elim (λ rose. f.rose fits rose ∙ sym (g.rose (omega arith) (omega arith))) (λ flat. f.kept fits flat ∙ sym (g.kept (omega arith) (omega arith))) (cases_lt (at b.vector p) (at c.vector p)))
      (cases_lt (at c.ceilings p) (at c.vector p)))
      (f.count ∙ sym g.count)

  ceiling_once : CeilingStep p h b c → CeilingStep p h b d → c ≡ d
  ceiling_once f g =
      let same : c.vector ≡ d.vector = f.vector ∙ sym g.vector in
      let tops : c.ceilings ≡ d.ceilings = same_vector _ _ (f.ceilings ∙ sym g.ceilings) in
      let v : at c.vector p ≡ at d.vector p = ap (λ u. at u p) same in
      let t : at c.ceilings p ≡ at d.ceilings p = ap (λ u. at u p) tops in
      same_board c d same tops
      (⊎_elim (λ over. f.over over ∙ sym (g.over (omega arith))) (λ fits. f.kept fits ∙ sym (g.kept (omega arith))) (cases_lt (at c.ceilings p) (at c.vector p)))
      (f.count ∙ sym g.count)

-- one reply gives one lift
one_lift : {r : Reply} {p h q g : ℕ} → IsLift r p h → IsLift r q g → (p ≡ q) × (h ≡ g)
one_lift {r} {p} {h} {q} {g} e f =
    let same : ◌≡◌ {A = ℕ × ℕ} (p, h) (q, g) = cc in
    (ap (λ (x : ℕ × ℕ). x.0) same, ap (λ (x : ℕ × ℕ). x.1) same)

-- the verdict that a search leaves, by the reply to where it ends
abbrev verdict_at : Vector → Reply → Verdict
verdict_at top Holds = verdict.TheVariants.Found
verdict_at top (Lift l) = cond (ltb (at top l.0) l.1) verdict.TheVariants.None verdict.TheVariants.Open
verdict_at top Never = verdict.TheVariants.None

module _ {reply : Vector → Reply} {top : Vector} where
  -- so many lifts lead to one vector
  climb_once : {v u w : Vector} {j k : ℕ} → Climb reply top v j u → Climb reply top v k w → j ≡ k → u ≡ w
  climb_once stay stay e = refl
  climb_once stay (lift c r le s) e = absurd (omega arith)
  climb_once (lift c r le s) stay e = absurd (omega arith)
  climb_once (lift {p = p} {h = h} {u = x} {w = u} c r le s) (lift {p = q} {h = g} {u = y} {w = w} d r' le' s') e =
      let before : x ≡ y = climb_once c d (omega arith) in
      let one = one_lift r (ap reply before ∙ r') in
      same_vector u w (s ∙ ap (λ z. set z.heights p h) before ∙ ap (λ n. set y.heights n h) one.0 ∙ ap (λ n. set y.heights q n) one.1 ∙ sym s')

  -- where a longer climb passes, there is a lift
  climb_part : {v w : Vector} {k : ℕ} → Climb reply top v k w → (j : ℕ) → j < k → (u : Vector) × Climb reply top v j u × Liftable reply top u
  climb_part stay j lt = absurd (omega arith)
  climb_part {v} (lift {k = k} {p = p} {h = h} {u = u} c r le s) j lt =
      ⊎_elim (λ (less : j < k). climb_part c j less)
      (λ (more : k ≤ j). let here : k ≡ j = omega arith in (u, subst (λ n. Climb reply top v n u) here c, (p, h, r, le)))
      (cases_lt j k)

  -- and no search ends there
  no_end : {budget j : ℕ} {u w : Vector} {v : Verdict} → Ends reply top budget j w v → w ≡ u → Liftable reply top u → j < budget → ⊥
  no_end (held r) e (p, h, l, le) lt = let again = ap reply e in let z : ◌≡◌ {A = ℕ} 0 1 = cc in omega arith
  no_end (never r) e (p, h, l, le) lt = let again = ap reply e in let z : ◌≡◌ {A = ℕ} 0 1 = cc in omega arith
  no_end (above {p = q} {h = g} r gt) e (p, h, l, le) lt = let one = one_lift r (ap reply e ∙ l) in let t = ap (at top) one.0 in omega (arith, one.1)
  no_end (spent up s) e l lt = omega arith

  ends_at : {budget k : ℕ} {w : Vector} {v : Verdict} → Ends reply top budget k w v → v ≡ verdict_at top (reply w)
  ends_at (held r) = sym (ap (verdict_at top) r)
  ends_at (never r) = sym (ap (verdict_at top) r)
  ends_at (above {p = p} {h = h} r gt) = sym (ap (verdict_at top) r ∙ cond-true (ltb (at top p) h) _ _ (lt-ltb (at top p) h gt))
  ends_at (spent (p, h, r, le) s) = sym (ap (verdict_at top) r ∙ cond-false (ltb (at top p) h) _ _ (le-ltb (at top p) h le))

module _ {reply : Vector → Reply} {budget : ℕ} {b c d : Board} {j k : ℕ} where
  no_shorter : Searched reply budget b j c → Searched reply budget b k d → j < k → ⊥
  no_shorter s t lt = by (climb_part t.climb j lt)
    where
      by : (u : Vector) × Climb reply b.ceilings b.vector j u × Liftable reply b.ceilings u → ⊥
      by (u, part, up) = no_end s.ends (climb_once s.climb part refl) up (omega (arith, t.afforded))

  same_search : Searched reply budget b j c → Searched reply budget b k d → j ≡ k → c ≡ d
  same_search s t e =
      let same = climb_once s.climb t.climb e in
      same_board c d same (s.ceilings ∙ sym t.ceilings) (ends_at s.ends ∙ ap (λ u. verdict_at b.ceilings (reply u)) same ∙ sym (ends_at t.ends)) (omega (arith, s.count, t.count))

search_once : {reply : Vector → Reply} {budget j k : ℕ} {b c d : Board} → Searched reply budget b j c → Searched reply budget b k d → (j ≡ k) × (c ≡ d)
search_once {j = j} {k = k} s t =
    ⊎_elim (λ e. (e, same_search s t e)) (⊎_elim (λ lt. absurd (no_shorter s t lt)) (λ gt. absurd (no_shorter t s gt))) (cases_order j k)

run_once : {reply : Vector → Reply} {budget j k : ℕ} {b c d : Board} → RunStep reply budget b j c → RunStep reply budget b k d → (j ≡ k) × (c ≡ d)
run_once (found e) (found f) = (refl, refl)
run_once (found e) (none f) = absurd (found_not_none e f)
run_once (found e) (searched f t) = absurd (open_not_found f e)
run_once (none e) (found f) = absurd (found_not_none f e)
run_once (none e) (none f) = (refl, refl)
run_once (none e) (searched f t) = absurd (open_not_none f e)
run_once (searched e s) (found f) = absurd (open_not_found e f)
run_once (searched e s) (none f) = absurd (open_not_none e f)
run_once (searched e s) (searched f t) = search_once s t

pub one_run : OneRun
one_run reply n j k b c d s t = run_once s t

step_once : {reply : Vector → Reply} {b c d : Board} {a : Call} {e f : Entry} → Step reply b a e c → Step reply b a f d → (e ≡ f) × (c ≡ d)
step_once (floored {p = p} {h = h} acc s) (floored acc' t) = let same = floor_once s t in (ap (λ x. floor p h (Ok tt) (reading x)) same, same)
step_once (floored acc s) (floor_refused bad) = absurd (refused_only acc bad)
step_once (floor_refused bad) (floored acc s) = absurd (refused_only acc bad)
step_once {b = b} (floor_refused {p = p} {h = h} bad) (floor_refused bad') = (ap (λ x. floor p h (Err x) (reading b)) (refused_once bad bad'), refl)
step_once (ceiled {p = p} {h = h} acc s) (ceiled acc' t) = let same = ceiling_once s t in (ap (λ x. ceiling p h (Ok tt) (reading x)) same, same)
step_once (ceiled acc s) (ceiling_refused bad) = absurd (refused_only acc bad)
step_once (ceiling_refused bad) (ceiled acc s) = absurd (refused_only acc bad)
step_once {b = b} (ceiling_refused {p = p} {h = h} bad) (ceiling_refused bad') = (ap (λ x. ceiling p h (Err x) (reading b)) (refused_once bad bad'), refl)
step_once (ran {budget = n} {k = k} {c = c} s) (ran {k = j} {c = d} t) =
    let one = run_once s t in
    (ap (λ i. run n (answer_of c.verdict) i (reading c)) one.0 ∙ ap (λ x. run n (answer_of x.verdict) j (reading x)) one.1, one.1)
step_once answered answered = (refl, refl)

step_asked : {reply : Vector → Reply} {b c : Board} {a : Call} {e : Entry} → Step reply b a e c → asked e ≡ a
step_asked (floored acc f) = refl
step_asked (floor_refused bad) = refl
step_asked (ceiled acc f) = refl
step_asked (ceiling_refused bad) = refl
step_asked (ran s) = refl
step_asked answered = refl

pub one_board : OneBoard
one_board reply l m b c r s e = by r s e
  where
    by : {l m : History} {b c : Board} → Reached reply l b → Reached reply m c → map asked l ≡ map asked m → (l ≡ m) × (b ≡ c)
    by (new f) (new g) e = (refl, fresh_once f g)
    by (new f) (called s t) e = let z : ◌≡◌ {A = ℕ} 0 1 = cc in absurd (omega arith)
    by (called r s) (new g) e = let z : ◌≡◌ {A = ℕ} 0 1 = cc in absurd (omega arith)
    by (called {l = l} {a = a} {e = x} {b = b} {c = c} r s) (called {l = m} {a = a'} {e = y} {b = b'} {c = c'} r' s') e =
        let same : map asked l ≡ map asked m = cc in
        let asks : asked x ≡ asked y = cc in
        let before = by r r' same in
        let call : a ≡ a' = sym (step_asked s) ∙ asks ∙ step_asked s' in
        let one = step_once (subst (λ z. Step reply z a x c) before.1 s) (subst (λ z. Step reply b' z y c') (sym call) s') in
        (ap (λ z. z ∷ l) one.0 ∙ ap (λ z. y ∷ z) before.0, one.1)
