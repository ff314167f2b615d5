-- That an event's clock counts what happened before it. Assumes nothing.
use Rattle.std.proofs.Common.{◌≡◌, ℕ, zero, suc, ◌<◌, ◌≤◌, ◌⊎◌, List, length, get_or, sym, refl, ap, ◌∙◌, subst, inl, inr, ⊎_elim, arith}
use Rattle.std.proofs.lemmas.List.{get_or-set_other, get_or-replicate}
use Rattle.std.proofs.lemmas.Bool.{cases_eq, cases_lt}
use Rattle.trace.specs.declared.event.Event.{Event}
use Rattle.trace.specs.Events.{by, does, number, source, Sending, Receiving}
use Rattle.trace.specs.Before.{Before, Past}
use Rattle.trace.specs.Before.Before.{earlier, message, chain}
use Rattle.trace.specs.Clocks.{latest, received, mattern, entry, Knows}
use Rattle.trace.specs.Rules.{Valid}
use Rattle.trace.proofs.Sources.{sent, source_is}
use Rattle.trace.proofs.Counts.{number_is, number_le, number_from_le, number_total}
use Rattle.trace.proofs.Clocks.{find_last, received_from, received_own, received_sent, length-latest, length-row, own_next, rule}

module _ (n : ℕ) (es : List Event) (valid : Valid n es) (few : n ≤ 16) where
  -- the event that sent what a receive takes in
  sent_is : (s : Sending es) (r : Receiving es) → s.message ≡ r.message → s.at ≡ source es r.message
  sent_is s r e = sym (source_is es valid.sent_once s) ∙ ap (source es) e

  sent_before : (r : Receiving es) → Before es (source es r.message) r.at
  sent_before r = let s = sent n es valid r in subst (λ (x : ℕ). Before es x r.at) s.at (message s.sending r s.same)

  -- what happened before an event stands before it in the file
  pub before_less : (a b : ℕ) → Before es a b → a < b
  before_less _ _ (earlier a b lt within same) = lt
  before_less _ _ (message s r e) = omega (arith, sent_is s r e, (sent n es valid r).earlier)
  before_less _ _ (chain a b c f g) = omega (arith, before_less a b f, before_less b c g)

  pub before_within : (a b : ℕ) → Before es a b → b < length es
  before_within _ _ (earlier a b lt within same) = within
  before_within _ _ (message s r e) = r.within
  before_within _ _ (chain a b c f g) = before_within b c g

  -- of one process, the event with the smaller number is in the other's past
  pub number_past : (a b : ℕ) → b < length es → by es a ≡ by es b → number es a ≤ number es b → Past es a b
  number_past a b hb same le =
      let low = number_from_le es a b same le in
      ⊎_elim (λ lt. inl (earlier a b lt hb same)) (λ ge. inr (omega arith)) (cases_lt a b)

  pub then_past : (a b c : ℕ) → Before es a b → Past es b c → Past es a c
  then_past a b c f past = inl (⊎_elim (λ g. chain a b c f g) (λ same. subst (Before es a) same f) past)

  past_then : (a b c : ℕ) → Past es a b → Before es b c → Past es a c
  past_then a b c past g = inl (⊎_elim (λ f. chain a b c f g) (λ same. subst (λ (x : ℕ). Before es x c) (sym same) g) past)

  -- what happened before an event did so through one before it in its process, or through the sending event
  record Through (a e : ℕ) : Type 0 where
    at : ℕ
    less : at < e
    same : by es at ≡ by es e
    past : Past es a at

  record Taken (a e : ℕ) : Type 0 where
    receive : Receiving es
    is : receive.at ≡ e
    past : Past es a (source es receive.message)

  through : (a e : ℕ) → Before es a e → Through a e ⊎ Taken a e
  through _ _ (earlier a b lt within same) = inl (record { at = a; less = lt; same = same; past = inr refl })
  through _ _ (message s r e) = inr (record { receive = r; is = refl; past = inr (sent_is s r e) })
  through _ _ (chain a b c f g) =
      ⊎_elim
      (λ t. inl (record { at = t.at; less = t.less; same = t.same; past = then_past a b t.at f t.past }))
      (λ t. inr (record { receive = t.receive; is = t.is; past = then_past a b (source es t.receive.message) f t.past }))
      (through b c g)

  abbrev table : List (List ℕ)
  table = mattern es (length es)

  abbrev start : ℕ → List ℕ
  start e = latest es table (by es e) e

  long : (e : ℕ) → length (start e) ≡ 16
  long e = length-latest es table (by es e) e (length-row es (length es))

  pub own : (e : ℕ) → e < length es → entry es e (by es e) ≡ number es e
  own e h = ap (λ c. get_or c (by es e) 0) (rule n es e valid h) ∙ own_next es table e (by es e) (length-row es (length es)) (omega (arith, valid.process e h)) refl

  other : (e j : ℕ) → e < length es → (j ≡ by es e → ⊥) → entry es e j ≡ get_or (received es table (does es e) (start e)) j 0
  other e j h ne = ap (λ c. get_or c j 0) (rule n es e valid h) ∙ get_or-set_other _ (by es e) j (number es e) 0 ne

  -- where an entry for another process comes from
  record Origin (e j h : ℕ) : Type 0 where
    at : ℕ
    less : at < e
    before : Before es at e
    most : h ≤ entry es at j

  origin : (e j h : ℕ) → e < length es → j < 16 → (j ≡ by es e → ⊥) → 0 < h → h ≤ entry es e j → Origin e j h
  origin e j h he hj ne pos le =
      ⊎_elim
      (λ old.
      ⊎_elim
      (λ l. record { at = l.at; less = l.within; before = earlier l.at e l.within he l.of; most = omega (arith, ap (λ c. get_or c j 0) l.is) })
      (λ l. absurd (omega (arith, ap (λ c. get_or c j 0) l.is, get_or-replicate {A = ℕ} 16 j 0 0 hj)))
      (find_last es table (by es e) e))
      (λ f.
      let r : Receiving es = record { at = e; within = he; message = f.message; is = f.is } in
      record { at = source es f.message; less = (sent n es valid r).earlier; before = sent_before r; most = f.most })
      (received_from es table (does es e) (start e) j h (omega (arith, long e)) (omega (arith, other e j he ne)))

  abbrev All : ℕ → Type 0
  All e = (j : ℕ) → j < 16 → Knows es e j (entry es e j)

  at_own : (e : ℕ) → e < length es → Knows es e (by es e) (number es e)
  at_own e he =
      record {
        there = number_total es e he;
        first = λ a ha same le. number_past a e he same le;
        only = λ a ha same past.
            number_le es a e same (⊎_elim (λ f. omega (arith, before_less a e f)) (λ eq. omega arith) past);
      }

  at_other : (e j : ℕ) → e < length es → ((d : ℕ) → d < e → All d) → j < 16 → (j ≡ by es e → ⊥) → Knows es e j (entry es e j)
  at_other e j he ih hj ne =
      let below : (h : ℕ) → h ≤ get_or (start e) j 0 → h ≤ entry es e j =
      λ h le. omega (arith, other e j he ne, received_own es table (does es e) (start e) j (omega (arith, long e))) in
      record {
        there =
            ⊎_elim
            (λ pos. let s = origin e j (entry es e j) he hj ne pos (omega arith) in let k = (ih s.at s.less j hj).there in omega (arith, s.most))
            (λ none. omega arith)
            (cases_lt 0 (entry es e j));
        first = λ a ha same le.
            let s = origin e j (number es a) he hj ne (omega (arith, number_is es a j same)) le in
            past_then a s.at e ((ih s.at s.less j hj).first a ha same s.most) s.before;
        only = λ a ha same past.
            ⊎_elim
            (λ f.
            ⊎_elim
            (λ t.
            ⊎_elim
            (λ l.
            let le = l.most t.at t.less t.same in
            let reach : Past es a l.at =
            ⊎_elim
            (λ lt. past_then a t.at l.at t.past (earlier t.at l.at lt (omega (arith, l.within)) (t.same ∙ sym l.of)))
            (λ ge. let eq : t.at ≡ l.at = omega arith in subst (Past es a) eq t.past)
            (cases_lt t.at l.at) in
            let k = (ih l.at l.within j hj).only a ha same reach in
            below (number es a) (omega (arith, ap (λ c. get_or c j 0) l.is)))
            (λ l. absurd (l.none t.at t.less t.same))
            (find_last es table (by es e) e))
            (λ s.
            let r = s.receive in
            let k = (ih (source es r.message) (omega (arith, (sent n es valid r).earlier, s.is)) j hj).only a ha same s.past in
            let is = ap (does es) (sym s.is) ∙ r.is in
            omega (arith, other e j he ne, received_sent es table (does es e) (start e) j r.message (omega (arith, long e)) is))
            (through a e f))
            (λ eq. absurd (ne (sym (subst (λ (x : ℕ). by es x ≡ j) eq same))))
            past;
      }

  step : (e : ℕ) → e < length es → ((d : ℕ) → d < e → All d) → All e
  step e he ih j hj =
      ⊎_elim
      (λ eq. let k : Knows es e (by es e) (entry es e (by es e)) = subst (Knows es e (by es e)) (sym (own e he)) (at_own e he) in subst (λ (i : ℕ). Knows es e i (entry es e i)) (sym eq) k)
      (λ ne. at_other e j he ih hj ne)
      (cases_eq j (by es e))

  below : (k e : ℕ) → e < k → e < length es → All e
  below zero e h he = absurd (omega arith)
  below (suc k) e h he = step e he (λ d lt. below k d (omega arith) (omega arith))

  -- exactly the first so many events of process j as event e's clock says happened before e or are it
  pub clock_knows : (e j : ℕ) → e < length es → j < n → Knows es e j (entry es e j)
  clock_knows e j he hj = below (suc e) e (omega arith) he j (omega arith)
