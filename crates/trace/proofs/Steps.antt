-- The clocks after one event more: those before it stay, and its own is the tick. Assumes nothing.
use Rattle.std.proofs.Common.{◌≡◌, ℕ, zero, suc, ◌+◌, ◌≤◌, cond, eqb, List, [], ◌∷◌, ◌++◌, length, get_or, set, refl, ap, ◌∙◌, arith}
use Rattle.trace.specs.declared.event.Event.{Event}
use Rattle.trace.specs.declared.event.Action.{Action}
use Rattle.trace.specs.declared.event.Action.TheVariants.{Local, Send, Receive}
use Rattle.trace.specs.Events.{by, does, number, total}
use Rattle.trace.specs.Rules.{Valid}
use Rattle.trace.specs.Clocks.{zeros, merged, latest, received, next, mattern}
use Rattle.trace.specs.Growth.{Fits, sent_by, taken_in, ticked}
use Rattle.trace.proofs.Appended.{more, longer, old_by, last_by, old_does, last_does, number_old, number_last}
use Rattle.trace.proofs.Sources.{source_old}
use Rattle.trace.proofs.Clocks.{received_same, source_less}
use Rattle.trace.proofs.Grown.{answered}

module _ (es : List Event) (ev : Event) where
  latest_old : (cs : List (List ℕ)) (i k : ℕ) → k ≤ length es → latest (more es ev) cs i k ≡ latest es cs i k
  latest_old cs i zero h = refl
  latest_old cs i (suc k) h =
      ap (λ c. cond (eqb (by (more es ev) k) i) (get_or cs k zeros) c) (latest_old cs i k (omega arith))
      ∙ ap (λ (p : ℕ). cond (eqb p i) (get_or cs k zeros) (latest es cs i k)) (old_by es ev k h)

  -- the clock of an event, where what it is and what it receives are known
  next_is : (cs : List (List ℕ)) (e p k : ℕ) (a : Action) (c : List ℕ) → e ≤ length es → by (more es ev) e ≡ p → does (more es ev) e ≡ a → number (more es ev) e ≡ k →
      received (more es ev) cs a (latest es cs p e) ≡ c → next (more es ev) cs e ≡ set c p k
  next_is cs e p k a c h of acts counts takes =
      ap (λ (x : ℕ). set (received (more es ev) cs (does (more es ev) e) (latest (more es ev) cs x e)) x (number (more es ev) e)) of
      ∙ ap (λ x. set (received (more es ev) cs x (latest (more es ev) cs p e)) p (number (more es ev) e)) acts
      ∙ ap (λ x. set (received (more es ev) cs a x) p (number (more es ev) e)) (latest_old cs p e h)
      ∙ ap (λ x. set x p (number (more es ev) e)) takes
      ∙ ap (λ (x : ℕ). set c p x) counts

  pub clocks_old : (n : ℕ) → Valid n es → (k : ℕ) → k ≤ length es → mattern (more es ev) k ≡ mattern es k
  clocks_old n v zero h = refl
  clocks_old n v (suc k) h =
      let cs = mattern es k in
      ap (λ x. x ++ next (more es ev) x k ∷ []) (clocks_old n v k (omega arith))
      ∙ ap (λ x. cs ++ x ∷ [])
      (next_is cs k (by es k) (number es k) (does es k) (received es cs (does es k) (latest es cs (by es k) k)) (omega arith)
      (old_by es ev k h) (old_does es ev k h) (number_old es ev k h)
      (received_same (more es ev) es cs cs (does es k) (latest es cs (by es k) k)
      (λ m is. ap (λ (x : ℕ). get_or cs x zeros) (source_old es ev m (let lt = source_less n es v k m h is in omega arith)))))

  takes_in : (n : ℕ) → Fits n es ev → (cs : List (List ℕ)) (a : Action) (c : List ℕ) → ev.action ≡ a → received (more es ev) cs a c ≡ taken_in cs (sent_by es a) c
  takes_in n fits cs Local c is = refl
  takes_in n fits cs (Send to m) c is = refl
  takes_in n fits cs (Receive m) c is = ap (λ (x : ℕ). merged c (get_or cs x zeros)) (source_old es ev m (answered n es ev fits m is).within)

  pub clocks_more : (n : ℕ) → Valid n es → Fits n es ev → mattern (more es ev) (length (more es ev)) ≡ mattern es (length es) ++ ticked es ev.process (sent_by es ev.action) ∷ []
  clocks_more n v fits =
      let cs = mattern es (length es) in
      let p = ev.process in
      let e : length (more es ev) ≡ suc (length es) = omega (arith, longer es ev) in
      ap (mattern (more es ev)) e
      ∙ ap (λ x. x ++ next (more es ev) x (length es) ∷ []) (clocks_old n v (length es) (omega arith))
      ∙ ap (λ x. cs ++ x ∷ [])
      (next_is cs (length es) p (total es p + 1) ev.action (taken_in cs (sent_by es ev.action) (latest es cs p (length es))) (omega arith)
      (last_by es ev (length es) refl) (last_does es ev (length es) refl) (number_last es ev (length es) refl)
      (takes_in n fits cs ev.action (latest es cs p (length es)) refl))
