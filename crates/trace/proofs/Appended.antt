-- One event more: what it changes, and that nothing changes for the events before it. Assumes nothing.
use Rattle.std.proofs.Common.{◌≡◌, ℕ, zero, suc, ◌+◌, ◌<◌, ◌≤◌, cond, eqb, ◌⊎◌, List, [], ◌∷◌, ◌++◌, length, sym, refl, ap, ◌∙◌, inl, inr, ⊎_elim, arith}
use Rattle.std.proofs.lemmas.List.{length_push, get_or_push, get_or_append_left}
use Rattle.std.proofs.lemmas.Bool.{cases_lt}
use Rattle.trace.specs.declared.event.Event.{Event}
use Rattle.trace.specs.Events.{event, by, does, count, number, total, Sending, Receiving}
use Rattle.trace.proofs.Counts.{count_here, count_other, number_is}

abbrev pub more : List Event → Event → List Event
more es ev = es ++ ev ∷ []

module _ (es : List Event) (ev : Event) where
  pub longer : length (more es ev) ≡ length es + 1
  longer = length_push es ev

  pub old : (e : ℕ) → e < length es → event (more es ev) e ≡ event es e
  old e h = get_or_append_left es (ev ∷ []) _ e h

  pub last : (e : ℕ) → e ≡ length es → event (more es ev) e ≡ ev
  last e h = ap (event (more es ev)) h ∙ get_or_push es ev _ (length es) refl

  pub old_by : (e : ℕ) → e < length es → by (more es ev) e ≡ by es e
  old_by e h = ap (λ x. x.process) (old e h)

  pub last_by : (e : ℕ) → e ≡ length es → by (more es ev) e ≡ ev.process
  last_by e h = ap (λ x. x.process) (last e h)

  pub old_does : (e : ℕ) → e < length es → does (more es ev) e ≡ does es e
  old_does e h = ap (λ x. x.action) (old e h)

  pub last_does : (e : ℕ) → e ≡ length es → does (more es ev) e ≡ ev.action
  last_does e h = ap (λ x. x.action) (last e h)

  pub where_is : (e : ℕ) → e < length (more es ev) → (e < length es) ⊎ (e ≡ length es)
  where_is e h = ⊎_elim (λ lt. inl lt) (λ ge. inr (omega (arith, longer))) (cases_lt e (length es))

  -- sends and receives, of the shorter list and of the longer
  abbrev pub old_send : (s : Sending (more es ev)) → s.at < length es → Sending es
  old_send s h = record { at = s.at; within = h; to = s.to; message = s.message; is = sym (old_does s.at h) ∙ s.is }

  abbrev pub old_receive : (r : Receiving (more es ev)) → r.at < length es → Receiving es
  old_receive r h = record { at = r.at; within = h; message = r.message; is = sym (old_does r.at h) ∙ r.is }

  abbrev pub kept_send : Sending es → Sending (more es ev)
  kept_send s = record { at = s.at; within = omega (arith, s.within, longer); to = s.to; message = s.message; is = old_does s.at s.within ∙ s.is }

  abbrev pub kept_receive : Receiving es → Receiving (more es ev)
  kept_receive r = record { at = r.at; within = omega (arith, r.within, longer); message = r.message; is = old_does r.at r.within ∙ r.is }

  -- how many events a process has, and their numbers
  pub count_old : (i k : ℕ) → k ≤ length es → count (more es ev) i k ≡ count es i k
  count_old i zero h = refl
  count_old i (suc k) h =
      ap (λ n. n + cond (eqb (by (more es ev) k) i) 1 0) (count_old i k (omega arith))
      ∙ ap (λ (p : ℕ). count es i k + cond (eqb p i) 1 0) (old_by k h)

  pub number_old : (e : ℕ) → e < length es → number (more es ev) e ≡ number es e
  number_old e h = ap (λ (p : ℕ). count (more es ev) p (suc e)) (old_by e h) ∙ count_old (by es e) (suc e) h

  pub number_last : (e : ℕ) → e ≡ length es → number (more es ev) e ≡ total es ev.process + 1
  number_last e h =
      number_is (more es ev) e ev.process (last_by e h)
      ∙ ap (λ (k : ℕ). count (more es ev) ev.process k + 1) h
      ∙ ap (λ n. n + 1) (count_old ev.process (length es) (omega arith))

  pub total_here : (i : ℕ) → ev.process ≡ i → total (more es ev) i ≡ total es i + 1
  total_here i h =
      let e : length (more es ev) ≡ suc (length es) = omega (arith, longer) in
      ap (count (more es ev) i) e ∙ count_here (more es ev) i (length es) (last_by (length es) refl ∙ h)
      ∙ ap (λ n. n + 1) (count_old i (length es) (omega arith))

  pub total_other : (i : ℕ) → (ev.process ≡ i → ⊥) → total (more es ev) i ≡ total es i
  total_other i h =
      let e : length (more es ev) ≡ suc (length es) = omega (arith, longer) in
      ap (count (more es ev) i) e
      ∙ count_other (more es ev) i (length es) (λ same. h (sym (last_by (length es) refl) ∙ same))
      ∙ count_old i (length es) (omega arith)
