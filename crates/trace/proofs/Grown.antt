-- A trace keeps its rules with one event more just if the event breaks none. Assumes nothing.
use Rattle.std.proofs.Common.{◌≡◌, ℕ, ◌<◌, ◌⊎◌, List, length, sym, refl, ap, ◌∙◌, subst, inl, inr, ⊎_elim, arith}
use Rattle.std.proofs.lemmas.Bool.{cases_lt, cases_eq}
use Rattle.trace.specs.declared.event.Event.{Event}
use Rattle.trace.specs.declared.event.Action.{Action}
use Rattle.trace.specs.declared.event.Action.TheVariants.{Send, Receive}
use Rattle.trace.specs.declared.event.EventFault.{EventFault}
use Rattle.trace.specs.Events.{does, source, Sending, Receiving}
use Rattle.trace.specs.Rules.{Valid}
use Rattle.trace.specs.Growth.{BreaksMessages, NoReceiver, Refused, Fits}
use Rattle.trace.specs.Growth.BreaksMessages.{sent_again, unsent, misdirected, received_again}
use Rattle.trace.specs.Growth.NoReceiver.{absent, itself}
use Rattle.trace.specs.Growth.Refused.{full, no_process, no_receiver, no_message}
use Rattle.trace.proofs.Appended.{more, longer, old_by, last_by, old_does, last_does, where_is, old_send, old_receive, kept_send, kept_receive}
use Rattle.trace.proofs.Sources.{sender, source_le}
use Rattle.trace.proofs.Judging.{bad_receiver}

-- a message was sent or not
pub sent_or_not : (es : List Event) (m : ℕ) → (source es m < length es) ⊎ ((s : Sending es) → s.message ≡ m → ⊥)
sent_or_not es m =
    ⊎_elim
    (λ lt. inl lt)
    (λ ge. inr (λ s same. let e = ap (source es) same in omega (arith, source_le es s, s.within)))
    (cases_lt (source es m) (length es))

-- what an event that fits receives was sent to its process
pub record Answered (es : List Event) (p m : ℕ) : Type 0 where
  pub within : source es m < length es
  pub sending : Sending es
  pub at : sending.at ≡ source es m
  pub same : sending.message ≡ m
  pub named : sending.to ≡ p

pub answered : (n : ℕ) (es : List Event) (ev : Event) → Fits n es ev → (m : ℕ) → ev.action ≡ Receive m → Answered es ev.process m
answered n es ev fits m is =
    let broken : BreaksMessages es ev.process (Receive m) → ⊥ = λ x. fits.messages (subst (BreaksMessages es ev.process) (sym is) x) in
    ⊎_elim
    (λ lt.
    let s = sender es m lt in
    record {
      within = lt;
      sending = s;
      at = refl;
      same = refl;
      named = ⊎_elim (λ e. e) (λ ne. absurd (broken (misdirected s refl ne))) (cases_eq s.to ev.process);
    })
    (λ none. absurd (broken (unsent none)))
    (sent_or_not es m)

-- what it sends, or receives, has not been
pub not_sent : (n : ℕ) (es : List Event) (ev : Event) → Fits n es ev → (to m : ℕ) → ev.action ≡ Send to m → (s : Sending es) → s.message ≡ m → ⊥
not_sent n es ev fits to m is s same = fits.messages (subst (BreaksMessages es ev.process) (sym is) (sent_again s same))

pub not_received : (n : ℕ) (es : List Event) (ev : Event) → Fits n es ev → (m : ℕ) → ev.action ≡ Receive m → (r : Receiving es) → r.message ≡ m → ⊥
not_received n es ev fits m is r same = fits.messages (subst (BreaksMessages es ev.process) (sym is) (received_again r same))

module _ (n : ℕ) (es : List Event) (ev : Event) where
  -- what the last event does
  last_is : (e : ℕ) (a : Action) → e ≡ length es → does (more es ev) e ≡ a → ev.action ≡ a
  last_is e a at is = sym (last_does es ev e at) ∙ is

  -- two places are one if they are one among the old, and the last is not with an old one
  once : (x y : ℕ) → x < length (more es ev) → y < length (more es ev) → (x < length es → y < length es → x ≡ y) → (x ≡ length es → y < length es → ⊥) →
      (x < length es → y ≡ length es → ⊥) → x ≡ y
  once x y hx hy old first second =
      ⊎_elim
      (λ a. ⊎_elim (λ b. old a b) (λ b. absurd (second a b)) (where_is es ev y hy))
      (λ a. ⊎_elim (λ b. absurd (first a b)) (λ b. a ∙ sym b) (where_is es ev y hy))
      (where_is es ev x hx)

  pub grown : Valid n es → Fits n es ev → Valid n (more es ev)
  grown v fits =
      let new_send : (s : Sending (more es ev)) → s.at ≡ length es → (t : Sending es) → t.message ≡ s.message → ⊥ =
      λ s at t same. not_sent n es ev fits s.to s.message (last_is s.at _ at s.is) t same in
      let new_receive : (r : Receiving (more es ev)) → r.at ≡ length es → (q : Receiving es) → q.message ≡ r.message → ⊥ =
      λ r at q same. not_received n es ev fits r.message (last_is r.at _ at r.is) q same in
      let no_bad : (s : Sending (more es ev)) → s.at ≡ length es → NoReceiver n ev.process (Send s.to s.message) → ⊥ =
      λ s at x. fits.receiver (subst (NoReceiver n ev.process) (sym (last_is s.at _ at s.is)) x) in
      record {
        few = omega (arith, longer es ev, fits.room);
        process = λ e h.
            ⊎_elim
            (λ lt. subst (λ (p : ℕ). p < n) (sym (old_by es ev e lt)) (v.process e lt))
            (λ at. subst (λ (p : ℕ). p < n) (sym (last_by es ev e at)) fits.process)
            (where_is es ev e h);
        receiver = λ s.
            ⊎_elim
            (λ lt. v.receiver (old_send es ev s lt))
            (λ at. ⊎_elim (λ h. h) (λ h. absurd (no_bad s at (absent h))) (cases_lt s.to n))
            (where_is es ev s.at s.within);
        other = λ s e.
            ⊎_elim
            (λ lt. v.other (old_send es ev s lt) (e ∙ old_by es ev s.at lt))
            (λ at. no_bad s at (itself (e ∙ last_by es ev s.at at)))
            (where_is es ev s.at s.within);
        sent_once = λ s t e.
            once s.at t.at s.within t.within
            (λ a b. v.sent_once (old_send es ev s a) (old_send es ev t b) e)
            (λ a b. new_send s a (old_send es ev t b) (sym e))
            (λ a b. new_send t b (old_send es ev s a) e);
        received_once = λ r q e.
            once r.at q.at r.within q.within
            (λ a b. v.received_once (old_receive es ev r a) (old_receive es ev q b) e)
            (λ a b. new_receive r a (old_receive es ev q b) (sym e))
            (λ a b. new_receive q b (old_receive es ev r a) e);
        sent_first = λ r.
            ⊎_elim
            (λ lt.
            let t = v.sent_first (old_receive es ev r lt) in
            record { sending = kept_send es ev t.sending; same = t.same; earlier = t.earlier; named = t.named ∙ sym (old_by es ev r.at lt) })
            (λ at.
            let x = answered n es ev fits r.message (last_is r.at _ at r.is) in
            record { sending = kept_send es ev x.sending; same = x.same; earlier = omega (arith, x.sending.within); named = x.named ∙ sym (last_by es ev r.at at) })
            (where_is es ev r.at r.within);
      }

  pub grown_as : Valid n es → Fits n es ev → (es' : List Event) → es' ≡ more es ev → Valid n es'
  grown_as v fits es' items = subst (Valid n) (sym items) (grown v fits)

  -- the last event, as one that sends or receives
  abbrev last_send : (to m : ℕ) → ev.action ≡ Send to m → Sending (more es ev)
  last_send to m is = record { at = length es; within = omega (arith, longer es ev); to = to; message = m; is = last_does es ev (length es) refl ∙ is }

  abbrev last_receive : (m : ℕ) → ev.action ≡ Receive m → Receiving (more es ev)
  last_receive m is = record { at = length es; within = omega (arith, longer es ev); message = m; is = last_does es ev (length es) refl ∙ is }

  breaks_more : Valid n (more es ev) → (a : Action) → ev.action ≡ a → BreaksMessages es ev.process a → ⊥
  breaks_more v _ is (sent_again {to} {m} s same) = omega (arith, v.sent_once (kept_send es ev s) (last_send to m is) same, s.within)
  breaks_more v _ is (unsent {m} none) =
      let t = v.sent_first (last_receive m is) in
      none (old_send es ev t.sending t.earlier) t.same
  breaks_more v _ is (misdirected {m} s same ne) =
      let t = v.sent_first (last_receive m is) in
      let at = v.sent_once (kept_send es ev s) t.sending (same ∙ sym t.same) in
      let sent : Send s.to s.message ≡ Send t.sending.to t.sending.message =
      sym s.is ∙ sym (old_does es ev s.at s.within) ∙ ap (does (more es ev)) at ∙ t.sending.is in
      let to : s.to ≡ t.sending.to = cc in
      ne (to ∙ t.named ∙ last_by es ev (length es) refl)
  breaks_more v _ is (received_again {m} r same) = omega (arith, v.received_once (kept_receive es ev r) (last_receive m is) same, r.within)

  pub refused_not : (e : EventFault) → Refused n es ev e → Valid n (more es ev) → ⊥
  refused_not _ (full h) v = omega (arith, v.few, longer es ev)
  refused_not _ (no_process lt h) v =
      let p = subst (λ (x : ℕ). x < n) (last_by es ev (length es) refl) (v.process (length es) (omega (arith, longer es ev))) in omega arith
  refused_not _ (no_receiver lt p x) v =
      let b = bad_receiver n ev.process ev.action x in
      let s = last_send b.to b.message b.is in
      ⊎_elim (λ h. omega (arith, v.receiver s)) (λ h. v.other s (h ∙ sym (last_by es ev (length es) refl))) b.bad
  refused_not _ (no_message lt p ok x) v = breaks_more v ev.action refl x
