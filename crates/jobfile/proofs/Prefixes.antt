-- The first events of a trace that keeps its rules keep them too, and the next fits behind them. Assumes nothing.
use Rattle.std.proofs.Common.{◌≡◌, ℕ, ◌<◌, List, [], ◌∷◌, ◌++◌, length, sym, refl, ap, ◌∙◌, subst, append_assoc, arith, length-append}
use Rattle.std.specs.List.{AllByRecursion}
use Rattle.std.proofs.lemmas.List.{get_or_append_left}
use Rattle.trace.specs.declared.event.Event.{Event}
use Rattle.trace.specs.Events.{longest, event, by, does, Sending, Receiving}
use Rattle.trace.specs.Rules.{Valid}
use Rattle.trace.specs.Growth.{NoReceiver, Fits}
use Rattle.trace.specs.Growth.Refused.{no_receiver, no_message}
use Rattle.trace.proofs.Appended.{longer, last_by}
use Rattle.trace.proofs.Grown.{refused_not}
use Rattle.jobfile.specs.Forms.{EventOk, EventsOk}

-- nothing changes for the first events if others follow
module _ (xs ys : List Event) where
  same_event : (e : ℕ) → e < length xs → event (xs ++ ys) e ≡ event xs e
  same_event e h = get_or_append_left xs ys _ e h

  same_by : (e : ℕ) → e < length xs → by (xs ++ ys) e ≡ by xs e
  same_by e h = ap (λ x. x.process) (same_event e h)

  same_does : (e : ℕ) → e < length xs → does (xs ++ ys) e ≡ does xs e
  same_does e h = ap (λ x. x.action) (same_event e h)

  abbrev kept_send : Sending xs → Sending (xs ++ ys)
  kept_send s = record { at = s.at; within = omega (arith, s.within, length-append xs ys); to = s.to; message = s.message; is = same_does s.at s.within ∙ s.is }

  abbrev kept_receive : Receiving xs → Receiving (xs ++ ys)
  kept_receive r = record { at = r.at; within = omega (arith, r.within, length-append xs ys); message = r.message; is = same_does r.at r.within ∙ r.is }

  abbrev old_send : (s : Sending (xs ++ ys)) → s.at < length xs → Sending xs
  old_send s h = record { at = s.at; within = h; to = s.to; message = s.message; is = sym (same_does s.at h) ∙ s.is }

  pub valid_front : (n : ℕ) → Valid n (xs ++ ys) → Valid n xs
  valid_front n v = record {
    few = omega (arith, v.few, length-append xs ys);
    process = λ e h. subst (λ (p : ℕ). p < n) (same_by e h) (v.process e (omega (arith, length-append xs ys)));
    receiver = λ s. v.receiver (kept_send s);
    other = λ s e. v.other (kept_send s) (e ∙ sym (same_by s.at s.within));
    sent_once = λ s t e. v.sent_once (kept_send s) (kept_send t) e;
    received_once = λ r q e. v.received_once (kept_receive r) (kept_receive q) e;
    sent_first = λ r.
        let t = v.sent_first (kept_receive r) in
        record {
          sending = old_send t.sending (omega (arith, t.earlier, r.within));
          same = t.same;
          earlier = t.earlier;
          named = t.named ∙ same_by r.at r.within;
        };
  }

-- the last event fits behind the others
pub last_fits : (n : ℕ) (es : List Event) (e : Event) → Valid n (es ++ e ∷ []) → Fits n es e
last_fits n es e v =
    let room : length es < longest = omega (arith, v.few, longer es e) in
    let process : e.process < n = subst (λ (x : ℕ). x < n) (last_by es e (length es) refl) (v.process (length es) (omega (arith, longer es e))) in
    let receiver : NoReceiver n e.process e.action → ⊥ = λ x. refused_not n es e _ (no_receiver room process x) v in
    record {
      room = room;
      process = process;
      receiver = receiver;
      messages = λ x. refused_not n es e _ (no_message room process receiver x) v;
    }

pub valid_split : (n : ℕ) (es more : List Event) (e : Event) → Valid n (es ++ e ∷ more) → Valid n es × Fits n es e
valid_split n es more e v = (valid_front es (e ∷ more) n v, last_fits n es e (valid_front (es ++ e ∷ []) more n (subst (Valid n) (sym (append_assoc es (e ∷ []) more)) v)))

-- what holds of each element holds of the first ones, and of the next
pub all_split : {A : Type 0} (P : A → Type 0) (xs ys : List A) (x : A) → AllByRecursion P (xs ++ x ∷ ys) → AllByRecursion P xs × P x
all_split P [] ys x a = (tt, a.0)
all_split P (z ∷ xs) ys x a =
    let (front, one) = all_split P xs ys x a.1 in
    ((a.0, front), one)

-- the events of a job file
pub events_split : (n width : ℕ) (es more : List Event) (e : Event) → EventsOk n width (es ++ e ∷ more) → EventsOk n width es × (EventOk n width e × Fits n es e)
events_split n width es more e (valid, ok) =
    let (front, fits) = valid_split n es more e valid in
    let (all, one) = all_split (EventOk n width) es more e ok in
    ((front, all), (one, fits))
