-- Which rule an event breaks, or that it breaks none. Assumes nothing.
use Rattle.std.proofs.Common.{◌≡◌, ℕ, ◌<◌, ◌≤◌, true, false, ◌&&◌, eqb, ◌⊎◌, List, length, is_some, Some, None, Option, MatchOption, sym, refl, ap, ◌∙◌, subst, inl, inr, ⊎_elim, arith}
use Rattle.std.proofs.lemmas.Bool.{lt-ltb, both_ways}
use Rattle.trace.specs.declared.event.Event.{Event}
use Rattle.trace.specs.declared.event.Action.{Action}
use Rattle.trace.specs.declared.event.Action.TheVariants.{Send, Receive}
use Rattle.trace.specs.declared.event.EventFault.TheVariants.{Receiver, Message}
use Rattle.trace.specs.Events.{longest, does, source, Sending, Receiving}
use Rattle.trace.specs.Growth.{BreaksMessages, NoReceiver, Refused, Fits, sent_by, named_by, names_at}
use Rattle.trace.specs.Growth.BreaksMessages.{sent_again, unsent, misdirected, received_again}
use Rattle.trace.specs.Growth.NoReceiver.{absent, itself}
use Rattle.trace.specs.Growth.Refused.{no_receiver, no_message}

-- what breaks a rule, by the kind of the action
pub record BadReceiver (n p : ℕ) (a : Action) : Type 0 where
  pub to : ℕ
  pub message : ℕ
  pub is : a ≡ Send to message
  pub bad : (n ≤ to) ⊎ (to ≡ p)

pub bad_receiver : (n p : ℕ) (a : Action) → NoReceiver n p a → BadReceiver n p a
bad_receiver n p _ (absent {to} {m} h) = record { to = to; message = m; is = refl; bad = inl h }
bad_receiver n p _ (itself {to} {m} h) = record { to = to; message = m; is = refl; bad = inr h }

good_receiver : (n p to m : ℕ) → to < n → (to ≡ p → ⊥) → NoReceiver n p (Send to m) → ⊥
good_receiver n p to m lt ne (absent h) = omega arith
good_receiver n p to m lt ne (itself h) = ne h

breaks_send : (es : List Event) (p to m : ℕ) → ((s : Sending es) → s.message ≡ m → ⊥) → BreaksMessages es p (Send to m) → ⊥
breaks_send es p to m new (sent_again s e) = new s e

breaks_receive : (es : List Event) (p m : ℕ) → (s : Sending es) → s.message ≡ m → ((t : Sending es) → t.message ≡ m → t.to ≡ p) → ((r : Receiving es) → r.message ≡ m → ⊥) →
    BreaksMessages es p (Receive m) → ⊥
breaks_receive es p m s same named new (unsent none) = none s same
breaks_receive es p m s same named new (misdirected t e d) = d (named t e)
breaks_receive es p m s same named new (received_again r e) = new r e

-- an event of a process that there is, with room for it
module _ (n : ℕ) (es : List Event) (ev : Event) (room : length es < longest) (process : ev.process < n) where
  pub ill_sent : (to m : ℕ) → ev.action ≡ Send to m → (n ≤ to) ⊎ (to ≡ ev.process) → Refused n es ev Receiver
  ill_sent to m is bad = no_receiver room process (subst (NoReceiver n ev.process) (sym is) (⊎_elim (λ h. absent h) (λ h. itself h) bad))

  well_sent : (to m : ℕ) → ev.action ≡ Send to m → to < n → (to ≡ ev.process → ⊥) → NoReceiver n ev.process ev.action → ⊥
  well_sent to m is lt ne x = good_receiver n ev.process to m lt ne (subst (NoReceiver n ev.process) is x)

  no_send : (m : ℕ) → ev.action ≡ Receive m → NoReceiver n ev.process ev.action → ⊥
  no_send m is x = elim (subst (NoReceiver n ev.process) is x) [ ]

  pub sent_twice : (to m : ℕ) → ev.action ≡ Send to m → to < n → (to ≡ ev.process → ⊥) → (s : Sending es) → s.message ≡ m → Refused n es ev Message
  sent_twice to m is lt ne s same = no_message room process (well_sent to m is lt ne) (subst (BreaksMessages es ev.process) (sym is) (sent_again s same))

  pub ill_received : (m : ℕ) → ev.action ≡ Receive m → BreaksMessages es ev.process (Receive m) → Refused n es ev Message
  ill_received m is x = no_message room process (no_send m is) (subst (BreaksMessages es ev.process) (sym is) x)

  pub fits_send : (to m : ℕ) → ev.action ≡ Send to m → to < n → (to ≡ ev.process → ⊥) → ((s : Sending es) → s.message ≡ m → ⊥) → Fits n es ev × (None ≡ sent_by es ev.action)
  fits_send to m is lt ne new = (
    record {
      room = room;
      process = process;
      receiver = well_sent to m is lt ne;
      messages = λ x. breaks_send es ev.process to m new (subst (BreaksMessages es ev.process) is x);
    },
    ap (sent_by es) (sym is),
  )

  pub fits_receive : (m : ℕ) → ev.action ≡ Receive m → (s : Sending es) → s.message ≡ m → ((t : Sending es) → t.message ≡ m → t.to ≡ ev.process) →
      ((r : Receiving es) → r.message ≡ m → ⊥) → Fits n es ev × (Some (source es m) ≡ sent_by es ev.action)
  fits_receive m is s same named new = (
    record {
      room = room;
      process = process;
      receiver = no_send m is;
      messages = λ x. breaks_receive es ev.process m s same named new (subst (BreaksMessages es ev.process) is x);
    },
    ap (sent_by es) (sym is),
  )

-- what is found, or that there is none
pub of_some : (N : Type 0) (S : ℕ → Type 0) (o : Option ℕ) → MatchOption o N S → is_some o ≡ true → (e : ℕ) × S e
of_some N S None found e = absurd (both_ways false refl e)
of_some N S (Some x) found e = (x, found)

pub of_none : (N : Type 0) (S : ℕ → Type 0) (o : Option ℕ) → MatchOption o N S → is_some o ≡ false → N
of_none N S None found e = found
of_none N S (Some x) found e = absurd (both_ways true e refl)

pub names_send : (es : List Event) (s : Sending es) (e p : ℕ) → s.at ≡ e → names_at es e p ≡ eqb s.to p
names_send es s e p at =
    ap (λ (x : ℕ). names_at es x p) (sym at)
    ∙ ap (λ b. b && named_by p (does es s.at)) (lt-ltb s.at (length es) s.within)
    ∙ ap (named_by p) s.is
