-- The event that sends a message. Assumes nothing.
use Rattle.std.proofs.Common.{◌≡◌, ℕ, ◌<◌, ◌≤◌, true, false, eqb, List, [], length, sym, refl, ap, ◌∙◌, ⊎_elim, arith, rules}
use Rattle.std.proofs.lemmas.Bool.{cases_lt, both_ways, eqb-true, eq-eqb, and_parts, and_from}
use Rattle.lattice.specs.First.{Least}
use Rattle.lattice.proofs.First.{first_least, first_is}
use Rattle.trace.specs.declared.event.Event.{Event}
use Rattle.trace.specs.declared.event.Action.{Action}
use Rattle.trace.specs.declared.event.Action.TheVariants.{Local, Send, Receive}
use Rattle.trace.specs.Events.{by, does, sends, source, Sending, Receiving}
use Rattle.trace.specs.Rules.{SentTo, Valid}
use Rattle.trace.specs.Tables.{sends_to, receives, Answers, KeepsRules}
use Rattle.trace.proofs.Appended.{more, longer, old_does}

-- an action that sends message m
pub record Sends (m : ℕ) (a : Action) : Type 0 where
  pub to : ℕ
  pub is : a ≡ Send to m

pub sends_is : (m : ℕ) (a : Action) → sends m a ≡ true → Sends m a
sends_is m Local e = absurd (both_ways false refl e)
sends_is m (Send to k) e = record { to = to; is = ap (λ (x : ℕ). Send to x) (eqb-true k m e) }
sends_is m (Receive k) e = absurd (both_ways false refl e)

pub sends_at : (m to k : ℕ) (a : Action) → a ≡ Send to k → k ≡ m → sends m a ≡ true
sends_at m to k a is same = ap (sends m) is ∙ eq-eqb k m same

pub receives_is : (m : ℕ) (a : Action) → receives m a ≡ true → a ≡ Receive m
receives_is m Local e = absurd (both_ways false refl e)
receives_is m (Send to k) e = absurd (both_ways false refl e)
receives_is m (Receive k) e = ap (λ (x : ℕ). Receive x) (eqb-true k m e)

pub sends_to_is : (p m : ℕ) (a : Action) → sends_to p m a ≡ true → a ≡ Send p m
sends_to_is p m Local e = absurd (both_ways false refl e)
sends_to_is p m (Send to k) e =
    let b = and_parts (eqb to p) (eqb k m) e in
    ap (λ (x : ℕ). Send x k) (eqb-true to p b.0) ∙ ap (λ (x : ℕ). Send p x) (eqb-true k m b.1)
sends_to_is p m (Receive k) e = absurd (both_ways false refl e)

pub to_itself : (p m : ℕ) → sends_to p m (Send p m) ≡ true
to_itself p m = and_from (eqb p p) (eqb m m) (eq-eqb p p refl) (eq-eqb m m refl)

pub least : (es : List Event) (m : ℕ) → Least (λ e. sends m (does es e)) 0 (length es) (source es m)
least es m = first_least (λ e. sends m (does es e)) 0 (length es) (omega arith)

-- a source that is an event of the list sends the message
abbrev pub sender : (es : List Event) (m : ℕ) → source es m < length es → Sending es
sender es m h =
    let s = sends_is m (does es (source es m)) ((least es m).passes h) in
    record { at = source es m; within = h; to = s.to; message = m; is = s.is }

-- the source stands no later than any event that sends the message
pub source_le : (es : List Event) (s : Sending es) → source es s.message ≤ s.at
source_le es s =
    ⊎_elim
    (λ lt. absurd (both_ways _ ((least es s.message).before s.at (omega arith) lt) (sends_at s.message s.to s.message _ s.is refl)))
    (λ ge. ge)
    (cases_lt s.at (source es s.message))

-- where messages are sent at most once, it is that event
pub source_is : (es : List Event) → ((s t : Sending es) → s.message ≡ t.message → s.at ≡ t.at) → (s : Sending es) → source es s.message ≡ s.at
source_is es once s = once (sender es s.message (omega (arith, source_le es s, s.within))) s refl

-- one event more changes no source
pub source_old : (es : List Event) (ev : Event) (m : ℕ) → source es m < length es → source (more es ev) m ≡ source es m
source_old es ev m h =
    let l = least es m in
    first_is (λ e. sends m (does (more es ev) e)) 0 (length (more es ev)) (source es m)
    (record {
      low = omega arith;
      high = omega (arith, longer es ev);
      passes = λ _. ap (sends m) (old_does es ev (source es m) h) ∙ l.passes h;
      before = λ k lo lt. ap (sends m) (old_does es ev k (omega arith)) ∙ l.before k lo lt;
    })

-- what is received was sent by the source
pub record Sent (es : List Event) (r : Receiving es) : Type 0 where
  pub sending : Sending es
  pub same : sending.message ≡ r.message
  pub at : sending.at ≡ source es r.message
  pub earlier : source es r.message < r.at
  pub named : sending.to ≡ by es r.at

pub sent : (n : ℕ) (es : List Event) → Valid n es → (r : Receiving es) → Sent es r
sent n es v r =
    let t = v.sent_first r in
    let at : t.sending.at ≡ source es r.message = sym (ap (source es) (sym t.same) ∙ source_is es v.sent_once t.sending) in
    record { sending = t.sending; same = t.same; at = at; earlier = omega (arith, t.earlier); named = t.named }

-- the two ways to say that what is received was sent
pub answers_from : (n : ℕ) (es : List Event) → Valid n es → Answers es (source es)
answers_from n es v r =
    let s = sent n es v r in
    let is : does es (source es r.message) ≡ Send (by es r.at) r.message =
    ap (does es) (sym s.at) ∙ s.sending.is ∙ ap (λ (x : ℕ). Send x s.sending.message) s.named ∙ ap (λ (x : ℕ). Send (by es r.at) x) s.same in
    (s.earlier, ap (sends_to (by es r.at) r.message) is ∙ to_itself (by es r.at) r.message)

pub sent_to : (es : List Event) → Answers es (source es) → (r : Receiving es) → SentTo es r
sent_to es answers r =
    let a = answers r in
    record {
      sending = record { at = source es r.message; within = omega (arith, a.0, r.within); to = by es r.at; message = r.message; is = sends_to_is _ _ _ a.1 };
      same = refl;
      earlier = a.0;
      named = refl;
    }

pub keeps : (n : ℕ) (es : List Event) → Valid n es → KeepsRules n es
keeps n es v = let answers = answers_from n es v in search rules

pub valid_from : (n : ℕ) (es : List Event) → KeepsRules n es → Valid n es
valid_from n es k = let sent_first = sent_to es k.answers in search rules

-- no events
pub valid_none : (n : ℕ) → Valid n []
valid_none n =
    record {
      few = omega arith;
      process = λ e h. absurd (omega arith);
      receiver = λ s. absurd (omega (arith, s.within));
      other = λ s _. omega (arith, s.within);
      sent_once = λ s t _. absurd (omega (arith, s.within));
      received_once = λ r q _. absurd (omega (arith, r.within));
      sent_first = λ r. absurd (omega (arith, r.within));
    }
