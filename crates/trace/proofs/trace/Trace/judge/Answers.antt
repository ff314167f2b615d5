use Rattle.std.proofs.Common.{◌≡◌, ℕ, Some, None, Err, sym, ap, ◌∙◌, subst, inl, inr, arith, rules}
use Rattle.std.proofs.lemmas.Bool.{eqb-true, eqb-false}
use Rattle.trace.specs.Events.{Sending}
use Rattle.trace.specs.declared.event.EventFault.TheVariants.{Message}
use Rattle.trace.specs.Growth.{events, Judged, SenderAt}
use Rattle.trace.specs.Growth.Refused.{full, no_process}
use Rattle.trace.specs.Growth.BreaksMessages.{unsent, misdirected, received_again}
use Rattle.trace.proofs.Judging.{ill_sent, sent_twice, ill_received, fits_send, fits_receive, of_some, of_none, names_send}
use Rattle.trace.proofs.trace.Trace.judge.Goals as goal
use Rattle.trace.proofs.trace.Trace.judge.Goals.{then-to-self-via-then-to-self, then-to-self-via-else-to-self+then-to-event, then-not-names-via-then-not-names, then-not-names-via-else-not-names+then-is_some-2}

pub returns-then-len-ge-LONGEST : goal.returns-then-len-ge-LONGEST
returns-then-len-ge-LONGEST c = full (omega (arith, c.args.self.now.rules.short))

pub returns-then-event-self : goal.returns-then-event-self
returns-then-event-self c = no_process (omega arith) c.if-event-self.true

pub returns-then-to-self : goal.returns-then-to-self
returns-then-to-self c =
    let t = c.args.self.now in
    ill_sent t.n (events t) c.args.event.now (omega arith) c.if-event-self.false c.in-Send.to c.in-Send.message c.in-Send.is
    (elim c.then-to-self.branch [
      | then-to-self-via-then-to-self w ↦ inl w.if-to-self.true
      | then-to-self-via-else-to-self+then-to-event w ↦ inr w.if-to-event.true
    ])

pub returns-then-is_some : goal.returns-then-is_some
returns-then-is_some c =
    let t = c.args.self.now in
    let s = (of_some _ _ c.sender.result c.sender.ensures (sym c.is_some.ensures ∙ c.if-is_some.true)).1.1 in
    sent_twice t.n (events t) c.args.event.now (omega arith) c.if-event-self.false c.in-Send.to c.in-Send.message c.in-Send.is c.if-to-self.false c.if-to-event.false s.0 s.1

pub returns-in_err-sent-in-Receive : goal.returns-in_err-sent-in-Receive
returns-in_err-sent-in-Receive c =
    let t = c.args.self.now in
    let ev = c.args.event.now in
    let m = c.in-Receive.message in
    let none : c.sender-in-Receive.result ≡ None = search rules in
    let failed : c.from_residual.result ≡ Err Message = search rules in
    subst (Judged t ev) (sym failed)
    (ill_received t.n (events t) ev (omega arith) c.if-event-self.false m c.in-Receive.is (unsent (subst (SenderAt t m) none c.sender-in-Receive.ensures)))

pub returns-then-not-names : goal.returns-then-not-names
returns-then-not-names c =
    let t = c.args.self.now in
    let m = c.in-Receive.message in
    let p = c.args.event.now.process in
    let is : c.sender-in-Receive.result ≡ Some c.in_ok-sent-in-Receive.sent = search rules in
    let s = (subst (SenderAt t m) is c.sender-in-Receive.ensures).1 in
    let named = names_send (events t) s.0 c.in_ok-sent-in-Receive.sent p s.2 in
    ill_received t.n (events t) c.args.event.now (omega arith) c.if-event-self.false m c.in-Receive.is
    (elim c.then-not-names.branch [
      | then-not-names-via-then-not-names w ↦ misdirected s.0 s.1 (eqb-false s.0.to p (sym named ∙ sym c.names.ensures ∙ w.if-not-names.true))
      | then-not-names-via-else-not-names+then-is_some-2 w ↦
          let r = (of_some _ _ w.receiver.result w.receiver.ensures (sym w.is_some-else-not-names.ensures ∙ w.if-is_some-2.true)).1 in
          received_again r.0 r.1
    ])

pub returns-else-is_some : goal.returns-else-is_some
returns-else-is_some c =
    let t = c.args.self.now in
    let none = of_none _ _ c.sender.result c.sender.ensures (sym c.is_some.ensures ∙ c.if-is_some.false) in
    fits_send t.n (events t) c.args.event.now (omega arith) c.if-event-self.false c.in-Send.to c.in-Send.message c.in-Send.is c.if-to-self.false c.if-to-event.false none

pub returns-else-is_some-2 : goal.returns-else-is_some-2
returns-else-is_some-2 c =
    let t = c.args.self.now in
    let es = events t in
    let ev = c.args.event.now in
    let m = c.in-Receive.message in
    let is : c.sender-in-Receive.result ≡ Some c.in_ok-sent-in-Receive.sent = search rules in
    let f = subst (SenderAt t m) is c.sender-in-Receive.ensures in
    let s = f.1 in
    let named : (x : Sending es) → x.message ≡ m → x.to ≡ ev.process =
    λ x same.
    let at = t.rules.sent_once x s.0 (same ∙ sym s.1) ∙ s.2 in
    eqb-true x.to ev.process (sym (names_send es x c.in_ok-sent-in-Receive.sent ev.process at) ∙ sym c.names.ensures ∙ c.if-not-names.false) in
    let none = of_none _ _ c.receiver.result c.receiver.ensures (sym c.is_some-else-not-names.ensures ∙ c.if-is_some-2.false) in
    let r = fits_receive t.n es ev (omega arith) c.if-event-self.false m c.in-Receive.is s.0 s.1 named none in
    (r.0, ap (λ (e : ℕ). Some e) f.0 ∙ r.1)
