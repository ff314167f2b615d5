use Rattle.std.proofs.Common.{◌≡◌, ℕ, ◌<◌, ◌≤◌, [], ◌∷◌, ◌++◌, cond, length, get_or, vec_capacity, sym, refl, ap, ◌∙◌, subst, arith}
use Rattle.std.proofs.lemmas.List.{with_items_is, length-set, length-map, map_push}
use Rattle.std.proofs.lemmas.List.Elements.{All-set}
use Rattle.std.proofs.lemmas.Result.{err_from_is_err_and}
use Rattle.trace.specs.Events.{most, longest, sends}
use Rattle.trace.specs.Clocks.{mattern}
use Rattle.trace.specs.Growth.{events, Refused, Pushed, ticked}
use Rattle.trace.specs.Tables.{rows, listed, receives, sent_at, received_at, KeepsRules}
use Rattle.trace.proofs.Counts.{count_le}
use Rattle.trace.proofs.Grown.{grown, grown_as}
use Rattle.trace.proofs.Pushed.{listed_push, tabled_as, sent_within}
use Rattle.trace.proofs.Sources.{keeps}
use Rattle.trace.proofs.Steps.{clocks_more}
use Rattle.trace.proofs.Traces.{valid, room_left, clocks_as_events, push_refused}
use Rattle.trace.proofs.trace.Trace.push.Goals as goal

pub returns-in_err-sent : goal.returns-in_err-sent
returns-in_err-sent c =
    let t = c.args.self.now in
    let ev = c.args.event in
    let p = err_from_is_err_and c.from_residual.result c.from_residual.ensures.1 in
    subst (λ r. Pushed t ev r t) (sym p.1) (push_refused t ev p.0 (subst (Refused t.n (events t) ev) (sym p.2) c.in_err-sent.ensures))

pub tick-clock-requires-clause-within : goal.tick-clock-requires-clause-within
tick-clock-requires-clause-within c =
    let t = c.args.self.now in
    sent_within t.n (events t) c.args.event c.in_ok-sent.ensures.0 c.in_ok-sent.sent c.in_ok-sent.ensures.1

pub push_reserved-requires : goal.push_reserved-requires
push_reserved-requires c =
    let t = c.args.self.now in
    let p = c.args.event.process in
    room_left t p _ c.in_ok-sent.ensures.0.process (omega (arith, count_le (events t) p (length (events t)), c.in_ok-sent.ensures.0.room))

pub push_reserved-requires-3 : goal.push_reserved-requires-3
push_reserved-requires-3 c =
    let t = c.args.self.now in
    omega (arith, clocks_as_events t, t.clocks.ok.0, t.room.1, c.in_ok-sent.ensures.0.room)

pub invariant_of-self-clause-room : goal.invariant_of-self-clause-room
invariant_of-self-clause-room c =
    let t = c.args.self.now in
    let h : c.args.event.process < length t.places = omega (arith, c.in_ok-sent.ensures.0.process, t.few, t.sized.0) in (
      omega (arith, t.room.0, c.push_reserved-2.ensures.capacity),
      omega (arith, t.room.1, c.push_reserved-3.ensures.capacity),
      All-set (λ v. longest ≤ vec_capacity v) t.places c.args.event.process _
          (subst (λ (k : ℕ). longest ≤ k) (sym c.push_reserved.ensures.capacity) (t.room.2 c.args.event.process _ h)) t.room.2,
    )

pub invariant_of-self-clause-sized : goal.invariant_of-self-clause-sized
invariant_of-self-clause-sized c =
    let t = c.args.self.now in
    (length-set t.places c.args.event.process _ ∙ t.sized.0, t.sized.1)

pub invariant_of-self-clause-rules : goal.invariant_of-self-clause-rules
invariant_of-self-clause-rules c =
    let t = c.args.self.now in
    subst (KeepsRules t.n) (sym c.push_reserved-2.ensures.items)
    (keeps t.n _ (grown t.n (events t) c.args.event (valid t) c.in_ok-sent.ensures.0))

pub invariant_of-self-clause-tables : goal.invariant_of-self-clause-tables
invariant_of-self-clause-tables c =
    let t = c.args.self.now in
    let ev = c.args.event in
    let fits = c.in_ok-sent.ensures.0 in
    let own : ev.process < most = omega (arith, fits.process, t.few) in
    let at : c.len-at.result ≡ length (events t) = c.len-at.ensures ∙ t.events.ok.0 in
    let here = listed_push t.places ev.process c.len-at.result _ c.push_reserved.new.self (omega (arith, t.sized.0)) c.push_reserved.ensures.items in
    let noted = with_items_is t.messages c.note.new.messages (c.note.ensures.long ∙ c.deref_mut.ensures.len) in
    tabled_as t.n (events t) ev (listed t.places) t.messages.items _ (omega (arith, length-map t.places (λ v. v.items), t.sized.0)) own (valid t) fits t.tables
    _ _ c.len-at.result at c.push_reserved-2.ensures.items here
    (λ m. ap (λ x. get_or (sent_at x) m 0) noted ∙ c.note.ensures.sent m ∙ ap (λ x. cond (sends m ev.action) c.len-at.result (get_or (sent_at x) m 0)) c.deref_mut.ensures.value)
    (λ m. ap (λ x. get_or (received_at x) m 0) noted ∙ c.note.ensures.received m ∙ ap (λ x. cond (receives m ev.action) c.len-at.result (get_or (received_at x) m 0)) c.deref_mut.ensures.value)

pub invariant_of-self-clause-clocked : goal.invariant_of-self-clause-clocked
invariant_of-self-clause-clocked c =
    let t = c.args.self.now in
    let ev = c.args.event in
    let es = events t in
    ap rows c.push_reserved-3.ensures.items ∙ map_push (λ x. x.entries) t.clocks.items _
    ∙ ap (λ x. x ++ c.tick-clock.result.entries ∷ []) t.clocked
    ∙ ap (λ x. mattern es (length es) ++ x ∷ []) (c.tick-clock.ensures ∙ ap (ticked es ev.process) c.in_ok-sent.ensures.1)
    ∙ sym (clocks_more es ev t.n (valid t) c.in_ok-sent.ensures.0)
    ∙ ap (λ x. mattern x (length x)) (sym c.push_reserved-2.ensures.items)

pub returns : goal.returns
returns c =
    let t = c.args.self.now in
    let items = c.push_reserved-2.ensures.items in
    record { outcome = (refl, items, grown_as t.n (events t) c.args.event (valid t) c.in_ok-sent.ensures.0 _ items); exactly = λ _. tt }
