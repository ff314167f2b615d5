-- What the fields of a trace say. Assumes nothing.
use Rattle.std.proofs.Common.{◌≡◌, ℕ, ◌<◌, ◌≤◌, true, false, Bool, List, [], map, length, get_or, vec_len, vec_capacity, Option, MatchOption, Some, None, Err, sym, refl, ap, ◌∙◌, subst, ⊎_elim, arith}
use Rattle.std.specs.Global.{Vec}
use Rattle.std.proofs.lemmas.List.{length-map, get_or-map, get_or_past}
use Rattle.std.proofs.lemmas.Bool.{cases_lt, both_ways, eq-eqb}
use Rattle.trace.specs.declared.trace.Trace.{Trace}
use Rattle.trace.specs.declared.trace.Ends.{Ends}
use Rattle.trace.specs.declared.clock.Clock.{Clock}
use Rattle.trace.specs.declared.event.Event.{Event}
use Rattle.trace.specs.declared.event.Action.{Action}
use Rattle.trace.specs.declared.event.EventFault.{EventFault}
use Rattle.trace.specs.Events.{does, total, sends, Sending, Receiving}
use Rattle.trace.specs.Rules.{Valid}
use Rattle.trace.specs.Clocks.{zeros, mattern, clock, Knows}
use Rattle.trace.specs.Tables.{listed, receives, Finds}
use Rattle.trace.specs.Growth.{events, last_clock, Refused, Pushed, ClockOf, ClockAt, NthAt, SenderAt, ReceiverAt}
use Rattle.trace.proofs.Sources.{sends_is, sends_at, source_is, receives_is, valid_from}
use Rattle.trace.proofs.Tables.{total_none, total_few, latest_at, latest_none, clocks_long, clock_read}
use Rattle.trace.proofs.Known.{clock_knows}
use Rattle.trace.proofs.Grown.{refused_not}

-- a trace keeps its rules
pub valid : (t : Trace) → Valid t.n (events t)
valid t = valid_from t.n (events t) t.rules

-- the list of places of a process is as long as it has events; there is none for a process that is not one of the 16
pub counted : (t : Trace) (i : ℕ) → length (get_or (listed t.places) i []) ≡ total (events t) i
counted t i =
    ⊎_elim
    (λ lt. t.tables.counted i lt)
    (λ ge.
    ap length (get_or_past (listed t.places) i [] (omega (arith, length-map t.places (λ v. v.items), t.sized.0)))
    ∙ sym (total_none t.n (events t) (valid t) i (omega (arith, t.few))))
    (cases_lt i 16)

pub counted_few : (t : Trace) (i : ℕ) → length (get_or (listed t.places) i []) ≤ 1024
counted_few t i = omega (arith, counted t i, total_few t.n (events t) (valid t) i)

-- and it has room while the process has less than the most events
pub room_left : (t : Trace) (p : ℕ) (v : Vec ℕ) → p < t.n → total (events t) p < 1024 → vec_len (get_or t.places p v) < vec_capacity (get_or t.places p v)
room_left t p v own few =
    let h : p < length t.places = omega (arith, t.few, t.sized.0) in
    omega (arith, t.room.2 p v h, (get_or t.places p v).ok.0, ap length (get_or-map (λ x. x.items) t.places p v [] h), counted t p)

-- there is a clock for each event
pub clocks_as_events : (t : Trace) → length t.clocks.items ≡ length (events t)
clocks_as_events t = clocks_long (events t) t.clocks.items t.clocked

-- a clock of an event, as a read has it
pub clock_of : (t : Trace) (e : ℕ) (k : Clock) → e < length t.clocks.items → k ≡ get_or t.clocks.items e k → ClockOf t e k
clock_of t e k h is =
    let rule : k.entries ≡ clock (events t) e = clock_read (events t) t.clocks.items e k t.clocked h is in
    let within : e < length (events t) = omega (arith, clocks_as_events t) in
    record {
      within = within;
      rule = rule;
      counts = λ j lt. subst (λ (row : List ℕ). Knows (events t) e j (get_or row j 0)) (sym rule) (clock_knows t.n (events t) (valid t) t.few e j within lt);
    }

pub clock_found : (t : Trace) (e : ℕ) (o : Option Clock) →
    MatchOption o (length t.clocks.items ≤ e) (λ k. (e < length t.clocks.items) × (k ≡ get_or t.clocks.items e k)) → ClockAt t e o
clock_found t e None found = omega (arith, clocks_as_events t)
clock_found t e (Some k) found = clock_of t e k found.0 found.1

-- the clock of the last event of a process, as it is looked up
pub latest_found : (t : Trace) (i h : ℕ) (e : Option ℕ) (z k : Clock) → h ≡ total (events t) i → NthAt t i h e → z.entries ≡ zeros →
    MatchOption e (k ≡ z) (λ x. x < length t.clocks.items → k ≡ get_or t.clocks.items x k) → k.entries ≡ last_clock (events t) i
latest_found t i h None z k all none is found =
    let no' : total (events t) i ≡ 0 = ⊎_elim (λ pos. absurd (none (omega arith) (omega arith))) (λ ge. omega arith) (cases_lt 0 (total (events t) i)) in
    ap (λ x. x.entries) found ∙ is ∙ sym (latest_none (events t) (mattern (events t) (length (events t))) i no')
latest_found t i h (Some e) z k all last is found =
    let h : e < length t.clocks.items = omega (arith, last.0, clocks_as_events t) in
    clock_read (events t) t.clocks.items e k t.clocked h (found h)
    ∙ sym (latest_at (events t) (mattern (events t) (length (events t))) i e last.0 last.1 (last.2 ∙ all))

-- where a table of messages finds events, and the event at the place that it has is none, there is none
missed : (t : Trace) (test : ℕ → Action → Bool) (f : Ends → ℕ) (m : ℕ) (x : Ends) → Finds test (events t) (map f t.messages.items) → m < 65536 → x ≡ get_or t.messages.items m x →
    (f x < length (events t) → test m (does (events t) (f x)) ≡ false) → (e : ℕ) → e < length (events t) → test m (does (events t) e) ≡ true → ⊥
missed t test f m x finds h is none e lt passes =
    let at : e ≡ f x = sym (finds e m lt passes) ∙ get_or-map f t.messages.items m x 0 (omega (arith, t.sized.1, t.messages.ok.0)) ∙ sym (ap f is) in
    both_ways _ (none (omega arith)) (ap (λ (k : ℕ). test m (does (events t) k)) (sym at) ∙ passes)

-- what is found at a place, if the event there is as wanted
abbrev pub Found : Trace → (Action → Bool) → ℕ → Option ℕ → Type 0
Found t wanted at o =
    MatchOption o (at < length (events t) → wanted (does (events t) at) ≡ false)
    (λ e. (e ≡ at) × (at < length (events t)) × (wanted (does (events t) at) ≡ true))

pub sender_found : (t : Trace) (m : ℕ) (x : Ends) (o : Option ℕ) → m < 65536 → x ≡ get_or t.messages.items m x → Found t (sends m) x.sent o → SenderAt t m o
sender_found t m x None h is found = λ s same.
    missed t sends (λ y. y.sent) m x t.tables.sent h is found s.at s.within (sends_at m s.to s.message _ s.is same)
sender_found t m x (Some e) h is found =
    let a = sends_is m (does (events t) x.sent) found.2 in
    let s : Sending (events t) = record { at = x.sent; within = found.1; to = a.to; message = m; is = a.is } in
    (found.0 ∙ sym (source_is (events t) t.rules.sent_once s), (s, refl, sym found.0))

pub receiver_found : (t : Trace) (m : ℕ) (x : Ends) (o : Option ℕ) → m < 65536 → x ≡ get_or t.messages.items m x → Found t (receives m) x.received o → ReceiverAt t m o
receiver_found t m x None h is found = λ r same.
    missed t receives (λ y. y.received) m x t.tables.received h is found r.at r.within (ap (receives m) r.is ∙ eq-eqb r.message m same)
receiver_found t m x (Some e) h is found =
    let r : Receiving (events t) = record { at = x.received; within = found.1; message = m; is = receives_is m _ found.2 } in
    (r, refl, sym found.0)

-- an event that is refused
pub push_refused : (t : Trace) (ev : Event) (e : EventFault) → Refused t.n (events t) ev e → Pushed t ev (Err e) t
push_refused t ev e refused = record { outcome = (refused, refl); exactly = λ v. refused_not t.n (events t) ev e refused v }
