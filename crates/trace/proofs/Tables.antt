-- The events of a trace with the tables that go with them. Assumes nothing.
use Rattle.std.proofs.Common.{◌≡◌, ℕ, zero, suc, ◌-◌, ◌<◌, ◌≤◌, cond, eqb, List, [], ◌∷◌, map, length, get_or, set, sym, refl, ap, ◌∙◌, subst, ⊎_elim, arith}
use Rattle.std.specs.Global.{Vec}
use Rattle.std.proofs.lemmas.List.{length-map, map-set, get_or-map, get_or-set_same, get_or-set_other}
use Rattle.std.proofs.lemmas.Bool.{cases_lt, cases_eq, eq-eqb, ne_eqb, cond-true, cond-false}
use Rattle.trace.specs.declared.clock.Clock.{Clock}
use Rattle.trace.specs.declared.event.Event.{Event}
use Rattle.trace.specs.declared.trace.Ends.{Ends}
use Rattle.trace.specs.Events.{most, by, number, total}
use Rattle.trace.specs.Rules.{Valid}
use Rattle.trace.specs.Clocks.{zeros, latest, mattern, clock}
use Rattle.trace.specs.Tables.{rows, listed, Indexed, Tabled, KeepsRules}
use Rattle.trace.proofs.Counts.{count_le, count_mono, count_here, number_is, number_total, numbered}
use Rattle.trace.proofs.Clocks.{find_last, length-clocks}
use Rattle.trace.proofs.Sources.{keeps, valid_none}

-- the items of the vector at a place
pub listed_at : (places : List (Vec ℕ)) (i : ℕ) (xs : List ℕ) → i < length places → ((v : Vec ℕ) → (get_or places i v).items ≡ xs) → get_or (listed places) i [] ≡ xs
listed_at [] i xs h is = absurd (omega arith)
listed_at (v ∷ vs) zero xs h is = is v
listed_at (v ∷ vs) (suc i) xs h is = listed_at vs i xs (omega arith) is

-- no events
pub keeps_none : (n : ℕ) (es : List Event) → es ≡ [] → KeepsRules n es
keeps_none n es none = subst (KeepsRules n) (sym none) (keeps n [] (valid_none n))

pub tabled_none : (es : List Event) (places : List (Vec ℕ)) (messages : List Ends) → es ≡ [] → length places ≡ most →
    ((i : ℕ) (v : Vec ℕ) → i < most → (get_or places i v).items ≡ []) → Tabled es (listed places) messages
tabled_none es places messages none long empty =
    let short : length es ≡ 0 = ap length none in
    record {
      counted = λ i h. ap length (listed_at places i [] (omega arith) (λ v. empty i v h)) ∙ sym (ap (λ x. total x i) none);
      indexed = λ e h. absurd (omega arith);
      sent = λ e m h. absurd (omega arith);
      received = λ e m h. absurd (omega arith);
    }

-- a process with events is one of the processes
pub process_of : (n : ℕ) (es : List Event) → Valid n es → (i : ℕ) → 0 < total es i → i < n
process_of n es v i h =
    let x = numbered es (length es) i (total es i) h (omega arith) in
    subst (λ (j : ℕ). j < n) x.of (v.process x.at x.within)

pub total_none : (n : ℕ) (es : List Event) → Valid n es → (i : ℕ) → n ≤ i → total es i ≡ 0
total_none n es v i h =
    ⊎_elim (λ pos. absurd (omega (arith, process_of n es v i pos))) (λ no'. omega arith) (cases_lt 0 (total es i))

pub total_few : (n : ℕ) (es : List Event) → Valid n es → (i : ℕ) → total es i ≤ 1024
total_few n es v i = omega (arith, count_le es i (length es), v.few)

-- what the table of places has of the h-th event of process i
pub place_is : (n : ℕ) (es : List Event) (places : List (List ℕ)) → Indexed es places → (i h e : ℕ) → 0 < h → h ≤ total es i → get_or (get_or places i []) (h - 1) 0 ≡ e →
    (e < length es) × (by es e ≡ i) × (number es e ≡ h)
place_is n es places indexed i h e pos le is =
    let x = numbered es (length es) i h pos le in
    let same : x.at ≡ e =
    sym (indexed x.at x.within) ∙ ap (λ (j : ℕ). get_or (get_or places j []) (number es x.at - 1) 0) x.of
    ∙ ap (λ (k : ℕ). get_or (get_or places i []) (k - 1) 0) x.is ∙ is in
    subst (λ (y : ℕ). (y < length es) × (by es y ≡ i) × (number es y ≡ h)) same (x.within, x.of, x.is)

-- the clock of a process's latest event
number_in : (es : List Event) (i e : ℕ) → e < length es → by es e ≡ i → number es e ≤ total es i
number_in es i e h of = subst (λ (j : ℕ). number es e ≤ total es j) of (number_total es e h)

pub latest_at : (es : List Event) (cs : List (List ℕ)) (i e : ℕ) → e < length es → by es e ≡ i → number es e ≡ total es i → latest es cs i (length es) ≡ get_or cs e zeros
latest_at es cs i e h of is =
    ⊎_elim
    (λ l.
    let le = l.most e h of in
    let same : l.at ≡ e =
    ⊎_elim
    (λ lt. absurd (omega (arith, number_is es l.at i l.of, number_is es e i of, count_mono es i (suc e) l.at lt, count_here es i e of, number_in es i l.at l.within l.of)))
    (λ ge. omega arith)
    (cases_lt e l.at) in
    l.is ∙ ap (λ (x : ℕ). get_or cs x zeros) same)
    (λ l. absurd (l.none e h of))
    (find_last es cs i (length es))

pub latest_none : (es : List Event) (cs : List (List ℕ)) (i : ℕ) → total es i ≡ 0 → latest es cs i (length es) ≡ zeros
latest_none es cs i none =
    ⊎_elim
    (λ l. absurd (omega (arith, number_is es l.at i l.of, number_in es i l.at l.within l.of)))
    (λ l. l.is)
    (find_last es cs i (length es))

-- what is read from the table of clocks
pub clocks_long : (es : List Event) (cs : List Clock) → rows cs ≡ mattern es (length es) → length cs ≡ length es
clocks_long es cs table = sym (length-map cs (λ c. c.entries)) ∙ ap length table ∙ length-clocks es (length es)

pub clock_read : (es : List Event) (cs : List Clock) (e : ℕ) (k : Clock) → rows cs ≡ mattern es (length es) → e < length cs → k ≡ get_or cs e k → k.entries ≡ clock es e
clock_read es cs e k table h is = ap (λ x. x.entries) is ∙ sym (get_or-map (λ x. x.entries) cs e k zeros h) ∙ ap (λ t. get_or t e zeros) table

-- one field of the table of messages, where an entry is written
pub noted : (f : Ends → ℕ) (messages : List Ends) (m : ℕ) (x : Ends) → m < length messages → (k : ℕ) → get_or (map f (set messages m x)) k 0 ≡ cond (eqb m k) (f x) (get_or (map f messages) k 0)
noted f messages m x h k =
    ap (λ xs. get_or xs k 0) (map-set f messages m x)
    ∙ ⊎_elim
    (λ e. subst (λ (j : ℕ). get_or (set (map f messages) m (f x)) j 0 ≡ cond (eqb m j) (f x) (get_or (map f messages) j 0)) e
    (get_or-set_same (map f messages) m (f x) 0 (omega (arith, length-map messages f)) ∙ sym (cond-true _ _ _ (eq-eqb m m refl))))
    (λ ne. get_or-set_other (map f messages) m k (f x) 0 (λ e. ne (sym e)) ∙ sym (cond-false _ _ _ (ne_eqb m k ne)))
    (cases_eq m k)
