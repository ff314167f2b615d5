-- The table of clocks: its rows, and the rule by which each comes from those before it. Assumes nothing.
use Rattle.std.proofs.Common.{◌≡◌, ℕ, zero, suc, ◌<◌, ◌≤◌, cond, eqb, ◌⊎◌, List, length, get_or, set, sym, refl, ap, ◌∙◌, subst, inl, inr, ⊎_elim, arith}
use Rattle.std.proofs.lemmas.List.{length-set, length_push, get_or_push, get_or_append_left, get_or_past, get_or-set_same}
use Rattle.std.proofs.lemmas.Bool.{cases_eq, cases_lt, eq-eqb, ne_eqb, cond-true, cond-false}
use Rattle.trace.specs.declared.event.Event.{Event}
use Rattle.trace.specs.declared.event.Action.{Action}
use Rattle.trace.specs.declared.event.Action.TheVariants.{Local, Send, Receive}
use Rattle.trace.specs.Events.{by, does, number, source}
use Rattle.trace.specs.Clocks.{zeros, merged, latest, received, next, mattern}
use Rattle.trace.specs.Rules.{Valid}
use Rattle.trace.proofs.Rows.{length_merged, get_or-merged}
use Rattle.trace.proofs.Sources.{sent}

-- the last event of process i among the first k
pub record Last (es : List Event) (cs : List (List ℕ)) (i k : ℕ) : Type 0 where
  pub at : ℕ
  pub within : at < k
  pub of : by es at ≡ i
  pub most : (a : ℕ) → a < k → by es a ≡ i → a ≤ at
  pub is : latest es cs i k ≡ get_or cs at zeros

pub record NoLast (es : List Event) (cs : List (List ℕ)) (i k : ℕ) : Type 0 where
  pub none : (a : ℕ) → a < k → by es a ≡ i → ⊥
  pub is : latest es cs i k ≡ zeros

pub find_last : (es : List Event) (cs : List (List ℕ)) (i k : ℕ) → Last es cs i k ⊎ NoLast es cs i k
find_last es cs i zero = inr (record { none = λ a h e. omega arith; is = refl })
find_last es cs i (suc k) =
    ⊎_elim
    (λ e. inl (record { at = k; within = omega arith; of = e; most = λ a h _. omega arith; is = cond-true _ _ _ (eq-eqb _ _ e) }))
    (λ ne.
    let skip = cond-false (eqb (by es k) i) (get_or cs k zeros) (latest es cs i k) (ne_eqb _ _ ne) in
    let less : (a : ℕ) → a < suc k → by es a ≡ i → a < k = λ a h e. ⊎_elim (λ same. absurd (ne (subst (λ (x : ℕ). by es x ≡ i) same e))) (λ d. omega arith) (cases_eq a k) in
    ⊎_elim
    (λ l. inl (record { at = l.at; within = omega arith; of = l.of; most = λ a h e. l.most a (less a h e) e; is = skip ∙ l.is }))
    (λ l. inr (record { none = λ a h e. l.none a (less a h e) e; is = skip ∙ l.is }))
    (find_last es cs i k))
    (cases_eq (by es k) i)

-- what a receive takes in
pub record From (es : List Event) (cs : List (List ℕ)) (a : Action) (j h : ℕ) : Type 0 where
  pub message : ℕ
  pub is : a ≡ Receive message
  pub most : h ≤ get_or (get_or cs (source es message) zeros) j 0

pub received_from : (es : List Event) (cs : List (List ℕ)) (a : Action) (c : List ℕ) (j h : ℕ) → j < length c → h ≤ get_or (received es cs a c) j 0 → (h ≤ get_or c j 0) ⊎ From es cs a j h
received_from es cs Local c j h lt le = inl le
received_from es cs (Send to m) c j h lt le = inl le
received_from es cs (Receive m) c j h lt le =
    ⊎_elim
    (λ above. inr (record { message = m; is = refl; most = omega (arith, get_or-merged c (get_or cs (source es m) zeros) j lt) }))
    (λ own. inl own)
    (cases_lt (get_or c j 0) h)

pub received_own : (es : List Event) (cs : List (List ℕ)) (a : Action) (c : List ℕ) (j : ℕ) → j < length c → get_or c j 0 ≤ get_or (received es cs a c) j 0
received_own es cs Local c j lt = omega arith
received_own es cs (Send to m) c j lt = omega arith
received_own es cs (Receive m) c j lt = omega (arith, get_or-merged c (get_or cs (source es m) zeros) j lt)

pub received_sent : (es : List Event) (cs : List (List ℕ)) (a : Action) (c : List ℕ) (j m : ℕ) → j < length c → a ≡ Receive m →
    get_or (get_or cs (source es m) zeros) j 0 ≤ get_or (received es cs a c) j 0
received_sent es cs a c j m lt e = rw e (omega (arith, get_or-merged c (get_or cs (source es m) zeros) j lt))

pub length-received : (es : List Event) (cs : List (List ℕ)) (a : Action) (c : List ℕ) → length (received es cs a c) ≡ length c
length-received es cs Local c = refl
length-received es cs (Send to m) c = refl
length-received es cs (Receive m) c = length_merged c (get_or cs (source es m) zeros)

-- the table of clocks
pub length-clocks : (es : List Event) (k : ℕ) → length (mattern es k) ≡ k
length-clocks es zero = refl
length-clocks es (suc k) = let r = length-clocks es k in omega (arith, length_push (mattern es k) (next es (mattern es k) k))

pub clock_at : (es : List Event) (k e : ℕ) → e < k → get_or (mattern es k) e zeros ≡ next es (mattern es e) e
clock_at es zero e h = absurd (omega arith)
clock_at es (suc k) e h =
    ⊎_elim
    (λ lt. get_or_append_left (mattern es k) _ zeros e (omega (arith, length-clocks es k)) ∙ clock_at es k e lt)
    (λ ge. let same : k ≡ e = omega arith in subst (λ (x : ℕ). get_or (mattern es (suc k)) x zeros ≡ next es (mattern es x) x) same (get_or_push (mattern es k) _ zeros k (length-clocks es k)))
    (cases_lt e k)

pub clock_same : (es : List Event) (k m e : ℕ) → e < k → e < m → get_or (mattern es k) e zeros ≡ get_or (mattern es m) e zeros
clock_same es k m e h g = clock_at es k e h ∙ sym (clock_at es m e g)

-- every clock has 16 entries
pub length-latest : (es : List Event) (cs : List (List ℕ)) (i k : ℕ) → ((e : ℕ) → length (get_or cs e zeros) ≡ 16) → length (latest es cs i k) ≡ 16
length-latest es cs i k all = ⊎_elim (λ l. ap length l.is ∙ all l.at) (λ l. ap length l.is) (find_last es cs i k)

pub length-next : (es : List Event) (cs : List (List ℕ)) (e : ℕ) → ((d : ℕ) → length (get_or cs d zeros) ≡ 16) → length (next es cs e) ≡ 16
length-next es cs e all = length-set _ (by es e) _ ∙ length-received es cs (does es e) _ ∙ length-latest es cs (by es e) e all

pub own_next : (es : List Event) (cs : List (List ℕ)) (e i : ℕ) → ((d : ℕ) → length (get_or cs d zeros) ≡ 16) → i < 16 → by es e ≡ i → get_or (next es cs e) i 0 ≡ number es e
own_next es cs e i all h same =
    let c = received es cs (does es e) (latest es cs (by es e) e) in
    subst (λ (j : ℕ). get_or (set c (by es e) (number es e)) j 0 ≡ number es e) same
    (get_or-set_same c (by es e) (number es e) 0 (omega (arith, length-received es cs (does es e) (latest es cs (by es e) e), length-latest es cs (by es e) e all)))

pub length-row : (es : List Event) (k e : ℕ) → length (get_or (mattern es k) e zeros) ≡ 16
length-row es zero e = refl
length-row es (suc k) e =
    ⊎_elim
    (λ lt. ap length (get_or_append_left (mattern es k) _ zeros e (omega (arith, length-clocks es k))) ∙ length-row es k e)
    (λ ge.
    ⊎_elim
    (λ same. ap length (ap (λ (x : ℕ). get_or (mattern es (suc k)) x zeros) same ∙ get_or_push (mattern es k) _ zeros k (length-clocks es k)) ∙ length-next es (mattern es k) k (length-row es k))
    (λ ne. ap length (get_or_past (mattern es (suc k)) e zeros (omega (arith, length-clocks es (suc k)))))
    (cases_eq e k))
    (cases_lt e k)

-- the rule, read in a longer table
pub latest_same : (es : List Event) (m n i k : ℕ) → k ≤ m → k ≤ n → latest es (mattern es m) i k ≡ latest es (mattern es n) i k
latest_same es m n i zero h g = refl
latest_same es m n i (suc k) h g =
    let here = clock_same es m n k (omega arith) (omega arith) in
    let rest = latest_same es m n i k (omega arith) (omega arith) in
    ap (λ x. cond (eqb (by es k) i) x (latest es (mattern es m) i k)) here ∙ ap (λ x. cond (eqb (by es k) i) (get_or (mattern es n) k zeros) x) rest

pub received_same : (es fs : List Event) (cs ds : List (List ℕ)) (a : Action) (c : List ℕ) →
    ((m : ℕ) → a ≡ Receive m → get_or cs (source es m) zeros ≡ get_or ds (source fs m) zeros) → received es cs a c ≡ received fs ds a c
received_same es fs cs ds Local c h = refl
received_same es fs cs ds (Send to m) c h = refl
received_same es fs cs ds (Receive m) c h = ap (merged c) (h m refl)

pub source_less : (n : ℕ) (es : List Event) → Valid n es → (e m : ℕ) → e < length es → does es e ≡ Receive m → source es m < e
source_less n es valid e m h is = (sent n es valid (record { at = e; within = h; message = m; is = is })).earlier

pub rule : (n : ℕ) (es : List Event) (e : ℕ) → Valid n es → e < length es → get_or (mattern es (length es)) e zeros ≡ next es (mattern es (length es)) e
rule n es e valid h =
    let all = mattern es (length es) in
    clock_at es (length es) e h
    ∙ ap (λ c. set (received es (mattern es e) (does es e) c) (by es e) (number es e)) (latest_same es e (length es) (by es e) e (omega arith) (omega arith))
    ∙ ap (λ c. set c (by es e) (number es e))
    (received_same es es (mattern es e) all (does es e) _
    (λ m is. let less = source_less n es valid e m h is in clock_same es e (length es) (source es m) less (omega arith)))
