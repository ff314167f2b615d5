-- Wanted states and the least wanted height. Assumes nothing.
use Rattle.std.specs.Prelude.{◌≡◌, ℕ, ◌+◌, ◌-◌, ◌<◌, ◌≤◌, Bool, true, false, ◌&&◌, leb, List, length, nat_le}
use Rattle.std.proofs.Common.{ap, ◌∙◌, ⊎_elim, arith}
use Rattle.std.proofs.lemmas.Bool.{cases_Bool, cases_lt, both_ways, leb-true, le-leb, and_parts}
use Rattle.lattice.specs.First.{walk}
use Rattle.lattice.proofs.First.{first_least, first_is}
use Rattle.payload.specs.declared.wish.Wish.{Wish}
use Rattle.payload.specs.Marks.{wanted_by}
use Rattle.trace.specs.declared.event.Event.{Event}
use Rattle.trace.specs.Events.{event, by, number, total, nth}
use Rattle.cuts.specs.Watched.{Wanted, state_wanted, next_wanted_state}
use Rattle.cuts.specs.Cutting.{nth_is, nth_exists, number_low, number_high}

-- the test of a state tells whether it is wanted
pub state_is_wanted : (es : List Event) (wish : Wish) (i h : ℕ) → state_wanted es wish i h ≡ true → Wanted es wish i h
state_is_wanted es wish i h e =
    let low = and_parts _ _ e in
    let high = and_parts _ _ low.1 in
    let y = nth_exists es i h (leb-true _ _ low.0) (leb-true _ _ high.0) in
    record { started = leb-true _ _ low.0; at = nth es i h; there = y.there; of = y.of; is = y.is; wanted = high.1 }

pub wanted_high : (es : List Event) (wish : Wish) (i h : ℕ) → Wanted es wish i h → h ≤ total es i
wanted_high es wish i h w = number_high es i h w.at w.there w.of w.is

-- at an event's height it is that of its payload
pub state_at : (es : List Event) (wish : Wish) (i h e : ℕ) → e < length es → by es e ≡ i → number es e ≡ h → state_wanted es wish i h ≡ wanted_by wish (event es e).payload
state_at es wish i h e there of is =
    let low : leb 1 h ≡ true = le-leb _ _ (omega (arith, number_low es e)) in
    let high : leb h (total es i) ≡ true = le-leb _ _ (number_high es i h e there of is) in
    ap (λ (b : Bool). b && (nat_le h (total es i) && wanted_by wish (event es (nth es i h)).payload)) low
    ∙ ap (λ (b : Bool). b && wanted_by wish (event es (nth es i h)).payload) high
    ∙ ap (λ (x : ℕ). wanted_by wish (event es x).payload) (nth_is es i h e there of is)

pub wanted_state : (es : List Event) (wish : Wish) (i h : ℕ) → Wanted es wish i h → state_wanted es wish i h ≡ true
wanted_state es wish i h w = state_at es wish i h w.at w.there w.of w.is ∙ w.wanted

pub state_unwanted : (es : List Event) (wish : Wish) (i h : ℕ) → state_wanted es wish i h ≡ false → Wanted es wish i h → ⊥
state_unwanted es wish i h e w = both_ways _ e (wanted_state es wish i h w)

pub unwanted_state : (es : List Event) (wish : Wish) (i h : ℕ) → (Wanted es wish i h → ⊥) → state_wanted es wish i h ≡ false
unwanted_state es wish i h none = ⊎_elim (λ e. absurd (none (state_is_wanted es wish i h e))) (λ e. e) (cases_Bool (state_wanted es wish i h))

-- at a height of no event it fails
pub state_none : (es : List Event) (wish : Wish) (i h : ℕ) → (1 ≤ h → h ≤ total es i → ⊥) → state_wanted es wish i h ≡ false
state_none es wish i h none = unwanted_state es wish i h (λ w. none w.started (wanted_high es wish i h w))

-- a search of the heights above h, from the lowest up, finds the least wanted one
pub next_found : (es : List Event) (wish : Wish) (i h q : ℕ) → h < q → q ≤ total es i → ((k : ℕ) → h + 1 ≤ k → k < q → state_wanted es wish i k ≡ false) → state_wanted es wish i q ≡ true
    → next_wanted_state es wish i (h + 1) ≡ q
next_found es wish i h q low high before here = first_is (state_wanted es wish i) (h + 1) (total es i + 1) q (record { low = omega arith; high = omega arith; passes = λ _. here; before = before })

-- or none
pub next_ends : (es : List Event) (wish : Wish) (i h : ℕ) → h ≤ total es i → ((k : ℕ) → h + 1 ≤ k → k < total es i + 1 → state_wanted es wish i k ≡ false)
    → next_wanted_state es wish i (h + 1) ≡ total es i + 1
next_ends es wish i h low none =
    first_is (state_wanted es wish i) (h + 1) (total es i + 1) (total es i + 1) (record { low = omega arith; high = omega arith; passes = λ lt. absurd (omega arith); before = none })

pub none_later : (es : List Event) (wish : Wish) (i h : ℕ) → ((k : ℕ) → h + 1 ≤ k → k < total es i + 1 → state_wanted es wish i k ≡ false) → (k : ℕ) → h < k → Wanted es wish i k → ⊥
none_later es wish i h none k lt w = state_unwanted es wish i k (none k (omega arith) (omega (arith, wanted_high es wish i k w))) w

-- the same by the states
pub next_is : (es : List Event) (wish : Wish) (i h q : ℕ) → h < q → Wanted es wish i q → ((k : ℕ) → h < k → k < q → Wanted es wish i k → ⊥) → next_wanted_state es wish i (h + 1) ≡ q
next_is es wish i h q lt w before =
    next_found es wish i h q lt (wanted_high es wish i q w) (λ k low less. unwanted_state es wish i k (before k (omega arith) less)) (wanted_state es wish i q w)

pub next_none : (es : List Event) (wish : Wish) (i h : ℕ) → ((k : ℕ) → h < k → Wanted es wish i k → ⊥) → total es i < next_wanted_state es wish i (h + 1)
next_none es wish i h none =
    ⊎_elim
    (λ (past : total es i < h).
    let short : total es i + 1 - (h + 1) ≡ 0 = omega arith in
    let stays : next_wanted_state es wish i (h + 1) ≡ h + 1 = ap (λ (c : ℕ). walk (state_wanted es wish i) c (h + 1)) short in
    omega arith)
    (λ (in_reach : h ≤ total es i). omega (arith, next_ends es wish i h in_reach (λ k low less. unwanted_state es wish i k (none k (omega arith)))))
    (cases_lt (total es i) h)

-- what the search finds
pub next_is_wanted : (es : List Event) (wish : Wish) (i h : ℕ) → h ≤ total es i → next_wanted_state es wish i (h + 1) ≤ total es i → Wanted es wish i (next_wanted_state es wish i (h + 1))
next_is_wanted es wish i h low high = state_is_wanted es wish i _ ((first_least (state_wanted es wish i) (h + 1) (total es i + 1) (omega arith)).passes (omega arith))

pub next_above : (es : List Event) (wish : Wish) (i h : ℕ) → h ≤ total es i → h < next_wanted_state es wish i (h + 1)
next_above es wish i h low = omega (arith, (first_least (state_wanted es wish i) (h + 1) (total es i + 1) (omega arith)).low)

pub next_least : (es : List Event) (wish : Wish) (i h : ℕ) → h ≤ total es i → (k : ℕ) → h < k → k < next_wanted_state es wish i (h + 1) → Wanted es wish i k → ⊥
next_least es wish i h low k lt less = state_unwanted es wish i k ((first_least (state_wanted es wish i) (h + 1) (total es i + 1) (omega arith)).before k (omega arith) less)

pub next_past : (es : List Event) (wish : Wish) (i h : ℕ) → h ≤ total es i → total es i < next_wanted_state es wish i (h + 1) → (k : ℕ) → h < k → Wanted es wish i k → ⊥
next_past es wish i h low past k lt w = next_least es wish i h low k lt (omega (arith, wanted_high es wish i k w)) w
