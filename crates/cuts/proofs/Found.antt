-- A test of the event at a place that was looked up, false if there is none. Assumes nothing.
use Rattle.std.proofs.Common.{◌≡◌, ℕ, ◌<◌, ◌≤◌, Bool, false, List, length, None, Some, Option, MatchOption, sym, ap, ◌∙◌, arith}
use Rattle.std.specs.Option.{IsSomeAnd}
use Rattle.trace.specs.declared.event.Event.{Event}
use Rattle.trace.specs.Events.{by, number, total, nth, event as event_at}
use Rattle.cuts.specs.Cutting.{nth_is}

-- what each case of an option gives, made weaker
pub match_then : {A : Type 0} (o : Option A) {P R : Type 0} {Q S : A → Type 0} → MatchOption o P Q → (P → R) → ((x : A) → Q x → S x) → MatchOption o R S
match_then None m none some = none m
match_then (Some x) m none some = some x m

pub found : (es : List Event) (test : Event → Bool) (is : Bool) (place : Option ℕ) (event : Option Event) (r : Bool) {N : Type 0} {F P : ℕ → Type 0} {Q : Event → Type 0} → MatchOption place N F
    → MatchOption place (event ≡ None) P → MatchOption event (r ≡ false) Q → ((p : ℕ) → P p → MatchOption event (length es ≤ p) (λ e. (p < length es) × (e ≡ event_at es p)))
    → ((e : Event) → Q e → r ≡ test e) → (N → is ≡ false) → ((p : ℕ) → F p → (p < length es) × (is ≡ test (event_at es p))) → r ≡ is
found es test is None None r n _ off _ _ none there = off ∙ sym (none n)
found es test is None (Some e) r n out _ _ _ none there = cc
found es test is (Some p) None r f at off stands _ none there = absurd (omega (arith, stands p at, (there p f).0))
found es test is (Some p) (Some e) r f at on stands judged none there = judged e on ∙ ap test (stands p at).1 ∙ sym (there p f).1

-- the event of a process with a number
pub looked_up : (es : List Event) (i h : ℕ) (place : Option ℕ) (event : Option Event) {P : ℕ → Type 0} → MatchOption place (1 ≤ h → h ≤ total es i → ⊥) (λ e. (e < length es) × (by es e ≡ i) × (number es e ≡ h)) → MatchOption place (event ≡ None) P
    → ((p : ℕ) → P p → MatchOption event (length es ≤ p) (λ e. (p < length es) × (e ≡ event_at es p))) → MatchOption event (1 ≤ h → h ≤ total es i → ⊥) (λ e. (nth es i h < length es) × (e ≡ event_at es (nth es i h)))
looked_up es i h None None n _ _ = n
looked_up es i h None (Some e) n out _ = cc
looked_up es i h (Some p) None f at stands = absurd (omega (arith, stands p at, f.0))
looked_up es i h (Some p) (Some e) f at stands =
    let is : nth es i h ≡ p = nth_is es i h p f.0 f.1 f.2 in
    (omega (arith, f.0), (stands p at).1 ∙ ap (event_at es) (sym is))

-- the same of an event that was looked up in one call
pub tested : (test : Event → Bool) (is : Bool) (event : Option Event) (r : Bool) {N : Type 0} {P Q : Event → Type 0} → MatchOption event N P → MatchOption event (r ≡ false) Q → ((e : Event) → Q e → r ≡ test e) → (N → is ≡ false)
    → ((e : Event) → P e → test e ≡ is) → r ≡ is
tested test is None r n off _ none there = off ∙ sym (none n)
tested test is (Some e) r at on judged none there = judged e on ∙ there e at

-- what an option that was mapped gives, from what the option gives
pub map_then : {A B : Type 0} (o : Option A) (r : Option B) {N M : Type 0} {P : A → B → Type 0} {F : A → Type 0} (S : B → Type 0) → MatchOption o (r ≡ None) (λ x. IsSomeAnd r (P x)) → MatchOption o N F → (N → M) → ((x : A) (y : B) → P x y → F x → S y)
    → MatchOption r M S
map_then None None S is n none some = none n
map_then None (Some y) S is n none some = cc
map_then (Some x) None S is f none some = absurd is
map_then (Some x) (Some y) S is f none some = some x y is f
