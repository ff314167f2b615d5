-- The digits of a number, written from the last place of an array towards its first. Assumes nothing.
use Rattle.std.proofs.Common.{◌≡◌, ℕ, zero, suc, ◌+◌, ◌-◌, ◌/◌, ◌%◌, ◌^◌, ◌<◌, ◌≤◌, List, [], ◌∷◌, ◌++◌, length, drop, set, decimal, sym, ap, ◌∙◌, append_assoc, pow-suc, arith}
use native.Mathlib.Nat.{pow-zero}
use Rattle.std.proofs.lemmas.List.{drop-set}
use Rattle.std.proofs.lemmas.Fmt.{decimal_digit, decimal_step}

-- a number without its last digit needs one place less
pub room_more : (start rest : ℕ) → 0 < start → rest < 10 ^ start → rest / 10 < 10 ^ (start - 1)
room_more zero rest some room = omega arith
room_more (suc s) rest some room =
    let e : suc s - 1 ≡ s = omega arith in
    rw e (omega (arith, pow-suc 10 s))

-- where digits are left, so is a place for them
pub room_some : (start rest : ℕ) → rest < 10 ^ start → (rest ≡ 0 → ⊥) → 0 < start
room_some zero rest room more = absurd (more (omega (arith, pow-zero 10)))
room_some (suc s) rest room more = omega arith

-- a digit that is written before those that are there
written_before : (start digit : ℕ) (digits : List ℕ) → 0 < start → start ≤ length digits → drop (start - 1) (set digits (start - 1) digit) ≡ digit ∷ drop start digits
written_before start digit digits some within =
    let e : start - 1 + 1 ≡ start = omega arith in
    drop-set digits (start - 1) digit (omega arith) ∙ ap (λ (n : ℕ). digit ∷ drop n digits) e

-- one more digit, and not the first of the number
pub digit_more :
    (rest start : ℕ) (digits : List ℕ) → rest < 2 ^ 64 → 10 ≤ rest → 0 < start → start ≤ length digits →
    decimal rest ++ drop start digits ≡ decimal (rest / 10) ++ drop (start - 1) (set digits (start - 1) (48 + rest % 10))
digit_more rest start digits small more some within =
    let w = written_before start (48 + rest % 10) digits some within in
    ap (λ (ds : List ℕ). ds ++ drop start digits) (decimal_step rest more small)
    ∙ append_assoc (decimal (rest / 10)) ((48 + rest % 10) ∷ []) (drop start digits)
    ∙ sym (ap (λ (ds : List ℕ). decimal (rest / 10) ++ ds) w)

-- the first digit of the number
pub digit_all :
    (rest start : ℕ) (digits : List ℕ) → rest < 10 → 0 < start → start ≤ length digits →
    decimal rest ++ drop start digits ≡ drop (start - 1) (set digits (start - 1) (48 + rest % 10))
digit_all rest start digits less some within =
    let e : rest % 10 ≡ rest = omega arith in
    let w = written_before start (48 + rest % 10) digits some within in
    ap (λ (ds : List ℕ). ds ++ drop start digits) (decimal_digit rest less)
    ∙ sym (w ∙ ap (λ (n : ℕ). (48 + n) ∷ drop start digits) e)
