-- What std reads in a word of digits alone. Assumes nothing.
use Rattle.std.proofs.Common.{◌≡◌, ℕ, suc, ◌^◌, true, ◌&&◌, Result, Ok, Err, List, [], ◌∷◌, MatchOption, refl, ap, arith, rules}
use Rattle.std.specs.List.{list_all}
use Rattle.std.specs.Result.{result_ok}
use Rattle.std.specs.Str.{IsUtf8}
use Rattle.std.specs.Str.Parse.{ParsesUnsigned}
use Rattle.std.proofs.lemmas.Str.{IsUtf8-from_ascii}
use Rattle.std.proofs.lemmas.Str.Parse.{IsNumeralModel, numerals_by_fold, parse_digits}
use Rattle.std.proofs.lemmas.Fmt.{IsAscii-from_digits}
use Rattle.commands.specs.Words.{is_digit, all_digits, value_on, Writes}

own : IsNumeralModel (λ ds. all_digits ds ≡ true) (value_on 0)
own = numerals_by_fold _ (search rules) value_on (search rules)

pub each_digit : (word : List ℕ) → list_all is_digit word ≡ all_digits word
each_digit [] = refl
each_digit (b ∷ word) = ap (λ t. is_digit b && t) (each_digit word)

pub text : (word : List ℕ) → all_digits word ≡ true → IsUtf8 word
text word digits = IsUtf8-from_ascii word (IsAscii-from_digits word (own.to word digits))

pub read : {T E : Type 0} (word : List ℕ) (gives : Result T E → Type 0) (r : Result T E) → gives r → all_digits word ≡ true → MatchOption (result_ok r) (all_digits word ≡ true → (e : E) × gives (Err e)) (λ v. (all_digits word ≡ true) × gives (Ok v))
read word gives (Ok v) g digits = (digits, g)
read word gives (Err e) g digits = λ _. (e, g)

-- in numbers of k bits; what stands in an error does not matter
module _ (k most : ℕ) (range : 2 ^ k ≡ suc most) (word : List ℕ) where
  pub writes : (v : ℕ) → all_digits word ≡ true → ParsesUnsigned {E = Unit {0}} k 10 word (Ok v) → Writes word most v
  writes v digits given =
      let ((some, small), is) = parse_digits own {E = Unit {0}} k word (Ok v) given digits in
      record { some = some; digits = digits; value = is; small = omega (arith, small, is, range) }

  pub writes_none : (all_digits word ≡ true → ParsesUnsigned {E = Unit {0}} k 10 word (Err tt)) → (v : ℕ) → Writes word most v → ⊥
  writes_none none v w = parse_digits own {E = Unit {0}} k word (Err tt) (none w.digits) w.digits (w.some, omega (arith, w.small, w.value, range))
