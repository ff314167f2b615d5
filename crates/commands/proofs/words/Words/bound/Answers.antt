use Rattle.std.proofs.Common.{[], ◌∷◌, refl}
use Rattle.std.proofs.lemmas.Result.{MatchResult-from_err}
use Rattle.commands.specs.Commands.{most32, most64}
use Rattle.commands.proofs.Digits.{writes, writes_none}
use Rattle.commands.proofs.words.Words.bound.Goals as goal

pub returns-in_err-number : goal.returns-in_err-number
returns-in_err-number c =
    MatchResult-from_err _ _ _ c.from_residual.ensures.0
    (λ _ a b p h are v _. writes_none 64 most64 refl a (λ digits. (c.in_err-number.ensures a (b ∷ []) are digits).1.0) p v)

pub returns-in_err-number-2 : goal.returns-in_err-number-2
returns-in_err-number-2 c =
    let n = c.in_ok-number.ensures in
    MatchResult-from_err _ _ _ c.from_residual-in_err-number-2.ensures.0
    (λ _ a b p h are _ v. writes_none 32 most32 refl b (λ digits. (c.in_err-number-2.ensures b [] (cc (n.are, are)) digits).1.0) h v)

pub returns : goal.returns
returns c =
    let n = c.in_ok-number.ensures in
    let m = c.in_ok-number-2.ensures in
    record {
      first = n.word;
      second = m.word;
      are = cc (n.are, m.are);
      of_place = writes 64 most64 refl n.word c.in_ok-number.field-0 n.digits n.value.0;
      of_height = writes 32 most32 refl m.word c.in_ok-number-2.field-0 m.digits m.value.0;
    }
