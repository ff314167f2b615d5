use Rattle.std.proofs.Common.{◌≡◌, Some, None, refl, sym, ap, ◌∙◌, arith, inl, inr}
use Rattle.std.specs.Result.{result_ok}
use Rattle.std.proofs.lemmas.Result.{MatchResult-from_err}
use Rattle.std.proofs.lemmas.List.{set-get_or}
use Rattle.commands.specs.Commands.{most32}
use Rattle.commands.proofs.Digits.{writes, writes_none}
use Rattle.commands.proofs.Heights.{start, one_more, no_height, all_read}
use Rattle.commands.proofs.words.Words.heights.Goals as goal

pub loop-height-init : goal.loop-height-init
loop-height-init c = start _

pub returns-in_err-height : goal.returns-in_err-height
returns-in_err-height c =
    let none : c.number.result ≡ None = c.ok_or.ensures.ok_part ∙ ap result_ok c.in_err-height.was in
    let given = rw none at c.number.ensures in
    MatchResult-from_err _ _ _ c.from_residual.ensures.0
    (λ _. no_height c.loop-height.invariant c.in-Some.ensures.steps (writes_none 32 most32 refl c.in-Some.word.now (λ digits. (given digits).1.0)))

pub loop-height-preserved : goal.loop-height-preserved
loop-height-preserved c =
    let some : c.number.result ≡ Some c.in_ok-height.field-0 = c.ok_or.ensures.ok_part ∙ ap result_ok c.in_ok-height.was in
    let given = rw some at c.number.ensures in
    one_more c.loop-height.invariant c.in-Some.ensures.steps c.loop-height-test.true (writes 32 most32 refl c.in-Some.word.now c.in_ok-height.field-0 given.0 given.1.0)

pub returns-after-loop-height : goal.returns-after-loop-height
returns-after-loop-height c = all_read c.loop-height.invariant c.loop-height.auto.height-index-end (inl (omega arith))

pub returns-in_default : goal.returns-in_default
returns-in_default c =
    let end : c.next.new.self ≡ c.loop-height.self = c.in_default.ensures.steps.1 ∙ sym c.in_default.ensures.steps.0 in
    rw (set-get_or, end) (all_read c.loop-height.invariant c.loop-height.auto.height-index-end (inr c.in_default.ensures.steps.0))
