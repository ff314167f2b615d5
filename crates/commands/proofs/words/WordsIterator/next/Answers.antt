use Rattle.std.proofs.Common.{rules, tests, ◌≡◌, not, sym, refl, ap, ◌∙◌}
use Rattle.std.specs.List.{position}
use Rattle.std.proofs.lemmas.List.{take_rest}
use Rattle.std.proofs.lemmas.Iterator.{YieldsList-from_slice}
use Rattle.std.proofs.lemmas.Iterator.Search.{position_from_yields_List}
use Rattle.commands.specs.Words.{is_blank}
use Rattle.commands.proofs.Splits.{no_word, next}
use Rattle.commands.proofs.words.WordsIterator.next.Goals as goal

pub returns-in_err-start-clause-steps : goal.returns-in_err-start-clause-steps
returns-in_err-start-clause-steps c =
    let at : c.position.result ≡ position (λ b. not (is_blank b)) c.self.inside.line.now =
    position_from_yields_List _ _ _ c.position.result c.position.ensures.ran (YieldsList-from_slice c.self.inside.line.now cc) (λ x b q k. search (rules, tests)) in
    let none = sym c.self.view_is ∙ no_word c.self.inside.line.now (sym at ∙ c.in_err-start.was) in
    rw c.from_residual.ensures (none, none)

pub returns-clause-steps : goal.returns-clause-steps
returns-clause-steps c =
    let line = c.self.inside.line.now in
    let at : c.position.result ≡ position (λ b. not (is_blank b)) line =
    position_from_yields_List _ _ _ c.position.result c.position.ensures.ran (YieldsList-from_slice line cc) (λ x b q k. search (rules, tests)) in
    let till : c.position-2.result ≡ position is_blank c.iter-2.result.rest.now =
    position_from_yields_List _ _ _ c.position-2.result c.position-2.ensures.ran (YieldsList-from_slice c.iter-2.result.rest.now refl) (λ x b q k. search (rules, tests)) in
    sym c.self.view_is
    ∙ next line _ c.in_ok-start.start (sym at ∙ c.in_ok-start.was) (take_rest line c.in_ok-start.start) c.position-2.result c.unwrap_or-end.result
    (till ∙ ap (position is_blank) c.iter-2.ensures.rest) c.unwrap_or-end.ensures c.split_at.ensures.front c.split_at.ensures.back

pub returns-clause-goes : goal.returns-clause-goes
returns-clause-goes c = search (rules, returns-clause-steps c)
