use Rattle.std.proofs.Common.{rules, tests, ◌≡◌, true, sym, ◌∙◌, subst}
use Rattle.std.specs.List.{list_all}
use Rattle.std.proofs.lemmas.Bool.{both_ways}
use Rattle.std.proofs.lemmas.Iterator.{YieldsList-from_slice}
use Rattle.std.proofs.lemmas.Iterator.Search.{all_from_yields_List}
use Rattle.commands.specs.Words.{is_digit, all_digits}
use Rattle.commands.proofs.Digits.{each_digit, text, read}
use Rattle.commands.proofs.numbers.number.Goals as goal

pub returns-then-not-all : goal.returns-then-not-all
returns-then-not-all g c =
    let all : c.all.result ≡ list_all is_digit c.args.word.now = all_from_yields_List _ _ _ c.all.result c.all.ensures.ran (YieldsList-from_slice c.args.word.now cc) (λ x b q k. search (rules, tests)) in
    λ digits. absurd (both_ways _ c.if-not-all.true (all ∙ each_digit c.args.word.now ∙ digits))

pub from_utf8_unchecked-digits-requires : goal.from_utf8_unchecked-digits-requires
from_utf8_unchecked-digits-requires g c =
    let all : c.all.result ≡ list_all is_digit c.args.word.now = all_from_yields_List _ _ _ c.all.result c.all.ensures.ran (YieldsList-from_slice c.args.word.now cc) (λ x b q k. search (rules, tests)) in
    text c.args.word.now (sym (each_digit c.args.word.now) ∙ sym all ∙ c.if-not-all.false)

pub returns : goal.returns
returns g c =
    let all : c.all.result ≡ list_all is_digit c.args.word.now = all_from_yields_List _ _ _ c.all.result c.all.ensures.ran (YieldsList-from_slice c.args.word.now cc) (λ x b q k. search (rules, tests)) in
    let digits : all_digits c.args.word.now ≡ true = sym (each_digit c.args.word.now) ∙ sym all ∙ c.if-not-all.false in
    rw c.ok.ensures.value
    (read c.args.word.now (g.T.FromStr.from_str_gives c.args.word.now) c.parse.result (subst (λ w. g.T.FromStr.from_str_gives w c.parse.result) c.from_utf8_unchecked-digits.ensures c.parse.ensures.value) digits)
