use Rattle.std.proofs.Common.{◌≡◌, get_or, sym, ◌∙◌, arith, rules}
use Rattle.std.proofs.lemmas.List.{places, same_lists}
use Rattle.cuts.proofs.Padding.{get_or-padded}
use Rattle.cuts.proofs.job.calls.in_four.Goals as goal

pub returns : goal.returns
returns c =
    same_lists _ _ (search (rules, places))
    (λ k d lt.
    let at = c.from_fn.ensures.items.at k d (omega arith) in
    let is : get_or c.from_fn.result k d ≡ get_or c.args.part.now k 0 = search rules in
    is ∙ sym (get_or-padded c.args.part.now k d (omega arith)))
