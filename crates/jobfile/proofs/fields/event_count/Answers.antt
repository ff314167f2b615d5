use Rattle.std.proofs.Common.{◌≡◌, nat_le, true, false, sym, ◌≤◌, arith, rules}
use Rattle.std.proofs.lemmas.Bool.{leb-true, leb-false}
use Rattle.trace.specs.Events.{longest}
use Rattle.jobfile.proofs.Taking.{by_test}
use Rattle.jobfile.proofs.fields.event_count.Goals as goal

pub returns : goal.returns
returns c =
    by_test _ _ (λ v. v ≤ longest)
    (λ k fits few. let e : true ≡ nat_le k longest = search rules in leb-true _ _ (sym e))
    (λ k fits many few. let e : false ≡ nat_le k longest = search rules in omega (arith, leb-false _ _ (sym e), few))
    c.args.reader.now c.word.new.reader c.word.result c.word.ensures
