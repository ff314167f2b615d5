use Rattle.std.proofs.Common.{◌≡◌, nat_eq, true, false, sym, ◌<◌, ◌/◌, ◌^◌, arith, rules}
use Rattle.std.proofs.lemmas.Bool.{eqb-true, eqb-false}
use Rattle.std.proofs.Math.Nat.{div-eq_of_lt}
use Rattle.jobfile.proofs.Taking.{within_bits, by_test}
use Rattle.jobfile.proofs.fields.watch.Goals as goal

pub returns : goal.returns
returns c =
    by_test _ _ (λ v. v < 2 ^ c.args.frame.n)
    (λ k fits none. let e : true ≡ nat_eq (k / 2 ^ c.args.frame.n) 0 = search rules in within_bits k c.args.frame.n (eqb-true _ _ (sym e)))
    (λ k fits some below. let e : false ≡ nat_eq (k / 2 ^ c.args.frame.n) 0 = search rules in eqb-false _ _ (sym e) (div-eq_of_lt (omega (arith, below)))) c.args.reader.now c.word.new.reader c.word.result c.word.ensures
