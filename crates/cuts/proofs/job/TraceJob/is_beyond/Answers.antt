use Rattle.std.proofs.Common.{◌≡◌, ℕ, ◌≤◌, Bool, true, false, length, nat_lt, get_or, take, arith, rules, tests}
use Rattle.std.proofs.lemmas.Iterator.{cases_from_any, YieldsList-from_slice}
use Rattle.std.proofs.lemmas.Iterator.Consumers.{YieldsList-from_enumerate, YieldsList-at}
use Rattle.trace.specs.Events.{total}
use Rattle.cuts.specs.Jobs.{happened, processes}
use Rattle.cuts.proofs.Searches.{any_item, numbered, length_numbered, get_numbered}
use Rattle.cuts.proofs.job.TraceJob.is_beyond.Goals as goal

pub returns : goal.returns
returns c =
    let j = c.args.self.now in
    let n = processes j in
    let hs = c.args.v.now.heights in
    let fits : n ≤ length hs = omega (arith, j.trace.few, c.args.v.now.sized) in
    let over : ℕ × ℕ → Bool = λ p. nat_lt (total (happened j) p.0) p.1 in
    any_item n (numbered n hs fits) (λ k. (k, get_or hs k 0)) (length_numbered n hs fits) (get_numbered n hs fits) over c.any.result
    (cases_from_any _ _ c.any.result (λ p. over p ≡ true) (λ p. over p ≡ false) c.any.ensures.ran
    (YieldsList-from_enumerate (YieldsList-at c.enumerate.ensures.source (YieldsList-from_slice (take n hs) (cc))) c.enumerate.ensures.count) (λ x q k. search (rules, tests)) (λ x q k. search (rules, tests)))
