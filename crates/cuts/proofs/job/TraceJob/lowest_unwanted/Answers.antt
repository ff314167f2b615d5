use Rattle.std.proofs.Common.{◌≡◌, ℕ, ◌≤◌, Bool, true, false, length, not, ◌&&◌, ◌==◌, ◌/◌, ◌^◌, ◌%◌, get_or, take, arith, rules, tests}
use Rattle.std.proofs.lemmas.Iterator.{IsFirst-from_position, YieldsList-from_slice}
use Rattle.std.proofs.lemmas.Iterator.Consumers.{YieldsList-from_enumerate, YieldsList-at}
use Rattle.lattice.specs.Order.{at}
use Rattle.cuts.specs.Watched.{state_wanted}
use Rattle.cuts.specs.Jobs.{processes, happened}
use Rattle.cuts.specs.Watching.{lowest}
use Rattle.cuts.proofs.Found.{match_then}
use Rattle.cuts.proofs.Searches.{first_item, numbered, length_numbered, get_numbered}
use Rattle.cuts.proofs.job.TraceJob.lowest_unwanted.Goals as goal

pub returns : goal.returns
returns c =
    let j = c.args.self.now in
    let n = processes j in
    let hs = c.args.v.now.heights in
    let fits : n ≤ length hs = omega (arith, j.trace.few, c.args.v.now.sized) in
    let test : ℕ × ℕ → Bool = λ p. (j.watch / 2 ^ p.0 % 2 == 1) && not (state_wanted (happened j) j.wish p.0 p.1) in
    match_then c.position.result
    (first_item n (numbered n hs fits) (λ k. (k, get_or hs k 0)) (length_numbered n hs fits) (get_numbered n hs fits) (λ p. test p ≡ true) (λ p. test p ≡ false) c.position.result
    (IsFirst-from_position _ _ c.position.result (λ p. test p ≡ true) (λ p. test p ≡ false) c.position.ensures.ran
    (YieldsList-from_enumerate (YieldsList-at c.enumerate.ensures.source (YieldsList-from_slice (take n hs) (cc))) c.enumerate.ensures.count) (λ x q k. search (rules, tests)) (λ x q k. search (rules, tests))))
    (λ none. none)
    (λ i f. lowest n (happened j) j.wish j.watch (at c.args.v.now) i f.0 f.1 f.2)
