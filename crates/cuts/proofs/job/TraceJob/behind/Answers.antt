use Rattle.std.proofs.Common.{◌≡◌, ℕ, ◌<◌, ◌≤◌, length, get_or, take, sym, subst, arith, rules, tests}
use Rattle.std.proofs.lemmas.Iterator.{IsFirst-from_position, YieldsList-from_slice, YieldsList-from_zip}
use Rattle.std.proofs.lemmas.Iterator.Consumers.{YieldsList-at}
use Rattle.lattice.specs.Order.{at}
use Rattle.cuts.specs.Consistent.{greatest}
use Rattle.cuts.specs.Jobs.{processes, happened}
use Rattle.cuts.proofs.Found.{map_then}
use Rattle.cuts.proofs.Searches.{first_item, beside, length_beside, get_beside}
use Rattle.cuts.proofs.job.TraceJob.behind.Goals as goal

pub returns : goal.returns
returns c =
    let j = c.args.self.now in
    let n = processes j in
    let hs = c.args.v.now.heights in
    let es = c.greatest-most.result.entries in
    let fits : n ≤ length hs = omega (arith, j.trace.few, c.args.v.now.sized) in
    let fit : n ≤ length es = omega (arith, j.trace.few, c.greatest-most.result.sized) in
    let found =
    first_item n (beside n hs es fits fit) (λ k. (get_or hs k 0, get_or es k 0)) (length_beside n hs es fits fit) (get_beside n hs es fits fit) (λ p. p.0 < p.1) (λ p. p.1 ≤ p.0) c.position.result
    (IsFirst-from_position c.position.new.self _ c.position.result (λ p. p.0 < p.1) (λ p. p.1 ≤ p.0) c.position.ensures.ran
    (YieldsList-from_zip (YieldsList-at c.zip.ensures.first (YieldsList-from_slice (take n hs) (cc))) (YieldsList-from_slice es (cc))) (λ x q k. search (rules, tests)) (λ x q k. search (rules, tests))) in
    map_then c.position.result c.map.result _ c.map.ensures.cases found (λ none k lt. omega (arith, c.greatest-most.ensures k lt, none k lt))
    (λ i y is f.
    let pair : y ≡ (i, get_or es i 0) = search rules in
    subst (λ (p : ℕ × ℕ). (p.0 < n) × (p.1 ≡ greatest (happened j) (at c.args.v.now) p.0 (length (happened j))) × (at c.args.v.now p.0 < p.1) × ((k : ℕ) → k < p.0 → greatest (happened j) (at c.args.v.now) k (length (happened j)) ≤ at c.args.v.now k))
    (sym pair) (f.0, c.greatest-most.ensures i f.0, f.1, λ k lt. omega (arith, c.greatest-most.ensures k (omega (arith, f.0)), f.2 k lt)))
