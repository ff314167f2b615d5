-- An order is taken exactly when it is whole. Assumes nothing.
use Rattle.std.proofs.Common.{◌≡◌, ℕ, List, get_or, refl, subst, arith}
use Rattle.gates.specs.Positions.{ranked_whole}
use Rattle.gates.proofs.Rows.{Filled, sound, filled_ranked}
use Rattle.gates.proofs.order.Order.new.Goals as goal

-- the loop has come to the end of the order
full : (n : ℕ) (order : ℕ → ℕ) (p : ℕ) → (row ranks : List ℕ) → p ≡ n → Filled n order p row ranks → Filled n order n row ranks
full n order p row ranks e f = subst (λ k. Filled n order k row ranks) e f

pub invariant_of-result : goal.invariant_of-result
invariant_of-result c =
    let order : ℕ → ℕ = λ p. get_or c.args.numbers.now p 0 in
    let f = full c.args.count order c.loop-p.p c.loop-p.order c.loop-p.ranks (omega arith) c.loop-p.invariant in
    let s = sound c.args.count order c.loop-p.order c.loop-p.ranks f in
    record { few = c.requires; wide = (f.wide, f.long); whole = s.whole; ranked = s.ranked }

pub returns : goal.returns
returns c =
    let order : ℕ → ℕ = λ p. get_or c.args.numbers.now p 0 in
    let f = full c.args.count order c.loop-p.p c.loop-p.order c.loop-p.ranks (omega arith) c.loop-p.invariant in
    (record { long = c.if-numbers-count.false; whole = ranked_whole (filled_ranked c.args.count order c.loop-p.order c.loop-p.ranks f) }, f.copied, refl)
