-- 0, 1, 2 and so on is a whole order, with its own numbers for ranks. Assumes nothing.
use Rattle.std.proofs.Common.{arith}
use Rattle.gates.proofs.Rows.{ascending_sound}
use Rattle.gates.proofs.order.Order.plain.Goals as goal

pub invariant_of-result : goal.invariant_of-result
invariant_of-result c =
    let line = c.ascending-numbers in
    let s = ascending_sound c.args.count line.result (λ p l. line.ensures.each p (omega (arith, c.requires))) in
    record { few = c.requires; wide = (line.ensures.long, line.ensures.long); whole = s.whole; ranked = s.ranked }
