use Rattle.std.proofs.Common.{arith, rules}
use Rattle.trace.proofs.Tables.{tabled_none}
use Rattle.trace.proofs.trace.Trace.begin.Goals as goal

pub invariant_of-self-clause-tables : goal.invariant_of-self-clause-tables
invariant_of-self-clause-tables c =
    tabled_none _ c.loop-places.places-items _ (search rules) c.loop-places.invariant.0 (λ k d h. c.loop-places.invariant.2 k d (omega arith))
