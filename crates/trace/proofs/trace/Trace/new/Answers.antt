use Rattle.std.proofs.Common.{arith, rules}
use Rattle.trace.proofs.Tables.{keeps_none, tabled_none}
use Rattle.trace.proofs.trace.Trace.new.Goals as goal

pub invariant_of-result-clause-room : goal.invariant_of-result-clause-room
invariant_of-result-clause-room c =
    let made = c.in_ok-try_from_fn.ensures.ok in
    (c.in_ok-with_capacity.ensures.capacity, c.in_ok-with_capacity-2.ensures.capacity, λ k d h. let a = made.at k d (omega (arith, made.long)) in search rules)

pub invariant_of-result-clause-rules : goal.invariant_of-result-clause-rules
invariant_of-result-clause-rules c = keeps_none _ _ c.in_ok-with_capacity.ensures.items

pub invariant_of-result-clause-tables : goal.invariant_of-result-clause-tables
invariant_of-result-clause-tables c =
    let made = c.in_ok-try_from_fn.ensures.ok in
    tabled_none _ c.in_ok-try_from_fn.field-0 _ c.in_ok-with_capacity.ensures.items made.long
    (λ k d h. let a = made.at k d h in search rules)
