-- The first position without a rival is the least that is free. Assumes nothing.
use Rattle.std.proofs.Common.{◌≡◌, ◌∙◌, sym, ap, ◌+◌, false, get_or, arith, rules}
use Rattle.lattice.specs.Order.{at}
use Rattle.lattice.proofs.First.{range_more}
use Rattle.gates.specs.Gates.{sides}
use Rattle.gates.specs.Reply.{free}
use Rattle.gates.specs.Rivalry.{not_free, is_free}
use Rattle.gates.proofs.Rows.{left_long, left_at}
use Rattle.gates.proofs.gates.Gates.free_position.Goals as goal

pub next-preserved : goal.next-preserved
next-preserved c =
    let m = c.args.self.now in
    let s = sides m in
    let h = at c.args.v.now in
    let from = get_or c.heights.result.now c.args.i 0 in
    let gate = c.from-gate.ensures ∙ left_at m.count m.vans c.args.i c.index-self-i.result m.even.0 (omega arith) c.numbers.result.now c.numbers.ensures from c.next.past c.next-test.true in
    let here : free s h c.args.i (from + c.next.past) ≡ false = not_free s h c.args.i (from + c.next.past) _ c.loop-j.j gate (search rules) (sym c.rival.ensures ∙ c.if-rival.true) in
    λ k lo hi. range_more (λ k. free s h c.args.i k ≡ false) (h c.args.i) (from + c.next.past) c.next.invariant here k lo (omega arith)

pub returns-in-next : goal.returns-in-next
returns-in-next c =
    let m = c.args.self.now in
    let i = c.args.i in
    let from = get_or c.heights.result.now i 0 in
    let present : from ≡ at c.args.v.now i = ap (λ xs. get_or xs i 0) c.heights.ensures in
    let gate = c.from-gate.ensures ∙ left_at m.count m.vans i c.index-self-i.result m.even.0 (omega arith) c.numbers.result.now c.numbers.ensures from c.next.past c.next-test.true in
    let long = left_long m.count m.vans i c.index-self-i.result m.even.0 (omega arith) c.numbers.result.now c.numbers.ensures from in
    record {
      low = omega arith;
      high = omega (arith, long, c.next-test.true);
      passes = λ _. is_free (sides m) (at c.args.v.now) i (from + c.next.past) _ gate (λ j lt. c.loop-j.invariant j (search rules));
      before = c.next.invariant;
    }

pub returns : goal.returns
returns c =
    let m = c.args.self.now in
    let from = get_or c.heights.result.now c.args.i 0 in
    let long = left_long m.count m.vans c.args.i c.index-self-i.result m.even.0 (omega arith) c.numbers.result.now c.numbers.ensures from in
    record {
      low = omega arith;
      high = omega arith;
      passes = λ l. absurd (omega arith);
      before = λ k lo hi. c.next.invariant k lo (omega (arith, long, c.next-test.false));
    }
