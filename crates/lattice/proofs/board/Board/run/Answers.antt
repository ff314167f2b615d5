use Rattle.std.proofs.Common.{◌<◌, sum, sym, refl, ap, ◌∙◌, arith}
use Rattle.lattice.specs.Order.{at}
use Rattle.lattice.specs.Steps.{answer_of, stay, lift, holds, never, above, spent, found, none}
use Rattle.lattice.proofs.Heights.{set_sum, total_bound}
use Rattle.lattice.proofs.Promised.{run_call, search_ends}
use Rattle.lattice.proofs.board.Board.run.Given as given
use Rattle.lattice.proofs.board.Board.run.Goals as goal
use Rattle.lattice.proofs.board.Board.run.Goals.{After-put}

pub loop-used-init : goal.loop-used-init
loop-used-init g c = record { climb = stay; afforded = omega arith; ceilings = refl; verdict = refl; count = omega arith }

pub returns-in-Found : goal.returns-in-Found
returns-in-Found g c = run_call (g.met.C.Condition.lawful c.args.condition.now) (sym (ap answer_of c.in-Found.is)) (found c.in-Found.is)

pub returns-in-None : goal.returns-in-None
returns-in-None g c = run_call (g.met.C.Condition.lawful c.args.condition.now) (sym (ap answer_of c.in-None.is)) (none c.in-None.is)

pub returns-in-Holds : goal.returns-in-Holds
returns-in-Holds g c =
    search_ends (g.met.C.Condition.lawful c.args.condition.now) c.in-Open.is c.loop-used.invariant refl refl refl refl (holds (sym c.in-Holds.ensures))

pub returns-in-Never : goal.returns-in-Never
returns-in-Never g c =
    search_ends (g.met.C.Condition.lawful c.args.condition.now) c.in-Open.is c.loop-used.invariant refl refl refl refl (never (sym c.in-Never.ensures))

pub returns-then-height-at : goal.returns-then-height-at
returns-then-height-at g c =
    let top = ap (λ t. at t c.in-Lift.place) c.loop-used.invariant.ceilings in
    search_ends (g.met.C.Condition.lawful c.args.condition.now) c.in-Open.is c.loop-used.invariant refl refl refl refl
    (above (sym c.in-Lift.ensures) (omega arith))

pub returns-then-used-budget : goal.returns-then-used-budget
returns-then-used-budget g c =
    let inv = c.loop-used.invariant in
    let top = ap (λ t. at t c.in-Lift.place) inv.ceilings in
    let still = inv.verdict ∙ c.in-Open.is in
    search_ends (g.met.C.Condition.lawful c.args.condition.now) c.in-Open.is inv refl refl refl (sym (ap answer_of still))
    (rw still (spent (_, _, sym c.in-Lift.ensures, omega arith) (omega arith)))

pub overflow_add-self : goal.overflow_add-self
overflow_add-self g c = omega (arith, total_bound c.loop-used.self.vector, c.loop-used.self.counted)

-- each lift adds to the sum of the heights
rises : (g : given.Over) (c : After-put g) → sum c.loop-used.self.vector.heights < sum c.put.new.self.heights
rises g c =
    let laws = g.met.C.Condition.lawful c.args.condition.now in
    let lifted = sym c.in-Lift.ensures in
    omega (arith, laws.rises _ _ _ lifted, set_sum c.loop-used.self.vector c.put.new.self c.in-Lift.place c.in-Lift.height (laws.place _ _ _ lifted) c.put.ensures)

pub invariant_of-self-in-Lift : goal.invariant_of-self-in-Lift
invariant_of-self-in-Lift g c = record { counted = omega (arith, rises g c, c.loop-used.self.counted) }

pub loop-used-preserved : goal.loop-used-preserved
loop-used-preserved g c =
    let inv = c.loop-used.invariant in
    let top = ap (λ t. at t c.in-Lift.place) inv.ceilings in
    record {
      climb = lift inv.climb (sym c.in-Lift.ensures) (omega arith) c.put.ensures;
      afforded = omega arith;
      ceilings = inv.ceilings;
      verdict = inv.verdict;
      count = omega arith;
    }
