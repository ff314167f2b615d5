-- Lifts by the replies of a lawful condition: where they lead. Assumes nothing but the laws.
use Rattle.std.proofs.Common.{ℕ, ◌+◌, ◌≤◌, sum, arith}
use Rattle.lattice.specs.declared.vector.Vector.{Vector}
use Rattle.lattice.specs.declared.condition.Reply.{Reply}
use Rattle.lattice.specs.Order.{at, AtMost}
use Rattle.lattice.specs.Laws.{Lawful}
use Rattle.lattice.specs.Steps.{Climb, stay, lift}
use Rattle.lattice.proofs.Heights.{set_each, set_sum}

module _ {holds : Vector → Type 0} {reply : Vector → Reply} (laws : Lawful holds reply) {top v : Vector} where
  -- upwards
  pub climb_up : {w : Vector} {k : ℕ} → Climb reply top v k w → AtMost v w
  climb_up stay = λ i hi. omega arith
  climb_up {w} (lift {p = p} {h = h} {u = u} c r le e) =
      let up = climb_up c in
      let lt = laws.place u p h r in
      set_each (λ i x. at v i ≤ x) u w p h lt e (omega (arith, up p lt, laws.rises u p h r)) up

  -- and not past a vector on which the condition holds
  pub climb_below : {w : Vector} {k : ℕ} → Climb reply top v k w → (s : Vector) → holds s → AtMost v s → AtMost w s
  climb_below stay s hs b = b
  climb_below {w} (lift {p = p} {h = h} {u = u} c r le e) s hs b =
      let under = climb_below c s hs b in
      set_each (λ i x. x ≤ at s i) u w p h (laws.place u p h r) e (laws.needed u p h r s under hs) under

  -- nor past the ceilings
  pub climb_inside : {w : Vector} {k : ℕ} → Climb reply top v k w → AtMost v top → AtMost w top
  climb_inside stay b = b
  climb_inside {w} (lift {p = p} {h = h} {u = u} c r le e) b =
      set_each (λ i x. x ≤ at top i) u w p h (laws.place u p h r) e le (climb_inside c b)

  -- each lift adds to the sum of the heights
  pub climb_sum : {w : Vector} {k : ℕ} → Climb reply top v k w → k + sum v.heights ≤ sum w.heights
  climb_sum stay = omega arith
  climb_sum {w} (lift {p = p} {h = h} {u = u} c r le e) =
      omega (arith, climb_sum c, set_sum u w p h (laws.place u p h r) e, laws.rises u p h r)
