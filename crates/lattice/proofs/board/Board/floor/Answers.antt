use Rattle.std.proofs.Common.{◌≡◌, max, refl, arith, rules}
use Rattle.std.proofs.lemmas.Result.{err_from_is_err_and}
use Rattle.lattice.specs.Order.{at, With}
use Rattle.lattice.proofs.Heights.{set_here}
use Rattle.lattice.proofs.Promised.{floor_taken, floor_unmoved}
use Rattle.lattice.proofs.board.Board.floor.Goals as goal
use Rattle.lattice.proofs.board.Board.floor.Goals.{then-after-at, else-after-at+then-after-before, else-after-at+else-after-before}

pub returns-in_err-admit : goal.returns-in_err-admit
returns-in_err-admit c =
    let p = err_from_is_err_and c.from_residual.result c.from_residual.ensures.1 in rw (p.1, p.2) (floor_unmoved c.in_err-admit.ensures)

pub returns : goal.returns
returns c =
    let acc = c.in_ok-admit.ensures in
    let p = c.args.place in
    let h = c.args.height in
    let v = c.args.self.now.vector in
    let w = c.put.new.self in
    let most : c.max-after.result ≡ max (at v p) h = search rules in
    let put : With v p (max (at v p) h) w = cc in
    let here = set_here v w p (max (at v p) h) acc.0 put in
    floor_taken acc (record {
      vector = put;
      ceilings = refl;
      count = refl;
      over = λ lt. elim c.if-after-at.branch [ then-after-at w ↦ w.verdict-is | else-after-at+then-after-before w ↦ absurd (omega arith) | else-after-at+else-after-before w ↦ absurd (omega arith) ];
      rose = λ le up. elim c.if-after-at.branch [ then-after-at w ↦ absurd (omega arith) | else-after-at+then-after-before w ↦ cc | else-after-at+else-after-before w ↦ absurd (omega arith) ];
      kept = λ le same. elim c.if-after-at.branch [ then-after-at w ↦ absurd (omega arith) | else-after-at+then-after-before w ↦ absurd (omega arith) | else-after-at+else-after-before w ↦ w.verdict-is ];
    })
