use Rattle.std.proofs.Common.{◌≡◌, min, refl, arith, rules}
use Rattle.std.proofs.lemmas.Result.{err_from_is_err_and}
use Rattle.lattice.specs.Order.{at, With}
use Rattle.lattice.proofs.Heights.{set_here}
use Rattle.lattice.proofs.Promised.{ceiling_taken, ceiling_unmoved}
use Rattle.lattice.proofs.board.Board.ceiling.Goals as goal
use Rattle.lattice.proofs.board.Board.ceiling.Goals.{then-at-top, else-at-top}

pub returns-in_err-admit : goal.returns-in_err-admit
returns-in_err-admit c =
    let p = err_from_is_err_and c.from_residual.result c.from_residual.ensures.1 in rw (p.1, p.2) (ceiling_unmoved c.in_err-admit.ensures)

pub returns : goal.returns
returns c =
    let acc = c.in_ok-admit.ensures in
    let p = c.args.place in
    let top = c.args.self.now.ceilings in
    let low = c.put.new.self in
    let least : c.min-top.result ≡ min (at top p) c.args.height = search rules in
    let put : With top p (min (at top p) c.args.height) low = cc in
    let here = set_here top low p (min (at top p) c.args.height) acc.0 put in
    ceiling_taken acc (record {
      vector = refl;
      ceilings = put;
      count = refl;
      over = λ lt. elim c.if-at-top.branch [ then-at-top w ↦ rw w.self-is | else-at-top w ↦ absurd (omega arith) ];
      kept = λ le. elim c.if-at-top.branch [ then-at-top w ↦ absurd (omega arith) | else-at-top w ↦ rw w.self-is ];
    })
