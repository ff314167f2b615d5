-- Ranks are positions. Assumes nothing.
use Rattle.std.proofs.Common.{◌≡◌, arith}
use Rattle.std.proofs.lemmas.Bool.Decides.{nat_tests}
use Rattle.gates.specs.Orders.{position}
use Rattle.gates.specs.Gates.{sides}
use Rattle.gates.proofs.Rows.{rank_at}
use Rattle.gates.proofs.gates.Gates.rival.Goals as goal
use Rattle.gates.proofs.gates.Gates.rival.Goals.{After-rank-2}

-- the gate's ranks of both vans
ranks : (c : After-rank-2) → let s = sides c.args.self.now in (c.rank.result ≡ position s.n (s.gate c.args.g) c.args.j) × (c.rank-2.result ≡ position s.n (s.gate c.args.g) c.args.i)
ranks c =
    let m = c.args.self.now in (
      rank_at m.count m.gates c.args.g c.index-self-g.result c.args.j c.rank.result m.even.1 (omega arith) c.rank.ensures,
      rank_at m.count m.gates c.args.g c.index-self-g.result c.args.i c.rank-2.result m.even.1 (omega arith) c.rank-2.ensures,
    )

pub returns-then-rank : goal.returns-then-rank
returns-then-rank c =
    let m = c.args.self.now in
    let gate = ranks (goal.at.returns-then-rank c).After-rank-2 in
    let came = rank_at m.count m.vans c.args.j c.index-self-j.result c.args.g c.rank-then-rank.result m.even.0 (omega arith) c.rank-then-rank.ensures in
    rw (← gate.0, ← gate.1, ← came) (grind (arith, nat_tests))

pub returns-else-rank : goal.returns-else-rank
returns-else-rank c = let gate = ranks (goal.at.returns-else-rank c).After-rank-2 in rw (← gate.0, ← gate.1) (grind (arith, nat_tests))
