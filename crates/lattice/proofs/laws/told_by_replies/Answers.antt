use Rattle.lattice.proofs.Told.{told}
use Rattle.lattice.proofs.laws.told_by_replies.Goals as goal

pub returns : goal.returns
returns g c = told (g.met.C.Condition.lawful c.args._condition.now)
