use Rattle.std.proofs.Common.{◌≡◌, length, get_or, [], arith}
use Rattle.std.proofs.lemmas.Grind.{common_steps}
use Rattle.trace.specs.Tables.{listed}
use Rattle.trace.proofs.Traces.{counted, counted_few}
use Rattle.trace.proofs.trace.Trace.total.Goals as goal

listed_there : (c : goal.After-map_or) → c.map_or.result ≡ length (get_or (listed c.args.self.now.places) c.args.process [])
listed_there c = grind (arith, common_steps)

pub overflow_cast-result : goal.overflow_cast-result
overflow_cast-result c = omega (arith, listed_there c, counted_few c.args.self.now c.args.process)

pub returns : goal.returns
returns c = omega (arith, listed_there c, counted c.args.self.now c.args.process)
