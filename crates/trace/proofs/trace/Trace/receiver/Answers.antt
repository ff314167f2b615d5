use Rattle.std.proofs.Common.{rules}
use Rattle.trace.proofs.Traces.{receiver_found}
use Rattle.trace.proofs.trace.Trace.receiver.Goals as goal

pub returns : goal.returns
returns c = receiver_found c.args.self.now c.args.message c.index.result.now c.found.result c.ranges.message.fits c.index.ensures (search rules)
