use Rattle.std.proofs.Common.{rules}
use Rattle.trace.proofs.Traces.{sender_found}
use Rattle.trace.proofs.trace.Trace.sender.Goals as goal

pub returns : goal.returns
returns c = sender_found c.args.self.now c.args.message c.index.result.now c.found.result c.ranges.message.fits c.index.ensures (search rules)
