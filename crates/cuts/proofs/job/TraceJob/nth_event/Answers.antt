use Rattle.std.proofs.Common.{rules}
use Rattle.cuts.specs.Jobs.{happened}
use Rattle.cuts.proofs.Found.{looked_up}
use Rattle.cuts.proofs.job.TraceJob.nth_event.Goals as goal

pub returns : goal.returns
returns c = looked_up (happened c.args.self.now) c.args.process c.args.number c.nth.result c.and_then.result c.nth.ensures c.and_then.ensures (λ p at. search rules)
