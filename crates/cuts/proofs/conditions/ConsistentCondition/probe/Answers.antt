use Rattle.std.proofs.Common.{ap, ◌∙◌}
use Rattle.cuts.specs.declared.job.TraceJob.{TraceJob}
use Rattle.cuts.specs.Jobs.{consistent_reply}
use Rattle.cuts.proofs.conditions.ConsistentCondition.probe.Goals as goal

pub returns : goal.returns
returns g c = c.reply_consistent.ensures.is ∙ ap (λ (j : TraceJob). consistent_reply j c.args.v.now) c.lend.ensures
