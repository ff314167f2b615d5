use Rattle.std.proofs.Common.{ap, ◌∙◌}
use Rattle.cuts.specs.declared.job.TraceJob.{TraceJob}
use Rattle.cuts.specs.Jobs.{watched_reply}
use Rattle.cuts.proofs.conditions.WatchedCondition.probe.Goals as goal

pub returns : goal.returns
returns g c = c.reply_watched.ensures.is ∙ ap (λ (j : TraceJob). watched_reply j c.args.v.now) c.lend.ensures
