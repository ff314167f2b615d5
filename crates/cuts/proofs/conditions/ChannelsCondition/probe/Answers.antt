use Rattle.std.proofs.Common.{ap, ◌∙◌}
use Rattle.cuts.specs.declared.job.TraceJob.{TraceJob}
use Rattle.cuts.specs.Jobs.{channels_reply}
use Rattle.cuts.proofs.conditions.ChannelsCondition.probe.Goals as goal

pub returns : goal.returns
returns g c = c.reply_channels.ensures.is ∙ ap (λ (j : TraceJob). channels_reply j c.args.v.now) c.lend.ensures
