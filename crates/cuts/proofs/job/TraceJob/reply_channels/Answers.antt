use Rattle.std.proofs.Common.{◌≡◌, sym, subst, rules}
use Rattle.lattice.specs.Order.{at}
use Rattle.cuts.specs.Cuts.{beyond}
use Rattle.cuts.specs.Jobs.{processes, happened, listed, channels_reply, ChannelsSays}
use Rattle.cuts.specs.Levels.{reply_beyond}
use Rattle.cuts.specs.Emptied.{channels_say}
use Rattle.cuts.proofs.Replying.{replied}
use Rattle.cuts.proofs.job.TraceJob.reply_channels.Goals as goal
use Rattle.cuts.proofs.job.TraceJob.reply_channels.Goals.{After-unless_beyond}

reply : (c : After-unless_beyond) → channels_reply c.args.self.now c.args.v.now ≡ c.unless_beyond.result
reply c =
    let j = c.args.self.now in
    let v = c.args.v.now in
    replied (beyond (processes j) (happened j) (at v)) c.unless_beyond.result (λ x. channels_reply j v ≡ x) c.unless_beyond.ensures (reply_beyond (processes j) (happened j) (listed j) (at v))
    (λ e found. let is : c.unless_beyond.result ≡ channels_reply j v = search rules in sym is)

pub returns-clause-says : goal.returns-clause-says
returns-clause-says c =
    let j = c.args.self.now in
    subst (ChannelsSays j c.args.v.now) (reply c) (channels_say (processes j) (happened j) (listed j) (at c.args.v.now))
