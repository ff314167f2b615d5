use Rattle.std.proofs.Common.{subst, arith}
use Rattle.jobfile.specs.Fields.{ChannelsRead}
use Rattle.jobfile.proofs.Taking.{err_exit}
use Rattle.jobfile.proofs.Listing.{channels_fail}
use Rattle.jobfile.proofs.fields.channel_list.Goals as goal

pub returns-in_err-channel : goal.returns-in_err-channel
returns-in_err-channel c =
    err_exit _ _ _ c.from_residual.ensures.1 (channels_fail c.loop.invariant _ c.loop-test.true c.in_err-channel.ensures)

pub returns : goal.returns
returns c = subst (λ n. ChannelsRead n c.args.reader.now c.loop.reader c.args.job.now c.loop.job) (omega arith) c.loop.invariant
