use Rattle.std.proofs.Common.{◌≡◌, ap, arith, rules}
use Rattle.trace.specs.declared.trace.Trace.{Trace}
use Rattle.cuts.specs.Jobs.{processes}
use Rattle.wire.specs.Parts.{here}
use Rattle.jobfile.specs.Table.{ChannelBroken}
use Rattle.jobfile.specs.declared.fault.JobFault.TheVariants as JobFault
use Rattle.jobfile.specs.Fields.{job_row}
use Rattle.jobfile.proofs.Taking.{first_byte, missing_as, mapped_err, err_exit}
use Rattle.jobfile.proofs.Listing.{bad_sender_at, no_receiver_byte, channel_added}
use Rattle.jobfile.proofs.fields.channel.Goals as goal

pub returns-in_err-sender : goal.returns-in_err-sender
returns-in_err-sender c =
    err_exit _ _ _ c.from_residual.ensures.1 (here (missing_as _ _ _ _ _ _ c.in_err-sender.ensures))

pub returns-then-sender-processes : goal.returns-then-sender-processes
returns-then-sender-processes c =
    let read = c.in_ok-sender.ensures in
    let n = ap (λ (t : Trace). t.n) c.trace.ensures in
    bad_sender_at _ _ _ _ _ _ c.position.ensures (read.0.small 0) (first_byte read) (omega arith)

pub returns-in_err-receiver : goal.returns-in_err-receiver
returns-in_err-receiver c =
    let read = c.in_ok-sender.ensures in
    let short = c.in_err-receiver.ensures in
    let n = ap (λ (t : Trace). t.n) c.trace.ensures in
    err_exit _ _ _ c.from_residual-in_err-receiver.ensures.1 (no_receiver_byte _ _ _ _ _ (read.0.small 0) (first_byte read) (omega arith) _ read.1.total short.0 short.1)

pub returns : goal.returns
returns c =
    let read = c.in_ok-sender.ensures in
    let then = c.in_ok-receiver.ensures in
    let n = ap (λ (t : Trace). t.n) c.trace.ensures in
    mapped_err c.add_channel.result c.map_err.result _ _ _ (λ e. ChannelBroken (processes c.args.job.now) c.args.reader.now.total c.args.reader.now.rest.now (job_row e))
    (channel_added c.args.reader.now c.bytes.new.reader c.bytes-2.new.reader c.args.job.now c.add_channel.new.self c.add_channel.result _ _ _
    (read.0.small 0) (first_byte read) read.1.total (omega arith)
    (then.0.small 0) (first_byte then) then.1.total c.position-2.ensures c.requires c.add_channel.ensures)
    c.map_err.ensures.cases (λ e d broken post. let same : d ≡ JobFault.Field c.position-2.result = search rules in rw same broken)
