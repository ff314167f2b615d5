use Rattle.std.proofs.Common.{◌<◌, length, refl, arith}
use Rattle.cuts.specs.Jobs.{listed, full, no_sender, no_receiver, itself}
use Rattle.cuts.proofs.job.TraceJob.add_channel.Goals as goal
use Rattle.cuts.proofs.job.TraceJob.add_channel.Goals.{then-receiver-n-via-then-receiver-n, then-receiver-n-via-else-receiver-n+then-receiver-sender}

pub returns-then-len-ge-LISTED : goal.returns-then-len-ge-LISTED
returns-then-len-ge-LISTED c = let j = c.args.self.now in (full (omega (arith, j.channels.ok.0, j.listed)), refl)

pub returns-then-sender-n : goal.returns-then-sender-n
returns-then-sender-n c = let j = c.args.self.now in (no_sender (omega (arith, j.channels.ok.0)) (omega arith), refl)

pub returns-then-receiver-n : goal.returns-then-receiver-n
returns-then-receiver-n c =
    let j = c.args.self.now in
    let room : length (listed j) < 8 = omega (arith, j.channels.ok.0) in
    let sends : c.args.sender < j.trace.n = omega arith in
    elim c.then-receiver-n.branch [
      | then-receiver-n-via-then-receiver-n w ↦ (no_receiver room sends (omega arith), refl)
      | then-receiver-n-via-else-receiver-n+then-receiver-sender w ↦ (itself room sends (omega arith), refl)
    ]
