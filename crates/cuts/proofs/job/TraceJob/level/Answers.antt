use Rattle.std.proofs.Common.{◌<◌, sym, ◌∙◌, arith, rules, tests}
use Rattle.lattice.specs.Order.{at}
use Rattle.cuts.specs.Jobs.{happened}
use Rattle.cuts.specs.Channels.{sent, received}
use Rattle.cuts.specs.Levels.{levels_sender, levels_receiver}
use Rattle.cuts.proofs.Levelling.{behind}
use Rattle.cuts.proofs.job.TraceJob.level.Goals as goal

pub returns-in-Less : goal.returns-in-Less
returns-in-Less c =
    let es = happened c.args.self.now in
    let ch = c.args.channel.now in
    let less : c.tally-sent.result < c.tally-received.result = search (rules, tests) in
    let b = behind es (sent es ch) (received es ch) ch.sender ch.receiver _ _ c.lift.result _ _ _ c.heights.ensures c.heights-2.ensures c.tally-sent.ensures c.tally-received.ensures less c.lift.ensures in
    (λ l. omega (arith, b.0), b.1 ∙ sym (levels_sender es ch (at c.args.v.now) b.0))

pub returns-in-Greater : goal.returns-in-Greater
returns-in-Greater c =
    let es = happened c.args.self.now in
    let ch = c.args.channel.now in
    let less : c.tally-received.result < c.tally-sent.result = search (rules, tests) in
    let b = behind es (received es ch) (sent es ch) ch.receiver ch.sender _ _ c.lift-in-Greater.result _ _ _ c.heights-2.ensures c.heights.ensures c.tally-received.ensures c.tally-sent.ensures less c.lift-in-Greater.ensures in
    (λ l. omega (arith, b.0), b.1 ∙ sym (levels_receiver es ch (at c.args.v.now) b.0))
