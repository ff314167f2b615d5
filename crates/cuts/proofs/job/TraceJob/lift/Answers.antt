use Rattle.std.proofs.Common.{◌+◌, sym, ◌∙◌, arith}
use Rattle.cuts.specs.Sides.{asks, tallied}
use Rattle.cuts.specs.Jobs.{happened}
use Rattle.cuts.specs.Tallies.{tally_mono, lift_is}
use Rattle.cuts.proofs.job.TraceJob.lift.Goals as goal

pub returns : goal.returns
returns c =
    let es = happened c.args.self.now in
    let s = c.args.side in
    let count = tallied es s c.args.from + c.args.missing in
    c.lift_to.ensures ∙ sym (lift_is es (tallied es s) (tally_mono es (asks es s) s.place) s.place count c.args.from c.reach.result (omega arith) c.reach.ensures)
