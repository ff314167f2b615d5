use Rattle.trace.proofs.Known.{clock_knows}
use Rattle.trace.proofs.Traces.{valid}
use Rattle.trace.proofs.trace.Trace.rules.Goals as goal

pub returns : goal.returns
returns c =
    let t = c.args.self.now in
    record { few = t.few; valid = valid t; clocks = λ e j he hj. clock_knows _ _ (valid t) t.few e j he hj }
