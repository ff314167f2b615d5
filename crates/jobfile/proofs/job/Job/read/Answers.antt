use Rattle.std.proofs.Common.{sym, subst}
use Rattle.jobfile.specs.Table.{Broken}
use Rattle.jobfile.proofs.Outcomes.{rest_blank, taken_outcome, refused_outcome}
use Rattle.jobfile.proofs.job.Job.read.Goals as goal

pub returns-in-Err : goal.returns-in-Err
returns-in-Err c = refused_outcome c.args.file.now _ c.from.result c.clear-in-Err.ensures (subst (Broken c.args.file.now) (sym c.from.ensures) c.in-Err.ensures)

pub returns : goal.returns
returns c =
    let whole = c.in_default.ensures in
    taken_outcome c.args.file.now _ whole.form whole.good whole.is
    (whole.held, rest_blank _ _ _ _ _ whole.form whole.held whole.same_trace whole.same_gates c.clear.ensures.trace c.clear.ensures.gates)
