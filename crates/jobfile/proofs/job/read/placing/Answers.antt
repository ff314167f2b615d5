use Rattle.std.proofs.Common.{ap, ◌∙◌, subst}
use Rattle.std.specs.Result.{result_ok}
use Rattle.std.proofs.lemmas.Option.{MatchOption-at_some}
use Rattle.wire.specs.Records.{record_row}
use Rattle.jobfile.specs.Table.{GatesBroken}
use Rattle.jobfile.specs.Fields.{GatesRead}
use Rattle.jobfile.proofs.Taking.{err_exit}
use Rattle.jobfile.proofs.job.read.placing.Goals as goal

pub returns-in_err-gates_body : goal.returns-in_err-gates_body
returns-in_err-gates_body c =
    let plain = MatchOption-at_some _ _ _ (c.ok_or.ensures.ok_part ∙ ap result_ok c.in_ok-gates.was) c.new.ensures in
    err_exit _ _ _ c.from_residual-in_err-gates_body.ensures.1
    (subst (λ n. GatesBroken n c.args.reader.now.total c.args.reader.now.rest.now (record_row c.in_err-gates_body.field-0.0)) plain.1.count
    c.in_err-gates_body.ensures)

pub returns : goal.returns
returns c =
    let plain = MatchOption-at_some _ _ _ (c.ok_or.ensures.ok_part ∙ ap result_ok c.in_ok-gates.was) c.new.ensures in
    subst (λ n. GatesRead n c.args.reader.now c.gates_body.new.reader c.gates_body.new.gates) plain.1.count c.in_ok-gates_body.ensures
