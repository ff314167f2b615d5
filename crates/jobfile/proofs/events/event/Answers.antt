use Rattle.std.proofs.Common.{◌≡◌, ap, ◌∙◌, rules}
use Rattle.payload.specs.Marks.{width_of}
use Rattle.cuts.specs.Jobs.{processes, happened}
use Rattle.jobfile.specs.Table.{EventBroken}
use Rattle.jobfile.specs.declared.fault.JobFault.TheVariants as JobFault
use Rattle.jobfile.specs.Fields.{job_row}
use Rattle.jobfile.proofs.Taking.{mapped_err, err_exit}
use Rattle.jobfile.proofs.Happening.{record_breaks, event_pushed}
use Rattle.jobfile.proofs.events.event.Goals as goal

pub returns-in_err-found : goal.returns-in_err-found
returns-in_err-found c =
    err_exit _ _ _ c.from_residual.ensures.1
    (record_breaks c.args.reader.now c.args.job.now _ _ (c.processes-n.ensures ∙ ap (λ t. t.n) c.trace.ensures) (c.width.ensures ∙ ap width_of c.wish.ensures) _
    c.in_err-found.ensures.reads)

pub returns : goal.returns
returns c =
    mapped_err c.push.result c.map_err.result _ _ _ (λ e. EventBroken (processes c.args.job.now) (width_of c.args.job.now.wish) c.args.reader.now.total (happened c.args.job.now) c.args.reader.now.rest.now (job_row e))
    (event_pushed c.args.reader.now c.args.job.now _ _ (c.processes-n.ensures ∙ ap (λ t. t.n) c.trace.ensures) (c.width.ensures ∙ ap width_of c.wish.ensures)
    c.event.new.reader _ _ _ _ c.from-process.ensures c.in_ok-found.ensures.reads c.push.new.self c.push.result _ c.requires c.position.ensures c.push.ensures)
    c.map_err.ensures.cases (λ e d broken post. let same : d ≡ JobFault.Message c.position.result = search rules in rw same broken)
