use Rattle.std.proofs.Common.{◌≡◌, ap}
use Rattle.wire.specs.Frames.{job_letter}
use Rattle.jobfile.specs.Table.{frame}
use Rattle.jobfile.proofs.Taking.{err_exit}
use Rattle.jobfile.proofs.Finishing.{Begins, Taken, trace_fails, gates_fails, trace_taken, gates_taken, end_fails, all_taken}
use Rattle.jobfile.specs.declared.job.Job.{Job}
use Rattle.jobfile.specs.Jobs.{letter_of_job}
use Rattle.jobfile.proofs.job.Job.take.Goals as goal
use Rattle.jobfile.proofs.job.Job.take.Goals.{After-end, in-Trace+in_ok-trace_body-in-Trace, in-Gates+in_ok-placing-in-Gates}

pub returns-in_err-frame : goal.returns-in_err-frame
returns-in_err-frame c =
    err_exit _ _ _ c.from_residual.ensures.1 (frame c.in_err-frame.ensures)

pub returns-in_err-trace_body-in-Trace : goal.returns-in_err-trace_body-in-Trace
returns-in_err-trace_body-in-Trace c =
    err_exit _ _ _ c.from_residual-in_err-trace_body-in-Trace.ensures.1
    (trace_fails _ _ _ c.new-reader.result _
    (record { framed = c.in_ok-frame.ensures; total = c.new-reader.ensures.total; rest = c.new-reader.ensures.rest }) (ap job_letter c.in-Trace.is) c.in_err-trace_body-in-Trace.ensures)

pub returns-in_err-placing-in-Gates : goal.returns-in_err-placing-in-Gates
returns-in_err-placing-in-Gates c =
    err_exit _ _ _ c.from_residual-in_err-placing-in-Gates.ensures.1
    (gates_fails _ _ _ c.new-reader.result _
    (record { framed = c.in_ok-frame.ensures; total = c.new-reader.ensures.total; rest = c.new-reader.ensures.rest }) (ap job_letter c.in-Gates.is) c.in_err-placing-in-Gates.ensures)

begins : (c : After-end) → Begins c.args.file.now (job_letter c.in_ok-frame.frame.kind) c.in_ok-frame.frame.n c.new-reader.result
begins c = record { framed = c.in_ok-frame.ensures; total = c.new-reader.ensures.total; rest = c.new-reader.ensures.rest }

-- the body of either kind was taken
taken : (c : After-end) → Taken c.args.file.now (job_letter c.in_ok-frame.frame.kind) c.match-frame.reader c.args.self.now.trace c.match-frame.self.trace c.args.self.now.gates c.match-frame.self.gates
taken c = elim c.match-frame.branch [
  | in-Trace+in_ok-trace_body-in-Trace w ↦
      trace_taken _ _ _ _ _ _ _ _ _ (begins c) (ap job_letter w.in-Trace.is) _ _ w.reader-is (ap (λ (j : Job). j.trace) w.self-is) (ap (λ (j : Job). j.gates) w.self-is) w.in_ok-trace_body-in-Trace.ensures
  | in-Gates+in_ok-placing-in-Gates w ↦
      gates_taken _ _ _ _ _ _ _ _ _ (begins c) (ap job_letter w.in-Gates.is) _ _ w.reader-is (ap (λ (j : Job). j.trace) w.self-is) (ap (λ (j : Job). j.gates) w.self-is) w.in_ok-placing-in-Gates.ensures
]

pub returns-in_err-end : goal.returns-in_err-end
returns-in_err-end c =
    err_exit _ _ _ c.from_residual-in_err-end.ensures.1 (end_fails _ _ _ _ _ _ _ (taken (goal.at.returns-in_err-end c).After-end) _ c.in_err-end.ensures)

pub returns : goal.returns
returns c =
    let letter : letter_of_job c.match-frame.self ≡ job_letter c.in_ok-frame.frame.kind =
    elim c.match-frame.branch [ in-Trace+in_ok-trace_body-in-Trace w ↦ ap letter_of_job w.self-is | in-Gates+in_ok-placing-in-Gates w ↦ ap letter_of_job w.self-is ] in
    rw letter (all_taken _ _ _ _ _ _ _ (taken (goal.at.returns c).After-end) (λ k. (c.type_inv.file k).fits) c.in_ok-end.ensures)
