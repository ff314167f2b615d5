use Rattle.std.proofs.Common.{subst, lit≤}
use Rattle.lattice.specs.Steps.{reading}
use Rattle.jobfile.specs.Jobs.{JobHolds}
use Rattle.report.specs.Lines.{text_of_refusal, text_of_job}
use Rattle.report.specs.Earliest.{refused}
use Rattle.report.proofs.Settling.{Settled, settles, same_parts}
use Rattle.report.proofs.Reported.{reports, answered}
use Rattle.report.proofs.earliest.earliest.Goals as goal

pub returns-in-Err : goal.returns-in-Err
returns-in-Err c =
    let e = c.in-Err.refusal in
    let outcome = c.in-Err.ensures in
    answered c.args.file.now c.args.memory.now (text_of_refusal e) c.write_refusal.new.memory c.write_refusal.result _ c.read.new.self
    (refused e outcome.outcome.1) c.write_refusal.ensures outcome

pub returns-in-Ok : goal.returns-in-Ok
returns-in-Ok c =
    let j = c.read.new.self in
    let board = c.run.new.self in
    let parts = c.condition.ensures in
    let ran = settles 32000000 c.new-board.result board c.run.result (lit≤ tt) c.new-board.ensures.fresh c.run.ensures in
    let same = same_parts j _ _ _ _ parts.first parts.second parts.third parts.gates in
    let settled : Settled (JobHolds j) (reading board) = subst (λ holds. Settled holds (reading board)) same ran in
    let outcome = c.in-Ok.ensures in
    let (form, (good, is, held)) = outcome.outcome in
    answered c.args.file.now c.args.memory.now (text_of_job j (reading board)) c.write_report.new.memory c.write_report.result _ j
    (reports c.args.file.now j form good is held (reading board) settled) c.write_report.ensures outcome
