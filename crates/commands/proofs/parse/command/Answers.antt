use Rattle.std.proofs.Common.{rules, [], codes, refl, arith}
use Rattle.std.proofs.lemmas.Result.{MatchResult-from_err}
use Rattle.std.proofs.lemmas.Slice.Eq.{text_from_reads}
use Rattle.commands.specs.Commands.{most32, most64}
use Rattle.commands.proofs.Digits.{writes, writes_none}
use Rattle.commands.proofs.Sayings.{Job, New, Floor, Ceiling, Run, Read, Probe, Clocks, Report, no_name, not_behind, optional, begins_job, begins_new, begins_read, begins_clocks, begins_run, begins_report, begins_floor, begins_ceiling, begins_probe}
use Rattle.commands.proofs.parse.command.Goals as goal

pub returns-in-new : goal.returns-in-new
returns-in-new c =
    let is = text_from_reads c.in_ok-name.name.now (codes "new") (omega arith) (search rules) in
    begins_new _ _ c.next.ensures.steps c.in_ok-name.ensures.ok_part is

pub returns-in-read : goal.returns-in-read
returns-in-read c =
    let is = text_from_reads c.in_ok-name.name.now (codes "read") (omega arith) (search rules) in
    begins_read _ _ c.next.ensures.steps c.in_ok-name.ensures.ok_part is

pub returns-in-clocks : goal.returns-in-clocks
returns-in-clocks c =
    let is = text_from_reads c.in_ok-name.name.now (codes "clocks") (omega arith) (search rules) in
    begins_clocks _ _ c.next.ensures.steps c.in_ok-name.ensures.ok_part is

pub returns-in_err-number-in-run : goal.returns-in_err-number-in-run
returns-in_err-number-in-run c =
    let is = text_from_reads c.in_ok-name.name.now (codes "run") (omega arith) (search rules) in
    MatchResult-from_err _ _ _ c.from_residual-in_err-number-in-run.ensures.0
    (λ _. not_behind _ _ c.next.ensures.steps c.in_ok-name.ensures.ok_part Run is (λ a v are. writes_none 32 most32 refl a (λ digits. (c.in_err-number-in-run.ensures a [] are digits).1.0) v))

pub returns-in_ok-number-in-run : goal.returns-in_ok-number-in-run
returns-in_ok-number-in-run c =
    let is = text_from_reads c.in_ok-name.name.now (codes "run") (omega arith) (search rules) in
    let n = c.in_ok-number-in-run.ensures in
    begins_run _ _ c.next.ensures.steps c.in_ok-name.ensures.ok_part n.are is (writes 32 most32 refl n.word c.in_ok-number-in-run.field-0 n.digits n.value.0)

pub returns-in_err-number-in-report : goal.returns-in_err-number-in-report
returns-in_err-number-in-report c =
    let is = text_from_reads c.in_ok-name.name.now (codes "report") (omega arith) (search rules) in
    MatchResult-from_err _ _ _ c.from_residual-in_err-number-in-report.ensures.0
    (λ _. not_behind _ _ c.next.ensures.steps c.in_ok-name.ensures.ok_part Report is (λ a v are. writes_none 64 most64 refl a (λ digits. (c.in_err-number-in-report.ensures a [] are digits).1.0) v))

pub returns-in_ok-number-in-report : goal.returns-in_ok-number-in-report
returns-in_ok-number-in-report c =
    let is = text_from_reads c.in_ok-name.name.now (codes "report") (omega arith) (search rules) in
    let n = c.in_ok-number-in-report.ensures in
    begins_report _ _ c.next.ensures.steps c.in_ok-name.ensures.ok_part n.are is (writes 64 most64 refl n.word c.in_ok-number-in-report.field-0 n.digits n.value.0)

pub returns-in_ok-place-in-floor : goal.returns-in_ok-place-in-floor
returns-in_ok-place-in-floor c =
    let is = text_from_reads c.in_ok-name.name.now (codes "floor") (omega arith) (search rules) in
    begins_floor _ _ c.next.ensures.steps c.in_ok-name.ensures.ok_part is c.in_ok-place-in-floor.ensures

pub returns-in_ok-place-in-ceiling : goal.returns-in_ok-place-in-ceiling
returns-in_ok-place-in-ceiling c =
    let is = text_from_reads c.in_ok-name.name.now (codes "ceiling") (omega arith) (search rules) in
    begins_ceiling _ _ c.next.ensures.steps c.in_ok-name.ensures.ok_part is c.in_ok-place-in-ceiling.ensures

pub returns-in_ok-heights-in-probe : goal.returns-in_ok-heights-in-probe
returns-in_ok-heights-in-probe c =
    let is = text_from_reads c.in_ok-name.name.now (codes "probe") (omega arith) (search rules) in
    begins_probe _ _ c.next.ensures.steps c.in_ok-name.ensures.ok_part c.in_ok-word-in-probe.ensures is c.in_ok-try_from-in-probe.ensures c.in_ok-heights-in-probe.ensures

pub returns-in-job : goal.returns-in-job
returns-in-job c =
    let is = text_from_reads c.in_ok-name.name.now (codes "job") (omega arith) (search rules) in
    begins_job _ _ c.next.ensures.steps c.in_ok-name.ensures.ok_part c.unwrap_or.result c.next-in-job.new.self is (optional c.next-in-job.result c.unwrap_or.result _ c.next-in-job.ensures.steps c.unwrap_or.ensures refl)

pub returns-in_default : goal.returns-in_default
returns-in_default c =
    no_name _ _ c.next.ensures.steps c.in_ok-name.ensures.ok_part (elim [
      | Job ↦ λ e. search rules
      | New ↦ λ e. search rules
      | Floor ↦ λ e. search rules
      | Ceiling ↦ λ e. search rules
      | Run ↦ λ e. search rules
      | Read ↦ λ e. search rules
      | Probe ↦ λ e. search rules
      | Clocks ↦ λ e. search rules
      | Report ↦ λ e. search rules
    ])
