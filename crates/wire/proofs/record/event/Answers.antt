use Rattle.std.proofs.Common.{ap, arith, sym, ◌∙◌}
use Rattle.std.proofs.lemmas.Result.{err_from_is_err_and}
use Rattle.std.specs.Result.{result_ok}
use Rattle.std.proofs.lemmas.Option.{MatchOption-at_none, MatchOption-at_some}
use Rattle.wire.proofs.Reading.{absent, no_length_at, cut_short_at, no_event_at, too_short, headed_by}
use Rattle.wire.proofs.record.event.Goals as goal

pub returns-in_err-size-clause-reads : goal.returns-in_err-size-clause-reads
returns-in_err-size-clause-reads c =
    let p = err_from_is_err_and c.from_residual.result c.from_residual.ensures.1 in
    let a = absent _ c.ok_or.ensures.value c.in_err-size.was in
    let none = MatchOption-at_none _ _ a.0 c.take_array.ensures.cases in
    rw (p.1, p.2, a.1) (no_length_at _ _ _ _ _ none.0 (omega arith))

pub returns-in_err-body-clause-reads : goal.returns-in_err-body-clause-reads
returns-in_err-body-clause-reads c =
    let p = err_from_is_err_and c.from_residual-in_err-body.result c.from_residual-in_err-body.ensures.1 in
    let size = MatchOption-at_some _ _ _ (c.ok_or.ensures.ok_part ∙ ap result_ok c.in_ok-size.was) c.take_array.ensures.cases in
    let a = absent _ c.ok_or-2.ensures.value c.in_err-body.was in
    let short = MatchOption-at_none _ _ a.0 c.take.ensures.cases in
    rw (p.1, p.2, a.1) (cut_short_at _ _ _ size _ _ _ _ short.0 (omega arith))

pub returns-in_default-clause-reads : goal.returns-in_default-clause-reads
returns-in_default-clause-reads c =
    let size = MatchOption-at_some _ _ _ (c.ok_or.ensures.ok_part ∙ ap result_ok c.in_ok-size.was) c.take_array.ensures.cases in
    let body = MatchOption-at_some _ _ _ (c.ok_or-2.ensures.ok_part ∙ ap result_ok c.in_ok-body.was) c.take.ensures.cases in
    no_event_at _ _ _ size _ _ body _ _ _ _ (omega arith) (too_short _ _ _ (omega arith))

pub returns-in_err-record-clause-reads : goal.returns-in_err-record-clause-reads
returns-in_err-record-clause-reads c =
    let p = err_from_is_err_and c.from_residual-in_err-record.result c.from_residual-in_err-record.ensures.1 in
    let size = MatchOption-at_some _ _ _ (c.ok_or.ensures.ok_part ∙ ap result_ok c.in_ok-size.was) c.take_array.ensures.cases in
    let body = MatchOption-at_some _ _ _ (c.ok_or-2.ensures.ok_part ∙ ap result_ok c.in_ok-body.was) c.take.ensures.cases in
    let a = absent _ c.ok_or-3.ensures.value c.in_err-record.was in
    let none = MatchOption-at_none _ _ a.0 c.shaped.ensures in
    rw (p.1, p.2, a.1) (no_event_at _ _ _ size _ _ body _ _ _ _ (omega arith) (λ raw own is. none raw own (sym (headed_by _ _ c.in-len2-up.len_at_least (omega arith)) ∙ is)))
