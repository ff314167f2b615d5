use Rattle.std.proofs.Common.{sym, ap, ◌∙◌, rules}
use Rattle.trace.specs.Events.{nth}
use Rattle.payload.specs.Marks.{wanted_by}
use Rattle.cuts.specs.Watched.{state_wanted}
use Rattle.cuts.specs.Jobs.{happened}
use Rattle.cuts.specs.Cutting.{nth_there}
use Rattle.cuts.specs.Wants.{state_at, state_none}
use Rattle.cuts.proofs.Found.{tested}
use Rattle.cuts.proofs.job.TraceJob.is_wanted.Goals as goal

pub returns : goal.returns
returns c =
    let es = happened c.args.self.now in
    let wish = c.args.self.now.wish in
    let i = c.args.process in
    let h = c.args.height in
    tested (λ e. wanted_by wish e.payload) (state_wanted es wish i h) c.nth_event.result c.is_some_and.result c.nth_event.ensures c.is_some_and.ensures (λ e of. search rules) (state_none es wish i h)
    (λ e n.
    let y = nth_there es i h n.0 in
    ap (λ x. wanted_by wish x.payload) n.1 ∙ sym (state_at es wish i h (nth es i h) y.there y.of y.is))
