use Rattle.std.proofs.Common.{sym, rules}
use Rattle.lattice.specs.Order.{at}
use Rattle.cuts.specs.Cuts.{beyond}
use Rattle.cuts.specs.Watched as watched
use Rattle.cuts.specs.Cutting.{beyond_over}
use Rattle.cuts.specs.Watching.{watched_only}
use Rattle.cuts.specs.Jobs.{processes, happened, WatchedSays}
use Rattle.cuts.proofs.Replying.{replied}
use Rattle.cuts.proofs.job.TraceJob.reply_watched.Goals as goal
use Rattle.cuts.proofs.job.TraceJob.reply_watched.Goals.{After-unless_beyond}

says : (c : After-unless_beyond) → WatchedSays c.args.self.now c.args.v.now c.unless_beyond.result
says c =
    let j = c.args.self.now in
    let v = c.args.v.now in
    replied (beyond (processes j) (happened j) (at v)) c.unless_beyond.result (WatchedSays j v) c.unless_beyond.ensures
    (λ e. let over = beyond_over (processes j) (happened j) (at v) e in watched.WatchedSays.past over.place over.less over.over) (λ e found. search rules)

pub returns-clause-is : goal.returns-clause-is
returns-clause-is c =
    let j = c.args.self.now in
    sym (watched_only (processes j) (happened j) j.wish j.watch (at c.args.v.now) c.unless_beyond.result (says c))

pub returns-clause-says : goal.returns-clause-says
returns-clause-says c = says c
