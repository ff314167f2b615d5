use Rattle.std.proofs.Common.{◌≡◌, ℕ, None, Some, Option, get_or, sym, ap, subst}
use Rattle.lattice.specs.declared.vector.Vector.{Vector}
use Rattle.lattice.specs.Order.{at}
use Rattle.cuts.specs.declared.job.TraceJob.{TraceJob}
use Rattle.cuts.specs.Cuts.{Within}
use Rattle.cuts.specs.Watched as watched
use Rattle.cuts.specs.Watched.{LowestUnwanted}
use Rattle.cuts.specs.Sides.{lift_or}
use Rattle.cuts.specs.Jobs.{processes, happened, WatchedSays, NextWanted}
use Rattle.cuts.specs.Cutting.{beyond_within}
use Rattle.cuts.specs.Watching.{settled}
use Rattle.cuts.proofs.job.TraceJob.lift_unwanted.Goals as goal

lifted : (j : TraceJob) (v : Vector) (i : ℕ) (q : Option ℕ) → Within (processes j) (happened j) (at v) → LowestUnwanted (processes j) (happened j) j.wish j.watch (at v) i → NextWanted j i (at v i) q → WatchedSays j v (lift_or i q)
lifted j v i None within lowest none = watched.WatchedSays.nothing within i lowest none
lifted j v i (Some q) within lowest f = watched.WatchedSays.later within i q lowest f.0 f.1 f.2

pub returns-in-Some : goal.returns-in-Some
returns-in-Some c e =
    let j = c.args.self.now in
    let v = c.args.v.now in
    let i = c.in-Some.i in
    let height : get_or c.heights.result.now i 0 ≡ at v i = ap (λ hs. get_or hs i 0) c.heights.ensures in
    subst (WatchedSays j v) (sym c.lift_to.ensures)
    (lifted j v i c.next_wanted.result (beyond_within (processes j) (happened j) (at v) e) c.in-Some.ensures (subst (λ (x : ℕ). NextWanted j i x c.next_wanted.result) height c.next_wanted.ensures))

pub returns-in-None : goal.returns-in-None
returns-in-None c e =
    let j = c.args.self.now in
    let v = c.args.v.now in
    let inside = beyond_within (processes j) (happened j) (at v) e in
    watched.WatchedSays.all (record { within = inside; wanted = λ i lt w. settled (happened j) j.wish j.watch (at v) i (c.in-None.ensures i lt) w })
