use Rattle.std.proofs.Common.{◌≡◌, ℕ, ◌<◌, ◌≤◌, false, length, None, Some, Option, MatchOption, sym, ap, ◌∙◌, subst, arith, rules}
use Rattle.lattice.specs.declared.vector.Vector.{Vector}
use Rattle.lattice.specs.declared.condition.Reply.{Reply}
use Rattle.lattice.specs.declared.condition.Reply.TheVariants.{Holds, Lift}
use Rattle.lattice.specs.Order.{at}
use Rattle.cuts.specs.declared.job.TraceJob.{TraceJob}
use Rattle.cuts.specs.Cuts.{beyond}
use Rattle.cuts.specs.Consistent.{greatest}
use Rattle.cuts.specs.Closed.{consistent_never, consistent_holds, consistent_lift, consistent_says}
use Rattle.cuts.specs.Jobs.{processes, happened, consistent_reply, ConsistentSays}
use Rattle.cuts.proofs.Replying.{replied}
use Rattle.cuts.proofs.job.TraceJob.reply_consistent.Goals as goal
use Rattle.cuts.proofs.job.TraceJob.reply_consistent.Goals.{After-unless_beyond}

abbrev most : TraceJob → Vector → ℕ → ℕ
most j v k = greatest (happened j) (at v) k (length (happened j))

-- what the search for the lowest place behind answers
abbrev Behind : TraceJob → Vector → Option (ℕ × ℕ) → Type 0
Behind j v o = MatchOption o ((k : ℕ) → k < processes j → most j v k ≤ at v k) (λ p. (p.0 < processes j) × (p.1 ≡ most j v p.0) × (at v p.0 < p.1) × ((k : ℕ) → k < p.0 → most j v k ≤ at v k))

lifted : (j : TraceJob) (v : Vector) (r : Reply) (o : Option (ℕ × ℕ)) → beyond (processes j) (happened j) (at v) ≡ false → Behind j v o → MatchOption o (r ≡ Holds) (λ p. r ≡ Lift p) → consistent_reply j v ≡ r
lifted j v r None e all is = consistent_holds (processes j) (happened j) (at v) e all ∙ sym is
lifted j v r (Some p) e f is = consistent_lift (processes j) (happened j) (at v) p.0 e f.0 f.3 (omega (arith, f.1, f.2)) ∙ ap (λ (m : ℕ). Lift (p.0, m)) (sym f.1) ∙ sym is

reply : (c : After-unless_beyond) → consistent_reply c.args.self.now c.args.v.now ≡ c.unless_beyond.result
reply c =
    let j = c.args.self.now in
    let v = c.args.v.now in
    let r = c.unless_beyond.result in
    replied (beyond (processes j) (happened j) (at v)) r (λ x. consistent_reply j v ≡ x) c.unless_beyond.ensures (consistent_never (processes j) (happened j) (at v))
    (λ e found. let x : (o : Option (ℕ × ℕ)) × Behind j v o × MatchOption o (r ≡ Holds) (λ p. r ≡ Lift p) = search rules in lifted j v r x.0 e x.1 x.2)

pub returns-clause-is : goal.returns-clause-is
returns-clause-is c = sym (reply c)

pub returns-clause-says : goal.returns-clause-says
returns-clause-says c = subst (ConsistentSays c.args.self.now c.args.v.now) (reply c) (consistent_says (processes c.args.self.now) (happened c.args.self.now) (at c.args.v.now))
