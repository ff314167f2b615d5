use Rattle.std.proofs.Common.{◌≡◌, ℕ, ◌<◌, false, List, length, None, Some, Option, MatchOption, Iter, sym, ap, ◌∙◌, subst, arith, rules}
use Rattle.std.proofs.lemmas.List.{places}
use Rattle.std.proofs.lemmas.Iterator.{YieldsList-from_slice}
use Rattle.std.proofs.lemmas.Iterator.Adapters.{serves_from_places}
use Rattle.lattice.specs.declared.condition.Reply.{Reply}
use Rattle.lattice.specs.declared.condition.Reply.TheVariants.{Holds}
use Rattle.lattice.specs.declared.vector.Vector.{Vector}
use Rattle.lattice.specs.Order.{at}
use Rattle.cuts.specs.declared.job.TraceJob.{TraceJob}
use Rattle.cuts.specs.Cuts.{beyond}
use Rattle.cuts.specs.Channels.{channel, Level, levels}
use Rattle.cuts.specs.Jobs.{processes, happened, listed, channels_reply}
use Rattle.cuts.specs.Levels.{reply_uneven, reply_level}
use Rattle.cuts.proofs.Mapped.{mapped}
use Rattle.std.specs.Option.{unwrap_or}
use Rattle.std.specs.Iterator.Runs.{ItemsMapTo}
use Rattle.cuts.specs.declared.channel.Channel.{Channel}
use Rattle.cuts.proofs.job.TraceJob.lift_uneven.Goals as goal

replied : (j : TraceJob) (v : Vector) (r : Option Reply) → beyond (processes j) (happened j) (at v) ≡ false
    → MatchOption r ((k : ℕ) → k < length (listed j) → Level (happened j) (channel (listed j) k) (at v))
    (λ x. (k : ℕ) × (k < length (listed j)) × ((Level (happened j) (channel (listed j) k) (at v) → ⊥) × (x ≡ levels (happened j) (channel (listed j) k) (at v))) × ((i : ℕ) → i < k → Level (happened j) (channel (listed j) i) (at v)))
    → unwrap_or r Holds ≡ channels_reply j v
replied j v None inside m = sym (reply_level (processes j) (happened j) (listed j) (at v) inside m)
replied j v (Some x) inside m = m.2.1 ∙ sym (reply_uneven (processes j) (happened j) (listed j) (at v) m.0 inside m.1 m.3 m.2.0)

pub find_map-requires-clause-callable : goal.find_map-requires-clause-callable
find_map-requires-clause-callable c =
    let j = c.args.self.now in
    serves_from_places (YieldsList-from_slice (listed j) (search rules)) (λ x q k. search rules)
    (λ x k lt is.
    let same : x.now ≡ channel (listed j) k = is ∙ search (rules, places) in
    let send = j.senders k lt in
    let receive = j.receivers k lt in
    let few = j.trace.few in
    rw same (λ _ _ _ _ _. (omega arith, omega arith)))

pub returns : goal.returns
returns c inside =
    let j = c.args.self.now in
    let v = c.args.v.now in
    let run = c.find_map.ensures.runs in
    let rest : run.0.from.rest.now ≡ listed j = ap (λ (s : Iter Channel). s.rest.now) run.1 ∙ c.iter.ensures.rest ∙ c.deref.ensures.value in
    let items = subst (λ (xs : List Channel). ItemsMapTo run.0 (λ y. y.now) xs) rest (c.iter.ensures.runs run.0 run.0.seen) in
    c.unwrap_or.ensures ∙ replied j v c.find_map.result inside
    (mapped _ _ run.0 (listed j) (record { sender = 0; receiver = 0 }) (λ ch x. (Level (happened j) ch (at v) → ⊥) × (x ≡ levels (happened j) ch (at v))) (λ ch. Level (happened j) ch (at v)) c.find_map.result
    items run.2 (λ a r q k. search rules) (λ x y k. search rules) (λ x k. search rules))
