use Rattle.std.proofs.Common.{◌≡◌, ℕ, ◌+◌, ◌-◌, Bool, true, false, arith, rules, tests}
use Rattle.std.proofs.lemmas.Iterator.{first_from_find, YieldsList-from_map, YieldsList-from_range}
use Rattle.trace.specs.Events.{total}
use Rattle.cuts.specs.Watched.{state_wanted}
use Rattle.cuts.specs.Jobs.{happened}
use Rattle.cuts.specs.Wants.{state_is_wanted, state_unwanted, none_later}
use Rattle.cuts.proofs.Found.{match_then}
use Rattle.cuts.proofs.Searches.{first_above}
use Rattle.cuts.proofs.job.TraceJob.next_wanted.Goals as goal

pub returns : goal.returns
returns c =
    let j = c.args.self.now in
    let es = happened j in
    let p = c.args.process in
    let h = c.args.height in
    let test : ℕ → Bool = state_wanted es j.wish p in
    match_then c.find.result
    (first_above test h (total es p - h) c.find.result
    (first_from_find _ _ c.find.result (λ i. test i ≡ true) (λ i. test i ≡ false) c.find.ensures.ran
    (YieldsList-from_map _ (λ (k : ℕ). k + 1) (YieldsList-from_range h (total es p) (total es p - h) (cc) (omega arith)) c.map.ensures.closure (λ x r q k. search rules)) (λ x q k. search (rules, tests))
    (λ x q k. search (rules, tests))))
    (λ none. none_later es j.wish p h (λ k low high. none k (omega arith) (omega arith)))
    (λ q f. (f.0, state_is_wanted es j.wish p q f.2, λ k low high. state_unwanted es j.wish p k (f.3 k low high)))
