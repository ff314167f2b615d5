-- A condition told by its replies is the condition. Assumes nothing but the laws.
use Rattle.std.proofs.Common.{ℕ, [], ◌∷◌}
use Rattle.lattice.specs.declared.vector.Vector.{Vector}
use Rattle.lattice.specs.declared.condition.Reply.{Reply}
use Rattle.lattice.specs.declared.board.Reading.{Reading}
use Rattle.lattice.specs.declared.verdict.Answer.{Answer}
use Rattle.lattice.specs.Laws.{Lawful, Holding}
use Rattle.lattice.specs.Steps.{reading}
use Rattle.lattice.specs.History.{History, floor, ceiling, run, read}
use Rattle.lattice.specs.Promises.{Solution, Decides, found, none, RunPromise, Latest, Promises}
use Rattle.lattice.specs.Calls.{ToldByReplies}
use Rattle.lattice.proofs.Promised.{kept}

module _ {holds : Vector → Type 0} {reply : Vector → Reply} (laws : Lawful holds reply) where
  by_replies : Lawful (Holding reply) reply
  by_replies = record {
    holds_then = λ v e. e;
    holds_only = λ v e. e;
    place = laws.place;
    rises = laws.rises;
    needed = λ v p h r w b hw. laws.needed v p h r w b (laws.holds_then w hw);
    never = λ v r w b hw. laws.never v r w b (laws.holds_then w hw);
  }

  to : {l : History} {w : Vector} → Solution (Holding reply) l w → Solution holds l w
  to {w = w} s = record { satisfied = laws.holds_then w s.satisfied; floors = s.floors; ceilings = s.ceilings }

  from : {l : History} {w : Vector} → Solution holds l w → Solution (Holding reply) l w
  from {w = w} s = record { satisfied = laws.holds_only w s.satisfied; floors = s.floors; ceilings = s.ceilings }

  decides : {l : History} {a : Answer} → Decides (Holding reply) l a → Decides holds l a
  decides (found w s) = found w (to s)
  decides (none no_one) = none (λ w s. no_one w (from s))

  run_promise : {n k : ℕ} {a : Answer} {l : History} {r : Reading} → RunPromise (Holding reply) reply n a k l r → RunPromise holds reply n a k l r
  run_promise p = record {
    stands = p.stands;
    exact = p.exact;
    next = p.next;
    decided = λ big. decides (p.decided big);
  }

  latest : (l : History) (r : Reading) → Latest (Holding reply) reply l r → Latest holds reply l r
  latest [] r p = tt
  latest (floor x h o s ∷ l) r p = p
  latest (ceiling x h o s ∷ l) r p = p
  latest (run n a k s ∷ l) r p = (p.0, run_promise p.1)
  latest (read s ∷ l) r p = p

  promises : (l : History) (r : Reading) → Promises (Holding reply) reply l r → Promises holds reply l r
  promises l r p = record {
    below = λ w s. p.below w (from s);
    found = λ e. let x = p.found e in record { solves = to x.solves; least = λ u s. x.least u (from s) };
    none = λ e w s. p.none e w (from s);
    budgets = p.budgets;
    counted = p.counted;
    bounded = p.bounded;
    judged = p.judged;
    latest = latest l r p.latest;
  }

  pub told : ToldByReplies holds reply
  told = record { lawful = by_replies; promises = λ l b p. promises l (reading b) p; kept = λ l b r. kept laws r }
