-- What one run of a deciding budget leaves on a new board. Assumes nothing.
use Rattle.std.proofs.Common.{◌≡◌, ℕ, ◌≤◌, [], ◌∷◌, refl}
use Rattle.lattice.specs.declared.vector.Vector.{Vector}
use Rattle.lattice.specs.declared.condition.Reply.{Reply}
use Rattle.lattice.specs.declared.board.Board.{Board}
use Rattle.lattice.specs.declared.board.Reading.{Reading}
use Rattle.lattice.specs.declared.verdict.Verdict.{Verdict}
use Rattle.lattice.specs.declared.verdict.Answer.{Answer}
use Rattle.lattice.specs.declared.verdict.Answer.TheVariants as answer
use Rattle.lattice.specs.Limits.{deciding}
use Rattle.lattice.specs.Order.{at, AtMost}
use Rattle.lattice.specs.Steps.{IsFound, IsNone, reading, Fresh}
use Rattle.lattice.specs.History.{History, run, new}
use Rattle.lattice.specs.Promises.{Solution, Promises, Decides, found, none, Tells, found_found, none_none}
use Rattle.lattice.specs.Calls.{RunCall}
use Rattle.gates.specs.declared.gates.Gates.{Gates}
use Rattle.gates.specs.Stable.{Stable}
use Rattle.gates.specs.Gates.{sides}
use Rattle.cuts.specs.declared.job.TraceJob.{TraceJob}
use Rattle.cuts.specs.Jobs as cuts
use Rattle.jobfile.specs.declared.job.Job.{Job}
use Rattle.jobfile.specs.Jobs.{JobHolds}

-- found stands on the least vector on which the condition holds; or none stands, and it holds on none
pub data Settled (holds : Vector → Type 0) (r : Reading) : Type 0 where
  solved : IsFound r.verdict → holds r.vector → ((w : Vector) → holds w → AtMost r.vector w) → Settled holds r
  unsolved : IsNone r.verdict → ((w : Vector) → holds w → ⊥) → Settled holds r

-- the answer tells the verdict
tells_found : {v : Verdict} → Tells answer.Found v → IsFound v
tells_found found_found = refl

tells_none : {v : Verdict} → Tells answer.None v → IsNone v
tells_none none_none = refl

-- a list of calls within whose floors and ceilings every vector is, and an answer that decides
module _ {holds : Vector → Type 0} {reply : Vector → Reply} (l : History) (free : (w : Vector) → holds w → Solution holds l w) (r : Reading) (kept : Promises holds reply l r) where
  by_answer : (a : Answer) → Tells a r.verdict → Decides holds l a → Settled holds r
  by_answer _ tells (found w solution) =
      let is = tells_found tells in
      let least = kept.found is in
      solved is least.solves.satisfied (λ u h. least.least u (free u h))
  by_answer _ tells (none unsolvable) = unsolved (tells_none tells) (λ w h. unsolvable w (free w h))

-- a run of such a budget on a new board
pub settles : {holds : Vector → Type 0} {reply : Vector → Reply} (budget : ℕ) (b c : Board) (a : Answer) → deciding ≤ budget → Fresh b → RunCall holds reply budget b a c → Settled holds (reading c)
settles budget b c a enough fresh call =
    let kept = (call.promise [] (new fresh)).promises in
    let latest = kept.latest.1 in
    by_answer (run budget a call.lifts (reading c) ∷ []) (λ w h. record { satisfied = h; floors = λ p x no. absurd no; ceilings = λ p x no. absurd no })
    (reading c) kept a latest.stands (latest.decided enough)

-- the condition of a job, whose parts are lent
abbrev pub Parts : TraceJob → TraceJob → TraceJob → Gates → Vector → Type 0
Parts first second third gates v = (cuts.Consistent first v × (cuts.Watched second v × cuts.Empty third v)) × Stable (sides gates) (at v)

pub same_parts : (j : Job) (first second third : TraceJob) (gates : Gates) → first ≡ j.trace → second ≡ j.trace → third ≡ j.trace → gates ≡ j.gates → Parts first second third gates ≡ JobHolds j
same_parts j first second third gates p q r s = λ i. Parts (p i) (q i) (r i) (s i)
