-- What is promised after every list of calls, of what a read would then answer. Assumes nothing.
use Rattle.std.specs.Prelude.{◌≡◌, ℕ, ◌≤◌, ◌⊎◌, [], ◌∷◌, sum}
use Rattle.lattice.specs.declared.vector.Vector.{Vector}
use Rattle.lattice.specs.declared.condition.Reply.{Reply}
use Rattle.lattice.specs.declared.board.Reading.{Reading}
use Rattle.lattice.specs.declared.verdict.Verdict as verdict
use Rattle.lattice.specs.declared.verdict.Verdict.{Verdict}
use Rattle.lattice.specs.declared.verdict.Answer as answer
use Rattle.lattice.specs.declared.verdict.Answer.{Answer}
use Rattle.lattice.specs.Limits.{highest, deciding}
use Rattle.lattice.specs.Order.{at, AtMost}
use Rattle.lattice.specs.Replies.{IsLift}
use Rattle.lattice.specs.Steps.{IsFound, IsNone}
use Rattle.lattice.specs.History.{History, floor, ceiling, run, read, after, FloorAccepted, CeilingAccepted, Judged, lifts, pending_budgets}

-- t is the ceiling of place p after the list: the least height that was accepted for one there, the highest without one
pub record CeilingOf (l : History) (p t : ℕ) : Type 0 where
  pub within : (h : ℕ) → CeilingAccepted p h l → t ≤ h
  pub given : (t ≡ highest) ⊎ CeilingAccepted p t l

module _ (holds : Vector → Type 0) where
  -- w is a solution after the list: the condition holds on it, within every floor and every ceiling that was accepted
  pub record Solution (l : History) (w : Vector) : Type 0 where
    pub satisfied : holds w
    pub floors : (p h : ℕ) → FloorAccepted p h l → h ≤ at w p
    pub ceilings : (p h : ℕ) → CeilingAccepted p h l → at w p ≤ h

  -- no solution is left
  abbrev pub Unsolvable : History → Type 0
  Unsolvable l = (w : Vector) → Solution l w → ⊥

  -- a solution at or below every other
  pub record LeastSolution (l : History) (w : Vector) : Type 0 where
    pub solves : Solution l w
    pub least : (u : Vector) → Solution l u → AtMost w u

  -- found exactly when there is a solution, and otherwise none
  pub data Decides (l : History) : Answer → Type 0 where
    found : (w : Vector) → Solution l w → Decides l answer.TheVariants.Found
    none : Unsolvable l → Decides l answer.TheVariants.None

-- the reply to the vector is a lift, not above the ceiling that its place has after the list
pub record NextLift (reply : Vector → Reply) (l : History) (v : Vector) : Type 0 where
  pub place : ℕ
  pub height : ℕ
  pub top : ℕ
  pub lifts_there : IsLift (reply v) place height
  pub ceiling_there : CeilingOf l place top
  pub fits : height ≤ top

-- the answer of a run is the verdict that stands, and pending for open
pub data Tells : Answer → Verdict → Type 0 where
  pending_open : Tells answer.TheVariants.Pending verdict.TheVariants.Open
  found_found : Tells answer.TheVariants.Found verdict.TheVariants.Found
  none_none : Tells answer.TheVariants.None verdict.TheVariants.None

module _ (holds : Vector → Type 0) (reply : Vector → Reply) where
  -- what a run of k lifts promises, where it is the latest call of the list: it answers the verdict that stands;
  -- pending has made exactly as many lifts as its budget, and the next lift is allowed; a deciding budget decides
  pub record RunPromise (budget : ℕ) (a : Answer) (k : ℕ) (l : History) (r : Reading) : Type 0 where
    pub stands : Tells a r.verdict
    pub exact : a ≡ answer.TheVariants.Pending → k ≡ budget
    pub next : a ≡ answer.TheVariants.Pending → NextLift reply l r.vector
    pub decided : deciding ≤ budget → Decides holds l a

  -- the latest call is recorded with what a read would now answer; of a run, also what it promises
  abbrev pub Latest : History → Reading → Type 0
  Latest [] r = Unit {0}
  Latest (floor p h o s ∷ l) r = s ≡ r
  Latest (ceiling p h o s ∷ l) r = s ≡ r
  Latest (run n a k s ∷ l) r = (s ≡ r) × RunPromise n a k (run n a k s ∷ l) r
  Latest (read s ∷ l) r = s ≡ r

  -- what is promised after a list of calls, where a read would answer r
  pub record Promises (l : History) (r : Reading) : Type 0 where
    -- the vector in hand is at or below every solution
    pub below : (w : Vector) → Solution holds l w → AtMost r.vector w
    -- found stands only on the least solution, and none only where there is none
    pub found : IsFound r.verdict → LeastSolution holds l r.vector
    pub none : IsNone r.verdict → Unsolvable holds l
    -- the budgets of the pending runs ≤ the count, which is the number of lifts ≤ the sum of the heights
    pub budgets : pending_budgets l ≤ r.count
    pub counted : r.count ≡ lifts l
    pub bounded : r.count ≤ sum r.vector.heights
    -- floors and ceilings were accepted or refused exactly by the rules
    pub judged : Judged l
    -- what the latest call promises
    pub latest : Latest l r

  -- the same after each call of the list
  abbrev pub Throughout : History → Type 0
  Throughout [] = Unit {0}
  Throughout (e ∷ l) = Promises (e ∷ l) (after e) × Throughout l
