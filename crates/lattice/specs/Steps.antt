-- What a floor, a ceiling and a run do: the board before against the board after. Assumes nothing.
use Rattle.std.specs.Prelude.{◌≡◌, ℕ, ◌+◌, ◌<◌, ◌≤◌, min, max, replicate}
use Rattle.lattice.specs.declared.vector.Vector.{Vector}
use Rattle.lattice.specs.declared.condition.Reply.{Reply}
use Rattle.lattice.specs.declared.board.Board.{Board}
use Rattle.lattice.specs.declared.board.Reading.{Reading}
use Rattle.lattice.specs.declared.verdict.Verdict as verdict
use Rattle.lattice.specs.declared.verdict.Verdict.{Verdict}
use Rattle.lattice.specs.declared.verdict.Answer as answer
use Rattle.lattice.specs.declared.verdict.Answer.{Answer}
use Rattle.lattice.specs.Limits.{places, highest}
use Rattle.lattice.specs.Order.{at, With}
use Rattle.lattice.specs.Replies.{IsHolds, IsLift, IsNever}

abbrev pub IsOpen : Verdict → Type 0
IsOpen v = v ≡ verdict.TheVariants.Open

abbrev pub IsFound : Verdict → Type 0
IsFound v = v ≡ verdict.TheVariants.Found

abbrev pub IsNone : Verdict → Type 0
IsNone v = v ≡ verdict.TheVariants.None

-- what a run answers of the verdict that it leaves
abbrev pub answer_of : Verdict → Answer
answer_of verdict.TheVariants.Open = answer.TheVariants.Pending
answer_of verdict.TheVariants.Found = answer.TheVariants.Found
answer_of verdict.TheVariants.None = answer.TheVariants.None

-- what a read answers
abbrev pub reading : Board → Reading
reading b = record { verdict = b.verdict; count = b.count; vector = b.vector }

-- a new board
pub record Fresh (b : Board) : Type 0 where
  pub heights : b.vector.heights ≡ replicate places 0
  pub ceilings : b.ceilings.heights ≡ replicate places highest
  pub verdict : IsOpen b.verdict
  pub count : b.count ≡ 0

-- found becomes open
abbrev pub reopened : Verdict → Verdict
reopened verdict.TheVariants.Open = verdict.TheVariants.Open
reopened verdict.TheVariants.Found = verdict.TheVariants.Open
reopened verdict.TheVariants.None = verdict.TheVariants.None

-- a floor: the height becomes the greater of the two; if it rose, found becomes open; if it is now above its ceiling, the verdict becomes none
pub record FloorStep (p h : ℕ) (b c : Board) : Type 0 where
  pub vector : With b.vector p (max (at b.vector p) h) c.vector
  pub ceilings : c.ceilings ≡ b.ceilings
  pub count : c.count ≡ b.count
  pub over : at c.ceilings p < at c.vector p → IsNone c.verdict
  pub rose : at c.vector p ≤ at c.ceilings p → at b.vector p < at c.vector p → c.verdict ≡ reopened b.verdict
  pub kept : at c.vector p ≤ at c.ceilings p → at c.vector p ≤ at b.vector p → c.verdict ≡ b.verdict

-- a ceiling: it becomes the smaller of the two; if the height is now above it, the verdict becomes none
pub record CeilingStep (p h : ℕ) (b c : Board) : Type 0 where
  pub vector : c.vector ≡ b.vector
  pub ceilings : With b.ceilings p (min (at b.ceilings p) h) c.ceilings
  pub count : c.count ≡ b.count
  pub over : at c.ceilings p < at c.vector p → IsNone c.verdict
  pub kept : at c.vector p ≤ at c.ceilings p → c.verdict ≡ b.verdict

module _ (reply : Vector → Reply) where
  -- k lifts lead from v to w, each to the new height that the reply to the vector in hand gives, none above its ceiling
  pub data Climb (ceilings : Vector) (v : Vector) : ℕ → Vector → Type 0 where
    stay : Climb ceilings v 0 v
    lift : {k p h : ℕ} {u w : Vector} → Climb ceilings v k u → IsLift (reply u) p h → h ≤ at ceilings p → With u p h w → Climb ceilings v (k + 1) w

  -- the reply to w is a lift, not above the ceiling of its place
  abbrev pub Liftable : Vector → Vector → Type 0
  Liftable ceilings w = (p : ℕ) × (h : ℕ) × IsLift (reply w) p h × (h ≤ at ceilings p)

  -- how a search of k lifts ends on vector w: the reply decides, then the ceiling, then the budget
  pub data Ends (ceilings : Vector) (budget k : ℕ) (w : Vector) : Verdict → Type 0 where
    holds : IsHolds (reply w) → Ends ceilings budget k w verdict.TheVariants.Found
    never : IsNever (reply w) → Ends ceilings budget k w verdict.TheVariants.None
    above : {p h : ℕ} → IsLift (reply w) p h → at ceilings p < h → Ends ceilings budget k w verdict.TheVariants.None
    spent : Liftable ceilings w → k ≡ budget → Ends ceilings budget k w verdict.TheVariants.Open

  -- a search from an open board: the lifts that it makes, at most its budget, and how it ends
  pub record Searched (budget : ℕ) (b : Board) (k : ℕ) (c : Board) : Type 0 where
    pub climb : Climb b.ceilings b.vector k c.vector
    pub afforded : k ≤ budget
    pub ends : Ends b.ceilings budget k c.vector c.verdict
    pub ceilings : c.ceilings ≡ b.ceilings
    pub count : c.count ≡ b.count + k

  -- a run of k lifts takes b to c: on found and none it changes nothing, on open it searches
  pub data RunStep (budget : ℕ) (b : Board) : ℕ → Board → Type 0 where
    found : IsFound b.verdict → RunStep budget b 0 b
    none : IsNone b.verdict → RunStep budget b 0 b
    searched : {k : ℕ} {c : Board} → IsOpen b.verdict → Searched budget b k c → RunStep budget b k c
