-- What each public call says: its step, and what is promised whatever list of calls came before. Assumes nothing.
use Rattle.std.specs.Prelude.{◌≡◌, ℕ, List, [], ◌∷◌, map, reverse, Result, MatchResult}
use Rattle.refusal.specs.declared.Refusal.{Refusal}
use Rattle.lattice.specs.declared.vector.Vector.{Vector}
use Rattle.lattice.specs.declared.condition.Reply.{Reply}
use Rattle.lattice.specs.declared.board.Board.{Board}
use Rattle.lattice.specs.declared.board.Reading.{Reading}
use Rattle.lattice.specs.declared.verdict.Answer.{Answer}
use Rattle.lattice.specs.declared.call.Call.{Call}
use Rattle.lattice.specs.Laws.{Lawful, Holding}
use Rattle.lattice.specs.Refusals.{Accepted, Refused}
use Rattle.lattice.specs.Steps.{RunStep, answer_of, reading}
use Rattle.lattice.specs.History.{Entry, History, run, asked, Reached}
use Rattle.lattice.specs.Promises.{Promises, Throughout}

module _ (holds : Vector → Type 0) (reply : Vector → Reply) where
  -- the list leads to the board, with what is promised there
  pub record Kept (l : History) (b : Board) : Type 0 where
    pub reached : Reached reply l b
    pub promises : Promises holds reply l (reading b)

  -- whatever list of calls led to b, the call e leads on from there to c, with what is promised after it
  abbrev pub Continues : Entry → Board → Board → Type 0
  Continues e b c = (l : History) → Reached reply l b → Kept (e ∷ l) c

  -- a run that takes b to c and answers a
  pub record RunCall (budget : ℕ) (b : Board) (a : Answer) (c : Board) : Type 0 where
    pub lifts : ℕ
    pub step : RunStep reply budget b lifts c
    pub answer : a ≡ answer_of c.verdict
    pub promise : Continues (run budget a lifts (reading c)) b c

  -- just these calls, the earliest first, lead from a new board to b; what is promised holds there, and held after each call on the way
  pub record Played (calls : List Call) (b : Board) : Type 0 where
    pub history : History
    pub made : reverse (map asked history) ≡ calls
    pub kept : Kept history b
    pub throughout : Throughout holds reply history

-- the same for every condition that keeps the laws. A fact in a contract cannot range over every set of vectors,
-- so conditions are told by their replies here; that none is lost so is `ToldByReplies`
abbrev pub ContinuesAll : Entry → Board → Board → Type 0
ContinuesAll e b c = (reply : Vector → Reply) → Lawful (Holding reply) reply → Continues (Holding reply) reply e b c

abbrev pub StartsAll : Board → Type 0
StartsAll b = (reply : Vector → Reply) → Lawful (Holding reply) reply → Kept (Holding reply) reply [] b

-- a floor or a ceiling that takes b to c and returns r: it is accepted and makes its step, or is refused and changes nothing
module _ (Moves : ℕ → ℕ → Board → Board → Type 0) (recorded : ℕ → ℕ → Result (Unit {0}) Refusal → Reading → Entry) where
  pub record BoundCall (p h : ℕ) (b : Board) (r : Result (Unit {0}) Refusal) (c : Board) : Type 0 where
    pub step : MatchResult r (λ _. Accepted p h × Moves p h b c) (λ e. Refused p h e × (c ≡ b))
    pub promise : ContinuesAll (recorded p h r (reading c)) b c

-- no condition is lost where conditions are told by their replies: the replies of each keep the laws,
-- and what is promised by its replies is promised of the vectors on which it holds
pub record ToldByReplies (holds : Vector → Type 0) (reply : Vector → Reply) : Type 0 where
  pub lawful : Lawful (Holding reply) reply
  pub promises : (l : History) (b : Board) → Promises (Holding reply) reply l (reading b) → Promises holds reply l (reading b)
  pub kept : (l : History) (b : Board) → Reached reply l b → Kept holds reply l b
