-- What a list of calls on a new board comes to. Assumes nothing.
use Rattle.std.specs.Prelude.{◌≡◌, ℕ, List, ◌∷◌, map, reverse, replicate}
use Rattle.lattice.specs.declared.vector.Vector.{Vector}
use Rattle.lattice.specs.declared.condition.Reply.{Reply}
use Rattle.lattice.specs.declared.board.Board.{Board}
use Rattle.lattice.specs.declared.board.Reading.{Reading}
use Rattle.lattice.specs.declared.verdict.Answer.{Answer}
use Rattle.lattice.specs.declared.call.Call.{Call}
use Rattle.lattice.specs.Steps.{reading}
use Rattle.lattice.specs.History.{History, run, asked, Reached}

-- the latest call is a run that answered a, and a read would now give this count and the heights x and y at places 0 and 1, 0 elsewhere
pub record Ended (a : Answer) (count x y : ℕ) (l : History) (r : Reading) : Type 0 where
  pub budget : ℕ
  pub lifts : ℕ
  pub earlier : History
  pub latest : l ≡ run budget a lifts r ∷ earlier
  pub counted : r.count ≡ count
  pub heights : r.vector.heights ≡ x ∷ y ∷ replicate 30 0

-- the calls, the earliest first, can be made on a new board that these replies serve, and always end so
pub record Gives (reply : Vector → Reply) (calls : List Call) (a : Answer) (count x y : ℕ) : Type 0 where
  pub history : History
  pub board : Board
  pub reached : Reached reply history board
  pub made : reverse (map asked history) ≡ calls
  pub always : (l : History) (b : Board) → Reached reply l b → reverse (map asked l) ≡ calls → Ended a count x y l (reading b)
