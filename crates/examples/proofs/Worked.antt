-- The worked examples of vans at gates. Assumes nothing.
use Rattle.std.proofs.Common.{◌∷◌, replicate, refl, arith, lit<, lit≤}
use Rattle.lattice.specs.declared.vector.Vector.{Vector}
use Rattle.lattice.specs.declared.board.Board.{Board}
use Rattle.lattice.specs.declared.verdict.Verdict as verdict
use Rattle.lattice.specs.declared.verdict.Verdict.{Verdict}
use Rattle.lattice.specs.Limits.{highest, deciding}
use Rattle.lattice.specs.Steps.{FloorStep, CeilingStep, stay, lift, holds, never, above, spent, RunStep}
use Rattle.lattice.specs.History.{floored, ceiled, ran, called}
use Rattle.examples.specs.Depots.{alike, apart, replies}
use Rattle.examples.specs.Gates.{Alike, Apart}
use Rattle.examples.proofs.Boards.{vector, board, two, tops, fresh, started, rises, searches, gives}

-- the ceilings with ceiling 0 at place 0
abbrev low : Vector
low = vector (0 ∷ replicate 31 highest) refl refl

-- budget 0 is pending on a new board: the reply lifts van 0
nothing : RunStep (replies alike) 0 fresh 0 fresh
nothing = searches refl stay (lit≤ tt) (spent (0, 1, refl, lit≤ tt) refl) refl refl

abbrev moved : Board
moved = board (two 1 0 refl) tops verdict.TheVariants.Found 1 (lit≤ tt)

one : RunStep (replies alike) 1 fresh 1 moved
one = searches refl (lift stay refl (lit≤ tt) refl) (lit≤ tt) (holds refl) refl refl

abbrev lowered : Board
lowered = board (two 0 0 refl) low verdict.TheVariants.Open 0 (lit≤ tt)

lower : CeilingStep 0 0 fresh lowered
lower = record { vector = refl; ceilings = refl; count = refl; over = λ lt. absurd (omega arith); kept = λ le. refl }

abbrev shut : Board
shut = board (two 0 0 refl) low verdict.TheVariants.None 0 (lit≤ tt)

shuts : RunStep (replies alike) 0 lowered 0 shut
shuts = searches refl stay (lit≤ tt) (above {p = 0} {h = 1} refl (lit< tt)) refl refl

pub alike_stands : Alike
alike_stands = record {
  nothing = gives 0 0 fresh (started (replies alike)) nothing refl refl;
  one = gives 1 1 moved (started (replies alike)) one refl refl;
  shut = gives 0 0 shut (called (started (replies alike)) (ceiled {p = 0} {h = 0} (lit< tt, lit≤ tt) lower)) shuts refl refl;
}

-- each van at its best gate
abbrev best : Board
best = board (two 0 0 refl) tops verdict.TheVariants.Found 0 (lit≤ tt)

first : RunStep (replies apart) deciding fresh 0 best
first = searches refl stay (lit≤ tt) (holds refl) refl refl

-- van 0 is moved on by a floor, which opens what was found
abbrev raised : Board
raised = board (two 1 0 refl) tops verdict.TheVariants.Open 0 (lit≤ tt)

raise : FloorStep 0 1 best raised
raise = rises refl refl refl (lit≤ tt) (lit< tt) refl

raise_new : FloorStep 0 1 fresh raised
raise_new = rises refl refl refl (lit≤ tt) (lit< tt) refl

-- van 1 gives way to it
abbrev swapped : Board
swapped = board (two 1 1 refl) tops verdict.TheVariants.Found 1 (lit≤ tt)

second : RunStep (replies apart) deciding raised 1 swapped
second = searches refl (lift stay refl (lit≤ tt) refl) (lit≤ tt) (holds refl) refl refl

-- past its last gate there is nothing
abbrev past : Board
past = board (two 2 1 refl) tops verdict.TheVariants.Open 1 (lit≤ tt)

raise_past : FloorStep 0 2 swapped past
raise_past = rises refl refl refl (lit≤ tt) (lit< tt) refl

abbrev lost : Board
lost = board (two 2 1 refl) tops verdict.TheVariants.None 1 (lit≤ tt)

third : RunStep (replies apart) deciding past 0 lost
third = searches refl stay (lit≤ tt) (never refl) refl refl

abbrev past_new : Board
past_new = board (two 2 0 refl) tops verdict.TheVariants.Open 0 (lit≤ tt)

raise_past_new : FloorStep 0 2 fresh past_new
raise_past_new = rises refl refl refl (lit≤ tt) (lit< tt) refl

abbrev lost_new : Board
lost_new = board (two 2 0 refl) tops verdict.TheVariants.None 0 (lit≤ tt)

third_new : RunStep (replies apart) deciding past_new 0 lost_new
third_new = searches refl stay (lit≤ tt) (never refl) refl refl

pub apart_stands : Apart
apart_stands =
    let at_first = called (started (replies apart)) (ran first) in
    let at_second = called (called at_first (floored {p = 0} {h = 1} (lit< tt, lit≤ tt) raise)) (ran second) in
    record {
      first = gives deciding 0 best (started (replies apart)) first refl refl;
      second = gives deciding 1 swapped (called at_first (floored {p = 0} {h = 1} (lit< tt, lit≤ tt) raise)) second refl refl;
      third = gives deciding 0 lost (called at_second (floored {p = 0} {h = 2} (lit< tt, lit≤ tt) raise_past)) third refl refl;
      floor_1 = gives deciding 1 swapped (called (started (replies apart)) (floored {p = 0} {h = 1} (lit< tt, lit≤ tt) raise_new)) second refl refl;
      floor_2 = gives deciding 0 lost_new (called (started (replies apart)) (floored {p = 0} {h = 2} (lit< tt, lit≤ tt) raise_past_new)) third_new refl refl;
    }
