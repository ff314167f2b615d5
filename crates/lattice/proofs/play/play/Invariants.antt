use Rattle.std.proofs.Common.{◌≡◌, map, reverse, take}
use Rattle.lattice.specs.History.{History, asked, Reached}
use Rattle.lattice.proofs.play.play.Given as goal

-- the calls so far led here
abbrev pub invariant-loop-call : goal.invariant-loop-call
invariant-loop-call g l = (history : History) × (reverse (map asked history) ≡ take l.call-index l.calls) × Reached (g.C.Condition.reply l.condition) history l.board
