use Rattle.std.proofs.Common.{refl}
use Rattle.lattice.specs.History.{called, answered}
use Rattle.lattice.proofs.Promised.{kept}
use Rattle.lattice.proofs.board.Board.read.Goals as goal

pub returns : goal.returns
returns c = record { answer = refl; promise = λ reply laws l r. kept laws (called r answered) }
