use Rattle.std.proofs.Common.{refl}
use Rattle.lattice.specs.Steps.{Fresh}
use Rattle.lattice.specs.History.{new}
use Rattle.lattice.proofs.Promised.{kept}
use Rattle.lattice.proofs.board.Board.new.Goals as goal

pub returns : goal.returns
returns c =
    let fresh : Fresh _ = record { heights = c.level.ensures; ceilings = c.level-2.ensures; verdict = refl; count = refl } in
    record { fresh = fresh; promise = λ reply laws. kept laws (new fresh) }
