use Rattle.std.proofs.Common.{rules}
use Rattle.lattice.specs.Refusals.{no_place, too_high}
use Rattle.lattice.proofs.board.calls.admit.Goals as goal

pub returns-then-place-ge-PLACES : goal.returns-then-place-ge-PLACES
returns-then-place-ge-PLACES c = rw c.refuse.ensures (no_place (search rules))

pub returns-then-height-gt-HIGHEST : goal.returns-then-height-gt-HIGHEST
returns-then-height-gt-HIGHEST c = rw c.refuse-then-height-gt-HIGHEST.ensures (too_high (search rules) (search rules))
