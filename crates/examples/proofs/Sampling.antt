-- The worked example of a trace. Assumes nothing.
use Rattle.std.proofs.Common.{[], ◌∷◌, refl, lit≤}
use Rattle.lattice.specs.declared.board.Board.{Board}
use Rattle.lattice.specs.declared.verdict.Verdict as verdict
use Rattle.lattice.specs.Limits.{deciding}
use Rattle.lattice.specs.Steps.{stay, lift, holds, never, RunStep}
use Rattle.payload.specs.declared.wish.Wish.TheVariants.{Code}
use Rattle.examples.specs.Samples.{link, replies}
use Rattle.examples.specs.Traces.{Sampled}
use Rattle.examples.proofs.Boards.{board, two, tops, fresh, started, searches, gives}

abbrev linked : Board
linked = board (two 1 3 refl) tops verdict.TheVariants.Found 4 (lit≤ tt)

to_linked : RunStep (replies (Code 5) (link ∷ [])) deciding fresh 4 linked
to_linked = searches refl (lift {w = two 1 3 refl} (lift {w = two 1 2 refl} (lift {w = two 1 1 refl} (lift {w = two 1 0 refl} stay refl (lit≤ tt) refl) refl (lit≤ tt) refl) refl (lit≤ tt) refl) refl (lit≤ tt) refl) (lit≤ tt) (holds refl) refl refl

abbrev unlinked : Board
unlinked = board (two 1 1 refl) tops verdict.TheVariants.Found 2 (lit≤ tt)

to_unlinked : RunStep (replies (Code 5) []) deciding fresh 2 unlinked
to_unlinked = searches refl (lift {w = two 1 1 refl} (lift {w = two 1 0 refl} stay refl (lit≤ tt) refl) refl (lit≤ tt) refl) (lit≤ tt) (holds refl) refl refl

abbrev unwished : Board
unwished = board (two 0 0 refl) tops verdict.TheVariants.None 0 (lit≤ tt)

to_unwished : RunStep (replies (Code 9) (link ∷ [])) deciding fresh 0 unwished
to_unwished = searches refl stay (lit≤ tt) (never refl) refl refl

pub sampled : Sampled
sampled = record {
  clocks = refl;
  cut = gives deciding 4 linked (started (replies (Code 5) (link ∷ []))) to_linked refl refl;
  unlinked = gives deciding 2 unlinked (started (replies (Code 5) [])) to_unlinked refl refl;
  unwished = gives deciding 0 unwished (started (replies (Code 9) (link ∷ []))) to_unwished refl refl;
}
