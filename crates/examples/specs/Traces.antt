-- The worked example of a trace, on boards. Assumes nothing.
use Rattle.std.specs.Prelude.{◌≡◌, [], ◌∷◌, map, take}
use Rattle.lattice.specs.declared.call.Call.TheVariants.{Run}
use Rattle.lattice.specs.declared.verdict.Answer.TheVariants.{Found, None}
use Rattle.lattice.specs.Limits.{deciding}
use Rattle.payload.specs.declared.wish.Wish.TheVariants.{Code}
use Rattle.trace.specs.Clocks.{mattern}
use Rattle.examples.specs.Outcomes.{Gives}
use Rattle.examples.specs.Samples.{sample, link, replies}

pub record Sampled : Type 0 where
  -- the clocks in file order are (1,0), (0,1), (1,2) and (1,3)
  pub clocks : map (take 2) (mattern sample 4) ≡ (1 ∷ 0 ∷ []) ∷ (0 ∷ 1 ∷ []) ∷ (1 ∷ 2 ∷ []) ∷ (1 ∷ 3 ∷ []) ∷ []
  -- with wish 5 the cut is (1,3); without the channel it is (1,1); with wish 9 there is none
  pub cut : Gives (replies (Code 5) (link ∷ [])) (Run deciding ∷ []) Found 4 1 3
  pub unlinked : Gives (replies (Code 5) []) (Run deciding ∷ []) Found 2 1 1
  pub unwished : Gives (replies (Code 9) (link ∷ [])) (Run deciding ∷ []) None 0 0 0
