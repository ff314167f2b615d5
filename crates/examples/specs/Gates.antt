-- The worked examples of vans at gates, on boards. Assumes nothing.
use Rattle.std.specs.Prelude.{[], ◌∷◌}
use Rattle.lattice.specs.declared.call.Call.TheVariants.{Floor, Ceiling, Run}
use Rattle.lattice.specs.declared.verdict.Answer.TheVariants.{Pending, Found, None}
use Rattle.lattice.specs.Limits.{deciding}
use Rattle.examples.specs.Depots.{alike, apart, replies}
use Rattle.examples.specs.Outcomes.{Gives}

-- both vans like gate 0 best, which likes van 1 best
pub record Alike : Type 0 where
  -- budget 0 is pending
  pub nothing : Gives (replies alike) (Run 0 ∷ []) Pending 0 0 0
  -- budget 1 finds (1,0), with count 1
  pub one : Gives (replies alike) (Run 1 ∷ []) Found 1 1 0
  -- with ceiling 0 at place 0, budget 0 gives none
  pub shut : Gives (replies alike) (Ceiling 0 0 ∷ Run 0 ∷ []) None 0 0 0

-- each van likes another gate best
pub record Apart : Type 0 where
  -- found (0,0); then after floor 1 at place 0, (1,1); then after floor 2 there, none
  pub first : Gives (replies apart) (Run deciding ∷ []) Found 0 0 0
  pub second : Gives (replies apart) (Run deciding ∷ Floor 0 1 ∷ Run deciding ∷ []) Found 1 1 1
  pub third : Gives (replies apart) (Run deciding ∷ Floor 0 1 ∷ Run deciding ∷ Floor 0 2 ∷ Run deciding ∷ []) None 1 2 1
  -- the same on new boards
  pub floor_1 : Gives (replies apart) (Floor 0 1 ∷ Run deciding ∷ []) Found 1 1 1
  pub floor_2 : Gives (replies apart) (Floor 0 2 ∷ Run deciding ∷ []) None 0 2 0
