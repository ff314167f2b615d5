-- Places and heights that are taken, and those that are refused. Assumes nothing.
use Rattle.std.specs.Prelude.{◌≡◌, ℕ, ◌<◌, ◌≤◌, List, slice_index}
use Rattle.refusal.specs.declared.Refusal.{Refusal}
use Rattle.refusal.specs.declared.Rule.TheVariants.{Place, Height}
use Rattle.refusal.specs.declared.Layer.TheVariants.{Board}
use Rattle.refusal.specs.Table.{row}
use Rattle.lattice.specs.Limits.{places, highest}

-- there is no place p
abbrev pub no_place_refusal : ℕ → Refusal
no_place_refusal p = row Place p Board

-- the height given for place p is too great
abbrev pub too_high_refusal : ℕ → Refusal
too_high_refusal p = row Height p Board

-- a place and a height that a floor or a ceiling takes
abbrev pub Accepted : ℕ → ℕ → Type 0
Accepted p h = (p < places) × (h ≤ highest)

-- why it is refused: the place is looked at first
pub data Refused (p h : ℕ) : Refusal → Type 0 where
  no_place : places ≤ p → Refused p h (no_place_refusal p)
  too_high : p < places → highest < h → Refused p h (too_high_refusal p)

-- the refusal names the first place whose height is too great
pub record FirstTooHigh (heights : List ℕ) (e : Refusal) : Type 0 where
  pub place : ℕ
  pub within : place < places
  pub high : highest < slice_index heights place
  pub before : (k : ℕ) → k < place → slice_index heights k ≤ highest
  pub is : e ≡ too_high_refusal place
