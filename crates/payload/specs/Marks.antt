-- Which payloads a wish of either kind wants. A payload stands in the first of four bytes. Assumes nothing.
use Rattle.std.specs.Prelude.{ℕ, Bool, List, take}
use Rattle.payload.specs.declared.wish.Wish.{Wish}
use Rattle.payload.specs.declared.wish.Wish.TheVariants.{Code, Scan}
use Rattle.payload.specs.Kinds.{code_wanted, scan_wanted}

abbrev pub width_of : Wish → ℕ
width_of (Code w) = 1
width_of (Scan w) = 4

abbrev pub wanted_by : Wish → List ℕ → Bool
wanted_by (Code w) bytes = code_wanted w (take 1 bytes)
wanted_by (Scan w) bytes = scan_wanted w (take 4 bytes)
