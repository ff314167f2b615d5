-- Kinds of payload: how wide one is in the file, what a wish is, and which payloads it wants. Assumes nothing.
use Rattle.std.specs.Prelude.{ℕ, ◌+◌, ◌*◌, Bool, cond, ◌&&◌, List, length, Some, None, Option, ◌==◌, nat_le, slice_index}
use Rattle.payload.specs.declared.kinds.ScanWish.{ScanWish}

-- the number in the two bytes from i on, the greater byte first
abbrev pub pair_at : List ℕ → ℕ → ℕ
pair_at part i = slice_index part i * 256 + slice_index part (i + 1)

-- a code is one byte, wanted if it equals the wish
abbrev pub code_wanted : ℕ → List ℕ → Bool
code_wanted wish part = slice_index part 0 == wish

abbrev pub code_wish : List ℕ → ℕ
code_wish part = slice_index part 0

-- a scan is a stop and the parcels left, wanted if the stop is the wish's and the parcels are at most the wish's
abbrev pub scan_wanted : ScanWish → List ℕ → Bool
scan_wanted wish part = pair_at part 0 == wish.stop && nat_le (pair_at part 2) wish.parcels

abbrev pub scan_wish : List ℕ → ScanWish
scan_wish part = record { stop = pair_at part 0; parcels = pair_at part 2 }

-- what the bytes state, if there are just as many as the kind is wide
abbrev pub of_width : {A : Type 0} → ℕ → (List ℕ → A) → List ℕ → Option A
of_width wide f part = cond (length part == wide) (Some (f part)) None
