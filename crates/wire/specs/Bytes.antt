-- Numbers in bytes, the greatest byte first. Assumes nothing.
use Rattle.std.specs.Prelude.{ℕ, ◌+◌, ◌*◌, ◌/◌, ◌%◌, List, [], ◌∷◌, slice_index}

-- the two bytes, or the four, of a number
abbrev pub word2 : ℕ → List ℕ
word2 v = v / 256 % 256 ∷ v % 256 ∷ []

abbrev pub word4 : ℕ → List ℕ
word4 v = v / 16777216 % 256 ∷ v / 65536 % 256 ∷ v / 256 % 256 ∷ v % 256 ∷ []

-- the number in the four bytes from place k on
abbrev pub number4 : List ℕ → ℕ → ℕ
number4 s k = slice_index s k * 16777216 + slice_index s (k + 1) * 65536 + slice_index s (k + 2) * 256 + slice_index s (k + 3)
