-- The numbers that bound a search. Assumes nothing.
use Rattle.std.specs.Prelude.{ℕ, ◌*◌}

-- how many places a vector has
abbrev pub places : ℕ
places = 32

-- the greatest height of a place
abbrev pub highest : ℕ
highest = 1000000

-- the sum of the heights where every place is at its greatest; a run with such a budget decides
abbrev pub deciding : ℕ
deciding = places * highest
