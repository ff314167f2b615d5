-- Vectors, place by place. Assumes nothing.
use Rattle.std.specs.Prelude.{◌≡◌, ℕ, ◌<◌, ◌≤◌, List, slice_index, slice_set}
use Rattle.lattice.specs.Limits.{places}
use Rattle.lattice.specs.declared.vector.Vector.{Vector}

-- the heights of all places, in their order
abbrev pub heights_of : Vector → List ℕ
heights_of v = v.heights

-- the height at place i
abbrev pub at : Vector → ℕ → ℕ
at v i = slice_index v.heights i

-- v is at or below w
abbrev pub AtMost : Vector → Vector → Type 0
AtMost v w = (i : ℕ) → i < places → at v i ≤ at w i

-- w is v with height h at place p
abbrev pub With : Vector → ℕ → ℕ → Vector → Type 0
With v p h w = w.heights ≡ slice_set v.heights p h
