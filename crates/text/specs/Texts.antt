-- Texts of a bounded length. Assumes nothing.
use Rattle.std.specs.Prelude.{ℕ, List, ◌++◌, take}
use Rattle.text.specs.declared.text.Text.{Text}

-- the most bytes that a text keeps
abbrev pub longest : ℕ
longest = 512

-- what a text says
abbrev pub written : Text → List ℕ
written t = take t.len t.bytes

-- a text with more behind it, as far as it fits
abbrev pub added : List ℕ → List ℕ → List ℕ
added text more = take longest (text ++ more)
