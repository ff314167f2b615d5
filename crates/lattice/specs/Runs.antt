-- Laws over runs and over lists of calls, above the single steps, for all replies, lawful or not. Assumes nothing.
use Rattle.std.specs.Prelude.{◌≡◌, ℕ, ◌+◌, map}
use Rattle.lattice.specs.declared.vector.Vector.{Vector}
use Rattle.lattice.specs.declared.condition.Reply.{Reply}
use Rattle.lattice.specs.declared.board.Board.{Board}
use Rattle.lattice.specs.Steps.{IsOpen, RunStep}
use Rattle.lattice.specs.History.{History, asked, Reached}

-- a pending run, which leaves the board open, and a run after it are one run of both budgets
abbrev pub RunsAdd : Type 0
RunsAdd = (reply : Vector → Reply) (m n j k : ℕ) (b c d : Board) → RunStep reply m b j c → IsOpen c.verdict → RunStep reply n c k d → RunStep reply (m + n) b (j + k) d

-- a run has one result, on every board
abbrev pub OneRun : Type 0
OneRun = (reply : Vector → Reply) (n j k : ℕ) (b c d : Board) → RunStep reply n b j c → RunStep reply n b k d → (j ≡ k) × (c ≡ d)

-- the same calls from a new board are answered in one way, and lead to one board
abbrev pub OneBoard : Type 0
OneBoard = (reply : Vector → Reply) (l m : History) (b c : Board) → Reached reply l b → Reached reply m c → map asked l ≡ map asked m → (l ≡ m) × (b ≡ c)
