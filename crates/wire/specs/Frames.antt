-- The frame of a job file: its first seven bytes, and nothing behind its body. Assumes nothing.
use Rattle.std.specs.Prelude.{◌≡◌, ℕ, ◌-◌, ◌<◌, ◌≤◌, ◌⊎◌, List, ◌∷◌, ◌++◌, length, slice_index}
use Rattle.refusal.specs.declared.Layer.TheVariants.{Frame}
use Rattle.refusal.specs.declared.Refusal.{Refusal}
use Rattle.refusal.specs.declared.Rule.{Rule}
use Rattle.refusal.specs.declared.Rule.TheVariants as rule
use Rattle.refusal.specs.Table.{row}
use Rattle.wire.specs.declared.frame.JobKind.{JobKind}
use Rattle.wire.specs.declared.frame.JobKind.TheVariants as kind
use Rattle.wire.specs.declared.frame.FrameFault.{FrameFault}
use Rattle.wire.specs.declared.frame.FrameFault.TheVariants as fault
use Rattle.wire.specs.Bytes.{word4, number4}
use Rattle.wire.specs.Parts.{Checks}

-- the most bytes that a file has
abbrev pub largest : ℕ
largest = 16384

-- the job letters: T for a trace, M for gates
abbrev pub trace_letter : ℕ
trace_letter = 84

abbrev pub gates_letter : ℕ
gates_letter = 77

abbrev pub IsLetter : ℕ → Type 0
IsLetter letter = (letter ≡ trace_letter) ⊎ (letter ≡ gates_letter)

abbrev pub job_letter : JobKind → ℕ
job_letter kind.Trace = trace_letter
job_letter kind.Gates = gates_letter

-- the greatest n, the same for both letters
abbrev pub most : ℕ → ℕ
most letter = 16

-- version, the file's length, letter, n, and then the body
abbrev pub headed : ℕ → ℕ → ℕ → List ℕ → List ℕ
headed total letter n body = 1 ∷ word4 total ++ letter ∷ n ∷ body

-- a file whose frame is good, with the body that follows it
pub record Framed (file : List ℕ) (letter n : ℕ) (body : List ℕ) : Type 0 where
  pub short : length file ≤ largest
  pub is : file ≡ headed (length file) letter n body
  pub lettered : IsLetter letter
  pub some : 1 ≤ n
  pub few : n ≤ most letter

-- a check of the byte at a place, and its row, which has that place as its position
abbrev pub ByteAt : List ℕ → Rule → ℕ → (ℕ → Type 0) → (Refusal → Type 0) → Refusal → Type 0
ByteAt file broken place Kept = Checks (Kept (slice_index file place)) (row broken place Frame)

-- the checks of the frame, in their order, each with its row
abbrev pub FrameBroken : List ℕ → Refusal → Type 0
FrameBroken file =
    Checks (length file ≤ largest) (row rule.TooLong largest Frame)
    (Checks (7 ≤ length file) (row rule.Missing (length file) Frame)
    (ByteAt file rule.Version 0 (λ version. version ≡ 1)
    (Checks (number4 file 1 ≡ length file) (row rule.Length 1 Frame)
    (ByteAt file rule.Letter 5 IsLetter
    (ByteAt file rule.Count 6 (λ n. (1 ≤ n) × (n ≤ most (slice_index file 5))) (λ _. ⊥))))))

-- bytes are left behind the body
pub data Behind (total : ℕ) (s : List ℕ) : Refusal → Type 0 where
  behind : 0 < length s → Behind total s (row rule.Behind (total - length s) Frame)

-- each fault of the frame as its row
abbrev pub frame_row : FrameFault → Refusal
frame_row fault.TooLong = row rule.TooLong largest Frame
frame_row (fault.Missing p) = row rule.Missing p Frame
frame_row fault.Version = row rule.Version 0 Frame
frame_row fault.Length = row rule.Length 1 Frame
frame_row fault.Letter = row rule.Letter 5 Frame
frame_row fault.Count = row rule.Count 6 Frame
frame_row (fault.Behind p) = row rule.Behind p Frame
