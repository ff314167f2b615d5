-- The text of a report, and where it is put. Assumes nothing.
use Rattle.std.specs.Prelude.{◌≡◌, ℕ, zero, suc, ◌<◌, cond, List, [], ◌∷◌, ◌++◌, length, drop, decimal, Result, MatchResult, ◌==◌, nat_lt}
use Rattle.refusal.specs.declared.Layer.TheVariants.{Report}
use Rattle.refusal.specs.declared.Rule.TheVariants.{Room}
use Rattle.refusal.specs.declared.Refusal.{Refusal}
use Rattle.refusal.specs.Table.{row, refusal_words}
use Rattle.lattice.specs.declared.vector.Vector.{Vector}
use Rattle.lattice.specs.declared.board.Reading.{Reading}
use Rattle.lattice.specs.declared.verdict.Verdict.{Verdict}
use Rattle.lattice.specs.declared.verdict.Verdict.TheVariants.{Open, Found, None}
use Rattle.lattice.specs.Order.{at}
use Rattle.lattice.specs.Words.{verdict_word}
use Rattle.gates.specs.Gates.{sides}
use Rattle.wire.specs.Frames.{gates_letter}
use Rattle.jobfile.specs.declared.job.Job.{Job as TheJob}
use Rattle.jobfile.specs.Jobs.{letter_of_job, places_of}

-- as in: refused 4 at 1 in frame
abbrev pub text_of_refusal : Refusal → List ℕ
text_of_refusal r = refusal_words r ++ (10 ∷ [])

-- job letter, space, verdict
abbrev pub first_line : ℕ → Verdict → List ℕ
first_line letter v = letter ∷ 32 ∷ (verdict_word v ++ (10 ∷ []))

-- place, space, and what is shown of it
abbrev pub place_line : ℕ → List ℕ → List ℕ
place_line place shown = decimal place ++ (32 ∷ (shown ++ (10 ∷ [])))

-- the lines of the first places
abbrev pub place_lines : (ℕ → List ℕ) → ℕ → List ℕ
place_lines shown zero = []
place_lines shown (suc k) = place_lines shown k ++ place_line k (shown k)

-- the report: the lines of places stand only after found
abbrev pub report_text : ℕ → ℕ → (ℕ → List ℕ) → Verdict → List ℕ
report_text letter n shown Open = first_line letter Open
report_text letter n shown Found = first_line letter Found ++ place_lines shown n
report_text letter n shown None = first_line letter None

-- where there is no gate: -
abbrev pub no_gate : List ℕ
no_gate = 45 ∷ []

-- the gate at a position of an order of n gates, if there is one
abbrev pub gate_shown : ℕ → (ℕ → ℕ) → ℕ → List ℕ
gate_shown n order p = cond (nat_lt p n) (decimal (order p)) no_gate

-- of a gates job the gate is shown, of every other the height
abbrev pub shown_by : TheJob → Vector → ℕ → List ℕ
shown_by j v i = cond (letter_of_job j == gates_letter) (cond (nat_lt i (sides j.gates).n) (gate_shown (sides j.gates).n ((sides j.gates).van i) (at v i)) no_gate) (decimal (at v i))

abbrev pub text_of_job : TheJob → Reading → List ℕ
text_of_job j r = report_text (letter_of_job j) (places_of j) (shown_by j r.vector) r.verdict

-- the text stands at the front of the memory, and what stood behind it is unaltered; or it is longer than the memory, which stays as it was
abbrev pub Placed : List ℕ → List ℕ → Result ℕ Refusal → List ℕ → Type 0
Placed old text r new = MatchResult r (λ n. (n ≡ length text) × (new ≡ text ++ drop n old)) (λ e. (e ≡ row Room (length text) Report) × (length old < length text) × (new ≡ old))
