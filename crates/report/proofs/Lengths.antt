-- How long the lines of refusals and reports are. Assumes nothing.
use Rattle.std.proofs.Common.{ℕ, zero, suc, ◌*◌, ◌^◌, ◌<◌, ◌≤◌, List, ◌++◌, length, decimal, arith}
use Rattle.std.proofs.lemmas.List.{length-append}
use Rattle.std.proofs.lemmas.Fmt.{length-decimal-le}
use Rattle.std.proofs.lemmas.Bool.Decides.{nat_tests}
use Rattle.refusal.specs.declared.Layer.{Layer}
use Rattle.refusal.specs.declared.Layer.TheVariants.{Frame, Record, Job, Report, Board}
use Rattle.refusal.specs.declared.Refusal.{Refusal}
use Rattle.refusal.specs.Table.{number_of, layer_word}
use Rattle.lattice.specs.declared.vector.Vector.{Vector}
use Rattle.lattice.specs.declared.verdict.Verdict.TheVariants.{Found}
use Rattle.lattice.specs.Order.{at}
use Rattle.gates.specs.declared.gates.Gates.{Gates}
use Rattle.gates.specs.Gates.{sides}
use Rattle.gates.specs.Tables.{van_ranked}
use Rattle.jobfile.specs.declared.job.Job.{Job as TheJob}
use Rattle.jobfile.specs.Jobs.{letter_of_job, places_of}
use Rattle.report.specs.Lines.{text_of_refusal, first_line, place_line, place_lines, gate_shown, shown_by}
use Rattle.report.proofs.Fitting.{places_few}

layer_short : (layer : Layer) → length (layer_word layer) ≤ 6
layer_short Frame = omega arith
layer_short Record = omega arith
layer_short Job = omega arith
layer_short Report = omega arith
layer_short Board = omega arith

-- the line of a refusal, whose number is a byte and whose position a word
pub refusal_fits : (r : Refusal) → number_of r.rule < 2 ^ 8 → r.position < 2 ^ 64 → length (text_of_refusal r) ≤ 512
refusal_fits r byte word =
    let n : length (decimal (number_of r.rule)) ≤ 3 = length-decimal-le 3 (number_of r.rule) (omega arith) (omega arith) (omega arith) in
    let p : length (decimal r.position) ≤ 20 = length-decimal-le 20 r.position (omega arith) (omega arith) word in
    let w = layer_short r.layer in
    simp length-append (omega arith)

-- the line of a place below 100
line_short : (place : ℕ) (shown : List ℕ) → place < 100 → length shown ≤ 7 → length (place_line place shown) ≤ 11
line_short place shown low short =
    let d : length (decimal place) ≤ 2 = length-decimal-le 2 place (omega arith) (omega arith) (omega arith) in
    simp length-append (omega arith)

pub lines_short : (shown : ℕ → List ℕ) (n : ℕ) → n ≤ 16 → ((i : ℕ) → i < n → length (shown i) ≤ 7) → length (place_lines shown n) ≤ 11 * n
lines_short shown zero few short = omega arith
lines_short shown (suc k) few short =
    let before = lines_short shown k (omega arith) (λ i low. short i (omega arith)) in
    let line = line_short k (shown k) (omega arith) (short k (omega arith)) in
    omega (arith, length-append (place_lines shown k) (place_line k (shown k)))

height_short : (v : Vector) (i : ℕ) → i < 32 → length (decimal (at v i)) ≤ 7
height_short v i low =
    let h = v.bounded i low in
    length-decimal-le 7 (at v i) (omega arith) (omega arith) (omega arith)

-- the number of a gate, or -
gate_short : (m : Gates) (i p : ℕ) → i < (sides m).n → length (gate_shown (sides m).n ((sides m).van i) p) ≤ 7
gate_short m i p low =
    let few = m.few in
    let number : p < (sides m).n → length (decimal ((sides m).van i p)) ≤ 7 = λ less.
    let below = (van_ranked m i low).within p less in
    length-decimal-le 7 ((sides m).van i p) (omega arith) (omega arith) (omega arith) in
    grind (arith, nat_tests)

-- what is shown of a place has at most seven bytes
pub shown_short : (j : TheJob) (v : Vector) (i : ℕ) → i < 32 → length (shown_by j v i) ≤ 7
shown_short j v i low =
    let h = height_short v i low in
    let g = gate_short j.gates i (at v i) in
    grind (arith, nat_tests)

-- the report of a job with its lines
pub report_fits : (j : TheJob) (v : Vector) → length (first_line (letter_of_job j) Found ++ place_lines (shown_by j v) (places_of j)) ≤ 512
report_fits j v =
    let few = places_few j in
    let lines = lines_short (shown_by j v) (places_of j) few (λ i low. shown_short j v i (omega arith)) in
    omega (arith, length-append (first_line (letter_of_job j) Found) (place_lines (shown_by j v) (places_of j)))
