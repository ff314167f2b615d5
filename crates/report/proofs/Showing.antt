-- The text of a job that holds a form is the text of the form. Assumes nothing.
use Rattle.std.proofs.Common.{◌≡◌, ℕ, zero, suc, ◌<◌, List, ◌++◌, refl, ap, ◌∙◌, ap₂, arith}
use Rattle.std.proofs.lemmas.Bool.Decides.{nat_tests}
use Rattle.lattice.specs.declared.vector.Vector.{Vector}
use Rattle.lattice.specs.declared.verdict.Verdict.{Verdict}
use Rattle.lattice.specs.declared.verdict.Verdict.TheVariants as verdict
use Rattle.lattice.specs.Order.{at}
use Rattle.jobfile.specs.declared.job.Job.{Job}
use Rattle.jobfile.specs.Forms.{Form, trace, gates, letter_of, size_of}
use Rattle.jobfile.specs.Jobs.{letter_of_job, places_of, Held}
use Rattle.report.specs.Lines.{first_line, place_line, place_lines, report_text, shown_by}
use Rattle.report.specs.Earliest.{shown_of}

-- the lines of the first places show what is shown of those alone
pub same_lines : (shown other : ℕ → List ℕ) (n : ℕ) → ((i : ℕ) → i < n → shown i ≡ other i) → place_lines shown n ≡ place_lines other n
same_lines shown other zero same = refl
same_lines shown other (suc n) same = ap₂ ◌++◌ (same_lines shown other n (λ i l. same i (omega arith))) (ap (place_line n) (same n (omega arith)))

pub same_letter : (j : Job) (form : Form) → Held j form → letter_of_job j ≡ letter_of form
same_letter j (trace n watch wish channels events) (held, _) = held.lettered
same_letter j (gates n vans rows) (held, _) = held.lettered

pub same_places : (j : Job) (form : Form) → Held j form → places_of j ≡ size_of form
same_places j (trace n watch wish channels events) (held, _) = rw held.lettered held.count
same_places j (gates n vans rows) (held, _) = rw held.lettered held.count

pub same_shown : (j : Job) (form : Form) → Held j form → (v : Vector) (i : ℕ) → i < size_of form → shown_by j v i ≡ shown_of form v i
same_shown j (trace n watch wish channels events) (held, _) v i l = rw held.lettered refl
same_shown j (gates n vans rows) (held, _) v i l =
    let lettered = held.lettered in
    let count = held.count in
    let of_van = held.of_vans i (at v i) l in
    grind (arith, nat_tests)

-- the report of the job is that of the form
pub same_report : (j : Job) (form : Form) → Held j form → (v : Vector) (word : Verdict) →
    report_text (letter_of_job j) (places_of j) (shown_by j v) word ≡ report_text (letter_of form) (size_of form) (shown_of form v) word
same_report j form held v verdict.Open = ap (λ letter. first_line letter verdict.Open) (same_letter j form held)
same_report j form held v verdict.Found =
    ap₂ (λ letter lines. first_line letter verdict.Found ++ lines) (same_letter j form held)
    (ap (place_lines (shown_by j v)) (same_places j form held) ∙ same_lines (shown_by j v) (shown_of form v) (size_of form) (λ i l. same_shown j form held v i l))
same_report j form held v verdict.None = ap (λ letter. first_line letter verdict.None) (same_letter j form held)
