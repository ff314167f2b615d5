-- A file has one report, and the text of its job is it. Assumes nothing.
use Rattle.std.proofs.Common.{◌≡◌, ℕ, ◌<◌, List, ◌++◌, Result, sym, ap, ◌∙◌, subst, ap₂, arith}
use mathlib.Core.Path.{subst⁻¹}
use Rattle.std.proofs.lemmas.List.{ext_get_or}
use Rattle.refusal.specs.declared.Refusal.{Refusal}
use Rattle.lattice.specs.declared.vector.Vector.{Vector}
use Rattle.lattice.specs.declared.board.Reading.{Reading}
use Rattle.lattice.specs.declared.verdict.Verdict.TheVariants as verdict
use Rattle.lattice.specs.Limits.{places}
use Rattle.lattice.specs.Order.{at, AtMost}
use Rattle.lattice.proofs.Heights.{same_vector}
use Rattle.jobfile.specs.declared.job.Job.{Job}
use Rattle.jobfile.specs.Forms.{Form, letter_of, size_of, encoded, WellFormed}
use Rattle.jobfile.specs.Jobs.{Held, Outcome, JobHolds}
use Rattle.jobfile.proofs.FileLaws.{one_job, not_broken, one_refusal}
use Rattle.report.specs.Lines.{text_of_refusal, first_line, place_lines, report_text, text_of_job, Placed}
use Rattle.report.specs.Earliest.{Solves, Earliest, shown_of, ReportOf, refused, found, none, Answered}
use Rattle.report.proofs.Subjects.{holds_solves, solves_holds}
use Rattle.report.proofs.Showing.{same_report}
use Rattle.report.proofs.Settling.{Settled, solved, unsolved}

-- vectors that are at or below each other are one
module _ (v w : Vector) (up : AtMost v w) (down : AtMost w v) where
  same_height : (i : ℕ) → i < places → at v i ≡ at w i
  same_height i l = omega (arith, up i l, down i l)

  below_both : v ≡ w
  below_both = same_vector v w (ext_get_or 0 v.heights w.heights (v.sized ∙ sym w.sized) (λ i l. same_height i (omega (arith, v.sized))))

-- the text of what is found
abbrev found_text : Form → Vector → List ℕ
found_text form v = first_line (letter_of form) verdict.Found ++ place_lines (shown_of form v) (size_of form)

one_found : (f g : Form) (v w : Vector) → f ≡ g → Earliest f v → Earliest g w → found_text f v ≡ found_text g w
one_found f g v w same first second =
    let also : Earliest f w = subst (λ form. Earliest form w) (sym same) second in
    ap₂ found_text same (below_both v w (first.least w also.solves) (also.least v first.solves))

pub one_report : (file a b : List ℕ) → ReportOf file a → ReportOf file b → a ≡ b
one_report file _ _ (refused r x) (refused q y) = ap text_of_refusal (one_refusal file r q x y)
one_report file _ _ (refused r x) (found g w good is earliest) = absurd (not_broken g file good is r x)
one_report file _ _ (refused r x) (none g good is never) = absurd (not_broken g file good is r x)
one_report file _ _ (found f v good is earliest) (refused q y) = absurd (not_broken f file good is q y)
one_report file _ _ (found f v good is earliest) (found g w also too second) = one_found f g v w (one_job f g good also (is ∙ sym too)) earliest second
one_report file _ _ (found f v good is earliest) (none g also too never) =
    absurd (never v (subst (λ form. Solves form v) (one_job f g good also (is ∙ sym too)) earliest.solves))
one_report file _ _ (none f good is never) (refused q y) = absurd (not_broken f file good is q y)
one_report file _ _ (none f good is never) (found g w also too second) =
    absurd (never w (subst (λ form. Solves form w) (one_job g f also good (too ∙ sym is)) second.solves))
one_report file _ _ (none f good is never) (none g also too too_none) = ap (λ form. first_line (letter_of form) verdict.None) (one_job f g good also (is ∙ sym too))

-- the text of a job on which the search has settled
module _ (file : List ℕ) (j : Job) (form : Form) (good : WellFormed form) (is : encoded form ≡ file) (held : Held j form) where
  earliest : (v : Vector) → JobHolds j v → ((w : Vector) → JobHolds j w → AtMost v w) → Earliest form v
  earliest v holds least = record { solves = holds_solves j form held v holds; least = λ w solves. least w (solves_holds j form held w solves) }

  pub reports : (r : Reading) → Settled (JobHolds j) r → ReportOf file (text_of_job j r)
  reports r (solved stands holds least) =
      subst⁻¹ (ReportOf file) (same_report j form held r.vector r.verdict ∙ ap (report_text (letter_of form) (size_of form) (shown_of form r.vector)) stands)
      (found form r.vector good is (earliest r.vector holds least))
  reports r (unsolved stands never) =
      subst⁻¹ (ReportOf file) (same_report j form held r.vector r.verdict ∙ ap (report_text (letter_of form) (size_of form) (shown_of form r.vector)) stands)
      (none form good is (λ w solves. never w (solves_holds j form held w solves)))

-- a file with a report is answered by it
pub answered : (file old text new : List ℕ) (r : Result ℕ Refusal) (read : Result (Unit {0}) Refusal) (j : Job) →
    ReportOf file text → Placed old text r new → Outcome file read j → Answered file old r new j
answered file old text new r read j reported placed outcome = record {
  text = text;
  reports = reported;
  only = λ other also. one_report file other text also reported;
  placed = placed;
  read = read;
  held = outcome;
}
