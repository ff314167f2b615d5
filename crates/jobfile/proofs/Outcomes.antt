-- What reading a file does, from the job of the whole file or from what is broken. Assumes nothing.
use Rattle.std.proofs.Common.{◌≡◌, ℕ, List, Ok, Err, sym, ap, ◌∙◌, subst, arith}
use Rattle.gates.specs.declared.gates.Gates.{Gates}
use Rattle.gates.specs.Gates.{sides}
use Rattle.cuts.specs.declared.job.TraceJob.{TraceJob}
use Rattle.cuts.specs.Jobs as cuts
use Rattle.refusal.specs.declared.Refusal.{Refusal}
use Rattle.jobfile.specs.declared.job.Job.{Job}
use Rattle.jobfile.specs.Forms.{Form, trace, gates, encoded, WellFormed}
use Rattle.jobfile.specs.Table.{Broken}
use Rattle.jobfile.specs.Jobs.{Blank, HeldBy, RestBlank, Held, Outcome}
use Rattle.jobfile.proofs.FileLaws.{one_job, not_broken, one_refusal}

-- the part that the letter does not name was blank and is as it was
pub rest_blank : (letter : ℕ) (t t' : TraceJob) (g g' : Gates) (form : Form) → HeldBy letter t' g' form → ((letter ≡ 84 → ⊥) → t' ≡ t) → ((letter ≡ 77 → ⊥) → g' ≡ g) → cuts.Blank t → (sides g).n ≡ 0 → RestBlank t' g' form
rest_blank letter t t' g g' (trace n watch wish channels events) held same_trace same_gates no_trace no_gates =
    ap (λ m. (sides m).n) (same_gates (λ is. omega (arith, held.lettered))) ∙ no_gates
rest_blank letter t t' g g' (gates n vans rows) held same_trace same_gates no_trace no_gates =
    subst cuts.Blank (sym (same_trace (λ is. omega (arith, held.lettered)))) no_trace

pub taken_outcome : (file : List ℕ) (j : Job) (form : Form) → WellFormed form → encoded form ≡ file → Held j form → Outcome file (Ok tt) j
taken_outcome file j form good is held = record {
  outcome = (form, (good, is, held));
  taken = λ f also e. subst (Held j) (one_job form f good also (is ∙ sym e)) held;
  refused = λ q b. not_broken form file good is q b;
  one_job = one_job;
}

pub refused_outcome : (file : List ℕ) (j : Job) (r : Refusal) → Blank j → Broken file r → Outcome file (Err r) j
refused_outcome file j r blank b = record {
  outcome = (blank, b);
  taken = λ f good e. not_broken f file good e r b;
  refused = λ q also. one_refusal file r q b also;
  one_job = one_job;
}
