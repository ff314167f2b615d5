-- What a file asks for, and the report that answers it. Assumes nothing.
use Rattle.std.specs.Prelude.{◌≡◌, ℕ, List, ◌++◌, decimal, Result}
use Rattle.refusal.specs.declared.Refusal.{Refusal}
use Rattle.lattice.specs.declared.vector.Vector.{Vector}
use Rattle.lattice.specs.declared.verdict.Verdict.TheVariants.{Found, None}
use Rattle.lattice.specs.Order.{at, AtMost}
use Rattle.gates.specs.Orders.{number_at}
use Rattle.gates.specs.Stable.{Stable}
use Rattle.cuts.specs.Consistent.{Consistent}
use Rattle.cuts.specs.Watched.{Watched}
use Rattle.cuts.specs.Channels.{Channels}
use Rattle.jobfile.specs.declared.job.Job.{Job}
use Rattle.jobfile.specs.Forms.{Form, trace, gates, letter_of, size_of, encoded, WellFormed}
use Rattle.jobfile.specs.Table.{Broken}
use Rattle.jobfile.specs.Jobs.{Outcome}
use Rattle.report.specs.Lines.{text_of_refusal, first_line, place_lines, gate_shown, Placed}

-- what a job asks for: a consistent cut in which every watched process is in a wanted state and the listed channels are empty;
-- or a placing of the vans that is stable
abbrev pub Solves : Form → Vector → Type 0
Solves (trace n watch wish channels events) v = Consistent n events (at v) × (Watched n events wish watch (at v) × Channels n events channels (at v))
Solves (gates n vans sides) v = Stable (record { n = n; van = number_at vans; gate = number_at sides }) (at v)

-- the earliest such vector: it is at or below every other
pub record Earliest (form : Form) (v : Vector) : Type 0 where
  pub solves : Solves form v
  pub least : (w : Vector) → Solves form w → AtMost v w

-- what is shown of a place: the height, or the gate of the van
abbrev pub shown_of : Form → Vector → ℕ → List ℕ
shown_of (trace n watch wish channels events) v i = decimal (at v i)
shown_of (gates n vans sides) v i = gate_shown n (number_at vans i) (at v i)

-- the report of a file: the line of its refusal; or that of the job whose file it is, with the earliest vector, or none where there is none
pub data ReportOf (file : List ℕ) : List ℕ → Type 0 where
  refused : (r : Refusal) → Broken file r → ReportOf file (text_of_refusal r)
  found : (form : Form) (v : Vector) → WellFormed form → encoded form ≡ file → Earliest form v → ReportOf file (first_line (letter_of form) Found ++ place_lines (shown_of form v) (size_of form))
  none : (form : Form) → WellFormed form → encoded form ≡ file → ((w : Vector) → Solves form w → ⊥) → ReportOf file (first_line (letter_of form) None)

-- a file is answered by its report, which there is just one of; the job is that of the file, or blank
pub record Answered (file old : List ℕ) (r : Result ℕ Refusal) (new : List ℕ) (j : Job) : Type 0 where
  pub text : List ℕ
  pub reports : ReportOf file text
  pub only : (other : List ℕ) → ReportOf file other → other ≡ text
  pub placed : Placed old text r new
  pub read : Result (Unit {0}) Refusal
  pub held : Outcome file read j
