-- Jobs as they are held, what their conditions are, and what reading a file does. Assumes nothing.
use Rattle.std.specs.Prelude.{◌≡◌, ℕ, cond, ◌⊎◌, List, Result, MatchResult, ◌==◌, ◌≢◌}
use Rattle.refusal.specs.declared.Refusal.{Refusal}
use Rattle.lattice.specs.declared.vector.Vector.{Vector}
use Rattle.lattice.specs.declared.condition.Reply.{Reply}
use Rattle.lattice.specs.declared.condition.Reply.TheVariants.{Holds}
use Rattle.lattice.specs.Order.{at}
use Rattle.lattice.specs.Replies.{joined}
use Rattle.gates.specs.declared.gates.Gates.{Gates}
use Rattle.gates.specs.Gates.{sides}
use Rattle.gates.specs.Stable.{Stable}
use Rattle.gates.specs.Reply.{reply_to}
use Rattle.payload.specs.declared.wish.Wish.{Wish}
use Rattle.trace.specs.declared.event.Event.{Event}
use Rattle.cuts.specs.declared.channel.Channel.{Channel}
use Rattle.cuts.specs.declared.job.TraceJob.{TraceJob}
use Rattle.cuts.specs.Jobs as cuts
use Rattle.jobfile.specs.declared.job.Job.{Job}
use Rattle.wire.specs.Frames.{trace_letter, gates_letter}
use Rattle.jobfile.specs.Forms.{blank_letter, letter_by, Form, trace, gates, encoded, WellFormed}
use Rattle.jobfile.specs.Table.{Broken}
use Rattle.jobfile.specs.Fields.{Stand}

-- the letter of a job
abbrev pub letter_of_job : Job → ℕ
letter_of_job j = letter_by j.kind

-- how many places a job is about
abbrev pub places_of : Job → ℕ
places_of j = cond (letter_of_job j == trace_letter) (cuts.processes j.trace) (cond (letter_of_job j == gates_letter) (sides j.gates).n 0)

-- a blank job: neither trace nor gates
pub record Blank (j : Job) : Type 0 where
  pub letter : letter_of_job j ≡ blank_letter
  pub trace : cuts.Blank j.trace
  pub gates : (sides j.gates).n ≡ 0

-- a letter and a trace part say just what a form says
pub record HeldTrace (letter : ℕ) (t : TraceJob) (n watch : ℕ) (wish : Wish) (channels : List Channel) (events : List Event) : Type 0 where
  pub lettered : letter ≡ trace_letter
  pub count : cuts.processes t ≡ n
  pub watches : t.watch ≡ watch
  pub wishes : t.wish ≡ wish
  pub lists : cuts.listed t ≡ channels
  pub happened : cuts.happened t ≡ events

-- and so do a letter and a gates part
pub record HeldGates (letter : ℕ) (g : Gates) (n : ℕ) (vans gates : List (List ℕ)) : Type 0 where
  pub lettered : letter ≡ gates_letter
  pub count : (sides g).n ≡ n
  pub of_vans : Stand n vans g.vans
  pub of_gates : Stand n gates g.gates

abbrev pub HeldBy : ℕ → TraceJob → Gates → Form → Type 0
HeldBy letter t g (trace n watch wish channels events) = HeldTrace letter t n watch wish channels events
HeldBy letter t g (gates n vans rows) = HeldGates letter g n vans rows

-- the part that a form does not name is blank
abbrev pub RestBlank : TraceJob → Gates → Form → Type 0
RestBlank t g (trace n watch wish channels events) = (sides g).n ≡ 0
RestBlank t g (gates n vans rows) = cuts.Blank t

-- the job is just what the form says
abbrev pub Held : Job → Form → Type 0
Held j form = HeldBy (letter_of_job j) j.trace j.gates form × RestBlank j.trace j.gates form

-- the whole file was read, and the part that the letter does not name is as it was
pub record Whole (file : List ℕ) (letter : ℕ) (t t' : TraceJob) (g g' : Gates) : Type 0 where
  pub form : Form
  pub good : WellFormed form
  pub is : encoded form ≡ file
  pub held : HeldBy letter t' g' form
  pub same_trace : (letter ≢ trace_letter) → t' ≡ t
  pub same_gates : (letter ≢ gates_letter) → g' ≡ g

-- what a file does: it is taken whole, and the job is that of the file; or it is refused as the table says, and the job is blank
pub record Outcome (file : List ℕ) (r : Result (Unit {0}) Refusal) (j : Job) : Type 0 where
  pub outcome : MatchResult r (λ _. (form : Form) × (WellFormed form × (encoded form ≡ file) × Held j form)) (λ e. Blank j × Broken file e)
  -- the file of each well-formed job is taken, and gives that job
  pub taken : (form : Form) → WellFormed form → encoded form ≡ file → MatchResult r (λ _. Held j form) (λ _. ⊥)
  -- a file that is broken is refused, with that row and no other
  pub refused : (q : Refusal) → Broken file q → MatchResult r (λ _. ⊥) (λ e. e ≡ q)
  -- no file is that of two jobs
  pub one_job : (f g : Form) → WellFormed f → WellFormed g → encoded f ≡ encoded g → f ≡ g

-- a condition holds on every vector, and says so
abbrev pub Everywhere : (Vector → Type 0) → (Vector → Reply) → Type 0
Everywhere holds reply = (v : Vector) → holds v × (reply v ≡ Holds)

-- the condition of a trace job, and its reply
abbrev pub TraceHolds : TraceJob → Vector → Type 0
TraceHolds t v = cuts.Consistent t v × (cuts.Watched t v × cuts.Empty t v)

abbrev pub trace_reply : TraceJob → Vector → Reply
trace_reply t v = joined (cuts.consistent_reply t v) (joined (cuts.watched_reply t v) (cuts.channels_reply t v))

-- the job's own condition: those of its trace, and then its gates; the part that the letter does not name holds everywhere
abbrev pub JobHolds : Job → Vector → Type 0
JobHolds j v = TraceHolds j.trace v × Stable (sides j.gates) (at v)

abbrev pub job_reply : Job → Vector → Reply
job_reply j v = joined (trace_reply j.trace v) (reply_to (sides j.gates) (at v))

-- what the conditions of a job are, by its letter
pub record Serves (j : Job) : Type 0 where
  -- the letter is T, M or -, and a blank job has no places
  pub lettered : (letter_of_job j ≡ trace_letter) ⊎ ((letter_of_job j ≡ gates_letter) ⊎ (letter_of_job j ≡ blank_letter))
  pub no_places : letter_of_job j ≡ blank_letter → places_of j ≡ 0
  -- those of a trace hold everywhere unless the letter is T, and that of gates unless it is M
  pub no_trace : (letter_of_job j ≢ trace_letter) → Everywhere (cuts.Consistent j.trace) (cuts.consistent_reply j.trace) × (Everywhere (cuts.Watched j.trace) (cuts.watched_reply j.trace) × Everywhere (cuts.Empty j.trace) (cuts.channels_reply j.trace))
  pub no_gates : (letter_of_job j ≢ gates_letter) → Everywhere (λ v. Stable (sides j.gates) (at v)) (λ v. reply_to (sides j.gates) (at v))
  -- so the job's own condition is that of its kind
  pub of_trace : letter_of_job j ≡ trace_letter → (v : Vector) → (job_reply j v ≡ trace_reply j.trace v) × ((JobHolds j v → TraceHolds j.trace v) × (TraceHolds j.trace v → JobHolds j v))
  pub of_gates : letter_of_job j ≡ gates_letter → (v : Vector) → (job_reply j v ≡ reply_to (sides j.gates) (at v)) × ((JobHolds j v → Stable (sides j.gates) (at v)) × (Stable (sides j.gates) (at v) → JobHolds j v))
  pub of_blank : letter_of_job j ≡ blank_letter → Everywhere (JobHolds j) (job_reply j)
