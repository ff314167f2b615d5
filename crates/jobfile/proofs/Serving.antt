-- What the conditions of a job are, by its letter. Assumes nothing.
use Rattle.std.proofs.Common.{◌≡◌, ◌⊎◌, Option, None, Some, refl, ap, ◌∙◌, inl, inr, arith}
use Rattle.lattice.specs.declared.vector.Vector.{Vector}
use Rattle.lattice.specs.declared.condition.Reply.{Reply}
use Rattle.lattice.specs.declared.condition.Reply.TheVariants.{Holds, Lift, Never}
use Rattle.lattice.specs.Order.{at}
use Rattle.lattice.specs.Laws.{Lawful}
use Rattle.lattice.specs.Replies.{joined}
use Rattle.gates.specs.declared.gates.Gates.{Gates}
use Rattle.gates.specs.Gates.{sides}
use Rattle.gates.specs.Stable.{Stable}
use Rattle.gates.specs.Reply.{reply_to}
use Rattle.gates.specs.Lawfulness.{laws}
use Rattle.trace.proofs.Known.{clock_knows}
use Rattle.trace.proofs.Traces.{valid}
use Rattle.cuts.specs.declared.job.TraceJob.{TraceJob}
use Rattle.cuts.specs.Jobs as cuts
use Rattle.cuts.specs.Closed.{consistent_lawful, consistent_blank}
use Rattle.cuts.specs.Watching.{watched_lawful, watched_blank}
use Rattle.cuts.specs.Emptied.{channels_lawful, channels_blank}
use Rattle.wire.specs.declared.frame.JobKind.{JobKind}
use Rattle.wire.specs.declared.frame.JobKind.TheVariants as kind
use Rattle.wire.specs.Frames.{trace_letter, gates_letter}
use Rattle.jobfile.specs.declared.job.Job.{Job}
use Rattle.jobfile.specs.Forms.{blank_letter, letter_by}
use Rattle.jobfile.specs.Jobs.{letter_of_job, Everywhere, trace_reply, Serves}

-- a lawful condition whose reply is always "holds"
everywhere : {holds : Vector → Type 0} {reply : Vector → Reply} → Lawful holds reply → ((v : Vector) → reply v ≡ Holds) → Everywhere holds reply
everywhere lawful says v = (lawful.holds_then v (says v), says v)

-- the conditions of a trace without processes
pub trace_everywhere : (t : TraceJob) → cuts.processes t ≡ 0 →
    Everywhere (cuts.Consistent t) (cuts.consistent_reply t) × (Everywhere (cuts.Watched t) (cuts.watched_reply t) × Everywhere (cuts.Empty t) (cuts.channels_reply t))
trace_everywhere t none =
    let n = cuts.processes t in
    let es = cuts.happened t in
    let cs = cuts.listed t in
    let few = t.trace.few in (
      everywhere (consistent_lawful n es (valid t.trace) few (clock_knows n es (valid t.trace) few)) (λ v. consistent_blank n es (at v) none),
      (
        everywhere (watched_lawful n es t.wish t.watch few) (λ v. watched_blank n es t.wish t.watch (at v) none),
        everywhere (channels_lawful n es cs t.senders t.receivers few) (λ v. channels_blank n es cs t.senders t.receivers none (at v)),
      ),
    )

-- that of gates without vans
pub gates_everywhere : (g : Gates) → (sides g).n ≡ 0 → Everywhere (λ v. Stable (sides g) (at v)) (λ v. reply_to (sides g) (at v))
gates_everywhere g none v = (laws g).blank none v

-- a pair whose second member holds replies as the first
joined_first : (r : Reply) → joined r Holds ≡ r
joined_first Holds = refl
joined_first (Lift l) = refl
joined_first Never = refl

trace_holds : (t : TraceJob) → cuts.processes t ≡ 0 → (v : Vector) → trace_reply t v ≡ Holds
trace_holds t none v =
    let (consistent, (watched, channels)) = trace_everywhere t none in
    λ i. joined ((consistent v).1 i) (joined ((watched v).1 i) ((channels v).1 i))

-- the letters of jobs
lettered : (kind : Option JobKind) → (letter_by kind ≡ trace_letter) ⊎ ((letter_by kind ≡ gates_letter) ⊎ (letter_by kind ≡ blank_letter))
lettered (Some (kind.Trace)) = inl refl
lettered (Some (kind.Gates)) = inr (inl refl)
lettered None = inr (inr refl)

pub serves : (j : Job) → Serves j
serves j =
    let no_trace : (letter_of_job j ≡ trace_letter → ⊥) → cuts.processes j.trace ≡ 0 = λ other. j.no_trace (λ is. other (ap letter_by is)) in
    let no_gates : (letter_of_job j ≡ gates_letter → ⊥) → (sides j.gates).n ≡ 0 = λ other. j.no_gates (λ is. other (ap letter_by is)) in
    record {
      lettered = lettered j.kind;
      no_places = λ is. rw is refl;
      no_trace = λ other. trace_everywhere j.trace (no_trace other);
      no_gates = λ other. gates_everywhere j.gates (no_gates other);
      of_trace = λ is v.
          let (stable, says) = gates_everywhere j.gates (no_gates (λ other. omega arith)) v in
          (ap (joined (trace_reply j.trace v)) says ∙ joined_first (trace_reply j.trace v), ((λ both. both.0), λ of_trace. (of_trace, stable)));
      of_gates = λ is v.
          let none = no_trace (λ other. omega arith) in
          let (consistent, (watched, channels)) = trace_everywhere j.trace none in
          (ap (λ r. joined r (reply_to (sides j.gates) (at v))) (trace_holds j.trace none v), ((λ both. both.1), λ stable. (((consistent v).0, ((watched v).0, (channels v).0)), stable)));
      of_blank = λ is v.
          let none = no_trace (λ other. omega arith) in
          let (consistent, (watched, channels)) = trace_everywhere j.trace none in
          let (stable, says) = gates_everywhere j.gates (no_gates (λ other. omega arith)) v in
          ((((consistent v).0, ((watched v).0, (channels v).0)), stable), λ i. joined (trace_holds j.trace none v i) (says i));
    }
