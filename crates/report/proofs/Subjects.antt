-- The condition of a job holds exactly on the vectors that its form asks for. Assumes nothing.
use Rattle.std.proofs.Common.{◌≡◌, ℕ, ◌<◌, eqb, List, sym, ap, ◌∙◌, subst₂, arith}
use mathlib.Core.Path.{transport}
use Rattle.lattice.specs.declared.vector.Vector.{Vector}
use Rattle.lattice.specs.Order.{at}
use Rattle.lattice.specs.First.{Least}
use Rattle.lattice.proofs.First.{first_least, first_is}
use Rattle.gates.specs.declared.gates.Gates.{Gates}
use Rattle.gates.specs.Orders.{number_at, position}
use Rattle.gates.specs.Stable.{Stable}
use Rattle.gates.specs.Gates.{sides}
use Rattle.payload.specs.declared.wish.Wish.{Wish}
use Rattle.trace.specs.declared.event.Event.{Event}
use Rattle.cuts.specs.declared.channel.Channel.{Channel}
use Rattle.cuts.specs.declared.job.TraceJob.{TraceJob}
use Rattle.cuts.specs.Consistent.{Consistent}
use Rattle.cuts.specs.Watched.{Watched}
use Rattle.cuts.specs.Channels.{Channels}
use Rattle.jobfile.specs.declared.job.Job.{Job}
use Rattle.jobfile.specs.Forms.{Form, trace, gates}
use Rattle.jobfile.specs.Jobs.{HeldTrace, HeldGates, Held, TraceHolds, JobHolds}
use Rattle.jobfile.proofs.Serving.{serves}
use Rattle.report.specs.Earliest.{Solves}

-- two orders that agree below n give each number the same position
module _ (n : ℕ) (order other : ℕ → ℕ) (agree : (p : ℕ) → p < n → order p ≡ other p) where
  pub same_position : (x : ℕ) → position n order x ≡ position n other x
  same_position x =
      let there : Least (λ p. eqb (other p) x) 0 n (position n other x) = first_least (λ p. eqb (other p) x) 0 n (omega arith) in
      first_is (λ p. eqb (order p) x) 0 n (position n other x) (record {
        low = there.low;
        high = there.high;
        passes = λ h. ap (λ y. eqb y x) (agree (position n other x) h) ∙ there.passes h;
        before = λ k l h. ap (λ y. eqb y x) (agree k (omega (arith, there.high))) ∙ there.before k l h;
      })

-- a table agrees with another below n
abbrev pub Agrees : ℕ → (ℕ → ℕ → ℕ) → (ℕ → ℕ → ℕ) → Type 0
Agrees n table other = (i p : ℕ) → i < n → p < n → table i p ≡ other i p

-- so a placing is stable for the one if it is for the other
module _ (n : ℕ) (van van' gate gate' : ℕ → ℕ → ℕ) (vans : Agrees n van van') (gates : Agrees n gate gate') (h : ℕ → ℕ) where
  pub stable_too : Stable (record { n = n; van = van; gate = gate }) h → Stable (record { n = n; van = van'; gate = gate' }) h
  stable_too stable =
      let taken : (i : ℕ) → i < n → van i (h i) ≡ van' i (h i) = λ i l. vans i (h i) l (stable.placed i l) in
      let van_same : (i x : ℕ) → i < n → position n (van i) x ≡ position n (van' i) x = λ i x l. same_position n (van i) (van' i) (λ p lp. vans i p l lp) x in
      let gate_same : (g x : ℕ) → g < n → position n (gate g) x ≡ position n (gate' g) x = λ g x l. same_position n (gate g) (gate' g) (λ p lp. gates g p l lp) x in
      record {
        placed = stable.placed;
        apart = λ i k li lk same. stable.apart i k li lk (taken i li ∙ same ∙ sym (taken k lk));
        content = λ i g li lg likes wants. stable.content i g li lg
            (subst₂ (λ (a : ℕ) (b : ℕ). a < b) (sym (van_same i g li)) (sym (van_same i (van i (h i)) li ∙ ap (position n (van' i)) (taken i li))) likes)
            (λ k lk has. subst₂ (λ (a : ℕ) (b : ℕ). a < b) (sym (gate_same g i lg)) (sym (gate_same g k lg)) (wants k lk (sym (taken k lk) ∙ has)));
      }

-- a trace part that says just what a form says
module _ {letter : ℕ} {t : TraceJob} {n watch : ℕ} {wish : Wish} {channels : List Channel} {events : List Event} (held : HeldTrace letter t n watch wish channels events) (v : Vector) where
  trace_same : TraceHolds t v ≡ (Consistent n events (at v) × (Watched n events wish watch (at v) × Channels n events channels (at v)))
  trace_same = λ i.
      Consistent (held.count i) (held.happened i) (at v)
      × (Watched (held.count i) (held.happened i) (held.wishes i) (held.watches i) (at v) × Channels (held.count i) (held.happened i) (held.lists i) (at v))

-- and a gates part
module _ {letter : ℕ} {g : Gates} {n : ℕ} {vans rows : List (List ℕ)} (held : HeldGates letter g n vans rows) (h : ℕ → ℕ) where
  counted : Stable (sides g) h ≡ Stable (record { n = n; van = (sides g).van; gate = (sides g).gate }) h
  counted = λ i. Stable (record { n = held.count i; van = (sides g).van; gate = (sides g).gate }) h

  gates_solve : Stable (sides g) h → Stable (record { n = n; van = number_at vans; gate = number_at rows }) h
  gates_solve stable = stable_too n (sides g).van (number_at vans) (sides g).gate (number_at rows) held.of_vans held.of_gates h (transport counted stable)

  gates_hold : Stable (record { n = n; van = number_at vans; gate = number_at rows }) h → Stable (sides g) h
  gates_hold stable =
      transport (sym counted)
      (stable_too n (number_at vans) (sides g).van (number_at rows) (sides g).gate
      (λ i p li lp. sym (held.of_vans i p li lp)) (λ i p li lp. sym (held.of_gates i p li lp)) h stable)

pub holds_solves : (j : Job) (form : Form) → Held j form → (v : Vector) → JobHolds j v → Solves form v
holds_solves j (trace n watch wish channels events) (held, _) v holds = transport (trace_same held v) (((serves j).of_trace held.lettered v).1.0 holds)
holds_solves j (gates n vans rows) (held, _) v holds = gates_solve held (at v) (((serves j).of_gates held.lettered v).1.0 holds)

pub solves_holds : (j : Job) (form : Form) → Held j form → (v : Vector) → Solves form v → JobHolds j v
solves_holds j (trace n watch wish channels events) (held, _) v solves = ((serves j).of_trace held.lettered v).1.1 (transport (sym (trace_same held v)) solves)
solves_holds j (gates n vans rows) (held, _) v solves = ((serves j).of_gates held.lettered v).1.1 (gates_hold held (at v) solves)
