use Rattle.std.proofs.Common.{refl, ap, ◌∙◌, arith}
use Rattle.jobfile.proofs.Bodies.{anew}
use Rattle.jobfile.proofs.job.Job.clear.Goals as goal
use Rattle.jobfile.proofs.job.Job.clear.Goals.{then-count-gt0, else-count-gt0}

pub invariant_of-self : goal.invariant_of-self
invariant_of-self c =
    let a = anew _ _ _ _ _ c.begin.result (omega arith) (omega arith) c.begin.ensures in
    record {
      no_trace = λ _. a.count;
      no_gates = λ _. elim c.if-count-gt0.branch [
        | then-count-gt0 w ↦ ap (λ s. s.1.1.1.0.count) w.self-is ∙ w.none-self.ensures.count
        | else-count-gt0 w ↦ ap (λ s. s.1.1.1.0.count) w.self-is ∙ omega (arith, c.count.ensures, w.if-count-gt0.false)
      ];
    }

pub returns : goal.returns
returns c =
    let a = anew _ _ _ _ _ c.begin.result (omega arith) (omega arith) c.begin.ensures in
    record {
      letter = refl;
      trace = record { wish = a.wishes; watch = a.watches; processes = a.count; events = a.events; channels = a.channels };
      gates = elim c.if-count-gt0.branch [
        | then-count-gt0 w ↦ ap (λ s. s.1.1.1.0.count) w.self-is ∙ w.none-self.ensures.count
        | else-count-gt0 w ↦ ap (λ s. s.1.1.1.0.count) w.self-is ∙ omega (arith, c.count.ensures, w.if-count-gt0.false)
      ];
    }
