use Rattle.std.proofs.Common.{◌≡◌, length, Err, sym, refl, ◌∙◌, rules}
use Rattle.payload.specs.Marks.{width_of}
use Rattle.cuts.specs.declared.fault.JobFault.TheVariants.{Event as Refuses}
use Rattle.cuts.specs.Jobs.{padded, no_payload, refused}
use Rattle.cuts.proofs.Padding.{length-padded}
use Rattle.cuts.proofs.SameJob.{same_job}
use Rattle.cuts.proofs.job.TraceJob.push.Goals as goal

pub returns-then-part-width : goal.returns-then-part-width
returns-then-part-width c =
    let other : length c.args.part.now ≡ width_of c.args.self.now.wish → ⊥ = λ same. c.if-part-width.true (same ∙ sym c.width.ensures) in
    record {
      event = record { process = c.args.process; action = c.args.action; payload = padded c.args.part.now; four = length-padded c.args.part.now };
      is = record { process_is = refl; action_is = refl; payload_is = refl };
      outcome = (no_payload other, refl);
      exactly = λ same _. other same;
    }

pub returns : goal.returns
returns c =
    let e = c.in_ok-push.ensures in
    record {
      event = _;
      is = record { process_is = refl; action_is = refl; payload_is = c.in_four-payload.ensures };
      outcome = (c.if-part-width.false ∙ c.width.ensures, e.outcome.2, e.outcome.1, e.outcome.0, refl, refl, refl);
      exactly = λ _ _. tt;
    }

pub returns-in_err-push : goal.returns-in_err-push
returns-in_err-push c =
    let e = c.in_err-push.ensures in
    let is : c.from_residual.result ≡ Err (Refuses c.in_err-push.field-0.0) = search rules in
    rw is
    (record {
      event = _;
      is = record { process_is = refl; action_is = refl; payload_is = c.in_four-payload.ensures };
      outcome = (refused (c.if-part-width.false ∙ c.width.ensures) e.outcome.0, same_job _ c.args.self.now e.outcome.1 refl refl refl);
      exactly = λ _ valid. e.exactly valid;
    })
