use Rattle.std.proofs.Common.{sym, ap, ◌∙◌}
use Rattle.text.specs.Texts.{written, added}
use Rattle.lattice.specs.Words.{reply_words}
use Rattle.replay.proofs.Pushed.{four}
use Rattle.replay.proofs.answers.push_reply.Goals as goal

pub returns-in-Lift : goal.returns-in-Lift
returns-in-Lift c =
    four _ _ _ _ _ c.push_bytes-in-Lift.ensures c.push_number.ensures c.push.ensures c.push_number-in-Lift.ensures
    ∙ ap (λ r. added (written c.args.text.now) (reply_words r)) (sym c.in-Lift.is)
