use Rattle.std.proofs.Common.{get_or, ap, refl, rules}
use Rattle.std.proofs.Math.Seq.{map-set_same}
use Rattle.trace.proofs.Tables.{noted}
use Rattle.trace.proofs.trace.calls.note.Goals as goal

pub returns-in-Send-clause-sent : goal.returns-in-Send-clause-sent
returns-in-Send-clause-sent c = λ m. rw c.in-Send.is (noted (λ x. x.sent) c.args.messages.now c.in-Send.message _ (search rules) m)

pub returns-in-Send-clause-received : goal.returns-in-Send-clause-received
returns-in-Send-clause-received c = λ m. rw c.in-Send.is (ap (λ xs. get_or xs m 0) (map-set_same (λ x. x.received) c.args.messages.now c.in-Send.message _ _ refl))

pub returns-in-Receive-clause-sent : goal.returns-in-Receive-clause-sent
returns-in-Receive-clause-sent c = λ m. rw c.in-Receive.is (ap (λ xs. get_or xs m 0) (map-set_same (λ x. x.sent) c.args.messages.now c.in-Receive.message _ _ refl))

pub returns-in-Receive-clause-received : goal.returns-in-Receive-clause-received
returns-in-Receive-clause-received c = λ m. rw c.in-Receive.is (noted (λ x. x.received) c.args.messages.now c.in-Receive.message _ (search rules) m)
