use Rattle.std.proofs.Common.{take, sym, arith, length-take}
use Rattle.text.proofs.Adding.{added_next, added_full}
use Rattle.text.proofs.text.Text.push.Goals as goal

pub returns-then-self-lt-LONGEST : goal.returns-then-self-lt-LONGEST
returns-then-self-lt-LONGEST c =
    added_next c.args.self.now.bytes c.args.self.now.len c.args.byte c.args.self.now.sized c.if-self-lt-LONGEST.true

pub returns-else-self-lt-LONGEST : goal.returns-else-self-lt-LONGEST
returns-else-self-lt-LONGEST c =
    let t = c.args.self.now in
    sym (added_full (take t.len t.bytes) _ (omega (arith, length-take t.len t.bytes, t.sized, t.within)))
