use Rattle.std.proofs.Common.{sym, ap, ◌∙◌, arith, length-take}
use Rattle.std.proofs.lemmas.List.{take_all}
use Rattle.text.specs.Texts.{written, added}
use Rattle.text.proofs.Adding.{added_nothing, added_more}
use Rattle.text.proofs.text.Text.push_bytes.Goals as goal

pub loop-byte-init : goal.loop-byte-init
loop-byte-init c =
    let t = c.args.self.now in
    sym (added_nothing (written t) (omega (arith, length-take t.len t.bytes, t.within)))

pub loop-byte-preserved : goal.loop-byte-preserved
loop-byte-preserved c =
    added_more
    (written c.args.self.now)
    c.args.bytes.now
    (written c.loop-byte.self)
    (written c.push.new.self)
    c.loop-byte.byte-index
    c.loop-byte-test.true
    c.loop-byte.invariant
    c.push.ensures

pub returns : goal.returns
returns c =
    c.loop-byte.invariant
    ∙ ap (added (written c.args.self.now)) (take_all c.loop-byte.byte-index c.args.bytes.now c.loop-byte-test.false)
