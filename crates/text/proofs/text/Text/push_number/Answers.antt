use Rattle.std.proofs.Common.{ℕ, ◌+◌, ◌-◌, ◌/◌, ◌%◌, ◌^◌, ◌<◌, List, set, sym, ap, ◌∙◌, arith, length-set}
use Rattle.std.proofs.lemmas.Slice.{between_to_end}
use Rattle.text.specs.Texts.{written, added}
use Rattle.text.proofs.Digits.{room_more, room_some, digit_more, digit_all}
use Rattle.text.proofs.text.Text.push_number.Goals as goal

pub loop-rest-preserved : goal.loop-rest-preserved
loop-rest-preserved c =
    let rest = c.loop-rest.rest in
    let start = c.loop-rest.start in
    let digits = c.loop-rest.digits in
    let inv = c.loop-rest.invariant in
    let room : rest / 10 < 10 ^ (start - 1) = room_more start rest inv.1 inv.4 in (
      length-set digits _ _ ∙ inv.0,
      room_some (start - 1) (rest / 10) room c.if-rest-eq0.false,
      omega arith,
      omega arith,
      room,
      inv.5 ∙ digit_more rest start digits (omega arith) (omega arith) inv.1 (omega arith),
    )

pub returns : goal.returns
returns c =
    let rest = c.loop-rest.rest in
    let start = c.loop-rest.start in
    let digits = c.loop-rest.digits in
    let inv = c.loop-rest.invariant in
    let made : List ℕ = set digits (start - 1) (48 + rest % 10) in
    let all = inv.5 ∙ digit_all rest start digits (omega arith) inv.1 (omega arith) in
    let part = between_to_end made (start - 1) 20 (omega (arith, length-set digits (start - 1) (48 + rest % 10))) in
    c.push_bytes.ensures ∙ ap (added (written c.args.self.now)) (part ∙ sym all)
