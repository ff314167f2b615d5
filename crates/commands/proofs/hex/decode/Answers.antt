use Rattle.std.proofs.Common.{◌≡◌, ◌+◌, ◌*◌, ◌/◌, ◌<◌, min, length, sym, ap, ◌∙◌, arith}
use Rattle.std.proofs.lemmas.Bool.{both_ways, eqb-false, eqb-true}
use Rattle.commands.proofs.Spelling.{spells_length, spells_hex, high_at, low_at, put, no_room, decoded}
use Rattle.commands.proofs.hex.decode.Goals as goal
use Rattle.commands.proofs.hex.decode.Goals.{then-i-memory, else-i-memory}

pub returns-then-not-is_empty : goal.returns-then-not-is_empty
returns-then-not-is_empty c bytes s =
    let some = eqb-false (length c.as_chunks.result.1.now) 0 (sym c.is_empty.ensures ∙ c.if-not-is_empty.true) in
    omega (arith, spells_length s, some, c.as_chunks.ensures.back_len)

pub returns-in_err-digit : goal.returns-in_err-digit
returns-in_err-digit c =
    let inside : c.loop-i.i < length c.args.word.now / 2 = omega arith in
    rw c.from_residual.ensures λ bytes s. both_ways _ (rw (high_at c.args.word.now c.as_chunks.ensures.front inside) at c.in_err-digit.ensures) (spells_hex s (2 * c.loop-i.i) (omega arith))

pub returns-in_err-byte : goal.returns-in_err-byte
returns-in_err-byte c =
    let inside : c.loop-i.i < length c.args.word.now / 2 = omega arith in
    rw c.from_residual-in_err-byte.ensures λ bytes s. both_ways _ (rw (low_at c.args.word.now c.as_chunks.ensures.front inside) at c.in_err-byte.ensures) (spells_hex s (2 * c.loop-i.i + 1) (omega arith))

pub loop-i-preserved : goal.loop-i-preserved
loop-i-preserved c =
    let inside : c.loop-i.i < length c.args.word.now / 2 = omega arith in
    let high = rw (high_at c.args.word.now c.as_chunks.ensures.front inside) at c.in_ok-digit.ensures in
    let low = rw (low_at c.args.word.now c.as_chunks.ensures.front inside) at c.in_ok-byte.ensures in
    elim c.if-i-memory.branch [
      | then-i-memory w ↦ put c.loop-i.invariant high.0 low.0 w.if-i-memory.true (λ i. high.1 i * 16 + low.1 i) w.memory-is
      | else-i-memory w ↦ no_room c.loop-i.invariant high.0 low.0 w.if-i-memory.false w.memory-is
    ]

pub returns : goal.returns
returns c =
    let none = eqb-true (length c.as_chunks.result.1.now) 0 (sym c.is_empty.ensures ∙ c.if-not-is_empty.false) in
    let all : length c.as_chunks.result.0.now ≡ c.loop-i.i = omega arith in
    decoded c.args.word.now c.loop-i.i c.min.result c.loop-i.memory (omega (arith, none, c.as_chunks.ensures.back_len))
    (c.min.ensures ∙ ap (λ i. min i (length c.loop-i.memory)) all) c.loop-i.invariant
