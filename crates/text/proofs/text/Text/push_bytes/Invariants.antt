use Rattle.std.proofs.Common.{◌≡◌, take}
use Rattle.text.specs.Texts.{written, added}
use Rattle.text.proofs.text.Text.push_bytes.Given as goal

abbrev pub invariant-loop-byte : goal.invariant-loop-byte
invariant-loop-byte l = written l.self ≡ added (written l.initial.self) (take l.byte-index l.bytes)
