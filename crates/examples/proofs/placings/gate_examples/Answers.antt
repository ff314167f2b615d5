use Rattle.examples.proofs.Worked.{alike_stands, apart_stands}
use Rattle.examples.proofs.placings.gate_examples.Goals as goal

pub returns : goal.returns
returns c = record { alike = alike_stands; apart = apart_stands }
