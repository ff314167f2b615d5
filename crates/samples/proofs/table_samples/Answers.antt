use Rattle.samples.proofs.Tabled.{rows_stand}
use Rattle.samples.proofs.Sampling.{sample_stands}
use Rattle.samples.proofs.table_samples.Goals as goal

pub returns : goal.returns
returns c = record { rows = rows_stand; sample = sample_stands }
