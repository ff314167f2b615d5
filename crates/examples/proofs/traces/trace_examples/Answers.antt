use Rattle.examples.proofs.Sampling.{sampled}
use Rattle.examples.proofs.traces.trace_examples.Goals as goal

pub returns : goal.returns
returns c = sampled
