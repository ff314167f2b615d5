use Rattle.jobfile.proofs.Serving.{serves}
use Rattle.jobfile.proofs.job.Job.laws.Goals as goal

pub returns : goal.returns
returns c = serves c.args.self.now
