-- A job has few places, so that its report is short. Assumes nothing.
use Rattle.std.proofs.Common.{◌≤◌, arith}
use Rattle.std.proofs.lemmas.Bool.Decides.{nat_tests}
use Rattle.jobfile.specs.declared.job.Job.{Job}
use Rattle.jobfile.specs.Jobs.{places_of}

pub places_few : (j : Job) → places_of j ≤ 16
places_few j =
    let t = j.trace.trace.few in
    let g = j.gates.few in
    grind (arith, nat_tests)
