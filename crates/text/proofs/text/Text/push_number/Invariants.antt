use Rattle.std.proofs.Common.{◌≡◌, ◌^◌, ◌<◌, ◌≤◌, ◌++◌, length, drop, decimal}
use Rattle.text.proofs.text.Text.push_number.Given as goal

abbrev pub invariant-loop-rest : goal.invariant-loop-rest
invariant-loop-rest l =
    (length l.digits ≡ 20) × (0 < l.start) × (l.start ≤ 20) × (l.rest ≤ l.number) × (l.rest < 10 ^ l.start)
    × (decimal l.number ≡ decimal l.rest ++ drop l.start l.digits)

abbrev pub decreases-loop-rest : goal.decreases-loop-rest
decreases-loop-rest l = l.start
