use Rattle.std.proofs.Common.{◌≡◌, ◌+◌, ◌*◌, ◌≤◌, ◌++◌}
use Rattle.arrayvec.specs.ArrayString.{array_string_len}
use Rattle.report.specs.Lines.{place_lines, shown_by}
use Rattle.report.proofs.lines.Places.push_lines.Given as goal

abbrev pub invariant-loop-place : goal.invariant-loop-place
invariant-loop-place l =
    (l.text.bytes ≡ l.initial.text.bytes ++ place_lines (shown_by l.self.job.now l.self.vector.now) l.place)
    × (array_string_len l.text ≤ array_string_len l.initial.text + 25 * l.place)
