use Rattle.std.proofs.Common.{◌≡◌, ◌+◌, ◌≤◌, length}
use Rattle.survey.specs.Views.{gathered, nothing_offered}
use Rattle.trace.specs.Reading.{lines_left}
use Rattle.treeprint.proofs.printing.print_trace.Given as goal

-- The resets so far and the lines that are left are no more than the bytes, and the gathering is empty.
abbrev pub invariant-loop-reader : goal.invariant-loop-reader
invariant-loop-reader g l = (l.reset + length (lines_left l.reader) ≤ length l.trace) × (gathered l.gathering ≡ nothing_offered)

abbrev pub decreases-loop-reader : goal.decreases-loop-reader
decreases-loop-reader g l = length (lines_left l.reader)
