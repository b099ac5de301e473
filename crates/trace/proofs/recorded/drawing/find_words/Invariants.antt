use Rattle.std.proofs.Common.{◌≡◌}
use Rattle.trace.proofs.Passing.{SameRun}
use Rattle.trace.proofs.recorded.drawing.find_words.Given as goal

abbrev pub invariant-loop-line : goal.invariant-loop-line
invariant-loop-line l = (l.ahead ≡ l.reader) × SameRun l.reader l.initial.reader
