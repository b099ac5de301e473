use Rattle.std.proofs.Common.{◌≡◌, ◌+◌, drop}
use Rattle.trace.proofs.Cuts.{until}
use Rattle.trace.proofs.lines.cut_line.Given as goal

abbrev pub invariant-loop-i : goal.invariant-loop-i
invariant-loop-i l = until 10 l.bytes ≡ l.i + until 10 (drop l.i l.bytes)
