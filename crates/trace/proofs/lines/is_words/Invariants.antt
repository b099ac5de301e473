use Rattle.std.proofs.Common.{◌≡◌, ◌≤◌, drop}
use Rattle.trace.specs.Lines.{is_words_line}
use Rattle.trace.proofs.Pieces.{goes_on}
use Rattle.trace.proofs.lines.is_words.Given as goal

-- what is left tells
abbrev pub invariant-loop-byte : goal.invariant-loop-byte
invariant-loop-byte l = (goes_on l.digits (drop l.byte-index l.line) ≡ is_words_line l.line) × (l.digits ≤ l.byte-index)
