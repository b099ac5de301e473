use Rattle.std.proofs.Common.{◌≡◌, ◌*◌, ◌^◌, ◌<◌, drop}
use Rattle.std.specs.List.{fold}
use Rattle.trace.specs.Lines.{and_digit, word_value}
use Rattle.trace.proofs.lines.read_word.Given as goal

-- the value so far goes on to the word's
abbrev pub invariant-loop-byte : goal.invariant-loop-byte
invariant-loop-byte l = (fold and_digit l.value (drop l.byte-index l.digits) ≡ word_value l.digits) × (l.value < 2 ^ (4 * l.byte-index))
