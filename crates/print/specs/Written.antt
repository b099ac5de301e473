-- What is written in a line under construction.
use Rattle.std.specs.Prelude.{ℕ, List, Ok, Err, Result}
use Rattle.print.specs.declared.line.Line.{Line}
use Rattle.print.specs.declared.stop.LineStop.{LineStop}

abbrev pub written : Line → List ℕ
written l = l.bytes.items

-- The same if there is such a line.
abbrev pub written_if : Result Line LineStop → Result (List ℕ) LineStop
written_if (Ok line) = Ok (written line)
written_if (Err stop) = Err stop
