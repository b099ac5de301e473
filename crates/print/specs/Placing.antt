-- How a line is placed in a buffer.
use Rattle.std.specs.Prelude.{ℕ, cond, List, ◌++◌, length, drop, Ok, Err, Result, nat_le, IsOk}
use Rattle.print.specs.declared.stop.LineStop.{LineStop}
use Rattle.print.specs.declared.stop.LineStop.TheVariants.{TooShort}

-- The line at the front of the buffer and the rest of the buffer as it was, or all of it as it was where the line does not fit.
abbrev pub placed : (line buffer : List ℕ) → List ℕ
placed line buffer = cond (nat_le (length line) (length buffer)) (line ++ drop (length line) buffer) buffer

-- The length of the line, or that the buffer is too short for it.
abbrev pub answer : (line buffer : List ℕ) → Result ℕ LineStop
answer line buffer = cond (nat_le (length line) (length buffer)) (Ok (length line)) (Err TooShort)

-- A line was written.
abbrev pub IsWritten : Result ℕ LineStop → Type 0
IsWritten answered = IsOk answered
