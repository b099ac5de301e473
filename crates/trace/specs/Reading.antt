-- What a reader has left, and what it tells of the next line.
use Rattle.std.specs.Prelude.{◌≡◌, ℕ, ◌+◌, Bool, true, false, cond, List, [], ◌∷◌, length, drop, Option, None, Some, Result, Ok, Err}
use Rattle.trace.specs.declared.reader.Reader.{Reader}
use Rattle.trace.specs.declared.token.Token.{Token}
use Rattle.trace.specs.declared.token.Token.TheVariants.{Note, Reset, Words}
use Rattle.trace.specs.declared.token.TraceStop.{TraceStop}
use Rattle.trace.specs.declared.token.TraceStop.TheVariants.{LongLine, Malformed}
use Rattle.trace.specs.Lines.{Kind, note, reset, words, too_long, malformed, kind_of, is_reset_line, lines_of}

-- The lines that are not read yet.
abbrev pub lines_left : Reader → List (List ℕ)
lines_left reader = lines_of reader.rest.now

-- How many lines were read before those that are left.
abbrev pub lines_before : Reader → ℕ
lines_before reader = reader.lines_read

-- A line that can be read, by its bytes and its number.
pub data Told : Type 0 where
  a_note : List ℕ → ℕ → Told
  a_reset : List ℕ → ℕ → Told
  some_words : List ℕ → ℕ → Told

-- What a token tells.
abbrev pub token_told : Token → Told
token_told (Note line place) = a_note line.now place
token_told (Reset line place) = a_reset line.now place
token_told (Words line place) = some_words line.now place

-- What a line tells that was read: of a bad line the stop.
abbrev pub line_told : Result Token TraceStop → Result Told TraceStop
line_told (Ok token) = Ok (token_told token)
line_told (Err stop) = Err stop

-- What a call tells: nothing at the end.
abbrev pub told : Option (Result Token TraceStop) → Option (Result Told TraceStop)
told None = None
told (Some line) = Some (line_told line)

-- What is told of a line of this kind, its bytes and its number.
abbrev pub told_of : Kind → List ℕ → ℕ → Result Told TraceStop
told_of note bytes place = Ok (a_note bytes place)
told_of reset bytes place = Ok (a_reset bytes place)
told_of words bytes place = Ok (some_words bytes place)
told_of too_long bytes place = Err (LongLine place)
told_of malformed bytes place = Err (Malformed place)

-- What is told of the first line, where so many were read before.
abbrev pub first_told : ℕ → List (List ℕ) → Option (Result Told TraceStop)
first_told before [] = None
first_told before (first ∷ others) = Some (told_of (kind_of first) first (before + 1))

-- A call that reads a line: it tells the first that is left, leaves the others, and counts it.
pub record ReadsOne (before : Reader) (line : Option (Result Token TraceStop)) (after : Reader) : Type 0 where
  pub tells_the_first_line : told line ≡ first_told (lines_before before) (lines_left before)
  pub leaves_the_others : lines_left after ≡ drop 1 (lines_left before)
  pub counts_the_lines_passed : lines_before after + length (lines_left after) ≡ lines_before before + length (lines_left before)

-- One of the lines is `reset`.
abbrev pub has_reset : List (List ℕ) → Bool
has_reset [] = false
has_reset (first ∷ others) = cond (is_reset_line first) true (has_reset others)

-- The lines behind the first `reset`; none if there is no such line.
abbrev pub behind_reset : List (List ℕ) → List (List ℕ)
behind_reset [] = []
behind_reset (first ∷ others) = cond (is_reset_line first) others (behind_reset others)
