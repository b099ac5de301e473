-- What a trace source means: the words that wait in the lines of a reader, and how they end.
use Rattle.std.specs.Prelude.{◌≡◌, ℕ, ⊤, true, ◌+◌, List, [], ◌∷◌, ◌++◌, Option, None, Some, Result, Ok, Err}
use denote.Ref.{Bor}
use Rattle.source.specs.declared.SourceStop.{SourceStop}
use Rattle.trace.specs.declared.reader.Reader.{Reader}
use Rattle.trace.specs.declared.recorded.TraceSource.{TraceSource}
use Rattle.trace.specs.declared.token.TraceStop.{TraceStop}
use Rattle.trace.specs.declared.token.TraceStop.TheVariants.{LongLine, Malformed}
use Rattle.trace.specs.Lines.{Kind, note, reset, words, too_long, malformed, kind_of, is_words_line, words_of, words_left}
use Rattle.trace.specs.Reading.{lines_before, lines_left}
use Rattle.trace.specs.Stops.{as_source_stop}

-- What waits in a line of this kind and its bytes, where so much waits behind it.
abbrev pub waiting_at : Kind → List ℕ → List ℕ → List ℕ
waiting_at note bytes behind = behind
waiting_at words bytes behind = words_of bytes ++ behind
waiting_at reset bytes behind = []
waiting_at too_long bytes behind = []
waiting_at malformed bytes behind = []

-- The words that stand before the first `reset`, the first bad line or the end.
abbrev pub waiting_in : List (List ℕ) → List ℕ
waiting_in [] = []
waiting_in (first ∷ others) = waiting_at (kind_of first) first (waiting_in others)

-- The ending with the number and the place of this stop.
abbrev pub stopped_by : TraceStop → Result ⊤ SourceStop
stopped_by stop = Err (as_source_stop stop)

-- How the source ends at a line of this kind and number, or behind it.
abbrev pub ending_at : Kind → ℕ → Result ⊤ SourceStop → Result ⊤ SourceStop
ending_at note place behind = behind
ending_at words place behind = behind
ending_at reset place behind = Ok tt
ending_at too_long place behind = stopped_by (LongLine place)
ending_at malformed place behind = stopped_by (Malformed place)

-- Clean at the first `reset` or the end, stopped at a bad line before it; so many lines stand before these.
abbrev pub ending_in : ℕ → List (List ℕ) → Result ⊤ SourceStop
ending_in before [] = Ok tt
ending_in before (first ∷ others) = ending_at (kind_of first) (before + 1) (ending_in (before + 1) others)

-- What waits in the lines that a reader has left.
abbrev pub waiting_ahead : Reader → List ℕ
waiting_ahead reader = waiting_in (lines_left reader)

-- How these lines end.
abbrev pub ending_ahead : Reader → Result ⊤ SourceStop
ending_ahead reader = ending_in (lines_before reader) (lines_left reader)

-- What waits in a trace source: what is left of its line, then what waits in the lines behind it.
abbrev pub recorded_words : TraceSource → List ℕ
recorded_words source = words_left source.line.now ++ waiting_ahead source.reader

-- How a trace source ends.
abbrev pub recorded_ending : TraceSource → Result ⊤ SourceStop
recorded_ending source = ending_ahead source.reader

-- Nothing waits in the lines of the reader, which end so.
pub record OnlyEnds (reader : Reader) (ending : Result ⊤ SourceStop) : Type 0 where
  pub nothing_waits : waiting_ahead reader ≡ []
  pub it_ends_so : ending_ahead reader ≡ ending

-- A words line is found, whose words wait first, and then those in the lines of the reader after.
pub record FindsLine (before : Reader) (line : List ℕ) (after : Reader) : Type 0 where
  pub is_words : is_words_line line ≡ true
  pub wait_first : waiting_ahead before ≡ words_of line ++ waiting_ahead after

-- What a search for the next words line finds: that line, or else how the lines end. The reader is then after the line, or at the end that it told.
abbrev pub FindsWords : Reader → Result (Option (Bor (List ℕ))) SourceStop → Reader → Type 0
FindsWords before (Ok (Some line)) after = FindsLine before line.now after
FindsWords before (Ok None) after = OnlyEnds before (Ok tt) × OnlyEnds after (Ok tt)
FindsWords before (Err stop) after = OnlyEnds before (Err stop) × OnlyEnds after (Err stop)
