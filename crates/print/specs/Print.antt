-- The print: the lines of a settled record, and what asking for one of them gives.
use Rattle.std.specs.Prelude.{◌≡◌, ℕ, suc, ◌≤◌, List, [], ◌∷◌, length, Ok, Err, Result, IfOk, IsOk}
use Rattle.stops.specs.Numbers.{cause_number, cause_place}
use Rattle.survey.specs.declared.row.Row.{Row}
use Rattle.survey.specs.Views.{Shown, bus, void}
use Rattle.survey.specs.Questions.{marks_on}
use Rattle.print.specs.declared.stop.LineStop.{LineStop}
use Rattle.print.specs.declared.stop.LineStop.TheVariants.{NoSuchLine}
use Rattle.print.specs.Limits.{line_limit}
use Rattle.print.specs.Lines.{reset_line, node_line, void_line}
use Rattle.print.specs.Placing.{placed, answer, IsWritten}

-- The first line tells how many nodes a bus has, or why a record is void.
abbrev pub first_line : (reset : ℕ) → Shown → List ℕ
first_line reset (bus rs) = reset_line reset (length rs)
first_line reset (void k) = void_line reset (cause_number k) (cause_place k)

-- A line for each of these nodes, the first of which has number n.
abbrev pub node_lines_from : (n : ℕ) → List Row → List (List ℕ)
node_lines_from n [] = []
node_lines_from n (r ∷ rs) = node_line n r.fields (marks_on r.ports) ∷ node_lines_from (suc n) rs

-- A line for each node, by rising number. A void record has none.
abbrev pub node_lines : Shown → List (List ℕ)
node_lines (bus rs) = node_lines_from 0 rs
node_lines (void k) = []

-- All lines of the print of a record, told the number of the reset.
abbrev pub print_lines : (reset : ℕ) → Shown → List (List ℕ)
print_lines reset s = first_line reset s ∷ node_lines s

-- Line j of these, counted from 0, or that there is no such line.
abbrev pub line_at : List (List ℕ) → (j : ℕ) → Result (List ℕ) LineStop
line_at [] j = Err NoSuchLine
line_at (line ∷ others) ℕ.zero = Ok line
line_at (line ∷ others) (suc j) = line_at others j

-- Writing a line if there is one: the answer, and the buffer then.
abbrev pub answer_if : Result (List ℕ) LineStop → (buffer : List ℕ) → Result ℕ LineStop
answer_if (Ok line) buffer = answer line buffer
answer_if (Err stop) buffer = Err stop

abbrev pub placed_if : Result (List ℕ) LineStop → (buffer : List ℕ) → List ℕ
placed_if (Ok line) buffer = placed line buffer
placed_if (Err stop) buffer = buffer

-- A line, if there is one, was to be written to a buffer: the buffer before and after, and what was answered.
pub record Placed (line : Result (List ℕ) LineStop) (before after : List ℕ) (answered : Result ℕ LineStop) : Type 0 where
  pub answers_the_length_if_there_is_a_line_and_room : answered ≡ answer_if line before
  pub writes_the_line_and_keeps_the_rest : after ≡ placed_if line before
  pub answers_a_length_that_fits : IfOk answered (λ n. n ≤ length before)
  pub has_room_enough_in_the_line_limit : line_limit ≤ length before → IsOk line → IsWritten answered
