-- What drawing from a source gives.
use Rattle.std.specs.Prelude.{ℕ, ⊤, List, [], ◌∷◌, Option, None, Some, Result, Ok, Err}
use Rattle.source.specs.declared.SourceStop.{SourceStop}

-- How a draw tells the ending: a clean one by no quadlet, a stop as it is.
abbrev pub ending_told : Result ⊤ SourceStop → Result (Option ℕ) SourceStop
ending_told (Ok cleanly) = Ok None
ending_told (Err stop) = Err stop

-- The first quadlet that waits; with none waiting the ending.
abbrev pub drawn_from : List ℕ → Result ⊤ SourceStop → Result (Option ℕ) SourceStop
drawn_from [] ending = ending_told ending
drawn_from (first ∷ others) ending = Ok (Some first)
