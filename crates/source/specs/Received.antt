-- What a receive buffer means as a source, and the number of its refusal.
use Rattle.std.specs.Prelude.{ℕ, ⊤, List, Result, Ok}
use Rattle.source.specs.declared.receive.ReceiveBuffer.{ReceiveBuffer}
use Rattle.source.specs.declared.SourceStop.{SourceStop}

-- What waits: the words that were not drawn yet.
abbrev pub not_drawn_yet : ReceiveBuffer → List ℕ
not_drawn_yet buffer = buffer.words.now

-- How it ends: a receive buffer cannot stop.
abbrev pub end_of_the_row : ReceiveBuffer → Result ⊤ SourceStop
end_of_the_row buffer = Ok tt

-- The number of the stop for a row without a header.
abbrev pub no_header_number : ℕ
no_header_number = 22
