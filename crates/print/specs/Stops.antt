-- The number of each stop that a call for a line can meet.
use Rattle.std.specs.Prelude.{ℕ}
use Rattle.print.specs.declared.stop.LineStop.{LineStop}
use Rattle.print.specs.declared.stop.LineStop.TheVariants.{NoSuchLine, TooShort}

abbrev pub stop_number : LineStop → ℕ
stop_number NoSuchLine = 12
stop_number TooShort = 13
