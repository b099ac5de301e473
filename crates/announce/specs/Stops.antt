-- The number of each stop that a description can meet.
use Rattle.std.specs.Prelude.{ℕ}
use Rattle.announce.specs.declared.stop.DescriptionStop.{DescriptionStop}
use Rattle.announce.specs.declared.stop.DescriptionStop.TheVariants.{RowCount, TooShort, OutOfRange, NoTree}

abbrev pub stop_number : DescriptionStop → ℕ
stop_number RowCount = 14
stop_number TooShort = 13
stop_number OutOfRange = 15
stop_number NoTree = 16
