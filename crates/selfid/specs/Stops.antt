-- The number of each stop that a word can meet.
use Rattle.std.specs.Prelude.{ℕ}
use Rattle.selfid.specs.declared.packet.PacketFlaw.{PacketFlaw}
use Rattle.selfid.specs.declared.packet.PacketFlaw.TheVariants.{NotSelfId, ReservedBit}

abbrev pub flaw_number : PacketFlaw → ℕ
flaw_number NotSelfId = 3
flaw_number ReservedBit = 4
