-- The number of each flaw that a quadlet can have.
use Rattle.std.specs.Prelude.{ℕ}
use Rattle.selfid.specs.declared.packet.PacketFlaw.{PacketFlaw}
use Rattle.selfid.specs.declared.packet.PacketFlaw.TheVariants.{NotSelfId as HasOtherTopBits, ReservedBit as HasReservedBit}
use Rattle.judging.specs.declared.flaw.Flaw.{Flaw}
use Rattle.judging.specs.declared.flaw.Flaw.TheVariants.{AlreadyWhole, NotInverse, NotSelfId, ReservedBit, WrongNumber, OutOfTurn, EmptyExtension, SecondUp, TooManyDown, LooseEndLeft, NoCabling}

abbrev pub flaw_number : Flaw → ℕ
flaw_number AlreadyWhole = 1
flaw_number NotInverse = 2
flaw_number NotSelfId = 3
flaw_number ReservedBit = 4
flaw_number WrongNumber = 5
flaw_number OutOfTurn = 6
flaw_number EmptyExtension = 7
flaw_number SecondUp = 8
flaw_number TooManyDown = 9
flaw_number LooseEndLeft = 10
flaw_number NoCabling = 11

-- The flaw of a word that is no packet.
abbrev pub flaw_of_packet : PacketFlaw → Flaw
flaw_of_packet HasOtherTopBits = NotSelfId
flaw_of_packet HasReservedBit = ReservedBit
