-- Inside: what the parts of a call answer to each other.
use Rattle.std.specs.Prelude.{◌≡◌, ℕ, true, false, List, Some, None, Ok, Err, Option, Result}
use Rattle.judging.specs.declared.flaw.Flaw.{Flaw}
use Rattle.selfid.specs.declared.packet.Packet.{Packet}
use Rattle.selfid.specs.Reading.{packet_in}
use Rattle.judging.specs.Standing.{inverse_due, whole}

-- What a quadlet that may come next is: a packet, or the inverse that is due.
abbrev pub NextIs : (qs : List ℕ) (q : ℕ) → Result (Option Packet) Flaw → Type 0
NextIs qs q (Ok None) = inverse_due qs ≡ true
NextIs qs q (Ok (Some p)) = (whole qs ≡ false) × (inverse_due qs ≡ false) × (packet_in q ≡ Ok p)
NextIs qs q (Err f) = Unit {0}
