-- A word read as a packet, field by field, and why a word is none.
use Rattle.std.specs.Prelude.{ℕ, zero, suc, ◌+◌, ◌-◌, ◌*◌, ◌/◌, ◌%◌, ◌^◌, Bool, true, cond, not, ◌&&◌, ◌||◌, List, [], ◌∷◌, drop, Ok, Err, Result, ◌==◌}
use Rattle.std.proofs.Common.{lit<}
use Rattle.std.proofs.lemmas.Nat.{mod_below}
use Rattle.selfid.specs.declared.mark.Mark.{Mark}
use Rattle.selfid.specs.declared.mark.Mark.TheVariants.{Absent, Open, Up, Down}
use Rattle.selfid.specs.declared.speed.Speed.{Speed}
use Rattle.selfid.specs.declared.speed.Speed.TheVariants.{S100, S200, S400}
use Rattle.selfid.specs.declared.node.Fields.{Fields}
use Rattle.selfid.specs.declared.packet.PacketZero.{PacketZero}
use Rattle.selfid.specs.declared.packet.Extension.{Extension}
use Rattle.selfid.specs.declared.packet.Packet.{Packet}
use Rattle.selfid.specs.declared.packet.Packet.TheVariants.{Zero, Extension as Further}
use Rattle.selfid.specs.declared.packet.PacketFlaw.{PacketFlaw}
use Rattle.selfid.specs.declared.packet.PacketFlaw.TheVariants.{NotSelfId, ReservedBit}
use Rattle.selfid.specs.Marks.{present}
use Rattle.selfid.specs.Packets.{zero_word, extension_word}
use Rattle.selfid.specs.Nodes.{port_limit}

-- The word of a packet.
abbrev pub word_of : Packet → ℕ
word_of (Zero p) = zero_word p.number p.fields p.marks p.more
word_of (Further p) = extension_word p.number p.turn p.marks p.more

-- The bits `high` down to `low` of a word, as a number.
abbrev pub bits : (high low : ℕ) → ℕ → ℕ
bits high low q = q / 2 ^ low % 2 ^ (high + 1 - low)

-- The mark in two bits.
abbrev pub mark_in : ℕ → Mark
mark_in n = cond (n == 0) Absent (cond (n == 1) Open (cond (n == 2) Up Down))

-- The marks in the n pairs of bits of which the last are bits 3-2.
abbrev pub marks_from : (n : ℕ) → ℕ → List Mark
marks_from zero q = []
marks_from (suc n) q = mark_in (q / 2 ^ (2 * suc n) % 4) ∷ marks_from n q

-- The speed in two bits that are not 3.
abbrev pub speed_in : ℕ → Speed
speed_in n = cond (n == 0) S100 (cond (n == 1) S200 S400)

abbrev pub fields_in : ℕ → Fields
fields_in q =
    record {
      link = (bits 22 22 q == 1);
      contender = (bits 11 11 q == 1);
      initiator = (bits 1 1 q == 1);
      gap = bits 21 16 q;
      speed = speed_in (bits 15 14 q);
      power = bits 10 8 q;
      gap_in_range = mod_below (q / 2 ^ 16) 64 (lit< tt);
      power_in_range = mod_below (q / 2 ^ 8) 8 (lit< tt);
    }

abbrev pub zero_in : ℕ → PacketZero
zero_in q =
    record {
      number = bits 29 24 q;
      fields = fields_in q;
      marks = mark_in (bits 7 6 q) ∷ mark_in (bits 5 4 q) ∷ mark_in (bits 3 2 q) ∷ [];
      more = (bits 0 0 q == 1);
      number_in_range = mod_below (q / 2 ^ 24) 64 (lit< tt);
    }

abbrev pub extension_in : ℕ → Extension
extension_in q =
    record {
      number = bits 29 24 q;
      turn = bits 22 20 q;
      marks =
          mark_in (bits 17 16 q)
          ∷ mark_in (bits 15 14 q)
          ∷ mark_in (bits 13 12 q)
          ∷ mark_in (bits 11 10 q)
          ∷ mark_in (bits 9 8 q)
          ∷ mark_in (bits 7 6 q)
          ∷ mark_in (bits 5 4 q)
          ∷ mark_in (bits 3 2 q)
          ∷ [];
      more = (bits 0 0 q == 1);
      number_in_range = mod_below (q / 2 ^ 24) 64 (lit< tt);
      turn_in_range = mod_below (q / 2 ^ 20) 8 (lit< tt);
    }

-- A word with the layout of packet zero, read. It is none if one of the reserved bits 13-12 is set, or if it has the speed code 3, which stands for no speed.
abbrev pub read_zero : ℕ → Result Packet PacketFlaw
read_zero q = cond (not (bits 13 12 q == 0) || bits 15 14 q == 3) (Err ReservedBit) (Ok (Zero (zero_in q)))

-- The reserved bits of an extension: 19-18 and 1; and in extension 1, where only ports 11 to 15 exist, also 7 to 2.
abbrev pub reserved_set : ℕ → Bool
reserved_set q = not (bits 19 18 q == 0) || not (bits 1 1 q == 0) || (bits 22 20 q == 1 && not (bits 7 2 q == 0))

-- A word with the layout of an extension, read. It is none if a reserved bit is set.
abbrev pub read_extension : ℕ → Result Packet PacketFlaw
read_extension q = cond (reserved_set q) (Err ReservedBit) (Ok (Further (extension_in q)))

-- The packet in a word. A word is none if its bits 31-30 are not binary 10; else bit 23 tells the layout.
abbrev pub packet_in : ℕ → Result Packet PacketFlaw
packet_in q = cond (q / 2 ^ 30 == 2) (cond (bits 23 23 q == 1) (read_extension q) (read_zero q)) (Err NotSelfId)

-- Only extension 1 has mark bits that are reserved, those of its ports behind port 15: these ports are marked absent.
-- (An extension numbered 2 or more is read too, though no node sends one.)
abbrev pub marks_existing_ports : Packet → Bool
marks_existing_ports (Zero p) = true
marks_existing_ports (Further p) = not (p.turn == 1) || not (present (drop (port_limit - 11) p.marks))
