-- The tests of a packet as the tree under way computes them. (That these are the tests of the subject is proved.)
use Rattle.std.specs.Prelude.{ℕ, zero, suc, ◌+◌, ◌-◌, ◌*◌, Bool, cond, not, ◌&&◌, ◌||◌, List, length, Some, None, Ok, Err, Option, Result, ◌==◌, nat_le, nat_lt}
use Rattle.selfid.specs.declared.mark.Mark.{Mark}
use Rattle.selfid.specs.declared.packet.Packet.{Packet}
use Rattle.selfid.specs.declared.packet.Packet.TheVariants.{Zero, Extension as Further}
use Rattle.selfid.specs.declared.packet.PacketFlaw.{PacketFlaw}
use Rattle.judging.specs.declared.flaw.Flaw.{Flaw}
use Rattle.judging.specs.declared.flaw.Flaw.TheVariants.{WrongNumber, OutOfTurn, EmptyExtension, SecondUp, TooManyDown, LooseEndLeft, NoCabling}
use Rattle.survey.specs.declared.tree.Tree.{Tree}
use Rattle.selfid.specs.Marks.{ups, downs, present}
use Rattle.selfid.specs.Nodes.{port_limit, extension_limit}
use Rattle.selfid.specs.Reading.{packet_in}
use Rattle.judging.specs.Completion.{enough_within, enough_after}
use Rattle.judging.specs.Stops.{flaw_of_packet}

-- How many nodes are finished.
abbrev pub finished : Tree → ℕ
finished t = length t.rows.items

-- How many loose ends there are.
abbrev pub loose : Tree → ℕ
loose t = length t.ends.items

-- How many marks a node's packets before this one have told.
abbrev pub marks_before : (turn : ℕ) → ℕ
marks_before zero = 0
marks_before (suc n) = 3 + 8 * n

abbrev pub completable : Tree → (u d turn : ℕ) (more : Bool) → Bool
completable t u d turn more = cond more (enough_within (finished t) (loose t) u d (port_limit - marks_before (suc turn))) (enough_after (finished t) (loose t) u d)

abbrev pub judged_marks : Tree → (u d turn : ℕ) (more : Bool) → Option Flaw
judged_marks t u d turn more =
    cond (nat_le 2 u) (Some SecondUp)
    (cond (nat_lt (loose t) d) (Some TooManyDown)
    (cond (not more && (u == 0 && nat_lt d (loose t))) (Some LooseEndLeft)
    (cond (not (completable t u d turn more)) (Some NoCabling) None)))

abbrev pub judged_parts : Tree → (number turn : ℕ) → List Mark → (more : Bool) → Option Flaw
judged_parts t number turn ms more =
    cond (not (number == finished t)) (Some WrongNumber)
    (cond (not (turn == t.turn) || (turn == extension_limit && more)) (Some OutOfTurn)
    (cond (nat_lt 0 turn && (not more && not (present ms))) (Some EmptyExtension) (judged_marks t (ups t.marks.items + ups ms) (downs t.marks.items + downs ms) turn more)))

abbrev pub judged_packet : Tree → Packet → Option Flaw
judged_packet t (Zero p) = judged_parts t p.number 0 p.marks p.more
judged_packet t (Further p) = judged_parts t p.number (p.turn + 1) p.marks p.more

abbrev pub judged_read : Tree → Result Packet PacketFlaw → Option Flaw
judged_read t (Ok p) = judged_packet t p
judged_read t (Err f) = Some (flaw_of_packet f)

abbrev pub judged : Tree → ℕ → Option Flaw
judged t q = judged_read t (packet_in q)

abbrev pub flaw_of : {A : Type 0} → Result A Flaw → Option Flaw
flaw_of (Ok x) = None
flaw_of (Err f) = Some f
