-- The tests that can turn a quadlet away, their order, and the verdict.
use Rattle.std.specs.Prelude.{◌≡◌, ℕ, ◌<◌, ◌≤◌, true, false, cond, ◌≢◌, ◌⊎◌, List, [], ◌∷◌, ◌++◌, length, Some, None, Err, Option, slice_index}
use Rattle.selfid.specs.declared.packet.PacketFlaw.TheVariants.{NotSelfId as NoSelfId, ReservedBit as HasReservedBit}
use Rattle.judging.specs.declared.flaw.Flaw.{Flaw}
use Rattle.judging.specs.declared.flaw.Flaw.TheVariants.{AlreadyWhole, NotInverse, NotSelfId, ReservedBit, WrongNumber, OutOfTurn, EmptyExtension, SecondUp, TooManyDown, LooseEndLeft, NoCabling}
use Rattle.selfid.specs.Marks.{ups, downs, present}
use Rattle.selfid.specs.Nodes.{extension_limit}
use Rattle.selfid.specs.Cabling.{Cabling}
use Rattle.selfid.specs.Packets.{inverse_of}
use Rattle.selfid.specs.Reading.{bits, packet_in}
use Rattle.judging.specs.Beginnings.{Announces, Begins}
use Rattle.judging.specs.Standing.{is_extension, has_more, turn_of, marks_in, packets_taken, inverse_due, under_way, nodes_finished, loose_count, node_so_far}

-- Each test, where qs were taken since the last reset and q is offered.
abbrev pub Applies : Flaw → List ℕ → ℕ → Type 0
-- 1: the announcement is already whole
Applies AlreadyWhole qs q = (c : Cabling) × Announces c qs
-- 2: it is not the inverse of the one before
Applies NotInverse qs q = q ≢ inverse_of (slice_index (packets_taken qs) 0)
-- 3: it is no packet, as bits 31-30 are not binary 10
Applies NotSelfId qs q = packet_in q ≡ Err NoSelfId
-- 4: it is no packet, as a reserved bit is set or packet zero has speed code 3
Applies ReservedBit qs q = packet_in q ≡ Err HasReservedBit
-- 5: the node number is not the count of finished nodes
Applies WrongNumber qs q = bits 29 24 q ≢ nodes_finished (packets_taken qs)
-- 6: bit 23 or the extension's number is not the next in turn, or the last extension has more set
Applies OutOfTurn qs q = (turn_of q ≢ length (under_way (packets_taken qs))) ⊎ ((turn_of q ≡ extension_limit) × (has_more q ≡ true))
-- 7: an extension with more clear has only absent marks
Applies EmptyExtension qs q = (is_extension q ≡ true) × (has_more q ≡ false) × (present (marks_in q) ≡ false)
-- 8: the node so far has two or more up marks
Applies SecondUp qs q = 2 ≤ ups (node_so_far (packets_taken qs) q)
-- 9: it has more down marks than there are loose ends
Applies TooManyDown qs q = loose_count (packets_taken qs) < downs (node_so_far (packets_taken qs) q)
-- 10: it ends with no up mark and fewer down marks than loose ends
Applies LooseEndLeft qs q =
    (has_more q ≡ false) × (ups (node_so_far (packets_taken qs) q) ≡ 0) × (downs (node_so_far (packets_taken qs) q) < loose_count (packets_taken qs))
-- 11: no cabling's announcement begins with these quadlets and this one
Applies NoCabling qs q = Begins (qs ++ (q ∷ [])) → ⊥

-- The tests of a packet that look only at what was told, in their order; and with the last, which looks at all cablings.
abbrev pub earlier_tests : List Flaw
earlier_tests = NotSelfId ∷ ReservedBit ∷ WrongNumber ∷ OutOfTurn ∷ EmptyExtension ∷ SecondUp ∷ TooManyDown ∷ LooseEndLeft ∷ []

abbrev pub packet_tests : List Flaw
packet_tests = NotSelfId ∷ ReservedBit ∷ WrongNumber ∷ OutOfTurn ∷ EmptyExtension ∷ SecondUp ∷ TooManyDown ∷ LooseEndLeft ∷ NoCabling ∷ []

-- The tests that are due, in their order: 1, then 2 if an inverse is due, else 3 to 11.
abbrev pub tests_due : List ℕ → List Flaw
tests_due qs = AlreadyWhole ∷ cond (inverse_due qs) (NotInverse ∷ []) packet_tests

-- What these tests, one after another, say of q: the first of them that applies, or that none does.
abbrev pub Tested : List Flaw → List ℕ → ℕ → Option Flaw → Type 0
Tested [] qs q None = Unit {0}
Tested [] qs q (Some f) = ⊥
Tested (t ∷ ts) qs q None = (Applies t qs q → ⊥) × Tested ts qs q None
Tested (t ∷ ts) qs q (Some f) = ((f ≡ t) × Applies t qs q) ⊎ ((Applies t qs q → ⊥) × Tested ts qs q (Some f))

-- Some cabling's announcement begins with the quadlets taken and q exactly if no test turns it away.
abbrev pub StillBegins : List ℕ → ℕ → Option Flaw → Type 0
StillBegins qs q None = Begins (qs ++ (q ∷ []))
StillBegins qs q (Some f) = Begins (qs ++ (q ∷ [])) → ⊥

-- The verdict on q after qs: none, and it is taken, or the flaw for which it is turned away.
pub record Verdict (qs : List ℕ) (q : ℕ) (v : Option Flaw) : Type 0 where
  pub first_that_applies : Tested (tests_due qs) qs q v
  pub still_begins : StillBegins qs q v
