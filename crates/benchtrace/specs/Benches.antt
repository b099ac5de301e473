-- Two of the benches as cablings, and the quadlets that they announce: the definitions tried on words that were worked out apart from them.
use Rattle.std.specs.Prelude.{◌≡◌, ℕ, zero, suc, ◌<◌, Bool, true, false, [], ◌∷◌}
use Rattle.std.proofs.Common.{lit<}
use Rattle.selfid.specs.declared.node.Fields.{Fields}
use Rattle.selfid.specs.declared.speed.Speed.{Speed}
use Rattle.selfid.specs.declared.speed.Speed.TheVariants.{S100, S200, S400}
use Rattle.selfid.specs.Cabling.{Cabling, node, Ports, end, plain, down, absent, «open», up}
use Rattle.selfid.specs.Announcement.{packets, announcement}

-- A node's fields, with gap count 63 and an active link; `manager` is both contender and initiator.
abbrev pub fields : Speed → (power : ℕ) → power < 8 → (manager : Bool) → Fields
fields s p h m = record { link = true; contender = m; initiator = m; gap = 63; speed = s; power = p; gap_in_range = lit< tt; power_in_range = h }

-- Absent ports before others.
abbrev pub absents : (n : ℕ) → Ports → Ports
absents zero ps = ps
absents (suc n) ps = plain absent (absents n ps)

-- A root with a camera on port 0 and one on port 2, port 1 open.
abbrev pub three_cameras : Cabling
three_cameras =
    node (fields S400 0 (lit< tt) true)
    (down (node (fields S200 4 (lit< tt) false) (plain up (absents 15 end)))
    (plain «open»
    (down (node (fields S400 4 (lit< tt) false) (plain «open» (plain up (absents 14 end))))
    (absents 13 end))))

abbrev pub ThreeCamerasAnnounce : Type 0
ThreeCamerasAnnounce = announcement three_cameras ≡ 0x807F4480 ∷ 0x7F80BB7F ∷ 0x817F8460 ∷ 0x7E807B9F ∷ 0x827F88DE ∷ 0x7D807721 ∷ []

-- A hub with both extensions: ports 4, 12 and 15 are down and port 11 is open. Below it an up mark stands in extension 1, in packet zero and in extension 0.
abbrev pub hub : Cabling
hub =
    node (fields S400 3 (lit< tt) true)
    (absents 4
    (down (node (fields S100 7 (lit< tt) false) (absents 3 (down (node (fields S100 5 (lit< tt) false) (absents 2 (plain up (absents 13 end)))) (absents 11 (plain up end)))))
    (absents 6
    (plain «open»
    (down (node (fields S400 1 (lit< tt) false) (plain «open» (plain up (absents 14 end))))
    (absents 2
    (down (node (fields S200 2 (lit< tt) false) (absents 5 (plain up (absents 2 (plain «open» (absents 7 end))))))
    end)))))))

abbrev pub HubAnnounces : Type 0
HubAnnounces =
    packets hub
    ≡ 0x807F0508
    ∷ 0x817F0701
    ∷ 0x81830001
    ∷ 0x81900200
    ∷ 0x827F8160
    ∷ 0x837F4201
    ∷ 0x83802040
    ∷ 0x847F8B03
    ∷ 0x8480C001
    ∷ 0x8491C300
    ∷ []
