-- What a cabling announces.
use Rattle.std.specs.Prelude.{◌≡◌, ℕ, ◌+◌, List, [], ◌++◌}
use Rattle.selfid.specs.Packets.{with_inverses}
use Rattle.selfid.specs.Nodes.{node_packets}
use Rattle.selfid.specs.Cabling.{Cabling, node, Ports, end, plain, down, marks_of, size, size_below, Proper}

-- The packets of a cabling before whose nodes n others are announced: for each down port, in rising number, all of the child's, then the topmost node's own.
-- A node's number is the count of nodes announced before it.
abbrev mutual
  pub packets_from : (n : ℕ) → Cabling → List ℕ
  packets_from n (node x ps) = packets_below n ps ++ node_packets (n + size_below ps) x (marks_of ps)

  pub packets_below : (n : ℕ) → Ports → List ℕ
  packets_below n end = []
  packets_below n (plain k ps) = packets_below n ps
  packets_below n (down c ps) = packets_from n c ++ packets_below (n + size c) ps

abbrev pub packets : Cabling → List ℕ
packets c = packets_from 0 c

-- Each packet and its inverse, as they go out on the bus.
abbrev pub announcement : Cabling → List ℕ
announcement c = with_inverses (packets c)

-- Two cablings with the same announcement are the same.
abbrev pub AnnouncementTellsTheCabling : Type 0
AnnouncementTellsTheCabling = (c d : Cabling) → Proper c → Proper d → announcement c ≡ announcement d → c ≡ d
