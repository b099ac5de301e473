-- Cablings: rooted trees of nodes, with their fields and the marks of their ports.
use Rattle.std.specs.Prelude.{◌≡◌, ℕ, suc, ◌+◌, ◌≤◌, List, [], ◌∷◌, length}
use Rattle.selfid.specs.declared.mark.Mark.{Mark}
use Rattle.selfid.specs.declared.mark.Mark.TheVariants.{Absent, Open, Up, Down}
use Rattle.selfid.specs.declared.node.Fields.{Fields}
use Rattle.selfid.specs.Marks.{ups}
use Rattle.selfid.specs.Nodes.{port_limit}

-- A bus has at most this many nodes.
abbrev pub node_limit : ℕ
node_limit = 63

-- A port that leads to no child is absent, open, or leads up to the parent.
pub data Childless : Type 0 where
  absent «open» up : Childless

-- A tree of nodes, by its topmost node: the node's fields, and its ports in rising number. A down port holds the child with all that hangs below it.
-- The type is wider than the subject: which trees are cablings of a bus says `Proper`, below.
-- Two cablings are the same if tree, fields and marks agree, which is what ≡ says of them.
mutual
  pub data Cabling : Type 0 where
    node : Fields → Ports → Cabling

  pub data Ports : Type 0 where
    end : Ports
    plain : Childless → Ports → Ports
    down : Cabling → Ports → Ports

abbrev pub childless_mark : Childless → Mark
childless_mark absent = Absent
childless_mark «open» = Open
childless_mark up = Up

abbrev pub marks_of : Ports → List Mark
marks_of end = []
marks_of (plain k ps) = childless_mark k ∷ marks_of ps
marks_of (down c ps) = Down ∷ marks_of ps

-- How many nodes a cabling has, and how many hang below some ports.
abbrev mutual
  pub size : Cabling → ℕ
  size (node x ps) = suc (size_below ps)

  pub size_below : Ports → ℕ
  size_below end = 0
  size_below (plain k ps) = size_below ps
  size_below (down c ps) = size c + size_below ps

-- The topmost node has all its ports and n of them are up; each node below it has all its ports and one of them is up, which is the far end of the down port above.
abbrev mutual
  pub Sound : (n : ℕ) → Cabling → Type 0
  Sound n (node x ps) = (length (marks_of ps) ≡ port_limit) × (ups (marks_of ps) ≡ n) × SoundBelow ps

  pub SoundBelow : Ports → Type 0
  SoundBelow end = Unit {0}
  SoundBelow (plain k ps) = SoundBelow ps
  SoundBelow (down c ps) = Sound 1 c × SoundBelow ps

-- A proper cabling: every node has sixteen ports, the root no up port, every other node just one, and there are at most 63 nodes.
pub record Proper (c : Cabling) : Type 0 where
  pub sound : Sound 0 c
  pub few : size c ≤ node_limit
