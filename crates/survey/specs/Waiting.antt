-- Cablings that wait for their parent, the newest first: what they show, and their loose ends.
use Rattle.std.specs.Prelude.{Bool, true, ◌&&◌, List, [], ◌∷◌, ◌++◌, length, None, ◌==◌}
use Rattle.survey.specs.declared.row.End.{End}
use Rattle.survey.specs.declared.row.Row.{Row}
use Rattle.selfid.specs.Marks.{ups}
use Rattle.selfid.specs.Nodes.{port_limit}
use Rattle.selfid.specs.Cabling.{Cabling, node, marks_of}
use Rattle.judging.specs.Completion.{nodes_in}
use Rattle.survey.specs.Nodes.{top_end, nodes_from}

-- Their nodes in the order of their numbers. Nothing is known yet of what their topmost nodes hang from.
abbrev pub rows_of : List Cabling → List Row
rows_of [] = []
rows_of (c ∷ cs) = rows_of cs ++ nodes_from (nodes_in cs) None c

-- Their loose ends, the oldest first: the up ports of the topmost nodes.
abbrev pub ends_of : List Cabling → List End
ends_of [] = []
ends_of (c ∷ cs) = ends_of cs ++ (top_end (nodes_in cs) c ∷ [])

-- A cabling can hang from a down port: its topmost node has all its ports, and just one of them is up.
abbrev pub can_hang : Cabling → Bool
can_hang (node x ps) = ups (marks_of ps) == 1 && length (marks_of ps) == port_limit

abbrev pub each_can_hang : List Cabling → Bool
each_can_hang [] = true
each_can_hang (c ∷ cs) = can_hang c && each_can_hang cs
