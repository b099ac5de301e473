-- The tree under way when it has heard a packet.
use Rattle.std.specs.Prelude.{◌≡◌, ℕ, ◌+◌, ◌-◌, ◌<◌, ◌≤◌, Bool, true, false, cond, List, [], ◌∷◌, ◌++◌, length, take, drop, replicate, ◌==◌}
use Rattle.selfid.specs.declared.mark.Mark.{Mark}
use Rattle.selfid.specs.declared.mark.Mark.TheVariants.{Absent}
use Rattle.selfid.specs.declared.node.Fields.{Fields}
use Rattle.selfid.specs.declared.packet.Packet.{Packet}
use Rattle.selfid.specs.declared.packet.Packet.TheVariants.{Zero, Extension as Further}
use Rattle.survey.specs.declared.row.End.{End}
use Rattle.survey.specs.declared.tree.Tree.{Tree}
use Rattle.selfid.specs.Marks.{ups, downs}
use Rattle.selfid.specs.Nodes.{port_limit, extension_limit}
use Rattle.selfid.specs.Cabling.{node_limit}
use Rattle.survey.specs.Nodes.{end_at, row_with}
use Rattle.survey.specs.Joining.{ends_within, rows_joined, ports_joined, up_place}
use Rattle.survey.specs.Judging.{finished, loose, marks_before}

-- A node's packets have so many marks in all.
abbrev pub told_limit : ℕ
told_limit = marks_before (extension_limit + 1)

-- The marks of all ports of the node under way, how many loose ends it leaves, and those that it takes.
abbrev pub node_marks : Tree → List Mark
node_marks t = take port_limit (t.marks.items ++ replicate port_limit Absent)

abbrev pub first_taken : Tree → ℕ
first_taken t = loose t - downs t.marks.items

abbrev pub taken_ends : Tree → List End
taken_ends t = drop (first_taken t) t.ends.items

-- The node under way ends: it takes loose ends, and is one itself if it has an up mark.
abbrev pub ended : Tree → Tree
ended t =
    record {
      rows = record { items = rows_joined (finished t) 0 (node_marks t) (taken_ends t) t.rows.items ++ (row_with t.fields (ports_joined (node_marks t) (taken_ends t)) ∷ []) };
      ends = record { items = take (first_taken t) t.ends.items ++ cond (ups t.marks.items == 0) [] (end_at (finished t) (up_place 0 (node_marks t)) ∷ []) };
      rooted = (ups t.marks.items == 0);
      turn = 0;
      fields = t.fields;
      marks = record { items = [] };
    }

-- The node under way tells more marks, and fields if they come with its packet zero.
abbrev pub told_marks : Tree → Fields → List Mark → Tree
told_marks t x ms = record { rows = t.rows; ends = t.ends; rooted = t.rooted; turn = t.turn + 1; fields = x; marks = record { items = t.marks.items ++ ms } }

abbrev pub heard_parts : Tree → Fields → List Mark → (more : Bool) → Tree
heard_parts t x ms more = cond more (told_marks t x ms) (ended (told_marks t x ms))

abbrev pub heard : Tree → Packet → Tree
heard t (Zero p) = heard_parts t p.fields p.marks p.more
heard t (Further p) = heard_parts t t.fields p.marks p.more

-- The node under way can end: the loose ends are there for its down marks, which are all on its ports, and there is a row for it.
abbrev pub CanEnd : Tree → Type 0
CanEnd t =
    (finished t < node_limit)
    × (loose t ≤ finished t)
    × (downs t.marks.items ≤ loose t)
    × (ends_within (finished t) t.ends.items ≡ true)
    × (downs (node_marks t) ≡ downs t.marks.items)

-- The node under way can tell these marks: there is room for them, and if they are its last, it can end.
abbrev pub CanTell : Tree → Fields → List Mark → (more : Bool) → Type 0
CanTell t x ms more = (t.turn ≤ extension_limit) × (length t.marks.items + length ms ≤ told_limit) × (more ≡ false → CanEnd (told_marks t x ms))

abbrev pub CanHear : Tree → Packet → Type 0
CanHear t (Zero p) = CanTell t p.fields p.marks p.more
CanHear t (Further p) = CanTell t t.fields p.marks p.more
