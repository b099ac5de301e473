-- Definitions for the inner functions: what is read of a row.
use Rattle.std.specs.Prelude.{◌≡◌, Bool, ◌&&◌, List, map, nat_lt}
use Rattle.std.specs.List.{list_all}
use Rattle.selfid.specs.declared.mark.Mark.{Mark}
use Rattle.selfid.specs.declared.node.Node.{Node}
use Rattle.selfid.specs.Marks.{mark_code}
use Rattle.announce.specs.declared.described.Row.{Row}
use Rattle.announce.specs.declared.described.RowPort.{RowPort}
use Rattle.announce.specs.Description.{HasFields}

-- The port has the code of a mark.
abbrev pub is_mark : RowPort → Bool
is_mark p = nat_lt p.mark 4

-- The row's fields are in range, and its ports have the codes of marks.
abbrev pub has_codes : Row → Bool
has_codes r = nat_lt r.gap 64 && nat_lt r.speed 3 && nat_lt r.power 8 && list_all is_mark r.ports

-- The ports have the codes of these marks.
abbrev pub HaveMarks : List RowPort → List Mark → Type 0
HaveMarks ports ms = map (λ p. p.mark) ports ≡ map mark_code ms

-- The row tells of this node.
pub record TellsNode (r : Row) (x : Node) : Type 0 where
  pub fields : HasFields r x.fields
  pub marks : HaveMarks r.ports x.marks
