-- How the tree under way tallies with the packets taken, the newest first.
use Rattle.std.specs.Prelude.{◌≡◌, ℕ, ◌≤◌, true, false, List, [], length}
use Rattle.survey.specs.declared.tree.Tree.{Tree}
use Rattle.selfid.specs.Nodes.{extension_limit}
use Rattle.selfid.specs.Cabling.{Cabling}
use Rattle.judging.specs.Standing.{under_way, finished_nodes, marks_told, nodes_finished, loose_count, ends_in_root}
use Rattle.judging.specs.Rebuilding.{fields_told, loose_cablings}
use Rattle.survey.specs.Waiting.{rows_of, ends_of, each_can_hang}
use Rattle.survey.specs.Judging.{finished, loose, marks_before}

-- The cablings that the finished nodes make.
abbrev pub cablings_of : List ℕ → List Cabling
cablings_of ps = loose_cablings (finished_nodes ps)

-- It has the finished nodes and the loose ends, counts the packets of the node under way, and knows whether the root has ended; none is under way then.
abbrev pub CountsTally : List ℕ → Tree → Type 0
CountsTally ps t =
    (finished t ≡ nodes_finished ps)
    × (loose t ≡ loose_count ps)
    × (t.turn ≡ length (under_way ps))
    × (t.rooted ≡ ends_in_root (finished_nodes ps))
    × (t.rooted ≡ true → t.turn ≡ 0)

-- The node under way has told three marks in its packet zero, and eight in each extension.
abbrev pub TurnTallies : List ℕ → Tree → Type 0
TurnTallies ps t = (t.turn ≤ extension_limit) × (length (marks_told (under_way ps)) ≡ marks_before t.turn)

-- It has the marks and the fields that the node under way has told.
abbrev pub MarksTally : List ℕ → Tree → Type 0
MarksTally ps t = t.marks.items ≡ marks_told (under_way ps)

abbrev pub FieldsTally : List ℕ → Tree → Type 0
FieldsTally ps t = 1 ≤ t.turn → t.fields ≡ fields_told (under_way ps)

-- Its rows are those of the cablings that wait, and so are its loose ends, unless the root has ended.
abbrev pub RowsTally : List ℕ → Tree → Type 0
RowsTally ps t = t.rows.items ≡ rows_of (cablings_of ps)

abbrev pub EndsTally : List ℕ → Tree → Type 0
EndsTally ps t = t.rooted ≡ false → (t.ends.items ≡ ends_of (cablings_of ps)) × (each_can_hang (cablings_of ps) ≡ true)

-- All of this.
pub record Tally (ps : List ℕ) (t : Tree) : Type 0 where
  pub counts : CountsTally ps t
  pub turn : TurnTallies ps t
  pub marks : MarksTally ps t
  pub fields : FieldsTally ps t
  pub rows : RowsTally ps t
  pub ends : EndsTally ps t

-- A tree that has heard nothing.
abbrev pub Fresh : Tree → Type 0
Fresh t = (t.rows.items ≡ []) × (t.ends.items ≡ []) × (t.rooted ≡ false) × (t.turn ≡ 0) × (t.marks.items ≡ [])
