-- Descriptions: a row for each node, row 0 the root, and when rows describe a cabling.
use Rattle.std.specs.Prelude.{◌≡◌, ℕ, ◌+◌, ◌<◌, Bool, cond, List, [], ◌∷◌, ◌++◌, length, Some, None, ◌==◌}
use Rattle.std.specs.List.{slice_get}
use Rattle.selfid.specs.declared.mark.Mark.TheVariants.{Up, Down}
use Rattle.selfid.specs.declared.node.Fields.{Fields}
use Rattle.selfid.specs.Marks.{mark_code}
use Rattle.selfid.specs.Speeds.{speed_code}
use Rattle.selfid.specs.Cabling.{Cabling, node, Ports, end, plain, down, childless_mark}
use Rattle.announce.specs.declared.described.Row.{Row}
use Rattle.announce.specs.declared.described.RowPort.{RowPort}

-- The port is marked up, or down.
abbrev pub is_up : RowPort → Bool
is_up p = p.mark == mark_code Up

abbrev pub is_down : RowPort → Bool
is_down p = p.mark == mark_code Down

-- The row has these fields.
pub record HasFields (r : Row) (x : Fields) : Type 0 where
  pub link : r.link ≡ x.link
  pub contender : r.contender ≡ x.contender
  pub initiator : r.initiator ≡ x.initiator
  pub gap : r.gap ≡ x.gap
  pub speed : r.speed ≡ speed_code x.speed
  pub power : r.power ≡ x.power

abbrev pub FieldsAt : List Row → ℕ → Fields → Type 0
FieldsAt rows i x = elim (slice_get rows i) [ None ↦ ⊥ | Some r ↦ HasFields r x ]

abbrev pub ports_at : List Row → ℕ → List RowPort
ports_at rows i = elim (slice_get rows i) [ None ↦ [] | Some r ↦ r.ports ]

-- Row i describes the cabling: it has the fields of the topmost node, and its ports describe that node's ports.
-- A port has the mark's code, and a down port names the row that describes the child. The child of any other port is unread.
abbrev mutual
  pub DescribesAt : List Row → ℕ → Cabling → Type 0
  DescribesAt rows i (node x ps) = FieldsAt rows i x × DescribePorts rows ps (ports_at rows i)

  pub DescribePorts : List Row → Ports → List RowPort → Type 0
  DescribePorts rows end [] = Unit {0}
  DescribePorts rows end (p ∷ rest) = ⊥
  DescribePorts rows (plain k ps) [] = ⊥
  DescribePorts rows (plain k ps) (p ∷ rest) = (p.mark ≡ mark_code (childless_mark k)) × DescribePorts rows ps rest
  DescribePorts rows (down c ps) [] = ⊥
  DescribePorts rows (down c ps) (p ∷ rest) = (p.mark ≡ mark_code Down) × DescribesAt rows p.child c × DescribePorts rows ps rest

-- The rows that describe the nodes of a cabling, from row i on.
abbrev mutual
  pub rows_of : List Row → ℕ → Cabling → List ℕ
  rows_of rows i (node x ps) = i ∷ rows_below rows ps (ports_at rows i)

  pub rows_below : List Row → Ports → List RowPort → List ℕ
  rows_below rows end ports = []
  rows_below rows (plain k ps) [] = []
  rows_below rows (plain k ps) (p ∷ rest) = rows_below rows ps rest
  rows_below rows (down c ps) [] = []
  rows_below rows (down c ps) (p ∷ rest) = rows_of rows p.child c ++ rows_below rows ps rest

-- How often a number stands in a list.
abbrev pub times : ℕ → List ℕ → ℕ
times i [] = 0
times i (j ∷ js) = cond (i == j) 1 0 + times i js

-- The rows describe c: row 0 describes the root, and each row describes one node, neither none nor two.
pub record Describes (rows : List Row) (c : Cabling) : Type 0 where
  pub root : DescribesAt rows 0 c
  pub each_once : (i : ℕ) → i < length rows → times i (rows_of rows 0 c) ≡ 1
