-- What announcing a description answers and writes.
use Rattle.std.specs.Prelude.{◌≡◌, ℕ, ◌<◌, ◌≤◌, Bool, cond, not, ◌&&◌, ◌||◌, List, ◌++◌, length, drop, Some, None, Ok, Err, Option, Result, ◌==◌, nat_lt}
use Rattle.std.specs.List.{list_all}
use Rattle.selfid.specs.Cabling.{Cabling, Proper, node_limit}
use Rattle.selfid.specs.Announcement.{announcement}
use Rattle.announce.specs.declared.described.Row.{Row}
use Rattle.announce.specs.declared.described.RowPort.{RowPort}
use Rattle.announce.specs.declared.stop.DescriptionStop.{DescriptionStop}
use Rattle.announce.specs.declared.stop.DescriptionStop.TheVariants.{RowCount, TooShort, OutOfRange, NoTree}
use Rattle.announce.specs.Description.{is_down, Describes}

-- A mark code is 0 to 3, and a down port's child is one of n rows.
abbrev pub port_in_range : (n : ℕ) → RowPort → Bool
port_in_range n p = nat_lt p.mark 4 && (not (is_down p) || nat_lt p.child n)

-- The gap count is 0 to 63, the speed code 0 to 2, the power class 0 to 7, and every port is in range.
abbrev pub row_in_range : (n : ℕ) → Row → Bool
row_in_range n r = nat_lt r.gap 64 && nat_lt r.speed 3 && nat_lt r.power 8 && list_all (port_in_range n) r.ports

-- What refuses a description before its tree is looked at: no row or more than 63, a stack row with fewer elements than there are rows, or something out of range.
abbrev pub refused : List Row → (reach_room walk_room : ℕ) → Option DescriptionStop
refused rows reach_room walk_room =
    cond (length rows == 0 || nat_lt node_limit (length rows)) (Some RowCount)
    (cond (nat_lt reach_room (length rows) || nat_lt walk_room (length rows)) (Some TooShort)
    (cond (list_all (row_in_range (length rows)) rows) None (Some OutOfRange)))

-- The rows describe a proper cabling, and its announcement is written to the front of the words `before`, of which the rest stays; the answer is its length.
pub record Written (rows : List Row) (before : List ℕ) (a : Result ℕ DescriptionStop) (after : List ℕ) : Type 0 where
  pub cabling : Cabling
  pub describes : Describes rows cabling
  pub proper : Proper cabling
  pub room : length (announcement cabling) ≤ length before
  pub answers : a ≡ Ok (length (announcement cabling))
  pub leaves : after ≡ announcement cabling ++ drop (length (announcement cabling)) before

-- The rows describe a proper cabling whose announcement is too long for the words `before`, which stay.
pub record NoRoom (rows : List Row) (before : List ℕ) (a : Result ℕ DescriptionStop) (after : List ℕ) : Type 0 where
  pub cabling : Cabling
  pub describes : Describes rows cabling
  pub proper : Proper cabling
  pub short : length before < length (announcement cabling)
  pub answers : a ≡ Err TooShort
  pub leaves : after ≡ before

-- The rows describe no proper cabling, and the words `before` stay.
pub record DescribesNone (rows : List Row) (before : List ℕ) (a : Result ℕ DescriptionStop) (after : List ℕ) : Type 0 where
  pub none : (c : Cabling) → Describes rows c → Proper c → ⊥
  pub answers : a ≡ Err NoTree
  pub leaves : after ≡ before

-- What becomes of rows that are in range.
pub data Announced (rows : List Row) (before : List ℕ) (a : Result ℕ DescriptionStop) (after : List ℕ) : Type 0 where
  written : Written rows before a after → Announced rows before a after
  no_room : NoRoom rows before a after → Announced rows before a after
  no_tree : DescribesNone rows before a after → Announced rows before a after

-- Rows that are refused before their tree is looked at have that stop and leave the words `before` as they are.
abbrev pub Outcome : Option DescriptionStop → List Row → List ℕ → Result ℕ DescriptionStop → List ℕ → Type 0
Outcome (Some s) rows before a after = (a ≡ Err s) × (after ≡ before)
Outcome None rows before a after = Announced rows before a after

-- The rows are announced into the words `before`, which are then `after`; the two stack rows have room for so many elements.
abbrev pub AnnounceCall : List Row → (reach_room walk_room : ℕ) → List ℕ → Result ℕ DescriptionStop → List ℕ → Type 0
AnnounceCall rows reach_room walk_room before a after = Outcome (refused rows reach_room walk_room) rows before a after

-- Rows describe at most one cabling.
abbrev pub DescribeOneCabling : Type 0
DescribeOneCabling = (rows : List Row) (c d : Cabling) → Describes rows c → Describes rows d → c ≡ d
