-- Definitions for the inner functions: rows that are reached from row 0.
use Rattle.std.specs.Prelude.{◌≡◌, ℕ, zero, suc, ◌<◌, ◌≤◌, Bool, true, false, cond, not, ◌||◌, List, [], ◌∷◌, length, nat_lt, count_by, slice_index_or}
use Rattle.std.specs.List.{list_all}
use Rattle.selfid.specs.Packets.{bit}
use Rattle.selfid.specs.Nodes.{port_limit}
use Rattle.selfid.specs.Cabling.{Cabling, Proper, node_limit}
use Rattle.announce.specs.declared.described.Row.{Row}
use Rattle.announce.specs.declared.described.RowPort.{RowPort}
use Rattle.announce.specs.Announcing.{row_in_range}
use Rattle.announce.specs.Description.{is_up, is_down, Describes, DescribesAt, ports_at, rows_of, times}

-- The rows of the children, by rising down port.
abbrev pub children : List RowPort → List ℕ
children [] = []
children (p ∷ ps) = cond (is_down p) (p.child ∷ children ps) (children ps)

-- The list with these put on top, one after the other.
abbrev pub onto : List ℕ → List ℕ → List ℕ
onto [] held = held
onto (k ∷ ks) held = onto ks (k ∷ held)

-- A down port's child is one of n rows.
abbrev pub child_below : (n : ℕ) → RowPort → Bool
child_below n p = not (is_down p) || nat_lt p.child n

abbrev pub ChildrenBelow : (n : ℕ) → List RowPort → Type 0
ChildrenBelow n ports = list_all (child_below n) ports ≡ true

-- 1 for a row that is reached, else 0.
abbrev pub hit : List Bool → ℕ → ℕ
hit reached i = bit (slice_index_or reached i false)

-- Of n rows these wait, each of them reached and waiting once. Nothing but rows is reached.
pub record Waiting (n : ℕ) (waiting : List ℕ) (reached : List Bool) : Type 0 where
  pub once : (i : ℕ) → times i waiting ≤ hit reached i
  pub rows_only : (i : ℕ) → n ≤ i → hit reached i ≡ 0

-- Row 0 describes a cabling, and `reached` has just the rows of what it describes, each of them once.
pub record ReachedRows (rows : List Row) (reached : List Bool) : Type 0 where
  pub cabling : Cabling
  pub describes : DescribesAt rows 0 cabling
  pub counts : (c : Cabling) → DescribesAt rows 0 c → (i : ℕ) → times i (rows_of rows 0 c) ≡ hit reached i

-- There are 1 to 63 rows, all of them in range and with all their ports.
pub record WellFormed (rows : List Row) : Type 0 where
  pub some : 1 ≤ length rows
  pub few : length rows ≤ node_limit
  pub in_range : list_all (row_in_range (length rows)) rows ≡ true
  pub all_ports : (i : ℕ) → i < length rows → length (ports_at rows i) ≡ port_limit

-- How many ports are marked up.
abbrev pub ups_of : List RowPort → ℕ
ups_of ports = count_by is_up ports

-- The up marks that are due in row i: none in row 0, one in any other.
abbrev pub ups_due : ℕ → ℕ
ups_due zero = 0
ups_due (suc i) = 1

-- Row i is reached, and has the up marks that are due.
abbrev pub Placed : List Row → List Bool → ℕ → Type 0
Placed rows reached i = (hit reached i ≡ 1) × (ups_of (ports_at rows i) ≡ ups_due i)

-- The rows describe a proper cabling.
pub record Described (rows : List Row) : Type 0 where
  pub cabling : Cabling
  pub describes : Describes rows cabling
  pub proper : Proper cabling
