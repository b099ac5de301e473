-- What a cabling shows: its nodes by number, with fields, marks and far ends.
use Rattle.std.specs.Prelude.{◌≡◌, ℕ, suc, ◌+◌, List, length, [], ◌∷◌, ◌++◌, Some, None, Option}
use Rattle.selfid.specs.declared.node.Fields.{Fields}
use Rattle.selfid.specs.declared.mark.Mark.{Mark}
use Rattle.selfid.specs.declared.mark.Mark.TheVariants.{Absent, Open, Up, Down}
use Rattle.survey.specs.declared.row.End.{End}
use Rattle.survey.specs.declared.row.Port.{Port}
use Rattle.survey.specs.declared.row.Row.{Row}
use Rattle.selfid.specs.Cabling.{Cabling, Proper, node, Ports, end, plain, down, Childless, absent, «open», up, size, size_below}

abbrev pub end_at : (n p : ℕ) → End
end_at n p = record { node = n; port = p }

abbrev pub port_with : Mark → Option End → Port
port_with m far = record { mark = m; far = far }

abbrev pub row_with : Fields → List Port → Row
row_with x ps = record { fields = x; ports = ps }

-- The lowest up port among some ports, the first of which is port p.
abbrev pub up_from : (p : ℕ) → Ports → ℕ
up_from p end = p
up_from p (plain absent ps) = up_from (suc p) ps
up_from p (plain «open» ps) = up_from (suc p) ps
up_from p (plain up ps) = p
up_from p (down c ps) = up_from (suc p) ps

-- The up port of a cabling's topmost node, as one end of the cable to its parent.
abbrev pub top_end : (n : ℕ) → Cabling → End
top_end n (node x ps) = end_at (n + size_below ps) (up_from 0 ps)

-- A port that leads to no child: an up port leads to the down port above it, if there is one.
abbrev pub childless_port : (above : Option End) → Childless → Port
childless_port above absent = port_with Absent None
childless_port above «open» = port_with Open None
childless_port above up = port_with Up above

-- The ports of a node, before whose children n nodes are announced and whose up port leads to `above`. A down port leads to the child's up port.
abbrev pub ports_shown : (n : ℕ) (above : Option End) → Ports → List Port
ports_shown n above end = []
ports_shown n above (plain k ps) = childless_port above k ∷ ports_shown n above ps
ports_shown n above (down c ps) = port_with Down (Some (top_end n c)) ∷ ports_shown (n + size c) above ps

-- The nodes of a cabling in the order of their numbers, where n others are announced before and the topmost node hangs from `above`.
abbrev mutual
  pub nodes_from : (n : ℕ) (above : Option End) → Cabling → List Row
  nodes_from n above (node x ps) = nodes_below n (n + size_below ps) 0 ps ++ (row_with x (ports_shown n above ps) ∷ [])

  -- The nodes below the ports of node `parent`, the first of which is port p.
  pub nodes_below : (n parent p : ℕ) → Ports → List Row
  nodes_below n parent p end = []
  nodes_below n parent p (plain k ps) = nodes_below n parent (suc p) ps
  nodes_below n parent p (down c ps) = nodes_from n (Some (end_at parent p)) c ++ nodes_below (n + size c) parent (suc p) ps

-- All nodes of a cabling: the root hangs from nothing.
abbrev pub nodes_of : Cabling → List Row
nodes_of c = nodes_from 0 None c

-- These rows are the nodes of some proper cabling, and as many. Only that there is one is said: what a record of it holds is no cabling, but its nodes.
abbrev pub SomeCabling : List Row → Type 0
SomeCabling rs = ∥ ((c : Cabling) × Proper c × (rs ≡ nodes_of c) × (length (nodes_of c) ≡ size c)) ∥₁
