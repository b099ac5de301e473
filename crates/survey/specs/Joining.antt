-- How a node takes loose ends: by its down ports, from the lowest on, each with the next loose end.
use Rattle.std.specs.Prelude.{ℕ, suc, Bool, true, ◌&&◌, List, [], ◌∷◌, Some, None, nat_lt}
use Rattle.selfid.specs.declared.mark.Mark.{Mark}
use Rattle.selfid.specs.declared.mark.Mark.TheVariants.{Absent, Open, Up, Down}
use Rattle.survey.specs.declared.row.End.{End}
use Rattle.survey.specs.declared.row.Port.{Port}
use Rattle.survey.specs.declared.row.Row.{Row}
use Rattle.selfid.specs.Nodes.{port_limit}
use Rattle.survey.specs.Nodes.{end_at, port_with, row_with}

-- Each of these ends is a port of one of n nodes.
abbrev pub ends_within : (n : ℕ) → List End → Bool
ends_within n [] = true
ends_within n (e ∷ es) = nat_lt e.node n && (nat_lt e.port port_limit && ends_within n es)

-- A port that leads to `far`, among the ports of its node, and among the rows of all nodes.
abbrev pub port_led : Port → End → Port
port_led p far = port_with p.mark (Some far)

abbrev pub ports_led : List Port → (p : ℕ) → End → List Port
ports_led [] p far = []
ports_led (x ∷ xs) ℕ.zero far = port_led x far ∷ xs
ports_led (x ∷ xs) (suc p) far = x ∷ ports_led xs p far

abbrev pub rows_led : List Row → (n p : ℕ) → End → List Row
rows_led [] n p far = []
rows_led (r ∷ rs) ℕ.zero p far = row_with r.fields (ports_led r.ports p far) ∷ rs
rows_led (r ∷ rs) (suc n) p far = r ∷ rows_led rs n p far

-- The rows when node n, whose marks from port p on are ms, has taken the loose ends es.
abbrev pub rows_joined : (n p : ℕ) → List Mark → List End → List Row → List Row
rows_joined n p [] es rs = rs
rows_joined n p (Absent ∷ ms) es rs = rows_joined n (suc p) ms es rs
rows_joined n p (Open ∷ ms) es rs = rows_joined n (suc p) ms es rs
rows_joined n p (Up ∷ ms) es rs = rows_joined n (suc p) ms es rs
rows_joined n p (Down ∷ ms) [] rs = rows_joined n (suc p) ms [] rs
rows_joined n p (Down ∷ ms) (e ∷ es) rs = rows_joined n (suc p) ms es (rows_led rs e.node e.port (end_at n p))

-- Its own ports then.
abbrev pub ports_joined : List Mark → List End → List Port
ports_joined [] es = []
ports_joined (Absent ∷ ms) es = port_with Absent None ∷ ports_joined ms es
ports_joined (Open ∷ ms) es = port_with Open None ∷ ports_joined ms es
ports_joined (Up ∷ ms) es = port_with Up None ∷ ports_joined ms es
ports_joined (Down ∷ ms) [] = port_with Down None ∷ ports_joined ms []
ports_joined (Down ∷ ms) (e ∷ es) = port_with Down (Some e) ∷ ports_joined ms es

-- The place of the lowest up mark, the first of these marks being that of port p.
abbrev pub up_place : (p : ℕ) → List Mark → ℕ
up_place p [] = p
up_place p (Absent ∷ ms) = up_place (suc p) ms
up_place p (Open ∷ ms) = up_place (suc p) ms
up_place p (Up ∷ ms) = p
up_place p (Down ∷ ms) = up_place (suc p) ms
