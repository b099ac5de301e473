-- The bench of three: what the cabling that announces it shows.
use Rattle.std.specs.Prelude.{◌≡◌, ℕ, List, [], ◌∷◌, ◌++◌, replicate, Some, None}
use Rattle.selfid.specs.declared.mark.Mark.TheVariants.{Absent, Open, Up, Down}
use Rattle.survey.specs.declared.row.Port.{Port}
use Rattle.survey.specs.declared.row.Row.{Row}
use Rattle.selfid.specs.Cabling.{Cabling}
use Rattle.selfid.specs.Reading.{fields_in}
use Rattle.judging.specs.Beginnings.{Announces}
use Rattle.survey.specs.Nodes.{end_at, port_with, row_with, nodes_of}

abbrev pub bench_quadlets : List ℕ
bench_quadlets = 0x807F4480 ∷ 0x7F80BB7F ∷ 0x817F8460 ∷ 0x7E807B9F ∷ 0x827F88DE ∷ 0x7D807721 ∷ []

-- These ports, and absent ones behind them.
abbrev pub then_absent : List Port → (n : ℕ) → List Port
then_absent ps n = ps ++ replicate n (port_with Absent None)

-- Node 0 hangs from port 0 of the root, node 1 by its port 1 from port 2 of the root.
abbrev pub bench_rows : List Row
bench_rows =
    row_with (fields_in 0x807F4480) (then_absent (port_with Up (Some (end_at 2 0)) ∷ []) 15)
    ∷ row_with (fields_in 0x817F8460) (then_absent (port_with Open None ∷ port_with Up (Some (end_at 2 2)) ∷ []) 14)
    ∷ row_with (fields_in 0x827F88DE) (then_absent (port_with Down (Some (end_at 0 0)) ∷ port_with Open None ∷ port_with Down (Some (end_at 1 1)) ∷ []) 13)
    ∷ []

abbrev pub BenchIsShown : Type 0
BenchIsShown = (c : Cabling) → Announces c bench_quadlets → nodes_of c ≡ bench_rows
