-- The cablings that finished nodes make, read back from their packets.
use Rattle.std.specs.Prelude.{ℕ, List, [], ◌∷◌, ◌++◌, reverse, take, drop, replicate, slice_index}
use Rattle.selfid.specs.declared.node.Fields.{Fields}
use Rattle.selfid.specs.declared.mark.Mark.{Mark}
use Rattle.selfid.specs.declared.mark.Mark.TheVariants.{Absent, Open, Up, Down}
use Rattle.selfid.specs.Marks.{downs}
use Rattle.selfid.specs.Nodes.{port_limit}
use Rattle.selfid.specs.Reading.{fields_in}
use Rattle.selfid.specs.Cabling.{Cabling, node, Ports, end, plain, down, absent, «open», up}
use Rattle.judging.specs.Standing.{marks_told}

-- The fields of a node, from its oldest packet, and the marks of all its ports: those that it does not tell are absent. Its packets have the newest first.
abbrev pub fields_told : List ℕ → Fields
fields_told x = fields_in (slice_index (reverse x) 0)

abbrev pub all_marks : List ℕ → List Mark
all_marks x = take port_limit (marks_told x ++ replicate port_limit Absent)

-- Ports with these marks, and with these cablings below the down ports, by rising number. (With too few of them a down port stays open.)
abbrev pub hung : List Mark → List Cabling → Ports
hung [] cs = end
hung (Absent ∷ ms) cs = plain absent (hung ms cs)
hung (Open ∷ ms) cs = plain «open» (hung ms cs)
hung (Up ∷ ms) cs = plain up (hung ms cs)
hung (Down ∷ ms) [] = plain «open» (hung ms [])
hung (Down ∷ ms) (c ∷ cs) = down c (hung ms cs)

-- What hangs together from each loose end or, once the root has ended, the whole cabling. The finished nodes and these have the newest first:
-- a node takes the newest, one for each of its down marks, the oldest of these on its lowest down port. (A root takes all that is left.)
abbrev pub loose_cablings : List (List ℕ) → List Cabling
loose_cablings [] = []
loose_cablings (x ∷ earlier) =
    node (fields_told x) (hung (all_marks x) (reverse (take (downs (all_marks x)) (loose_cablings earlier))))
    ∷ drop (downs (all_marks x)) (loose_cablings earlier)
