-- The questions that a record answers. None of them changes it.
use Rattle.std.specs.Prelude.{ℕ, List, [], ◌∷◌, map, length, Some, None, Ok, Err, Option, Result}
use Rattle.selfid.specs.declared.mark.Mark.{Mark}
use Rattle.selfid.specs.declared.node.Fields.{Fields}
use Rattle.stops.specs.declared.Cause.{Cause}
use Rattle.stops.specs.declared.QuestionStop.{QuestionStop}
use Rattle.stops.specs.declared.QuestionStop.TheVariants.{NoneSuch, Void}
use Rattle.survey.specs.declared.row.Port.{Port}
use Rattle.survey.specs.declared.row.Row.{Row}
use Rattle.survey.specs.Views.{Shown, bus, void}

-- How many nodes there are, and why the record is void.
abbrev pub node_count : Shown → ℕ
node_count (bus rs) = length rs
node_count (void k) = 0

abbrev pub void_cause : Shown → Option Cause
void_cause (bus rs) = None
void_cause (void k) = Some k

-- The element at a place of a list, if there is one.
abbrev pub found_at : {A : Type 0} → List A → ℕ → Result A QuestionStop
found_at [] i = Err NoneSuch
found_at (x ∷ xs) ℕ.zero = Ok x
found_at (x ∷ xs) (ℕ.suc i) = found_at xs i

abbrev pub row_asked : Shown → (i : ℕ) → Result Row QuestionStop
row_asked (bus rs) i = found_at rs i
row_asked (void k) i = Err Void

-- A node's fields.
abbrev pub fields_found : Result Row QuestionStop → Result Fields QuestionStop
fields_found (Ok r) = Ok r.fields
fields_found (Err e) = Err e

abbrev pub node_asked : Shown → (i : ℕ) → Result Fields QuestionStop
node_asked s i = fields_found (row_asked s i)

-- A node's marks, by rising port.
abbrev pub marks_on : List Port → List Mark
marks_on ps = map (λ (p : Port). p.mark) ps

abbrev pub marks_found : Result Row QuestionStop → Result (List Mark) QuestionStop
marks_found (Ok r) = Ok (marks_on r.ports)
marks_found (Err e) = Err e

abbrev pub marks_asked : Shown → (i : ℕ) → Result (List Mark) QuestionStop
marks_asked s i = marks_found (row_asked s i)

-- A port's mark and far end.
abbrev pub port_found : Result Row QuestionStop → (p : ℕ) → Result Port QuestionStop
port_found (Ok r) p = found_at r.ports p
port_found (Err e) p = Err e

abbrev pub port_asked : Shown → (i p : ℕ) → Result Port QuestionStop
port_asked s i p = port_found (row_asked s i) p
