-- A far end is set in place.
use Rattle.std.proofs.Common.{◌≡◌, ℕ, zero, suc, List, [], ◌∷◌, get_or, set, Some, refl, ap}
use Rattle.survey.specs.declared.row.End.{End}
use Rattle.survey.specs.declared.row.Port.{Port}
use Rattle.survey.specs.declared.row.Row.{Row}
use Rattle.survey.specs.Nodes.{port_with, row_with}
use Rattle.survey.specs.Joining.{ports_led, rows_led}

pub ports_led_set : (xs : List Port) (p : ℕ) (far : End) (d : Port) → set xs p (port_with (get_or xs p d).mark (Some far)) ≡ ports_led xs p far
ports_led_set [] p far d = refl
ports_led_set (x ∷ xs) zero far d = refl
ports_led_set (x ∷ xs) (suc p) far d = ap {B = List Port} (λ r. x ∷ r) (ports_led_set xs p far d)

pub rows_led_set : (rs : List Row) (n p : ℕ) (far : End) (d : Row) (e : Port) → set rs n (row_with (get_or rs n d).fields (set (get_or rs n d).ports p (port_with (get_or (get_or rs n d).ports p e).mark (Some far)))) ≡ rows_led rs n p far
rows_led_set [] n p far d e = refl
rows_led_set (r ∷ rs) zero p far d e = ap {B = List Row} (λ ps. row_with r.fields ps ∷ rs) (ports_led_set r.ports p far e)
rows_led_set (r ∷ rs) (suc n) p far d e = ap {B = List Row} (λ x. r ∷ x) (rows_led_set rs n p far d e)
