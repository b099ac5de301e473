-- A node that takes the newest cablings that wait shows them below its ports.
use Rattle.std.proofs.Common.{◌≡◌, ℕ, suc, ◌+◌, true, eqb, List, [], ◌∷◌, ◌++◌, length, Some, None, Option, sym, refl, ap, ◌∙◌, ap₂, append_assoc, arith, length-append}
use Rattle.std.proofs.lemmas.Bool.{and_parts, eqb-true}
use Rattle.selfid.specs.declared.mark.Mark.{Mark}
use Rattle.selfid.specs.declared.mark.Mark.TheVariants.{Absent, Open, Up, Down}
use Rattle.selfid.specs.Marks.{ups, downs}
use Rattle.selfid.specs.Cabling.{Cabling, node, Ports, end, plain, down, absent, «open», up, marks_of, size, size_below}
use Rattle.judging.specs.Rebuilding.{hung}
use Rattle.survey.specs.declared.row.End.{End}
use Rattle.survey.specs.declared.row.Port.{Port}
use Rattle.survey.specs.declared.row.Row.{Row}
use Rattle.survey.specs.Nodes.{end_at, port_with, row_with, up_from, top_end, ports_shown, nodes_from, nodes_below}
use Rattle.survey.specs.Waiting.{can_hang, each_can_hang}
use Rattle.survey.specs.Joining.{ports_led, rows_led, rows_joined, ports_joined}

-- As many rows as nodes.
mutual
  pub nodes_long : (c : Cabling) (n : ℕ) (above : Option End) → length (nodes_from n above c) ≡ size c
  nodes_long (node x ps) n above = length-append (nodes_below n (n + size_below ps) 0 ps) _ ∙ omega (arith, below_long ps n (n + size_below ps) 0)

  pub below_long : (ps : Ports) (n parent p : ℕ) → length (nodes_below n parent p ps) ≡ size_below ps
  below_long end n parent p = refl
  below_long (plain k ps) n parent p = below_long ps n parent (suc p)
  below_long (down c ps) n parent p =
      length-append (nodes_from n (Some (end_at parent p)) c) _ ∙ omega (arith, nodes_long c n (Some (end_at parent p)), below_long ps (n + size c) parent (suc p))

-- The far end of the only up port is set.
up_later : (p : ℕ) (ps : Ports) → up_from (suc p) ps ≡ suc (up_from p ps)
up_later p end = refl
up_later p (plain absent ps) = up_later (suc p) ps
up_later p (plain «open» ps) = up_later (suc p) ps
up_later p (plain up ps) = refl
up_later p (down c ps) = up_later (suc p) ps

no_up : (ps : Ports) (n : ℕ) (far : Option End) → ups (marks_of ps) ≡ 0 → ports_shown n None ps ≡ ports_shown n far ps
no_up end n far z = refl
no_up (plain absent ps) n far z = ap {B = List Port} (λ r. port_with Absent None ∷ r) (no_up ps n far z)
no_up (plain «open» ps) n far z = ap {B = List Port} (λ r. port_with Open None ∷ r) (no_up ps n far z)
no_up (plain up ps) n far z = absurd (omega arith)
no_up (down c ps) n far z = ap {B = List Port} (λ r. port_with Down (Some (top_end n c)) ∷ r) (no_up ps (n + size c) far z)

skip : (x : Port) (xs ys : List Port) (ps : Ports) (far : End) → ports_led xs (up_from 0 ps) far ≡ ys → ports_led (x ∷ xs) (up_from 1 ps) far ≡ x ∷ ys
skip x xs ys ps far e = rw (up_later 0 ps) (ap {B = List Port} (λ r. x ∷ r) e)

up_led : (ps : Ports) (n : ℕ) (far : End) → ups (marks_of ps) ≡ 1 → ports_led (ports_shown n None ps) (up_from 0 ps) far ≡ ports_shown n (Some far) ps
up_led end n far one = refl
up_led (plain absent ps) n far one = skip _ _ _ ps far (up_led ps n far one)
up_led (plain «open» ps) n far one = skip _ _ _ ps far (up_led ps n far one)
up_led (plain up ps) n far one = ap {B = List Port} (λ r. port_with Up (Some far) ∷ r) (no_up ps n (Some far) (omega arith))
up_led (down c ps) n far one = skip _ _ _ ps far (up_led ps (n + size c) far one)

led_behind : (qs rs : List Row) (n p : ℕ) (far : End) → rows_led (qs ++ rs) (length qs + n) p far ≡ qs ++ rows_led rs n p far
led_behind [] rs n p far = ap (λ (m : ℕ). rows_led rs m p far) (omega arith)
led_behind (q ∷ qs) rs n p far =
    let e : suc (length qs) + n ≡ suc (length qs + n) = omega arith in
    ap (λ (m : ℕ). rows_led (q ∷ (qs ++ rs)) m p far) e ∙ ap {B = List Row} (λ r. q ∷ r) (led_behind qs rs n p far)

-- The topmost node of a cabling, among other rows, is led to its parent.
top_led : (c : Cabling) (qs rs : List Row) (far : End) → can_hang c ≡ true → rows_led (qs ++ (nodes_from (length qs) None c ++ rs)) (top_end (length qs) c).node (top_end (length qs) c).port far ≡ qs ++ (nodes_from (length qs) (Some far) c ++ rs)
top_led (node x ps) qs rs far one =
    let n = length qs in
    let below = nodes_below n (n + size_below ps) 0 ps in
    let row : List Port → Row = λ ports. row_with x ports in
    let e : length below + 0 ≡ size_below ps = omega (arith, below_long ps n (n + size_below ps) 0) in
    led_behind qs ((below ++ (row (ports_shown n None ps) ∷ [])) ++ rs) (size_below ps) (up_from 0 ps) far
    ∙ ap (λ (r : List Row). qs ++ r)
    (ap₂ (λ (l : List Row) (m : ℕ). rows_led l m (up_from 0 ps) far) (append_assoc below (row (ports_shown n None ps) ∷ []) rs) (sym e)
    ∙ led_behind below (row (ports_shown n None ps) ∷ rs) 0 (up_from 0 ps) far
    ∙ ap (λ (l : List Port). below ++ (row l ∷ rs)) (up_led ps n far (eqb-true (ups (marks_of ps)) 1 (and_parts (eqb (ups (marks_of ps)) 1) _ one).0))
    ∙ sym (append_assoc below (row (ports_shown n (Some far) ps) ∷ []) rs))

-- Cablings that wait, the oldest first, the first of their nodes with the number n: their rows, and their loose ends.
abbrev pub rows_from : (n : ℕ) → List Cabling → List Row
rows_from n [] = []
rows_from n (c ∷ cs) = nodes_from n None c ++ rows_from (n + size c) cs

abbrev pub ends_from : (n : ℕ) → List Cabling → List End
ends_from n [] = []
ends_from n (c ∷ cs) = top_end n c ∷ ends_from (n + size c) cs

-- A node that takes them all leads them to its down ports, from the lowest on.
pub rows_hung : (ms : List Mark) (cs : List Cabling) (parent p : ℕ) (qs : List Row) → length cs ≡ downs ms → each_can_hang cs ≡ true → rows_joined parent p ms (ends_from (length qs) cs) (qs ++ rows_from (length qs) cs) ≡ qs ++ nodes_below (length qs) parent p (hung ms cs)
rows_hung [] [] parent p qs d one = refl
rows_hung [] (c ∷ cs) parent p qs d one = absurd (omega arith)
rows_hung (Absent ∷ ms) cs parent p qs d one = rows_hung ms cs parent (suc p) qs d one
rows_hung (Open ∷ ms) cs parent p qs d one = rows_hung ms cs parent (suc p) qs d one
rows_hung (Up ∷ ms) cs parent p qs d one = rows_hung ms cs parent (suc p) qs d one
rows_hung (Down ∷ ms) [] parent p qs d one = absurd (omega arith)
rows_hung (Down ∷ ms) (c ∷ cs) parent p qs d one =
    let n = length qs in
    let (first, others) = and_parts (can_hang c) (each_can_hang cs) one in
    let more : List Row = qs ++ nodes_from n (Some (end_at parent p)) c in
    let long : length more ≡ n + size c = length-append qs _ ∙ omega (arith, nodes_long c n (Some (end_at parent p))) in
    ap (λ (r : List Row). rows_joined parent (suc p) ms (ends_from (n + size c) cs) r) (top_led c qs (rows_from (n + size c) cs) (end_at parent p) first ∙ sym (append_assoc qs (nodes_from n (Some (end_at parent p)) c) (rows_from (n + size c) cs)))
    ∙ (rw long at (rows_hung ms cs parent (suc p) more (omega arith) others))
    ∙ append_assoc qs (nodes_from n (Some (end_at parent p)) c) (nodes_below (n + size c) parent (suc p) (hung ms cs))

pub ports_hung : (ms : List Mark) (cs : List Cabling) (n : ℕ) → length cs ≡ downs ms → ports_joined ms (ends_from n cs) ≡ ports_shown n None (hung ms cs)
ports_hung [] cs n d = refl
ports_hung (Absent ∷ ms) cs n d = ap {B = List Port} (λ r. port_with Absent None ∷ r) (ports_hung ms cs n d)
ports_hung (Open ∷ ms) cs n d = ap {B = List Port} (λ r. port_with Open None ∷ r) (ports_hung ms cs n d)
ports_hung (Up ∷ ms) cs n d = ap {B = List Port} (λ r. port_with Up None ∷ r) (ports_hung ms cs n d)
ports_hung (Down ∷ ms) [] n d = absurd (omega arith)
ports_hung (Down ∷ ms) (c ∷ cs) n d = ap {B = List Port} (λ r. port_with Down (Some (top_end n c)) ∷ r) (ports_hung ms cs (n + size c) (omega arith))
