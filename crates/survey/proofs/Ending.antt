-- A node ends and takes the newest cablings that wait: what is shown and what waits then.
use Rattle.std.proofs.Common.{◌≡◌, ℕ, zero, suc, ◌+◌, ◌<◌, ◌≤◌, true, eqb, ltb, List, [], ◌∷◌, ◌++◌, reverse, length, take, drop, None, sym, refl, ap, ◌∙◌, ap₂, append_assoc, arith, length-append}
use Rattle.std.proofs.lemmas.List.{append-nil, reverse-append}
use Rattle.std.proofs.lemmas.Bool.{and_parts, and_from, eqb-true, eq-eqb, lt-ltb}
use Rattle.selfid.specs.declared.node.Fields.{Fields}
use Rattle.selfid.specs.declared.mark.Mark.{Mark}
use Rattle.selfid.specs.declared.mark.Mark.TheVariants.{Absent, Open, Up, Down}
use Rattle.selfid.specs.Marks.{ups, downs}
use Rattle.selfid.specs.Nodes.{port_limit}
use Rattle.selfid.specs.Cabling.{Cabling, node, Ports, end, plain, down, absent, «open», up, marks_of, size, size_below}
use Rattle.judging.specs.Completion.{nodes_in}
use Rattle.judging.specs.Rebuilding.{hung}
use Rattle.survey.specs.declared.row.End.{End}
use Rattle.survey.specs.declared.row.Row.{Row}
use Rattle.survey.specs.Nodes.{end_at, row_with, up_from, top_end, nodes_from, nodes_below}
use Rattle.survey.specs.Waiting.{rows_of, ends_of, can_hang, each_can_hang}
use Rattle.survey.specs.Joining.{ends_within, rows_joined, ports_joined, up_place}
use Rattle.survey.proofs.Hanging.{nodes_long, rows_from, ends_from, rows_hung, ports_hung}

pub newest_last : {X : Type 0} (x : X) (xs : List X) → reverse (x ∷ xs) ≡ reverse xs ++ (x ∷ [])
newest_last x xs = reverse-append (x ∷ []) xs

rows_more : (n : ℕ) (cs : List Cabling) (c : Cabling) → rows_from n (cs ++ (c ∷ [])) ≡ rows_from n cs ++ nodes_from (n + nodes_in cs) None c
rows_more n [] c = append-nil _ ∙ ap (λ (k : ℕ). nodes_from k None c) (omega arith)
rows_more n (b ∷ cs) c = ap (λ (r : List Row). nodes_from n None b ++ r) (rows_more (n + size b) cs c ∙ ap (λ (k : ℕ). rows_from (n + size b) cs ++ nodes_from k None c) (omega arith)) ∙ sym (append_assoc (nodes_from n None b) _ _)

ends_more : (n : ℕ) (cs : List Cabling) (c : Cabling) → ends_from n (cs ++ (c ∷ [])) ≡ ends_from n cs ++ (top_end (n + nodes_in cs) c ∷ [])
ends_more n [] c = ap {B = List End} (λ k. top_end k c ∷ []) (omega arith)
ends_more n (b ∷ cs) c = ap {B = List End} (λ r. top_end n b ∷ r) (ends_more (n + size b) cs c ∙ ap {B = List End} (λ k. ends_from (n + size b) cs ++ (top_end k c ∷ [])) (omega arith))

nodes_in_more : (cs : List Cabling) (c : Cabling) → nodes_in (cs ++ (c ∷ [])) ≡ nodes_in cs + size c
nodes_in_more [] c = omega arith
nodes_in_more (b ∷ cs) c = omega (arith, nodes_in_more cs c)

pub rows_long : (cs : List Cabling) → length (rows_of cs) ≡ nodes_in cs
rows_long [] = refl
rows_long (c ∷ cs) = length-append (rows_of cs) _ ∙ omega (arith, rows_long cs, nodes_long c (nodes_in cs) None)

pub ends_long : (cs : List Cabling) → length (ends_of cs) ≡ length cs
ends_long [] = refl
ends_long (c ∷ cs) = length-append (ends_of cs) _ ∙ omega (arith, ends_long cs)

-- The d newest, the oldest of them first, and those that stay.
pub record Parted (d : ℕ) (cs : List Cabling) : Type 0 where
  pub rows : rows_of cs ≡ rows_of (drop d cs) ++ rows_from (nodes_in (drop d cs)) (reverse (take d cs))
  pub ends : ends_of cs ≡ ends_of (drop d cs) ++ ends_from (nodes_in (drop d cs)) (reverse (take d cs))
  pub nodes : nodes_in cs ≡ nodes_in (drop d cs) + nodes_in (reverse (take d cs))
  pub long : length (reverse (take d cs)) ≡ d
  pub left : length (drop d cs) + d ≡ length cs

pub parted : (d : ℕ) (cs : List Cabling) → d ≤ length cs → Parted d cs
parted zero cs h = record { rows = sym (append-nil (rows_of cs)); ends = sym (append-nil (ends_of cs)); nodes = omega arith; long = refl; left = omega arith }
parted (suc d) [] h = absurd (omega arith)
parted (suc d) (c ∷ cs) h =
    let p = parted d cs (omega arith) in
    let k = nodes_in (drop d cs) in
    let young = reverse (take d cs) in
    let e = newest_last c (take d cs) in
    let n : k + nodes_in young ≡ nodes_in cs = sym p.nodes in
    record {
      rows =
          ap (λ (r : List Row). r ++ nodes_from (nodes_in cs) None c) p.rows
          ∙ append_assoc (rows_of (drop d cs)) (rows_from k young) _
          ∙ ap (λ (r : List Row). rows_of (drop d cs) ++ r) (sym (rows_more k young c ∙ ap (λ (m : ℕ). rows_from k young ++ nodes_from m None c) n) ∙ ap (rows_from k) (sym e));
      ends =
          ap (λ (r : List End). r ++ (top_end (nodes_in cs) c ∷ [])) p.ends
          ∙ append_assoc (ends_of (drop d cs)) (ends_from k young) _
          ∙ ap (λ (r : List End). ends_of (drop d cs) ++ r) (sym (ends_more k young c ∙ ap {B = List End} (λ m. ends_from k young ++ (top_end m c ∷ [])) n) ∙ ap (ends_from k) (sym e));
      nodes = omega (arith, p.nodes, ap nodes_in e ∙ nodes_in_more young c);
      long = ap length e ∙ length-append young (c ∷ []) ∙ omega (arith, p.long);
      left = omega (arith, p.left);
    }

-- Those that can hang, any of them.
hang_more : (cs : List Cabling) (c : Cabling) → each_can_hang cs ≡ true → can_hang c ≡ true → each_can_hang (cs ++ (c ∷ [])) ≡ true
hang_more [] c all one = and_from (can_hang c) _ one refl
hang_more (b ∷ cs) c all one = let (x, y) = and_parts (can_hang b) (each_can_hang cs) all in and_from (can_hang b) _ x (hang_more cs c y one)

pub young_hang : (d : ℕ) (cs : List Cabling) → each_can_hang cs ≡ true → (each_can_hang (reverse (take d cs)) ≡ true) × (each_can_hang (drop d cs) ≡ true)
young_hang zero cs all = (refl, all)
young_hang (suc d) [] all = (refl, refl)
young_hang (suc d) (c ∷ cs) all =
    let (x, y) = and_parts (can_hang c) (each_can_hang cs) all in
    let (a, b) = young_hang d cs y in
    (ap each_can_hang (newest_last c (take d cs)) ∙ hang_more (reverse (take d cs)) c a x, b)

-- What the ports with these marks and children have.
pub hung_marks : (ms : List Mark) (cs : List Cabling) → length cs ≡ downs ms → marks_of (hung ms cs) ≡ ms
hung_marks [] cs d = refl
hung_marks (Absent ∷ ms) cs d = ap {B = List Mark} (λ r. Absent ∷ r) (hung_marks ms cs d)
hung_marks (Open ∷ ms) cs d = ap {B = List Mark} (λ r. Open ∷ r) (hung_marks ms cs d)
hung_marks (Up ∷ ms) cs d = ap {B = List Mark} (λ r. Up ∷ r) (hung_marks ms cs d)
hung_marks (Down ∷ ms) [] d = absurd (omega arith)
hung_marks (Down ∷ ms) (c ∷ cs) d = ap {B = List Mark} (λ r. Down ∷ r) (hung_marks ms cs (omega arith))

hung_size : (ms : List Mark) (cs : List Cabling) → length cs ≡ downs ms → size_below (hung ms cs) ≡ nodes_in cs
hung_size [] [] d = refl
hung_size [] (c ∷ cs) d = absurd (omega arith)
hung_size (Absent ∷ ms) cs d = hung_size ms cs d
hung_size (Open ∷ ms) cs d = hung_size ms cs d
hung_size (Up ∷ ms) cs d = hung_size ms cs d
hung_size (Down ∷ ms) [] d = absurd (omega arith)
hung_size (Down ∷ ms) (c ∷ cs) d = omega (arith, hung_size ms cs (omega arith))

hung_up : (p : ℕ) (ms : List Mark) (cs : List Cabling) → length cs ≡ downs ms → up_from p (hung ms cs) ≡ up_place p ms
hung_up p [] cs d = refl
hung_up p (Absent ∷ ms) cs d = hung_up (suc p) ms cs d
hung_up p (Open ∷ ms) cs d = hung_up (suc p) ms cs d
hung_up p (Up ∷ ms) cs d = refl
hung_up p (Down ∷ ms) [] d = absurd (omega arith)
hung_up p (Down ∷ ms) (c ∷ cs) d = hung_up (suc p) ms cs (omega arith)

-- The cablings that wait when a node with the fields x and the marks ms has ended.
abbrev pub joined_node : Fields → List Mark → List Cabling → List Cabling
joined_node x ms cs = node x (hung ms (reverse (take (downs ms) cs))) ∷ drop (downs ms) cs

-- Those that it takes, the oldest first, those that it leaves, and the loose ends that it takes.
abbrev pub young : List Mark → List Cabling → List Cabling
young ms cs = reverse (take (downs ms) cs)

abbrev pub old : List Mark → List Cabling → List Cabling
old ms cs = drop (downs ms) cs

abbrev pub ends_taken : List Mark → List Cabling → List End
ends_taken ms cs = ends_from (nodes_in (old ms cs)) (young ms cs)

module _ (x : Fields) (ms : List Mark) (cs : List Cabling) (few : downs ms ≤ length cs) where
  p : Parted (downs ms) cs
  p = parted (downs ms) cs few

  parent : nodes_in (old ms cs) + size_below (hung ms (young ms cs)) ≡ nodes_in cs
  parent = omega (arith, p.nodes, hung_size ms (young ms cs) p.long)

  pub ends_parted : ends_of cs ≡ ends_of (old ms cs) ++ ends_taken ms cs
  ends_parted = p.ends

  pub old_long : length (old ms cs) + downs ms ≡ length cs
  old_long = p.left

  pub rows_then : each_can_hang cs ≡ true → rows_joined (nodes_in cs) 0 ms (ends_taken ms cs) (rows_of cs) ++ (row_with x (ports_joined ms (ends_taken ms cs)) ∷ []) ≡ rows_of (joined_node x ms cs)
  rows_then all =
      let k = nodes_in (old ms cs) in
      let before = rows_of (old ms cs) in
      let ports = hung ms (young ms cs) in
      let h = rw (rows_long (old ms cs)) at (rows_hung ms (young ms cs) (nodes_in cs) 0 before p.long (young_hang (downs ms) cs all).0) in
      ap₂ (λ (a b : List Row). a ++ b)
      (ap (λ (r : List Row). rows_joined (nodes_in cs) 0 ms (ends_taken ms cs) r) p.rows ∙ h ∙ ap (λ (n : ℕ). before ++ nodes_below k n 0 ports) (sym parent))
      (ap {B = List Row} (λ l. row_with x l ∷ []) (ports_hung ms (young ms cs) k p.long))
      ∙ append_assoc before (nodes_below k (k + size_below ports) 0 ports) _

  pub ends_then : ends_of (joined_node x ms cs) ≡ ends_of (old ms cs) ++ (end_at (nodes_in cs) (up_place 0 ms) ∷ [])
  ends_then = ap₂ {C = List End} (λ n q. ends_of (old ms cs) ++ (end_at n q ∷ [])) parent (hung_up 0 ms (young ms cs) p.long)

  pub nodes_then : nodes_in (joined_node x ms cs) ≡ nodes_in cs + 1
  nodes_then = omega (arith, parent)

  pub hang_then : each_can_hang cs ≡ true → length ms ≡ port_limit → ups ms ≡ 1 → each_can_hang (joined_node x ms cs) ≡ true
  hang_then all long one =
      let m = hung_marks ms (young ms cs) p.long in
      and_from (can_hang (node x (hung ms (young ms cs)))) _ (and_from _ _ (eq-eqb _ 1 (ap ups m ∙ one)) (eq-eqb _ port_limit (ap length m ∙ long))) (young_hang (downs ms) cs all).1

-- The loose ends are ports of nodes.
up_among : (p : ℕ) (ps : Ports) → 1 ≤ ups (marks_of ps) → up_from p ps < p + length (marks_of ps)
up_among p end h = absurd (omega arith)
up_among p (plain absent ps) h = omega (arith, up_among (suc p) ps h)
up_among p (plain «open» ps) h = omega (arith, up_among (suc p) ps h)
up_among p (plain up ps) h = omega arith
up_among p (down c ps) h = omega (arith, up_among (suc p) ps h)

within_more : (n : ℕ) (es : List End) (e : End) → ends_within n es ≡ true → e.node < n → e.port < port_limit → ends_within n (es ++ (e ∷ [])) ≡ true
within_more n [] e w a b = and_from (ltb e.node n) _ (lt-ltb e.node n a) (and_from (ltb e.port port_limit) true (lt-ltb e.port port_limit b) refl)
within_more n (x ∷ es) e w a b =
    let (u, v) = and_parts (ltb x.node n) _ w in
    let (y, z) = and_parts (ltb x.port port_limit) _ v in
    and_from (ltb x.node n) _ u (and_from (ltb x.port port_limit) _ y (within_more n es e z a b))

pub ends_are_ports : (m : ℕ) (cs : List Cabling) → nodes_in cs ≤ m → each_can_hang cs ≡ true → ends_within m (ends_of cs) ≡ true
ends_are_ports m [] h all = refl
ends_are_ports m (node x ps ∷ cs) h all =
    let (a, b) = and_parts (can_hang (node x ps)) (each_can_hang cs) all in
    let (u, v) = and_parts (eqb (ups (marks_of ps)) 1) _ a in
    let one = eqb-true (ups (marks_of ps)) 1 u in
    let long = eqb-true (length (marks_of ps)) port_limit v in
    within_more m (ends_of cs) (top_end (nodes_in cs) (node x ps)) (ends_are_ports m cs (omega arith) b) (omega arith) (omega (arith, up_among 0 ps (omega arith)))

pub within_behind : (n k : ℕ) (es : List End) → ends_within n es ≡ true → ends_within n (drop k es) ≡ true
within_behind n zero es w = w
within_behind n (suc k) [] w = w
within_behind n (suc k) (x ∷ es) w = within_behind n k es (and_parts (ltb x.port port_limit) _ (and_parts (ltb x.node n) _ w).1).1

pub place_among : (p : ℕ) (ms : List Mark) → up_place p ms ≤ p + length ms
place_among p [] = omega arith
place_among p (Absent ∷ ms) = omega (arith, place_among (suc p) ms)
place_among p (Open ∷ ms) = omega (arith, place_among (suc p) ms)
place_among p (Up ∷ ms) = omega arith
place_among p (Down ∷ ms) = omega (arith, place_among (suc p) ms)
