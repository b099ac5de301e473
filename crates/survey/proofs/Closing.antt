-- The tree tallies with the packets taken when a node has ended.
use Rattle.std.proofs.Common.{◌≡◌, ℕ, ◌≤◌, Bool, true, false, cond, eqb, List, [], ◌∷◌, ◌++◌, length, take, drop, replicate, sym, refl, ap, ◌∙◌, ap₂, arith, length-append}
use Rattle.std.proofs.lemmas.List.{length-drop, length-take-le, length-replicate, take_at, drop_at}
use Rattle.std.proofs.lemmas.Bool.{eqb-false}
use Rattle.selfid.specs.declared.mark.Mark.{Mark}
use Rattle.selfid.specs.declared.mark.Mark.TheVariants.{Absent}
use Rattle.selfid.specs.declared.node.Fields.{Fields}
use Rattle.selfid.specs.declared.packet.Packet.{Packet}
use Rattle.selfid.specs.Marks.{ups, downs}
use Rattle.selfid.specs.Nodes.{port_limit}
use Rattle.selfid.specs.Cabling.{Cabling}
use Rattle.judging.specs.Standing.{has_more, marks_in, under_way, finished_nodes, marks_told, loose_ends, node_so_far}
use Rattle.judging.specs.Rebuilding.{fields_told, all_marks}
use Rattle.survey.specs.declared.row.End.{End}
use Rattle.survey.specs.declared.row.Row.{Row}
use Rattle.survey.specs.declared.tree.Tree.{Tree}
use Rattle.survey.specs.Nodes.{end_at, row_with}
use Rattle.survey.specs.Waiting.{rows_of, ends_of, each_can_hang}
use Rattle.survey.specs.Joining.{rows_joined, ports_joined, up_place}
use Rattle.survey.specs.Judging.{finished, loose}
use Rattle.survey.specs.Hearing.{node_marks, first_taken, taken_ends, told_marks, ended}
use Rattle.survey.specs.Tallies.{cablings_of, Tally}
use Rattle.survey.proofs.Ending.{joined_node, old, ends_taken, ends_parted, old_long, rows_then, ends_then, nodes_then, hang_then, rows_long, ends_long}
use Rattle.survey.proofs.Tallying.{MayCome, fields_sent, ups_then, downs_then, all_marks_then, ups_of_ports, downs_of_ports, ends_were, can_hang, nodes_waiting, loose_waiting}
use Rattle.survey.proofs.Growing.{fields_now}

-- As many, whatever they are.
one_or_none : {X Y : Type 0} (b : Bool) (x : X) (y : Y) → length (cond {A = List X} b [] (x ∷ [])) ≡ length (cond {A = List Y} b [] (y ∷ []))
one_or_none true x y = refl
one_or_none false x y = refl

module _ {ps : List ℕ} {t : Tree} {q : ℕ} {p : Packet} (tally : Tally ps t) (next : MayCome ps t q p) (last : has_more q ≡ false) where
  abbrev then : Tree
  then = told_marks t (fields_sent t p) (marks_in q)

  abbrev x : Fields
  x = fields_told (q ∷ under_way ps)

  abbrev ms : List Mark
  ms = all_marks (q ∷ under_way ps)

  abbrev cs : List Cabling
  cs = cablings_of ps

  abbrev no_ups : Bool
  no_ups = eqb (ups then.marks.items) 0

  all : each_can_hang cs ≡ true
  all = can_hang tally next

  downs_same : downs then.marks.items ≡ downs ms
  downs_same = sym (downs_of_ports tally next) ∙ ap downs (all_marks_then tally next)

  ups_same : ups then.marks.items ≡ ups ms
  ups_same = sym (ups_of_ports tally next) ∙ ap ups (all_marks_then tally next)

  few : downs ms ≤ length cs
  few = omega (arith, downs_same, downs_then tally next, next.few_downs, tally.counts.1, loose_waiting tally next)

  -- The loose ends that it leaves are those of the cablings that it leaves.
  left_long : length (ends_of (old ms cs)) ≡ first_taken then
  left_long = omega (arith, ends_long (old ms cs), old_long x ms cs few, downs_same, loose_waiting tally next)

  ends_cut : t.ends.items ≡ ends_of (old ms cs) ++ ends_taken ms cs
  ends_cut = ends_were tally next ∙ ends_parted x ms cs few

  taken_same : taken_ends then ≡ ends_taken ms cs
  taken_same = ap (drop (first_taken then)) ends_cut ∙ drop_at (ends_of (old ms cs)) (ends_taken ms cs) (first_taken then) left_long

  left_same : take (first_taken then) t.ends.items ≡ ends_of (old ms cs)
  left_same = ap (take (first_taken then)) ends_cut ∙ take_at (ends_of (old ms cs)) (ends_taken ms cs) (first_taken then) left_long

  abbrev grown : (n : ℕ) → Fields → List Mark → List End → List Row → List Row
  grown n y nm es rs = rows_joined n 0 nm es rs ++ (row_with y (ports_joined nm es) ∷ [])

  rows_now : (ended then).rows.items ≡ rows_of (joined_node x ms cs)
  rows_now =
      ap₂ (λ (nm : List Mark) (es : List End). grown (finished t) (fields_sent t p) nm es t.rows.items) (all_marks_then tally next) taken_same
      ∙ ap₂ (λ (y : Fields) (rs : List Row). grown (finished t) y ms (ends_taken ms cs) rs) (fields_now tally next) tally.rows
      ∙ ap (λ (n : ℕ). grown n x ms (ends_taken ms cs) (rows_of cs)) (sym (nodes_waiting tally next))
      ∙ rows_then x ms cs few all

  -- With an up mark the node is the newest loose end.
  one_up : no_ups ≡ false → ups ms ≡ 1
  one_up r = omega (arith, eqb-false (ups then.marks.items) 0 r, ups_same, ups_then tally next, next.few_ups)

  ends_now : no_ups ≡ false → (ended then).ends.items ≡ ends_of (joined_node x ms cs)
  ends_now r =
      ap (λ (b : Bool). take (first_taken then) t.ends.items ++ cond {A = List End} b [] (end_at (finished t) (up_place 0 (node_marks then)) ∷ [])) r
      ∙ ap₂ (λ (l : List End) (nm : List Mark). l ++ (end_at (finished t) (up_place 0 nm) ∷ [])) left_same (all_marks_then tally next)
      ∙ sym (ends_then x ms cs few ∙ ap {B = List End} (λ n. ends_of (old ms cs) ++ (end_at n (up_place 0 ms) ∷ [])) (nodes_waiting tally next))

  marks_long : length ms ≡ port_limit
  marks_long = length-take-le port_limit _ (omega (arith, length-append (marks_told (q ∷ under_way ps)) (replicate port_limit Absent), length-replicate port_limit Absent))

  loose_tallies : loose (ended then) ≡ length (cond {A = List ℕ} (eqb (ups (node_so_far ps q)) 0) [] (length (finished_nodes ps) ∷ []) ++ drop (downs (node_so_far ps q)) (loose_ends (finished_nodes ps)))
  loose_tallies =
      let itself = end_at (finished t) (up_place 0 (node_marks then)) in
      let same : length (cond {A = List End} no_ups [] (itself ∷ [])) ≡ length (cond {A = List ℕ} (eqb (ups (node_so_far ps q)) 0) [] (length (finished_nodes ps) ∷ [])) =
      ap (λ (n : ℕ). length (cond {A = List End} (eqb n 0) [] (itself ∷ []))) (ups_then tally next) ∙ one_or_none (eqb (ups (node_so_far ps q)) 0) itself (length (finished_nodes ps)) in
      omega (
        arith,
        same,
        length-append (take (first_taken then) t.ends.items) (cond {A = List End} no_ups [] (itself ∷ [])),
        length-take-le (first_taken then) t.ends.items (omega arith),
        length-append (cond {A = List ℕ} (eqb (ups (node_so_far ps q)) 0) [] (length (finished_nodes ps) ∷ [])) (drop (downs (node_so_far ps q)) (loose_ends (finished_nodes ps))),
        length-drop (downs (node_so_far ps q)) (loose_ends (finished_nodes ps)),
        downs_then tally next,
        tally.counts.1,
      )

  pub ends_so : Tally (q ∷ ps) (ended then)
  ends_so =
      record {
        counts = rw last (omega (arith, ap length rows_now, rows_long (joined_node x ms cs), nodes_then x ms cs few, nodes_waiting tally next, tally.counts.0), loose_tallies, refl, ap (λ (n : ℕ). eqb n 0) (ups_then tally next), λ _. refl);
        turn = (omega arith, rw last refl);
        marks = rw last refl;
        fields = λ h. absurd (omega (arith, h));
        rows = rw last rows_now;
        ends = rw last (λ r. (ends_now r, hang_then x ms cs few all marks_long (one_up r)));
      }
