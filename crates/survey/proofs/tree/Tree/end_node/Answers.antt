use Rattle.std.proofs.Common.{◌≡◌, ℕ, ◌-◌, Bool, true, false, cond, eqb, List, [], ◌∷◌, ◌++◌, length, take, drop, replicate, sym, ap, ◌∙◌, ap₂, arith}
use Rattle.std.proofs.lemmas.List.{append-nil, take_at, take_rest}
use Rattle.std.proofs.lemmas.Bool.{eq-eqb, ne_eqb}
use Rattle.arrayvec.specs.ArrayVec.{ArrayVec}
use Rattle.selfid.specs.declared.mark.Mark.{Mark}
use Rattle.selfid.specs.declared.mark.Mark.TheVariants.{Absent}
use Rattle.selfid.specs.Marks.{ups, downs}
use Rattle.selfid.specs.Nodes.{port_limit}
use Rattle.survey.specs.declared.row.End.{End}
use Rattle.survey.specs.declared.row.Port.{Port}
use Rattle.survey.specs.declared.row.Row.{Row}
use Rattle.survey.specs.declared.tree.Tree.{Tree}
use Rattle.survey.specs.Nodes.{end_at, row_with}
use Rattle.survey.specs.Joining.{rows_joined, ports_joined, up_place}
use Rattle.survey.specs.Judging.{finished}
use Rattle.survey.specs.Hearing.{node_marks, first_taken, taken_ends, ended}
use Rattle.survey.proofs.Marking.{ups_counted, downs_counted}
use Rattle.survey.proofs.Ending.{within_behind, place_among}
use Rattle.survey.proofs.tree.Tree.end_node.Goals as goal
use Rattle.survey.proofs.tree.Tree.end_node.Goals.{then-not-rooted, else-not-rooted}

pub overflow_sub-first : goal.overflow_sub-first
overflow_sub-first c =
    let d : c.count.result ≡ downs c.args.self.now.marks.items = c.count.ensures.is_how_often_it_comes ∙ downs_counted c.deref.result.now ∙ ap downs c.deref.ensures.0 in
    omega (arith, d, c.requires.it_can_end.2)

pub join-ports-requires-clause-ends_are_ports_of_nodes : goal.join-ports-requires-clause-ends_are_ports_of_nodes
join-ports-requires-clause-ends_are_ports_of_nodes c = rw (take_rest, c.deref-4.ensures.0, c.as_mut_slice.ensures.value) (within_behind (finished c.args.self.now) (c.len.result - c.count.result) c.args.self.now.ends.items c.requires.it_can_end.3)

pub join-ports-requires-clause-one_for_each_down_mark : goal.join-ports-requires-clause-one_for_each_down_mark
join-ports-requires-clause-one_for_each_down_mark c =
    let t = c.args.self.now in
    let d : c.count.result ≡ downs t.marks.items = c.count.ensures.is_how_often_it_comes ∙ downs_counted c.deref.result.now ∙ ap downs c.deref.ensures.0 in
    let marks : c.on_all_ports-marks.result ≡ node_marks t = c.on_all_ports-marks.ensures.are_those_told ∙ ap (λ (l : List Mark). take port_limit (l ++ replicate port_limit Absent)) c.deref-3.ensures.0 in
    omega (arith, d, ap downs marks, c.requires.it_can_end.2, c.requires.it_can_end.4, c.len.ensures.value, ap length c.deref-4.ensures.0)

pub overflow_cast-lowest_up : goal.overflow_cast-lowest_up
overflow_cast-lowest_up c =
    let ms = c.on_all_ports-marks.result in
    let long : length ms ≡ 16 = omega arith in
    record { fits = omega (arith, c.lowest_up.ensures.is_its_place, place_among 0 ms, long) }

same_tree : (t : Tree) (rs : ArrayVec Row) (es : ArrayVec End) (b : Bool) (ms : ArrayVec Mark) → rs.items ≡ (ended t).rows.items → es.items ≡ (ended t).ends.items → b ≡ eqb (ups t.marks.items) 0 → ms.items ≡ [] → ◌≡◌ {A = Tree} (record { rows = rs; ends = es; rooted = b; turn = 0; fields = t.fields; marks = ms }) (ended t)
same_tree t rs es b ms p q r s =
    let made : List Row → List End → Bool → List Mark → Tree = λ x y z w. record { rows = record { items = x }; ends = record { items = y }; rooted = z; turn = 0; fields = t.fields; marks = record { items = w } } in
    ap₂ (λ (x : List Row) (y : List End). made x y b ms.items) p q ∙ ap₂ (λ (z : Bool) (w : List Mark). made (ended t).rows.items (ended t).ends.items z w) r s

pub returns : goal.returns
returns c =
    let t = c.args.self.now in
    let k = c.len.result - c.count.result in
    let d : c.count.result ≡ downs t.marks.items = c.count.ensures.is_how_often_it_comes ∙ downs_counted c.deref.result.now ∙ ap downs c.deref.ensures.0 in
    let u : c.count-rooted.result ≡ ups t.marks.items = c.count-rooted.ensures.is_how_often_it_comes ∙ ups_counted c.deref-2.result.now ∙ ap ups c.deref-2.ensures.0 in
    let marks : c.on_all_ports-marks.result ≡ node_marks t = c.on_all_ports-marks.ensures.are_those_told ∙ ap (λ (l : List Mark). take port_limit (l ++ replicate port_limit Absent)) c.deref-3.ensures.0 in
    let first : k ≡ first_taken t = ap₂ (λ (a b : ℕ). a - b) c.len.ensures.value d in
    let taken : take (length c.deref-4.result.now - k) (drop k c.deref-4.result.now) ≡ taken_ends t = take_rest c.deref-4.result.now k ∙ ap₂ (λ (n : ℕ) (es : List End). drop n es) first c.deref-4.ensures.0 in
    let joined : c.join-ports.new.rows ≡ rows_joined (finished t) 0 (node_marks t) (taken_ends t) t.rows.items =
    c.join-ports.ensures.children_lead_to_it
    ∙ ap₂ (λ (rs : List Row) (ms : List Mark). rows_joined (length rs) 0 ms (take (length c.deref-4.result.now - k) (drop k c.deref-4.result.now)) rs) c.as_mut_slice.ensures.value marks
    ∙ ap (λ (es : List End). rows_joined (finished t) 0 (node_marks t) es t.rows.items) taken in
    let ports : c.join-ports.result ≡ ports_joined (node_marks t) (taken_ends t) = c.join-ports.ensures.it_leads_to_its_children ∙ ap₂ (λ (ms : List Mark) (es : List End). ports_joined ms es) marks taken in
    let kept = take_at c.join-ports.new.rows (drop (length c.join-ports.new.rows) t.rows.items) (finished t) (omega (arith, c.join-ports.auto.rows, ap length c.as_mut_slice.ensures.value)) in
    let rows : c.push.new.self.items ≡ (ended t).rows.items = c.push.ensures.items ∙ ap₂ (λ (rs : List Row) (ps : List Port). rs ++ (row_with t.fields ps ∷ [])) (kept ∙ joined) ports in
    let left : c.truncate.new.self.items ≡ take (first_taken t) t.ends.items = c.truncate.ensures.items ∙ ap (λ (n : ℕ). take n t.ends.items) first in
    let with_itself : Bool → List End = λ b. take (first_taken t) t.ends.items ++ cond b [] (end_at (finished t) (up_place 0 (node_marks t)) ∷ []) in
    elim c.if-not-rooted.branch [
      | then-not-rooted w ↦
          let itself = ap₂ end_at c.len-number.ensures.value (w.lowest_up.ensures.is_its_place ∙ ap (up_place 0) marks) in
          let none : eqb (ups t.marks.items) 0 ≡ false = ne_eqb (ups t.marks.items) 0 (λ e. w.if-not-rooted.true (u ∙ e)) in
          let ends : w.push-then-not-rooted.new.self.items ≡ (ended t).ends.items = w.push-then-not-rooted.ensures.items ∙ ap₂ (λ (l : List End) (e : End). l ++ (e ∷ [])) left itself ∙ ap with_itself (sym none) in
          record { the_node_is_joined = rw w.self-is (same_tree t c.push.new.self w.push-then-not-rooted.new.self _ c.clear.new.self rows ends (ap (λ (n : ℕ). eqb n 0) u) c.clear.ensures) }
      | else-not-rooted w ↦
          let all : eqb (ups t.marks.items) 0 ≡ true = eq-eqb (ups t.marks.items) 0 (sym u ∙ w.if-not-rooted.false) in
          let ends : c.truncate.new.self.items ≡ (ended t).ends.items = left ∙ sym (append-nil (take (first_taken t) t.ends.items)) ∙ ap with_itself (sym all) in
          record { the_node_is_joined = rw w.self-is (same_tree t c.push.new.self c.truncate.new.self _ c.clear.new.self rows ends (ap (λ (n : ℕ). eqb n 0) u) c.clear.ensures) }
    ]
