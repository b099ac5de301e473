use Rattle.std.proofs.Common.{rules, ◌≡◌, ℕ, ◌<◌, length, get_or, None, sym, ◌∙◌, arith}
use Rattle.std.proofs.lemmas.List.{same_lists, length-map, get_or-map}
use Rattle.selfid.specs.declared.mark.Mark.{Mark}
use Rattle.selfid.specs.declared.mark.Mark.TheVariants.{Absent}
use Rattle.survey.specs.declared.row.Port.{Port}
use Rattle.survey.specs.Nodes.{port_with}
use Rattle.survey.specs.Questions.{marks_on}
use Rattle.survey.proofs.record.questions.marks_of.Goals as goal

pub returns : goal.returns
returns c =
    let none : Port = port_with Absent None in
    let long : length c.args.ports ≡ 16 = omega arith in
    record {
      are_their_marks =
          same_lists c.map.result (marks_on c.args.ports) (omega (arith, c.map.ensures.items.long, long, length-map c.args.ports (λ (p : Port). p.mark)))
          (λ (k : ℕ) (d : Mark) h.
          let l : k < 16 = omega (arith, h, c.map.ensures.items.long) in
          let (p, q, called) = c.map.ensures.items.at k none d l in
          let e : get_or c.map.result k d ≡ (get_or c.args.ports k none).mark = search (rules, called) in
          e ∙ sym (get_or-map (λ (p : Port). p.mark) c.args.ports k none d (omega (arith, l, long))));
    }
