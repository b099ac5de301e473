use Rattle.std.proofs.Common.{rules, ◌≡◌, sym, ◌∙◌}
use Rattle.std.specs.List.{count_by}
use denote.Enum.Bare.{sameb}
use Rattle.selfid.specs.declared.mark.Mark.{Mark}
use Rattle.selfid.specs.contracts.mark.Mark.{the_type}
use Rattle.survey.proofs.Marking.{times_counted}
use Rattle.survey.proofs.marks.count.Goals as goal

pub returns-clause-is_how_often_it_comes : goal.returns-clause-is_how_often_it_comes
returns-clause-is_how_often_it_comes c =
    let e : c.count.result ≡ count_by (λ (m : Mark). sameb the_type m c.args.mark) c.args.marks.now = search rules in
    e ∙ sym (times_counted c.args.mark c.args.marks.now)
