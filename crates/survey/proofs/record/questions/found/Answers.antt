use Rattle.std.proofs.Common.{ap, ◌∙◌}
use Rattle.std.specs.Option.{ok_or}
use Rattle.stops.specs.declared.QuestionStop.TheVariants.{NoneSuch}
use Rattle.survey.proofs.Asking.{found_read}
use Rattle.survey.proofs.record.questions.found.Goals as goal

pub returns : goal.returns
returns g c = record { is_the_one_there = c.ok_or.ensures.value ∙ ap (λ o. ok_or o NoneSuch) c.copied.ensures ∙ found_read c.get.result c.args.items.now c.args.place c.get.ensures.lookup.3 }
