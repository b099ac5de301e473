use Rattle.std.proofs.Common.{sym, ◌∙◌}
use Rattle.survey.proofs.Settling.{settles_whole, settles_early}
use Rattle.survey.proofs.gathering.Gathering.bus.Goals as goal

pub returns-then-not-is_whole : goal.returns-then-not-is_whole
returns-then-not-is_whole c = record { is_what_it_settles_to = rw c.len.ensures.value (settles_early c.args.self c.in_default.is (sym c.is_whole.ensures.tells_if_it_is ∙ c.if-not-is_whole.true)) }

pub returns : goal.returns
returns c = record { is_what_it_settles_to = settles_whole c.args.self c.in_default.is (sym c.is_whole.ensures.tells_if_it_is ∙ c.if-not-is_whole.false) }
