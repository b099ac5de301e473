use Rattle.survey.proofs.Settling.{some_cabling}
use Rattle.survey.proofs.gathering.Gathering.settle.Goals as goal

pub invariant_of-result : goal.invariant_of-result
invariant_of-result c = record { shows_some_cabling = some_cabling _ _ _ c.bus.ensures.is_what_it_settles_to }
