use Rattle.std.proofs.Common.{rules}
use Rattle.survey.proofs.Settling.{begun_facts}
use Rattle.survey.proofs.gathering.Gathering.new.Goals as goal

pub invariant_of-result : goal.invariant_of-result
invariant_of-result c = begun_facts _ _ (search rules) c.new.ensures.has_heard_nothing
