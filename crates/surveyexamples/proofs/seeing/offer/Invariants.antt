use Rattle.std.proofs.Common.{drop}
use Rattle.survey.specs.Views.{gathered}
use Rattle.surveyexamples.specs.Stops.{Seen}
use Rattle.surveyexamples.specs.Examples.{SeesFrom}
use Rattle.surveyexamples.proofs.seeing.offer.Given as goal

-- what is seen is still to be seen of those that are left
abbrev pub invariant-loop-quadlet : goal.invariant-loop-quadlet
invariant-loop-quadlet l = (s : Seen) → SeesFrom (gathered l.initial.gathering) l.quadlets s → SeesFrom (gathered l.gathering) (drop l.quadlet-index l.quadlets) s
