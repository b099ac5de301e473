use Rattle.std.proofs.Common.{length}
use Rattle.survey.specs.Views.{gathered}
use Rattle.survey.proofs.Fills.{Far}
use Rattle.survey.proofs.gathering.Gathering.fill.Given as goal

abbrev pub invariant-loop-quadlet : goal.invariant-loop-quadlet
invariant-loop-quadlet g l =
    let s = g.S.Source in
    Far (s.waiting l.initial.source) (s.ending l.initial.source) (gathered l.initial.self) (s.waiting l.source) (s.ending l.source) l.taken (gathered l.self)

abbrev pub decreases-loop-quadlet : goal.decreases-loop-quadlet
decreases-loop-quadlet g l = length (g.S.Source.waiting l.source)
