use Rattle.announce.proofs.Putting.{HalfSent}
use Rattle.announce.proofs.node.Numbered.write.Given as goal

abbrev pub invariant-loop-turn : goal.invariant-loop-turn
invariant-loop-turn l = HalfSent l.self.number l.turn l.turn-end l.self.node.marks l.initial.out l.out
