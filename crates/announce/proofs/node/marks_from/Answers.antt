use Rattle.std.proofs.Common.{rules}
use Rattle.selfid.specs.declared.mark.Mark.TheVariants.{Absent}
use Rattle.announce.proofs.Putting.{made_at}
use Rattle.announce.proofs.node.marks_from.Goals as goal

pub returns : goal.returns
returns g c = record { are_the_marks = λ i h. let (q, call) = made_at _ _ c.from_fn.result (λ k y q call. search rules) _ i Absent c.from_fn.ensures.items h in search rules }
