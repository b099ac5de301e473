use Rattle.std.proofs.Common.{arith}
use Rattle.survey.proofs.Marking.{told_in_front}
use Rattle.survey.proofs.marks.on_all_ports.Goals as goal

pub returns : goal.returns
returns c = record { are_those_told = rw c.copy_from_slice.ensures.after (told_in_front c.args.told.now 16 16 c.min-known.result (omega arith) (omega arith) (omega arith) (λ h. omega arith)) }
