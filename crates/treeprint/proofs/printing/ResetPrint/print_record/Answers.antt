use Rattle.std.proofs.Common.{arith}
use Rattle.treeprint.proofs.printing.ResetPrint.print_record.Goals as goal

pub print_line-requires : goal.print_line-requires
print_line-requires g c = record { there_is_such_a_line = omega (arith, c.loop-line-test.true, c.line_count-line-end.ensures.is_their_count c.loop-line.self.reset) }
