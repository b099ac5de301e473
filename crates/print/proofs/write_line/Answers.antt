use Rattle.std.proofs.Common.{arith}
use Rattle.survey.specs.Views.{shown}
use Rattle.print.specs.Print.{print_lines}
use Rattle.print.proofs.Printing.{no_more_lines}
use Rattle.print.proofs.write_line.Goals as goal

pub returns-in_err-print_line-clause-has_room_enough_for_each_line : goal.returns-in_err-print_line-clause-has_room_enough_for_each_line
returns-in_err-print_line-clause-has_room_enough_for_each_line c = λ room there. absurd (omega (arith, there, no_more_lines (print_lines c.args.reset (shown c.args.record.now)) c.args.line _ c.in_err-print_line.ensures.is_that_line))
