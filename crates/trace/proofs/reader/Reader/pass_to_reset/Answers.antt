use Rattle.std.proofs.Common.{rules, tests}
use Rattle.trace.proofs.Passing.{any_passes}
use Rattle.trace.proofs.reader.Reader.pass_to_reset.Goals as goal

pub returns : goal.returns
returns c =
    let passes = any_passes _ (λ x b p q k. search (rules, tests)) _ _ _ _ c.any.ensures.ran in
    record { tells_if_there_was_one = search (rules, passes.tells); leaves_the_lines_behind_it = passes.leaves; counts_the_lines_passed = passes.counts }
