use Rattle.std.proofs.Common.{refl}
use Rattle.surveyexamples.specs.Examples.{examples, further_examples, leaves_examples}
use Rattle.surveyexamples.proofs.Computed.{all_seen}
use Rattle.surveyexamples.proofs.Shown as shown
use Rattle.surveyexamples.proofs.examples.print_examples.Goals as goal

pub returns : goal.returns
returns c =
    record {
      every_example_is_seen = all_seen examples (refl, (refl, (refl, (refl, (refl, (refl, (refl, (refl, tt))))))));
      every_further_example_is_seen = all_seen further_examples (refl, (refl, (refl, (refl, tt))));
      only_58_leaves_are_taken = all_seen leaves_examples (refl, (refl, tt));
      the_bench_of_three_is_shown = shown.bench_is_shown;
    }
