use Rattle.std.proofs.Common.{drop, ◌∙◌, rules}
use Rattle.std.proofs.lemmas.Iterator.{YieldsList-from_slice}
use Rattle.std.proofs.lemmas.Iterator.Adapters.{YieldsList-from_skip}
use Rattle.std.proofs.lemmas.Iterator.Search.{any_from_yields_List}
use borrow.Author.Tests.{tests}
use Rattle.announce.proofs.Putting.{is_there, some_there}
use Rattle.announce.proofs.node.present_from.Goals as goal

pub returns : goal.returns
returns c =
    record {
      tells_if_one_is =
          any_from_yields_List is_there _ _ c.any.result c.any.ensures.ran (YieldsList-from_skip c.args.first (YieldsList-from_slice c.args.marks.now cc) cc) (λ x b q k. search (rules, tests))
          ∙ some_there (drop c.args.first c.args.marks.now);
    }
