use Rattle.std.proofs.Common.{◌+◌, ◌*◌, drop, refl, ◌∙◌, rules}
use Rattle.std.proofs.lemmas.Iterator.{YieldsList-from_range}
use Rattle.std.proofs.lemmas.Iterator.Consumers.{count_from_yields_List}
use Rattle.std.proofs.lemmas.Iterator.Search.{YieldsList-from_take_while}
use borrow.Author.Tests.{tests}
use Rattle.selfid.specs.Marks.{present}
use Rattle.announce.proofs.Putting.{count_turns}
use Rattle.announce.proofs.node.extension_count.Goals as goal

pub returns : goal.returns
returns c =
    let ms = c.args.marks.now in
    record {
      counts_them =
          count_from_yields_List c.take_while.result c.count.result c.count.ensures.ran
          (YieldsList-from_take_while _ (λ t. present (drop (8 * t + 3) ms)) (YieldsList-from_range 0 2 2 c.take_while.ensures.source refl) c.take_while.ensures.closure c.take_while.ensures.done (λ x b q k. search (rules, tests)))
          ∙ count_turns ms;
    }
