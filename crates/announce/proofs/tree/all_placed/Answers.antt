use Rattle.std.proofs.Common.{true, false, ◌≡◌, arith, rules}
use Rattle.std.proofs.lemmas.Iterator.{YieldsList-from_slice, YieldsList-from_zip, cases_from_all}
use Rattle.std.proofs.lemmas.Iterator.Consumers.{YieldsList-from_enumerate}
use borrow.Author.Tests.{tests}
use Rattle.announce.proofs.Placing.{is_placed, placed_or_not}
use Rattle.announce.proofs.tree.all_placed.Goals as goal

pub returns : goal.returns
returns c =
    let rows = c.args.rows.now in
    let reached = c.args.reached.now in
    record {
      tells_if_all_are =
          placed_or_not rows reached (omega arith) c.all.result
          (cases_from_all c.all.new.self _ c.all.result (λ p. is_placed p ≡ true) (λ p. is_placed p ≡ false) c.all.ensures.ran
          (YieldsList-from_enumerate (YieldsList-from_zip (YieldsList-from_slice rows (search rules)) (YieldsList-from_slice reached (search rules))) c.enumerate-told.ensures.count)
          (λ x q k. search (rules, tests))
          (λ x q k. search (rules, tests)));
    }
