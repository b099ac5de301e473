use Rattle.std.proofs.Common.{rules, ◌≡◌, ◌∙◌}
use Rattle.std.proofs.lemmas.Iterator.{IsFirst-from_position, YieldsList-from_slice}
use borrow.Author.Tests.{tests}
use Rattle.selfid.specs.declared.mark.Mark.TheVariants.{Up}
use Rattle.survey.proofs.Marking.{place_found}
use Rattle.survey.proofs.marks.lowest_up.Goals as goal

pub returns : goal.returns
returns c =
    let first = IsFirst-from_position _ _ c.position.result (λ m. m ≡ Up) (λ m. m ≡ Up → ⊥) c.position.ensures.ran (YieldsList-from_slice c.args.marks.now cc) (λ x q k. search (rules, tests)) (λ x q k. search (rules, tests)) in
    record { is_its_place = c.unwrap_or.ensures ∙ place_found c.position.result c.args.marks.now first }
