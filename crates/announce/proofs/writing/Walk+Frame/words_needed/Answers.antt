use Rattle.std.proofs.Common.{◌≡◌, true, map, sum, subst, sym, ◌∙◌, arith, rules}
use Rattle.std.proofs.lemmas.Iterator.{YieldsList-from_slice, YieldsList-from_map}
use Rattle.std.proofs.lemmas.Iterator.Adapters.{serves_from_places, fits_from_length, at_most_from_yields_List}
use Rattle.std.proofs.lemmas.Iterator.Consumers.{sum_from_yields_List}
use Rattle.std.proofs.lemmas.List.Sums.{sum-map}
use Rattle.announce.specs.Rows.{has_codes}
use Rattle.announce.specs.Writing.{words_told}
use Rattle.announce.proofs.Told.{codes_here}
use Rattle.announce.proofs.Lengths.{needed}
use Rattle.announce.proofs.writing.Walk+Frame.words_needed.Goals as goal

pub sum-requires-clause-can : goal.sum-requires-clause-can
sum-requires-clause-can c =
    let rows = c.args.self.now.rows.now in (
      tt,
      serves_from_places (YieldsList-from_slice rows (search rules)) (λ x q k. search rules)
          (λ x k h e. let has : has_codes x.now ≡ true = subst (λ r. has_codes r ≡ true) (sym e) (codes_here rows k x.now c.args.self.now.well_formed.in_range h) in search rules),
    )

pub sum-requires-clause-fits : goal.sum-requires-clause-fits
sum-requires-clause-fits c =
    let rows = c.args.self.now.rows.now in
    fits_from_length _ _ 63 _ (at_most_from_yields_List (YieldsList-from_slice rows (search rules)) c.args.self.now.well_formed.few) c.map.ensures.closure (omega arith) (λ x r q k. search rules)

pub returns : goal.returns
returns c =
    let rows = c.args.self.now.rows.now in
    let all : c.sum.result ≡ sum (map words_told rows) = sum_from_yields_List c.map.result c.sum.result c.sum.ensures.ran (YieldsList-from_map _ words_told (YieldsList-from_slice rows (search rules)) c.map.ensures.closure (λ x r q k. search rules)) in
    record { is_the_length_of_what_they_announce = λ d t. all ∙ sum-map words_told rows ∙ needed rows d t }
