use Rattle.std.proofs.Common.{◌≡◌, ◌+◌, ◌-◌, ◌*◌, ◌/◌, ◌%◌, ◌^◌, ◌<◌, [], ◌∷◌, ◌++◌, length, take, Some, ap, ◌∙◌, sym, arith}
use Rattle.std.proofs.lemmas.List.{take_more_set, length-set, append_assoc}
use Rattle.std.proofs.lemmas.Nat.{mod_below}
use Rattle.std.proofs.Common.{lit<}
use Rattle.selfid.specs.Marks.{mark_of}
use Rattle.selfid.specs.Reading.{marks_from, mark_in}
use Rattle.selfid.proofs.Codes.{mark_found, next_pair}
use Rattle.selfid.proofs.codec.marks_in.Goals as goal

pub loop-i-preserved : goal.loop-i-preserved
loop-i-preserved g c =
    let q = c.args.word in
    let i = c.loop-i.i in
    let k = g.row.N - i in
    let items = c.loop-i.mark-items in
    let rest = marks_from (g.row.N - (i + 1)) q in
    let within : i < length items = omega (arith, c.loop-i.invariant.long, c.loop-i-test.true) in
    let read : mark_of c.field.result ≡ Some c.unwrap.result = rw c.unwrap.ensures at c.try_from.ensures in
    let bits = c.field.ensures.is_the_number_in_these_bits in
    let small : c.field.result < 4 = omega (arith, bits, mod_below (q / 2 ^ (2 * k)) 4 (lit< tt)) in
    let found : c.unwrap.result ≡ mark_in (q / 2 ^ (2 * k) % 4) = mark_found c.field.result c.unwrap.result small read ∙ ap mark_in bits in
    let next : mark_in (q / 2 ^ (2 * k) % 4) ∷ marks_from (k - 1) q ≡ marks_from k q = next_pair k q (omega (arith, c.loop-i-test.true)) in
    let one_less : k - 1 ≡ g.row.N - (i + 1) = omega arith in
    record {
      all =
          ap (λ ms. ms ++ rest) (take_more_set items i c.unwrap.result within)
          ∙ append_assoc (take i items) (c.unwrap.result ∷ []) rest
          ∙ ap (λ ms. take i items ++ ms) (ap (λ m. m ∷ rest) found ∙ ap (λ n. mark_in (q / 2 ^ (2 * k) % 4) ∷ marks_from n q) (sym one_less) ∙ next)
          ∙ c.loop-i.invariant.all;
      long = length-set items i c.unwrap.result ∙ c.loop-i.invariant.long;
    }
