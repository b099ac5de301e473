use Rattle.std.proofs.Common.{◌≡◌, ◌+◌, ◌*◌, ◌^◌, length, get_or, drop, sym, ap, ◌∙◌, arith}
use Rattle.std.proofs.lemmas.List.{at_drop_more}
use Rattle.selfid.specs.declared.mark.Mark.TheVariants.{Absent}
use Rattle.selfid.specs.Marks.{mark_code}
use Rattle.selfid.specs.Packets.{packed_codes}
use Rattle.selfid.proofs.Codes.{two_bits_more, code_moved}
use Rattle.selfid.proofs.Digits.{mark_small}
use Rattle.selfid.proofs.codec.packed.Goals as goal

pub loop-mark-preserved : goal.loop-mark-preserved
loop-mark-preserved c =
    let marks = c.args.marks.now in
    let l = c.loop-mark in
    let m = get_or marks l.mark-index Absent in
    let others = drop (l.mark-index + 1) marks in
    let code : c.from-in-loop-mark.result ≡ mark_code m = c.from-in-loop-mark.ensures ∙ c.from.ensures in
    record {
      all =
          ap (λ n. (l.word * 4 + n) * 2 ^ (2 * length others) + packed_codes others) code
          ∙ code_moved l.word m others
          ∙ sym (at_drop_more (λ ms. l.word * 2 ^ (2 * length ms) + packed_codes ms) marks l.mark-index Absent (omega arith))
          ∙ l.invariant.all;
      fit = two_bits_more l.word c.from-in-loop-mark.result l.mark-index l.invariant.fit (omega (arith, code, mark_small m));
    }
