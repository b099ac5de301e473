use Rattle.std.proofs.Common.{◌≡◌, ◌+◌, ◌∷◌, length, take, drop, sym, ap, ◌∙◌, ap₂, arith}
use Rattle.std.proofs.lemmas.List.{take_rest, take_all, drop_all, length-drop}
use Rattle.trace.specs.Lines.{lines_of}
use Rattle.trace.proofs.Cuts.{until, until_here, until_later, until_none, first_line}
use Rattle.trace.proofs.lines.cut_line.Goals as goal

pub returns-then-bytes-i-eq10 : goal.returns-then-bytes-i-eq10
returns-then-bytes-i-eq10 c =
    let bytes = c.args.bytes.now in
    let i = c.loop-i.i in
    let n : until 10 bytes ≡ i = omega (arith, c.loop-i.invariant, until_here 10 bytes i c.loop-i-test.true c.if-bytes-i-eq10.true) in
    record {
      cuts_at_the_first_line_feed = first_line bytes c.requires.is_not_empty ∙ ap (λ k. take k bytes ∷ lines_of (drop (k + 1) bytes)) n ∙ ap (λ l. take i bytes ∷ lines_of l) (sym (take_rest bytes (i + 1)));
      leaves_fewer = omega (arith, ap length (take_rest bytes (i + 1)), length-drop (i + 1) bytes, c.loop-i-test.true);
    }

pub loop-i-preserved : goal.loop-i-preserved
loop-i-preserved c = omega (arith, c.loop-i.invariant, until_later 10 c.args.bytes.now c.loop-i.i c.loop-i-test.true c.if-bytes-i-eq10.false)

pub returns : goal.returns
returns c =
    let bytes = c.args.bytes.now in
    let n : until 10 bytes ≡ length bytes = omega (arith, c.loop-i.invariant, c.loop-i.auto.i-end, until_none 10 bytes c.loop-i.i c.loop-i-test.false) in
    record {
      cuts_at_the_first_line_feed = first_line bytes c.requires.is_not_empty ∙ ap (λ k. take k bytes ∷ lines_of (drop (k + 1) bytes)) n ∙ ap₂ (λ a b. a ∷ lines_of b) (take_all (length bytes) bytes (omega arith)) (drop_all (length bytes + 1) bytes (omega arith));
      leaves_fewer = c.requires.is_not_empty;
    }
