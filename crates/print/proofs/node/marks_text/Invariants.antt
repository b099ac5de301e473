use Rattle.std.proofs.Common.{◌≡◌, map, length, take}
use Rattle.print.specs.Lines.{mark_letter}
use Rattle.print.proofs.node.marks_text.Given as goal

-- The letters so far are those of the marks so far.
abbrev pub invariant-loop-i : goal.invariant-loop-i
invariant-loop-i l =
    record {
      long : length l.letter-items ≡ 16;
      told : map mark_letter (take l.i l.marks) ≡ take l.i l.letter-items;
    }
