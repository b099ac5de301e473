use Rattle.std.proofs.Common.{◌≡◌, length, take}
use Rattle.announce.specs.Rows.{HaveMarks}
use Rattle.announce.proofs.rows.marks_of.Given as goal

-- The marks so far have the codes of the ports so far.
abbrev pub invariant-loop-i : goal.invariant-loop-i
invariant-loop-i l =
    record {
      long : length l.mark-items ≡ 16;
      told : HaveMarks (take l.i l.ports) (take l.i l.mark-items);
    }
