use Rattle.std.proofs.Common.{◌≡◌, ◌-◌, ◌++◌, length, take}
use Rattle.selfid.specs.Reading.{marks_from}
use Rattle.selfid.proofs.codec.marks_in.Given as goal

-- The marks so far and those in the pairs of bits that are left are all marks.
abbrev pub invariant-loop-i : goal.invariant-loop-i
invariant-loop-i g l =
    record {
      all : take l.i l.mark-items ++ marks_from (g.row.N - l.i) l.word ≡ marks_from g.row.N l.word;
      long : length l.mark-items ≡ g.row.N;
    }
