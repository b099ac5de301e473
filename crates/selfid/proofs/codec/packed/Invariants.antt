use Rattle.std.proofs.Common.{◌≡◌, ◌+◌, ◌*◌, ◌^◌, ◌<◌, length, drop}
use Rattle.selfid.specs.Packets.{packed_codes}
use Rattle.selfid.proofs.codec.packed.Given as goal

-- The codes so far with the others behind them are all codes, and those so far have two bits each.
abbrev pub invariant-loop-mark : goal.invariant-loop-mark
invariant-loop-mark l =
    record {
      all : l.word * 2 ^ (2 * length (drop l.mark-index l.marks)) + packed_codes (drop l.mark-index l.marks) ≡ packed_codes l.marks;
      fit : l.word < 2 ^ (2 * l.mark-index);
    }
