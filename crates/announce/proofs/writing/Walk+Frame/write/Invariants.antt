use Rattle.std.proofs.Common.{◌≡◌, ◌-◌, ◌*◌, length}
use Rattle.stack.specs.Held.{held, room}
use Rattle.announce.proofs.Opened.{Walked}
use Rattle.announce.proofs.writing.Walk+Frame.write.Given as goal

abbrev pub invariant-loop-frame : goal.invariant-loop-frame
invariant-loop-frame l = (room l.open ≡ room l.initial.open) × Walked l.rows (held l.open) l.number l.initial.out l.out

-- every node that is open is still to be written, and opening one or writing one takes a turn
abbrev pub decreases-loop-frame : goal.decreases-loop-frame
decreases-loop-frame l = 2 * (length l.rows - l.number) - length (held l.open)
