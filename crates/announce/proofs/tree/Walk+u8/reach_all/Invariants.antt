use Rattle.std.proofs.Common.{◌≡◌, ◌+◌, length}
use Rattle.stack.specs.Held.{held, room}
use Rattle.announce.proofs.Waits.{Walking, unreached}
use Rattle.announce.proofs.tree.Walk+u8.reach_all.Given as goal

abbrev pub invariant-loop-next : goal.invariant-loop-next
invariant-loop-next l = (length l.reached ≡ 63) × (room l.waiting ≡ length l.rows) × Walking l.rows (held l.waiting) l.reached

abbrev pub decreases-loop-next : goal.decreases-loop-next
decreases-loop-next l = unreached (length l.rows) l.reached + length (held l.waiting)
