use Rattle.std.proofs.Common.{◌≡◌, length, drop}
use Rattle.stack.specs.Held.{held, room}
use Rattle.announce.proofs.Reaching.{HalfReached}
use Rattle.announce.proofs.tree.reach_children.Given as goal

abbrev pub invariant-loop-port : goal.invariant-loop-port
invariant-loop-port l =
    (length l.reached ≡ 63)
    × (room l.stack ≡ room l.initial.stack)
    × HalfReached (room l.initial.stack) (drop l.port-index l.ports) l.ports (held l.stack) l.reached (held l.initial.stack) l.initial.reached
