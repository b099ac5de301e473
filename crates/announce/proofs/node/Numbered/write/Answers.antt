use Rattle.std.proofs.Common.{arith}
use Rattle.selfid.specs.Packets.{with_inverses}
use Rattle.announce.proofs.Putting.{left, none_sent, one_sent, has_room, all_sent, both_written}
use Rattle.announce.proofs.node.Numbered.write.Goals as goal

pub loop-turn-init : goal.loop-turn-init
loop-turn-init c = none_sent _ _ c.zero.result c.args.self.now.node _ _ c.extension_count-turn-end.ensures.counts_them c.requires.there_is_room c.write.ensures.writes_both

pub write-requires-in-loop-turn : goal.write-requires-in-loop-turn
write-requires-in-loop-turn c = record { there_is_room = has_room _ _ _ _ _ _ c.loop-turn.invariant c.loop-turn-test.true }

pub loop-turn-preserved : goal.loop-turn-preserved
loop-turn-preserved c =
    one_sent _ _ _ _ _ _ c.loop-turn.invariant c.loop-turn-test.true c.write-in-loop-turn.new.self (rw c.extension.ensures.is_the_extension at c.write-in-loop-turn.ensures.writes_both)

pub returns : goal.returns
returns c =
    let first = rw c.zero.ensures.is_packet_zero at c.write.ensures.writes_both in
    let others = all_sent _ _ _ _ _ _ c.loop-turn.invariant c.loop-turn-test.false in
    record { writes_them = both_written c.args.out.now c.write.new.self c.loop-turn.out _ (with_inverses (left 2 c.args.self.now.number 0 c.args.self.now.node.marks)) (omega arith) first others }
