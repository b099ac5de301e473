use Rattle.std.proofs.Common.{sym, ap, arith}
use Rattle.std.proofs.lemmas.List.{drop_more}
use Rattle.selfid.specs.Packets.{bit}
use Rattle.announce.specs.declared.described.RowPort.{RowPort}
use Rattle.stack.specs.Held.{room}
use Rattle.announce.proofs.Reaching.{child_small, has_room}
use Rattle.announce.proofs.tree.reach_children.Goals as goal

no_port : RowPort
no_port = record { mark = 0; child = 0 }

pub push-requires : goal.push-requires
unfolding no_port
push-requires c =
    let ports = c.args.ports.now in
    let i = c.loop-port.port-index in
    let h = rw (drop_more ports i no_port c.loop-port-test.true) at c.loop-port.invariant.2 in
    let small = child_small (room c.args.stack.now) ports i _ c.requires.children_are_rows c.loop-port-test.true (sym c.if-not-has.ensures.tells_if_it_has) in
    let space = has_room _ _ _ _ _ _ _ _ h (sym c.if-not-has.ensures.tells_if_it_has) small (ap bit c.if-reached-child.false) (omega (arith, c.loop-port.invariant.0, c.requires.few_rows)) in
    record { there_is_room = omega (arith, space, c.loop-port.invariant.1) }
