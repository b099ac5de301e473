use Rattle.std.proofs.Common.{◌∷◌, length, refl, ap, ◌∙◌, arith}
use Rattle.announce.proofs.Told.{no_row, codes_here}
use Rattle.announce.proofs.Opened.{walk_begins, few_frames, row_is, child_entered, room_left, node_done, walk_ends}
use Rattle.announce.proofs.writing.Walk+Frame.write.Goals as goal

pub loop-frame-init : goal.loop-frame-init
loop-frame-init c =
    let known = c.requires.rows_describe_a_cabling in
    let e = c.push.ensures.puts_it_on_top ∙ ap (λ l. record { row = 0; port = 0 } ∷ l) c.new-open.ensures.is_empty in
    (refl, rw e (walk_begins c.args.self.now.rows.now known c.args.out.now (c.requires.there_is_room known.cabling known.describes)))

pub bounds-rows-frame : goal.bounds-rows-frame
bounds-rows-frame c = row_is _ c.in-Some.frame _ _ _ _ (rw c.in-Some.ensures.takes_the_top_if_any at c.loop-frame.invariant.1)

pub enter-requires : goal.enter-requires
enter-requires c =
    let w = rw c.in-Some.ensures.takes_the_top_if_any at c.loop-frame.invariant.1 in
    let few = few_frames _ _ _ _ _ (child_entered _ c.in-Some.frame _ _ _ _ w c.in-Some-next_down.found c.in-Some-next_down.ensures.is_the_first_from_there_on) in
    record { there_is_room = omega (arith, few, c.args.self.now.has_room, c.in-Some.ensures.keeps_the_room, c.loop-frame.invariant.0, c.push.ensures.keeps_the_room, c.new-open.ensures.has_the_room_of_the_row) }

pub loop-frame-smaller-in-Some-next_down : goal.loop-frame-smaller-in-Some-next_down
loop-frame-smaller-in-Some-next_down c =
    let top = c.in-Some.ensures.takes_the_top_if_any in
    let few = few_frames _ _ _ _ _ (child_entered _ c.in-Some.frame _ _ _ _ (rw top at c.loop-frame.invariant.1) c.in-Some-next_down.found c.in-Some-next_down.ensures.is_the_first_from_there_on) in
    omega (arith, few, ap length top, ap length c.enter.ensures.puts_both_on_top)

pub loop-frame-preserved-in-Some-next_down : goal.loop-frame-preserved-in-Some-next_down
loop-frame-preserved-in-Some-next_down c =
    let w = rw c.in-Some.ensures.takes_the_top_if_any at c.loop-frame.invariant.1 in (
      c.enter.ensures.keeps_the_room ∙ c.in-Some.ensures.keeps_the_room ∙ c.loop-frame.invariant.0,
      rw c.enter.ensures.puts_both_on_top (child_entered _ c.in-Some.frame _ _ _ _ w c.in-Some-next_down.found c.in-Some-next_down.ensures.is_the_first_from_there_on),
    )

pub node_of-node-requires : goal.node_of-node-requires
node_of-node-requires c =
    let small = row_is _ c.in-Some.frame _ _ _ _ (rw c.in-Some.ensures.takes_the_top_if_any at c.loop-frame.invariant.1) in
    record { has_codes = codes_here c.args.self.now.rows.now c.in-Some.frame.row no_row c.args.self.now.well_formed.in_range small }

pub write-requires : goal.write-requires
write-requires c =
    let w = rw c.in-Some.ensures.takes_the_top_if_any at c.loop-frame.invariant.1 in
    record { there_is_room = room_left _ c.in-Some.frame _ _ _ _ w _ c.node_of-node.ensures.is_told_by_the_row c.in-None.ensures.is_the_first_from_there_on }

pub loop-frame-smaller : goal.loop-frame-smaller
loop-frame-smaller c =
    let few = few_frames _ _ _ _ _ c.loop-frame.invariant.1 in
    omega (arith, few, ap length c.in-Some.ensures.takes_the_top_if_any)

pub loop-frame-preserved : goal.loop-frame-preserved
loop-frame-preserved c =
    let w = rw c.in-Some.ensures.takes_the_top_if_any at c.loop-frame.invariant.1 in (
      c.in-Some.ensures.keeps_the_room ∙ c.loop-frame.invariant.0,
      node_done _ c.in-Some.frame _ _ _ _ w _ c.node_of-node.ensures.is_told_by_the_row c.in-None.ensures.is_the_first_from_there_on c.write.new.out c.write.ensures.writes_them,
    )

pub returns : goal.returns
returns c = record { writes_it = walk_ends _ _ _ _ (rw c.in_default.ensures.takes_the_top_if_any.0 at c.loop-frame.invariant.1) }
