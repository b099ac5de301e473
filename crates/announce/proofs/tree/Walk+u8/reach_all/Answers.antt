use Rattle.std.proofs.Common.{◌≡◌, ◌∷◌, length, refl, ap, ◌∙◌, arith}
use Rattle.std.proofs.lemmas.List.{length-take-le}
use Rattle.std.proofs.lemmas.Result.{err_from_is_err_and}
use Rattle.stack.specs.Held.{held, room}
use Rattle.announce.proofs.Told.{no_row}
use Rattle.announce.proofs.Waits.{begun, next_small, taken_off, its_children, put_on, falls, no_cabling, ended}
use Rattle.announce.proofs.tree.Walk+u8.reach_all.Goals as goal

pub loop-next-init : goal.loop-next-init
loop-next-init c =
    let e = c.push.ensures.puts_it_on_top ∙ ap (λ l. 0 ∷ l) c.new-waiting.ensures.is_empty in
    let fits : room c.push.new.stack ≡ length c.args.self.now.rows.now = c.push.ensures.keeps_the_room ∙ c.new-waiting.ensures.has_the_room_of_the_row ∙ length-take-le _ _ c.args.self.now.has_room in
    (refl, fits, rw e (begun c.args.self.now.rows.now c.args.self.now.well_formed.some))

pub bounds-rows-next : goal.bounds-rows-next
bounds-rows-next c =
    let w = rw c.in-Some.ensures.takes_the_top_if_any at c.loop-next.invariant.2 in
    next_small (length c.args.self.now.rows.now) c.in-Some.next (held c.pop.new.self) c.loop-next.reached w.once

pub reach_children-requires : goal.reach_children-requires
reach_children-requires c =
    let rows = c.args.self.now.rows.now in
    let order = c.args.self.now.well_formed in
    let reached = c.loop-next.reached in
    let w = rw c.in-Some.ensures.takes_the_top_if_any at c.loop-next.invariant.2 in
    let fits : room c.pop.new.self ≡ length rows = c.in-Some.ensures.keeps_the_room ∙ c.loop-next.invariant.1 in
    rw fits
    (record {
      children_are_rows = its_children rows c.in-Some.next no_row (held c.pop.new.self) reached reached order w;
      few_rows = order.few;
      each_waits_once = taken_off rows c.in-Some.next no_row (held c.pop.new.self) reached reached order w;
    })

pub loop-next-smaller : goal.loop-next-smaller
loop-next-smaller c =
    let top = c.in-Some.ensures.takes_the_top_if_any in
    let w = rw top at c.loop-next.invariant.2 in
    let less = falls c.args.self.now.rows.now c.in-Some.next no_row (held c.pop.new.self) c.loop-next.reached c.reach_children.new.reached c.args.self.now.well_formed w c.in_ok-reach_children.ensures.children_are_reached in
    rw (c.in_ok-reach_children.ensures.children_wait, top) less

pub loop-next-preserved : goal.loop-next-preserved
loop-next-preserved c =
    let w = rw c.in-Some.ensures.takes_the_top_if_any at c.loop-next.invariant.2 in
    let more = put_on c.args.self.now.rows.now c.in-Some.next no_row (held c.pop.new.self) c.loop-next.reached c.reach_children.new.reached c.args.self.now.well_formed w c.in_ok-reach_children.ensures.children_are_reached in (
      omega arith,
      c.in_ok-reach_children.ensures.keeps_the_room ∙ c.in-Some.ensures.keeps_the_room ∙ c.loop-next.invariant.1,
      rw c.in_ok-reach_children.ensures.children_wait more,
    )

pub returns-in_err-reach_children : goal.returns-in_err-reach_children
returns-in_err-reach_children c =
    let rows = c.args.self.now.rows.now in
    let order = c.args.self.now.well_formed in
    let w = rw c.in-Some.ensures.takes_the_top_if_any at c.loop-next.invariant.2 in
    let p = err_from_is_err_and c.from_residual.result c.from_residual.ensures.1 in
    let fits : room c.pop.new.self ≡ length rows = c.in-Some.ensures.keeps_the_room ∙ c.loop-next.invariant.1 in
    let (stop, (k, l, two)) = c.in_err-reach_children.ensures.refuses_a_row_reached_twice in
    rw p.1
    (record {
      each_is_reached_once = tt;
      refuses_what_describes_no_cabling = (p.2 ∙ stop, no_cabling rows c.in-Some.next no_row (held c.pop.new.self) c.loop-next.reached c.loop-next.reached order w k (rw fits at l) two);
    })

pub returns : goal.returns
returns c = record { each_is_reached_once = ended c.args.self.now.rows.now c.loop-next.reached (rw c.in_default.ensures.takes_the_top_if_any.0 at c.loop-next.invariant.2); refuses_what_describes_no_cabling = tt }
