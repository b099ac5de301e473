use Rattle.std.proofs.Common.{refl}
use Rattle.announce.proofs.Placing.{all_placed, misplaced}
use Rattle.announce.proofs.tree.Walk+u8.check_tree.Goals as goal

pub returns-then-all_placed : goal.returns-then-all_placed
returns-then-all_placed c =
    let all = c.in_ok-reached.ensures.each_is_reached_once in
    let (told, proper) = all_placed c.args.self.now.rows.now c.in_ok-reached.reached c.args.self.now.well_formed all c.if-all_placed.ensures.tells_if_all_are in
    record { passes_what_describes_a_proper_cabling = record { cabling = all.cabling; describes = told; proper = proper }; refuses_what_describes_none = tt }

pub returns-else-all_placed : goal.returns-else-all_placed
returns-else-all_placed c =
    let (i, small, out) = c.if-all_placed.ensures.tells_if_all_are in
    record {
      passes_what_describes_a_proper_cabling = tt;
      refuses_what_describes_none = (refl, misplaced c.args.self.now.rows.now c.in_ok-reached.reached c.in_ok-reached.ensures.each_is_reached_once i small out);
    }
