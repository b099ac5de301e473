-- What a gathering begins with, and what it settles to.
use Rattle.std.proofs.Common.{◌≡◌, ℕ, zero, suc, ◌≤◌, true, false, List, [], length, Some, None, Ok, Err, Option, Result, IfOk, sym, refl, ap, ◌∙◌, subst, inl, inr, arith}
use mathlib.Core.Logic.{∥∥₁_elim}
use native.Mathlib.Bridge.{le_prop}
use Rattle.arrayvec.specs.ArrayVec.{ArrayVec}
use Rattle.selfid.specs.Cabling.{Cabling, node_limit, node, Ports, end, plain, absent}
use Rattle.selfid.specs.Announcement.{announcement}
use Rattle.selfid.specs.Reading.{fields_in}
use Rattle.selfid.proofs.Tells.{announcement_tells_the_cabling}
use Rattle.judging.specs.Beginnings.{Announces, Begins}
use Rattle.judging.specs.Standing.{whole}
use Rattle.judging.proofs.Recognition.{whole_announced, announced_whole}
use Rattle.judging.proofs.Rebuilt.{rebuilt}
use Rattle.stops.specs.declared.Cause.{Cause}
use Rattle.stops.specs.declared.Cause.TheVariants.{NotWhole}
use Rattle.stops.specs.declared.Spoil.{Spoil}
use Rattle.survey.specs.declared.record.Record.{Record}
use Rattle.survey.specs.declared.row.Row.{Row}
use Rattle.survey.specs.Nodes.{SomeCabling}
use Rattle.survey.specs.Questions.{node_count}
use Rattle.survey.specs.declared.gathering.Gathering.{Gathering}
use Rattle.survey.specs.declared.tree.Tree.{Tree}
use Rattle.survey.specs.Waiting.{rows_of}
use Rattle.survey.specs.Tallies.{Fresh}
use Rattle.survey.specs.Views.{Shown, bus, void, gathered, shown, shown_of}
use Rattle.survey.specs.Settling.{SettledBus, SettledAfter, SettleCall}
use Rattle.survey.proofs.Hanging.{nodes_long}
use Rattle.survey.proofs.Gatherings.{quadlets_of, Facts}

-- Nothing begins every announcement, that of a lone node too.
absents : ℕ → Ports
absents zero = end
absents (suc n) = plain absent (absents n)

lone : Cabling
lone = node (fields_in 0) (absents 16)

pub nothing_begins : Begins []
unfolding lone absents
nothing_begins = ∣ (lone, record { behind = announcement lone; announces = record { proper = record { sound = (refl, refl, tt); few = omega arith }; exactly = refl } }) ∣₁

pub fresh_facts : (t : Tree) → Fresh t → Facts [] t
fresh_facts t (rows, ends, r, k, marks) =
    record {
      begins = nothing_begins;
      tallies =
          record {
            counts = (ap length rows, ap length ends, k, r, λ _. k);
            turn = (omega (arith, k), rw k refl);
            marks = marks;
            fields = λ h. absurd (omega (arith, h, k));
            rows = rows;
            ends = λ _. (ends, refl);
          };
    }

-- The same of quadlets that are known to be none.
pub begun_facts : (qs : List ℕ) (t : Tree) → qs ≡ [] → Fresh t → Facts qs t
begun_facts qs t e fresh = subst (λ l. Facts l t) (sym e) (fresh_facts t fresh)

-- The rows of a whole announcement are those of its cabling.
bus_shown : (g : Gathering) (c : Cabling) → Announces c (quadlets_of g) → SettledBus (quadlets_of g) (bus g.tree.rows.items)
bus_shown g c a =
    record {
      cabling = c;
      announces = a;
      only = λ d b. announcement_tells_the_cabling d c b.proper a.proper (b.exactly ∙ sym a.exactly);
      shows = record { nodes = ap bus (g.tallies.rows ∙ ap rows_of (rebuilt c (quadlets_of g) a)); count = nodes_long c 0 None };
    }

-- What a gathering settles to: with nothing that spoiled it, a bus if the announcement is whole.
module _ (g : Gathering) (unspoiled : g.spoil ≡ None) where
  unless_spoiled : {s : Shown} → SettledAfter None (quadlets_of g) s → SettleCall (gathered g) s
  unless_spoiled {s} h = subst (λ k. SettledAfter k (quadlets_of g) s) (sym unspoiled) h

  pub settles_whole : whole (quadlets_of g) ≡ true → SettleCall (gathered g) (bus g.tree.rows.items)
  settles_whole w = let (c, a) = whole_announced (quadlets_of g) g.begins w in unless_spoiled (inl (bus_shown g c a))

  pub settles_early : whole (quadlets_of g) ≡ false → SettleCall (gathered g) (void (NotWhole (length (quadlets_of g))))
  settles_early w = unless_spoiled (inr (record { none_announces = λ c a. (let n = announced_whole c (quadlets_of g) a in cc); begins = g.begins; cause = refl }))

-- So each record of a bus has the nodes of some cabling.
rows_shown : Shown → List Row
rows_shown (bus rs) = rs
rows_shown (void k) = []

pub some_cabling : (s : Option Spoil) (qs : List ℕ) (b : Result (ArrayVec Row) Cause) → SettledAfter s qs (shown_of b) → IfOk b (λ rows. SomeCabling rows.items)
unfolding rows_shown
some_cabling s qs (Err k) h = tt
some_cabling (Some k) qs (Ok rows) e = cc
some_cabling None qs (Ok rows) (inr early) = let e = early.cause in cc
some_cabling None qs (Ok rows) (inl b) = ∣ (b.cabling, b.announces.proper, ap rows_shown b.shows.nodes, b.shows.count) ∣₁

-- And no more than a bus can have.
pub few_nodes : (r : Record) → node_count (shown r) ≤ node_limit
few_nodes r = few r.bus r.shows_some_cabling
  where
    few : (b : Result (ArrayVec Row) Cause) → IfOk b (λ rows. SomeCabling rows.items) → node_count (shown_of b) ≤ node_limit
    few (Err k) h = omega arith
    few (Ok rows) h = ∥∥₁_elim h le_prop λ (c, proper, same, count). omega (arith, ap length same, count, proper.few)
