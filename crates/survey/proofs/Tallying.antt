-- The tree under way tallies with the packets taken, and with one more.
use Rattle.std.proofs.Common.{◌≡◌, ℕ, zero, suc, ◌+◌, ◌<◌, ◌≤◌, Bool, true, false, cond, eqb, List, [], ◌∷◌, ◌++◌, length, take, drop, replicate, Ok, sym, refl, ap, ◌∙◌, append_assoc, arith, length-append}
use Rattle.std.proofs.lemmas.List.{append-nil, length-drop}
use Rattle.selfid.specs.declared.mark.Mark.{Mark}
use Rattle.selfid.specs.declared.mark.Mark.TheVariants.{Absent}
use Rattle.selfid.specs.declared.node.Fields.{Fields}
use Rattle.selfid.specs.declared.packet.Packet.{Packet}
use Rattle.selfid.specs.declared.packet.Packet.TheVariants.{Zero, Extension as Further}
use Rattle.selfid.specs.Marks.{ups, downs}
use Rattle.selfid.specs.Nodes.{port_limit, extension_limit}
use Rattle.selfid.specs.Cabling.{node_limit}
use Rattle.selfid.specs.Reading.{packet_in, extension_in}
use Rattle.judging.specs.Standing.{has_more, turn_of, marks_in, under_way, finished_nodes, marks_told, loose_ends, loose_count, node_so_far}
use Rattle.judging.specs.Rebuilding.{all_marks}
use Rattle.judging.specs.Completion.{nodes_in}
use Rattle.judging.proofs.Readings.{last_three, marks_zeroth, marks_further}
use Rattle.survey.specs.declared.tree.Tree.{Tree}
use Rattle.survey.specs.Waiting.{ends_of, each_can_hang}
use Rattle.survey.specs.Joining.{ends_within}
use Rattle.survey.specs.Judging.{finished, loose, marks_before}
use Rattle.survey.specs.Hearing.{told_limit, node_marks, told_marks, heard_parts, heard, CanEnd, CanTell, CanHear}
use Rattle.survey.specs.Tallies.{cablings_of, Tally}
use Rattle.survey.proofs.Verdicts.{Layout, layout}
use Rattle.survey.proofs.Ending.{rows_long as rows_as_nodes, ends_long as ends_as_cablings, ends_are_ports}
use Rattle.survey.proofs.Telling.{padded, padded_twice, ups_padded, downs_padded, take_padded}

-- The packet p in the word q may come next.
pub record MayCome (ps : List ℕ) (t : Tree) (q : ℕ) (p : Packet) : Type 0 where
  pub unrooted : t.rooted ≡ false
  pub read : packet_in q ≡ Ok p
  pub in_turn : turn_of q ≡ t.turn
  pub last : t.turn ≡ extension_limit → has_more q ≡ false
  pub few_ups : ups (node_so_far ps q) ≤ 1
  pub few_downs : downs (node_so_far ps q) ≤ loose_count ps
  pub room : finished t < node_limit

-- A packet tells as many marks as its turn has.
wide : (q k : ℕ) → turn_of q ≡ k → marks_before k + length (marks_in q) ≡ marks_before (suc k)
wide q zero e = omega (arith, ap length (marks_zeroth q e))
wide q (suc k) e = omega (arith, ap length (marks_further q k e))

-- The fields that a node has told with the packet p.
abbrev pub fields_sent : Tree → Packet → Fields
fields_sent t (Zero x) = x.fields
fields_sent t (Further x) = t.fields

-- There are no more loose ends than nodes.
pub loose_few : (xs : List (List ℕ)) → length (loose_ends xs) ≤ length xs
loose_few [] = omega arith
loose_few (x ∷ xs) =
    let more = cond {A = List ℕ} (eqb (ups (marks_told x)) 0) [] (length xs ∷ []) in
    omega (arith, length-append more (drop (downs (marks_told x)) (loose_ends xs)), length-drop (downs (marks_told x)) (loose_ends xs), one (eqb (ups (marks_told x)) 0) (length xs), loose_few xs)
  where
    one : (b : Bool) (n : ℕ) → length (cond {A = List ℕ} b [] (n ∷ [])) ≤ 1
    one true n = omega arith
    one false n = omega arith

module _ {ps : List ℕ} {t : Tree} {q : ℕ} {p : Packet} (tally : Tally ps t) (next : MayCome ps t q p) where
  -- The tree when the packet's marks are told.
  abbrev pub then : Tree
  then = told_marks t (fields_sent t p) (marks_in q)

  long : length (marks_told (under_way ps)) ≡ marks_before t.turn
  long = tally.turn.1

  wide_now : marks_before t.turn + length (marks_in q) ≡ marks_before (suc t.turn)
  wide_now = wide q t.turn next.in_turn

  within : marks_before (suc t.turn) ≤ told_limit
  within = go t.turn tally.turn.0
    where
      go : (k : ℕ) → k ≤ extension_limit → marks_before (suc k) ≤ told_limit
      go k h = omega (arith, h)

  pub long_now : length (marks_told (q ∷ under_way ps)) ≡ marks_before (suc t.turn)
  long_now = length-append (marks_told (under_way ps)) (marks_in q) ∙ omega (arith, long, wide_now)

  pub marks_now : then.marks.items ≡ marks_told (q ∷ under_way ps)
  marks_now = ap (λ (ms : List Mark). ms ++ marks_in q) tally.marks

  pub ups_then : ups then.marks.items ≡ ups (node_so_far ps q)
  ups_then = ap ups marks_now

  pub downs_then : downs then.marks.items ≡ downs (node_so_far ps q)
  downs_then = ap downs marks_now

  pub all_marks_then : node_marks then ≡ all_marks (q ∷ under_way ps)
  all_marks_then = ap (λ (ms : List Mark). take port_limit (padded ms port_limit)) marks_now

  -- Of the marks behind the last port none is up or down: there are none, or they are the reserved bits of extension 1.
  record Front : Type 0 where
    ms : List Mark
    few : length ms ≤ port_limit
    n : ℕ
    same : then.marks.items ≡ padded ms n

  in_front : Front
  in_front = go t.turn refl
    where
      early : marks_before (suc t.turn) ≤ port_limit → Front
      early h = record { ms = then.marks.items; few = omega (arith, ap length marks_now, long_now, h); n = 0; same = sym (append-nil then.marks.items) }

      go : (k : ℕ) → t.turn ≡ k → Front
      go zero k = early (omega (arith, k))
      go (suc zero) k = early (omega (arith, k))
      go (suc (suc zero)) k =
          let e : turn_of q ≡ 2 = next.in_turn ∙ k in
          let told = marks_told (under_way ps) in
          record {
            ms = told ++ take 5 (extension_in q).marks;
            few = omega (arith, length-append told (take 5 (extension_in q).marks), long, ap marks_before k);
            n = 3;
            same =
                marks_now
                ∙ ap (λ (l : List Mark). told ++ l) (marks_further q 1 e ∙ last_three q (rw next.read) e)
                ∙ sym (append_assoc told (take 5 (extension_in q).marks) (replicate 3 Absent));
          }
      go (suc (suc (suc k))) e = absurd (omega (arith, e, tally.turn.0))

  -- So the marks of the ports have the same.
  ports_padded : (f : Front) → (m : ℕ) × (node_marks then ≡ padded f.ms m)
  ports_padded f =
      let (m, e) = take_padded f.ms port_limit (f.n + port_limit) f.few in
      (m, ap (λ (x : List Mark). take port_limit (padded x port_limit)) f.same ∙ ap (take port_limit) (padded_twice f.ms f.n port_limit) ∙ e)

  pub ups_of_ports : ups (node_marks then) ≡ ups then.marks.items
  ups_of_ports = let (m, e) = ports_padded in_front in ap ups e ∙ ups_padded in_front.ms m ∙ sym (ups_padded in_front.ms in_front.n) ∙ ap ups (sym in_front.same)

  pub downs_of_ports : downs (node_marks then) ≡ downs then.marks.items
  downs_of_ports = let (m, e) = ports_padded in_front in ap downs e ∙ downs_padded in_front.ms m ∙ sym (downs_padded in_front.ms in_front.n) ∙ ap downs (sym in_front.same)

  -- The loose ends are those of the cablings that wait.
  pub ends_were : t.ends.items ≡ ends_of (cablings_of ps)
  ends_were = (tally.ends next.unrooted).0

  pub can_hang : each_can_hang (cablings_of ps) ≡ true
  can_hang = (tally.ends next.unrooted).1

  -- As many nodes wait as are finished, and as many cablings as there are loose ends.
  pub nodes_waiting : nodes_in (cablings_of ps) ≡ finished t
  nodes_waiting = sym (ap length tally.rows ∙ rows_as_nodes (cablings_of ps))

  pub loose_waiting : length (cablings_of ps) ≡ loose t
  loose_waiting = sym (ap length ends_were ∙ ends_as_cablings (cablings_of ps))

  loose_in_range : loose t ≤ finished t
  loose_in_range = omega (arith, tally.counts.0, tally.counts.1, loose_few (finished_nodes ps))

  can_end : CanEnd then
  can_end = (next.room, loose_in_range, omega (arith, downs_then, next.few_downs, tally.counts.1), ap (ends_within (finished t)) ends_were ∙ ends_are_ports (finished t) (cablings_of ps) (omega (arith, nodes_waiting)) can_hang, downs_of_ports)

  can_tell : CanTell t (fields_sent t p) (marks_in q) (has_more q)
  can_tell = (tally.turn.0, omega (arith, ap length tally.marks, long, wide_now, within), λ _. can_end)

-- The packet's own marks are those in its word.
by_word : (t : Tree) (q : ℕ) (p : Packet) → Layout q p → CanTell t (fields_sent t p) (marks_in q) (has_more q) → CanHear t p
by_word t q (Zero x) (k, e) h = rw e (rw k at h)
by_word t q (Further x) (k, e) h = rw e (rw k at h)

pub heard_by_word : (t : Tree) (q : ℕ) (p : Packet) → Layout q p → heard t p ≡ heard_parts t (fields_sent t p) (marks_in q) (has_more q)
heard_by_word t q (Zero x) (k, e) = rw (k, e)
heard_by_word t q (Further x) (k, e) = rw (k, e)

pub can_hear : {ps : List ℕ} {t : Tree} {q : ℕ} {p : Packet} → Tally ps t → MayCome ps t q p → CanHear t p
can_hear {ps} {t} {q} {p} tally next = by_word t q p (layout q p next.read) (can_tell tally next)
