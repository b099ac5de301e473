-- The tree under way has heard a packet, after which its node goes on.
use Rattle.std.proofs.Common.{◌≡◌, ℕ, suc, ◌+◌, ◌≤◌, true, List, [], ◌∷◌, reverse, length, get_or, sym, ap, ◌∙◌, inl, inr, arith}
use Rattle.std.proofs.lemmas.List.{length-reverse, get_or_append_left, nil_from_length}
use Rattle.std.proofs.lemmas.Bool.{cases_lt}
use Rattle.selfid.specs.declared.packet.Packet.{Packet}
use Rattle.selfid.specs.declared.packet.Packet.TheVariants.{Zero, Extension as Further}
use Rattle.selfid.specs.Nodes.{extension_limit}
use Rattle.selfid.specs.Reading.{fields_in, bits}
use Rattle.judging.specs.Standing.{has_more, turn_of, marks_in, under_way}
use Rattle.judging.specs.Rebuilding.{fields_told}
use Rattle.survey.specs.declared.tree.Tree.{Tree}
use Rattle.survey.specs.Judging.{marks_before}
use Rattle.survey.specs.Hearing.{told_marks}
use Rattle.survey.specs.Tallies.{Tally}
use Rattle.survey.proofs.Verdicts.{Layout, layout}
use Rattle.survey.proofs.Ending.{newest_last}
use Rattle.survey.proofs.Tallying.{MayCome, fields_sent, marks_now, long_now}

-- The oldest packet of a node stays the oldest.
oldest : (q : ℕ) (x : List ℕ) → 1 ≤ length x → fields_told (q ∷ x) ≡ fields_told x
oldest q x h =
    ap (λ (l : List ℕ). fields_in (get_or l 0 0)) (newest_last q x) ∙ ap fields_in (get_or_append_left (reverse x) (q ∷ []) 0 0 (omega (arith, h, length-reverse x)))

pub fields_now : {ps : List ℕ} {t : Tree} {q : ℕ} {p : Packet} → Tally ps t → MayCome ps t q p → fields_sent t p ≡ fields_told (q ∷ under_way ps)
fields_now {ps} {t} {q} {p} tally next = go p (layout q p next.read)
  where
    go : (p : Packet) → Layout q p → fields_sent t p ≡ fields_told (q ∷ under_way ps)
    go (Zero x) (k, e) =
        let z : turn_of q ≡ 0 = rw k in
        let none : under_way ps ≡ [] = nil_from_length (under_way ps) (omega (arith, z, next.in_turn, tally.counts.2)) in
        rw (e, none)
    go (Further x) (k, e) =
        let s : turn_of q ≡ bits 22 20 q + 1 = rw k in
        let some : 1 ≤ t.turn = omega (arith, s, next.in_turn) in
        tally.fields some ∙ sym (oldest q (under_way ps) (omega (arith, some, tally.counts.2)))

-- One more packet of the node under way.
module _ {ps : List ℕ} {t : Tree} {q : ℕ} {p : Packet} (tally : Tally ps t) (next : MayCome ps t q p) (more : has_more q ≡ true) where
  abbrev then : Tree
  then = told_marks t (fields_sent t p) (marks_in q)

  next_turn : t.turn + 1 ≡ suc t.turn
  next_turn = omega arith

  turn_in_range : t.turn + 1 ≤ extension_limit
  turn_in_range = elim (cases_lt t.turn extension_limit) [ inl h ↦ omega arith | inr h ↦ let f = next.last (omega (arith, h, tally.turn.0)) in cc ]

  pub goes_on : Tally (q ∷ ps) then
  goes_on =
      record {
        counts = rw more (tally.counts.0, tally.counts.1, omega (arith, tally.counts.2), tally.counts.3, λ r. (let e = next.unrooted in cc));
        turn = (turn_in_range, rw more (long_now tally next ∙ ap marks_before (sym next_turn)));
        marks = rw more (marks_now tally next);
        fields = λ _. rw more (fields_now tally next);
        rows = rw more tally.rows;
        ends = rw more tally.ends;
      }
