-- A quadlet is taken: the tests let it pass, and the tree tallies with it.
use Rattle.std.proofs.Common.{◌≡◌, ℕ, ◌+◌, ◌-◌, ◌%◌, ◌≤◌, Bool, true, false, eqb, List, [], ◌∷◌, ◌++◌, reverse, length, get_or, take, None, Ok, sym, refl, ap, ◌∙◌, subst, inl, inr, arith}
use Rattle.std.proofs.lemmas.List.{take_more, take_all, length-take-le, reverse-append}
use Rattle.std.proofs.lemmas.Bool.{eqb-true, eqb-false, eq-eqb, ne_eqb}
use Rattle.selfid.specs.declared.packet.Packet.{Packet}
use Rattle.selfid.specs.Reading.{packet_in}
use Rattle.judging.specs.Beginnings.{Begins}
use Rattle.judging.specs.Standing.{has_more, turn_of, marks_in, packets_taken, without_inverses, inverse_due, under_way, whole}
use Rattle.judging.specs.Tests.{packet_tests, Tested}
use Rattle.judging.proofs.Quadlets.{packet_more, inverse_more}
use Rattle.judging.proofs.Recognition.{node_may_come}
use Rattle.survey.specs.declared.tree.Tree.{Tree}
use Rattle.survey.specs.Hearing.{heard_parts, heard}
use Rattle.survey.specs.Tallies.{Tally}
use Rattle.survey.proofs.Verdicts.{layout}
use Rattle.survey.proofs.Tallying.{MayCome, fields_sent, heard_by_word}
use Rattle.survey.proofs.Growing.{goes_on}
use Rattle.survey.proofs.Closing.{ends_so}

-- The tree has heard a packet.
pub hears : {ps : List ℕ} {t : Tree} {q : ℕ} {p : Packet} → Tally ps t → MayCome ps t q p → Tally (q ∷ ps) (heard t p)
hears {ps} {t} {q} {p} tally next = subst (Tally (q ∷ ps)) (sym (heard_by_word t q p (layout q p next.read))) (go (has_more q) refl)
  where
    go : (b : Bool) → has_more q ≡ b → Tally (q ∷ ps) (heard_parts t (fields_sent t p) (marks_in q) (has_more q))
    go true e = rw e (goes_on tally next e)
    go false e = rw e (ends_so tally next e)

-- No root has ended while the announcement is not whole.
pub no_root_yet : (qs : List ℕ) (t : Tree) → Tally (packets_taken qs) t → whole qs ≡ false → inverse_due qs ≡ false → t.rooted ≡ false
no_root_yet qs t tally w d = go t.rooted refl
  where
    go : (b : Bool) → t.rooted ≡ b → b ≡ false
    go false e = refl
    go true e =
        let root = sym tally.counts.3 ∙ e in
        let none : eqb (length (under_way (packets_taken qs))) 0 ≡ true = eq-eqb _ 0 (sym tally.counts.2 ∙ tally.counts.4 e) in
        let n : whole qs ≡ true = rw (d, none, root) in cc

-- What the tests of a packet, none of which applies, say of it.
pub may_come : (qs : List ℕ) (t : Tree) (q : ℕ) (p : Packet) → Tally (packets_taken qs) t → Begins qs → whole qs ≡ false → inverse_due qs ≡ false → packet_in q ≡ Ok p → Tested packet_tests qs q None → MayCome (packets_taken qs) t q p
may_come qs t q p tally begins w d read (n3, (n4, (n5, (n6, (n7, (n8, (n9, rest))))))) =
    record {
      unrooted = no_root_yet qs t tally w d;
      read = read;
      in_turn = same (turn_of q) (length (under_way (packets_taken qs))) (λ f. n6 (inl f)) ∙ sym tally.counts.2;
      last = λ e. off (has_more q) (λ m. n6 (inr (same (turn_of q) (length (under_way (packets_taken qs))) (λ f. n6 (inl f)) ∙ sym tally.counts.2 ∙ e, m)));
      few_ups = omega (arith, n8);
      few_downs = omega (arith, n9);
      room = omega (arith, tally.counts.0, node_may_come qs begins w d);
    }
  where
    same : (a b : ℕ) → ((a ≡ b → ⊥) → ⊥) → a ≡ b
    same a b f = go (eqb a b) refl
      where
        go : (c : Bool) → eqb a b ≡ c → a ≡ b
        go true e = eqb-true a b e
        go false e = absurd (f (eqb-false a b e))

    off : (b : Bool) → (b ≡ true → ⊥) → b ≡ false
    off true f = absurd (f refl)
    off false f = refl

-- The packets taken when a packet or an inverse is taken.
pub packet_taken : (qs : List ℕ) (q : ℕ) → inverse_due qs ≡ false → packets_taken (qs ++ (q ∷ [])) ≡ q ∷ packets_taken qs
packet_taken qs q d = ap reverse (packet_more qs q d) ∙ reverse-append (without_inverses qs) (q ∷ [])

pub inverse_taken : (qs : List ℕ) (q : ℕ) → inverse_due qs ≡ true → packets_taken (qs ++ (q ∷ [])) ≡ packets_taken qs
inverse_taken qs q d = ap reverse (inverse_more qs q d)

-- While an inverse is due, the newest packet is the newest quadlet.
pub newest_packet : (qs : List ℕ) → inverse_due qs ≡ true → get_or (packets_taken qs) 0 0 ≡ get_or qs (length qs - 1) 0
newest_packet qs d =
    let odd = eqb-true (length qs % 2) 1 d in
    let n = length qs - 1 in
    let front = take n qs in
    let one : 1 ≤ length qs = omega (arith, odd) in
    let same : front ++ (get_or qs n 0 ∷ []) ≡ qs = sym (take_more qs n 0 (omega (arith, one))) ∙ take_all (n + 1) qs (omega (arith, one)) in
    let even : inverse_due front ≡ false = ne_eqb _ 1 (λ e. omega (arith, e, odd, length-take-le n qs (omega arith))) in
    ap (λ (l : List ℕ). get_or (packets_taken l) 0 0) (sym same) ∙ ap (λ (l : List ℕ). get_or l 0 0) (packet_taken front (get_or qs n 0) even)
