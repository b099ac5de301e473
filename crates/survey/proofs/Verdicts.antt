-- What the tree under way judges of a packet is what the tests say of it.
use Rattle.std.proofs.Common.{◌≡◌, ℕ, ◌+◌, ◌/◌, ◌^◌, ◌<◌, ◌≤◌, Bool, true, false, cond, not, ◌&&◌, ◌||◌, eqb, ltb, leb, List, [], ◌∷◌, ◌++◌, length, Some, None, Ok, Err, Decides, Option, Result, sym, refl, ap, ◌∙◌, subst, inl, inr, arith}
use Rattle.std.proofs.lemmas.Bool.{ltb-true, lt-ltb, leb-true, le-leb, not-true}
use Rattle.std.proofs.lemmas.Bool.Decides.{Decides-eqb, Decides-and, Decides-or, Decides-like, Decides-not, Decides-ltb}
use Rattle.selfid.specs.declared.packet.Packet.{Packet}
use Rattle.selfid.specs.declared.packet.Packet.TheVariants.{Zero, Extension as Further}
use Rattle.selfid.specs.declared.packet.PacketFlaw.{PacketFlaw}
use Rattle.selfid.specs.declared.packet.PacketFlaw.TheVariants.{NotSelfId as NoSelfId, ReservedBit as HasReservedBit}
use Rattle.judging.specs.declared.flaw.Flaw.{Flaw}
use Rattle.judging.specs.declared.flaw.Flaw.TheVariants.{NotSelfId, ReservedBit, WrongNumber, OutOfTurn, EmptyExtension, SecondUp, TooManyDown, LooseEndLeft, NoCabling}
use Rattle.selfid.specs.Marks.{ups, downs, present}
use Rattle.selfid.specs.Nodes.{extension_limit}
use Rattle.selfid.specs.Reading.{bits, packet_in, read_zero, read_extension, reserved_set, zero_in, extension_in}
use Rattle.judging.specs.Beginnings.{Begins}
use Rattle.judging.specs.Standing.{is_extension, has_more, turn_of, marks_in, packets_taken, inverse_due, under_way, nodes_finished, loose_count, node_so_far, marks_told, whole}
use Rattle.judging.specs.Tests.{Applies, packet_tests, Tested}
use Rattle.judging.specs.Completion.{enough_with}
use Rattle.judging.proofs.Rows.{ups_++, downs_++}
use Rattle.judging.proofs.Recognition.{packet_follows, not_enough}
use Rattle.survey.specs.declared.tree.Tree.{Tree}
use Rattle.survey.specs.Judging.{finished, loose, completable, judged_parts, judged_packet, judged_read, judged}

-- A packet that was read from a word is what stands in it.
abbrev pub Layout : ℕ → Packet → Type 0
Layout q (Zero x) = (is_extension q ≡ false) × (x ≡ zero_in q)
Layout q (Further x) = (is_extension q ≡ true) × (x ≡ extension_in q)

pub layout : (q : ℕ) (p : Packet) → packet_in q ≡ Ok p → Layout q p
layout q p e = go (eqb (q / 2 ^ 30) 2) (is_extension q) refl refl
  where
    further : (b : Bool) → is_extension q ≡ true → reserved_set q ≡ b → read_extension q ≡ Ok p → Layout q p
    further true k r f = let h = rw r at f in cc
    further false k r f = let h = rw r at f in let e : Further (extension_in q) ≡ p = cc in subst (Layout q) e (k, refl)

    zeroth : (b : Bool) → is_extension q ≡ false → (not (eqb (bits 13 12 q) 0) || eqb (bits 15 14 q) 3) ≡ b → read_zero q ≡ Ok p → Layout q p
    zeroth true k r f = let h = rw r at f in cc
    zeroth false k r f = let h = rw r at f in let e : Zero (zero_in q) ≡ p = cc in subst (Layout q) e (k, refl)

    go : (a b : Bool) → eqb (q / 2 ^ 30) 2 ≡ a → is_extension q ≡ b → Layout q p
    go true true a k = further (reserved_set q) k refl (rw (a, k) at e)
    go true false a k = zeroth (not (eqb (bits 13 12 q) 0) || eqb (bits 15 14 q) 3) k refl (rw (a, k) at e)
    go false b a k = let h = rw a at e in cc

pub judged_by_parts : (t : Tree) (q : ℕ) (p : Packet) → Layout q p → judged_packet t p ≡ judged_parts t (bits 29 24 q) (turn_of q) (marks_in q) (has_more q)
judged_by_parts t q (Zero x) (k, e) = rw (k, e)
judged_by_parts t q (Further x) (k, e) = rw (k, e)

-- A test that is computed, and the tests behind it where it does not apply.
record Says (ts : List Flaw) (qs : List ℕ) (q : ℕ) (v : Option Flaw) : Type 0 where
  tested : Tested ts qs q v

then_test : {qs : List ℕ} {q : ℕ} {ts : List Flaw} {v : Option Flaw} (f : Flaw) (b : Bool) → Decides b (Applies f qs q) → ((Applies f qs q → ⊥) → Says ts qs q v) → Says (f ∷ ts) qs q (cond b (Some f) v)
then_test {qs} {q} {ts} {v} f true d more = record { tested = inl (refl, d.0 refl) }
then_test {qs} {q} {ts} {v} f false d more = record { tested = go v (more off).tested }
  where
    off : Applies f qs q → ⊥
    off a = let e = d.1 a in cc

    go : (v : Option Flaw) → Tested ts qs q v → Tested (f ∷ ts) qs q v
    go None k = (off, k)
    go (Some g) k = inr (off, k)

decides_on : (b : Bool) → Decides b (b ≡ true)
decides_on b = (λ e. e, λ e. e)

decides_off : (b : Bool) → Decides (not b) (b ≡ false)
decides_off b = (not-true b, λ e. rw e)

decides_leb : (a b : ℕ) → Decides (leb a b) (a ≤ b)
decides_leb a b = (leb-true a b, le-leb a b)

-- An extension's turn is not 0.
decides_extension : (q : ℕ) → Decides (ltb 0 (turn_of q)) (is_extension q ≡ true)
decides_extension q = go (is_extension q) refl
  where
    go : (b : Bool) → is_extension q ≡ b → Decides (ltb 0 (turn_of q)) (is_extension q ≡ true)
    go true e = (λ _. e, λ _. rw e (lt-ltb 0 (bits 22 20 q + 1) (omega arith)))
    go false e = (λ h. absurd (let w : 0 < 0 = ltb-true 0 0 (rw e at h) in omega arith), λ h. cc)

module _ (qs : List ℕ) (q : ℕ) (t : Tree) (begins : Begins qs) (unfinished : whole qs ≡ false) (none_due : inverse_due qs ≡ false) (f : finished t ≡ nodes_finished (packets_taken qs)) (l : loose t ≡ loose_count (packets_taken qs)) (k : t.turn ≡ length (under_way (packets_taken qs))) (u : ups t.marks.items ≡ ups (marks_told (under_way (packets_taken qs)))) (d : downs t.marks.items ≡ downs (marks_told (under_way (packets_taken qs)))) where
  ups_now : ups t.marks.items + ups (marks_in q) ≡ ups (node_so_far (packets_taken qs) q)
  ups_now = ap (λ (n : ℕ). n + ups (marks_in q)) u ∙ sym (ups_++ (marks_told (under_way (packets_taken qs))) (marks_in q))

  downs_now : downs t.marks.items + downs (marks_in q) ≡ downs (node_so_far (packets_taken qs) q)
  downs_now = ap (λ (n : ℕ). n + downs (marks_in q)) d ∙ sym (downs_++ (marks_told (under_way (packets_taken qs))) (marks_in q))

  enough_now : completable t (ups t.marks.items + ups (marks_in q)) (downs t.marks.items + downs (marks_in q)) (turn_of q) (has_more q) ≡ enough_with (packets_taken qs) q
  enough_now = rw (f, l, ups_now, downs_now)

  number_test : Decides (not (eqb (bits 29 24 q) (finished t))) (Applies WrongNumber qs q)
  number_test = rw f (Decides-not _ (Decides-eqb (bits 29 24 q) (nodes_finished (packets_taken qs))))

  turn_test : Decides (not (eqb (turn_of q) t.turn) || (eqb (turn_of q) extension_limit && has_more q)) (Applies OutOfTurn qs q)
  turn_test = rw k (Decides-or _ _ (Decides-not _ (Decides-eqb (turn_of q) _)) (Decides-and _ _ (Decides-eqb (turn_of q) extension_limit) (decides_on (has_more q))))

  empty_test : Decides (ltb 0 (turn_of q) && (not (has_more q) && not (present (marks_in q)))) (Applies EmptyExtension qs q)
  empty_test = Decides-like _ (λ (a, b). (a, b.0, b.1)) (λ (a, b, c). (a, (b, c))) (Decides-and _ _ (decides_extension q) (Decides-and _ _ (decides_off (has_more q)) (decides_off (present (marks_in q)))))

  ups_test : Decides (leb 2 (ups t.marks.items + ups (marks_in q))) (Applies SecondUp qs q)
  ups_test = rw ups_now (decides_leb 2 _)

  downs_test : Decides (ltb (loose t) (downs t.marks.items + downs (marks_in q))) (Applies TooManyDown qs q)
  downs_test = rw (l, downs_now) (Decides-ltb _ _)

  root_test : Decides (not (has_more q) && (eqb (ups t.marks.items + ups (marks_in q)) 0 && ltb (downs t.marks.items + downs (marks_in q)) (loose t))) (Applies LooseEndLeft qs q)
  root_test = rw (l, ups_now, downs_now) (Decides-like _ (λ (a, b). (a, b.0, b.1)) (λ (a, b, c). (a, (b, c))) (Decides-and _ _ (decides_off (has_more q)) (Decides-and _ _ (Decides-eqb _ 0) (Decides-ltb _ _))))

  completion_test : Tested (NotSelfId ∷ ReservedBit ∷ WrongNumber ∷ OutOfTurn ∷ EmptyExtension ∷ SecondUp ∷ TooManyDown ∷ LooseEndLeft ∷ []) qs q None → Decides (not (completable t (ups t.marks.items + ups (marks_in q)) (downs t.marks.items + downs (marks_in q)) (turn_of q) (has_more q))) (Applies NoCabling qs q)
  completion_test others = rw enough_now (go (enough_with (packets_taken qs) q) refl)
    where
      go : (b : Bool) → enough_with (packets_taken qs) q ≡ b → Decides (not (enough_with (packets_taken qs) q)) (Begins (qs ++ (q ∷ [])) → ⊥)
      go true e = (λ h. (let n = not-true _ h in cc), λ h. absurd (h (packet_follows qs q begins unfinished none_due others e)))
      go false e = (λ _. not_enough qs q none_due others e, λ _. rw e)

  parts_tested : (Applies NotSelfId qs q → ⊥) → (Applies ReservedBit qs q → ⊥) → Says (WrongNumber ∷ OutOfTurn ∷ EmptyExtension ∷ SecondUp ∷ TooManyDown ∷ LooseEndLeft ∷ NoCabling ∷ []) qs q (judged_parts t (bits 29 24 q) (turn_of q) (marks_in q) (has_more q))
  parts_tested a b =
      then_test WrongNumber _ number_test (λ c.
      then_test OutOfTurn _ turn_test (λ d.
      then_test EmptyExtension _ empty_test (λ e.
      then_test SecondUp _ ups_test (λ g.
      then_test TooManyDown _ downs_test (λ h.
      then_test LooseEndLeft _ root_test (λ i.
      then_test NoCabling _ (completion_test (a, (b, (c, (d, (e, (g, (h, (i, tt))))))))) (λ j. record { tested = tt })))))))

  -- The first test that applies to the packet, or none.
  pub packet_tested : Tested packet_tests qs q (judged t q)
  packet_tested = go (packet_in q) refl
    where
      go : (r : Result Packet PacketFlaw) → packet_in q ≡ r → Tested packet_tests qs q (judged_read t r)
      go (Err NoSelfId) e = inl (refl, e)
      go (Err HasReservedBit) e = inr (λ h. (cc), inl (refl, e))
      go (Ok p) e = behind (judged_packet t p) (λ h. (cc)) (λ h. (cc)) (rw (judged_by_parts t q p (layout q p e)) (parts_tested (λ h. (cc)) (λ h. (cc))).tested)
        where
          behind : (v : Option Flaw) → (Applies NotSelfId qs q → ⊥) → (Applies ReservedBit qs q → ⊥) → Tested (WrongNumber ∷ OutOfTurn ∷ EmptyExtension ∷ SecondUp ∷ TooManyDown ∷ LooseEndLeft ∷ NoCabling ∷ []) qs q v → Tested packet_tests qs q v
          behind None a b k = (a, (b, k))
          behind (Some g) a b k = inr (a, inr (b, k))
