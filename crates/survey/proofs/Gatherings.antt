-- What always holds of a gathering.
use Rattle.std.proofs.Common.{◌≡◌, ℕ, ◌-◌, ◌<◌, true, false, List, [], ◌∷◌, ◌++◌, length, get_or, None, Ok, Option, sym, ap, ◌∙◌, ap₂, subst, arith, length-append}
use Rattle.selfid.specs.declared.packet.Packet.{Packet}
use Rattle.selfid.specs.Reading.{packet_in}
use Rattle.selfid.specs.Packets.{inverse_of}
use Rattle.selfid.specs.Marks.{ups, downs}
use Rattle.judging.specs.declared.flaw.Flaw.{Flaw}
use Rattle.judging.specs.Standing.{packets_taken, inverse_due, whole}
use Rattle.judging.specs.Beginnings.{Begins}
use Rattle.judging.specs.Tests.{packet_tests, Tested, Verdict}
use Rattle.judging.proofs.Rebuilt.{quadlets_in_range}
use Rattle.survey.specs.declared.gathering.Gathering.{Gathering}
use Rattle.survey.specs.declared.tree.Tree.{Tree}
use Rattle.survey.specs.Judging.{judged}
use Rattle.survey.specs.Hearing.{heard, CanHear}
use Rattle.survey.specs.Tallies.{Tally}
use Rattle.survey.proofs.Tallying.{MayCome, can_hear}
use Rattle.survey.proofs.Taking.{hears, may_come, packet_taken, inverse_taken, newest_packet}
use Rattle.survey.proofs.Judgement.{verdict_packet}
use Rattle.survey.proofs.Verdicts.{packet_tested}

-- The quadlets taken.
abbrev pub quadlets_of : Gathering → List ℕ
quadlets_of g = g.quadlets.items

module _ (g : Gathering) where
  tested_of : (q : ℕ) → whole (quadlets_of g) ≡ false → inverse_due (quadlets_of g) ≡ false → Tested packet_tests (quadlets_of g) q (judged g.tree q)
  tested_of q w d =
      packet_tested (quadlets_of g) q g.tree g.begins w d g.tallies.counts.0 g.tallies.counts.1 g.tallies.counts.2 (ap ups g.tallies.marks) (ap downs g.tallies.marks)

  -- The verdict on a quadlet that is due as a packet, and the quadlet that is due as an inverse.
  pub verdict_of : (q : ℕ) (v : Option Flaw) → false ≡ whole (quadlets_of g) → false ≡ inverse_due (quadlets_of g) → v ≡ judged g.tree q → Verdict (quadlets_of g) q v
  verdict_of q v w d f = verdict_packet (quadlets_of g) q g.begins (sym w) (sym d) v (subst (Tested packet_tests (quadlets_of g) q) (sym f) (tested_of q (sym w) (sym d)))

  pub due_inverse : (xs : List ℕ) (n i : ℕ) → xs ≡ quadlets_of g → n ≡ length (quadlets_of g) → true ≡ inverse_due (quadlets_of g) → i ≡ inverse_of (get_or xs (n - 1) 0) → i ≡ inverse_of (get_or (packets_taken (quadlets_of g)) 0 0)
  due_inverse xs n i e l d f = f ∙ ap₂ (λ (ys : List ℕ) (m : ℕ). inverse_of (get_or ys (m - 1) 0)) e l ∙ ap inverse_of (sym (newest_packet (quadlets_of g) (sym d)))

-- What must hold of a gathering that has taken qs, with the tree t.
abbrev pub Facts : List ℕ → Tree → Type 0
Facts qs t = record { begins : Begins qs; tallies : Tally (packets_taken qs) t }

-- The quadlet that is taken.
module _ (g : Gathering) (q : ℕ) (passes : Verdict (quadlets_of g) q None) where
  more : Begins (quadlets_of g ++ (q ∷ []))
  more = passes.still_begins

  pub room_for_it : length (quadlets_of g) < 378
  room_for_it = omega (arith, quadlets_in_range (quadlets_of g ++ (q ∷ [])) more, length-append (quadlets_of g) (q ∷ []))

  facts_then : (t : Tree) → Tally (packets_taken (quadlets_of g ++ (q ∷ []))) t → Facts (quadlets_of g ++ (q ∷ [])) t
  facts_then t k = record { begins = more; tallies = k }

  come : (p : Packet) → whole (quadlets_of g) ≡ false → inverse_due (quadlets_of g) ≡ false → packet_in q ≡ Ok p → MayCome (packets_taken (quadlets_of g)) g.tree q p
  come p w d read = may_come (quadlets_of g) g.tree q p g.tallies g.begins w d read (rw d at passes.first_that_applies.1)

  pub hearable : (p : Packet) → whole (quadlets_of g) ≡ false → inverse_due (quadlets_of g) ≡ false → packet_in q ≡ Ok p → CanHear g.tree p
  hearable p w d read = can_hear g.tallies (come p w d read)

  pub packet_facts : (p : Packet) → whole (quadlets_of g) ≡ false → inverse_due (quadlets_of g) ≡ false → packet_in q ≡ Ok p → Facts (quadlets_of g ++ (q ∷ [])) (heard g.tree p)
  packet_facts p w d read = facts_then (heard g.tree p) (subst (λ ps. Tally ps (heard g.tree p)) (sym (packet_taken (quadlets_of g) q d)) (hears g.tallies (come p w d read)))

  pub inverse_facts : inverse_due (quadlets_of g) ≡ true → Facts (quadlets_of g ++ (q ∷ [])) g.tree
  inverse_facts d = facts_then g.tree (subst (λ ps. Tally ps g.tree) (sym (inverse_taken (quadlets_of g) q d)) g.tallies)
