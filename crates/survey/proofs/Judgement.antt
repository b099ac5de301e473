-- The verdict on a quadlet, from the tests that are due.
use Rattle.std.proofs.Common.{◌≡◌, ℕ, Bool, true, false, ◌≢◌, List, [], ◌∷◌, ◌++◌, get_or, Some, None, Option, refl, inl, inr}
use Rattle.selfid.specs.Packets.{inverse_of}
use Rattle.judging.specs.declared.flaw.Flaw.{Flaw}
use Rattle.judging.specs.declared.flaw.Flaw.TheVariants.{AlreadyWhole, NotInverse}
use Rattle.judging.specs.Beginnings.{Begins}
use Rattle.judging.specs.Standing.{packets_taken, inverse_due, whole}
use Rattle.judging.specs.Completion.{enough_with}
use Rattle.judging.specs.Tests.{Applies, packet_tests, tests_due, Tested, Verdict}
use Rattle.judging.proofs.Recognition.{inverse_follows, packet_follows, not_enough, turned_away, whole_announced, announced_whole}

module _ (qs : List ℕ) (q : ℕ) where
  turned : (f : Flaw) → Tested (tests_due qs) qs q (Some f) → Verdict qs q (Some f)
  turned f k = record { first_that_applies = k; still_begins = turned_away qs q f k }

  pub verdict_whole : Begins qs → whole qs ≡ true → Verdict qs q (Some AlreadyWhole)
  verdict_whole b w = turned AlreadyWhole (inl (refl, whole_announced qs b w))

  unfinished : whole qs ≡ false → Applies AlreadyWhole qs q → ⊥
  unfinished w (c, a) = let n = announced_whole c qs a in cc

  pub verdict_inverse : Begins qs → whole qs ≡ false → inverse_due qs ≡ true → q ≡ inverse_of (get_or (packets_taken qs) 0 0) → Verdict qs q None
  verdict_inverse b w d e = record { first_that_applies = (unfinished w, rw d ((λ f. f e), tt)); still_begins = inverse_follows qs q b d e }

  pub verdict_not_inverse : whole qs ≡ false → inverse_due qs ≡ true → q ≢ inverse_of (get_or (packets_taken qs) 0 0) → Verdict qs q (Some NotInverse)
  verdict_not_inverse w d e = turned NotInverse (inr (unfinished w, rw d (inl (refl, e))))

  begins_still : Begins qs → whole qs ≡ false → inverse_due qs ≡ false → Tested packet_tests qs q None → Begins (qs ++ (q ∷ []))
  begins_still b w d (a, (e, (f, (g, (h, (i, (j, (k, (l, _))))))))) = go (enough_with (packets_taken qs) q) refl
    where
      go : (x : Bool) → enough_with (packets_taken qs) q ≡ x → Begins (qs ++ (q ∷ []))
      go true x = packet_follows qs q b w d (a, (e, (f, (g, (h, (i, (j, (k, tt)))))))) x
      go false x = absurd (l (not_enough qs q d (a, (e, (f, (g, (h, (i, (j, (k, tt)))))))) x))

  pub verdict_packet : Begins qs → whole qs ≡ false → inverse_due qs ≡ false → (v : Option Flaw) → Tested packet_tests qs q v → Verdict qs q v
  verdict_packet b w d None k = record { first_that_applies = (unfinished w, rw d k); still_begins = begins_still b w d k }
  verdict_packet b w d (Some f) k = turned f (inr (unfinished w, rw d k))
