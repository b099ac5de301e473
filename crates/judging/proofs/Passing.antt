-- A packet can come next exactly if none of the first eight tests of a packet turns it away.
use Rattle.std.proofs.Common.{◌≡◌, ℕ, ◌+◌, ◌<◌, ◌≤◌, Bool, true, false, ◌≢◌, ◌⊎◌, List, [], ◌∷◌, length, is_ok, None, Ok, Err, Result, sym, refl, ap, ◌∙◌, inl, inr, arith}
use native.Mathlib.Decide.{dec_le}
use Rattle.std.proofs.lemmas.Bool.{both_ways, cases_eq, cases_Bool, cond-true}
use Rattle.selfid.specs.declared.mark.Mark.{Mark}
use Rattle.selfid.specs.declared.packet.Packet.{Packet}
use Rattle.selfid.specs.declared.packet.PacketFlaw.{PacketFlaw}
use Rattle.selfid.specs.declared.packet.PacketFlaw.TheVariants.{NotSelfId as NoSelfId, ReservedBit as HasReservedBit}
use Rattle.selfid.specs.Marks.{ups, downs, present}
use Rattle.selfid.specs.Reading.{bits, packet_in}
use Rattle.judging.specs.declared.flaw.Flaw.{Flaw}
use Rattle.judging.specs.declared.flaw.Flaw.TheVariants.{NotSelfId, ReservedBit, WrongNumber, OutOfTurn, EmptyExtension, SecondUp, TooManyDown, LooseEndLeft}
use Rattle.judging.specs.Standing.{is_extension, has_more, turn_of, marks_in, packets_taken, under_way, nodes_finished, loose_count, marks_told, node_so_far}
use Rattle.judging.specs.Tests.{Tested}
use Rattle.judging.proofs.Rows.{ups_++, downs_++}
use Rattle.judging.proofs.Readings.{further}
use Rattle.judging.proofs.Machine.{Turn, first, second, third, order, going, Told, Ends, Fits}
use Rattle.judging.proofs.Standings.{Stands}

-- The tests of a packet but the last.
abbrev pub eight_tests : List Flaw
eight_tests = NotSelfId ∷ ReservedBit ∷ WrongNumber ∷ OutOfTurn ∷ EmptyExtension ∷ SecondUp ∷ TooManyDown ∷ LooseEndLeft ∷ []

is_read : (r : Result Packet PacketFlaw) → (r ≡ Err NoSelfId → ⊥) → (r ≡ Err HasReservedBit → ⊥) → is_ok r ≡ true
is_read (Ok p) a b = refl
is_read (Err NoSelfId) a b = absurd (a refl)
is_read (Err HasReservedBit) a b = absurd (b refl)

not_read : (r : Result Packet PacketFlaw) (f : PacketFlaw) → is_ok r ≡ true → r ≡ Err f → ⊥
not_read r f k e = let z : false ≡ true = sym (ap is_ok e) ∙ k in let o : ◌≡◌ {A = ℕ} 0 1 = cc in omega arith

-- The marks of the node so far, with those of the packet.
pub ups_so_far : (f l u d : ℕ) (t : Turn) (qs : List ℕ) (q : ℕ) → Stands (going f l u d t) (packets_taken qs) → ups (node_so_far (packets_taken qs) q) ≡ u + ups (marks_in q)
ups_so_far f l u d t qs q (_, _, eu, _, _, _) = ups_++ (marks_told (under_way (packets_taken qs))) (marks_in q) ∙ ap (λ o. o + ups (marks_in q)) eu

pub downs_so_far : (f l u d : ℕ) (t : Turn) (qs : List ℕ) (q : ℕ) → Stands (going f l u d t) (packets_taken qs) → downs (node_so_far (packets_taken qs) q) ≡ d + downs (marks_in q)
downs_so_far f l u d t qs q (_, _, _, ed, _, _) = downs_++ (marks_told (under_way (packets_taken qs))) (marks_in q) ∙ ap (λ o. o + downs (marks_in q)) ed

-- What the last packet of a node must be, by its tests.
told_from : (t : Turn) (q : ℕ) → turn_of q ≡ order t → (is_extension q ≡ true → present (marks_in q) ≡ false → ⊥) → Told t (marks_in q)
told_from first q turn k = tt
told_from second q turn k = elim (cases_Bool (present (marks_in q))) [ inl e ↦ e | inr e ↦ absurd (k (further q 0 turn).0 e) ]
told_from third q turn k = elim (cases_Bool (present (marks_in q))) [ inl e ↦ e | inr e ↦ absurd (k (further q 1 turn).0 e) ]

ends_from : (b : Bool) (t : Turn) (q l v e : ℕ) → has_more q ≡ b → turn_of q ≡ order t → (turn_of q ≡ 2 → has_more q ≡ true → ⊥) → (is_extension q ≡ true → has_more q ≡ false → present (marks_in q) ≡ false → ⊥) → e ≤ l → (has_more q ≡ false → v ≡ 0 → e < l → ⊥) → Ends b t (marks_in q) l v e
ends_from true first q l v e more turn last bare held root = tt
ends_from true second q l v e more turn last bare held root = tt
ends_from true third q l v e more turn last bare held root = last turn more
ends_from false t q l v e more turn last bare held root =
    (told_from t q turn (λ x z. bare x more z), λ z. elim (cases_eq e l) [ inl same ↦ same | inr other ↦ absurd (root more z (omega (arith, other))) ])

pub fits_from : (f l u d : ℕ) (t : Turn) (qs : List ℕ) (q : ℕ) → Stands (going f l u d t) (packets_taken qs) → Tested eight_tests qs q None → Fits (going f l u d t) q
fits_from f l u d t qs q s (no_packet, (reserved, (number, (turn, (bare, (second_up, (too_many, (left, _)))))))) =
    let eu = ups_so_far f l u d t qs q s in
    let ed = downs_so_far f l u d t qs q s in
    let loose : loose_count (packets_taken qs) ≡ l = s.1 in
    let in_turn : turn_of q ≡ order t = elim (cases_eq (turn_of q) (length (under_way (packets_taken qs)))) [ inl e ↦ e ∙ s.4 | inr e ↦ absurd (turn (inl e)) ] in
    let held : d + downs (marks_in q) ≤ l = elim (dec_le (d + downs (marks_in q)) l) [ yes h ↦ h | no h ↦ absurd (too_many (omega (arith, h))) ] in (
      is_read (packet_in q) no_packet reserved,
      elim (cases_eq (bits 29 24 q) (nodes_finished (packets_taken qs))) [ inl e ↦ e ∙ s.0 | inr e ↦ absurd (number e) ],
      in_turn,
      elim (dec_le (u + ups (marks_in q)) 1) [ yes h ↦ h | no h ↦ absurd (second_up (omega (arith, h))) ],
      held,
      ends_from (has_more q) t q l (u + ups (marks_in q)) (d + downs (marks_in q)) refl in_turn (λ e m. turn (inr (e, m))) (λ x m z. bare (x, m, z)) held (λ m z less. left (m, eu ∙ z, omega arith)),
    )

-- And back: where a packet can come next, no test applies.
never : {P : Type 0} → true ≡ false → P
never e = absurd (let z : ◌≡◌ {A = ℕ} 0 1 = cc in omega arith)

ends_last : (b : Bool) (t : Turn) (ms : List Mark) (l v e : ℕ) → Ends b t ms l v e → b ≡ true → order t ≡ 2 → ⊥
ends_last true first ms l v e k more turn = omega arith
ends_last true second ms l v e k more turn = omega arith
ends_last true third ms l v e k more turn = k
ends_last false t ms l v e k more turn = never (sym more)

ends_present : (b : Bool) (t : Turn) (ms : List Mark) (l v e n : ℕ) → Ends b t ms l v e → b ≡ false → order t ≡ n + 1 → present ms ≡ true
ends_present false first ms l v e n k more turn = absurd (omega arith)
ends_present false second ms l v e n k more turn = k.0
ends_present false third ms l v e n k more turn = k.0
ends_present true t ms l v e n k more turn = never more

ends_root : (b : Bool) (t : Turn) (ms : List Mark) (l v e : ℕ) → Ends b t ms l v e → b ≡ false → v ≡ 0 → e ≡ l
ends_root false t ms l v e k more z = k.1 z
ends_root true t ms l v e k more z = never more

pub not_applying : (f l u d : ℕ) (t : Turn) (qs : List ℕ) (q : ℕ) → Stands (going f l u d t) (packets_taken qs) → Fits (going f l u d t) q → Tested eight_tests qs q None
not_applying f l u d t qs q s (packet, number, turn, one, held, k) =
    let eu = ups_so_far f l u d t qs q s in
    let ed = downs_so_far f l u d t qs q s in
    let v : ℕ = u + ups (marks_in q) in
    let e : ℕ = d + downs (marks_in q) in
    let loose : loose_count (packets_taken qs) ≡ l = s.1 in
    let turns : (turn_of q ≢ length (under_way (packets_taken qs))) ⊎ ((turn_of q ≡ 2) × (has_more q ≡ true)) → ⊥ = elim [ inl o ↦ o (turn ∙ sym s.4) | inr o ↦ ends_last (has_more q) t (marks_in q) l v e k o.1 (sym turn ∙ o.0) ] in (
      not_read (packet_in q) NoSelfId packet,
      (
        not_read (packet_in q) HasReservedBit packet,
        (
          λ o. o (number ∙ sym s.0),
          (
            turns,
            (
              λ (x, m, z). both_ways (present (marks_in q)) z (ends_present (has_more q) t (marks_in q) l v e (bits 22 20 q) k m (sym turn ∙ cond-true (is_extension q) (bits 22 20 q + 1) 0 x)),
              (λ o. omega (arith, o), (λ o. omega (arith, o), (λ (m, z, less). omega (arith, ends_root (has_more q) t (marks_in q) l v e k m (sym eu ∙ z)), tt))),
            ),
          ),
        ),
      ),
    )
