-- The word that a packet was read from.
use Rattle.std.proofs.Common.{◌≡◌, ℕ, suc, ◌+◌, ◌/◌, ◌^◌, ◌≤◌, Bool, true, false, cond, not, ◌&&◌, ◌||◌, eqb, List, [], ◌∷◌, ◌++◌, take, is_ok, Ok, Err, sym, refl, ap, ◌∙◌, arith, MatchResult}
use Rattle.std.proofs.lemmas.Bool.{eq-eqb, eqb-true, eqb-false, or_parts, not-false, cond-true, cond-false}
use Rattle.selfid.specs.declared.mark.Mark.{Mark}
use Rattle.selfid.specs.declared.mark.Mark.TheVariants.{Absent}
use Rattle.selfid.specs.declared.packet.Packet.TheVariants.{Zero, Extension as Further}
use Rattle.selfid.specs.declared.packet.PacketFlaw.TheVariants.{ReservedBit}
use Rattle.selfid.specs.Marks.{ups, downs}
use Rattle.selfid.specs.Packets.{zero_word, extension_word}
use Rattle.selfid.specs.Reading.{bits, mark_in, zero_in, extension_in, fields_in, read_zero, read_extension, reserved_set, word_of}
use Rattle.selfid.proofs.Trips.{zero_again, extension_again}
use Rattle.judging.specs.Standing.{is_extension, has_more, turn_of, marks_in}
use Rattle.judging.proofs.Rows.{at_most, ups_++, downs_++}
use Rattle.judging.proofs.Machine.{PacketWord, Turn, first, second, third, order, width}

-- A packet has binary 10 in its bits 31-30, and is read in one of the two layouts.
top_bits : (q : ℕ) → PacketWord q → q / 2 ^ 30 ≡ 2
top_bits q p = eqb-true (q / 2 ^ 30) 2 (go (eqb (q / 2 ^ 30) 2) refl)
  where
    go : (b : Bool) → eqb (q / 2 ^ 30) 2 ≡ b → b ≡ true
    go true e = refl
    go false e = simp e at p

-- Which layout it is follows from the packet's place in its node.
pub zeroth : (q : ℕ) → turn_of q ≡ 0 → is_extension q ≡ false
zeroth q t = go (is_extension q) refl
  where
    go : (b : Bool) → is_extension q ≡ b → b ≡ false
    go true e = absurd (let k : bits 22 20 q + 1 ≡ 0 = simp e at t in omega (arith, k))
    go false e = refl

pub further : (q e : ℕ) → turn_of q ≡ suc e → (is_extension q ≡ true) × (bits 22 20 q ≡ e)
further q e t = go (is_extension q) refl
  where
    go : (b : Bool) → is_extension q ≡ b → (is_extension q ≡ true) × (bits 22 20 q ≡ e)
    go true k = (k, let s : bits 22 20 q + 1 ≡ suc e = simp k at t in omega (arith, s))
    go false k = absurd (let s : 0 ≡ suc e = simp k at t in omega (arith, s))

-- What is taken was not refused.
taken : {A E : Type 0} (b : Bool) (e : E) (y : A) (P : A → Type 0) → is_ok {T = A} (cond b (Err e) (Ok y)) ≡ true → MatchResult {T = A} (cond b (Err e) (Ok y)) P (λ _. Unit {0}) → (b ≡ false) × P y
taken true e y P ok c = absurd (let z : ◌≡◌ {A = ℕ} 0 1 = cc in omega arith)
taken false e y P ok c = (refl, c)

-- The word of packet zero, and of an extension.
pub zero_word_of : (q f : ℕ) → PacketWord q → bits 29 24 q ≡ f → turn_of q ≡ 0 → zero_word f (fields_in q) (zero_in q).marks (has_more q) ≡ q
zero_word_of q f p n t =
    let top = top_bits q p in
    let kind : eqb (bits 23 23 q) 1 ≡ false = zeroth q t in
    let flat : bits 23 23 q ≡ 0 = omega (arith, eqb-false (bits 23 23 q) 1 kind) in
    let ok : is_ok (read_zero q) ≡ true = simp (eq-eqb (q / 2 ^ 30) 2 top, kind) at p in
    ap (λ k. zero_word k (fields_in q) (zero_in q).marks (has_more q)) (sym n)
    ∙ (taken (not (eqb (bits 13 12 q) 0) || eqb (bits 15 14 q) 3) ReservedBit (Zero (zero_in q)) (λ r. word_of r ≡ q) ok (zero_again q (omega (arith, top)) top flat)).1

extension_read : (q : ℕ) → PacketWord q → is_extension q ≡ true → (reserved_set q ≡ false) × (word_of (Further (extension_in q)) ≡ q)
extension_read q p kind =
    let top = top_bits q p in
    let k : eqb (bits 23 23 q) 1 ≡ true = kind in
    let ok : is_ok (read_extension q) ≡ true = simp (eq-eqb (q / 2 ^ 30) 2 top, k) at p in
    taken (reserved_set q) ReservedBit (Further (extension_in q)) (λ r. word_of r ≡ q) ok (extension_again q (omega (arith, top)) top (eqb-true (bits 23 23 q) 1 k))

pub extension_word_of : (q f e : ℕ) → PacketWord q → bits 29 24 q ≡ f → turn_of q ≡ suc e → extension_word f e (extension_in q).marks (has_more q) ≡ q
extension_word_of q f e p n t =
    let (kind, turn) = further q e t in
    ap (λ k. extension_word k e (extension_in q).marks (has_more q)) (sym n)
    ∙ ap (λ k. extension_word (bits 29 24 q) k (extension_in q).marks (has_more q)) (sym turn)
    ∙ (extension_read q p kind).1

-- The last three marks of extension 1 are absent, so that it has five.
pub last_three : (q : ℕ) → PacketWord q → turn_of q ≡ 2 → (extension_in q).marks ≡ take 5 (extension_in q).marks ++ (Absent ∷ Absent ∷ Absent ∷ [])
last_three q p t =
    let (kind, turn) = further q 1 t in
    let (_, unset) = or_parts (not (eqb (bits 19 18 q) 0) || not (eqb (bits 1 1 q) 0)) (eqb (bits 22 20 q) 1 && not (eqb (bits 7 2 q) 0)) (extension_read q p kind).0 in
    let off : not (eqb (bits 7 2 q) 0) ≡ false = simp (eq-eqb (bits 22 20 q) 1 turn) at unset in
    let z : bits 7 2 q ≡ 0 = eqb-true (bits 7 2 q) 0 (not-false (eqb (bits 7 2 q) 0) off) in
    let a : mark_in (bits 7 6 q) ≡ Absent = none (bits 7 6 q) (omega (arith, z)) in
    let b : mark_in (bits 5 4 q) ≡ Absent = none (bits 5 4 q) (omega (arith, z)) in
    let c : mark_in (bits 3 2 q) ≡ Absent = none (bits 3 2 q) (omega (arith, z)) in
    λ k. mark_in (bits 17 16 q) ∷ mark_in (bits 15 14 q) ∷ mark_in (bits 13 12 q) ∷ mark_in (bits 11 10 q) ∷ mark_in (bits 9 8 q) ∷ a k ∷ b k ∷ c k ∷ []
  where
    none : (n : ℕ) → n ≡ 0 → mark_in n ≡ Absent
    none n e = ap mark_in e

pub marks_zeroth : (q : ℕ) → turn_of q ≡ 0 → marks_in q ≡ (zero_in q).marks
marks_zeroth q t = cond-false (is_extension q) (extension_in q).marks (zero_in q).marks (zeroth q t)

pub marks_further : (q e : ℕ) → turn_of q ≡ suc e → marks_in q ≡ (extension_in q).marks
marks_further q e t = cond-true (is_extension q) (extension_in q).marks (zero_in q).marks (further q e t).0

-- A packet has no more up and down marks than ports.
pub marks_fit : (t : Turn) (q : ℕ) → PacketWord q → turn_of q ≡ order t → ups (marks_in q) + downs (marks_in q) ≤ width t
marks_fit first q p e = rw (marks_zeroth q e) (at_most (zero_in q).marks)
marks_fit second q p e = rw (marks_further q 0 e) (at_most (extension_in q).marks)
marks_fit third q p e =
    let five : List Mark = take 5 (extension_in q).marks in
    let same : marks_in q ≡ five ++ (Absent ∷ Absent ∷ Absent ∷ []) = marks_further q 1 e ∙ last_three q p e in
    let u = ap ups same ∙ ups_++ five (Absent ∷ Absent ∷ Absent ∷ []) in
    let d = ap downs same ∙ downs_++ five (Absent ∷ Absent ∷ Absent ∷ []) in
    omega (arith, at_most five, u, d)
