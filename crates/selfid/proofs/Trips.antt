-- Packets to words and back.
use Rattle.std.proofs.Common.{◌≡◌, ℕ, ◌+◌, ◌*◌, ◌/◌, ◌^◌, ◌<◌, Bool, true, false, cond, not, ◌&&◌, ◌||◌, eqb, List, [], ◌∷◌, length, get_or, drop, IfOk, Ok, Err, sym, refl, ap, ◌∙◌, ap₂, arith}
use Rattle.std.proofs.lemmas.Bool.{cond_both, eq-eqb, ne_eqb, eqb-true, eqb-false, or_parts, not-false}
use Rattle.std.proofs.lemmas.Bool.Decides.{nat_tests}
use Rattle.selfid.specs.declared.mark.Mark.{Mark}
use Rattle.selfid.specs.declared.mark.Mark.TheVariants.{Absent, Open, Up, Down}
use Rattle.selfid.specs.declared.packet.PacketZero.{PacketZero}
use Rattle.selfid.specs.declared.packet.Extension.{Extension}
use Rattle.selfid.specs.declared.packet.Packet.TheVariants.{Zero, Extension as Further}
use Rattle.selfid.specs.declared.packet.PacketFlaw.TheVariants.{ReservedBit}
use Rattle.selfid.specs.Marks.{mark_code, present}
use Rattle.selfid.specs.Packets.{bit}
use Rattle.selfid.specs.Reading.{word_of, bits, mark_in, speed_in, zero_in, extension_in, fields_in, read_zero, read_extension, reserved_set, packet_in, marks_existing_ports}
use Rattle.selfid.proofs.Codes.{three, eight}
use Rattle.selfid.proofs.Same.{same_fields, same_zero, same_extension}
use Rattle.selfid.proofs.Digits.{mark_back, speed_back, bit_back, speed_small, mark_again, speed_again, bit_again, ZeroDigits, zero_digits, ExtensionDigits, extension_digits}

-- A list of as many marks, by its elements.
-- The flag and the mark read at some bits.
pub flag_at : {n : ℕ} (b : Bool) → n ≡ bit b → eqb n 1 ≡ b
flag_at b e = ap (λ k. eqb k 1) e ∙ bit_back b

pub mark_at : {n : ℕ} (m : Mark) → n ≡ mark_code m → mark_in n ≡ m
mark_at m e = ap mark_in e ∙ mark_back m

zero_back : (p : PacketZero) → length p.marks ≡ 3 → (q : ℕ) → ZeroDigits q p.number p.fields p.marks p.more → zero_in q ≡ p
zero_back p len q d =
    let ms = p.marks in
    let x = p.fields in
    let h : p.number < 64 = p.number_in_range in
    let n : bits 29 24 q ≡ p.number = omega (arith, d.head) in
    let fields : fields_in q ≡ x = same_fields (fields_in q) x (flag_at x.link d.link) (flag_at x.contender d.contender) (flag_at x.initiator d.initiator) d.gap (ap speed_in d.speed ∙ speed_back x.speed) d.power in
    let a = mark_at (get_or ms 0 Absent) d.first in
    let b = mark_at (get_or ms 1 Absent) d.second in
    let c = mark_at (get_or ms 2 Absent) d.third in
    same_zero (zero_in q) p n fields ((λ k. a k ∷ b k ∷ c k ∷ []) ∙ three ms len) (flag_at p.more d.last)

pub zero_trip : (p : PacketZero) → length p.marks ≡ 3 → packet_in (word_of (Zero p)) ≡ Ok (Zero p)
zero_trip p len =
    let q = word_of (Zero p) in
    let d = zero_digits p.number p.fields p.marks p.more in
    let h : p.number < 64 = p.number_in_range in
    let s = speed_small p.fields.speed in
    let top : eqb (q / 2 ^ 30) 2 ≡ true = eq-eqb (q / 2 ^ 30) 2 (omega (arith, d.head)) in
    let kind : eqb (bits 23 23 q) 1 ≡ false = ne_eqb (bits 23 23 q) 1 (λ e. omega (arith, d.kind, e)) in
    let clear : eqb (bits 13 12 q) 0 ≡ true = eq-eqb (bits 13 12 q) 0 d.reserved in
    let speed : eqb (bits 15 14 q) 3 ≡ false = ne_eqb (bits 15 14 q) 3 (λ e. omega (arith, d.speed, e)) in
    simp (top, kind, clear, speed) (ap (λ r. Ok (Zero r)) (zero_back p len q d))

extension_back : (p : Extension) → length p.marks ≡ 8 → (q : ℕ) → ExtensionDigits q p.number p.turn p.marks p.more → extension_in q ≡ p
extension_back p len q d =
    let ms = p.marks in
    let h : p.number < 64 = p.number_in_range in
    let n : bits 29 24 q ≡ p.number = omega (arith, d.head) in
    let m0 = mark_at (get_or ms 0 Absent) d.first in
    let m1 = mark_at (get_or ms 1 Absent) d.second in
    let m2 = mark_at (get_or ms 2 Absent) d.third in
    let m3 = mark_at (get_or ms 3 Absent) d.fourth in
    let m4 = mark_at (get_or ms 4 Absent) d.fifth in
    let m5 = mark_at (get_or ms 5 Absent) d.sixth in
    let m6 = mark_at (get_or ms 6 Absent) d.seventh in
    let m7 = mark_at (get_or ms 7 Absent) d.eighth in
    same_extension (extension_in q) p n d.turn ((λ k. m0 k ∷ m1 k ∷ m2 k ∷ m3 k ∷ m4 k ∷ m5 k ∷ m6 k ∷ m7 k ∷ []) ∙ eight ms len) (flag_at p.more d.last)

-- Some of the last three of eight marks is there just if their codes are not all 0.
there_one : (m : Mark) (ms : List Mark) → present (m ∷ ms) ≡ (not (eqb (mark_code m) 0) || present ms)
there_one Absent ms = refl
there_one Open ms = refl
there_one Up ms = refl
there_one Down ms = refl

there : (a b c : Mark) → not (eqb (mark_code a * 16 + mark_code b * 4 + mark_code c) 0) ≡ present (a ∷ b ∷ c ∷ [])
there a b c = rw (there_one a (b ∷ c ∷ []), there_one b (c ∷ []), there_one c []) (grind (arith, nat_tests))

past_fifth : (ms : List Mark) → length ms ≡ 8 → drop 5 ms ≡ get_or ms 5 Absent ∷ get_or ms 6 Absent ∷ get_or ms 7 Absent ∷ []
past_fifth ms len = ap (drop 5) (sym (eight ms len))

refused_or_read : {A : Type 0} (t b : Bool) (x y : A) → cond (t && b) y x ≡ cond (not t || not b) x y
refused_or_read true true x y = refl
refused_or_read true false x y = refl
refused_or_read false true x y = refl
refused_or_read false false x y = refl

pub extension_trip : (p : Extension) → length p.marks ≡ 8 → packet_in (word_of (Further p)) ≡ cond (marks_existing_ports (Further p)) (Ok (Further p)) (Err ReservedBit)
extension_trip p len =
    let q = word_of (Further p) in
    let ms = p.marks in
    let h : p.number < 64 = p.number_in_range in
    let d = extension_digits p.number p.turn ms p.more p.turn_in_range in
    let top : eqb (q / 2 ^ 30) 2 ≡ true = eq-eqb (q / 2 ^ 30) 2 (omega (arith, d.head)) in
    let kind : eqb (bits 23 23 q) 1 ≡ true = eq-eqb (bits 23 23 q) 1 d.kind in
    let clear : eqb (bits 19 18 q) 0 ≡ true = eq-eqb (bits 19 18 q) 0 d.reserved in
    let unused : eqb (bits 1 1 q) 0 ≡ true = eq-eqb (bits 1 1 q) 0 d.unused in
    let behind : not (eqb (bits 7 2 q) 0) ≡ present (drop 5 ms) =
    ap (λ k. not (eqb k 0)) d.behind_fifth ∙ there (get_or ms 5 Absent) (get_or ms 6 Absent) (get_or ms 7 Absent) ∙ ap present (sym (past_fifth ms len)) in
    simp (top, kind, clear, unused, behind)
    (ap₂ (λ t r. cond (eqb t 1 && present (drop 5 ms)) (Err ReservedBit) (Ok (Further r))) d.turn (extension_back p len q d) ∙ refused_or_read (eqb p.turn 1) (present (drop 5 ms)) (Ok (Further p)) (Err ReservedBit))

-- Words to packets and back.
pub zero_again : (q : ℕ) → q < 2 ^ 32 → q / 2 ^ 30 ≡ 2 → bits 23 23 q ≡ 0 → IfOk (read_zero q) (λ p. word_of p ≡ q)
zero_again q h top kind =
    cond_both (not (eqb (bits 13 12 q) 0) || eqb (bits 15 14 q) 3) (Err ReservedBit) (Ok (Zero (zero_in q))) (λ r. IfOk r (λ p. word_of p ≡ q))
    (λ _. tt)
    (λ e.
    let (clear, fast) = or_parts (not (eqb (bits 13 12 q) 0)) (eqb (bits 15 14 q) 3) e in
    let z = eqb-true (bits 13 12 q) 0 (not-false (eqb (bits 13 12 q) 0) clear) in
    let f = eqb-false (bits 15 14 q) 3 fast in
    let s : bits 15 14 q < 3 = omega (arith, f) in
    simp (bit_again (bits 22 22 q) (omega arith), bit_again (bits 11 11 q) (omega arith), bit_again (bits 1 1 q) (omega arith), bit_again (bits 0 0 q) (omega arith), speed_again (bits 15 14 q) s, mark_again (bits 7 6 q) (omega arith), mark_again (bits 5 4 q) (omega arith), mark_again (bits 3 2 q) (omega arith))
    (omega arith))

pub extension_again : (q : ℕ) → q < 2 ^ 32 → q / 2 ^ 30 ≡ 2 → bits 23 23 q ≡ 1 → IfOk (read_extension q) (λ p. word_of p ≡ q)
extension_again q h top kind =
    cond_both (reserved_set q) (Err ReservedBit) (Ok (Further (extension_in q))) (λ r. IfOk r (λ p. word_of p ≡ q))
    (λ _. tt)
    (λ e.
    let (first, _) = or_parts (not (eqb (bits 19 18 q) 0) || not (eqb (bits 1 1 q) 0)) (eqb (bits 22 20 q) 1 && not (eqb (bits 7 2 q) 0)) e in
    let (clear, unused) = or_parts (not (eqb (bits 19 18 q) 0)) (not (eqb (bits 1 1 q) 0)) first in
    let z = eqb-true (bits 19 18 q) 0 (not-false (eqb (bits 19 18 q) 0) clear) in
    let u = eqb-true (bits 1 1 q) 0 (not-false (eqb (bits 1 1 q) 0) unused) in
    simp (bit_again (bits 0 0 q) (omega arith), mark_again (bits 17 16 q) (omega arith), mark_again (bits 15 14 q) (omega arith), mark_again (bits 13 12 q) (omega arith), mark_again (bits 11 10 q) (omega arith), mark_again (bits 9 8 q) (omega arith), mark_again (bits 7 6 q) (omega arith), mark_again (bits 5 4 q) (omega arith), mark_again (bits 3 2 q) (omega arith))
    (omega arith))
