-- Codes read and put together one by one.
use Rattle.std.proofs.Common.{◌≡◌, ℕ, zero, suc, ◌+◌, ◌-◌, ◌*◌, ◌/◌, ◌%◌, ◌^◌, ◌<◌, List, [], ◌∷◌, length, get_or, Some, sym, refl, ap, ◌∙◌, arith}
use Rattle.std.proofs.Math.Nat.{pow-suc, mul_assoc}
use Rattle.std.proofs.lemmas.List.{ext_get_or}
use native.Mathlib.Nat.{add-mul, add_assoc}
use Rattle.selfid.specs.declared.mark.Mark.{Mark}
use Rattle.selfid.specs.declared.mark.Mark.TheVariants.{Absent}
use Rattle.selfid.specs.Marks.{mark_code, mark_of}
use Rattle.selfid.specs.Packets.{code_at, packed_codes}
use Rattle.selfid.specs.Reading.{mark_in, marks_from}

-- The mark with a code is the mark in its two bits.
pub mark_found : (n : ℕ) (m : Mark) → n < 4 → mark_of n ≡ Some m → m ≡ mark_in n
mark_found zero m h e = cc
mark_found (suc zero) m h e = cc
mark_found (suc (suc zero)) m h e = cc
mark_found (suc (suc (suc zero))) m h e = cc
mark_found (suc (suc (suc (suc n)))) m h e = absurd (omega arith)

-- A number with two bits more behind it.
pub two_bits_more : (w c k : ℕ) → w < 2 ^ (2 * k) → c < 4 → w * 4 + c < 2 ^ (2 * (k + 1))
two_bits_more w c k h f = omega (arith, pow-suc 2 (2 * k), pow-suc 2 (suc (2 * k)), ap (λ n. 2 ^ n) (two_more k))
  where
    two_more : (k : ℕ) → 2 * (k + 1) ≡ suc (suc (2 * k))
    two_more k = omega arith

-- The first of the pairs that are left.
pub next_pair : (k q : ℕ) → 0 < k → mark_in (q / 2 ^ (2 * k) % 4) ∷ marks_from (k - 1) q ≡ marks_from k q
next_pair zero q h = absurd (omega arith)
next_pair (suc k) q h = ap (λ n. mark_in (q / 2 ^ (2 * suc k) % 4) ∷ marks_from n q) (one_less k)
  where
    one_less : (k : ℕ) → suc k - 1 ≡ k
    one_less k = omega arith

-- The code of one more mark, which moves to the codes so far from those behind them.
pub code_moved : (w : ℕ) (m : Mark) (ms : List Mark) → (w * 4 + mark_code m) * 2 ^ (2 * length ms) + packed_codes ms ≡ w * 2 ^ (2 * length (m ∷ ms)) + packed_codes (m ∷ ms)
code_moved w m ms =
    let k = 2 * length ms in
    let exponent : 2 * suc (length ms) ≡ suc (suc k) = omega arith in
    let four : 2 ^ (2 * suc (length ms)) ≡ 4 * 2 ^ k = ap (λ n. 2 ^ n) exponent ∙ omega (arith, pow-suc 2 k, pow-suc 2 (suc k)) in
    let spread = add-mul (w * 4) (mark_code m) (2 ^ k) in
    let moved : w * 4 * 2 ^ k ≡ w * 2 ^ (2 * suc (length ms)) = mul_assoc w 4 (2 ^ k) ∙ ap (λ n. w * n) (sym four) in
    ap (λ n. n + packed_codes ms) (spread ∙ ap (λ n. n + mark_code m * 2 ^ k) moved) ∙ add_assoc (w * 2 ^ (2 * suc (length ms))) (mark_code m * 2 ^ k) (packed_codes ms)

-- Three marks, and eight.
pub three : (ms : List Mark) → length ms ≡ 3 → get_or ms 0 Absent ∷ get_or ms 1 Absent ∷ get_or ms 2 Absent ∷ [] ≡ ms
three [] h = absurd (omega arith)
three (a ∷ []) h = absurd (omega arith)
three (a ∷ b ∷ []) h = absurd (omega arith)
three (a ∷ b ∷ c ∷ []) h = refl
three (a ∷ b ∷ c ∷ d ∷ ms) h = absurd (omega arith)

pub eight : (ms : List Mark) → length ms ≡ 8 → get_or ms 0 Absent ∷ get_or ms 1 Absent ∷ get_or ms 2 Absent ∷ get_or ms 3 Absent ∷ get_or ms 4 Absent ∷ get_or ms 5 Absent ∷ get_or ms 6 Absent ∷ get_or ms 7 Absent ∷ [] ≡ ms
eight ms h = ext_get_or Absent _ ms (sym h) λ i l. at_each i l
  where
    at_each : (i : ℕ) → i < 8 → get_or (get_or ms 0 Absent ∷ get_or ms 1 Absent ∷ get_or ms 2 Absent ∷ get_or ms 3 Absent ∷ get_or ms 4 Absent ∷ get_or ms 5 Absent ∷ get_or ms 6 Absent ∷ get_or ms 7 Absent ∷ []) i Absent ≡ get_or ms i Absent
    at_each zero l = refl
    at_each (suc zero) l = refl
    at_each (suc (suc zero)) l = refl
    at_each (suc (suc (suc zero))) l = refl
    at_each (suc (suc (suc (suc zero)))) l = refl
    at_each (suc (suc (suc (suc (suc zero))))) l = refl
    at_each (suc (suc (suc (suc (suc (suc zero)))))) l = refl
    at_each (suc (suc (suc (suc (suc (suc (suc zero))))))) l = refl
    at_each (suc (suc (suc (suc (suc (suc (suc (suc i)))))))) l = absurd (omega arith)

-- Their codes, packed.
pub three_packed : (ms : List Mark) → length ms ≡ 3 → packed_codes ms ≡ code_at ms 0 * 16 + code_at ms 1 * 4 + code_at ms 2
three_packed ms h = ap packed_codes (sym (three ms h)) ∙ omega arith

pub eight_packed : (ms : List Mark) → length ms ≡ 8 → packed_codes ms ≡ code_at ms 0 * 16384 + code_at ms 1 * 4096 + code_at ms 2 * 1024 + code_at ms 3 * 256 + code_at ms 4 * 64 + code_at ms 5 * 16 + code_at ms 6 * 4 + code_at ms 7
eight_packed ms h = ap packed_codes (sym (eight ms h)) ∙ omega arith
