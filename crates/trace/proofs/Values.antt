-- The value of a word, digit by digit.
use Rattle.std.proofs.Common.{◌≡◌, ℕ, ◌+◌, ◌*◌, ◌^◌, ◌<◌, ◌≤◌, true, eqb, List, length, get_or, drop, Some, unwrap_or, sym, ap, ◌∙◌, arith}
use Rattle.std.proofs.Math.Pow.{pow_mono}
use Rattle.std.proofs.lemmas.Nat.{pow-add}
use Rattle.std.proofs.lemmas.List.{at_drop_more}
use Rattle.std.proofs.lemmas.Bool.{and_parts, eqb-true}
use Rattle.std.specs.List.{fold, list_all}
use Rattle.trace.specs.Lines.{and_digit, digit_of, is_digit, is_word}

pub word_length : (bs : List ℕ) → is_word bs ≡ true → length bs ≡ 8
word_length bs e = eqb-true (length bs) 8 (and_parts (eqb (length bs) 8) (list_all is_digit bs) e).0

-- Before the last of eight digits there is room for one more.
pub room_left : (bs : List ℕ) (i value : ℕ) → is_word bs ≡ true → i < length bs → value < 2 ^ (4 * i) → value < 2 ^ 28
room_left bs i value e h l =
    let m : 2 ^ (4 * i) ≤ 2 ^ 28 = pow_mono {i = 4 * i} {j = 28} (omega (arith, word_length bs e)) in
    omega arith

pub one_digit_more : (value i digit : ℕ) → digit < 16 → value < 2 ^ (4 * i) → value * 16 + digit < 2 ^ (4 * (i + 1))
one_digit_more value i digit d l =
    let e : 2 ^ (4 * (i + 1)) ≡ 2 ^ (4 * i) * 2 ^ 4 = ap (λ k. 2 ^ k) (omega arith) ∙ pow-add 2 (4 * i) 4 in
    omega (arith, e)

pub value_more : (xs : List ℕ) (i value digit : ℕ) → i < length xs → Some digit ≡ digit_of (get_or xs i 0) → fold and_digit (value * 16 + digit) (drop (i + 1) xs) ≡ fold and_digit value (drop i xs)
value_more xs i value digit h e =
    ap (λ o. fold and_digit (value * 16 + unwrap_or o 0) (drop (i + 1) xs)) e ∙ sym (at_drop_more (fold and_digit value) xs i 0 h)
