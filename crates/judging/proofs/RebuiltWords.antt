-- The words of a node's packets, read back.
use Rattle.std.proofs.Common.{◌≡◌, ℕ, zero, suc, ◌+◌, ◌<◌, Bool, true, false, List, [], ◌∷◌, get_or, refl, ap, ◌∙◌, arith}
use Rattle.std.proofs.lemmas.Bool.{cond-true, cond-false, eq-eqb, ne_eqb}
use Rattle.selfid.specs.declared.mark.Mark.{Mark}
use Rattle.selfid.specs.declared.mark.Mark.TheVariants.{Absent}
use Rattle.selfid.specs.declared.node.Fields.{Fields}
use Rattle.selfid.specs.Packets.{zero_word, extension_word}
use Rattle.selfid.specs.Reading.{bits, speed_in, fields_in, zero_in, extension_in}
use Rattle.selfid.proofs.Same.{same_fields}
use Rattle.selfid.proofs.Digits.{speed_back, zero_digits, extension_digits}
use Rattle.selfid.proofs.Trips.{flag_at, mark_at}
use Rattle.judging.specs.Standing.{is_extension, has_more, turn_of, marks_in}

-- The first three, and the first eight, of some marks: past their end there are absent ones.
abbrev pub first_three : List Mark → List Mark
first_three ms = get_or ms 0 Absent ∷ get_or ms 1 Absent ∷ get_or ms 2 Absent ∷ []

abbrev pub first_eight : List Mark → List Mark
first_eight ms =
    get_or ms 0 Absent
    ∷ get_or ms 1 Absent
    ∷ get_or ms 2 Absent
    ∷ get_or ms 3 Absent
    ∷ get_or ms 4 Absent
    ∷ get_or ms 5 Absent
    ∷ get_or ms 6 Absent
    ∷ get_or ms 7 Absent
    ∷ []

pub three_at : (ms : List Mark) (i : ℕ) → i < 3 → get_or (first_three ms) i Absent ≡ get_or ms i Absent
three_at ms zero l = refl
three_at ms (suc zero) l = refl
three_at ms (suc (suc zero)) l = refl
three_at ms (suc (suc (suc i))) l = absurd (omega arith)

pub eight_at : (ms : List Mark) (i : ℕ) → i < 8 → get_or (first_eight ms) i Absent ≡ get_or ms i Absent
eight_at ms zero l = refl
eight_at ms (suc zero) l = refl
eight_at ms (suc (suc zero)) l = refl
eight_at ms (suc (suc (suc zero))) l = refl
eight_at ms (suc (suc (suc (suc zero)))) l = refl
eight_at ms (suc (suc (suc (suc (suc zero))))) l = refl
eight_at ms (suc (suc (suc (suc (suc (suc zero)))))) l = refl
eight_at ms (suc (suc (suc (suc (suc (suc (suc zero))))))) l = refl
eight_at ms (suc (suc (suc (suc (suc (suc (suc (suc i)))))))) l = absurd (omega arith)

-- What is read from the word q of a packet of node n: which packet of its node it is, its marks, and whether more follow.
pub record ReadBack (q n turn : ℕ) (ms : List Mark) (more : Bool) : Type 0 where
  pub number : n < 64 → bits 29 24 q ≡ n
  pub in_turn : turn_of q ≡ turn
  pub marks : marks_in q ≡ ms
  pub followed : has_more q ≡ more

pub zero_kind : (n : ℕ) (x : Fields) (ms : List Mark) (more : Bool) → is_extension (zero_word n x ms more) ≡ false
zero_kind n x ms more = ne_eqb (bits 23 23 (zero_word n x ms more)) 1 (λ e. omega (arith, (zero_digits n x ms more).kind, e))

pub zero_read : (n : ℕ) (x : Fields) (ms : List Mark) (more : Bool) → ReadBack (zero_word n x ms more) n 0 (first_three ms) more
zero_read n x ms more =
    let q = zero_word n x ms more in
    let d = zero_digits n x ms more in
    let a = mark_at (get_or ms 0 Absent) d.first in
    let b = mark_at (get_or ms 1 Absent) d.second in
    let c = mark_at (get_or ms 2 Absent) d.third in
    record {
      number = λ h. omega (arith, d.head);
      in_turn = cond-false (is_extension q) (bits 22 20 q + 1) 0 (zero_kind n x ms more);
      marks = cond-false (is_extension q) (extension_in q).marks (zero_in q).marks (zero_kind n x ms more) ∙ (λ k. a k ∷ b k ∷ c k ∷ []);
      followed = flag_at more d.last;
    }

pub fields_read : (n : ℕ) (x : Fields) (ms : List Mark) (more : Bool) → fields_in (zero_word n x ms more) ≡ x
fields_read n x ms more =
    let q = zero_word n x ms more in
    let d = zero_digits n x ms more in
    same_fields (fields_in q) x
    (flag_at x.link d.link)
    (flag_at x.contender d.contender)
    (flag_at x.initiator d.initiator)
    d.gap
    (ap speed_in d.speed ∙ speed_back x.speed)
    d.power

pub extension_kind : (n e : ℕ) (ms : List Mark) (more : Bool) → e < 8 → is_extension (extension_word n e ms more) ≡ true
extension_kind n e ms more h = eq-eqb (bits 23 23 (extension_word n e ms more)) 1 (extension_digits n e ms more h).kind

pub extension_read : (n e : ℕ) (ms : List Mark) (more : Bool) → e < 8 → ReadBack (extension_word n e ms more) n (e + 1) (first_eight ms) more
extension_read n e ms more h =
    let q = extension_word n e ms more in
    let d = extension_digits n e ms more h in
    let m0 = mark_at (get_or ms 0 Absent) d.first in
    let m1 = mark_at (get_or ms 1 Absent) d.second in
    let m2 = mark_at (get_or ms 2 Absent) d.third in
    let m3 = mark_at (get_or ms 3 Absent) d.fourth in
    let m4 = mark_at (get_or ms 4 Absent) d.fifth in
    let m5 = mark_at (get_or ms 5 Absent) d.sixth in
    let m6 = mark_at (get_or ms 6 Absent) d.seventh in
    let m7 = mark_at (get_or ms 7 Absent) d.eighth in
    record {
      number = λ l. omega (arith, d.head);
      in_turn = cond-true (is_extension q) (bits 22 20 q + 1) 0 (extension_kind n e ms more h) ∙ ap (λ t. t + 1) d.turn;
      marks =
          cond-true (is_extension q) (extension_in q).marks (zero_in q).marks (extension_kind n e ms more h)
          ∙ (λ k. m0 k ∷ m1 k ∷ m2 k ∷ m3 k ∷ m4 k ∷ m5 k ∷ m6 k ∷ m7 k ∷ []);
      followed = flag_at more d.last;
    }
