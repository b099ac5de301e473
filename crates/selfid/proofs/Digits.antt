-- The fields of a packet's word stand at their bits.
use Rattle.std.proofs.Common.{◌≡◌, ℕ, ◌+◌, ◌*◌, ◌/◌, ◌^◌, ◌<◌, Bool, true, false, eqb, List, get_or, refl, arith}
use Rattle.std.proofs.lemmas.Bool.Decides.{nat_tests}
use Rattle.selfid.specs.declared.mark.Mark.{Mark}
use Rattle.selfid.specs.declared.mark.Mark.TheVariants.{Absent, Open, Up, Down}
use Rattle.selfid.specs.declared.speed.Speed.{Speed}
use Rattle.selfid.specs.declared.speed.Speed.TheVariants.{S100, S200, S400}
use Rattle.selfid.specs.declared.node.Fields.{Fields}
use Rattle.selfid.specs.Marks.{mark_code}
use Rattle.selfid.specs.Speeds.{speed_code}
use Rattle.selfid.specs.Packets.{bit, code_at, zero_word, extension_word}
use Rattle.selfid.specs.Reading.{bits, mark_in, speed_in}

-- Codes and flags are small, and are read back.
pub mark_small : (m : Mark) → mark_code m < 4
mark_small Absent = omega arith
mark_small Open = omega arith
mark_small Up = omega arith
mark_small Down = omega arith

pub speed_small : (s : Speed) → speed_code s < 3
speed_small S100 = omega arith
speed_small S200 = omega arith
speed_small S400 = omega arith

pub bit_small : (b : Bool) → bit b < 2
bit_small true = omega arith
bit_small false = omega arith

pub mark_back : (m : Mark) → mark_in (mark_code m) ≡ m
mark_back Absent = refl
mark_back Open = refl
mark_back Up = refl
mark_back Down = refl

pub speed_back : (s : Speed) → speed_in (speed_code s) ≡ s
speed_back S100 = refl
speed_back S200 = refl
speed_back S400 = refl

pub bit_back : (b : Bool) → eqb (bit b) 1 ≡ b
bit_back true = refl
bit_back false = refl

pub mark_again : (n : ℕ) → n < 4 → mark_code (mark_in n) ≡ n
mark_again n h = grind (arith, nat_tests)

pub speed_again : (n : ℕ) → n < 3 → speed_code (speed_in n) ≡ n
speed_again n h = grind (arith, nat_tests)

pub bit_again : (n : ℕ) → n < 2 → bit (eqb n 1) ≡ n
bit_again n h = grind (arith, nat_tests)

small_at : (ms : List Mark) (i : ℕ) → code_at ms i < 4
small_at ms i = mark_small (get_or ms i Absent)

-- The word q is packet zero of node n with these fields and marks, bit by bit.
pub record ZeroDigits (q n : ℕ) (x : Fields) (ms : List Mark) (more : Bool) : Type 0 where
  pub head : q / 2 ^ 24 ≡ 128 + n
  pub kind : bits 23 23 q ≡ 0
  pub link : bits 22 22 q ≡ bit x.link
  pub gap : bits 21 16 q ≡ x.gap
  pub speed : bits 15 14 q ≡ speed_code x.speed
  pub reserved : bits 13 12 q ≡ 0
  pub contender : bits 11 11 q ≡ bit x.contender
  pub power : bits 10 8 q ≡ x.power
  pub first : bits 7 6 q ≡ code_at ms 0
  pub second : bits 5 4 q ≡ code_at ms 1
  pub third : bits 3 2 q ≡ code_at ms 2
  pub initiator : bits 1 1 q ≡ bit x.initiator
  pub last : bits 0 0 q ≡ bit more

pub zero_digits : (n : ℕ) (x : Fields) (ms : List Mark) (more : Bool) → ZeroDigits (zero_word n x ms more) n x ms more
zero_digits n x ms more =
    let l = bit_small x.link in
    let g : x.gap < 64 = x.gap_in_range in
    let s = speed_small x.speed in
    let c = bit_small x.contender in
    let p : x.power < 8 = x.power_in_range in
    let m0 = small_at ms 0 in
    let m1 = small_at ms 1 in
    let m2 = small_at ms 2 in
    let i = bit_small x.initiator in
    let o = bit_small more in
    omega arith

-- The word q is extension e of node n with these marks, bit by bit.
pub record ExtensionDigits (q n e : ℕ) (ms : List Mark) (more : Bool) : Type 0 where
  pub head : q / 2 ^ 24 ≡ 128 + n
  pub kind : bits 23 23 q ≡ 1
  pub turn : bits 22 20 q ≡ e
  pub reserved : bits 19 18 q ≡ 0
  pub first : bits 17 16 q ≡ code_at ms 0
  pub second : bits 15 14 q ≡ code_at ms 1
  pub third : bits 13 12 q ≡ code_at ms 2
  pub fourth : bits 11 10 q ≡ code_at ms 3
  pub fifth : bits 9 8 q ≡ code_at ms 4
  pub sixth : bits 7 6 q ≡ code_at ms 5
  pub seventh : bits 5 4 q ≡ code_at ms 6
  pub eighth : bits 3 2 q ≡ code_at ms 7
  pub behind_fifth : bits 7 2 q ≡ code_at ms 5 * 16 + code_at ms 6 * 4 + code_at ms 7
  pub unused : bits 1 1 q ≡ 0
  pub last : bits 0 0 q ≡ bit more

pub extension_digits : (n e : ℕ) (ms : List Mark) (more : Bool) → e < 8 → ExtensionDigits (extension_word n e ms more) n e ms more
extension_digits n e ms more h =
    let m0 = small_at ms 0 in
    let m1 = small_at ms 1 in
    let m2 = small_at ms 2 in
    let m3 = small_at ms 3 in
    let m4 = small_at ms 4 in
    let m5 = small_at ms 5 in
    let m6 = small_at ms 6 in
    let m7 = small_at ms 7 in
    let o = bit_small more in
    omega arith
