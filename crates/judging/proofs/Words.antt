-- What a packet's word reads as, and the word that a reading came from.
use Rattle.std.proofs.Common.{◌≡◌, ℕ, zero, suc, ◌+◌, ◌/◌, ◌^◌, ◌<◌, ◌≤◌, Bool, true, false, not, ◌&&◌, eqb, List, [], ◌∷◌, length, sym, refl, ap, ◌∙◌, arith}
use Rattle.std.proofs.lemmas.Bool.{eq-eqb, ne_eqb, eqb-true}
use Rattle.selfid.specs.declared.mark.Mark.{Mark}
use Rattle.selfid.specs.declared.node.Fields.{Fields}
use Rattle.selfid.specs.Packets.{code_at, zero_word, extension_word}
use Rattle.selfid.specs.Reading.{bits}
use Rattle.selfid.proofs.Digits.{speed_small, ZeroDigits, zero_digits, ExtensionDigits, extension_digits}
use Rattle.judging.specs.Standing.{has_more, turn_of, marks_in}
use Rattle.judging.proofs.RebuiltWords.{first_three, first_eight, zero_read, extension_read}
use Rattle.judging.proofs.Rows.{padded}
use Rattle.judging.proofs.Machine.{PacketWord}

-- The word q is packet k of node n, tells the marks ms and says whether more follow.
pub record Sent (q n k : ℕ) (ms : List Mark) (more : Bool) : Type 0 where
  pub packet : PacketWord q
  pub number : bits 29 24 q ≡ n
  pub turn : turn_of q ≡ k
  pub marks : marks_in q ≡ ms
  pub last : has_more q ≡ more

three : (ms : List Mark) → first_three ms ≡ padded 3 ms
three [] = refl
three (a ∷ []) = refl
three (a ∷ b ∷ []) = refl
three (a ∷ b ∷ c ∷ ms) = refl

pub zero_sent : (n : ℕ) (x : Fields) (ms : List Mark) (more : Bool) → n < 64 → Sent (zero_word n x ms more) n 0 (padded 3 ms) more
zero_sent n x ms more h =
    let r = zero_read n x ms more in
    record { packet = is_packet (zero_word n x ms more) (zero_digits n x ms more); number = r.number h; turn = r.in_turn; marks = r.marks ∙ three ms; last = r.followed }
  where
    is_packet : (q : ℕ) → ZeroDigits q n x ms more → PacketWord q
    is_packet q d =
        let s = speed_small x.speed in
        let top : eqb (q / 2 ^ 30) 2 ≡ true = eq-eqb (q / 2 ^ 30) 2 (omega (arith, d.head)) in
        let kind : eqb (bits 23 23 q) 1 ≡ false = ne_eqb (bits 23 23 q) 1 (λ e. omega (arith, d.kind, e)) in
        let clear : eqb (bits 13 12 q) 0 ≡ true = eq-eqb (bits 13 12 q) 0 d.reserved in
        let speed : eqb (bits 15 14 q) 3 ≡ false = ne_eqb (bits 15 14 q) 3 (λ e. omega (arith, d.speed, e)) in
        simp (top, kind, clear, speed)

eight : (ms : List Mark) → first_eight ms ≡ padded 8 ms
eight [] = refl
eight (a ∷ []) = refl
eight (a ∷ b ∷ []) = refl
eight (a ∷ b ∷ c ∷ []) = refl
eight (a ∷ b ∷ c ∷ d ∷ []) = refl
eight (a ∷ b ∷ c ∷ d ∷ e ∷ []) = refl
eight (a ∷ b ∷ c ∷ d ∷ e ∷ f ∷ []) = refl
eight (a ∷ b ∷ c ∷ d ∷ e ∷ f ∷ g ∷ []) = refl
eight (a ∷ b ∷ c ∷ d ∷ e ∷ f ∷ g ∷ h ∷ ms) = refl

-- The marks of the ports behind the sixteenth are absent.
past : (ms : List Mark) (i : ℕ) → length ms ≤ i → code_at ms i ≡ 0
past [] i h = refl
past (m ∷ ms) zero h = absurd (omega arith)
past (m ∷ ms) (suc i) h = past ms i (omega arith)

pub extension_sent : (n e : ℕ) (ms : List Mark) (more : Bool) → n < 64 → e < 8 → (e ≡ 1 → length ms ≤ 5) → Sent (extension_word n e ms more) n (e + 1) (padded 8 ms) more
extension_sent n e ms more h l few =
    let r = extension_read n e ms more l in
    record { packet = is_packet (extension_word n e ms more) (extension_digits n e ms more l); number = r.number h; turn = r.in_turn; marks = r.marks ∙ eight ms; last = r.followed }
  where
    unset : (q : ℕ) → ExtensionDigits q n e ms more → (eqb (bits 22 20 q) 1 && not (eqb (bits 7 2 q) 0)) ≡ false
    unset q d = go (eqb (bits 22 20 q) 1) refl
      where
        go : (b : Bool) → eqb (bits 22 20 q) 1 ≡ b → (b && not (eqb (bits 7 2 q) 0)) ≡ false
        go true t =
            let one = few (sym d.turn ∙ eqb-true (bits 22 20 q) 1 t) in
            ap not (eq-eqb (bits 7 2 q) 0 (omega (arith, d.behind_fifth, past ms 5 one, past ms 6 (omega arith), past ms 7 (omega arith))))
        go false t = refl

    is_packet : (q : ℕ) → ExtensionDigits q n e ms more → PacketWord q
    is_packet q d =
        let top : eqb (q / 2 ^ 30) 2 ≡ true = eq-eqb (q / 2 ^ 30) 2 (omega (arith, d.head)) in
        let kind : eqb (bits 23 23 q) 1 ≡ true = eq-eqb (bits 23 23 q) 1 d.kind in
        let clear : eqb (bits 19 18 q) 0 ≡ true = eq-eqb (bits 19 18 q) 0 d.reserved in
        let unused : eqb (bits 1 1 q) 0 ≡ true = eq-eqb (bits 1 1 q) 0 d.unused in
        simp (top, kind, clear, unused, unset q d)
