-- From a completable state a packet leads on to a completable one.
use Rattle.std.proofs.Common.{◌≡◌, ℕ, zero, suc, ◌+◌, ◌-◌, ◌<◌, ◌≤◌, min, Bool, true, false, List, [], ◌∷◌, length, drop, refl, ap, ◌∙◌, inl, inr, arith}
use native.Mathlib.Decide.{dec_le}
use Rattle.selfid.specs.declared.mark.Mark.{Mark}
use Rattle.selfid.specs.declared.mark.Mark.TheVariants.{Open, Up, Down}
use Rattle.selfid.specs.Marks.{ups, downs, present}
use Rattle.selfid.specs.Packets.{zero_word, extension_word}
use Rattle.selfid.specs.Reading.{fields_in}
use Rattle.std.proofs.lemmas.List.{drop_all}
use Rattle.judging.proofs.Rows.{padded, ups_padded, downs_padded, present_padded}
use Rattle.judging.proofs.Words.{Sent, zero_sent, extension_sent}
use Rattle.judging.proofs.Machine.{Turn, first, second, third, order, width, State, going, move, after, Ends, Fits, Good}

-- The conditions that a packet must meet, where it tells these marks.
pub fits_sent : (t : Turn) (q f l u d : ℕ) (ms : List Mark) (b : Bool) → Sent q f (order t) ms b → u + ups ms ≤ 1 → d + downs ms ≤ l → Ends b t ms l (u + ups ms) (d + downs ms) → Fits (going f l u d t) q
fits_sent t q f l u d ms b s one held k = (s.packet, s.number, s.turn, rw s.marks one, rw s.marks held, rw (s.marks, s.last) k)

pub after_sent : (t : Turn) (q f l u d : ℕ) (ms : List Mark) (b : Bool) → Sent q f (order t) ms b → after (going f l u d t) q ≡ move b f l (u + ups ms) (d + downs ms) t
after_sent t q f l u d ms b s = rw (s.marks, s.last) refl

-- y up marks, x down marks and z open ports.
fill : ℕ → ℕ → ℕ → List Mark
fill zero zero zero = []
fill zero zero (suc z) = Open ∷ fill zero zero z
fill zero (suc x) z = Down ∷ fill zero x z
fill (suc y) x z = Up ∷ fill y x z

fill_length : (y x z : ℕ) → length (fill y x z) ≡ y + x + z
unfolding fill
fill_length zero zero zero = refl
fill_length zero zero (suc z) = omega (arith, fill_length zero zero z)
fill_length zero (suc x) z = omega (arith, fill_length zero x z)
fill_length (suc y) x z = omega (arith, fill_length y x z)

fill_ups : (y x z : ℕ) → ups (fill y x z) ≡ y
unfolding fill
fill_ups zero zero zero = refl
fill_ups zero zero (suc z) = fill_ups zero zero z
fill_ups zero (suc x) z = fill_ups zero x z
fill_ups (suc y) x z = ap suc (fill_ups y x z)

fill_downs : (y x z : ℕ) → downs (fill y x z) ≡ x
unfolding fill
fill_downs zero zero zero = refl
fill_downs zero zero (suc z) = fill_downs zero zero z
fill_downs zero (suc x) z = ap suc (fill_downs zero x z)
fill_downs (suc y) x z = fill_downs y x z

fill_present : (y x z : ℕ) → 1 ≤ y + x + z → present (fill y x z) ≡ true
unfolding fill
fill_present zero zero zero h = absurd (omega arith)
fill_present zero zero (suc z) h = refl
fill_present zero (suc x) z h = refl
fill_present (suc y) x z h = refl

-- A word that tells these marks at this turn.
word : Turn → ℕ → List Mark → Bool → ℕ
word first f ms b = zero_word f (fields_in 0) ms b
word second f ms b = extension_word f 0 ms b
word third f ms b = extension_word f 1 ms b

-- How many marks a packet's word has room for.
abbrev span : Turn → ℕ
span first = 3
span second = 8
span third = 8

word_sent : (t : Turn) (f : ℕ) (ms : List Mark) (b : Bool) → f < 64 → length ms ≡ width t → Sent (word t f ms b) f (order t) (padded (span t) ms) b
unfolding word
word_sent first f ms b h w = zero_sent f (fields_in 0) ms b h
word_sent second f ms b h w = extension_sent f 0 ms b h (omega arith) (λ e. absurd (omega arith))
word_sent third f ms b h w = extension_sent f 1 ms b h (omega arith) (λ e. omega arith)

-- A packet that leads on to a completable state.
abbrev pub Lead : State → Type 0
Lead s = (q : ℕ) × Fits s q × Good (after s q)

sends : (b : Bool) (t : Turn) (ms : List Mark) (f l u d v e : ℕ) → f ≤ 62 → length ms ≡ width t → u + ups ms ≡ v → d + downs ms ≡ e → v ≤ 1 → e ≤ l → Ends b t (padded (span t) ms) l v e → Good (move b f l v e t) → Lead (going f l u d t)
sends b t ms f l u d v e small w eu ed one held k g =
    let all : drop (span t) ms ≡ [] = drop_all (span t) ms (fewer t w) in
    let up_same : u + ups (padded (span t) ms) ≡ v = omega (arith, ups_padded (span t) ms, ap ups all) in
    let down_same : d + downs (padded (span t) ms) ≡ e = omega (arith, downs_padded (span t) ms, ap downs all) in
    let s = word_sent t f ms b (omega arith) w in
    (word t f ms b, fits_sent t (word t f ms b) f l u d (padded (span t) ms) b s (rw up_same one) (rw down_same held) (rw (up_same, down_same) k), rw (after_sent t (word t f ms b) f l u d (padded (span t) ms) b s, up_same, down_same) g)
  where
    fewer : (t : Turn) → length ms ≡ width t → length ms ≤ span t
    fewer first w = omega arith
    fewer second w = omega arith
    fewer third w = omega arith

fills : (b : Bool) (t : Turn) (y x z f l u d v e : ℕ) → f ≤ 62 → y + x + z ≡ width t → u + y ≡ v → d + x ≡ e → v ≤ 1 → e ≤ l → Ends b t (padded (span t) (fill y x z)) l v e → Good (move b f l v e t) → Lead (going f l u d t)
fills b t y x z f l u d v e small w eu ed one held k g =
    sends b t (fill y x z) f l u d v e small (fill_length y x z ∙ w) (rw fill_ups eu) (rw fill_downs ed) one held k g

five_present : (y x z : ℕ) → y + x + z ≡ 5 → present (padded 8 (fill y x z)) ≡ true
five_present y x z w =
    present_padded 8 (fill y x z) (fill_present y x z (omega arith)) (ap present (drop_all 8 (fill y x z) (omega (arith, fill_length y x z))))

lead_third : (f l u d : ℕ) → Good (going f l u d third) → Lead (going f l u d third)
lead_third f l u d (one, held, small, inl h) =
    fills false third 0 (l - d) (5 - (l - d)) f l u d 0 l small (omega arith) (omega arith) (omega arith) (omega arith) (omega arith) (five_present 0 (l - d) (5 - (l - d)) (omega arith), λ _. refl) (omega arith)
lead_third f l u d (one, held, small, inr h) =
    let y : ℕ = 1 - u in
    let x : ℕ = min (4 + u) (l - d) in
    fills false third y x (5 - (y + x)) f l u d 1 (d + x) small (omega arith) (omega arith) (omega arith) (omega arith) (omega arith) (five_present y x (5 - (y + x)) (omega arith), λ (z : 1 ≡ 0). absurd (omega arith)) (omega arith, omega arith, omega arith, elim (dec_le (suc f) 61) [ yes k ↦ inr (omega arith) | no k ↦ inl (omega arith) ])

pub lead : (f l u d : ℕ) (t : Turn) → Good (going f l u d t) → Lead (going f l u d t)
lead f l u d first (one, held, small, g) =
    let x : ℕ = min 3 (l - d) in
    fills true first 0 x (3 - x) f l u d u (d + x) small (omega arith) (omega arith) (omega arith) (omega arith) (omega arith) tt (omega arith, omega arith, omega arith, elim g [ inl h ↦ inl (omega arith) | inr h ↦ inr (omega arith) ])
lead f l u d second (one, held, small, g) =
    let x : ℕ = min 8 (l - d) in
    fills true second 0 x (8 - x) f l u d u (d + x) small (omega arith) (omega arith) (omega arith) (omega arith) (omega arith) tt (omega arith, omega arith, omega arith, elim g [ inl h ↦ inl (omega arith) | inr h ↦ inr (omega arith) ])
lead f l u d third g = lead_third f l u d g
