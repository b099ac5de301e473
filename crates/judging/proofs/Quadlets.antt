-- Quadlets and packets: every second quadlet is an inverse.
use Rattle.std.proofs.Common.{◌≡◌, ℕ, suc, ◌%◌, ◌<◌, true, false, eqb, List, [], ◌∷◌, ◌++◌, length, get_or, drop, sym, refl, ap, ◌∙◌, ap₂, arith}
use mathlib.Core.List.{reverse-cons}
use lib.ListN.{length-reverse}
use Rattle.std.proofs.lemmas.List.{get_or_append_left}
use Rattle.selfid.specs.Packets.{inverse_of, with_inverses}
use Rattle.judging.specs.Standing.{without_inverses, packets_taken, inverse_due}

-- Every second quadlet is the inverse of the one before.
abbrev pub Inverses : List ℕ → Type 0
Inverses [] = Unit {0}
Inverses (q ∷ []) = Unit {0}
Inverses (q ∷ i ∷ qs) = (i ≡ inverse_of q) × Inverses qs

due_behind : (q i : ℕ) (qs : List ℕ) → inverse_due (q ∷ i ∷ qs) ≡ inverse_due qs
due_behind q i qs = ap (λ k. eqb k 1) (two (length qs))
  where
    two : (n : ℕ) → suc (suc n) % 2 ≡ n % 2
    two n = omega arith

cons_head : {x y : ℕ} {xs ys : List ℕ} → ◌≡◌ {A = List ℕ} (x ∷ xs) (y ∷ ys) → x ≡ y
cons_head {x} e = ap (λ l. get_or l 0 x) e

cons_tail : {x y : ℕ} {xs ys : List ℕ} → ◌≡◌ {A = List ℕ} (x ∷ xs) (y ∷ ys) → xs ≡ ys
cons_tail e = ap (drop 1) e

pub inverses_with : (ps : List ℕ) → Inverses (with_inverses ps)
inverses_with [] = tt
inverses_with (p ∷ ps) = (refl, inverses_with ps)

-- The quadlets with which packets and their inverses begin, and back.
pub record Front (ps qs : List ℕ) : Type 0 where
  pub inverses : Inverses qs
  pub behind : List ℕ
  pub same : ps ≡ without_inverses qs ++ behind

pub front : (ps qs behind : List ℕ) → with_inverses ps ≡ qs ++ behind → Front ps qs
front ps [] behind e = record { inverses = tt; behind = ps; same = refl }
front [] (q ∷ qs) behind e = absurd (omega (arith, ap length e))
front (p ∷ ps) (q ∷ []) behind e = record { inverses = tt; behind = ps; same = ap (λ o. o ∷ ps) (cons_head e) }
front (p ∷ ps) (q ∷ i ∷ qs) behind e =
    let f = front ps qs behind (cons_tail (cons_tail e)) in
    record {
      inverses = (sym (cons_head (cons_tail e)) ∙ ap inverse_of (cons_head e), f.inverses);
      behind = f.behind;
      same = ap₂ {C = List ℕ} (λ o os. o ∷ os) (cons_head e) f.same;
    }

pub record Longer (qs us : List ℕ) : Type 0 where
  pub behind : List ℕ
  pub same : with_inverses (without_inverses qs ++ us) ≡ qs ++ behind

pub longer : (qs us : List ℕ) → Inverses qs → Longer qs us
longer [] us h = record { behind = with_inverses us; same = refl }
longer (q ∷ []) us h = record { behind = inverse_of q ∷ with_inverses us; same = refl }
longer (q ∷ i ∷ qs) us (e, h) =
    let r = longer qs us h in
    record { behind = r.behind; same = ap₂ {C = List ℕ} (λ o os. q ∷ o ∷ os) (sym e) r.same }

pub due_with : (ps : List ℕ) → inverse_due (with_inverses ps) ≡ false
due_with [] = refl
due_with (p ∷ ps) = due_behind p (inverse_of p) (with_inverses ps) ∙ due_with ps

-- One quadlet more, where no inverse is due: it is a packet.
pub packet_more : (qs : List ℕ) (q : ℕ) → inverse_due qs ≡ false → without_inverses (qs ++ (q ∷ [])) ≡ without_inverses qs ++ (q ∷ [])
packet_more [] q e = refl
packet_more (p ∷ []) q e = absurd (let z : ◌≡◌ {A = ℕ} 0 1 = cc in omega arith)
packet_more (p ∷ i ∷ qs) q e = ap (λ (r : List ℕ). p ∷ r) (packet_more qs q (sym (due_behind p i qs) ∙ e))

pub inverses_packet : (qs : List ℕ) (q : ℕ) → inverse_due qs ≡ false → Inverses qs → Inverses (qs ++ (q ∷ []))
inverses_packet [] q e h = tt
inverses_packet (p ∷ []) q e h = absurd (let z : ◌≡◌ {A = ℕ} 0 1 = cc in omega arith)
inverses_packet (p ∷ i ∷ qs) q e (k, h) = (k, inverses_packet qs q (sym (due_behind p i qs) ∙ e) h)

-- One quadlet more, where an inverse is due.
pub inverse_more : (qs : List ℕ) (q : ℕ) → inverse_due qs ≡ true → without_inverses (qs ++ (q ∷ [])) ≡ without_inverses qs
inverse_more [] q e = absurd (let z : ◌≡◌ {A = ℕ} 0 1 = cc in omega arith)
inverse_more (p ∷ []) q e = refl
inverse_more (p ∷ i ∷ qs) q e = ap (λ (r : List ℕ). p ∷ r) (inverse_more qs q (sym (due_behind p i qs) ∙ e))

some_packet : (qs : List ℕ) → inverse_due qs ≡ true → 0 < length (without_inverses qs)
some_packet [] e = absurd (let z : ◌≡◌ {A = ℕ} 0 1 = cc in omega arith)
some_packet (p ∷ []) e = omega arith
some_packet (p ∷ i ∷ qs) e = omega arith

newest_behind : (p i : ℕ) (qs : List ℕ) → inverse_due qs ≡ true → get_or (packets_taken (p ∷ i ∷ qs)) 0 0 ≡ get_or (packets_taken qs) 0 0
newest_behind p i qs e =
    ap (λ (r : List ℕ). get_or r 0 0) (reverse-cons p (without_inverses qs))
    ∙ get_or_append_left (packets_taken qs) (p ∷ []) 0 0 (omega (arith, some_packet qs e, length-reverse (without_inverses qs)))

pub inverses_inverse : (qs : List ℕ) (q : ℕ) → inverse_due qs ≡ true → Inverses qs → q ≡ inverse_of (get_or (packets_taken qs) 0 0) → Inverses (qs ++ (q ∷ []))
inverses_inverse [] q e h k = tt
inverses_inverse (p ∷ []) q e h k = (k, tt)
inverses_inverse (p ∷ i ∷ qs) q e (j, h) k =
    let due = sym (due_behind p i qs) ∙ e in
    (j, inverses_inverse qs q due h (k ∙ ap inverse_of (newest_behind p i qs due)))

pub inverse_known : (qs : List ℕ) (q : ℕ) → inverse_due qs ≡ true → Inverses (qs ++ (q ∷ [])) → q ≡ inverse_of (get_or (packets_taken qs) 0 0)
inverse_known [] q e h = absurd (let z : ◌≡◌ {A = ℕ} 0 1 = cc in omega arith)
inverse_known (p ∷ []) q e h = h.0
inverse_known (p ∷ i ∷ qs) q e (j, h) =
    let due = sym (due_behind p i qs) ∙ e in
    inverse_known qs q due h ∙ ap inverse_of (sym (newest_behind p i qs due))

-- Where no inverse is due, the packets with their inverses are all quadlets.
pub with_without : (qs : List ℕ) → Inverses qs → inverse_due qs ≡ false → with_inverses (without_inverses qs) ≡ qs
with_without [] h e = refl
with_without (q ∷ []) h e = absurd (let z : ◌≡◌ {A = ℕ} 0 1 = cc in omega arith)
with_without (q ∷ i ∷ qs) (k, h) e = ap₂ {C = List ℕ} (λ o os. q ∷ o ∷ os) (sym k) (with_without qs h (sym (due_behind q i qs) ∙ e))
