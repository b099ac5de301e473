-- The announcement tells the cabling: it is read from its end, each node before its children and the highest down port first.
use Rattle.std.proofs.Common.{◌≡◌, ℕ, zero, suc, ◌+◌, List, [], ◌∷◌, ◌++◌, length, get_or, drop, sym, refl, ap, ◌∙◌, ap₂, append_assoc, append-nil, arith}
use Rattle.selfid.specs.declared.mark.Mark.{Mark}
use Rattle.selfid.specs.Marks.{mark_code}
use Rattle.selfid.specs.Packets.{code_at, with_inverses}
use Rattle.selfid.specs.Cabling.{Childless, absent, «open», up, childless_mark, Cabling, node, Ports, end, plain, down, marks_of, size, size_below, Sound, SoundBelow}
use Rattle.selfid.specs.Announcement.{packets_from, packets_below, packets, AnnouncementTellsTheCabling}
use Rattle.selfid.proofs.Apart.{node_known}

-- What stood before, and the cabling or the ports.
record SameCabling (a b : List ℕ) (c d : Cabling) : Type 0 where
  before : a ≡ b
  cabling : c ≡ d

record SamePorts (a b : List ℕ) (ps qs : Ports) : Type 0 where
  before : a ≡ b
  ports : ps ≡ qs

-- Lists of marks that are the same begin with the same code and go on the same.
pub head_code : {m o : Mark} {ms os : List Mark} → ◌≡◌ {A = List Mark} (m ∷ ms) (o ∷ os) → mark_code m ≡ mark_code o
head_code e = ap (λ l. code_at l 0) e

pub tail_marks : {m o : Mark} {ms os : List Mark} → ◌≡◌ {A = List Mark} (m ∷ ms) (o ∷ os) → ms ≡ os
tail_marks e = ap (drop 1) e

-- A port without a child is not down, and is known by the code of its mark.
pub leads_to_none : (k : Childless) → mark_code (childless_mark k) ≡ 3 → ⊥
leads_to_none absent e = omega arith
leads_to_none «open» e = omega arith
leads_to_none up e = omega arith

abbrev childless_with : ℕ → Childless
childless_with zero = absent
childless_with (suc zero) = «open»
childless_with (suc (suc n)) = up

with_its_code : (k : Childless) → childless_with (mark_code (childless_mark k)) ≡ k
with_its_code absent = refl
with_its_code «open» = refl
with_its_code up = refl

pub childless_known : (k j : Childless) → mark_code (childless_mark k) ≡ mark_code (childless_mark j) → k ≡ j
childless_known k j e = sym (with_its_code k) ∙ ap childless_with e ∙ with_its_code j

mutual
  cabling_known : (c d : Cabling) (a b : List ℕ) (n m k l : ℕ) → Sound k c → Sound l d → a ++ packets_from n c ≡ b ++ packets_from m d → SameCabling a b c d
  cabling_known (node x ps) (node y qs) a b n m k l s t e =
      let h = node_known (a ++ packets_below n ps) (b ++ packets_below m qs) (n + size_below ps) (m + size_below qs) x y (marks_of ps) (marks_of qs) s.0 t.0 (append_assoc a (packets_below n ps) _ ∙ e ∙ sym (append_assoc b (packets_below m qs) _)) in
      let r = ports_known ps qs a b n m s.2 t.2 h.marks h.before in
      let f = h.fields in
      let p = r.ports in
      record { before = r.before; cabling = λ i. node (f i) (p i) }

  ports_known : (ps qs : Ports) (a b : List ℕ) (n m : ℕ) → SoundBelow ps → SoundBelow qs → marks_of ps ≡ marks_of qs → a ++ packets_below n ps ≡ b ++ packets_below m qs → SamePorts a b ps qs
  ports_known end end a b n m s t ms e = record { before = sym (append-nil a) ∙ e ∙ append-nil b; ports = refl }
  ports_known end (plain k qs) a b n m s t ms e = absurd (omega (arith, ap length ms))
  ports_known end (down d qs) a b n m s t ms e = absurd (omega (arith, ap length ms))
  ports_known (plain k ps) end a b n m s t ms e = absurd (omega (arith, ap length ms))
  ports_known (plain k ps) (plain j qs) a b n m s t ms e =
      let r = ports_known ps qs a b n m s t (tail_marks ms) e in
      record { before = r.before; ports = ap₂ plain (childless_known k j (head_code ms)) r.ports }
  ports_known (plain k ps) (down d qs) a b n m s t ms e = absurd (leads_to_none k (head_code ms))
  ports_known (down c ps) end a b n m s t ms e = absurd (omega (arith, ap length ms))
  ports_known (down c ps) (plain k qs) a b n m s t ms e = absurd (leads_to_none k (sym (head_code ms)))
  ports_known (down c ps) (down d qs) a b n m s t ms e =
      let r = ports_known ps qs (a ++ packets_from n c) (b ++ packets_from m d) (n + size c) (m + size d) s.1 t.1 (tail_marks ms) (append_assoc a (packets_from n c) _ ∙ e ∙ sym (append_assoc b (packets_from m d) _)) in
      let h = cabling_known c d a b n m 1 1 s.0 t.0 r.before in
      record { before = h.before; ports = ap₂ down h.cabling r.ports }

-- Without its inverses an announcement is its packets.
pub packets_known : (qs rs : List ℕ) → with_inverses qs ≡ with_inverses rs → qs ≡ rs
packets_known [] [] e = refl
packets_known [] (r ∷ rs) e = absurd (omega (arith, ap length e))
packets_known (q ∷ qs) [] e = absurd (omega (arith, ap length e))
packets_known (q ∷ qs) (r ∷ rs) e =
    let first : q ≡ r = ap (λ l. get_or l 0 q) e in
    let rest = packets_known qs rs (ap (drop 2) e) in
    λ i. first i ∷ rest i

pub announcement_tells_the_cabling : AnnouncementTellsTheCabling
announcement_tells_the_cabling c d p q e = (cabling_known c d [] [] 0 0 0 0 p.sound q.sound (packets_known (packets c) (packets d) e)).cabling
