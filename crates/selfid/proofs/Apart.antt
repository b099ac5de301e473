-- The packets of a node tell its number, its fields and its marks.
use Rattle.std.proofs.Common.{◌≡◌, ℕ, zero, suc, ◌+◌, ◌*◌, ◌/◌, ◌^◌, ◌<◌, ◌≤◌, Bool, true, false, cond, eqb, List, [], ◌∷◌, ◌++◌, length, get_or, drop, sym, refl, ap, ◌∙◌, arith, length-drop}
use Rattle.std.proofs.lemmas.Bool.{cond_both}
use Rattle.selfid.specs.declared.mark.Mark.{Mark}
use Rattle.selfid.specs.declared.mark.Mark.TheVariants.{Absent, Open, Up, Down}
use Rattle.selfid.specs.declared.node.Fields.{Fields}
use Rattle.selfid.specs.Marks.{mark_code, present}
use Rattle.selfid.specs.Packets.{bit, code_at, zero_word, extension_word}
use Rattle.selfid.specs.Nodes.{port_limit, extensions, node_packets}
use Rattle.selfid.specs.Reading.{bits, mark_in, speed_in}
use Rattle.selfid.proofs.Same.{same_fields}
use Rattle.selfid.proofs.Digits.{mark_back, speed_back, bit_back, ZeroDigits, zero_digits, ExtensionDigits, extension_digits}

-- A mark is known by its code, a flag by its bit.
mark_known : (m o : Mark) → mark_code m ≡ mark_code o → m ≡ o
mark_known m o e = sym (mark_back m) ∙ ap mark_in e ∙ mark_back o

bit_known : (b d : Bool) → bit b ≡ bit d → b ≡ d
bit_known b d e = sym (bit_back b) ∙ ap (λ n. eqb n 1) e ∙ bit_back d

-- Lists of marks that agree in length, in the first n and behind them are the same.
pub same_marks : (n : ℕ) (ms os : List Mark) → length ms ≡ length os → ((i : ℕ) → i < n → get_or ms i Absent ≡ get_or os i Absent) → drop n ms ≡ drop n os → ms ≡ os
same_marks zero ms os l f d = d
same_marks (suc n) [] [] l f d = refl
same_marks (suc n) [] (o ∷ os) l f d = absurd (omega arith)
same_marks (suc n) (m ∷ ms) [] l f d = absurd (omega arith)
same_marks (suc n) (m ∷ ms) (o ∷ os) l f d =
    let first : m ≡ o = f 0 (omega arith) in
    let rest = same_marks n ms os (omega arith) (λ i h. f (suc i) (omega arith)) d in
    λ k. first k ∷ rest k

-- Where no mark is there, the length tells the list.
none_there : (ms os : List Mark) → length ms ≡ length os → present ms ≡ false → present os ≡ false → ms ≡ os
none_there [] [] l a b = refl
none_there [] (o ∷ os) l a b = absurd (omega arith)
none_there (m ∷ ms) [] l a b = absurd (omega arith)
none_there (Absent ∷ ms) (Absent ∷ os) l a b = ap (λ r. Absent ∷ r) (none_there ms os (omega arith) a b)
none_there (Absent ∷ ms) (Open ∷ os) l a b = absurd (let z : ◌≡◌ {A = ℕ} 0 1 = cc in omega arith)
none_there (Absent ∷ ms) (Up ∷ os) l a b = absurd (let z : ◌≡◌ {A = ℕ} 0 1 = cc in omega arith)
none_there (Absent ∷ ms) (Down ∷ os) l a b = absurd (let z : ◌≡◌ {A = ℕ} 0 1 = cc in omega arith)
none_there (Open ∷ ms) (o ∷ os) l a b = absurd (let z : ◌≡◌ {A = ℕ} 0 1 = cc in omega arith)
none_there (Up ∷ ms) (o ∷ os) l a b = absurd (let z : ◌≡◌ {A = ℕ} 0 1 = cc in omega arith)
none_there (Down ∷ ms) (o ∷ os) l a b = absurd (let z : ◌≡◌ {A = ℕ} 0 1 = cc in omega arith)

-- Extension words of one turn tell the first eight marks.
eight_known : (n m e : ℕ) (ms os : List Mark) (a b : Bool) → e < 8 → extension_word n e ms a ≡ extension_word m e os b → (i : ℕ) → i < 8 → get_or ms i Absent ≡ get_or os i Absent
eight_known n m e ms os a b h same i l = mark_known _ _ (at i l)
  where
    q : ℕ
    q = extension_word n e ms a

    d : ExtensionDigits (extension_word n e ms a) n e ms a
    d = extension_digits n e ms a h

    f : ExtensionDigits (extension_word m e os b) m e os b
    f = extension_digits m e os b h

    at : (i : ℕ) → i < 8 → code_at ms i ≡ code_at os i
    at zero l = sym d.first ∙ ap (bits 17 16) same ∙ f.first
    at (suc zero) l = sym d.second ∙ ap (bits 15 14) same ∙ f.second
    at (suc (suc zero)) l = sym d.third ∙ ap (bits 13 12) same ∙ f.third
    at (suc (suc (suc zero))) l = sym d.fourth ∙ ap (bits 11 10) same ∙ f.fourth
    at (suc (suc (suc (suc zero)))) l = sym d.fifth ∙ ap (bits 9 8) same ∙ f.fifth
    at (suc (suc (suc (suc (suc zero))))) l = sym d.sixth ∙ ap (bits 7 6) same ∙ f.sixth
    at (suc (suc (suc (suc (suc (suc zero)))))) l = sym d.seventh ∙ ap (bits 5 4) same ∙ f.seventh
    at (suc (suc (suc (suc (suc (suc (suc zero))))))) l = sym d.eighth ∙ ap (bits 3 2) same ∙ f.eighth
    at (suc (suc (suc (suc (suc (suc (suc (suc i)))))))) l = absurd (omega arith)

cons_head : {x y : ℕ} {xs ys : List ℕ} → ◌≡◌ {A = List ℕ} (x ∷ xs) (y ∷ ys) → x ≡ y
cons_head {x} e = ap (λ l. get_or l 0 x) e

cons_tail : {x y : ℕ} {xs ys : List ℕ} → ◌≡◌ {A = List ℕ} (x ∷ xs) (y ∷ ys) → xs ≡ ys
cons_tail e = ap (drop 1) e

-- The extensions from extension e on tell the marks, if there is room for all of these.
pub extensions_known : (k n m e : ℕ) (ms os : List Mark) → e + k ≤ 8 → length ms ≤ 8 * k → length ms ≡ length os → extensions k n e ms ≡ extensions k m e os → ms ≡ os
extensions_known zero n m e [] [] h r l same = refl
extensions_known zero n m e [] (o ∷ os) h r l same = absurd (omega arith)
extensions_known zero n m e (o ∷ ms) os h r l same = absurd (omega arith)
extensions_known (suc k) n m e ms os h r l same =
    go (present ms) (present os) refl refl (extensions_known k n m (suc e) (drop 8 ms) (drop 8 os) (omega arith) (simp length-drop (omega arith)) (simp length-drop (omega arith)))
  where
    sent : (a : Bool) (ns : List Mark) (n : ℕ) → present ns ≡ a → extensions (suc k) n e ns ≡ cond a (extension_word n e ns (present (drop 8 ns)) ∷ extensions k n (suc e) (drop 8 ns)) []
    sent a ns n p = ap (λ b. cond b (extension_word n e ns (present (drop 8 ns)) ∷ extensions k n (suc e) (drop 8 ns)) []) p

    go : (a b : Bool) → present ms ≡ a → present os ≡ b → (extensions k n (suc e) (drop 8 ms) ≡ extensions k m (suc e) (drop 8 os) → drop 8 ms ≡ drop 8 os) → ms ≡ os
    go false false p q rest = none_there ms os l p q
    go false true p q rest = absurd (let c = sym (sent false ms n p) ∙ same ∙ sent true os m q in let z : ◌≡◌ {A = ℕ} 0 1 = cc in omega arith)
    go true false p q rest = absurd (let c = sym (sent true ms n p) ∙ same ∙ sent false os m q in let z : ◌≡◌ {A = ℕ} 0 1 = cc in omega arith)
    go true true p q rest =
        let c = sym (sent true ms n p) ∙ same ∙ sent true os m q in
        same_marks 8 ms os l (eight_known n m e ms os _ _ (omega arith) (cons_head c)) (rest (cons_tail c))

-- The first word of a node tells its number, its fields and its first three marks.
pub record FirstKnown (n m : ℕ) (x y : Fields) (ms os : List Mark) : Type 0 where
  pub number : n ≡ m
  pub fields : x ≡ y
  pub three : (i : ℕ) → i < 3 → get_or ms i Absent ≡ get_or os i Absent

pub first_known : (n m : ℕ) (x y : Fields) (ms os : List Mark) (a b : Bool) → zero_word n x ms a ≡ zero_word m y os b → FirstKnown n m x y ms os
first_known n m x y ms os a b same =
    record {
      number = omega (arith, d.head, f.head, ap (λ q. q / 2 ^ 24) same);
      fields =
          same_fields x y
          (bit_known _ _ (sym d.link ∙ ap (bits 22 22) same ∙ f.link))
          (bit_known _ _ (sym d.contender ∙ ap (bits 11 11) same ∙ f.contender))
          (bit_known _ _ (sym d.initiator ∙ ap (bits 1 1) same ∙ f.initiator))
          (sym d.gap ∙ ap (bits 21 16) same ∙ f.gap)
          (sym (speed_back x.speed) ∙ ap speed_in (sym d.speed ∙ ap (bits 15 14) same ∙ f.speed) ∙ speed_back y.speed)
          (sym d.power ∙ ap (bits 10 8) same ∙ f.power);
      three = λ i l. mark_known _ _ (at i l);
    }
  where
    d : ZeroDigits (zero_word n x ms a) n x ms a
    d = zero_digits n x ms a

    f : ZeroDigits (zero_word m y os b) m y os b
    f = zero_digits m y os b

    at : (i : ℕ) → i < 3 → code_at ms i ≡ code_at os i
    at zero l = sym d.first ∙ ap (bits 7 6) same ∙ f.first
    at (suc zero) l = sym d.second ∙ ap (bits 5 4) same ∙ f.second
    at (suc (suc zero)) l = sym d.third ∙ ap (bits 3 2) same ∙ f.third
    at (suc (suc (suc i))) l = absurd (omega arith)

-- All of these words are extensions.
pub AllExtensions : List ℕ → Type 0
AllExtensions [] = Unit {0}
AllExtensions (q ∷ qs) = (bits 23 23 q ≡ 1) × AllExtensions qs

pub extensions_all : (k n e : ℕ) (ms : List Mark) → e + k ≤ 8 → AllExtensions (extensions k n e ms)
unfolding AllExtensions
extensions_all zero n e ms h = tt
extensions_all (suc k) n e ms h =
    cond_both (present ms) (extension_word n e ms (present (drop 8 ms)) ∷ extensions k n (suc e) (drop 8 ms)) [] AllExtensions
    (λ _. ((extension_digits n e ms (present (drop 8 ms)) (omega arith)).kind, extensions_all k n (suc e) (drop 8 ms) (omega arith)))
    (λ _. tt)

-- A packet zero with its extensions, at the end of a list of words, begins at one place only.
pub record Cut (a b : List ℕ) (z y : ℕ) (es fs : List ℕ) : Type 0 where
  pub before : a ≡ b
  pub first : z ≡ y
  pub behind : es ≡ fs

later : (b : List ℕ) (y : ℕ) (es fs : List ℕ) → bits 23 23 y ≡ 0 → AllExtensions es → es ≡ b ++ (y ∷ fs) → ⊥
unfolding AllExtensions
later [] y [] fs k all e = let z : ◌≡◌ {A = ℕ} 0 1 = cc in omega arith
later [] y (x ∷ es) fs k all e = omega (arith, ap (bits 23 23) (cons_head e), all.0)
later (x ∷ b) y [] fs k all e = let z : ◌≡◌ {A = ℕ} 0 1 = cc in omega arith
later (x ∷ b) y (w ∷ es) fs k all e = later b y es fs k all.1 (cons_tail e)

pub cut : (a b : List ℕ) (z y : ℕ) (es fs : List ℕ) → bits 23 23 z ≡ 0 → bits 23 23 y ≡ 0 → AllExtensions es → AllExtensions fs → a ++ (z ∷ es) ≡ b ++ (y ∷ fs) → Cut a b z y es fs
cut [] [] z y es fs k l p q e = record { before = refl; first = cons_head e; behind = cons_tail e }
cut [] (x ∷ b) z y es fs k l p q e = absurd (later b y es fs l p (cons_tail e))
cut (x ∷ a) [] z y es fs k l p q e = absurd (later a z fs es k q (sym (cons_tail e)))
cut (x ∷ a) (w ∷ b) z y es fs k l p q e =
    let c = cut a b z y es fs k l p q (cons_tail e) in
    let h = cons_head e in
    let t = c.before in
    record { before = λ i. h i ∷ t i; first = c.first; behind = c.behind }

-- So the node at the end of a list of words is known.
pub record NodeKnown (a b : List ℕ) (n m : ℕ) (x y : Fields) (ms os : List Mark) : Type 0 where
  pub before : a ≡ b
  pub number : n ≡ m
  pub fields : x ≡ y
  pub marks : ms ≡ os

pub node_known : (a b : List ℕ) (n m : ℕ) (x y : Fields) (ms os : List Mark) → length ms ≡ port_limit → length os ≡ port_limit → a ++ node_packets n x ms ≡ b ++ node_packets m y os → NodeKnown a b n m x y ms os
node_known a b n m x y ms os p q e =
    let c = cut a b (zero_word n x ms (present (drop 3 ms))) (zero_word m y os (present (drop 3 os))) (extensions 2 n 0 (drop 3 ms)) (extensions 2 m 0 (drop 3 os)) (zero_digits n x ms (present (drop 3 ms))).kind (zero_digits m y os (present (drop 3 os))).kind (extensions_all 2 n 0 (drop 3 ms) (omega arith)) (extensions_all 2 m 0 (drop 3 os) (omega arith)) e in
    let f = first_known n m x y ms os _ _ c.first in
    let rest = extensions_known 2 n m 0 (drop 3 ms) (drop 3 os) (omega arith) (simp length-drop (omega arith)) (simp length-drop (omega arith)) c.behind in
    record { before = c.before; number = f.number; fields = f.fields; marks = same_marks 3 ms os (omega arith) f.three rest }
