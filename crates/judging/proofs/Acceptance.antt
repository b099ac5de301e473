-- The quadlets with which an announcement begins are those that the machine takes.
use Rattle.std.proofs.Common.{◌≡◌, ℕ, ◌+◌, Bool, true, false, List, [], ◌∷◌, ◌++◌, sym, ap, ◌∙◌, subst}
use mathlib.Core.Bool.{Bool-set}
use mathlib.Core.HLevel.{⊥_prop, Unit-prop, ×_prop, →_prop}
use mathlib.Core.Logic.{∥∥₁_elim}
use native.Mathlib.Nat.{ℕ_set}
use native.Mathlib.Bridge.{le_prop}
use Rattle.selfid.specs.declared.mark.Mark.{Mark}
use Rattle.selfid.specs.Marks.{ups, downs, present}
use Rattle.selfid.specs.Packets.{inverse_of, with_inverses}
use Rattle.selfid.specs.Reading.{bits}
use Rattle.selfid.specs.Cabling.{Cabling, size}
use Rattle.selfid.specs.Announcement.{packets}
use Rattle.judging.specs.Beginnings.{BeginsWith, Begins}
use Rattle.judging.specs.Standing.{has_more, turn_of, marks_in, without_inverses}
use Rattle.judging.proofs.Machine.{Turn, first, second, third, order, State, going, ended, after, Told, Ends, Fits, Good, Follows, reached, start}
use Rattle.judging.proofs.Runs.{follows_++, follows_cut, reached_++, back, complete}
use Rattle.judging.proofs.Announcing.{run_proper}
use Rattle.judging.proofs.Parsing.{parse}
use Rattle.judging.proofs.Quadlets.{Inverses, front, longer}

-- The inverses are right, the packets fit one after another, and they can be completed.
pub record Accepted (qs : List ℕ) : Type 0 where
  pub inverses : Inverses qs
  pub follows : Follows start (without_inverses qs)
  pub good : Good (reached start (without_inverses qs))

pub accepted : (c : Cabling) (qs : List ℕ) → BeginsWith c qs → Accepted qs
accepted c qs b =
    let p = b.announces.proper in
    let f = front (packets c) qs b.behind b.announces.exactly in
    let ps = without_inverses qs in
    let (fits, end) = run_proper c p in
    let (before, behind) = follows_cut start ps f.behind (subst (Follows start) f.same fits) in
    let end_same : reached (reached start ps) f.behind ≡ ended (size c) = sym (reached_++ start ps f.behind) ∙ ap (reached start) (sym f.same) ∙ end in
    record { inverses = f.inverses; follows = before; good = back (reached start ps) f.behind behind (subst Good (sym end_same) p.few) }

pub begins : (qs : List ℕ) → Accepted qs → (c : Cabling) × BeginsWith c qs
begins qs a =
    let ps = without_inverses qs in
    let r = complete (reached start ps) a.good in
    let (c, proper, same) = parse (ps ++ r.behind) r.nodes r.few (follows_++ start ps r.behind a.follows r.runs.0, reached_++ start ps r.behind ∙ r.runs.1) in
    let l = longer qs r.behind a.inverses in
    (c, record { behind = l.behind; announces = record { proper = proper; exactly = ap with_inverses same ∙ l.same } })

-- What follows from acceptance and has one proof only follows where an announcement begins so.
pub from_beginning : {P : Type 0} (qs : List ℕ) → IsProp P → Begins qs → (Accepted qs → P) → P
from_beginning qs prop b f = ∥∥₁_elim b prop (λ (c, h). f (accepted c qs h))

-- That packets fit has one proof, and that inverses are right.
told_prop : (t : Turn) (ms : List Mark) → IsProp (Told t ms)
told_prop first ms = Unit-prop
told_prop second ms = Bool-set (present ms) true
told_prop third ms = Bool-set (present ms) true

ends_prop : (b : Bool) (t : Turn) (ms : List Mark) (l u d : ℕ) → IsProp (Ends b t ms l u d)
ends_prop true first ms l u d = Unit-prop
ends_prop true second ms l u d = Unit-prop
ends_prop true third ms l u d = ⊥_prop
ends_prop false t ms l u d = ×_prop (told_prop t ms) (→_prop (ℕ_set d l))

fits_prop : (s : State) (q : ℕ) → IsProp (Fits s q)
fits_prop (going f l u d t) q x y =
    let v : ℕ = u + ups (marks_in q) in
    let e : ℕ = d + downs (marks_in q) in
    λ i.
    (Bool-set _ true x.0 y.0 i, ℕ_set (bits 29 24 q) f x.1 y.1 i, ℕ_set (turn_of q) (order t) x.2 y.2 i, le_prop x.3 y.3 i, le_prop x.4 y.4 i, ends_prop (has_more q) t (marks_in q) l v e x.5 y.5 i)
fits_prop (ended n) q x y = absurd x

pub follows_prop : (s : State) (qs : List ℕ) → IsProp (Follows s qs)
follows_prop s [] = Unit-prop
follows_prop s (q ∷ qs) = ×_prop (fits_prop s q) (follows_prop (after s q) qs)

pub inverses_prop : (qs : List ℕ) → IsProp (Inverses qs)
inverses_prop [] = Unit-prop
inverses_prop (q ∷ []) = Unit-prop
inverses_prop (q ∷ i ∷ qs) = ×_prop (ℕ_set i (inverse_of q)) (inverses_prop qs)
