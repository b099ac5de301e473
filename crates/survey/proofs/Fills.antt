-- How far a fill has come, draw by draw.
use Rattle.std.proofs.Common.{◌≡◌, ℕ, ◌+◌, ◌≤◌, List, [], ◌∷◌, ◌++◌, length, drop, Some, None, Ok, Err, Result, sym, refl, ap, ◌∙◌, subst, append_assoc, arith, length-append}
use Rattle.std.specs.Prelude.{⊤}
use Rattle.std.proofs.lemmas.List.{append-nil}
use Rattle.source.specs.declared.SourceStop.{SourceStop}
use Rattle.source.specs.Sources.{drawn_from}
use Rattle.stops.specs.declared.QuadletStop.{QuadletStop}
use Rattle.stops.specs.declared.QuadletStop.TheVariants.{Flawed, Spoiled}
use Rattle.stops.specs.declared.FillStop.TheVariants.{Survey}
use Rattle.judging.specs.Tests.{Verdict}
use Rattle.survey.specs.declared.gathering.Gathering.{Gathering}
use Rattle.survey.specs.Views.{Gathered, gathered_with, gathered}
use Rattle.survey.specs.Offering.{Taken, TurnedAway, QuadletCall}
use Rattle.survey.specs.Filling.{EachPasses, AllTaken, FillCall}
use Rattle.judging.proofs.Rebuilt.{quadlets_in_range}

-- How a source ends.
abbrev Ending : Type 0
Ending = Result ⊤ SourceStop

-- What a draw tells of the list that it was drawn from.
first_waits : (w : List ℕ) (e : Ending) (q : ℕ) → Ok (Some q) ≡ drawn_from w e → w ≡ q ∷ drop 1 w
first_waits [] (Ok u) q d = cc
first_waits [] (Err s) q d = cc
first_waits (x ∷ w) e q d = cc

one_more_passes : (qs front : List ℕ) (q : ℕ) → EachPasses qs front → Verdict (qs ++ front) q None → EachPasses qs (front ++ (q ∷ []))
one_more_passes qs [] q e v = (subst (λ (l : List ℕ). Verdict l q None) (append-nil qs) v, tt)
one_more_passes qs (x ∷ front) q (v, e) w = (v, one_more_passes (qs ++ (x ∷ [])) front q e (subst (λ (l : List ℕ). Verdict l q None) (sym (append_assoc qs (x ∷ []) front)) w))

-- From w, of which v still waits, `front` was drawn and taken.
pub record Far (w : List ℕ) (e : Ending) (g : Gathered) (v : List ℕ) (d : Ending) (n : ℕ) (h : Gathered) : Type 0 where
  pub front : List ℕ
  pub parts : w ≡ front ++ v
  pub same_ending : d ≡ e
  pub taken : AllTaken g front n h

pub far_start : (w : List ℕ) (e : Ending) (g : Gathered) → g.spoil ≡ None → Far w e g w e 0 g
far_start w e g c =
    record {
      front = [];
      parts = refl;
      same_ending = refl;
      taken = record { unspoiled = c; each_passes = tt; count = refl; then = ap (gathered_with g.taken) c ∙ ap (λ (l : List ℕ). gathered_with l None) (sym (append-nil g.taken)) };
    }

-- A gathering has taken few quadlets.
pub far_few : {w : List ℕ} {e : Ending} {g : Gathered} {v : List ℕ} {d : Ending} {n : ℕ} (h : Gathering) → Far w e g v d n (gathered h) → n ≤ 378
far_few {g = g} h far = omega (arith, far.taken.count, quadlets_in_range (gathered h).taken h.begins, ap (λ (x : Gathered). length x.taken) far.taken.then ∙ length-append g.taken far.front)

module _ {w : List ℕ} {e : Ending} {g : Gathered} {v : List ℕ} {d : Ending} {n : ℕ} {h : Gathered} (far : Far w e g v d n h) where
  then_drawn : (q : ℕ) → Ok (Some q) ≡ drawn_from v d → w ≡ (far.front ++ (q ∷ [])) ++ drop 1 v
  then_drawn q p = far.parts ∙ ap (λ (l : List ℕ). far.front ++ l) (first_waits v d q p) ∙ sym (append_assoc far.front (q ∷ []) (drop 1 v))

  pub far_more : (q : ℕ) (v' : List ℕ) (d' : Ending) (k : Gathered) → Ok (Some q) ≡ drawn_from v d → v' ≡ drop 1 v → d' ≡ d → Taken h q k → Far w e g v' d' (n + 1) k
  far_more q v' d' k p r s t =
      let old = ap (λ (x : Gathered). x.taken) far.taken.then in
      record {
        front = far.front ++ (q ∷ []);
        parts = then_drawn q p ∙ ap (λ (l : List ℕ). (far.front ++ (q ∷ [])) ++ l) (sym r);
        same_ending = s ∙ far.same_ending;
        taken =
            record {
              unspoiled = far.taken.unspoiled;
              each_passes = one_more_passes g.taken far.front q far.taken.each_passes (subst (λ (l : List ℕ). Verdict l q None) old t.passes);
              count = ap (λ (m : ℕ). m + 1) far.taken.count ∙ sym (length-append far.front (q ∷ []));
              then = t.then ∙ ap (λ (l : List ℕ). gathered_with l None) (ap (λ (l : List ℕ). l ++ (q ∷ [])) old ∙ append_assoc g.taken far.front (q ∷ []));
            };
      }

  pub far_turned_away : (q : ℕ) (v' : List ℕ) (d' : Ending) (z : QuadletStop) (k : Gathered) → Ok (Some q) ≡ drawn_from v d → v' ≡ drop 1 v → d' ≡ d → QuadletCall h q (Err z) k → FillCall g w e (Err (Survey n z)) v' d' k
  far_turned_away q v' d' (Flawed z) k p r s t =
      record {
        drawn = far.front ++ (q ∷ []);
        parts = then_drawn q p ∙ ap (λ (l : List ℕ). (far.front ++ (q ∷ [])) ++ l) (sym r);
        same_ending = s ∙ far.same_ending;
        filled =
            record {
              front = far.front;
              quadlet = q;
              parts = refl;
              before = record { unspoiled = far.taken.unspoiled; each_passes = far.taken.each_passes; count = far.taken.count; then = refl };
              turned_away = subst (λ (x : Gathered). TurnedAway x q z k) far.taken.then t;
            };
      }
  far_turned_away q v' d' (Spoiled y) k p r s t =
      let f = sym (ap (λ (x : Gathered). x.spoil) far.taken.then) ∙ t.spoiled in cc
