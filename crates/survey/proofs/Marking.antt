-- Marks are counted, found and told one after another.
use Rattle.std.proofs.Common.{◌≡◌, ℕ, zero, suc, ◌+◌, ◌<◌, ◌≤◌, Bool, true, false, cond, eqb, ◌⊎◌, List, [], ◌∷◌, ◌++◌, length, get_or, take, drop, replicate, Some, None, Option, sym, refl, ap, ◌∙◌, ap₂, inl, inr, arith}
use Rattle.std.specs.List.{count_by, AllWithin, HoldsAt}
use Rattle.std.specs.Option.{MatchOption, unwrap_or}
use Rattle.std.proofs.lemmas.List.{take-replicate}
use Rattle.std.proofs.lemmas.List.Recursion.{is_count_by}
use denote.Enum.Bare.{sameb}
use denote.Enum.Declared.{tag_of}
use Rattle.selfid.specs.contracts.mark.Mark.{the_type}
use Rattle.selfid.specs.declared.mark.Mark.{Mark}
use Rattle.selfid.specs.declared.mark.Mark.TheVariants.{Absent, Open, Up, Down}
use Rattle.selfid.specs.Marks.{mark_code, ups, downs, present}
use Rattle.survey.specs.Marks.{times_marked}
use Rattle.survey.specs.Joining.{up_place}

-- Two marks are the same if their codes are.
same_code : (m k : Mark) → sameb the_type m k ≡ eqb (mark_code m) (mark_code k)
same_code m k = ap₂ (λ (a b : ℕ). eqb a b) (tag_is_code m) (tag_is_code k)
  where
    tag_is_code : (m : Mark) → tag_of the_type m ≡ mark_code m
    tag_is_code Absent = refl
    tag_is_code Open = refl
    tag_is_code Up = refl
    tag_is_code Down = refl

pub times_counted : (k : Mark) (ms : List Mark) → times_marked k ms ≡ count_by (λ (m : Mark). sameb the_type m k) ms
times_counted k ms = is_count_by (times_marked k) (λ (m : Mark). sameb the_type m k) refl (λ x xs. one_more (eqb (mark_code x) (mark_code k)) (times_marked k xs) ∙ ap (λ (b : Bool). cond b (1 + times_marked k xs) (times_marked k xs)) (sym (same_code x k))) ms
  where
    one_more : (b : Bool) (n : ℕ) → cond b 1 0 + n ≡ cond b (1 + n) n
    one_more true n = refl
    one_more false n = omega arith

-- Up to place i there is no up mark, and there is one at i, or i is behind them all.
end_on : (i : ℕ) (ms : List Mark) → ((suc i < suc (length ms)) × (get_or ms i Absent ≡ Up)) ⊎ (suc i ≡ suc (length ms)) → ((i < length ms) × (get_or ms i Absent ≡ Up)) ⊎ (i ≡ length ms)
end_on i ms (inl (h, u)) = inl (omega arith, u)
end_on i ms (inr e) = inr (omega arith)

place_at : (p i : ℕ) (ms : List Mark) → ((k : ℕ) → k < i → get_or ms k Absent ≡ Up → ⊥) → ((i < length ms) × (get_or ms i Absent ≡ Up)) ⊎ (i ≡ length ms) → p + i ≡ up_place p ms
place_at p zero [] none end = omega arith
place_at p (suc i) [] none (inl (h, u)) = absurd (omega arith)
place_at p (suc i) [] none (inr e) = absurd (omega arith)
place_at p zero (m ∷ ms) none (inr e) = absurd (omega arith)
place_at p zero (Absent ∷ ms) none (inl (h, u)) = cc
place_at p zero (Open ∷ ms) none (inl (h, u)) = cc
place_at p zero (Up ∷ ms) none (inl (h, u)) = omega arith
place_at p zero (Down ∷ ms) none (inl (h, u)) = cc
place_at p (suc i) (Absent ∷ ms) none end = omega (arith, place_at (suc p) i ms (λ k h u. none (suc k) (omega arith) u) (end_on i ms end))
place_at p (suc i) (Open ∷ ms) none end = omega (arith, place_at (suc p) i ms (λ k h u. none (suc k) (omega arith) u) (end_on i ms end))
place_at p (suc i) (Up ∷ ms) none end = absurd (none 0 (omega arith) refl)
place_at p (suc i) (Down ∷ ms) none end = omega (arith, place_at (suc p) i ms (λ k h u. none (suc k) (omega arith) u) (end_on i ms end))

pub place_found : (r : Option ℕ) (ms : List Mark) → MatchOption r (AllWithin (λ m. m ≡ Up → ⊥) ms 0 (length ms)) (λ i. (i < length ms) × HoldsAt (λ m. m ≡ Up) ms i × AllWithin (λ m. m ≡ Up → ⊥) ms 0 i) → unwrap_or r (length ms) ≡ up_place 0 ms
place_found None ms none = omega (arith, place_at 0 (length ms) ms (λ k h. none k Absent (omega arith) h) (inr refl))
place_found (Some i) ms (h, up, none) = omega (arith, place_at 0 i ms (λ k l. none k Absent (omega arith) l) (inl (h, up Absent)))

-- The marks told stand in front of absent ones, as many as there is room for.
pub told_in_front : (ms : List Mark) (n m k : ℕ) → k ≤ length ms → k ≤ n → n ≤ m → (k < n → length ms ≡ k) → take k ms ++ drop k (replicate n Absent) ≡ take n (ms ++ replicate m Absent)
told_in_front ms zero m zero a b c d = refl
told_in_front ms zero m (suc k) a b c d = absurd (omega arith)
told_in_front [] (suc n) m zero a b c d = sym (take-replicate (suc n) m Absent c)
told_in_front [] (suc n) m (suc k) a b c d = absurd (omega arith)
told_in_front (x ∷ ms) (suc n) m zero a b c d = absurd (omega (arith, d (omega arith)))
told_in_front (x ∷ ms) (suc n) m (suc k) a b c d = ap {B = List Mark} (λ r. x ∷ r) (told_in_front ms n m k (omega arith) (omega arith) (omega arith) (λ h. omega (arith, d (omega (arith, h)))))

-- Up and down marks are counted so, and some mark is there if not all are absent.
pub ups_counted : (ms : List Mark) → times_marked Up ms ≡ ups ms
ups_counted [] = refl
ups_counted (Absent ∷ ms) = omega (arith, ups_counted ms)
ups_counted (Open ∷ ms) = omega (arith, ups_counted ms)
ups_counted (Up ∷ ms) = omega (arith, ups_counted ms)
ups_counted (Down ∷ ms) = omega (arith, ups_counted ms)

pub downs_counted : (ms : List Mark) → times_marked Down ms ≡ downs ms
downs_counted [] = refl
downs_counted (Absent ∷ ms) = omega (arith, downs_counted ms)
downs_counted (Open ∷ ms) = omega (arith, downs_counted ms)
downs_counted (Up ∷ ms) = omega (arith, downs_counted ms)
downs_counted (Down ∷ ms) = omega (arith, downs_counted ms)

absents_few : (ms : List Mark) → times_marked Absent ms ≤ length ms
absents_few [] = omega arith
absents_few (Absent ∷ ms) = omega (arith, absents_few ms)
absents_few (Open ∷ ms) = omega (arith, absents_few ms)
absents_few (Up ∷ ms) = omega (arith, absents_few ms)
absents_few (Down ∷ ms) = omega (arith, absents_few ms)

pub all_absent : (ms : List Mark) → times_marked Absent ms ≡ length ms → present ms ≡ false
all_absent [] e = refl
all_absent (Absent ∷ ms) e = all_absent ms (omega arith)
all_absent (Open ∷ ms) e = absurd (omega (arith, absents_few ms))
all_absent (Up ∷ ms) e = absurd (omega (arith, absents_few ms))
all_absent (Down ∷ ms) e = absurd (omega (arith, absents_few ms))

pub one_there : (ms : List Mark) → (times_marked Absent ms ≡ length ms → ⊥) → present ms ≡ true
one_there [] f = absurd (f refl)
one_there (Absent ∷ ms) f = one_there ms (λ e. f (omega arith))
one_there (Open ∷ ms) f = refl
one_there (Up ∷ ms) f = refl
one_there (Down ∷ ms) f = refl
