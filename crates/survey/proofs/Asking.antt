-- What is found at a place of a list.
use Rattle.std.proofs.Common.{Bor, ◌≡◌, ℕ, zero, suc, ◌<◌, ◌≤◌, List, [], ◌∷◌, length, get_or, Some, None, Ok, Err, Option, refl, ap, ◌∙◌, arith}
use Rattle.std.specs.List.{HoldsAt}
use Rattle.std.specs.Option.{MatchOption, option_copied, ok_or}
use Rattle.stops.specs.declared.QuestionStop.TheVariants.{NoneSuch}
use Rattle.survey.specs.Questions.{found_at}

found_past : {X : Type 0} (xs : List X) (i : ℕ) → length xs ≤ i → Err NoneSuch ≡ found_at xs i
found_past [] i h = refl
found_past (x ∷ xs) zero h = absurd (omega arith)
found_past (x ∷ xs) (suc i) h = found_past xs i (omega arith)

found_here : {X : Type 0} (xs : List X) (i : ℕ) (d : X) → i < length xs → Ok (get_or xs i d) ≡ found_at xs i
found_here [] i d h = absurd (omega arith)
found_here (x ∷ xs) zero d h = refl
found_here (x ∷ xs) (suc i) d h = found_here xs i d (omega arith)

-- What `get` gives is what is found there.
pub found_read : {X : Type 0} (r : Option (Bor X)) (xs : List X) (i : ℕ) → MatchOption r (length xs ≤ i) (λ x. (i < length xs) × HoldsAt (λ y. x.now ≡ y) xs i) → ok_or (option_copied r) NoneSuch ≡ found_at xs i
found_read None xs i h = found_past xs i h
found_read (Some x) xs i (l, h) = ap Ok (h x.now) ∙ found_here xs i x.now l
