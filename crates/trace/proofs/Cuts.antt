-- The first line: what stands before the first byte 10.
use Rattle.std.proofs.Common.{◌≡◌, ℕ, suc, ◌+◌, ◌<◌, ◌≤◌, Bool, true, false, cond, eqb, List, [], ◌∷◌, length, get_or, take, drop, sym, refl, ap, ◌∙◌, arith}
use Rattle.std.proofs.lemmas.List.{at_drop_more, at_drop_all}
use Rattle.std.proofs.lemmas.Bool.{eq-eqb, ne_eqb}
use Rattle.std.specs.List.{onto_first}
use Rattle.trace.specs.Lines.{lines_of}

-- How many bytes stand before the first mark, or in all.
abbrev pub until : ℕ → List ℕ → ℕ
until mark [] = 0
until mark (b ∷ bs) = cond (eqb b mark) 0 (suc (until mark bs))

module _ (mark : ℕ) where
  within_at : (bs : List ℕ) (t : Bool) → until mark bs ≤ length bs → cond t 0 (suc (until mark bs)) ≤ suc (length bs)
  within_at bs true h = omega arith
  within_at bs false h = omega arith

  pub until_within : (bs : List ℕ) → until mark bs ≤ length bs
  until_within [] = omega arith
  until_within (b ∷ bs) = within_at bs (eqb b mark) (until_within bs)

  -- at the mark, at another byte, and at the end
  module _ (xs : List ℕ) (i : ℕ) where
    pub until_here : i < length xs → get_or xs i 0 ≡ mark → until mark (drop i xs) ≡ 0
    until_here h e = at_drop_more (until mark) xs i 0 h ∙ ap (λ t. cond t 0 (suc (until mark (drop (i + 1) xs)))) (eq-eqb _ _ e)

    pub until_later : i < length xs → (get_or xs i 0 ≡ mark → ⊥) → until mark (drop i xs) ≡ suc (until mark (drop (i + 1) xs))
    until_later h e = at_drop_more (until mark) xs i 0 h ∙ ap (λ t. cond t 0 (suc (until mark (drop (i + 1) xs)))) (ne_eqb _ _ e)

    pub until_none : length xs ≤ i → until mark (drop i xs) ≡ 0
    until_none h = at_drop_all (until mark) xs i h

line_at : (b : ℕ) (t : Bool) (xs : List ℕ) → (0 < length xs → lines_of xs ≡ take (until 10 xs) xs ∷ lines_of (drop (until 10 xs + 1) xs)) → cond t ([] ∷ lines_of xs) (onto_first b (lines_of xs)) ≡ take (cond t 0 (suc (until 10 xs))) (b ∷ xs) ∷ lines_of (drop (cond t 0 (suc (until 10 xs)) + 1) (b ∷ xs))
line_at b true xs ih = refl
line_at b false [] ih = refl
line_at b false (x ∷ xs) ih =
    let n : suc (until 10 (x ∷ xs)) + 1 ≡ suc (until 10 (x ∷ xs) + 1) = omega arith in
    ap (onto_first b) (ih (omega arith)) ∙ ap (λ (k : ℕ). (b ∷ take (until 10 (x ∷ xs)) (x ∷ xs)) ∷ lines_of (drop k (b ∷ x ∷ xs))) (sym n)

pub first_line : (bs : List ℕ) → 0 < length bs → lines_of bs ≡ take (until 10 bs) bs ∷ lines_of (drop (until 10 bs + 1) bs)
first_line [] h = absurd (omega arith)
first_line (b ∷ bs) h = line_at b (eqb b 10) bs (first_line bs)
