-- The words of a line, byte by byte.
use Rattle.std.proofs.Common.{◌≡◌, ℕ, suc, ◌+◌, ◌<◌, Bool, true, false, cond, ◌&&◌, eqb, List, [], ◌∷◌, length, get_or, drop, sym, refl, ap, ◌∙◌, arith}
use Rattle.std.proofs.lemmas.List.{at_drop_more}
use Rattle.std.proofs.lemmas.Bool.{eq-eqb, ne_eqb}
use Rattle.std.specs.List.{list_all, onto_first}
use Rattle.trace.specs.Lines.{pieces_of, is_digit, is_word, is_words_line}

-- Whether the bytes go on a words line, behind so many digits of a word.
abbrev pub goes_on : ℕ → List ℕ → Bool
goes_on n [] = eqb n 8
goes_on n (b ∷ bs) = cond (eqb b 32) (eqb n 8 && goes_on 0 bs) (is_digit b && goes_on (n + 1) bs)

-- The same of the pieces.
abbrev begun : ℕ → List (List ℕ) → Bool
begun n [] = eqb n 8
begun n (p ∷ ps) = (eqb (n + length p) 8 && list_all is_digit p) && list_all is_word ps

and_true : (x : Bool) → (x && true) ≡ x
and_true true = refl
and_true false = refl

and_false : (x y : Bool) → ((x && false) && y) ≡ false
and_false true y = refl
and_false false y = refl

begun_empty : (n : ℕ) (t : Bool) → (eqb n 8 && t) ≡ ((eqb (n + 0) 8 && true) && t)
begun_empty n t = ap (λ m. (eqb m 8 && t)) (omega arith) ∙ ap (λ x. x && t) (sym (and_true (eqb (n + 0) 8)))

begun_onto : (n b : ℕ) (ps : List (List ℕ)) (t : Bool) → is_digit b ≡ t → (t && begun (n + 1) ps) ≡ begun n (onto_first b ps)
begun_onto n b [] true e =
    sym (and_true (eqb (n + 1) 8)) ∙ sym (and_true (eqb (n + 1) 8 && true)) ∙ ap (λ d. (eqb (n + 1) 8 && (d && true)) && true) (sym e)
begun_onto n b (p ∷ ps) true e =
    let m : n + 1 + length p ≡ n + suc (length p) = omega arith in
    ap (λ k. (eqb k 8 && list_all is_digit p) && list_all is_word ps) m ∙ ap (λ d. (eqb (n + suc (length p)) 8 && (d && list_all is_digit p)) && list_all is_word ps) (sym e)
begun_onto n b [] false e = sym (and_false (eqb (n + 1) 8) true) ∙ ap (λ d. (eqb (n + 1) 8 && (d && true)) && true) (sym e)
begun_onto n b (p ∷ ps) false e =
    sym (and_false (eqb (n + suc (length p)) 8) (list_all is_word ps)) ∙ ap (λ d. (eqb (n + suc (length p)) 8 && (d && list_all is_digit p)) && list_all is_word ps) (sym e)

begun_onto_is : (b : ℕ) (ps : List (List ℕ)) → begun 0 (onto_first b ps) ≡ list_all is_word (onto_first b ps)
begun_onto_is b [] = refl
begun_onto_is b (p ∷ ps) = ap (λ k. (eqb k 8 && list_all is_digit (b ∷ p)) && list_all is_word ps) (omega arith)

begun_at : (b : ℕ) (bs : List ℕ) (t : Bool) → begun 0 (cond t ([] ∷ pieces_of bs) (onto_first b (pieces_of bs))) ≡ list_all is_word (cond t ([] ∷ pieces_of bs) (onto_first b (pieces_of bs)))
begun_at b bs true = refl
begun_at b bs false = begun_onto_is b (pieces_of bs)

begun_is : (bs : List ℕ) → begun 0 (pieces_of bs) ≡ is_words_line bs
begun_is [] = refl
begun_is (b ∷ bs) = begun_at b bs (eqb b 32)

goes_at : (n b : ℕ) (bs : List ℕ) (t : Bool) → ((m : ℕ) → goes_on m bs ≡ begun m (pieces_of bs)) → cond t (eqb n 8 && goes_on 0 bs) (is_digit b && goes_on (n + 1) bs) ≡ begun n (cond t ([] ∷ pieces_of bs) (onto_first b (pieces_of bs)))
goes_at n b bs true ih = ap (λ x. eqb n 8 && x) (ih 0 ∙ begun_is bs) ∙ begun_empty n (is_words_line bs)
goes_at n b bs false ih = ap (λ x. is_digit b && x) (ih (n + 1)) ∙ begun_onto n b (pieces_of bs) (is_digit b) refl

goes_begun : (bs : List ℕ) (n : ℕ) → goes_on n bs ≡ begun n (pieces_of bs)
goes_begun [] n = sym (and_true (eqb n 8)) ∙ begun_empty n true
goes_begun (b ∷ bs) n = goes_at n b bs (eqb b 32) (goes_begun bs)

pub goes_on_is : (bs : List ℕ) → goes_on 0 bs ≡ is_words_line bs
goes_on_is bs = goes_begun bs 0 ∙ begun_is bs

-- One byte on: a space behind a word, a space too early, a digit, another byte.
module _ (n : ℕ) (xs : List ℕ) (i : ℕ) (h : i < length xs) where
  pub on_space : get_or xs i 0 ≡ 32 → (t : Bool) → eqb n 8 ≡ t → goes_on n (drop i xs) ≡ (t && goes_on 0 (drop (i + 1) xs))
  on_space e t f =
      at_drop_more (goes_on n) xs i 0 h ∙ ap (λ s. cond s (eqb n 8 && goes_on 0 (drop (i + 1) xs)) (is_digit (get_or xs i 0) && goes_on (n + 1) (drop (i + 1) xs))) (eq-eqb _ _ e) ∙ ap (λ x. x && goes_on 0 (drop (i + 1) xs)) f

  pub on_other : (get_or xs i 0 ≡ 32 → ⊥) → (t : Bool) → is_digit (get_or xs i 0) ≡ t → goes_on n (drop i xs) ≡ (t && goes_on (n + 1) (drop (i + 1) xs))
  on_other e t f =
      at_drop_more (goes_on n) xs i 0 h ∙ ap (λ s. cond s (eqb n 8 && goes_on 0 (drop (i + 1) xs)) (is_digit (get_or xs i 0) && goes_on (n + 1) (drop (i + 1) xs))) (ne_eqb _ _ e) ∙ ap (λ x. x && goes_on (n + 1) (drop (i + 1) xs)) f
