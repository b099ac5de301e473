-- The first word of a words line, and what is left behind it.
use Rattle.std.proofs.Common.{◌≡◌, ℕ, ◌+◌, ◌<◌, ◌≤◌, Bool, true, eqb, List, [], ◌∷◌, map, length, take, drop, sym, refl, ap, ap₂, ◌∙◌, subst, inl, inr, arith}
use Rattle.std.proofs.lemmas.List.{take_all, drop_all, length-take-le}
use Rattle.std.proofs.lemmas.List.Splits.{slice_split_first, slice_split_none}
use Rattle.std.proofs.lemmas.List.Sums.{fails_before_first}
use Rattle.std.proofs.lemmas.Bool.{and_parts, cases_lt, false≢true}
use Rattle.std.specs.List.{list_all, position_or_len, slice_split}
use Rattle.trace.specs.Lines.{is_word, is_words_line, word_value, words_of, words_left, are_words_left}
use Rattle.trace.proofs.Values.{word_length}

abbrev space : ℕ → Bool
space byte = eqb byte 32

left_words : (bs : List ℕ) → is_words_line bs ≡ true → (words_left bs ≡ words_of bs) × (are_words_left bs ≡ true)
left_words [] e = absurd (false≢true e)
left_words (b ∷ bs) e = (refl, e)

-- What stands in front of the byte 8, and what stands behind it.
pub record FirstWord (bs : List ℕ) : Type 0 where
  pub there : 8 ≤ length bs
  pub word : is_word (take 8 bs) ≡ true
  pub all : words_of bs ≡ word_value (take 8 bs) ∷ words_left (drop 9 bs)
  pub left : are_words_left (drop 9 bs) ≡ true

only_word : (bs : List ℕ) → is_words_line bs ≡ true → length bs ≤ position_or_len space bs → FirstWord bs
only_word bs e u =
    let p : slice_split space bs ≡ bs ∷ [] = slice_split_none space bs (λ k d h. fails_before_first space bs k d (omega arith)) in
    let w = (and_parts (is_word bs) true (sym (ap (list_all is_word) p) ∙ e)).0 in
    let n = word_length bs w in
    let a = take_all 8 bs (omega (arith, n)) in
    let b = drop_all 9 bs (omega (arith, n)) in
    record {
      there = omega (arith, n);
      word = ap is_word a ∙ w;
      all = ap (map word_value) p ∙ rw (a, b) refl;
      left = ap are_words_left b;
    }

more_words : (bs : List ℕ) → is_words_line bs ≡ true → position_or_len space bs < length bs → FirstWord bs
more_words bs e u =
    let p = slice_split_first space bs 0 u in
    let s = and_parts (is_word (take (position_or_len space bs) bs)) (is_words_line (drop (position_or_len space bs + 1) bs)) (sym (ap (list_all is_word) p) ∙ e) in
    let n : position_or_len space bs ≡ 8 = sym (length-take-le (position_or_len space bs) bs (omega arith)) ∙ word_length (take (position_or_len space bs) bs) s.0 in
    let r : is_words_line (drop 9 bs) ≡ true = subst (λ k. is_words_line (drop (k + 1) bs) ≡ true) n s.1 in
    let l = left_words (drop 9 bs) r in
    record {
      there = omega (arith, n, u);
      word = subst (λ k. is_word (take k bs) ≡ true) n s.0;
      all = ap (map word_value) (p ∙ ap (λ k. take k bs ∷ slice_split space (drop (k + 1) bs)) n) ∙ ap (λ ws. word_value (take 8 bs) ∷ ws) (sym l.0);
      left = l.1;
    }

pub first_word : (bs : List ℕ) → is_words_line bs ≡ true → FirstWord bs
first_word bs e = elim (cases_lt (position_or_len space bs) (length bs)) [ inl u ↦ more_words bs e u | inr u ↦ only_word bs e u ]

-- The same of a line that was cut into digits, whose value is the word, and the rest.
pub cut_so : (line digits rest : List ℕ) (word : ℕ) → is_words_line line ≡ true → digits ≡ take 8 line → word ≡ word_value digits → rest ≡ drop 9 line → (words_of line ≡ word ∷ words_left rest) × (are_words_left rest ≡ true)
cut_so line digits rest word e front value back =
    let first = first_word line e in
    (first.all ∙ ap₂ (λ w l. w ∷ words_left l) (sym (value ∙ ap word_value front)) (sym back), ap are_words_left back ∙ first.left)
