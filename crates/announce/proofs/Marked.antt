-- Marks by their codes.
use Rattle.std.proofs.Common.{◌≡◌, ℕ, ◌+◌, ◌<◌, List, [], ◌∷◌, ◌++◌, map, length, get_or, take, set, sym, refl, ap, ◌∙◌, ap₂}
use Rattle.std.proofs.lemmas.List.{map_push, take_more, take_more_set}
use Rattle.selfid.specs.declared.mark.Mark.{Mark}
use Rattle.selfid.specs.Marks.{mark_code}
use Rattle.selfid.specs.Reading.{mark_in}
use Rattle.selfid.proofs.Digits.{mark_back}
use Rattle.announce.specs.declared.described.RowPort.{RowPort}
use Rattle.announce.specs.Rows.{HaveMarks}

-- Lists of marks are known by their codes.
pub codes_back : (ms : List Mark) → map mark_in (map mark_code ms) ≡ ms
codes_back [] = refl
codes_back (m ∷ ms) = ap₂ (λ a b. a ∷ b) (mark_back m) (codes_back ms)

pub same_codes : (ms os : List Mark) → map mark_code ms ≡ map mark_code os → ms ≡ os
same_codes ms os e = sym (codes_back ms) ∙ ap (map mark_in) e ∙ codes_back os

-- One more mark with the code of its port.
pub marked_more : (ports : List RowPort) (ms : List Mark) (i : ℕ) (d : RowPort) (m : Mark) → i < length ports → i < length ms → (get_or ports i d).mark ≡ mark_code m → HaveMarks (take i ports) (take i ms) → HaveMarks (take (i + 1) ports) (take (i + 1) (set ms i m))
marked_more ports ms i d m h l e inv =
    ap (map (λ p. p.mark)) (take_more ports i d h)
    ∙ map_push (λ p. p.mark) (take i ports) (get_or ports i d)
    ∙ ap₂ (λ a b. a ++ b ∷ []) inv e
    ∙ sym (map_push mark_code (take i ms) m)
    ∙ sym (ap (map mark_code) (take_more_set ms i m l))
