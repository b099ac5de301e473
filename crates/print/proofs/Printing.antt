-- The lines of the nodes.
use Rattle.std.proofs.Common.{◌≡◌, ℕ, zero, suc, ◌+◌, ◌≤◌, List, [], ◌∷◌, length, Ok, Err, Result, sym, refl, ap, ◌∙◌, arith}
use Rattle.stops.specs.declared.QuestionStop.{QuestionStop}
use Rattle.survey.specs.declared.row.Row.{Row}
use Rattle.survey.specs.Views.{Shown, bus, void}
use Rattle.survey.specs.Questions.{found_at, row_asked, marks_on, node_count}
use Rattle.print.specs.declared.stop.LineStop.{LineStop}
use Rattle.print.specs.declared.stop.LineStop.TheVariants.{NoSuchLine}
use Rattle.print.specs.Lines.{node_line}
use Rattle.print.specs.Print.{node_lines, node_lines_from, line_at}

-- The line of node i, told what asking for its row gives.
abbrev pub row_line : (i : ℕ) → Result Row QuestionStop → Result (List ℕ) LineStop
row_line i (Ok r) = Ok (node_line i r.fields (marks_on r.ports))
row_line i (Err k) = Err NoSuchLine

-- Line i of these, the first of which is that of node n, is the line of node n + i.
line_from : (rs : List Row) (n i : ℕ) → line_at (node_lines_from n rs) i ≡ row_line (n + i) (found_at rs i)
line_from [] n i = refl
line_from (r ∷ rs) n zero =
    let k : n + 0 ≡ n = omega arith in
    rw k refl
line_from (r ∷ rs) n (suc i) =
    let k : n + suc i ≡ suc n + i = omega arith in
    rw k (line_from rs (suc n) i)

pub line_of_row : (s : Shown) (i : ℕ) → line_at (node_lines s) i ≡ row_line i (row_asked s i)
line_of_row (bus rs) i =
    let k : i ≡ 0 + i = omega arith in
    line_from rs 0 i ∙ ap (λ (j : ℕ). row_line j (found_at rs i)) (sym k)
line_of_row (void k) i = refl

pub no_more_lines : (ls : List (List ℕ)) (j : ℕ) (k : LineStop) → Err k ≡ line_at ls j → length ls ≤ j
no_more_lines [] j k e = omega arith
no_more_lines (l ∷ ls) zero k e = cc
no_more_lines (l ∷ ls) (suc j) k e = omega (arith, no_more_lines ls j k e)

-- As many lines as nodes.
lines_long : (rs : List Row) (n : ℕ) → length (node_lines_from n rs) ≡ length rs
lines_long [] n = refl
lines_long (r ∷ rs) n = ap suc (lines_long rs (suc n))

pub as_many_lines : (s : Shown) → node_count s ≡ length (node_lines s)
as_many_lines (bus rs) = sym (lines_long rs 0)
as_many_lines (void k) = refl
