-- Where an announcement stands is the state that the machine has reached.
use Rattle.std.proofs.Common.{◌≡◌, ℕ, zero, suc, ◌+◌, ◌-◌, Bool, true, false, cond, eqb, List, [], ◌∷◌, ◌++◌, reverse, length, drop, refl, ap, ◌∙◌, ap₂, arith, length-drop}
use mathlib.Core.List.{reverse_aux}
use Rattle.std.proofs.lemmas.Bool.{eq-eqb, ne_eqb}
use Rattle.selfid.specs.declared.mark.Mark.{Mark}
use Rattle.selfid.specs.Marks.{ups, downs}
use Rattle.judging.specs.Standing.{has_more, marks_in, under_way, finished_nodes, marks_told, loose_ends, ends_in_root}
use Rattle.judging.proofs.Rows.{ups_++, downs_++}
use Rattle.judging.proofs.Machine.{Turn, first, second, third, order, State, going, ended, finish, move, after, Ends, Fits, Follows, reached, start}

-- The state after the finished nodes xs and the packets us of the node under way, each the newest first.
abbrev StandsWith : State → List (List ℕ) → List ℕ → Type 0
StandsWith (going f l u d t) xs us =
    (length xs ≡ f)
    × (length (loose_ends xs) ≡ l)
    × (ups (marks_told us) ≡ u)
    × (downs (marks_told us) ≡ d)
    × (length us ≡ order t)
    × (ends_in_root xs ≡ false)
StandsWith (ended n) xs us = (length xs ≡ n) × (length us ≡ 0) × (ends_in_root xs ≡ true)

abbrev pub Stands : State → List ℕ → Type 0
Stands s ps = StandsWith s (finished_nodes ps) (under_way ps)

-- The node q ∷ us ends, with v up and e down marks.
stands_finish : (f l v e q : ℕ) (xs : List (List ℕ)) (us : List ℕ) → length xs ≡ f → length (loose_ends xs) ≡ l → ups (marks_told (q ∷ us)) ≡ v → downs (marks_told (q ∷ us)) ≡ e → StandsWith (finish f l v e) ((q ∷ us) ∷ xs) []
stands_finish f l zero e q xs us n h eu ed = (ap suc n, refl, eq-eqb (ups (marks_told (q ∷ us))) 0 eu)
stands_finish f l (suc v) e q xs us n h eu ed =
    let some : eqb (ups (marks_told (q ∷ us))) 0 ≡ false = ne_eqb (ups (marks_told (q ∷ us))) 0 (λ z. omega (arith, eu, z)) in
    let left = drop (downs (marks_told (q ∷ us))) (loose_ends xs) in
    let loose : loose_ends ((q ∷ us) ∷ xs) ≡ length xs ∷ left = ap (λ (b : Bool). cond b [] (length xs ∷ []) ++ left) some in
    let count : length left ≡ l - e = length-drop (downs (marks_told (q ∷ us))) (loose_ends xs) ∙ ap₂ ◌-◌ h ed in
    (ap suc n, ap length loose ∙ ap suc count, refl, refl, refl, some)

-- The node q ∷ us goes on, or ends.
stands_move : (b : Bool) (t : Turn) (ms : List Mark) (f l v e q : ℕ) (xs : List (List ℕ)) (us : List ℕ) → Ends b t ms l v e → length xs ≡ f → length (loose_ends xs) ≡ l → ups (marks_told (q ∷ us)) ≡ v → downs (marks_told (q ∷ us)) ≡ e → length us ≡ order t → ends_in_root xs ≡ false → StandsWith (move b f l v e t) (cond b xs ((q ∷ us) ∷ xs)) (cond b (q ∷ us) [])
stands_move true first ms f l v e q xs us k n h eu ed turn root = (n, h, eu, ed, ap suc turn, root)
stands_move true second ms f l v e q xs us k n h eu ed turn root = (n, h, eu, ed, ap suc turn, root)
stands_move true third ms f l v e q xs us k n h eu ed turn root = absurd k
stands_move false t ms f l v e q xs us k n h eu ed turn root = stands_finish f l v e q xs us n h eu ed

stands_step : (s : State) (q : ℕ) (ps : List ℕ) → Stands s ps → Fits s q → Stands (after s q) (q ∷ ps)
stands_step (going f l u d t) q ps (n, h, eu, ed, turn, root) k =
    stands_move (has_more q) t (marks_in q) f l (u + ups (marks_in q)) (d + downs (marks_in q)) q (finished_nodes ps) (under_way ps) k.5 n h
    (ups_++ (marks_told (under_way ps)) (marks_in q) ∙ ap (λ o. o + ups (marks_in q)) eu)
    (downs_++ (marks_told (under_way ps)) (marks_in q) ∙ ap (λ o. o + downs (marks_in q)) ed)
    turn root
stands_step (ended n) q ps h k = absurd k

stands_from : (s : State) (ps qs : List ℕ) → Stands s ps → Follows s qs → Stands (reached s qs) (reverse_aux qs ps)
stands_from s ps [] h k = h
stands_from s ps (q ∷ qs) h (f, k) = stands_from (after s q) (q ∷ ps) qs (stands_step s q ps h f) k

pub stands : (qs : List ℕ) → Follows start qs → Stands (reached start qs) (reverse qs)
stands qs k = stands_from start [] qs (refl, refl, refl, refl, refl, refl) k
