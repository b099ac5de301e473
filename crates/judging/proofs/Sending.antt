-- The machine runs over what a cabling announces.
use Rattle.std.proofs.Common.{◌≡◌, ℕ, suc, ◌+◌, ◌<◌, ◌≤◌, Bool, true, false, cond, List, [], ◌∷◌, length, drop, sym, refl, ap, ◌∙◌, subst, ap₂, arith, length-drop}
use Rattle.std.proofs.lemmas.List.{drop_all}
use Rattle.selfid.specs.declared.mark.Mark.{Mark}
use Rattle.selfid.specs.declared.node.Fields.{Fields}
use Rattle.selfid.specs.Marks.{ups, downs, present}
use Rattle.selfid.specs.Packets.{zero_word, extension_word}
use Rattle.selfid.specs.Nodes.{extensions, node_packets}
use Rattle.judging.proofs.Rows.{padded, ups_padded, downs_padded, no_ups, no_downs, present_padded}
use Rattle.judging.proofs.Words.{Sent, zero_sent, extension_sent}
use Rattle.judging.proofs.Machine.{Turn, first, second, third, order, State, going, between, finish, move, after, Ends, Runs}
use Rattle.judging.proofs.Forth.{fits_sent, after_sent}

-- The marks that a node has still to tell, with one up mark in all, no more down marks than loose ends, and all of these at the root.
abbrev Due : (l u d : ℕ) → List Mark → Type 0
Due l u d ms = (u + ups ms ≤ 1) × (d + downs ms ≤ l) × (u + ups ms ≡ 0 → d + downs ms ≡ l)

-- One packet, and then the others of its node.
one_sent : (t : Turn) (q n l u d : ℕ) (ms : List Mark) (b : Bool) (qs : List ℕ) (r : State) → Sent q n (order t) ms b → u + ups ms ≤ 1 → d + downs ms ≤ l → Ends b t ms l (u + ups ms) (d + downs ms) → Runs (move b n l (u + ups ms) (d + downs ms) t) qs r → Runs (going n l u d t) (q ∷ qs) r
one_sent t q n l u d ms b qs r s one held k run =
    let same = after_sent t q n l u d ms b s in
    let w : Runs (after (going n l u d t) q) qs r = rw same run in
    ((fits_sent t q n l u d ms b s one held k, w.0), w.1)

-- A packet that tells the first k of the marks due, where some behind them are there, and where none is.
more_sent : (t : Turn) (k q n l u d : ℕ) (ms : List Mark) (qs : List ℕ) (r : State) → Sent q n (order t) (padded k ms) true → Due l u d ms → Ends true t (padded k ms) l (u + ups (padded k ms)) (d + downs (padded k ms)) → (Due l (u + ups (padded k ms)) (d + downs (padded k ms)) (drop k ms) → Runs (move true n l (u + ups (padded k ms)) (d + downs (padded k ms)) t) qs r) → Runs (going n l u d t) (q ∷ qs) r
more_sent t k q n l u d ms qs r s (a, b, c) e run =
    let eu = ups_padded k ms in
    let ed = downs_padded k ms in
    one_sent t q n l u d (padded k ms) true qs r s (omega arith) (omega arith) e (run (omega arith, omega arith, λ z. omega (arith, c (omega arith))))

last_sent : (t : Turn) (k q n l u d : ℕ) (ms : List Mark) → Sent q n (order t) (padded k ms) false → present (drop k ms) ≡ false → Due l u d ms → ((u + ups ms ≡ 0 → d + downs ms ≡ l) → Ends false t (padded k ms) l (u + ups ms) (d + downs ms)) → Runs (going n l u d t) (q ∷ []) (finish n l (u + ups ms) (d + downs ms))
last_sent t k q n l u d ms s none (a, b, c) e =
    let eu : u + ups (padded k ms) ≡ u + ups ms = omega (arith, ups_padded k ms, no_ups (drop k ms) none) in
    let ed : d + downs (padded k ms) ≡ d + downs ms = omega (arith, downs_padded k ms, no_downs (drop k ms) none) in
    one_sent t q n l u d (padded k ms) false [] (finish n l (u + ups ms) (d + downs ms)) s (rw eu a) (rw ed b) (rw (eu, ed) (e c)) (tt, ap₂ (finish n l) eu ed)

-- The extensions that a node sends, one after another.
pub extensions_some : (k n e : ℕ) (ms : List Mark) (b : Bool) → present ms ≡ true → present (drop 8 ms) ≡ b → extensions (suc k) n e ms ≡ extension_word n e ms b ∷ extensions k n (suc e) (drop 8 ms)
extensions_some k n e ms b p q =
    ap (λ c. cond c (extension_word n e ms (present (drop 8 ms)) ∷ extensions k n (suc e) (drop 8 ms)) []) p
    ∙ ap (λ c. extension_word n e ms c ∷ extensions k n (suc e) (drop 8 ms)) q

pub extensions_none : (k n e : ℕ) (ms : List Mark) → present ms ≡ false → extensions (suc k) n e ms ≡ []
extensions_none k n e ms p = ap (λ c. cond c (extension_word n e ms (present (drop 8 ms)) ∷ extensions k n (suc e) (drop 8 ms)) []) p

runs_over : (s r : State) {ps qs : List ℕ} → ps ≡ qs → Runs s qs r → Runs s ps r
runs_over s r e h = subst (λ l. Runs s l r) (sym e) h

ends_same : (s : State) (qs : List ℕ) (n l u v d e : ℕ) → u ≡ v → d ≡ e → Runs s qs (finish n l u d) → Runs s qs (finish n l v e)
ends_same s qs n l u v d e a b (h, g) = (h, g ∙ ap₂ (finish n l) a b)

run_last : (n l u d : ℕ) (ms : List Mark) → n < 64 → length ms ≡ 5 → present ms ≡ true → Due l u d ms → Runs (going n l u d third) (extensions 1 n 1 ms) (finish n l (u + ups ms) (d + downs ms))
run_last n l u d ms h w e due =
    let none : present (drop 8 ms) ≡ false = ap present (drop_all 8 ms (omega arith)) in
    let s = extension_sent n 1 ms false h (omega arith) (λ _. omega arith) in
    runs_over (going n l u d third) (finish n l (u + ups ms) (d + downs ms)) (extensions_some 0 n 1 ms false e none)
    (last_sent third 8 (extension_word n 1 ms false) n l u d ms s none due (λ c. (present_padded 8 ms e none, c)))

run_second : (n l u d : ℕ) (ms : List Mark) → n < 64 → length ms ≡ 13 → present ms ≡ true → Due l u d ms → Runs (going n l u d second) (extensions 2 n 0 ms) (finish n l (u + ups ms) (d + downs ms))
run_second n l u d ms h w e due = go (present (drop 8 ms)) refl
  where
    goal : State
    goal = finish n l (u + ups ms) (d + downs ms)

    go : (z : Bool) → present (drop 8 ms) ≡ z → Runs (going n l u d second) (extensions 2 n 0 ms) (finish n l (u + ups ms) (d + downs ms))
    go true z =
        let s = extension_sent n 0 ms true h (omega arith) (λ k. absurd (omega arith)) in
        let eu : u + ups (padded 8 ms) + ups (drop 8 ms) ≡ u + ups ms = omega (arith, ups_padded 8 ms) in
        let ed : d + downs (padded 8 ms) + downs (drop 8 ms) ≡ d + downs ms = omega (arith, downs_padded 8 ms) in
        runs_over (going n l u d second) goal (extensions_some 1 n 0 ms true e z)
        (more_sent second 8 (extension_word n 0 ms true) n l u d ms (extensions 1 n 1 (drop 8 ms)) goal s due tt
        (λ due_behind. ends_same (going n l (u + ups (padded 8 ms)) (d + downs (padded 8 ms)) third) (extensions 1 n 1 (drop 8 ms)) n l _ _ _ _ eu ed (run_last n l (u + ups (padded 8 ms)) (d + downs (padded 8 ms)) (drop 8 ms) h (simp length-drop (omega arith)) z due_behind)))
    go false z =
        let s = extension_sent n 0 ms false h (omega arith) (λ k. absurd (omega arith)) in
        runs_over (going n l u d second) goal (extensions_some 1 n 0 ms false e z ∙ ap (λ r. extension_word n 0 ms false ∷ r) (extensions_none 0 n 1 (drop 8 ms) z))
        (last_sent second 8 (extension_word n 0 ms false) n l u d ms s z due (λ c. (present_padded 8 ms e z, c)))

pub run_node : (n l : ℕ) (x : Fields) (ms : List Mark) → n < 64 → length ms ≡ 16 → ups ms ≤ 1 → downs ms ≤ l → (ups ms ≡ 0 → downs ms ≡ l) → Runs (between n l) (node_packets n x ms) (finish n l (ups ms) (downs ms))
run_node n l x ms h w a b c = ends_same (between n l) (node_packets n x ms) n l _ _ _ _ (omega arith) (omega arith) (go (present (drop 3 ms)) refl)
  where
    goal : State
    goal = finish n l (0 + ups ms) (0 + downs ms)

    due : Due l 0 0 ms
    due = (omega arith, omega arith, λ z. omega (arith, c (omega arith)))

    go : (z : Bool) → present (drop 3 ms) ≡ z → Runs (between n l) (node_packets n x ms) (finish n l (0 + ups ms) (0 + downs ms))
    go true z =
        let s = zero_sent n x ms true h in
        let eu : 0 + ups (padded 3 ms) + ups (drop 3 ms) ≡ 0 + ups ms = omega (arith, ups_padded 3 ms) in
        let ed : 0 + downs (padded 3 ms) + downs (drop 3 ms) ≡ 0 + downs ms = omega (arith, downs_padded 3 ms) in
        runs_over (between n l) goal (ap (λ b. zero_word n x ms b ∷ extensions 2 n 0 (drop 3 ms)) z)
        (more_sent first 3 (zero_word n x ms true) n l 0 0 ms (extensions 2 n 0 (drop 3 ms)) goal s due tt
        (λ due_behind. ends_same (going n l (0 + ups (padded 3 ms)) (0 + downs (padded 3 ms)) second) (extensions 2 n 0 (drop 3 ms)) n l _ _ _ _ eu ed (run_second n l (0 + ups (padded 3 ms)) (0 + downs (padded 3 ms)) (drop 3 ms) h (simp length-drop (omega arith)) z due_behind)))
    go false z =
        let s = zero_sent n x ms false h in
        runs_over (between n l) goal (ap (λ b. zero_word n x ms b ∷ extensions 2 n 0 (drop 3 ms)) z ∙ ap (λ r. zero_word n x ms false ∷ r) (extensions_none 1 n 0 (drop 3 ms) z))
        (last_sent first 3 (zero_word n x ms false) n l 0 0 ms s z due (λ c. (tt, c)))
