-- The rule of completion, in the subject's words.
use Rattle.std.proofs.Common.{◌≡◌, ℕ, zero, suc, ◌+◌, ◌-◌, ◌*◌, ◌≤◌, min, Bool, true, false, cond, eqb, leb, ◌⊎◌, ◌↔◌, List, Decides, sym, refl, subst, ap₂, inl, inr, arith}
use native.Mathlib.Decide.{dec_le}
use Rattle.std.proofs.lemmas.Bool.{leb-true, le-leb}
use Rattle.std.proofs.lemmas.Bool.Decides.{Decides-eqb, Decides-ltb, Decides-and, Decides-or, Decides-like}
use Rattle.selfid.specs.declared.mark.Mark.{Mark}
use Rattle.selfid.specs.Marks.{ups, downs}
use Rattle.judging.specs.Standing.{has_more, marks_in, nodes_finished, loose_count, node_so_far}
use Rattle.judging.specs.Completion.{enough, enough_within, enough_after, enough_with}
use Rattle.judging.proofs.Machine.{Turn, first, second, third, order, going, between, finish, move, after, Ends, Fits, Good}

decides_leb : (a b : ℕ) → Decides (leb a b) (a ≤ b)
decides_leb a b = (leb-true a b, le-leb a b)

-- With no node under way.
pub between_nodes : (f l : ℕ) → Good (between f l) ↔ ((f ≤ 62) × (l ≤ 16 + 14 * (62 - f)))
between_nodes f l =
    (λ (_, _, small, way). (small, omega arith), λ (small, few). (omega arith, omega arith, small, elim (dec_le f 61) [ yes k ↦ inr (omega arith) | no k ↦ inl (omega arith) ]))

decides_enough : (f l : ℕ) → Decides (enough f l) (Good (between f l))
decides_enough f l =
    Decides-like (enough f l) (λ (a, b). (between_nodes f l).1 (omega arith, b)) (λ g. let (a, b) = (between_nodes f l).0 g in (omega arith, b))
    (Decides-and _ _ (Decides-ltb f 63) (decides_leb l (16 + 14 * (62 - f))))

-- Within a node, with m ports to come.
abbrev Within : (f l u d m : ℕ) → Type 0
Within f l u d m = ((u ≡ 0) × (l ≤ d + m)) ⊎ ((f ≤ 61) × (l + 1 + 14 * (f + 1) ≤ d + u + m + (15 + 14 * 62)))

decides_within : (f l u d m : ℕ) → u ≤ 1 → d ≤ l → 1 ≤ m → Decides (enough_within f l u d m) (Within f l u d m)
decides_within f l u d m one held some =
    Decides-like (enough_within f l u d m) there back
    (Decides-or _ _ (Decides-and _ _ (Decides-eqb u 0) (decides_leb l (d + m))) (decides_enough (f + 1) (l + 1 - min l (d + m + u - 1))))
  where
    there : ((u ≡ 0) × (l ≤ d + m)) ⊎ Good (between (f + 1) (l + 1 - min l (d + m + u - 1))) → Within f l u d m
    there (inl h) = inl h
    there (inr g) = let (a, b) = (between_nodes (f + 1) (l + 1 - min l (d + m + u - 1))).0 g in inr (omega arith, omega arith)

    back : Within f l u d m → ((u ≡ 0) × (l ≤ d + m)) ⊎ Good (between (f + 1) (l + 1 - min l (d + m + u - 1)))
    back (inl h) = inl h
    back (inr h) = inr ((between_nodes (f + 1) (l + 1 - min l (d + m + u - 1))).1 (omega arith, omega arith))

-- A node has just ended.
decides_after : (f l u d : ℕ) → f ≤ 62 → d ≤ l → Decides (enough_after f l u d) (Good (finish f l u d))
decides_after f l zero d small held = (λ _. omega arith, λ _. refl)
decides_after f l (suc u) d small held =
    let same : between (f + 1) (l + 1 - d) ≡ between (suc f) (suc (l - d)) = ap₂ between (omega arith) (omega arith) in
    Decides-like (enough_after f l (suc u) d) (other same) (λ g. inr (subst Good (sym same) g)) (Decides-or (eqb (suc u) 0) (enough (f + 1) (l + 1 - d)) (Decides-eqb (suc u) 0) (decides_enough (f + 1) (l + 1 - d)))
  where
    other : between (f + 1) (l + 1 - d) ≡ between (suc f) (suc (l - d)) → (suc u ≡ 0) ⊎ Good (between (f + 1) (l + 1 - d)) → Good (between (suc f) (suc (l - d)))
    other same (inl z) = absurd (omega arith)
    other same (inr g) = subst Good same g

decides_move : (b : Bool) (t : Turn) (ms : List Mark) (f l u d : ℕ) → f ≤ 62 → u ≤ 1 → d ≤ l → Ends b t ms l u d → Decides (cond b (enough_within f l u d (16 - (3 + 8 * order t))) (enough_after f l u d)) (Good (move b f l u d t))
decides_move false t ms f l u d small one held k = decides_after f l u d small held
decides_move true first ms f l u d small one held k = Decides-like _ (λ w. (one, held, small, w)) (λ g. g.3) (decides_within f l u d 13 one held (omega arith))
decides_move true second ms f l u d small one held k = Decides-like _ (λ w. (one, held, small, w)) (λ g. g.3) (decides_within f l u d 5 one held (omega arith))
decides_move true third ms f l u d small one held k = absurd k

-- The rule after a packet that can come next.
pub decides_next : (f l u d : ℕ) (t : Turn) (ps : List ℕ) (q : ℕ) → nodes_finished ps ≡ f → loose_count ps ≡ l → ups (node_so_far ps q) ≡ u + ups (marks_in q) → downs (node_so_far ps q) ≡ d + downs (marks_in q) → f ≤ 62 → Fits (going f l u d t) q → Decides (enough_with ps q) (Good (after (going f l u d t) q))
decides_next f l u d t ps q ef el eu ed small (p, n, turn, one, held, k) =
    rw (ef, el, eu, ed, turn) (decides_move (has_more q) t (marks_in q) f l (u + ups (marks_in q)) (d + downs (marks_in q)) small one held k)
