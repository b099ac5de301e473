-- A node's packets, read back: they finish one node, with its fields and its marks.
use Rattle.std.proofs.Common.{◌≡◌, ℕ, zero, suc, ◌+◌, ◌-◌, ◌*◌, ◌<◌, ◌≤◌, true, false, List, [], ◌∷◌, ◌++◌, reverse, length, get_or, take, drop, replicate, sym, refl, ap, ◌∙◌, ap₂, inl, inr, append_assoc, append-nil, arith, length-append, length-drop}
use mathlib.Core.List.{reverse_aux, reverse-reverse}
use lib.ListN.{length-replicate}
use Rattle.std.specs.List.{flat_map}
use Rattle.std.proofs.lemmas.List.{get_or_append_left, get_or-append_right, get_or-drop, get_or-take, length-take-le, ext_get_or}
use Rattle.std.proofs.lemmas.Bool.{cond_both, cond-true, cases_lt}
use Rattle.selfid.specs.declared.mark.Mark.{Mark}
use Rattle.selfid.specs.declared.mark.Mark.TheVariants.{Absent, Open, Up, Down}
use Rattle.selfid.specs.declared.node.Fields.{Fields}
use Rattle.selfid.specs.Marks.{present}
use Rattle.selfid.specs.Packets.{zero_word, extension_word}
use Rattle.selfid.specs.Nodes.{port_limit, extension_limit, extensions, node_packets}
use Rattle.selfid.specs.Reading.{fields_in}
use Rattle.judging.specs.Standing.{has_more, marks_in, under_way, finished_nodes, marks_told}
use Rattle.judging.specs.Rebuilding.{fields_told, all_marks}
use Rattle.judging.proofs.RebuiltWords.{three_at, eight_at, zero_read, fields_read, extension_read}

-- Marks that are the same but for absent ones at the end.
abbrev pub Alike : List Mark → List Mark → Type 0
Alike ms os = (i : ℕ) → get_or ms i Absent ≡ get_or os i Absent

none_at : (ms : List Mark) → present ms ≡ false → Alike [] ms
none_at [] e i = refl
none_at (Absent ∷ ms) e zero = refl
none_at (Absent ∷ ms) e (suc i) = none_at ms e i
none_at (Open ∷ ms) e i = absurd (let z : ◌≡◌ {A = ℕ} 0 1 = cc in omega arith)
none_at (Up ∷ ms) e i = absurd (let z : ◌≡◌ {A = ℕ} 0 1 = cc in omega arith)
none_at (Down ∷ ms) e i = absurd (let z : ◌≡◌ {A = ℕ} 0 1 = cc in omega arith)

only_absent : (k i : ℕ) → get_or (replicate k Absent) i Absent ≡ Absent
only_absent zero i = refl
only_absent (suc k) zero = refl
only_absent (suc k) (suc i) = only_absent k i

filled_up : (ms : List Mark) (k : ℕ) → Alike (ms ++ replicate k Absent) ms
filled_up [] k i = only_absent k i
filled_up (m ∷ ms) k zero = refl
filled_up (m ∷ ms) k (suc i) = filled_up ms k i

-- The first k marks, and those behind them.
in_two : (k : ℕ) (a b ms : List Mark) → length a ≡ k → ((i : ℕ) → i < k → get_or a i Absent ≡ get_or ms i Absent) → Alike b (drop k ms) → Alike (a ++ b) ms
in_two k a b ms w first behind i =
    elim (cases_lt i k) [
      | inl l ↦ get_or_append_left a b Absent i (omega (arith, w)) ∙ first i l
      | inr l ↦ get_or-append_right a b k i Absent w l ∙ behind (i - k) ∙ get_or-drop k ms (i - k) Absent ∙ ap (λ j. get_or ms j Absent) (omega arith)
    ]

-- The marks that some packets tell, one packet after another.
told_in_order : (qs row : List ℕ) → marks_told (reverse_aux qs row) ≡ marks_told row ++ flat_map marks_in qs
told_in_order [] row = sym (append-nil (marks_told row))
told_in_order (q ∷ qs) row = told_in_order qs (q ∷ row) ∙ append_assoc (marks_told row) (marks_in q) (flat_map marks_in qs)

extensions_tell : (k n e : ℕ) (ms : List Mark) → e + k ≤ 8 → length ms ≤ 8 * k → Alike (flat_map marks_in (extensions k n e ms)) ms
extensions_tell zero n e [] h w i = refl
extensions_tell zero n e (m ∷ ms) h w i = absurd (omega arith)
extensions_tell (suc k) n e ms h w i =
    let q = extension_word n e ms (present (drop 8 ms)) in
    let later = extensions k n (suc e) (drop 8 ms) in
    let r = (extension_read n e ms (present (drop 8 ms)) (omega arith)).marks in
    cond_both (present ms) (q ∷ later) [] (λ qs. get_or (flat_map marks_in qs) i Absent ≡ get_or ms i Absent)
    (λ _. in_two 8 (marks_in q) (flat_map marks_in later) ms (ap length r) (λ j l. ap (λ os. get_or os j Absent) r ∙ eight_at ms j l) (extensions_tell k n (suc e) (drop 8 ms) (omega arith) (simp length-drop (omega arith))) i)
    (λ none. none_at ms none i)

-- A node's packets, the newest first, tell its marks.
pub node_tells : (n : ℕ) (x : Fields) (ms : List Mark) → length ms ≡ port_limit → Alike (marks_told (reverse (node_packets n x ms))) ms
node_tells n x ms w i =
    let q = zero_word n x ms (present (drop 3 ms)) in
    let later = extensions extension_limit n 0 (drop 3 ms) in
    let r = (zero_read n x ms (present (drop 3 ms))).marks in
    ap (λ os. get_or os i Absent) (told_in_order later (q ∷ []))
    ∙ in_two 3 (marks_in q) (flat_map marks_in later) ms (ap length r) (λ j l. ap (λ os. get_or os j Absent) r ∙ three_at ms j l) (extensions_tell extension_limit n 0 (drop 3 ms) (omega arith) (simp length-drop (omega arith))) i

pub marks_of_node : (n : ℕ) (x : Fields) (ms : List Mark) → length ms ≡ port_limit → all_marks (reverse (node_packets n x ms)) ≡ ms
marks_of_node n x ms w =
    let told = marks_told (reverse (node_packets n x ms)) in
    let row = told ++ replicate port_limit Absent in
    let long : length (take port_limit row) ≡ port_limit = length-take-le port_limit row (simp (length-append, length-replicate) (omega arith)) in
    ext_get_or Absent (take port_limit row) ms (long ∙ sym w)
    (λ i l. get_or-take port_limit row i Absent (omega (arith, long)) ∙ filled_up told port_limit i ∙ node_tells n x ms w i)

pub fields_of_node : (n : ℕ) (x : Fields) (ms : List Mark) → fields_told (reverse (node_packets n x ms)) ≡ x
fields_of_node n x ms = ap (λ (qs : List ℕ). fields_in (get_or qs 0 0)) (reverse-reverse (node_packets n x ms)) ∙ fields_read n x ms (present (drop 3 ms))

-- The packets taken have finished one node more than those before, and it has the packets `row`.
pub record Finished (taken row before : List ℕ) : Type 0 where
  pub nodes : finished_nodes taken ≡ row ∷ finished_nodes before
  pub none_under_way : under_way taken ≡ []

-- The packet p, and the extensions that follow it if it says so, finish a node.
extensions_finish : (k n e : ℕ) (ms : List Mark) (p : ℕ) (ps : List ℕ) → e + k ≤ 8 → length ms ≤ 8 * k → has_more p ≡ present ms → Finished (reverse_aux (extensions k n e ms) (p ∷ ps)) (reverse_aux (extensions k n e ms) (p ∷ under_way ps)) ps
extensions_finish zero n e [] p ps h w more = record { nodes = rw more refl; none_under_way = rw more refl }
extensions_finish zero n e (m ∷ ms) p ps h w more = absurd (omega arith)
extensions_finish (suc k) n e ms p ps h w more =
    cond_both (present ms) (q ∷ later) [] (λ qs. Finished (reverse_aux qs (p ∷ ps)) (reverse_aux qs (p ∷ under_way ps)) ps)
    (λ some. go (more ∙ some) (extensions_finish k n (suc e) (drop 8 ms) q (p ∷ ps) (omega arith) (simp length-drop (omega arith)) (extension_read n e ms (present (drop 8 ms)) (omega arith)).followed))
    (λ none. let clear = more ∙ none in record { nodes = rw clear refl; none_under_way = rw clear refl })
  where
    q : ℕ
    q = extension_word n e ms (present (drop 8 ms))

    later : List ℕ
    later = extensions k n (suc e) (drop 8 ms)

    go : has_more p ≡ true → Finished (reverse_aux later (q ∷ p ∷ ps)) (reverse_aux later (q ∷ under_way (p ∷ ps))) (p ∷ ps) → Finished (reverse_aux later (q ∷ p ∷ ps)) (reverse_aux later (q ∷ p ∷ under_way ps)) ps
    go set f =
        record {
          nodes =
              f.nodes
              ∙ ap₂ (λ u fs. reverse_aux later (q ∷ u) ∷ fs)
              (cond-true (has_more p) (p ∷ under_way ps) [] set)
              (cond-true (has_more p) (finished_nodes ps) ((p ∷ under_way ps) ∷ finished_nodes ps) set);
          none_under_way = f.none_under_way;
        }

pub node_finishes : (n : ℕ) (x : Fields) (ms : List Mark) (ps : List ℕ) → length ms ≡ port_limit → under_way ps ≡ [] → Finished (reverse_aux (node_packets n x ms) ps) (reverse (node_packets n x ms)) ps
node_finishes n x ms ps w none =
    let q = zero_word n x ms (present (drop 3 ms)) in
    let f = extensions_finish extension_limit n 0 (drop 3 ms) q ps (omega arith) (simp length-drop (omega arith)) (zero_read n x ms (present (drop 3 ms))).followed in
    record {
      nodes = f.nodes ∙ ap (λ u. reverse_aux (extensions extension_limit n 0 (drop 3 ms)) (q ∷ u) ∷ finished_nodes ps) none;
      none_under_way = f.none_under_way;
    }
