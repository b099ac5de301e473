-- The tests of a packet's parts, one after another.
use Rattle.std.proofs.Common.{◌≡◌, ℕ, ◌+◌, ◌<◌, ◌≤◌, Bool, true, false, cond, not, ◌&&◌, eqb, ltb, ◌⊎◌, List, Some, sym, refl, ◌∙◌, inl, inr}
use Rattle.std.proofs.lemmas.Bool.{eq-eqb, ne_eqb, lt-ltb, le-ltb, and_left, and_right, cases_lt}
use Rattle.selfid.specs.declared.mark.Mark.{Mark}
use Rattle.selfid.specs.Marks.{ups, downs, present}
use Rattle.selfid.specs.Nodes.{extension_limit}
use Rattle.judging.specs.declared.flaw.Flaw.TheVariants.{EmptyExtension}
use Rattle.survey.specs.declared.tree.Tree.{Tree}
use Rattle.survey.specs.Judging.{finished, judged_marks, judged_parts}

-- The packet is the next in turn, and has no more set in the last extension.
in_turn : (turn : ℕ) (more : Bool) → ((turn ≡ extension_limit) × (more ≡ false)) ⊎ (turn ≡ extension_limit → ⊥) → (eqb turn extension_limit && more) ≡ false
in_turn turn more (inl (e, m)) = and_right (eqb turn extension_limit) more m
in_turn turn more (inr f) = and_left (eqb turn extension_limit) more (ne_eqb turn extension_limit f)

not_empty : (turn : ℕ) (ms : List Mark) (more : Bool) → (0 < turn) ⊎ (turn ≤ 0) → (0 < turn → more ≡ false → present ms ≡ true) → (ltb 0 turn && (not more && not (present ms))) ≡ false
not_empty turn ms true (inl z) f = rw (lt-ltb 0 turn z)
not_empty turn ms false (inl z) f = rw (lt-ltb 0 turn z, f z refl)
not_empty turn ms more (inr z) f = rw (le-ltb 0 turn z)

module _ (t : Tree) (number turn : ℕ) (ms : List Mark) (more : Bool) (n : number ≡ finished t) (k : turn ≡ t.turn) (last : ((turn ≡ extension_limit) × (more ≡ false)) ⊎ (turn ≡ extension_limit → ⊥)) where
  due : judged_parts t number turn ms more ≡ cond (ltb 0 turn && (not more && not (present ms))) (Some EmptyExtension) (judged_marks t (ups t.marks.items + ups ms) (downs t.marks.items + downs ms) turn more)
  due = rw (eq-eqb number (finished t) n, eq-eqb turn t.turn k, in_turn turn more last)

  pub parts_empty : 0 < turn → more ≡ false → present ms ≡ false → Some EmptyExtension ≡ judged_parts t number turn ms more
  parts_empty z m p = sym (due ∙ rw (lt-ltb 0 turn z, m, p))

  pub parts_told : (0 < turn → more ≡ false → present ms ≡ true) → judged_parts t number turn ms more ≡ judged_marks t (ups t.marks.items + ups ms) (downs t.marks.items + downs ms) turn more
  parts_told f = due ∙ rw (not_empty turn ms more (cases_lt 0 turn) f)
