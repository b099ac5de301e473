-- What stays the same while a reader passes over lines, and that fewer are left behind a reset.
use Rattle.std.proofs.Common.{◌≡◌, ◌+◌, ◌<◌, Bool, true, false, ℕ, List, [], ◌∷◌, length, Option, MatchOption, Some, None, Result, Ok, Err, rules, sym, refl, ◌∙◌, subst, arith}
use Rattle.std.proofs.lemmas.Bool.{false≢true}
use Rattle.std.proofs.lemmas.Grind.{common_steps}
use Rattle.std.specs.Iterator.{Yields, ChecksAny}
use Rattle.std.specs.List.{FoldsTo}
use denote.Param.Members.{Mut, Called}
use Rattle.trace.specs.declared.reader.Reader.{Reader}
use Rattle.trace.specs.declared.token.Token.{Token}
use Rattle.trace.specs.declared.token.Token.TheVariants.{Note, Reset, Words}
use Rattle.trace.specs.declared.token.TraceStop.{TraceStop}
use Rattle.trace.specs.Reading.{ReadsOne, has_reset, behind_reset, lines_left, lines_before}
use Rattle.trace.specs.Recorded.{waiting_ahead, ending_ahead}

-- The two readers have the same reset before them, and count as many lines.
abbrev pub SameReset : Reader → Reader → Type 0
SameReset a b =
    (has_reset (lines_left a) ≡ has_reset (lines_left b)) × (behind_reset (lines_left a) ≡ behind_reset (lines_left b)) × (lines_before a + length (lines_left a) ≡ lines_before b + length (lines_left b))

-- What is told is a line `reset`.
abbrev pub is_reset_token : Result Token TraceStop → Bool
is_reset_token (Ok (Reset line place)) = true
is_reset_token (Ok (Note line place)) = false
is_reset_token (Ok (Words line place)) = false
is_reset_token (Err stop) = false

-- The same waits behind the two readers, and they end alike.
abbrev pub SameRun : Reader → Reader → Type 0
SameRun a b = (waiting_ahead a ≡ waiting_ahead b) × (ending_ahead a ≡ ending_ahead b)

-- A program that passes from reset to reset comes to the end.
pub fewer_behind_reset : (ls : List (List ℕ)) → has_reset ls ≡ true → length (behind_reset ls) < length ls
fewer_behind_reset [] e = absurd (false≢true e)
fewer_behind_reset (l ∷ ls) e = grind (arith, common_steps, fewer_behind_reset ls)

-- What a search for a reset from s ends with: whether there is one, and the reader behind it.
pub record Passes (s u : Reader) (there : Bool) : Type 0 where
  pub tells : there ≡ has_reset (lines_left s)
  pub leaves : lines_left u ≡ behind_reset (lines_left s)
  pub counts : lines_before u + length (lines_left u) ≡ lines_before s + length (lines_left s)

-- one call that passes over another line, that comes to the end, and that comes to a reset
past_one : (s m : Reader) (x : Result Token TraceStop) → ReadsOne s (Some x) m → is_reset_token x ≡ false → SameReset m s
past_one s m x r e = search rules

at_the_end : (t u : Reader) → ReadsOne t None u → Passes t u false
at_the_end t u r = search rules

at_a_reset : (t u : Reader) (x : Result Token TraceStop) → ReadsOne t (Some x) u → is_reset_token x ≡ true → Passes t u true
at_a_reset t u x r e = search rules

-- With a closure that tells resets, `any` passes over all lines up to one.
module _ {F : Type 0} (g : Mut F (Result Token TraceStop × Unit {0}) Bool) (tells : (x : Result Token TraceStop) (b : Bool) (p q : F) → Called g p (x, tt) b q → b ≡ is_reset_token x) where
  past_all : (xs : List (Result Token TraceStop)) (s t : Reader) (p q : F) → Yields ReadsOne s xs t → FoldsTo (λ i x j. Called g i (x, tt) false j) p xs q → SameReset t s
  past_all [] s t p q y f = subst (λ r. SameReset r s) y (refl, refl, refl)
  past_all (x ∷ xs) s t p q y f =
      let one = past_one s y.0 x y.1 (sym (tells x false p f.0 f.1)) in
      let rest = past_all xs y.0 t f.0 q y.2 f.2 in
      (rest.0 ∙ one.0, rest.1 ∙ one.1, rest.2 ∙ one.2)

  last_call : (o : Option (Result Token TraceStop)) (t u : Reader) (r : Bool) (q : F) → ReadsOne t o u → MatchOption o (r ≡ false) (λ x. (r ≡ true) × ((h : F) × Called g q (x, tt) true h)) → Passes t u r
  last_call None t u r q y e = rw e (at_the_end t u y)
  last_call (Some x) t u r q y e = rw e.0 (at_a_reset t u x y (sym (tells x true q e.1.0 e.1.1)))

  pub any_passes : (s u : Reader) (p : F) (r : Bool) → ChecksAny ReadsOne g s p r u → Passes s u r
  any_passes s u p r ran =
      let same = past_all ran.0 s ran.3.0 p ran.2 ran.3.1 ran.4 in
      let last = last_call ran.1 ran.3.0 u r ran.2 ran.3.2 ran.5 in
      record { tells = last.tells ∙ same.0; leaves = last.leaves ∙ same.1; counts = last.counts ∙ same.2 }
