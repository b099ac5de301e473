-- How many lines a trace has, and how many are left behind a reset.
use Rattle.std.proofs.Common.{◌≡◌, ℕ, suc, ◌<◌, ◌≤◌, Bool, true, false, cond, ◌==◌, List, [], ◌∷◌, length, sym, ap, arith}
use Rattle.std.specs.List.{onto_first}
use Rattle.trace.specs.Lines.{lines_of}
use Rattle.trace.specs.Reading.{has_reset, behind_reset}
use Rattle.trace.proofs.Passing.{fewer_behind_reset}

-- A trace has no more lines than bytes.
one_more : (t : Bool) (byte : ℕ) (ls : List (List ℕ)) → length (cond t ([] ∷ ls) (onto_first byte ls)) ≤ suc (length ls)
one_more true byte ls = omega arith
one_more false byte [] = omega arith
one_more false byte (l ∷ ls) = omega arith

pub few_lines : (bytes : List ℕ) → length (lines_of bytes) ≤ length bytes
few_lines [] = omega arith
few_lines (byte ∷ bytes) = omega (arith, one_more (byte == 10) byte (lines_of bytes), few_lines bytes)

-- Fewer are left behind a reset.
pub fewer_left : (before after : List (List ℕ)) → true ≡ has_reset before → after ≡ behind_reset before → length after < length before
fewer_left before after there e = omega (arith, ap length e, fewer_behind_reset before (sym there))
