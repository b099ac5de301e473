-- A state from which a completable one can be reached is completable.
use Rattle.std.proofs.Common.{◌≡◌, ℕ, zero, suc, ◌+◌, ◌≤◌, Bool, true, false, List, refl, inl, inr, arith}
use Rattle.selfid.specs.declared.mark.Mark.{Mark}
use Rattle.selfid.specs.Marks.{ups, downs}
use Rattle.judging.specs.Standing.{has_more, marks_in}
use Rattle.judging.proofs.Readings.{marks_fit}
use Rattle.judging.proofs.Machine.{Turn, first, second, third, width, room, State, going, ended, finish, move, after, Ends, Fits, Good}

back_finish : (t : Turn) (f l u d v e : ℕ) → v ≤ 1 → e ≤ l → u ≤ v → d ≤ e → e + v ≤ d + u + room t → (v ≡ 0 → e ≡ l) → Good (finish f l v e) → Good (going f l u d t)
back_finish t f l u d zero e one held uv de w root g = (omega arith, omega arith, omega arith, inl (omega arith, omega (arith, root refl)))
back_finish t f l u d (suc v) e one held uv de w root g = (omega arith, omega arith, omega arith, inr (omega arith))

back_move : (b : Bool) (t : Turn) (ms : List Mark) (f l u d v e : ℕ) → v ≤ 1 → e ≤ l → u ≤ v → d ≤ e → e + v ≤ d + u + width t → Ends b t ms l v e → Good (move b f l v e t) → Good (going f l u d t)
back_move false first ms f l u d v e one held uv de w k g = back_finish first f l u d v e one held uv de (omega arith) k.1 g
back_move false second ms f l u d v e one held uv de w k g = back_finish second f l u d v e one held uv de (omega arith) k.1 g
back_move false third ms f l u d v e one held uv de w k g = back_finish third f l u d v e one held uv de (omega arith) k.1 g
back_move true first ms f l u d v e one held uv de w k g = (omega arith, omega arith, omega arith, elim g.3 [ inl h ↦ inl (omega arith) | inr h ↦ inr (omega arith) ])
back_move true second ms f l u d v e one held uv de w k g = (omega arith, omega arith, omega arith, elim g.3 [ inl h ↦ inl (omega arith) | inr h ↦ inr (omega arith) ])
back_move true third ms f l u d v e one held uv de w k g = absurd k

pub back_step : (s : State) (q : ℕ) → Fits s q → Good (after s q) → Good s
back_step (going f l u d t) q (p, n, e, one, held, k) g =
    back_move (has_more q) t (marks_in q) f l u d (u + ups (marks_in q)) (d + downs (marks_in q)) one held (omega arith) (omega arith) (omega (arith, marks_fit t q p e)) k g
back_step (ended n) q k g = absurd k
