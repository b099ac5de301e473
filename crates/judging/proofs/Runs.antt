-- Runs of the machine.
use Rattle.std.proofs.Common.{◌≡◌, ℕ, zero, suc, ◌+◌, ◌-◌, ◌*◌, ◌<◌, ◌≤◌, Bool, true, false, List, [], ◌∷◌, ◌++◌, refl, ap, ◌∙◌, arith}
use Rattle.selfid.specs.declared.mark.Mark.{Mark}
use Rattle.selfid.specs.Marks.{ups, downs}
use Rattle.judging.specs.Standing.{has_more, marks_in}
use Rattle.judging.proofs.Machine.{Turn, first, second, third, State, going, ended, finish, move, after, Ends, Fits, Good, Follows, reached, Runs}
use Rattle.judging.proofs.Back.{back_step}
use Rattle.judging.proofs.Forth.{lead}

-- One run after another, and a run cut in two.
pub follows_++ : (s : State) (ps qs : List ℕ) → Follows s ps → Follows (reached s ps) qs → Follows s (ps ++ qs)
follows_++ s [] qs h k = k
follows_++ s (p ∷ ps) qs (f, h) k = (f, follows_++ (after s p) ps qs h k)

pub reached_++ : (s : State) (ps qs : List ℕ) → reached s (ps ++ qs) ≡ reached (reached s ps) qs
reached_++ s [] qs = refl
reached_++ s (p ∷ ps) qs = reached_++ (after s p) ps qs

pub follows_cut : (s : State) (ps qs : List ℕ) → Follows s (ps ++ qs) → Follows s ps × Follows (reached s ps) qs
follows_cut s [] qs h = (tt, h)
follows_cut s (p ∷ ps) qs (f, h) = let (a, b) = follows_cut (after s p) ps qs h in ((f, a), b)

pub runs_++ : (s : State) (ps : List ℕ) (t : State) (qs : List ℕ) (r : State) → Runs s ps t → Runs t qs r → Runs s (ps ++ qs) r
runs_++ s ps t qs r (h, e) (k, g) =
    (follows_++ s ps qs h (rw e k), reached_++ s ps qs ∙ ap (λ o. reached o qs) e ∙ g)

-- What leads to a completable state is completable all along.
pub back : (s : State) (ps : List ℕ) → Follows s ps → Good (reached s ps) → Good s
back s [] k g = g
back s (p ∷ ps) (h, k) g = back_step s p h (back (after s p) ps k g)

-- A bound on the packets to come.
rank_turn : Turn → ℕ
rank_turn first = 3
rank_turn second = 2
rank_turn third = 1

rank : State → ℕ
rank (going f l u d t) = 3 * (62 - f) + rank_turn t
rank (ended n) = 0

falls_finish : (t : Turn) (f l u d : ℕ) → Good (finish f l u d) → rank (finish f l u d) < 3 * (62 - f) + rank_turn t
unfolding rank rank_turn
falls_finish first f l zero d g = omega arith
falls_finish second f l zero d g = omega arith
falls_finish third f l zero d g = omega arith
falls_finish first f l (suc u) d (a, b, c, _) = omega arith
falls_finish second f l (suc u) d (a, b, c, _) = omega arith
falls_finish third f l (suc u) d (a, b, c, _) = omega arith

falls_move : (b : Bool) (t : Turn) (ms : List Mark) (f l u d : ℕ) → Ends b t ms l u d → Good (move b f l u d t) → rank (move b f l u d t) < 3 * (62 - f) + rank_turn t
unfolding rank rank_turn
falls_move false t ms f l u d k g = falls_finish t f l u d g
falls_move true first ms f l u d k g = omega arith
falls_move true second ms f l u d k g = omega arith
falls_move true third ms f l u d k g = absurd k

falls : (s : State) (q : ℕ) → Fits s q → Good (after s q) → rank (after s q) < rank s
unfolding rank
falls (going f l u d t) q k g = falls_move (has_more q) t (marks_in q) f l (u + ups (marks_in q)) (d + downs (marks_in q)) k.5 g
falls (ended n) q k g = absurd k

-- A completable state runs on to the end.
pub record Completed (s : State) : Type 0 where
  pub behind : List ℕ
  pub nodes : ℕ
  pub few : nodes ≤ 63
  pub runs : Runs s behind (ended nodes)

complete_in : (fuel : ℕ) (s : State) → rank s ≤ fuel → Good s → Completed s
complete_in fuel (ended n) r g = record { behind = []; nodes = n; few = g; runs = (tt, refl) }
complete_in zero (going f l u d t) r g = let (p, h, k) = lead f l u d t g in absurd (omega (arith, falls (going f l u d t) p h k))
complete_in (suc fuel) (going f l u d t) r g =
    let s : State = going f l u d t in
    let (p, h, k) = lead f l u d t g in
    let c = complete_in fuel (after s p) (omega (arith, falls s p h k)) k in
    record { behind = p ∷ c.behind; nodes = c.nodes; few = c.few; runs = ((h, c.runs.0), c.runs.1) }

pub complete : (s : State) → Good s → Completed s
complete s g = complete_in (rank s) s (omega arith) g
