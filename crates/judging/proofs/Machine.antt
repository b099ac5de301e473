-- A small machine that takes the packets of an announcement one after another.
use Rattle.std.proofs.Common.{◌≡◌, ℕ, zero, suc, ◌+◌, ◌-◌, ◌*◌, ◌≤◌, Bool, true, false, ◌⊎◌, List, [], ◌∷◌, is_ok}
use Rattle.selfid.specs.declared.mark.Mark.{Mark}
use Rattle.selfid.specs.Marks.{ups, downs, present}
use Rattle.selfid.specs.Nodes.{port_limit}
use Rattle.selfid.specs.Cabling.{node_limit}
use Rattle.selfid.specs.Reading.{bits, packet_in}
use Rattle.judging.specs.Standing.{has_more, turn_of, marks_in}

-- Which packet of a node comes next, by its number in the node, how many ports it has, and how many ports are still to come with it.
pub data Turn : Type 0 where
  first second third : Turn

abbrev pub order : Turn → ℕ
order first = 0
order second = 1
order third = 2

abbrev pub next : Turn → Turn
next first = second
next second = third
next third = third

abbrev pub width : Turn → ℕ
width first = 3
width second = 8
width third = 5

abbrev pub room : Turn → ℕ
room first = port_limit
room second = port_limit - 3
room third = port_limit - 11

-- After f finished nodes, with l loose ends, a node is under way that has told u up and d down marks; or the root has ended, as the last of so many nodes.
pub data State : Type 0 where
  going : (f l u d : ℕ) → Turn → State
  ended : ℕ → State

abbrev pub start : State
start = going 0 0 0 0 first

-- No node is under way.
abbrev pub between : ℕ → ℕ → State
between f l = going f l 0 0 first

-- A node has told all its marks: with no up mark it is the root.
abbrev pub finish : ℕ → ℕ → ℕ → ℕ → State
finish f l zero d = ended (suc f)
finish f l (suc u) d = between (suc f) (suc (l - d))

abbrev pub move : Bool → ℕ → ℕ → ℕ → ℕ → Turn → State
move true f l u d t = going f l u d (next t)
move false f l u d t = finish f l u d

abbrev pub after : State → ℕ → State
after (going f l u d t) q = move (has_more q) f l (u + ups (marks_in q)) (d + downs (marks_in q)) t
after (ended n) q = ended n

-- The word is a packet.
abbrev pub PacketWord : ℕ → Type 0
PacketWord q = is_ok (packet_in q) ≡ true

-- The last packet of a node is packet zero, or has a mark that is not absent; the root takes every loose end.
abbrev pub Told : Turn → List Mark → Type 0
Told first ms = Unit {0}
Told second ms = present ms ≡ true
Told third ms = present ms ≡ true

abbrev pub Ends : Bool → Turn → List Mark → (l u d : ℕ) → Type 0
Ends true first ms l u d = Unit {0}
Ends true second ms l u d = Unit {0}
Ends true third ms l u d = ⊥
Ends false t ms l u d = Told t ms × (u ≡ 0 → d ≡ l)

-- The packet can come next, as far as the packets before it go.
abbrev pub Fits : State → ℕ → Type 0
Fits (going f l u d t) q =
    PacketWord q
    × (bits 29 24 q ≡ f)
    × (turn_of q ≡ order t)
    × (u + ups (marks_in q) ≤ 1)
    × (d + downs (marks_in q) ≤ l)
    × Ends (has_more q) t (marks_in q) l (u + ups (marks_in q)) (d + downs (marks_in q))
Fits (ended n) q = ⊥

-- The announcement can be completed: the node under way ends as the root, and takes all loose ends;
-- or it ends as another, which has an up mark, and the nodes up to the 62nd lower the loose ends by 14 each and the root takes 16.
abbrev pub Good : State → Type 0
Good (going f l u d t) =
    (u ≤ 1)
    × (d ≤ l)
    × (f ≤ 62)
    × (((u ≡ 0) × (l ≤ d + room t)) ⊎ ((f ≤ 61) × (l + 1 + 14 * (f + 1) ≤ d + u + room t + (15 + 14 * 62))))
Good (ended n) = n ≤ node_limit

-- The packets fit one after another, and the state that they lead to.
abbrev pub Follows : State → List ℕ → Type 0
Follows s [] = Unit {0}
Follows s (q ∷ qs) = Fits s q × Follows (after s q) qs

abbrev pub reached : State → List ℕ → State
reached s [] = s
reached s (q ∷ qs) = reached (after s q) qs

abbrev pub Runs : State → List ℕ → State → Type 0
Runs s qs t = Follows s qs × (reached s qs ≡ t)
