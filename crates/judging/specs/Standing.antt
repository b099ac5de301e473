-- Where an announcement stands after the quadlets taken so far. Lists of packets, nodes and loose ends have the newest first.
use Rattle.std.specs.Prelude.{ℕ, ◌+◌, ◌%◌, Bool, false, cond, not, ◌&&◌, List, [], ◌∷◌, ◌++◌, reverse, length, drop, ◌==◌}
use Rattle.selfid.specs.declared.mark.Mark.{Mark}
use Rattle.selfid.specs.Marks.{ups, downs}
use Rattle.selfid.specs.Reading.{bits, zero_in, extension_in}

-- Bit 23 tells packet zero from an extension, and bit 0 whether more of the node's packets follow.
abbrev pub is_extension : ℕ → Bool
is_extension q = bits 23 23 q == 1

abbrev pub has_more : ℕ → Bool
has_more q = bits 0 0 q == 1

-- Which packet of its node it is: packet zero, extension 0, extension 1 and so on, counted from 0.
abbrev pub turn_of : ℕ → ℕ
turn_of q = cond (is_extension q) (bits 22 20 q + 1) 0

-- The marks that a packet tells: three, or eight in an extension.
abbrev pub marks_in : ℕ → List Mark
marks_in q = cond (is_extension q) (extension_in q).marks (zero_in q).marks

-- Every second quadlet is the inverse of the one before.
abbrev pub without_inverses : List ℕ → List ℕ
without_inverses [] = []
without_inverses (q ∷ []) = q ∷ []
without_inverses (q ∷ i ∷ qs) = q ∷ without_inverses qs

-- The packets taken, the newest first.
abbrev pub packets_taken : List ℕ → List ℕ
packets_taken qs = reverse (without_inverses qs)

-- The newest packet still lacks its inverse.
abbrev pub inverse_due : List ℕ → Bool
inverse_due qs = length qs % 2 == 1

-- The packets of the node under way: those since the newest packet with more clear.
abbrev pub under_way : List ℕ → List ℕ
under_way [] = []
under_way (p ∷ ps) = cond (has_more p) (p ∷ under_way ps) []

-- The finished nodes, each by its packets: a packet with more clear finishes its node. A node's number is the count of those before it.
abbrev pub finished_nodes : List ℕ → List (List ℕ)
finished_nodes [] = []
finished_nodes (p ∷ ps) = cond (has_more p) (finished_nodes ps) ((p ∷ under_way ps) ∷ finished_nodes ps)

-- The marks of a node, or of a node so far, from its lowest port on.
abbrev pub marks_told : List ℕ → List Mark
marks_told [] = []
marks_told (p ∷ ps) = marks_told ps ++ marks_in p

-- The loose ends, by their numbers: a node takes the newest loose ends, one for each of its down marks, and is one itself if it has an up mark.
abbrev pub loose_ends : List (List ℕ) → List ℕ
loose_ends [] = []
loose_ends (x ∷ earlier) = cond (ups (marks_told x) == 0) [] (length earlier ∷ []) ++ drop (downs (marks_told x)) (loose_ends earlier)

-- How many nodes are finished, and how many loose ends there are, where ps are the packets taken.
abbrev pub nodes_finished : List ℕ → ℕ
nodes_finished ps = length (finished_nodes ps)

abbrev pub loose_count : List ℕ → ℕ
loose_count ps = length (loose_ends (finished_nodes ps))

-- The marks of the node so far, where the packet q comes next.
abbrev pub node_so_far : List ℕ → ℕ → List Mark
node_so_far ps q = marks_told (q ∷ under_way ps)

-- The newest finished node has no up mark: it is the root.
abbrev pub ends_in_root : List (List ℕ) → Bool
ends_in_root [] = false
ends_in_root (x ∷ earlier) = ups (marks_told x) == 0

-- The announcement is whole: a root has ended, no node is under way, and the last inverse has come.
abbrev pub whole : List ℕ → Bool
whole qs = not (inverse_due qs) && (length (under_way (packets_taken qs)) == 0 && ends_in_root (finished_nodes (packets_taken qs)))
