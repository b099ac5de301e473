-- When an announcement can still be completed.
use Rattle.std.specs.Prelude.{◌≡◌, ℕ, ◌+◌, ◌-◌, ◌*◌, min, Bool, true, false, cond, ◌&&◌, ◌||◌, ◌↔◌, List, [], ◌∷◌, ◌++◌, length, None, ◌==◌, nat_le, nat_lt}
use Rattle.selfid.specs.Marks.{ups, downs}
use Rattle.selfid.specs.Packets.{with_inverses}
use Rattle.selfid.specs.Nodes.{port_limit}
use Rattle.selfid.specs.Cabling.{Cabling, size, Sound, node_limit}
use Rattle.selfid.specs.Announcement.{packets_from}
use Rattle.judging.specs.Beginnings.{Begins}
use Rattle.judging.specs.Tests.{earlier_tests, Tested}
use Rattle.judging.specs.Standing.{has_more, turn_of, packets_taken, inverse_due, whole, nodes_finished, loose_count, node_so_far}

-- With f finished nodes, l loose ends and no node under way:
-- the root takes up to 16 loose ends, and each of the 62 - f nodes that may come before it lowers them by up to 14, as it takes 15 and is one itself.
abbrev pub enough : (f l : ℕ) → Bool
enough f l = nat_lt f node_limit && nat_le l (port_limit + (port_limit - 2) * (node_limit - 1 - f))

-- The same where a node is under way that has told u up and d down marks, with m ports to come:
-- it ends as the root, and takes all loose ends; or it ends with an up mark, and takes as many as it can.
abbrev pub enough_within : (f l u d m : ℕ) → Bool
enough_within f l u d m = (u == 0 && nat_le l (d + m)) || enough (f + 1) (l + 1 - min l (d + m + u - 1))

-- The same where a node has just ended: as the root, or as another, which is a loose end now.
abbrev pub enough_after : (f l u d : ℕ) → Bool
enough_after f l u d = u == 0 || enough (f + 1) (l + 1 - d)

-- With the packet q after the packets ps, which no other test turns away.
abbrev pub enough_with : (ps : List ℕ) (q : ℕ) → Bool
enough_with ps q =
    let f = nodes_finished ps in
    let l = loose_count ps in
    let u = ups (node_so_far ps q) in
    let d = downs (node_so_far ps q) in
    cond (has_more q) (enough_within f l u d (port_limit - (3 + 8 * turn_of q))) (enough_after f l u d)

-- Cablings that wait for their parent, the newest first: how many nodes they have, and their packets in the order in which they are announced.
abbrev pub nodes_in : List Cabling → ℕ
nodes_in [] = 0
nodes_in (c ∷ cs) = nodes_in cs + size c

abbrev pub packets_of : List Cabling → List ℕ
packets_of [] = []
packets_of (c ∷ cs) = packets_of cs ++ packets_from (nodes_in cs) c

-- Each of them can hang from a down port: it has one up port at its top.
abbrev pub Waiting : List Cabling → Type 0
Waiting [] = Unit {0}
Waiting (c ∷ cs) = Sound 1 c × Waiting cs

-- The completion rule: once the cablings cs have been announced, each with a loose end, some announcement begins so exactly if there are enough nodes left,
-- that is, if at most 62 nodes are finished and there are at most 16 + 14 × (62 - finished) loose ends.
abbrev pub CompletionRule : Type 0
CompletionRule =
    (cs : List Cabling) →
    Waiting cs →
    Begins (with_inverses (packets_of cs)) ↔ (enough (nodes_in cs) (length cs) ≡ true)

-- The same within a node: where quadlets begin an announcement that is not whole, and no earlier test turns the packet q away,
-- some announcement still begins with it exactly if there are enough nodes.
abbrev pub CompletionRuleWithin : Type 0
CompletionRuleWithin =
    (qs : List ℕ) (q : ℕ) →
    Begins qs →
    whole qs ≡ false →
    inverse_due qs ≡ false →
    Tested earlier_tests qs q None →
    Begins (qs ++ (q ∷ [])) ↔ (enough_with (packets_taken qs) q ≡ true)
