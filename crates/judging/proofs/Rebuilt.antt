-- A cabling is read back from its announcement.
use Rattle.std.proofs.Common.{◌≡◌, ℕ, zero, suc, ◌+◌, ◌*◌, ◌≤◌, List, [], ◌∷◌, ◌++◌, reverse, length, take, drop, sym, refl, ap, ◌∙◌, subst, ap₂, arith, length-append}
use mathlib.Core.List.{reverse_aux, reverse_aux-eq, reverse-reverse}
use mathlib.Core.Logic.{∥∥₁_elim}
use native.Mathlib.Bridge.{le_prop}
use lib.ListN.{length-reverse}
use Rattle.std.proofs.lemmas.List.{take_at, drop_at}
use Rattle.std.proofs.lemmas.Bool.{cond_both}
use Rattle.selfid.specs.declared.mark.Mark.{Mark}
use Rattle.selfid.specs.declared.node.Fields.{Fields}
use Rattle.selfid.specs.Marks.{present, downs}
use Rattle.selfid.specs.Packets.{with_inverses, extension_word}
use Rattle.selfid.specs.Nodes.{port_limit, extension_limit, extensions, node_packets}
use Rattle.selfid.specs.Cabling.{node_limit, absent, «open», up, Cabling, node, Ports, end, plain, down, marks_of, size, size_below, Sound, SoundBelow}
use Rattle.selfid.specs.Announcement.{packets_from, packets_below, packets}
use Rattle.judging.specs.Beginnings.{Announces, Begins}
use Rattle.judging.specs.Standing.{without_inverses, packets_taken, under_way, finished_nodes, nodes_finished}
use Rattle.judging.specs.Rebuilding.{hung, loose_cablings}
use Rattle.judging.proofs.RebuiltNodes.{marks_of_node, fields_of_node, node_finishes}

-- The children below some ports, by rising number.
abbrev pub children : Ports → List Cabling
children end = []
children (plain k ps) = children ps
children (down c ps) = c ∷ children ps

count_children : (ps : Ports) → length (children ps) ≡ downs (marks_of ps)
count_children end = refl
count_children (plain absent ps) = count_children ps
count_children (plain «open» ps) = count_children ps
count_children (plain up ps) = count_children ps
count_children (down c ps) = ap suc (count_children ps)

hung_again : (ps : Ports) → hung (marks_of ps) (children ps) ≡ ps
hung_again end = refl
hung_again (plain absent ps) = ap (plain absent) (hung_again ps)
hung_again (plain «open» ps) = ap (plain «open») (hung_again ps)
hung_again (plain up ps) = ap (plain up) (hung_again ps)
hung_again (down c ps) = ap (down c) (hung_again ps)

-- A node with these fields and marks takes the newest of some cablings. Where its children are the newest, it takes just these.
abbrev joins : Fields → List Mark → List Cabling → List Cabling
joins x ms cs = node x (hung ms (reverse (take (downs ms) cs))) ∷ drop (downs ms) cs

takes_children : (x : Fields) (ps : Ports) (cs : List Cabling) → joins x (marks_of ps) (reverse_aux (children ps) cs) ≡ node x ps ∷ cs
takes_children x ps cs =
    let n = downs (marks_of ps) in
    let top = reverse (children ps) in
    let on_top = reverse_aux-eq (children ps) cs in
    let long : length top ≡ n = length-reverse (children ps) ∙ count_children ps in
    let newest : reverse (take n (reverse_aux (children ps) cs)) ≡ children ps = ap (λ (ds : List Cabling). reverse (take n ds)) on_top ∙ ap reverse (take_at top cs n long) ∙ reverse-reverse (children ps) in
    let left : drop n (reverse_aux (children ps) cs) ≡ cs = ap (drop n) on_top ∙ drop_at top cs n long in
    let same : hung (marks_of ps) (reverse (take n (reverse_aux (children ps) cs))) ≡ ps = ap (hung (marks_of ps)) newest ∙ hung_again ps in
    ap₂ (λ qs ds. node x qs ∷ ds) same left

-- What is loose after some packets.
abbrev loose_after : List ℕ → List Cabling
loose_after ps = loose_cablings (finished_nodes ps)

-- Where the packets taken stand at the end of a node: n more nodes are finished than with the packets before, and the cablings cs are loose.
pub record Stands (taken before : List ℕ) (n : ℕ) (cs : List Cabling) : Type 0 where
  pub none_under_way : under_way taken ≡ []
  pub more_nodes : nodes_finished taken ≡ nodes_finished before + n
  pub loose : loose_cablings (finished_nodes taken) ≡ cs

-- Packets taken after others, with the newest first.
pub one_after_another : (qs rs before : List ℕ) → reverse_aux (qs ++ rs) before ≡ reverse_aux rs (reverse_aux qs before)
one_after_another [] rs before = refl
one_after_another (q ∷ qs) rs before = one_after_another qs rs (q ∷ before)

in_two_parts : (qs rs before : List ℕ) (n m : ℕ) (cs ds : List Cabling) → Stands (reverse_aux qs before) before n cs → Stands (reverse_aux rs (reverse_aux qs before)) (reverse_aux qs before) m ds → Stands (reverse_aux (qs ++ rs) before) before (n + m) ds
in_two_parts qs rs before n m cs ds h k =
    let e = one_after_another qs rs before in
    record {
      none_under_way = ap under_way e ∙ k.none_under_way;
      more_nodes = omega (arith, ap nodes_finished e, h.more_nodes, k.more_nodes);
      loose = ap loose_after e ∙ k.loose;
    }

node_taken : (n : ℕ) (x : Fields) (ps : Ports) (before : List ℕ) (cs : List Cabling) → length (marks_of ps) ≡ port_limit → under_way before ≡ [] → loose_after before ≡ reverse_aux (children ps) cs → Stands (reverse_aux (node_packets n x (marks_of ps)) before) before 1 (node x ps ∷ cs)
node_taken n x ps before cs w none loose =
    let f = node_finishes n x (marks_of ps) before w none in
    let fields = fields_of_node n x (marks_of ps) in
    let marks = marks_of_node n x (marks_of ps) w in
    record {
      none_under_way = f.none_under_way;
      more_nodes = omega (arith, ap length f.nodes);
      loose = ap loose_cablings f.nodes ∙ (λ i. joins (fields i) (marks i) (loose i)) ∙ takes_children x ps cs;
    }

-- A cabling's packets add just this cabling to the loose ones, and those of the children below some ports add the children.
mutual
  pub cabling_taken : (c : Cabling) (k n : ℕ) (before : List ℕ) → Sound k c → under_way before ≡ [] → Stands (reverse_aux (packets_from n c) before) before (size c) (c ∷ loose_cablings (finished_nodes before))
  cabling_taken (node x ps) k n before s none =
      let h = ports_taken ps n before s.2 none in
      let below = reverse_aux (packets_below n ps) before in
      let own = node_taken (n + size_below ps) x ps below (loose_after before) s.0 h.none_under_way h.loose in
      subst (λ m. Stands (reverse_aux (packets_from n (node x ps)) before) before m (node x ps ∷ loose_after before)) (omega arith) (in_two_parts (packets_below n ps) (node_packets (n + size_below ps) x (marks_of ps)) before (size_below ps) 1 _ _ h own)

  pub ports_taken : (ps : Ports) (n : ℕ) (before : List ℕ) → SoundBelow ps → under_way before ≡ [] → Stands (reverse_aux (packets_below n ps) before) before (size_below ps) (reverse_aux (children ps) (loose_cablings (finished_nodes before)))
  ports_taken end n before s none = record { none_under_way = none; more_nodes = omega arith; loose = refl }
  ports_taken (plain k ps) n before s none = ports_taken ps n before s none
  ports_taken (down c ps) n before s none =
      let h = cabling_taken c 1 n before s.0 none in
      let after = reverse_aux (packets_from n c) before in
      let r = ports_taken ps (n + size c) after s.1 h.none_under_way in
      in_two_parts (packets_from n c) (packets_below (n + size c) ps) before (size c) (size_below ps) _ _ h
      (record { none_under_way = r.none_under_way; more_nodes = r.more_nodes; loose = r.loose ∙ ap (reverse_aux (children ps)) h.loose })

-- Without its inverses an announcement is its packets.
pub without_with : (ps : List ℕ) → without_inverses (with_inverses ps) ≡ ps
without_with [] = refl
without_with (p ∷ ps) = ap {B = List ℕ} (λ qs. p ∷ qs) (without_with ps)

announced : (c : Cabling) (qs : List ℕ) → Announces c qs → Stands (packets_taken qs) [] (size c) (c ∷ [])
announced c qs a =
    let taken : packets_taken qs ≡ reverse (packets c) = ap packets_taken (sym a.exactly) ∙ ap reverse (without_with (packets c)) in
    subst (λ ps. Stands ps [] (size c) (c ∷ [])) (sym taken) (cabling_taken c 0 0 [] a.proper.sound refl)

pub rebuilt : (c : Cabling) (qs : List ℕ) → Announces c qs → loose_cablings (finished_nodes (packets_taken qs)) ≡ c ∷ []
rebuilt c qs a = (announced c qs a).loose

pub as_many_nodes : (c : Cabling) (qs : List ℕ) → Announces c qs → nodes_finished (packets_taken qs) ≡ size c
as_many_nodes c qs a = omega (arith, (announced c qs a).more_nodes)

-- A node sends packet zero and at most so many extensions, and each packet goes out as two quadlets.
few_extensions : (k n e : ℕ) (ms : List Mark) → length (extensions k n e ms) ≤ k
few_extensions zero n e ms = omega arith
few_extensions (suc k) n e ms =
    cond_both (present ms) (extension_word n e ms (present (drop 8 ms)) ∷ extensions k n (suc e) (drop 8 ms)) [] (λ qs. length qs ≤ suc k)
    (λ _. omega (arith, few_extensions k n (suc e) (drop 8 ms)))
    (λ _. omega arith)

mutual
  pub few_packets : (n : ℕ) (c : Cabling) → length (packets_from n c) ≤ (1 + extension_limit) * size c
  few_packets n (node x ps) =
      let own = few_extensions extension_limit (n + size_below ps) 0 (drop 3 (marks_of ps)) in
      omega (arith, length-append (packets_below n ps) (node_packets (n + size_below ps) x (marks_of ps)), few_packets_below n ps, own)

  pub few_packets_below : (n : ℕ) (ps : Ports) → length (packets_below n ps) ≤ (1 + extension_limit) * size_below ps
  few_packets_below n end = omega arith
  few_packets_below n (plain k ps) = few_packets_below n ps
  few_packets_below n (down c ps) =
      omega (arith, length-append (packets_from n c) (packets_below (n + size c) ps), few_packets n c, few_packets_below (n + size c) ps)

pub twice_as_many : (ps : List ℕ) → length (with_inverses ps) ≡ 2 * length ps
twice_as_many [] = refl
twice_as_many (p ∷ ps) = omega (arith, twice_as_many ps)

pub quadlets_in_range : (qs : List ℕ) → Begins qs → length qs ≤ 2 * ((1 + extension_limit) * node_limit)
quadlets_in_range qs b =
    ∥∥₁_elim b le_prop λ (c, w).
    omega (arith, length-append qs w.behind, ap length w.announces.exactly, twice_as_many (packets c), few_packets 0 c, w.announces.proper.few)
