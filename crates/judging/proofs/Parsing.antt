-- Whatever the machine runs over to the end is the announcement of a cabling.
use Rattle.std.proofs.Common.{◌≡◌, ℕ, zero, suc, ◌+◌, ◌≤◌, Bool, true, false, List, [], ◌∷◌, ◌++◌, length, take, drop, replicate, sym, refl, ap, ◌∙◌, subst, ap₂, append_assoc, append-nil, arith}
use Rattle.std.proofs.lemmas.List.{drop_at}
use Rattle.selfid.specs.declared.mark.Mark.{Mark}
use Rattle.selfid.specs.declared.mark.Mark.TheVariants.{Absent}
use Rattle.selfid.specs.declared.node.Fields.{Fields}
use Rattle.selfid.specs.Marks.{ups, downs, present}
use Rattle.selfid.specs.Packets.{zero_word, extension_word}
use Rattle.selfid.specs.Nodes.{extensions, node_packets}
use Rattle.selfid.specs.Reading.{fields_in, zero_in, extension_in}
use Rattle.selfid.specs.Cabling.{Cabling, node, Ports, marks_of, size_below, SoundBelow, Proper}
use Rattle.selfid.specs.Announcement.{packets, packets_below}
use Rattle.judging.specs.Standing.{has_more, marks_in}
use Rattle.judging.specs.Completion.{nodes_in, packets_of, Waiting}
use Rattle.judging.proofs.Rows.{ups_++, downs_++, present_padded, present_left, present_right}
use Rattle.judging.proofs.Readings.{zero_word_of, extension_word_of, last_three, marks_zeroth, marks_further}
use Rattle.judging.proofs.Machine.{Turn, first, second, third, State, going, ended, finish, move, after, Fits, Ends, Follows, reached, Runs, start}
use Rattle.judging.proofs.Sending.{extensions_some}
use Rattle.judging.proofs.Stacks.{pile, nodes_in_pile, length_pile, packets_of_pile, waiting_pile, Taken, takes}

-- Cablings wait for their parent, as many as there are loose ends, and with as many nodes as are finished.
abbrev Row : (f l : ℕ) → List Cabling → Type 0
Row f l cs = Waiting cs × (length cs ≡ l) × (nodes_in cs ≡ f)

-- The packets ps lead to the state: they are those of the cablings that wait, and then those of the node under way, which are p, or p and q.
abbrev Zeroth : (f p : ℕ) → Type 0
Zeroth f p = zero_word f (fields_in p) (zero_in p).marks true ≡ p

abbrev Further : (f e p : ℕ) → Type 0
Further f e p = extension_word f e (extension_in p).marks true ≡ p

abbrev Read : State → List ℕ → Type 0
Read (going f l u d first) ps = (cs : List Cabling) × Row f l cs × (u ≡ 0) × (d ≡ 0) × (packets_of cs ≡ ps)
Read (going f l u d second) ps =
    (cs : List Cabling)
    × Row f l cs
    × (p : ℕ)
    × Zeroth f p
    × (ups (zero_in p).marks ≡ u)
    × (downs (zero_in p).marks ≡ d)
    × (packets_of cs ++ (p ∷ []) ≡ ps)
Read (going f l u d third) ps =
    (cs : List Cabling)
    × Row f l cs
    × (p q : ℕ)
    × Zeroth f p
    × Further f 0 q
    × (ups (zero_in p).marks + ups (extension_in q).marks ≡ u)
    × (downs (zero_in p).marks + downs (extension_in q).marks ≡ d)
    × (packets_of cs ++ (p ∷ q ∷ []) ≡ ps)
Read (ended n) ps = n ≤ 63 → (c : Cabling) × Proper c × (packets c ≡ ps)

-- The packets of a node and of all that hangs below it, after those of the cablings that wait.
packets_of_node : (x : Fields) (ps : Ports) (left : List Cabling) → packets_of (node x ps ∷ left) ≡ packets_of (pile ps left) ++ node_packets (nodes_in (pile ps left)) x (marks_of ps)
packets_of_node x ps left =
    sym (append_assoc (packets_of left) (packets_below (nodes_in left) ps) (node_packets (nodes_in left + size_below ps) x (marks_of ps)))
    ∙ ap₂ (λ (a : List ℕ) n. a ++ node_packets n x (marks_of ps)) (sym (packets_of_pile ps left)) (sym (nodes_in_pile ps left))

close_root : (f : ℕ) (x : Fields) (ps : Ports) (left : List Cabling) (qs : List ℕ) → length left ≡ 0 → SoundBelow ps → length (marks_of ps) ≡ 16 → ups (marks_of ps) ≡ 0 → nodes_in left + size_below ps ≡ f → packets_of (node x ps ∷ left) ≡ qs → Read (ended (suc f)) qs
close_root f x ps [] qs z h w none n e small = (node x ps, record { sound = (w, none, h); few = omega arith }, e)
close_root f x ps (c ∷ left) qs z h w none n e small = absurd (omega arith)

-- A node ends.
close : (f l v e : ℕ) (x : Fields) (cs : List Cabling) (ms : List Mark) (qs : List ℕ) → Row f l cs → length ms ≡ 16 → ups ms ≡ v → downs ms ≡ e → v ≤ 1 → e ≤ l → (v ≡ 0 → e ≡ l) → packets_of cs ++ node_packets f x ms ≡ qs → Read (finish f l v e) qs
close f l v e x cs ms qs (wait, len, count) w eu ed one held root eq = go v eu one root
  where
    t : Taken ms cs
    t = takes ms cs (omega arith)

    ps : Ports
    ps = t.ports

    left : List Cabling
    left = t.left

    both : SoundBelow ps × Waiting left
    both = waiting_pile ps left (rw t.same_pile wait)

    said : packets_of (node x ps ∷ left) ≡ qs
    said =
        packets_of_node x ps left
        ∙ ap₂ (λ (r : List Cabling) (m : List Mark). packets_of r ++ node_packets (nodes_in r) x m) t.same_pile t.same_marks
        ∙ ap (λ n. packets_of cs ++ node_packets n x ms) count
        ∙ eq

    sum : length cs ≡ length left + downs ms
    sum = sym (ap length t.same_pile) ∙ length_pile ps left ∙ ap (λ (m : List Mark). length left + downs m) t.same_marks

    nodes : nodes_in left + size_below ps ≡ f
    nodes = sym (nodes_in_pile ps left) ∙ ap nodes_in t.same_pile ∙ count

    go : (v : ℕ) → ups ms ≡ v → v ≤ 1 → (v ≡ 0 → e ≡ l) → Read (finish f l v e) qs
    go zero eu one root = close_root f x ps left qs (omega (arith, root refl, sum)) both.0 (rw t.same_marks w) (rw t.same_marks eu) nodes said
    go (suc v) eu one root = (node x ps ∷ left, (((rw t.same_marks w, rw t.same_marks (omega arith), both.0), both.1), omega (arith, sum), omega (arith, nodes)), refl, refl, said)

-- The packets of a node, by the parts of its marks.
node_cut : (n : ℕ) (x : Fields) (a r : List Mark) (b : Bool) → length a ≡ 3 → present r ≡ b → node_packets n x (a ++ r) ≡ zero_word n x (a ++ r) b ∷ extensions 2 n 0 r
node_cut n x a r b w e =
    let same = drop_at a r 3 w in
    ap (λ (s : List Mark). zero_word n x (a ++ r) (present s) ∷ extensions 2 n 0 s) same ∙ ap (λ c. zero_word n x (a ++ r) c ∷ extensions 2 n 0 r) e

extensions_cut : (n : ℕ) (b r : List Mark) (c : Bool) → length b ≡ 8 → present (b ++ r) ≡ true → present r ≡ c → extensions 2 n 0 (b ++ r) ≡ extension_word n 0 (b ++ r) c ∷ extensions 1 n 1 r
extensions_cut n b r c w p e =
    let same = drop_at b r 8 w in
    extensions_some 1 n 0 (b ++ r) c p (ap present same ∙ e) ∙ ap (λ (s : List Mark). extension_word n 0 (b ++ r) c ∷ extensions 1 n 1 s) same

-- One packet more.
snoc : (before : List ℕ) {ps : List ℕ} (us qs : List ℕ) → before ++ us ≡ ps → before ++ (us ++ qs) ≡ ps ++ qs
snoc before us qs e = sym (append_assoc before us qs) ∙ ap (λ (r : List ℕ). r ++ qs) e

-- A packet q with the marks ms at this turn leads to v up and e down marks of the node in all.
record Step (f l u d : ℕ) (t : Turn) (b : Bool) (ms : List Mark) (v e : ℕ) : Type 0 where
  ups_told : u + ups ms ≡ v
  downs_told : d + downs ms ≡ e
  one_up : v ≤ 1
  enough_down : e ≤ l
  ending : Ends b t ms l v e

step_first : (f l u d q : ℕ) (b : Bool) (v e : ℕ) (ps : List ℕ) → Read (going f l u d first) ps → Step f l u d first b (zero_in q).marks v e → zero_word f (fields_in q) (zero_in q).marks b ≡ q → Read (move b f l v e first) (ps ++ (q ∷ []))
step_first f l u d q true v e ps (cs, row, eu, ed, eq) s w = (cs, row, q, w, omega (arith, s.ups_told), omega (arith, s.downs_told), ap (λ (r : List ℕ). r ++ (q ∷ [])) eq)
step_first f l u d q false v e ps (cs, row, eu, ed, eq) s w =
    let a : List Mark = (zero_in q).marks in
    let z : List Mark = replicate 13 Absent in
    close f l v e (fields_in q) cs (a ++ z) (ps ++ (q ∷ [])) row refl (omega (arith, s.ups_told, ups_++ a z)) (omega (arith, s.downs_told, downs_++ a z)) s.one_up s.enough_down s.ending.1
    (ap₂ (λ (r o : List ℕ). r ++ o) eq (node_cut f (fields_in q) a z false refl refl ∙ ap {B = List ℕ} (λ o. o ∷ []) w))

step_second : (f l u d q : ℕ) (b : Bool) (v e : ℕ) (ps : List ℕ) → Read (going f l u d second) ps → Step f l u d second b (extension_in q).marks v e → extension_word f 0 (extension_in q).marks b ≡ q → Read (move b f l v e second) (ps ++ (q ∷ []))
step_second f l u d q true v e ps (cs, row, p, wp, eu, ed, eq) s w =
    (cs, row, p, q, wp, w, omega (arith, s.ups_told), omega (arith, s.downs_told), snoc (packets_of cs) (p ∷ []) (q ∷ []) eq)
step_second f l u d q false v e ps (cs, row, p, wp, eu, ed, eq) s w =
    let a : List Mark = (zero_in p).marks in
    let b : List Mark = (extension_in q).marks in
    let z : List Mark = replicate 5 Absent in
    let there = present_left b z s.ending.0 in
    close f l v e (fields_in p) cs (a ++ (b ++ z)) (ps ++ (q ∷ [])) row refl (omega (arith, s.ups_told, ups_++ a (b ++ z), ups_++ b z)) (omega (arith, s.downs_told, downs_++ a (b ++ z), downs_++ b z)) s.one_up s.enough_down s.ending.1
    (ap (λ (r : List ℕ). packets_of cs ++ r) (node_cut f (fields_in p) a (b ++ z) true refl there ∙ ap₂ {C = List ℕ} (λ o r. o ∷ r) wp (extensions_cut f b z false refl there refl ∙ ap {B = List ℕ} (λ o. o ∷ []) w))
    ∙ snoc (packets_of cs) (p ∷ []) (q ∷ []) eq)

step_third : (f l u d q : ℕ) (b : Bool) (v e : ℕ) (ps : List ℕ) → Read (going f l u d third) ps → Step f l u d third b (extension_in q).marks v e → extension_word f 1 (extension_in q).marks b ≡ q → (extension_in q).marks ≡ take 5 (extension_in q).marks ++ (Absent ∷ Absent ∷ Absent ∷ []) → Read (move b f l v e third) (ps ++ (q ∷ []))
step_third f l u d q true v e ps r s w five = absurd s.ending
step_third f l u d q false v e ps (cs, row, p, o, wp, wo, eu, ed, eq) s w five =
    let a : List Mark = (zero_in p).marks in
    let b : List Mark = (extension_in o).marks in
    let c : List Mark = take 5 (extension_in q).marks in
    let absents : List Mark = Absent ∷ Absent ∷ Absent ∷ [] in
    let there : present c ≡ true = present_padded 5 (extension_in q).marks s.ending.0 (ap (λ (m : List Mark). present (drop 5 m)) five) in
    let word : extension_word f 1 c false ≡ q = ap (λ (m : List Mark). extension_word f 1 m false) (sym five) ∙ w in
    let up_same : ups (extension_in q).marks ≡ ups c = omega (arith, ap ups five, ups_++ c absents) in
    let down_same : downs (extension_in q).marks ≡ downs c = omega (arith, ap downs five, downs_++ c absents) in
    close f l v e (fields_in p) cs (a ++ (b ++ c)) (ps ++ (q ∷ [])) row refl (omega (arith, s.ups_told, up_same, ups_++ a (b ++ c), ups_++ b c)) (omega (arith, s.downs_told, down_same, downs_++ a (b ++ c), downs_++ b c)) s.one_up s.enough_down s.ending.1
    (ap (λ (r : List ℕ). packets_of cs ++ r)
    (node_cut f (fields_in p) a (b ++ c) true refl (present_right b c there)
    ∙ ap₂ {C = List ℕ} (λ o r. o ∷ r) wp (extensions_cut f b c true refl (present_right b c there) there ∙ ap₂ {C = List ℕ} (λ o r. o ∷ r) wo (extensions_some 0 f 1 c false there refl ∙ ap {B = List ℕ} (λ o. o ∷ []) word)))
    ∙ snoc (packets_of cs) (p ∷ o ∷ []) (q ∷ []) eq)

-- What the conditions say of the marks that were read.
steps : (f l u d q : ℕ) (t : Turn) (ms : List Mark) → marks_in q ≡ ms → Fits (going f l u d t) q → Step f l u d t (has_more q) ms (u + ups (marks_in q)) (d + downs (marks_in q))
steps f l u d q t ms e (p, n, turn, one, held, k) =
    record {
      ups_told = ap (λ m. u + ups m) (sym e);
      downs_told = ap (λ m. d + downs m) (sym e);
      one_up = one;
      enough_down = held;
      ending = subst (λ m. Ends (has_more q) t m l (u + ups (marks_in q)) (d + downs (marks_in q))) e k;
    }

step : (s : State) (q : ℕ) (ps : List ℕ) → Read s ps → Fits s q → Read (after s q) (ps ++ (q ∷ []))
step (going f l u d first) q ps r k =
    step_first f l u d q (has_more q) (u + ups (marks_in q)) (d + downs (marks_in q)) ps r (steps f l u d q first (zero_in q).marks (marks_zeroth q k.2) k) (zero_word_of q f k.0 k.1 k.2)
step (going f l u d second) q ps r k =
    step_second f l u d q (has_more q) (u + ups (marks_in q)) (d + downs (marks_in q)) ps r (steps f l u d q second (extension_in q).marks (marks_further q 0 k.2) k) (extension_word_of q f 0 k.0 k.1 k.2)
step (going f l u d third) q ps r k =
    step_third f l u d q (has_more q) (u + ups (marks_in q)) (d + downs (marks_in q)) ps r (steps f l u d q third (extension_in q).marks (marks_further q 1 k.2) k) (extension_word_of q f 1 k.0 k.1 k.2) (last_three q k.0 k.2)
step (ended n) q ps r k = absurd k

parse_from : (s : State) (ps qs : List ℕ) → Read s ps → Follows s qs → Read (reached s qs) (ps ++ qs)
parse_from s ps [] r k = subst (Read s) (sym (append-nil ps)) r
parse_from s ps (q ∷ qs) r (h, k) = subst (Read (reached s (q ∷ qs))) (append_assoc ps (q ∷ []) qs) (parse_from (after s q) (ps ++ (q ∷ [])) qs (step s q ps r h) k)

pub parse : (qs : List ℕ) (n : ℕ) → n ≤ 63 → Runs start qs (ended n) → (c : Cabling) × Proper c × (packets c ≡ qs)
parse qs n small (k, e) = subst (λ t. Read t qs) e (parse_from start [] qs ([], (tt, refl, refl), refl, refl, refl) k) small
