-- The walk that writes an announcement: what is written, and what the open nodes are still to write.
use Rattle.std.proofs.Common.{◌≡◌, ℕ, zero, suc, ◌+◌, ◌<◌, ◌≤◌, true, false, cond, List, [], ◌∷◌, ◌++◌, length, get_or, drop, Some, None, Option, sym, refl, ap, ◌∙◌, subst, ap₂, append_assoc, append-nil, arith, length-append}
use Rattle.std.proofs.lemmas.List.{drop-drop}
use Rattle.selfid.specs.declared.mark.Mark.{Mark}
use Rattle.selfid.specs.declared.node.Fields.{Fields}
use Rattle.selfid.specs.declared.node.Node.{Node}
use Rattle.selfid.specs.Packets.{with_inverses}
use Rattle.selfid.specs.Nodes.{node_packets}
use Rattle.selfid.specs.Cabling.{Cabling, node, Ports, end, plain, down, marks_of, size, size_below}
use Rattle.selfid.specs.Announcement.{packets_from, packets_below, packets, announcement}
use Rattle.announce.specs.declared.described.Row.{Row}
use Rattle.announce.specs.declared.described.RowPort.{RowPort}
use Rattle.announce.specs.declared.frame.Frame.{Frame}
use Rattle.announce.specs.declared.writing.Found.{Found}
use Rattle.announce.specs.Description.{is_down, FieldsAt, ports_at, DescribesAt, DescribePorts, Describes}
use Rattle.announce.specs.Reach.{Described}
use Rattle.announce.specs.Rows.{HaveMarks, TellsNode}
use Rattle.announce.specs.declared.writer.Writer.{Writer}
use Rattle.announce.specs.Writing.{Writes, down_from, node_quadlets}
use Rattle.announce.proofs.Forests.{not_down, marked_down}
use Rattle.announce.proofs.Told.{no_row, ports_here, node_here}
use Rattle.announce.proofs.Marked.{same_codes}
use Rattle.announce.proofs.Putting.{length_pairs, pairs_append, nothing_written, both_written, length_put}
use Rattle.announce.proofs.Trees.{describe_one_cabling, row_small, one_fields, marks_told}
use Rattle.announce.proofs.Placing.{size_told}

-- A node that is not written yet, and those of its ports whose children are not written yet.
pub record OpenNode : Type 0 where
  pub fields : Fields
  pub marks : List Mark
  pub left : Ports

-- What the open nodes are still to write, the innermost first, where n nodes are written; and how many nodes that are.
abbrev pub rest : (n : ℕ) → List OpenNode → List ℕ
rest n [] = []
rest n (o ∷ os) = packets_below n o.left ++ (node_packets (n + size_below o.left) o.fields o.marks ++ rest (suc (n + size_below o.left)) os)

abbrev pub nodes_left : List OpenNode → ℕ
nodes_left [] = 0
nodes_left (o ∷ os) = suc (size_below o.left + nodes_left os)

-- A frame stands for an open node.
pub record Opens (rows : List Row) (f : Frame) (o : OpenNode) : Type 0 where
  pub fields : FieldsAt rows f.row o.fields
  pub marks : HaveMarks (ports_at rows f.row) o.marks
  pub left : DescribePorts rows o.left (drop f.port (ports_at rows f.row))

abbrev pub AllOpen : List Row → List Frame → List OpenNode → Type 0
AllOpen rows [] [] = Unit {0}
AllOpen rows [] (o ∷ os) = ⊥
AllOpen rows (f ∷ fs) [] = ⊥
AllOpen rows (f ∷ fs) (o ∷ os) = Opens rows f o × AllOpen rows fs os

pub record Writing (rows : List Row) (c : Cabling) (frames : List Frame) (number : ℕ) (start now : Writer) : Type 0 where
  pub written : List ℕ
  pub opened : List OpenNode
  pub stands : AllOpen rows frames opened
  pub all : written ++ rest number opened ≡ packets c
  pub count : number + nodes_left opened ≡ size c
  pub writes : Writes start now (with_inverses written)

-- Every open node is still to be written.
few_open : (rows : List Row) (fs : List Frame) (os : List OpenNode) → AllOpen rows fs os → length fs ≤ nodes_left os
few_open rows [] [] a = omega arith
few_open rows [] (o ∷ os) a = absurd a
few_open rows (f ∷ fs) [] a = absurd a
few_open rows (f ∷ fs) (o ∷ os) a = omega (arith, few_open rows fs os a.1)

-- The ports are looked through for the next down port. None is there:
pub down_other : (p : RowPort) (ports : List RowPort) (i : ℕ) → is_down p ≡ false → down_from i (p ∷ ports) ≡ down_from (i + 1) ports
down_other p ports i h = ap (λ b. cond b (Some (record { child = p.child; next = i + 1 })) (down_from (i + 1) ports)) h

pub down_here : (p : RowPort) (ports : List RowPort) (i : ℕ) → is_down p ≡ true → down_from i (p ∷ ports) ≡ Some (record { child = p.child; next = i + 1 })
down_here p ports i h = ap (λ b. cond b (Some (record { child = p.child; next = i + 1 })) (down_from (i + 1) ports)) h

-- By where the first one is, if there is one.
pub down_none : (ports : List RowPort) (i : ℕ) → ((k : ℕ) (d : RowPort) → k < length ports → is_down (get_or ports k d) ≡ false) → down_from i ports ≡ None
down_none [] i h = refl
down_none (p ∷ ports) i h = down_other p ports i (h 0 p (omega arith)) ∙ down_none ports (i + 1) (λ k d l. h (suc k) d (omega arith))

pub down_at : (ports : List RowPort) (i k : ℕ) (d : RowPort) → k < length ports → is_down (get_or ports k d) ≡ true → ((j : ℕ) → j < k → is_down (get_or ports j d) ≡ false) → down_from i ports ≡ Some (record { child = (get_or ports k d).child; next = i + k + 1 })
down_at [] i k d l e h = absurd (omega arith)
down_at (p ∷ ports) i zero d l e h = down_here p ports i e ∙ ap (λ n. Some (record { child = p.child; next = n })) (omega arith)
down_at (p ∷ ports) i (suc k) d l e h =
    down_other p ports i (h 0 (omega arith))
    ∙ down_at ports (i + 1) k d (omega arith) e (λ j m. h (suc j) (omega arith))
    ∙ ap (λ n. Some (record { child = (get_or ports k d).child; next = n })) (omega arith)

no_down : (rows : List Row) (ps : Ports) (ports : List RowPort) (i : ℕ) → DescribePorts rows ps ports → down_from i ports ≡ None → (size_below ps ≡ 0) × ((n : ℕ) → packets_below n ps ≡ [])
no_down rows end ports i d e = (refl, λ n. refl)
no_down rows (plain k ps) [] i d e = absurd d
no_down rows (plain k ps) (p ∷ ports) i d e = no_down rows ps ports (i + 1) d.1 (sym (down_other p ports i (not_down k p d.0)) ∙ e)
no_down rows (down c ps) [] i d e = absurd d
no_down rows (down c ps) (p ∷ ports) i d e = absurd (let f = sym (down_here p ports i (marked_down p d.0)) ∙ e in let z : ◌≡◌ {A = ℕ} 0 1 = cc in omega arith)

-- One is there: the child's cabling, and the ports behind it.
pub record Next (rows : List Row) (ps : Ports) (ports : List RowPort) (i : ℕ) (f : Found) : Type 0 where
  pub child : Cabling
  pub behind : Ports
  pub passed : ℕ
  pub place : f.next ≡ i + suc passed
  pub describes : DescribesAt rows f.child child
  pub others : DescribePorts rows behind (drop (suc passed) ports)
  pub sizes : size_below ps ≡ size child + size_below behind
  pub sends : (n : ℕ) → packets_below n ps ≡ packets_from n child ++ packets_below (n + size child) behind

next_child : (rows : List Row) (ps : Ports) (ports : List RowPort) (i : ℕ) (f : Found) → DescribePorts rows ps ports → down_from i ports ≡ Some f → Next rows ps ports i f
next_child rows end [] i f d e = absurd (let z : ◌≡◌ {A = ℕ} 0 1 = cc in omega arith)
next_child rows end (p ∷ ports) i f d e = absurd d
next_child rows (plain k ps) [] i f d e = absurd d
next_child rows (plain k ps) (p ∷ ports) i f d e =
    let n = next_child rows ps ports (i + 1) f d.1 (sym (down_other p ports i (not_down k p d.0)) ∙ e) in
    record { child = n.child; behind = n.behind; passed = suc n.passed; place = omega (arith, n.place); describes = n.describes; others = n.others; sizes = n.sizes; sends = n.sends }
next_child rows (down c ps) [] i f d e = absurd d
next_child rows (down c ps) (p ∷ ports) i f d e =
    let g : Some (record { child = p.child; next = i + 1 }) ≡ Some f = sym (down_here p ports i (marked_down p d.0)) ∙ e in
    let h : record { child = p.child; next = i + 1 } ≡ f = cc in
    record { child = c; behind = ps; passed = 0; place = sym (ap (λ r. r.next) h); describes = subst (λ j. DescribesAt rows j c) (ap (λ r. r.child) h) d.1; others = d.2; sizes = refl; sends = λ n. refl }

-- The walk begins at the root.
begins : (rows : List Row) (c : Cabling) (w : Writer) → DescribesAt rows 0 c → Writing rows c (record { row = 0; port = 0 } ∷ []) 0 w w
begins rows (node x ps) w d =
    record {
      written = [];
      opened = record { fields = x; marks = marks_of ps; left = ps } ∷ [];
      stands = (record { fields = d.0; marks = marks_told rows ps (ports_at rows 0) d.1; left = d.1 }, tt);
      all = ap (λ l. packets_below 0 ps ++ l) (append-nil (node_packets (0 + size_below ps) x (marks_of ps)));
      count = omega arith;
      writes = nothing_written w;
    }

-- A child is opened: what is still to be written stays.
rest_child : (n : ℕ) (o : OpenNode) (os : List OpenNode) (y : Fields) (qs behind : Ports) → size_below o.left ≡ suc (size_below qs) + size_below behind → packets_below n o.left ≡ packets_from n (node y qs) ++ packets_below (n + suc (size_below qs)) behind → rest n (o ∷ os) ≡ rest n (record { fields = y; marks = marks_of qs; left = qs } ∷ record { fields = o.fields; marks = o.marks; left = behind } ∷ os)
rest_child n o os y qs behind sizes sends =
    ap₂ (λ p k. p ++ (own (n + k) ++ rest (suc (n + k)) os)) sends sizes
    ∙ append_assoc (packets_from n (node y qs)) (packets_below (n + suc (size_below qs)) behind) _
    ∙ append_assoc (packets_below n qs) (node_packets (n + size_below qs) y (marks_of qs)) _
    ∙ ap₂ (λ u v. packets_below n qs ++ (node_packets (n + size_below qs) y (marks_of qs) ++ (packets_below u behind ++ (own v ++ rest (suc v) os)))) up_to behind_it
  where
    own : ℕ → List ℕ
    own k = node_packets k o.fields o.marks

    up_to : n + suc (size_below qs) ≡ suc (n + size_below qs)
    up_to = omega arith

    behind_it : n + (suc (size_below qs) + size_below behind) ≡ suc (n + size_below qs) + size_below behind
    behind_it = omega arith

-- A frame with the port behind the child's.
behind_found : (rows : List Row) (f : Frame) (g : Found) (o : OpenNode) (a : Opens rows f o) (n : Next rows o.left (drop f.port (ports_at rows f.row)) f.port g) → Opens rows (record { row = f.row; port = g.next }) (record { fields = o.fields; marks = o.marks; left = n.behind })
behind_found rows f g o a n =
    let ports = ports_at rows f.row in
    let e : drop (suc n.passed) (drop f.port ports) ≡ drop g.next ports = drop-drop (suc n.passed) f.port ports ∙ ap (λ k. drop k ports) (sym n.place) in
    record { fields = a.fields; marks = a.marks; left = subst (DescribePorts rows n.behind) e n.others }

-- A cabling's topmost node is opened.
top_opened : (rows : List Row) (i : ℕ) (y : Fields) (qs : Ports) → DescribesAt rows i (node y qs) → Opens rows (record { row = i; port = 0 }) (record { fields = y; marks = marks_of qs; left = qs })
top_opened rows i y qs d = record { fields = d.0; marks = marks_told rows qs (ports_at rows i) d.1; left = d.1 }

-- The row of a frame is a row, and there are no more frames than nodes to be written.
frame_row : (rows : List Row) (c : Cabling) (f : Frame) (fs : List Frame) (number : ℕ) (start now : Writer) → Writing rows c (f ∷ fs) number start now → f.row < length rows
frame_row rows c f fs number start now w = go w.opened w.stands
  where
    go : (os : List OpenNode) → AllOpen rows (f ∷ fs) os → f.row < length rows
    go [] a = absurd a
    go (o ∷ os) a = row_small rows f.row o.fields a.0.fields

frames_few : (rows : List Row) (c : Cabling) (fs : List Frame) (number : ℕ) (start now : Writer) → Describes rows c → Writing rows c fs number start now → number + length fs ≤ length rows
frames_few rows c fs number start now t w = omega (arith, w.count, few_open rows fs w.opened w.stands, size_told rows c t)

-- What a look through the ports of the frame's row tells.
looked : (rows : List Row) (f : Frame) (r : Option Found) → f.row < length rows → r ≡ down_from f.port (drop f.port (get_or rows f.row no_row).ports) → down_from f.port (drop f.port (ports_at rows f.row)) ≡ r
looked rows f r h e = ap (λ ports. down_from f.port (drop f.port ports)) (ports_here rows f.row no_row h) ∙ sym e

module _ (rows : List Row) (c : Cabling) (f : Frame) (fs : List Frame) (number : ℕ) (start now : Writer) where
  -- A down port is left: its child is opened.
  child_opened : (g : Found) (w : Writing rows c (f ∷ fs) number start now) (o : OpenNode) (os : List OpenNode) → w.opened ≡ o ∷ os → (n : Next rows o.left (drop f.port (ports_at rows f.row)) f.port g) (d : Cabling) → Opens rows f o → AllOpen rows fs os → DescribesAt rows g.child d → size_below o.left ≡ size d + size_below n.behind → packets_below number o.left ≡ packets_from number d ++ packets_below (number + size d) n.behind → Writing rows c (record { row = g.child; port = 0 } ∷ record { row = f.row; port = g.next } ∷ fs) number start now
  child_opened g w o os e n (node y qs) a others t sizes sends =
      record {
        written = w.written;
        opened = record { fields = y; marks = marks_of qs; left = qs } ∷ record { fields = o.fields; marks = o.marks; left = n.behind } ∷ os;
        stands = (top_opened rows g.child y qs t, (behind_found rows f g o a n, others));
        all = ap (λ r. w.written ++ r) (sym (ap (rest number) e ∙ rest_child number o os y qs n.behind sizes sends)) ∙ w.all;
        count = omega (arith, w.count, ap nodes_left e);
        writes = w.writes;
      }

  descend : (g : Found) (w : Writing rows c (f ∷ fs) number start now) (os : List OpenNode) → w.opened ≡ os → AllOpen rows (f ∷ fs) os → down_from f.port (drop f.port (ports_at rows f.row)) ≡ Some g → Writing rows c (record { row = g.child; port = 0 } ∷ record { row = f.row; port = g.next } ∷ fs) number start now
  descend g w [] e a d = absurd a
  descend g w (o ∷ os) e a d =
      let n = next_child rows o.left (drop f.port (ports_at rows f.row)) f.port g a.0.left d in
      child_opened g w o os e n n.child a.0 a.1 n.describes n.sizes (n.sends number)

  descends : (g : Found) → Writing rows c (f ∷ fs) number start now → Some g ≡ down_from f.port (drop f.port (get_or rows f.row no_row).ports) → Writing rows c (record { row = g.child; port = 0 } ∷ record { row = f.row; port = g.next } ∷ fs) number start now
  descends g w d = descend g w w.opened refl w.stands (looked rows f (Some g) (frame_row rows c f fs number start now w) d)

  -- None is left: the node itself is the next that is written.
  pub record NodeNext (x : Node) (w : Writing rows c (f ∷ fs) number start now) : Type 0 where
    pub others : List OpenNode
    pub stand : AllOpen rows fs others
    pub sends : rest number w.opened ≡ node_packets number x.fields x.marks ++ rest (number + 1) others
    pub count : nodes_left w.opened ≡ suc (nodes_left others)

  node_is : (x : Node) (w : Writing rows c (f ∷ fs) number start now) (os : List OpenNode) → w.opened ≡ os → AllOpen rows (f ∷ fs) os → FieldsAt rows f.row x.fields → HaveMarks (ports_at rows f.row) x.marks → down_from f.port (drop f.port (ports_at rows f.row)) ≡ None → NodeNext x w
  node_is x w [] e a xf xm d = absurd a
  node_is x w (o ∷ os) e a xf xm d =
      let (none, nothing) = no_down rows o.left (drop f.port (ports_at rows f.row)) f.port a.0.left d in
      let fields : o.fields ≡ x.fields = one_fields rows f.row o.fields x.fields a.0.fields xf in
      let marks : o.marks ≡ x.marks = same_codes o.marks x.marks (sym a.0.marks ∙ xm) in
      let here : number + size_below o.left ≡ number = omega arith in
      let next : suc (number + size_below o.left) ≡ number + 1 = omega arith in
      record {
        others = os;
        stand = a.1;
        sends =
            ap (rest number) e
            ∙ ap (λ p. p ++ (node_packets (number + size_below o.left) o.fields o.marks ++ rest (suc (number + size_below o.left)) os)) (nothing number)
            ∙ ap₂ (λ k l. node_packets k o.fields o.marks ++ rest l os) here next
            ∙ ap₂ (λ y ms. node_packets number y ms ++ rest (number + 1) os) fields marks;
        count = ap nodes_left e ∙ ap (λ k. suc (k + nodes_left os)) none ∙ omega arith;
      }

  module _ (x : Node) (w : Writing rows c (f ∷ fs) number start now) (h : NodeNext x w) (room : start.at + length (announcement c) ≤ length start.words.now) where
    abbrev own : List ℕ
    own = node_packets number x.fields x.marks

    all_parts : w.written ++ (own ++ rest (number + 1) h.others) ≡ packets c
    all_parts = ap (λ r. w.written ++ r) (sym h.sends) ∙ w.all

    long : length w.written + (length own + length (rest (number + 1) h.others)) ≡ length (packets c)
    long = sym (length-append w.written _ ∙ ap (λ n. length w.written + n) (length-append own _)) ∙ ap length all_parts

    length_row : length now.words.now ≡ length start.words.now
    length_row = ap length w.writes.written ∙ length_put start.words.now start.at (with_inverses w.written) (omega (arith, length_pairs w.written, length_pairs (packets c), long))

    node_room : now.at + length (node_quadlets number x) ≤ length now.words.now
    node_room = omega (arith, length_row, w.writes.behind, length_pairs w.written, length_pairs own, length_pairs (packets c), long)

    ends : (after : Writer) → Writes now after (node_quadlets number x) → Writing rows c fs (number + 1) start after
    ends after v =
        record {
          written = w.written ++ own;
          opened = h.others;
          stands = h.stand;
          all = append_assoc w.written own (rest (number + 1) h.others) ∙ all_parts;
          count = omega (arith, w.count, h.count);
          writes = rw (pairs_append w.written own) (both_written start now after (with_inverses w.written) (with_inverses own) (omega arith) w.writes v);
        }

  node_next : (x : Node) (w : Writing rows c (f ∷ fs) number start now) → TellsNode (get_or rows f.row no_row) x → None ≡ down_from f.port (drop f.port (get_or rows f.row no_row).ports) → NodeNext x w
  node_next x w told d =
      let h = frame_row rows c f fs number start now w in
      let (xf, xm) = node_here rows f.row no_row x h told in
      node_is x w w.opened refl w.stands xf xm (looked rows f None h d)

-- No frame is left: all is written.
all_written : (rows : List Row) (c : Cabling) (number : ℕ) (start now : Writer) → Writing rows c [] number start now → Writes start now (announcement c)
all_written rows c number start now w = go w.opened w.stands w.all
  where
    go : (os : List OpenNode) → AllOpen rows [] os → w.written ++ rest number os ≡ packets c → Writes start now (announcement c)
    go [] a e = rw (sym (append-nil w.written) ∙ e) at w.writes
    go (o ∷ os) a e = absurd a

-- Where the walk stands, in the cabling that the rows describe.
pub record Walked (rows : List Row) (fs : List Frame) (number : ℕ) (start now : Writer) : Type 0 where
  pub known : Described rows
  pub room : start.at + length (announcement known.cabling) ≤ length start.words.now
  pub writing : Writing rows known.cabling fs number start now

pub walk_begins : (rows : List Row) (known : Described rows) (w : Writer) → w.at + length (announcement known.cabling) ≤ length w.words.now → Walked rows (record { row = 0; port = 0 } ∷ []) 0 w w
walk_begins rows known w room = record { known = known; room = room; writing = begins rows known.cabling w known.describes.root }

pub few_frames : (rows : List Row) (fs : List Frame) (number : ℕ) (start now : Writer) → Walked rows fs number start now → number + length fs ≤ length rows
few_frames rows fs number start now w = frames_few rows w.known.cabling fs number start now w.known.describes w.writing

module _ (rows : List Row) (f : Frame) (fs : List Frame) (number : ℕ) (start now : Writer) (w : Walked rows (f ∷ fs) number start now) where
  pub row_is : f.row < length rows
  row_is = frame_row rows w.known.cabling f fs number start now w.writing

  pub child_entered : (g : Found) → Some g ≡ down_from f.port (drop f.port (get_or rows f.row no_row).ports) → Walked rows (record { row = g.child; port = 0 } ∷ record { row = f.row; port = g.next } ∷ fs) number start now
  child_entered g e = record { known = w.known; room = w.room; writing = descends rows w.known.cabling f fs number start now g w.writing e }

  module _ (x : Node) (told : TellsNode (get_or rows f.row no_row) x) (none : None ≡ down_from f.port (drop f.port (get_or rows f.row no_row).ports)) where
    abbrev next : NodeNext rows w.known.cabling f fs number start now x w.writing
    next = node_next rows w.known.cabling f fs number start now x w.writing told none

    pub room_left : now.at + length (node_quadlets number x) ≤ length now.words.now
    room_left = node_room rows w.known.cabling f fs number start now x w.writing next w.room

    pub node_done : (after : Writer) → Writes now after (node_quadlets number x) → Walked rows fs (number + 1) start after
    node_done after v = record { known = w.known; room = w.room; writing = ends rows w.known.cabling f fs number start now x w.writing next w.room after v }

pub walk_ends : (rows : List Row) (number : ℕ) (start now : Writer) → Walked rows [] number start now → (c : Cabling) → Describes rows c → Writes start now (announcement c)
walk_ends rows number start now w c t = rw (describe_one_cabling rows c w.known.cabling t w.known.describes) (all_written rows w.known.cabling number start now w.writing)
