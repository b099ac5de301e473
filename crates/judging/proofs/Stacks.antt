-- Cablings that wait for their parent: the newest comes first.
use Rattle.std.proofs.Common.{◌≡◌, ◌+◌, ◌≤◌, List, [], ◌∷◌, ◌++◌, length, sym, refl, ap, ◌∙◌, append_assoc, append-nil, arith}
use Rattle.selfid.specs.declared.mark.Mark.{Mark}
use Rattle.selfid.specs.declared.mark.Mark.TheVariants.{Absent, Open, Up, Down}
use Rattle.selfid.specs.Marks.{downs}
use Rattle.selfid.specs.Cabling.{Childless, absent, «open», up, childless_mark, Cabling, Ports, end, plain, down, marks_of, size, size_below, SoundBelow}
use Rattle.selfid.specs.Announcement.{packets_from, packets_below}
use Rattle.judging.specs.Completion.{nodes_in, packets_of, Waiting}

-- The children of some ports on top of others that wait.
abbrev pub pile : Ports → List Cabling → List Cabling
pile end cs = cs
pile (plain k ps) cs = pile ps cs
pile (down c ps) cs = pile ps (c ∷ cs)

pub nodes_in_pile : (ps : Ports) (cs : List Cabling) → nodes_in (pile ps cs) ≡ nodes_in cs + size_below ps
nodes_in_pile end cs = omega arith
nodes_in_pile (plain k ps) cs = nodes_in_pile ps cs
nodes_in_pile (down c ps) cs = omega (arith, nodes_in_pile ps (c ∷ cs))

pub downs_plain : (k : Childless) (ms : List Mark) → downs (childless_mark k ∷ ms) ≡ downs ms
downs_plain absent ms = refl
downs_plain «open» ms = refl
downs_plain up ms = refl

pub length_pile : (ps : Ports) (cs : List Cabling) → length (pile ps cs) ≡ length cs + downs (marks_of ps)
length_pile end cs = omega arith
length_pile (plain k ps) cs = omega (arith, length_pile ps cs, downs_plain k (marks_of ps))
length_pile (down c ps) cs = omega (arith, length_pile ps (c ∷ cs))

pub packets_of_pile : (ps : Ports) (cs : List Cabling) → packets_of (pile ps cs) ≡ packets_of cs ++ packets_below (nodes_in cs) ps
packets_of_pile end cs = sym (append-nil (packets_of cs))
packets_of_pile (plain k ps) cs = packets_of_pile ps cs
packets_of_pile (down c ps) cs = packets_of_pile ps (c ∷ cs) ∙ append_assoc (packets_of cs) (packets_from (nodes_in cs) c) (packets_below (nodes_in cs + size c) ps)

pub waiting_pile : (ps : Ports) (cs : List Cabling) → Waiting (pile ps cs) → SoundBelow ps × Waiting cs
waiting_pile end cs w = (tt, w)
waiting_pile (plain k ps) cs w = waiting_pile ps cs w
waiting_pile (down c ps) cs w = let (h, k) = waiting_pile ps (c ∷ cs) w in ((k.0, h), k.1)

-- A node's marks take its children off those that wait.
pub record Taken (ms : List Mark) (cs : List Cabling) : Type 0 where
  pub ports : Ports
  pub left : List Cabling
  pub same_marks : marks_of ports ≡ ms
  pub same_pile : pile ports left ≡ cs

pub takes : (ms : List Mark) (cs : List Cabling) → downs ms ≤ length cs → Taken ms cs
takes [] cs h = record { ports = end; left = cs; same_marks = refl; same_pile = refl }
takes (Absent ∷ ms) cs h =
    let t = takes ms cs h in
    record { ports = plain absent t.ports; left = t.left; same_marks = ap {B = List Mark} (λ r. Absent ∷ r) t.same_marks; same_pile = t.same_pile }
takes (Open ∷ ms) cs h =
    let t = takes ms cs h in
    record { ports = plain «open» t.ports; left = t.left; same_marks = ap {B = List Mark} (λ r. Open ∷ r) t.same_marks; same_pile = t.same_pile }
takes (Up ∷ ms) cs h =
    let t = takes ms cs h in
    record { ports = plain up t.ports; left = t.left; same_marks = ap {B = List Mark} (λ r. Up ∷ r) t.same_marks; same_pile = t.same_pile }
takes (Down ∷ ms) cs h =
    let t = takes ms cs (omega arith) in
    go t.ports t.left t.same_marks t.same_pile
  where
    go : (ps : Ports) (left : List Cabling) → marks_of ps ≡ ms → pile ps left ≡ cs → Taken (Down ∷ ms) cs
    go ps [] m e = absurd (omega (arith, length_pile ps [], ap length e, ap downs m))
    go ps (c ∷ left) m e = record { ports = down c ps; left = left; same_marks = ap {B = List Mark} (λ r. Down ∷ r) m; same_pile = e }
