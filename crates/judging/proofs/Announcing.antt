-- The machine runs over whole cablings, from no node under way to no node under way.
use Rattle.std.proofs.Common.{◌≡◌, ℕ, suc, ◌+◌, ◌<◌, ◌≤◌, List, [], ◌∷◌, ◌++◌, length, refl, ap, ◌∙◌, ap₂, zero-add, arith}
use Rattle.selfid.specs.declared.mark.Mark.{Mark}
use Rattle.selfid.specs.declared.node.Fields.{Fields}
use Rattle.selfid.specs.Marks.{ups, downs}
use Rattle.selfid.specs.Nodes.{node_packets}
use Rattle.selfid.specs.Cabling.{Cabling, node, Ports, end, plain, down, marks_of, size, size_below, Sound, SoundBelow, Proper}
use Rattle.selfid.specs.Announcement.{packets, packets_from, packets_below}
use Rattle.judging.specs.Completion.{nodes_in, packets_of, Waiting}
use Rattle.judging.proofs.Machine.{State, ended, between, finish, start, Runs}
use Rattle.judging.proofs.Runs.{runs_++}
use Rattle.judging.proofs.Stacks.{downs_plain}
use Rattle.judging.proofs.Sending.{run_node}

-- The same run, where the numbers are written otherwise.
on_to : (s : State) (qs : List ℕ) (n m l k : ℕ) → n ≡ m → l ≡ k → Runs s qs (between n l) → Runs s qs (between m k)
on_to s qs n m l k e h (f, g) = (f, g ∙ ap₂ between e h)

node_below : (n l : ℕ) (x : Fields) (ms : List Mark) → n < 64 → length ms ≡ 16 → ups ms ≡ 1 → Runs (between n (l + downs ms)) (node_packets n x ms) (between (suc n) (suc l))
node_below n l x ms h w one =
    let (f, g) = run_node n (l + downs ms) x ms h w (omega arith) (omega arith) (λ z. absurd (omega arith)) in
    (f, g ∙ ap (λ u. finish n (l + downs ms) u (downs ms)) one ∙ ap (between (suc n)) (omega arith))

node_root : (n l : ℕ) (x : Fields) (ms : List Mark) → n < 64 → length ms ≡ 16 → ups ms ≡ 0 → downs ms ≡ l → Runs (between n l) (node_packets n x ms) (ended (suc n))
node_root n l x ms h w none all =
    let (f, g) = run_node n l x ms h w (omega arith) (omega arith) (λ _. all) in
    (f, g ∙ ap (λ u. finish n l u (downs ms)) none)

-- A cabling below another adds one loose end; its ports took as many as have a child.
mutual
  pub run_below : (c : Cabling) → Sound 1 c → (n l : ℕ) → n + size c ≤ 64 → Runs (between n l) (packets_from n c) (between (n + size c) (suc l))
  run_below (node x ps) (w, one, h) n l few =
      on_to (between n l) (packets_from n (node x ps)) (suc (n + size_below ps)) (n + size (node x ps)) (suc l) (suc l) (omega arith) refl
      (runs_++ (between n l) (packets_below n ps) (between (n + size_below ps) (l + downs (marks_of ps))) (node_packets (n + size_below ps) x (marks_of ps)) (between (suc (n + size_below ps)) (suc l))
      (run_ports ps h n l (omega arith)) (node_below (n + size_below ps) l x (marks_of ps) (omega arith) w one))

  pub run_ports : (ps : Ports) → SoundBelow ps → (n l : ℕ) → n + size_below ps ≤ 64 → Runs (between n l) (packets_below n ps) (between (n + size_below ps) (l + downs (marks_of ps)))
  run_ports end h n l few = on_to (between n l) [] n (n + 0) l (l + 0) (omega arith) (omega arith) (tt, refl)
  run_ports (plain k ps) h n l few =
      on_to (between n l) (packets_below n ps) (n + size_below ps) (n + size_below ps) (l + downs (marks_of ps)) (l + downs (marks_of (plain k ps))) refl (omega (arith, downs_plain k (marks_of ps)))
      (run_ports ps h n l few)
  run_ports (down c ps) (h, k) n l few =
      on_to (between n l) (packets_from n c ++ packets_below (n + size c) ps) (n + size c + size_below ps) (n + size_below (down c ps)) (suc l + downs (marks_of ps)) (l + downs (marks_of (down c ps))) (omega arith) (omega arith)
      (runs_++ (between n l) (packets_from n c) (between (n + size c) (suc l)) (packets_below (n + size c) ps) (between (n + size c + size_below ps) (suc l + downs (marks_of ps)))
      (run_below c h n l (omega arith)) (run_ports ps k (n + size c) (suc l) (omega arith)))

-- A whole announcement runs to the end, and cablings that wait for their parent to as many loose ends.
pub run_proper : (c : Cabling) → Proper c → Runs start (packets c) (ended (size c))
run_proper (node x ps) p =
    let (w, none, h) = p.sound in
    let few : suc (size_below ps) ≤ 63 = p.few in
    let (f, g) = runs_++ start (packets_below 0 ps) (between (0 + size_below ps) (0 + downs (marks_of ps))) (node_packets (0 + size_below ps) x (marks_of ps)) (ended (suc (0 + size_below ps)))
    (run_ports ps h 0 0 (omega arith)) (node_root (0 + size_below ps) (0 + downs (marks_of ps)) x (marks_of ps) (omega arith) w none (omega arith)) in
    (f, g ∙ ap (λ n. ended (suc n)) (zero-add (size_below ps)))

pub run_waiting : (cs : List Cabling) → Waiting cs → nodes_in cs ≤ 64 → Runs start (packets_of cs) (between (nodes_in cs) (length cs))
run_waiting [] w few = (tt, refl)
run_waiting (c ∷ cs) (h, w) few =
    runs_++ start (packets_of cs) (between (nodes_in cs) (length cs)) (packets_from (nodes_in cs) c) (between (nodes_in cs + size c) (suc (length cs)))
    (run_waiting cs w (omega arith)) (run_below c h (nodes_in cs) (length cs) (omega arith))
