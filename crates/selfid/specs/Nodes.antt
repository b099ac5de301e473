-- Which packets a node sends.
use Rattle.std.specs.Prelude.{ℕ, zero, suc, ◌+◌, ◌-◌, ◌/◌, cond, List, [], ◌∷◌, drop}
use Rattle.selfid.specs.declared.mark.Mark.{Mark}
use Rattle.selfid.specs.declared.node.Fields.{Fields}
use Rattle.selfid.specs.Marks.{present}
use Rattle.selfid.specs.Packets.{zero_word, extension_word}

-- Every node has this many ports, some of them absent.
abbrev pub port_limit : ℕ
port_limit = 16

-- So many extensions have room for the ports behind the first three, eight each.
abbrev pub extension_limit : ℕ
extension_limit = (port_limit - 3 + 7) / 8

-- The extensions of node n from extension e on, at most k of them, where ms are the marks of the ports from port 8e + 3 on:
-- one is sent if some port from its first on is not absent. More is set in all but the last.
abbrev pub extensions : (k n e : ℕ) → List Mark → List ℕ
extensions zero n e ms = []
extensions (suc k) n e ms = cond (present ms) (extension_word n e ms (present (drop 8 ms)) ∷ extensions k n (suc e) (drop 8 ms)) []

-- The packets of node n with the fields x and the marks ms.
abbrev pub node_packets : (n : ℕ) → Fields → List Mark → List ℕ
node_packets n x ms = zero_word n x ms (present (drop 3 ms)) ∷ extensions extension_limit n 0 (drop 3 ms)
