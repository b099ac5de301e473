-- Definitions for the inner functions: quadlets written into a row of words.
use Rattle.std.specs.Prelude.{◌≡◌, ℕ, suc, ◌+◌, ◌*◌, cond, List, [], ◌∷◌, ◌++◌, map, length, take, drop, Some, None, Option}
use Rattle.selfid.specs.declared.node.Node.{Node}
use Rattle.selfid.specs.Packets.{with_inverses}
use Rattle.selfid.specs.Nodes.{extension_limit, extensions, node_packets}
use Rattle.selfid.specs.declared.mark.Mark.{Mark}
use Rattle.selfid.specs.Reading.{mark_in}
use Rattle.announce.specs.declared.described.Row.{Row}
use Rattle.announce.specs.declared.described.RowPort.{RowPort}
use Rattle.announce.specs.declared.writer.Writer.{Writer}
use Rattle.announce.specs.declared.writing.Found.{Found}
use Rattle.announce.specs.Description.{is_down}

-- The row with these words in it from place i on.
abbrev pub put : List ℕ → (i : ℕ) → List ℕ → List ℕ
put row i qs = take i row ++ (qs ++ drop (i + length qs) row)

-- The writer `old` writes these words where it stands, and `new` stands behind them.
pub record Writes (old new : Writer) (qs : List ℕ) : Type 0 where
  pub same_row : new.words.ghost_name ≡ old.words.ghost_name
  pub behind : new.at ≡ old.at + length qs
  pub written : new.words.now ≡ put old.words.now old.at qs

-- The quadlets of node n.
abbrev pub node_quadlets : (n : ℕ) → Node → List ℕ
node_quadlets n x = with_inverses (node_packets n x.fields x.marks)

-- The marks that ports tell of, and how many words the packets of a row's node take.
abbrev pub marks_told : List RowPort → List Mark
marks_told ports = map (λ p. mark_in p.mark) ports

abbrev pub words_told : Row → ℕ
words_told r = 2 * suc (length (extensions extension_limit 0 0 (drop 3 (marks_told r.ports))))

-- The first down port among some ports, the first of which is port i: its child's row, and the number of the port behind it.
abbrev pub down_from : (i : ℕ) → List RowPort → Option Found
down_from i [] = None
down_from i (p ∷ rest) = cond (is_down p) (Some (record { child = p.child; next = i + 1 })) (down_from (i + 1) rest)
