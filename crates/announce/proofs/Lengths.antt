-- How many quadlets rows announce: each node sends the packets that its row tells of.
use Rattle.std.proofs.Common.{◌≡◌, ℕ, zero, suc, ◌+◌, ◌*◌, ◌≤◌, List, [], ◌∷◌, map, length, get_or, take, drop, sum_by, sym, refl, ap, add-one, ◌∙◌, arith, length-append}
use Rattle.std.proofs.lemmas.List.{take_all}
use Rattle.std.proofs.lemmas.Simd.{map-map}
use Rattle.std.proofs.lemmas.List.Sums.{sum_by-append, sum_by-cons, sum_by_more}
use Rattle.selfid.specs.declared.mark.Mark.{Mark}
use Rattle.selfid.specs.Reading.{mark_in}
use Rattle.selfid.specs.Nodes.{extensions, node_packets}
use Rattle.selfid.specs.Cabling.{Cabling, node, Ports, end, plain, down, marks_of, size, size_below}
use Rattle.selfid.specs.Announcement.{packets_from, packets_below, packets, announcement}
use Rattle.announce.specs.declared.described.Row.{Row}
use Rattle.announce.specs.declared.described.RowPort.{RowPort}
use Rattle.announce.specs.Description.{ports_at, DescribesAt, DescribePorts, rows_of, rows_below, Describes}
use Rattle.announce.specs.Rows.{HaveMarks}
use Rattle.announce.proofs.Marked.{codes_back}
use Rattle.announce.proofs.Times.{sum_by_each, total}
use Rattle.announce.proofs.Putting.{length_pairs, same_count}
use Rattle.announce.specs.Writing.{marks_told, words_told}
use Rattle.announce.proofs.Told.{no_row, ports_here}
use Rattle.announce.proofs.Trees.{marks_told as marks_of_told, rows_small}

-- The marks that have these ports' codes.
pub read_back : (ports : List RowPort) (ms : List Mark) → HaveMarks ports ms → marks_told ports ≡ ms
read_back ports ms e = sym (map-map mark_in (λ p. p.mark) ports) ∙ ap (map mark_in) e ∙ codes_back ms

-- How many packets a node with these marks sends, and the node of row i.
abbrev pub packet_count : List Mark → ℕ
packet_count ms = suc (length (extensions 2 0 0 (drop 3 ms)))

abbrev pub packets_at : List Row → ℕ → ℕ
packets_at rows i = packet_count (marks_told (ports_at rows i))

module _ (rows : List Row) where
  mutual
    count_from : (c : Cabling) (i n : ℕ) → DescribesAt rows i c → length (packets_from n c) ≡ sum_by (packets_at rows) (rows_of rows i c)
    count_from (node x ps) i n d =
        let own = same_count 2 (n + size_below ps) 0 0 0 (drop 3 (marks_of ps)) in
        let told = ap packet_count (read_back (ports_at rows i) (marks_of ps) (marks_of_told rows ps (ports_at rows i) d.1)) in
        omega (arith, length-append (packets_below n ps) (node_packets (n + size_below ps) x (marks_of ps)), own, told, sum_by-cons (packets_at rows) i (rows_below rows ps (ports_at rows i)), count_below ps (ports_at rows i) n d.1)

    count_below : (ps : Ports) (ports : List RowPort) (n : ℕ) → DescribePorts rows ps ports → length (packets_below n ps) ≡ sum_by (packets_at rows) (rows_below rows ps ports)
    count_below end ports n d = refl
    count_below (plain k ps) [] n d = absurd d
    count_below (plain k ps) (p ∷ rest) n d = count_below ps rest n d.1
    count_below (down c ps) [] n d = absurd d
    count_below (down c ps) (p ∷ rest) n d =
        omega (arith, length-append (packets_from n c) (packets_below (n + size c) ps), sum_by-append (packets_at rows) (rows_of rows p.child c) (rows_below rows ps rest), count_from c p.child n d.1, count_below ps rest (n + size c) d.2)

  pub length_announced : (c : Cabling) → Describes rows c → length (announcement c) ≡ 2 * total (packets_at rows) (length rows)
  length_announced c t =
      omega (arith, length_pairs (packets c), count_from c 0 0 t.root, sum_by_each (packets_at rows) (rows_of rows 0 c) (length rows) (rows_small rows c 0 t.root) t.each_once)

-- The sum over the rows.
sum_so_far : (rows : List Row) (i : ℕ) → i ≤ length rows → sum_by words_told (take i rows) ≡ 2 * total (packets_at rows) i
sum_so_far rows zero h = refl
sum_so_far rows (suc i) h =
    let here = ap (λ ports. packet_count (marks_told ports)) (ports_here rows i no_row (omega arith)) in
    let more : sum_by words_told (take (suc i) rows) ≡ sum_by words_told (take i rows) + words_told (get_or rows i no_row) = ap (λ n. sum_by words_told (take n rows)) (sym (add-one i)) ∙ sum_by_more words_told rows i no_row (omega arith) in
    omega (arith, more, here, sum_so_far rows i (omega arith))

pub needed : (rows : List Row) (c : Cabling) → Describes rows c → sum_by words_told rows ≡ length (announcement c)
needed rows c t = ap (sum_by words_told) (sym (take_all (length rows) rows (omega arith))) ∙ sum_so_far rows (length rows) (omega arith) ∙ sym (length_announced rows c t)
