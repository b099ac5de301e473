use Rattle.std.proofs.Common.{◌*◌, ap, ◌∙◌, sym}
use Rattle.announce.proofs.Lengths.{packet_count, read_back}
use Rattle.announce.proofs.writing.words_of.Goals as goal

pub returns-clause-counts_them : goal.returns-clause-counts_them
returns-clause-counts_them c =
    ap (λ n. 2 * n) (c.count_packets.ensures.counts_packet_zero_and_the_extensions ∙ ap packet_count (sym (read_back _ c.node_of.result.marks c.node_of.ensures.is_told_by_the_row.marks)))
