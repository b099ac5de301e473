use Rattle.std.proofs.Common.{◌≡◌, ◌/◌, ◌^◌, arith, rules}
use Rattle.std.proofs.lemmas.Bool.{eqb-true, eqb-false, eq-eqb, ne_eqb}
use Rattle.selfid.specs.Reading.{bits}
use Rattle.selfid.proofs.Trips.{zero_again, extension_again}
use Rattle.selfid.proofs.packet.Packet.decode.Goals as goal

pub returns-then-is_set : goal.returns-then-is_set
returns-then-is_set c =
    let q = c.args.word in
    let top : q / 2 ^ 30 ≡ 2 = omega (arith, c.field.ensures.is_the_number_in_these_bits) in
    let kind : bits 23 23 q ≡ 1 = eqb-true (bits 23 23 q) 1 (search rules) in
    record {
      is_the_packet_in_it = search rules;
      encodes_to_the_word = rw c.decode_extension.ensures.is_the_extension_read (extension_again q (search rules) top kind);
    }

pub returns-else-is_set : goal.returns-else-is_set
returns-else-is_set c =
    let q = c.args.word in
    let top : q / 2 ^ 30 ≡ 2 = omega (arith, c.field.ensures.is_the_number_in_these_bits) in
    let kind : bits 23 23 q ≡ 0 = omega (arith, eqb-false (bits 23 23 q) 1 (search rules)) in
    record {
      is_the_packet_in_it = simp (eq-eqb (q / 2 ^ 30) 2 top, ne_eqb (bits 23 23 q) 1 (λ e. omega arith)) c.decode_zero.ensures.is_the_packet_zero_read;
      encodes_to_the_word = rw c.decode_zero.ensures.is_the_packet_zero_read (zero_again q (search rules) top kind);
    }
