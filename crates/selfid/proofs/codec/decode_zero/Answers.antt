use Rattle.std.proofs.Common.{◌≡◌, ℕ, false, eqb, Some, None, Ok, sym, ap, ◌∙◌, arith, rules}
use Rattle.std.proofs.lemmas.Bool.{eq-eqb, ne_eqb}
use Rattle.selfid.specs.declared.packet.Packet.TheVariants.{Zero}
use Rattle.selfid.specs.Speeds.{speed_of}
use Rattle.selfid.specs.Reading.{bits, zero_in}
use Rattle.selfid.proofs.Same.{same_zero}
use Rattle.selfid.proofs.codec.decode_zero.Goals as goal

pub returns : goal.returns
returns c =
    let q = c.args.word in
    let read : speed_of c.field-2.result ≡ Some c.in_ok-speed.speed = search rules in
    let clear : bits 13 12 q ≡ 0 = omega (arith, c.field.ensures.is_the_number_in_these_bits) in
    let fast : eqb (bits 15 14 q) 3 ≡ false =
    ne_eqb (bits 15 14 q) 3 (λ e. let none : Some c.in_ok-speed.speed ≡ None = sym read ∙ ap speed_of (c.field-2.ensures.is_the_number_in_these_bits ∙ e) in let z : ◌≡◌ {A = ℕ} 0 1 = cc in omega arith) in
    record { is_the_packet_zero_read = simp (eq-eqb (bits 13 12 q) 0 clear, fast) (ap (λ p. Ok (Zero p)) (same_zero _ (zero_in q) c.field-3.ensures.is_the_number_in_these_bits c.fields_in.ensures.are_the_fields_in_it c.marks_in.ensures.are_the_marks_in_these_pairs c.is_set.ensures.tells_if_it_is)) }
