use Rattle.std.proofs.Common.{refl, arith}
use Rattle.std.proofs.lemmas.Nat.{and_mask, one_shl}
use Rattle.selfid.proofs.codec.field.Goals as goal

pub returns : goal.returns
returns c = record { is_the_number_in_these_bits = rw (one_shl c.args.width 32 (omega (arith, c.requires.shifts_fit.1)), and_mask _ c.args.width) refl }
