use Rattle.std.proofs.Common.{◌<◌, IfSome, ◌∙◌, subst, arith}
use Rattle.trace.proofs.Values.{room_left, one_digit_more, value_more}
use Rattle.trace.proofs.lines.read_word.Goals as goal

pub overflow_mul-value : goal.overflow_mul-value
overflow_mul-value c =
    omega (arith, room_left c.args.digits.now c.loop-byte.byte-index c.loop-byte.value c.requires.are_eight_digits c.loop-byte-test.true c.loop-byte.invariant.1)

below_16 : (c : goal.After-from) → c.from.result < 16
below_16 c = rw c.from.ensures (subst (λ o. IfSome o (λ d. d < 16)) c.unwrap.ensures c.digit_value.ensures.is_below_16)

pub overflow_add-value : goal.overflow_add-value
overflow_add-value c =
    omega (arith, below_16 c, room_left c.args.digits.now c.loop-byte.byte-index c.loop-byte.value c.requires.are_eight_digits c.loop-byte-test.true c.loop-byte.invariant.1)

pub loop-byte-preserved : goal.loop-byte-preserved
loop-byte-preserved c = (
  value_more c.args.digits.now c.loop-byte.byte-index c.loop-byte.value c.from.result c.loop-byte-test.true (cc) ∙ c.loop-byte.invariant.0,
  one_digit_more c.loop-byte.value c.loop-byte.byte-index c.from.result (below_16 c) c.loop-byte.invariant.1,
)
