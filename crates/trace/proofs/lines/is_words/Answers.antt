use Rattle.std.proofs.Common.{is_some, sym, ap, ◌∙◌, arith, rules}
use Rattle.std.proofs.lemmas.List.{at_drop_all}
use Rattle.std.proofs.lemmas.Bool.{eq-eqb, ne_eqb}
use Rattle.trace.proofs.Pieces.{goes_on, goes_on_is, on_space, on_other}
use Rattle.trace.proofs.lines.is_words.Goals as goal
use Rattle.trace.proofs.lines.is_words.Goals.{in-32+else-digits-ne8, in_default+else-is_none}

pub loop-byte-init : goal.loop-byte-init
loop-byte-init c = (goes_on_is c.args.line.now, omega arith)

pub returns-then-digits-ne8 : goal.returns-then-digits-ne8
returns-then-digits-ne8 c =
    record { tells_if_it_is = sym (on_space c.loop-byte.digits c.args.line.now c.loop-byte.byte-index c.loop-byte-test.true c.in-32.is _ (ne_eqb _ _ c.if-digits-ne8.true)) ∙ c.loop-byte.invariant.0 }

pub returns-then-is_none : goal.returns-then-is_none
returns-then-is_none c =
    record { tells_if_it_is = sym (on_other c.loop-byte.digits c.args.line.now c.loop-byte.byte-index c.loop-byte-test.true (search rules) _ (sym (ap is_some c.digit_value.ensures.is_the_value_of_a_digit) ∙ c.if-is_none.ensures)) ∙ c.loop-byte.invariant.0 }

pub loop-byte-preserved : goal.loop-byte-preserved
loop-byte-preserved c = elim c.match-byte.branch [
  | in-32+else-digits-ne8 w ↦ (
    rw w.digits-is (sym (on_space c.loop-byte.digits c.args.line.now c.loop-byte.byte-index c.loop-byte-test.true w.in-32.is _ (eq-eqb _ _ w.if-digits-ne8.false)) ∙ c.loop-byte.invariant.0),
    omega (arith, w.digits-is),
  )
  | in_default+else-is_none w ↦ (
    rw w.digits-is (sym (on_other c.loop-byte.digits c.args.line.now c.loop-byte.byte-index c.loop-byte-test.true (search rules) _ (sym (ap is_some w.digit_value.ensures.is_the_value_of_a_digit) ∙ w.if-is_none.ensures)) ∙ c.loop-byte.invariant.0),
    omega (arith, w.digits-is, c.loop-byte.invariant.1),
  )
]

pub returns : goal.returns
returns c = record { tells_if_it_is = sym (at_drop_all (goes_on c.loop-byte.digits) c.args.line.now c.loop-byte.byte-index c.loop-byte-test.false) ∙ c.loop-byte.invariant.0 }
