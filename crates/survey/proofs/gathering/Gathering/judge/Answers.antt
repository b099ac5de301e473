use Rattle.std.proofs.Common.{Some, None, sym, ◌∙◌}
use Rattle.std.proofs.lemmas.Result.{err_from_is_err_and}
use Rattle.survey.proofs.Gatherings.{quadlets_of, verdict_of, due_inverse}
use Rattle.survey.proofs.Judgement.{verdict_whole, verdict_inverse, verdict_not_inverse}
use Rattle.survey.proofs.gathering.Gathering.judge.Goals as goal

pub returns-then-is_whole-clause-is_the_verdict : goal.returns-then-is_whole-clause-is_the_verdict
returns-then-is_whole-clause-is_the_verdict c =
    let g = c.args.self.now in
    verdict_whole (quadlets_of g) c.args.quadlet g.begins (sym c.if-is_whole.ensures.tells_if_it_is)

pub returns-then-quadlet-inverse-clause-is_the_verdict : goal.returns-then-quadlet-inverse-clause-is_the_verdict
returns-then-quadlet-inverse-clause-is_the_verdict c =
    let g = c.args.self.now in
    let d = c.if-inverse_is_due.ensures.tells_if_it_is in
    let e = due_inverse g _ _ _ c.deref.ensures.0 c.len.ensures.value d c.inverse.ensures.is_the_bitwise_inverse in
    verdict_inverse (quadlets_of g) c.args.quadlet g.begins (sym c.if-is_whole.ensures.tells_if_it_is) (sym d) (c.if-quadlet-inverse.true ∙ e)

pub returns-then-inverse_is_due-clause-is_the_verdict : goal.returns-then-inverse_is_due-clause-is_the_verdict
returns-then-inverse_is_due-clause-is_the_verdict c =
    let g = c.args.self.now in
    let d = c.if-inverse_is_due.ensures.tells_if_it_is in
    let e = due_inverse g _ _ _ c.deref.ensures.0 c.len.ensures.value d c.inverse.ensures.is_the_bitwise_inverse in
    verdict_not_inverse (quadlets_of g) c.args.quadlet (sym c.if-is_whole.ensures.tells_if_it_is) (sym d) (λ f. c.if-quadlet-inverse.false (f ∙ sym e))

pub returns-clause-is_the_verdict : goal.returns-clause-is_the_verdict
returns-clause-is_the_verdict c = verdict_of c.args.self.now c.args.quadlet None c.if-is_whole.ensures.tells_if_it_is c.if-inverse_is_due.ensures.tells_if_it_is c.in_ok-packet.ensures.is_the_first_flaw

pub returns-in_err-packet-clause-is_the_verdict : goal.returns-in_err-packet-clause-is_the_verdict
returns-in_err-packet-clause-is_the_verdict c =
    let p = err_from_is_err_and c.from_residual.result c.from_residual.ensures.1 in
    rw (p.1, p.2) (verdict_of c.args.self.now c.args.quadlet (Some c.in_err-packet.field-0.0) c.if-is_whole.ensures.tells_if_it_is c.if-inverse_is_due.ensures.tells_if_it_is c.in_err-packet.ensures.is_the_first_flaw)
