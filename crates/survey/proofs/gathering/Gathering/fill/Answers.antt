use Rattle.std.proofs.Common.{rules, ◌≡◌, Ok, Err, Some, sym, ◌∙◌, arith}
use Rattle.stops.specs.declared.QuadletStop.{QuadletStop}
use Rattle.stops.specs.declared.FillStop.TheVariants.{Survey}
use Rattle.survey.proofs.Fills.{far_start, far_few, far_more, far_turned_away}
use Rattle.survey.proofs.gathering.Gathering.fill.Goals as goal

pub loop-quadlet-init : goal.loop-quadlet-init
loop-quadlet-init g c = far_start _ _ _ c.in_default.is

pub returns-in_err-map_err : goal.returns-in_err-map_err
returns-in_err-map_err g c =
    let drawn : c.draw.result ≡ Ok (Some c.in-Some-2.quadlet) = search rules in
    let stopped : (z : QuadletStop) × (c.quadlet.result ≡ Err z) × (c.from_residual-in_err-map_err.result ≡ Err (Survey c.loop-quadlet.taken z)) = search rules in
    let d = c.draw.ensures in
    let (z, away, answer) = stopped in
    let call = rw away at c.quadlet.ensures.takes_it_or_turns_it_away in
    rw answer (record { offers_what_it_draws_and_counts_what_it_takes = far_turned_away c.loop-quadlet.invariant c.in-Some-2.quadlet _ _ z _ (sym drawn ∙ d.gives_the_first_or_the_ending) d.leaves_the_others d.keeps_the_ending call })

pub overflow_add-taken : goal.overflow_add-taken
overflow_add-taken g c = record { fits = omega (arith, far_few c.loop-quadlet.self c.loop-quadlet.invariant) }

pub loop-quadlet-preserved : goal.loop-quadlet-preserved
loop-quadlet-preserved g c =
    let drawn : c.draw.result ≡ Ok (Some c.in-Some-2.quadlet) = search rules in
    let answered : c.quadlet.result ≡ Ok tt = search rules in
    let d = c.draw.ensures in
    let call = rw answered at c.quadlet.ensures.takes_it_or_turns_it_away in
    far_more c.loop-quadlet.invariant c.in-Some-2.quadlet _ _ _ (sym drawn ∙ d.gives_the_first_or_the_ending) d.leaves_the_others d.keeps_the_ending call
