use Rattle.survey.proofs.Leads.{rows_led_set}
use Rattle.survey.proofs.joining.lead.Goals as goal

pub returns : goal.returns
returns c = record { leads_there = rw (c.from.ensures, c.from-2.ensures) (rows_led_set c.args.rows.now c.args.near.node c.args.near.port c.args.far _ _) }
