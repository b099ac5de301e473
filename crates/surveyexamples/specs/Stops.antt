-- Stops as they are seen: by number and place.
use Rattle.std.specs.Prelude.{ℕ, Result, Ok, Err}
use Rattle.stops.specs.declared.QuadletStop.{QuadletStop}
use Rattle.stops.specs.declared.Cause.{Cause}
use Rattle.stops.specs.Numbers.{quadlet_number, quadlet_place, cause_number, cause_place}
use Rattle.surveyexamples.specs.declared.seen.Stop.{Stop}

-- A stop with this number and place.
abbrev pub stop_at : (number place : ℕ) → Stop
stop_at z p = record { number = z; place = p }

-- The stop of a quadlet that is turned away, and the cause of a void record.
abbrev pub seen_stop : QuadletStop → Stop
seen_stop s = stop_at (quadlet_number s) (quadlet_place s)

abbrev pub seen_cause : Cause → Stop
seen_cause k = stop_at (cause_number k) (cause_place k)

-- What is seen: a bus of so many nodes, or a stop.
abbrev pub Seen : Type 0
Seen = Result ℕ Stop

-- One of each, by its numbers.
abbrev pub bus_of : ℕ → Seen
bus_of nodes = Ok nodes

abbrev pub stopped : (number place : ℕ) → Seen
stopped z p = Err (stop_at z p)
