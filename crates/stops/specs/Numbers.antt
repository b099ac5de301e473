-- The number of each stop, and its place, count and layer where it has them.
use Rattle.std.specs.Prelude.{ℕ}
use Rattle.stops.specs.declared.QuadletStop.{QuadletStop}
use Rattle.stops.specs.declared.QuadletStop.TheVariants.{Flawed, Spoiled}
use Rattle.stops.specs.declared.Cause.{Cause}
use Rattle.stops.specs.declared.Cause.TheVariants.{SpoiledBy, NotWhole}
use Rattle.stops.specs.declared.QuestionStop.{QuestionStop}
use Rattle.stops.specs.declared.QuestionStop.TheVariants.{NoneSuch, Void}
use Rattle.stops.specs.declared.Layer.{Layer}
use Rattle.stops.specs.declared.Layer.TheVariants.{Survey as OfSurvey, Source as OfSource}
use Rattle.stops.specs.declared.FillStop.{FillStop}
use Rattle.stops.specs.declared.FillStop.TheVariants.{Survey, Source}
use Rattle.judging.specs.Stops.{flaw_number}

-- A quadlet's stop: 1 to 11 for its flaw, or 31 where the gathering is spoiled; the place is that of the spoiling quadlet.
abbrev pub quadlet_number : QuadletStop → ℕ
quadlet_number (Flawed s) = flaw_number s.flaw
quadlet_number (Spoiled p) = 31

abbrev pub quadlet_place : QuadletStop → ℕ
quadlet_place (Flawed s) = s.place
quadlet_place (Spoiled p) = p

-- A void record's cause: what spoiled the gathering, or 32 and the count taken.
abbrev pub cause_number : Cause → ℕ
cause_number (SpoiledBy s) = flaw_number s.flaw
cause_number (NotWhole n) = 32

abbrev pub cause_place : Cause → ℕ
cause_place (SpoiledBy s) = s.place
cause_place (NotWhole n) = n

-- A question's stop has no place.
abbrev pub question_number : QuestionStop → ℕ
question_number NoneSuch = 12
question_number Void = 33

-- A fill's stop: the count taken, the layer, and the number and place of what stopped it.
abbrev pub fill_count : FillStop → ℕ
fill_count (Survey n s) = n
fill_count (Source n s) = n

abbrev pub fill_layer : FillStop → Layer
fill_layer (Survey n s) = OfSurvey
fill_layer (Source n s) = OfSource

abbrev pub fill_number : FillStop → ℕ
fill_number (Survey n s) = quadlet_number s
fill_number (Source n s) = s.number

abbrev pub fill_place : FillStop → ℕ
fill_place (Survey n s) = quadlet_place s
fill_place (Source n s) = s.place
