-- What the words that a trace records behind a reset come to.
use Rattle.std.specs.Prelude.{◌≡◌, ℕ, ⊤, List, Some, None, Ok, Err, Option, Result}
use Rattle.source.specs.declared.SourceStop.{SourceStop}
use Rattle.stops.specs.declared.FillStop.{FillStop}
use Rattle.stops.specs.declared.FillStop.TheVariants.{Survey, Source}
use Rattle.survey.specs.Views.{Gathered, nothing_offered, Shown}
use Rattle.survey.specs.Settling.{SettleCall}
use Rattle.survey.specs.Filling.{FillCall}

-- The stop of the source that ended a fill, if that ended it.
abbrev pub stop_of : Result ℕ FillStop → Option SourceStop
stop_of (Ok n) = None
stop_of (Err (Survey n s)) = None
stop_of (Err (Source n s)) = Some s

-- The record s of these words, and the stop of their source: a gathering to which nothing was offered is filled from a source in which they wait, and then settled.
pub record Surveyed (words : List ℕ) (e : Result ⊤ SourceStop) (s : Shown) (stop : Option SourceStop) : Type 0 where
  pub answer : Result ℕ FillStop
  pub left : List ℕ
  pub after : Result ⊤ SourceStop
  pub gathering : Gathered
  pub fills : FillCall nothing_offered words e answer left after gathering
  pub settles : SettleCall gathering s
  pub stops : stop ≡ stop_of answer
