-- What gatherings and records stand for.
use Rattle.std.specs.Prelude.{ℕ, List, [], None, Ok, Err, Option, Result}
use Rattle.arrayvec.specs.ArrayVec.{ArrayVec}
use Rattle.stops.specs.declared.Spoil.{Spoil}
use Rattle.stops.specs.declared.Cause.{Cause}
use Rattle.survey.specs.declared.row.Row.{Row}
use Rattle.survey.specs.declared.gathering.Gathering.{Gathering}
use Rattle.survey.specs.declared.record.Record.{Record}

-- A gathering stands for the quadlets taken since the last reset, and for what spoiled it, if anything did.
pub record Gathered : Type 0 where
  pub taken : List ℕ
  pub spoil : Option Spoil

abbrev pub gathered_with : List ℕ → Option Spoil → Gathered
gathered_with qs s = record { taken = qs; spoil = s }

abbrev pub gathered : Gathering → Gathered
gathered g = gathered_with g.quadlets.items g.spoil

abbrev pub nothing_offered : Gathered
nothing_offered = gathered_with [] None

-- A record stands for the bus that it shows, by its nodes in the order of their numbers, or it is void for a cause.
pub data Shown : Type 0 where
  bus : List Row → Shown
  void : Cause → Shown

abbrev pub shown_of : Result (ArrayVec Row) Cause → Shown
shown_of (Ok rows) = bus rows.items
shown_of (Err k) = void k

abbrev pub shown : Record → Shown
shown r = shown_of r.bus
