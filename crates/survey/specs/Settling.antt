-- Settling: what a gathering turns into.
use Rattle.std.specs.Prelude.{◌≡◌, ℕ, ◌⊎◌, List, length, Some, None, Option}
use Rattle.stops.specs.declared.Spoil.{Spoil}
use Rattle.stops.specs.declared.Cause.TheVariants.{SpoiledBy, NotWhole}
use Rattle.selfid.specs.Cabling.{Cabling, size}
use Rattle.judging.specs.Beginnings.{Announces, Begins, Unannounced}
use Rattle.survey.specs.Nodes.{nodes_of}
use Rattle.survey.specs.Views.{Gathered, Shown, bus, void}

-- The record shows the cabling c: its nodes are those of c, and they are as many.
pub record Shows (s : Shown) (c : Cabling) : Type 0 where
  pub nodes : s ≡ bus (nodes_of c)
  pub count : length (nodes_of c) ≡ size c

-- What was taken is the whole announcement of one cabling, and the record shows it.
pub record SettledBus (qs : List ℕ) (s : Shown) : Type 0 where
  pub cabling : Cabling
  pub announces : Announces cabling qs
  pub only : (c : Cabling) → Announces c qs → c ≡ cabling
  pub shows : Shows s cabling

-- What was taken is no whole announcement, and the record is void with 32 and the count taken.
pub record SettledEarly (qs : List ℕ) (s : Shown) : Type 0 where
  pub none_announces : Unannounced qs
  pub begins : Begins qs
  pub cause : s ≡ void (NotWhole (length qs))

-- Settle: g turns into the record s. A spoiled one is void with what spoiled it.
abbrev pub SettledAfter : Option Spoil → (qs : List ℕ) → Shown → Type 0
SettledAfter (Some k) qs s = s ≡ void (SpoiledBy k)
SettledAfter None qs s = SettledBus qs s ⊎ SettledEarly qs s

abbrev pub SettleCall : Gathered → Shown → Type 0
SettleCall g s = SettledAfter g.spoil g.taken s
