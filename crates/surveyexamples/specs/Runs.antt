-- What the program answers when it offers quadlets.
use Rattle.std.specs.Prelude.{◌≡◌, ℕ, List, [], Result}
use Rattle.stops.specs.declared.QuadletStop.{QuadletStop}
use Rattle.survey.specs.Views.{Gathered}
use Rattle.surveyexamples.specs.Stops.{Seen}
use Rattle.surveyexamples.specs.Examples.{SeesAnswer, SeesFrom}

-- The quadlets qs are offered to g, which answers a and is then h: what is seen of qs from g on is the stop in a, or is what h settles to.
abbrev pub OfferCall : (g : Gathered) (qs : List ℕ) → Result (Unit {0}) QuadletStop → (h : Gathered) → Type 0
OfferCall g qs a h = (s : Seen) → SeesFrom g qs s → SeesAnswer a (SeesFrom h [] s) s

-- What is seen of qs from g on is r.
abbrev pub SeeCall : (g : Gathered) (qs : List ℕ) (r : Seen) → Type 0
SeeCall g qs r = (s : Seen) → SeesFrom g qs s → r ≡ s
