-- Offering a quadlet: what a gathering answers, and what it is then.
use Rattle.std.specs.Prelude.{◌≡◌, ℕ, [], ◌∷◌, ◌++◌, length, Some, None, Ok, Err, Result}
use Rattle.stops.specs.declared.Spoil.{Spoil}
use Rattle.stops.specs.declared.QuadletStop.{QuadletStop}
use Rattle.stops.specs.declared.QuadletStop.TheVariants.{Flawed, Spoiled}
use Rattle.judging.specs.Tests.{Verdict}
use Rattle.survey.specs.Views.{Gathered, gathered_with}

-- The quadlet q is taken: no test turns it away, and the gathering has it behind the others.
pub record Taken (g : Gathered) (q : ℕ) (h : Gathered) : Type 0 where
  pub unspoiled : g.spoil ≡ None
  pub passes : Verdict g.taken q None
  pub then : h ≡ gathered_with (g.taken ++ (q ∷ [])) None

-- It is turned away: its flaw is the first test that applies, the place is the count taken, and the gathering is spoiled and otherwise as before.
pub record TurnedAway (g : Gathered) (q : ℕ) (s : Spoil) (h : Gathered) : Type 0 where
  pub unspoiled : g.spoil ≡ None
  pub fails : Verdict g.taken q (Some s.flaw)
  pub place : s.place ≡ length g.taken
  pub then : h ≡ gathered_with g.taken (Some s)

-- It is turned away by a gathering that was spoiled before, at place p, and stays as it is.
pub record AlreadySpoiled (g : Gathered) (p : ℕ) (h : Gathered) : Type 0 where
  pub by : Spoil
  pub spoiled : g.spoil ≡ Some by
  pub place : p ≡ by.place
  pub then : h ≡ g

-- Quadlet: q is offered to g, which answers a and is then h.
abbrev pub QuadletCall : Gathered → (q : ℕ) → Result (Unit {0}) QuadletStop → Gathered → Type 0
QuadletCall g q (Ok _) h = Taken g q h
QuadletCall g q (Err (Flawed s)) h = TurnedAway g q s h
QuadletCall g q (Err (Spoiled p)) h = AlreadySpoiled g p h
