-- Fill: quadlets are drawn from a source and offered, one after another.
use Rattle.std.specs.Prelude.{⊤, ◌≡◌, ℕ, List, [], ◌∷◌, ◌++◌, length, None, Ok, Err, Result}
use Rattle.source.specs.declared.SourceStop.{SourceStop}
use Rattle.stops.specs.declared.Spoil.{Spoil}
use Rattle.stops.specs.declared.QuadletStop.TheVariants.{Flawed, Spoiled}
use Rattle.stops.specs.declared.FillStop.{FillStop}
use Rattle.stops.specs.declared.FillStop.TheVariants.{Survey, Source}
use Rattle.judging.specs.Tests.{Verdict}
use Rattle.survey.specs.Views.{Gathered, gathered_with}
use Rattle.survey.specs.Offering.{TurnedAway, AlreadySpoiled}

-- After qs each of these quadlets is taken, one after another.
abbrev pub EachPasses : (qs : List ℕ) → List ℕ → Type 0
EachPasses qs [] = Unit {0}
EachPasses qs (q ∷ more) = Verdict qs q None × EachPasses (qs ++ (q ∷ [])) more

-- All quadlets drawn were taken, n of them.
pub record AllTaken (g : Gathered) (drawn : List ℕ) (n : ℕ) (h : Gathered) : Type 0 where
  pub unspoiled : g.spoil ≡ None
  pub each_passes : EachPasses g.taken drawn
  pub count : n ≡ length drawn
  pub then : h ≡ gathered_with (g.taken ++ drawn) None

-- All quadlets drawn but the last were taken, n of them, and the last was turned away.
pub record LastTurnedAway (g : Gathered) (drawn : List ℕ) (n : ℕ) (s : Spoil) (h : Gathered) : Type 0 where
  pub front : List ℕ
  pub quadlet : ℕ
  pub parts : drawn ≡ front ++ (quadlet ∷ [])
  pub before : AllTaken g front n (gathered_with (g.taken ++ front) None)
  pub turned_away : TurnedAway (gathered_with (g.taken ++ front) None) quadlet s h

-- None was drawn, since the gathering was spoiled before.
pub record NoneDrawn (g : Gathered) (drawn : List ℕ) (n p : ℕ) (h : Gathered) : Type 0 where
  pub none : drawn ≡ []
  pub count : n ≡ 0
  pub spoiled : AlreadySpoiled g p h

-- That the fill answers a, where it drew these quadlets, those still wait, and the source ends with e.
abbrev pub Filled : Gathered → (drawn waiting : List ℕ) → Result ⊤ SourceStop → Result ℕ FillStop → Gathered → Type 0
Filled g drawn waiting e (Ok n) h = AllTaken g drawn n h × (waiting ≡ []) × (e ≡ Ok tt)
Filled g drawn waiting e (Err (Source n s)) h = AllTaken g drawn n h × (waiting ≡ []) × (e ≡ Err s)
Filled g drawn waiting e (Err (Survey n (Flawed s))) h = LastTurnedAway g drawn n s h
Filled g drawn waiting e (Err (Survey n (Spoiled p))) h = NoneDrawn g drawn n p h

-- The gathering g is filled from a source in which `before` waits: the quadlets drawn left the list from its front, and the ending stays.
pub record FillCall (g : Gathered) (before : List ℕ) (e : Result ⊤ SourceStop) (a : Result ℕ FillStop) (after : List ℕ) (e' : Result ⊤ SourceStop) (h : Gathered) : Type 0 where
  pub drawn : List ℕ
  pub parts : before ≡ drawn ++ after
  pub same_ending : e' ≡ e
  pub filled : Filled g drawn after e a h
