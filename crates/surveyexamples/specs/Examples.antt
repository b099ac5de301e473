-- Worked examples: a few rows of quadlets, and what a survey sees of each.
use Rattle.std.specs.Prelude.{◌≡◌, ℕ, zero, suc, ◌+◌, ◌*◌, List, [], ◌∷◌, ◌++◌, length, Ok, Err, Result}
use Rattle.stops.specs.declared.QuadletStop.{QuadletStop}
use Rattle.surveyexamples.specs.Stops.{Seen, bus_of, stopped, seen_cause, seen_stop}
use Rattle.selfid.specs.Packets.{with_inverses}
use Rattle.survey.specs.Views.{Gathered, nothing_offered, Shown, bus, void}
use Rattle.survey.specs.Offering.{QuadletCall}
use Rattle.survey.specs.Settling.{SettleCall}

-- What a record shows: a bus of so many nodes, or a stop with its number and place.
abbrev pub seen_in : Shown → Seen
seen_in (bus rows) = bus_of (length rows)
seen_in (void cause) = Err (seen_cause cause)

-- What is seen once a quadlet is answered: it is taken, and `further` says what is seen from there on; or it is turned away, and its stop is seen.
abbrev pub SeesAnswer : Result (Unit {0}) QuadletStop → (further : Type 0) → (s : Seen) → Type 0
SeesAnswer (Ok _) further s = further
SeesAnswer (Err z) further s = s ≡ Err (seen_stop z)

-- From the gathering g on, the quadlets are offered one after another, and s is seen, whatever the calls answer as their contracts allow:
-- in the record to which the gathering settles, or in the stop of the first quadlet that is turned away.
abbrev pub SeesFrom : (g : Gathered) → List ℕ → (s : Seen) → Type 0
SeesFrom g [] s = (r : Shown) → SettleCall g r → seen_in r ≡ s
SeesFrom g (q ∷ qs) s = (a : Result (Unit {0}) QuadletStop) (h : Gathered) → QuadletCall g q a h → SeesAnswer a (SeesFrom h qs s) s

-- The quadlets are offered after a reset, and s is seen.
abbrev pub Sees : List ℕ → (s : Seen) → Type 0
Sees qs s = SeesFrom nothing_offered qs s

pub record Example : Type 0 where
  pub offer : List ℕ
  pub sees : Seen

abbrev pub AllSeen : List Example → Type 0
AllSeen [] = Unit {0}
AllSeen (e ∷ es) = Sees e.offer e.sees × AllSeen es

abbrev pub example : List ℕ → Seen → Example
example qs s = record { offer = qs; sees = s }

abbrev pub examples : List Example
examples =
    -- nothing is offered: not whole
    example [] (stopped 32 0)
    -- a lone node
    ∷ example (0x807F8856 ∷ 0x7F8077A9 ∷ []) (bus_of 1)
    -- its inverse with bit 0 turned
    ∷ example (0x807F8856 ∷ 0x7F8077A8 ∷ []) (stopped 2 1)
    -- a quadlet behind a whole announcement
    ∷ example (0x807F8856 ∷ 0x7F8077A9 ∷ 0x00000000 ∷ []) (stopped 1 2)
    -- speed code 3
    ∷ example (0x807FC856 ∷ []) (stopped 4 0)
    -- an extension with absent marks only
    ∷ example (0x807F4481 ∷ 0x7F80BB7E ∷ 0x80800000 ∷ []) (stopped 7 2)
    -- a root with two down marks and no loose end
    ∷ example (0x807F88DE ∷ []) (stopped 9 0)
    -- a root with one down mark and two loose ends
    ∷ example (0x807F4480 ∷ 0x7F80BB7F ∷ 0x817F8460 ∷ 0x7E807B9F ∷ 0x827F8876 ∷ []) (stopped 10 4)
    ∷ []

-- The tests that none of these meets.
abbrev pub further_examples : List Example
further_examples =
    -- bits 31-30 are not binary 10
    example (0x407F8856 ∷ []) (stopped 3 0)
    -- a second node that calls itself node 0
    ∷ example (0x807F4480 ∷ 0x7F80BB7F ∷ 0x807F4480 ∷ []) (stopped 5 2)
    -- an extension where packet zero is due
    ∷ example (0x80810000 ∷ []) (stopped 6 0)
    -- two up marks
    ∷ example (0x807F44A0 ∷ []) (stopped 8 0)
    ∷ []

-- Leaves: nodes with an up mark on port 0 and no other cable; k of them from number i on.
abbrev pub leaf_word : (number : ℕ) → ℕ
leaf_word i = 0x807F4480 + i * 0x01000000

abbrev pub leaves : (k i : ℕ) → List ℕ
leaves zero i = []
leaves (suc k) i = leaf_word i ∷ leaves k (suc i)

-- 58 leaves are taken, each with its inverse, and are not whole; one more is turned away, as no bus has enough nodes to join them.
abbrev pub most_leaves : List ℕ
most_leaves = with_inverses (leaves 58 0)

abbrev pub leaves_examples : List Example
leaves_examples = example most_leaves (stopped 32 116) ∷ example (most_leaves ++ (leaf_word 58 ∷ [])) (stopped 11 116) ∷ []
