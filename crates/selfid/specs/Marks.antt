-- The marks of ports: their codes, how many of a list are up or down, and whether one is there at all.
use Rattle.std.specs.Prelude.{ℕ, suc, Bool, true, false, cond, List, [], ◌∷◌, Some, None, Option, ◌==◌}
use Rattle.selfid.specs.declared.mark.Mark.{Mark}
use Rattle.selfid.specs.declared.mark.Mark.TheVariants.{Absent, Open, Up, Down}

abbrev pub mark_code : Mark → ℕ
mark_code Absent = 0
mark_code Open = 1
mark_code Up = 2
mark_code Down = 3

-- The mark with this code, if there is one.
abbrev pub mark_of : ℕ → Option Mark
mark_of n = cond (n == 0) (Some Absent) (cond (n == 1) (Some Open) (cond (n == 2) (Some Up) (cond (n == 3) (Some Down) None)))

-- How many marks are up.
abbrev pub ups : List Mark → ℕ
ups [] = 0
ups (Absent ∷ ms) = ups ms
ups (Open ∷ ms) = ups ms
ups (Up ∷ ms) = suc (ups ms)
ups (Down ∷ ms) = ups ms

-- How many marks are down.
abbrev pub downs : List Mark → ℕ
downs [] = 0
downs (Absent ∷ ms) = downs ms
downs (Open ∷ ms) = downs ms
downs (Up ∷ ms) = downs ms
downs (Down ∷ ms) = suc (downs ms)

-- Some mark is not absent.
abbrev pub present : List Mark → Bool
present [] = false
present (Absent ∷ ms) = present ms
present (Open ∷ ms) = true
present (Up ∷ ms) = true
present (Down ∷ ms) = true
