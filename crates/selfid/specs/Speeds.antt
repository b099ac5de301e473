-- The speeds of nodes, with their codes.
use Rattle.std.specs.Prelude.{ℕ, cond, Some, None, Option, ◌==◌}
use Rattle.selfid.specs.declared.speed.Speed.{Speed}
use Rattle.selfid.specs.declared.speed.Speed.TheVariants.{S100, S200, S400}

abbrev pub speed_code : Speed → ℕ
speed_code S100 = 0
speed_code S200 = 1
speed_code S400 = 2

-- The speed with this code, if there is one.
abbrev pub speed_of : ℕ → Option Speed
speed_of n = cond (n == 0) (Some S100) (cond (n == 1) (Some S200) (cond (n == 2) (Some S400) None))
