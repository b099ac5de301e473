-- How often a mark comes in a list.
use Rattle.std.specs.Prelude.{ℕ, ◌+◌, cond, List, [], ◌∷◌, ◌==◌}
use Rattle.selfid.specs.declared.mark.Mark.{Mark}
use Rattle.selfid.specs.Marks.{mark_code}

abbrev pub times_marked : Mark → List Mark → ℕ
times_marked m [] = 0
times_marked m (o ∷ os) = cond (mark_code o == mark_code m) 1 0 + times_marked m os
