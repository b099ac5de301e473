-- What a stack holds, the newest first, and how many elements it has room for.
use Rattle.std.specs.Prelude.{ℕ, List, reverse, length, take}
use Rattle.stack.specs.declared.Stack.{Stack}

module _ {T : Type 0} where
  abbrev pub held : Stack T → List T
  held s = reverse (take s.len s.row.now)

  abbrev pub room : Stack T → ℕ
  room s = length s.row.now
