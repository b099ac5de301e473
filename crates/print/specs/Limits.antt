-- How much a line holds.
use Rattle.std.specs.Prelude.{ℕ}

-- No line has more bytes.
abbrev pub line_limit : ℕ
line_limit = 512

-- A number has at most so many digits.
abbrev pub digit_limit : ℕ
digit_limit = 20
