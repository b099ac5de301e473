-- Lists of marks: how many are up or down in their parts, and whether one is there.
use Rattle.std.proofs.Common.{◌≡◌, ℕ, zero, suc, ◌+◌, ◌≤◌, true, false, List, [], ◌∷◌, ◌++◌, length, drop, sym, refl, ◌∙◌, arith}
use Rattle.selfid.specs.declared.mark.Mark.{Mark}
use Rattle.selfid.specs.declared.mark.Mark.TheVariants.{Absent, Open, Up, Down}
use Rattle.selfid.specs.Marks.{ups, downs, present}

-- A port is up, down or neither.
pub at_most : (ms : List Mark) → ups ms + downs ms ≤ length ms
at_most [] = omega arith
at_most (Absent ∷ ms) = omega (arith, at_most ms)
at_most (Open ∷ ms) = omega (arith, at_most ms)
at_most (Up ∷ ms) = omega (arith, at_most ms)
at_most (Down ∷ ms) = omega (arith, at_most ms)

pub ups_++ : (a b : List Mark) → ups (a ++ b) ≡ ups a + ups b
ups_++ [] b = omega arith
ups_++ (Absent ∷ a) b = ups_++ a b
ups_++ (Open ∷ a) b = ups_++ a b
ups_++ (Up ∷ a) b = omega (arith, ups_++ a b)
ups_++ (Down ∷ a) b = ups_++ a b

pub downs_++ : (a b : List Mark) → downs (a ++ b) ≡ downs a + downs b
downs_++ [] b = omega arith
downs_++ (Absent ∷ a) b = downs_++ a b
downs_++ (Open ∷ a) b = downs_++ a b
downs_++ (Up ∷ a) b = downs_++ a b
downs_++ (Down ∷ a) b = omega (arith, downs_++ a b)

-- The first n marks; where there are fewer, absent ones follow.
abbrev pub padded : ℕ → List Mark → List Mark
padded zero ms = []
padded (suc n) [] = Absent ∷ padded n []
padded (suc n) (m ∷ ms) = m ∷ padded n ms

pub ups_padded : (n : ℕ) (ms : List Mark) → ups (padded n ms) + ups (drop n ms) ≡ ups ms
ups_padded zero ms = omega arith
ups_padded (suc n) [] = omega (arith, ups_padded n [])
ups_padded (suc n) (m ∷ ms) = omega (arith, ups_++ (m ∷ []) (padded n ms), ups_++ (m ∷ []) ms, ups_padded n ms)

pub downs_padded : (n : ℕ) (ms : List Mark) → downs (padded n ms) + downs (drop n ms) ≡ downs ms
downs_padded zero ms = omega arith
downs_padded (suc n) [] = omega (arith, downs_padded n [])
downs_padded (suc n) (m ∷ ms) = omega (arith, downs_++ (m ∷ []) (padded n ms), downs_++ (m ∷ []) ms, downs_padded n ms)

-- Where no mark is there, none is up and none is down.
pub no_ups : (ms : List Mark) → present ms ≡ false → ups ms ≡ 0
no_ups [] e = refl
no_ups (Absent ∷ ms) e = no_ups ms e
no_ups (Open ∷ ms) e = cc
no_ups (Up ∷ ms) e = cc
no_ups (Down ∷ ms) e = cc

pub no_downs : (ms : List Mark) → present ms ≡ false → downs ms ≡ 0
no_downs [] e = refl
no_downs (Absent ∷ ms) e = no_downs ms e
no_downs (Open ∷ ms) e = cc
no_downs (Up ∷ ms) e = cc
no_downs (Down ∷ ms) e = cc

-- A mark that is there stands among the first n or behind them.
pub present_padded : (n : ℕ) (ms : List Mark) → present ms ≡ true → present (drop n ms) ≡ false → present (padded n ms) ≡ true
present_padded zero ms e z = sym z ∙ e
present_padded (suc n) [] e z = cc
present_padded (suc n) (Absent ∷ ms) e z = present_padded n ms e z
present_padded (suc n) (Open ∷ ms) e z = refl
present_padded (suc n) (Up ∷ ms) e z = refl
present_padded (suc n) (Down ∷ ms) e z = refl

pub present_left : (a b : List Mark) → present a ≡ true → present (a ++ b) ≡ true
present_left [] b e = cc
present_left (Absent ∷ a) b e = present_left a b e
present_left (Open ∷ a) b e = refl
present_left (Up ∷ a) b e = refl
present_left (Down ∷ a) b e = refl

pub present_right : (a b : List Mark) → present b ≡ true → present (a ++ b) ≡ true
present_right [] b e = e
present_right (Absent ∷ a) b e = present_right a b e
present_right (Open ∷ a) b e = refl
present_right (Up ∷ a) b e = refl
present_right (Down ∷ a) b e = refl
