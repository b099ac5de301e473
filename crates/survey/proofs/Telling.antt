-- Marks with absent ones behind them.
use Rattle.std.proofs.Common.{◌≡◌, ℕ, zero, suc, ◌+◌, ◌≤◌, List, [], ◌∷◌, ◌++◌, length, take, replicate, refl, ap, ◌∙◌, append_assoc, arith}
use Rattle.std.proofs.lemmas.List.{replicate-append-replicate}
use Rattle.selfid.specs.declared.mark.Mark.{Mark}
use Rattle.selfid.specs.declared.mark.Mark.TheVariants.{Absent, Open, Up, Down}
use Rattle.selfid.specs.Marks.{ups, downs}

abbrev pub padded : List Mark → (n : ℕ) → List Mark
padded ms n = ms ++ replicate n Absent

pub padded_twice : (ms : List Mark) (n m : ℕ) → padded (padded ms n) m ≡ padded ms (n + m)
padded_twice ms n m = append_assoc ms (replicate n Absent) (replicate m Absent) ∙ ap (λ (l : List Mark). ms ++ l) (replicate-append-replicate n m Absent)

-- Absent marks are neither up nor down.
pub ups_padded : (ms : List Mark) (n : ℕ) → ups (padded ms n) ≡ ups ms
ups_padded [] zero = refl
ups_padded [] (suc n) = ups_padded [] n
ups_padded (Absent ∷ ms) n = ups_padded ms n
ups_padded (Open ∷ ms) n = ups_padded ms n
ups_padded (Up ∷ ms) n = ap suc (ups_padded ms n)
ups_padded (Down ∷ ms) n = ups_padded ms n

pub downs_padded : (ms : List Mark) (n : ℕ) → downs (padded ms n) ≡ downs ms
downs_padded [] zero = refl
downs_padded [] (suc n) = downs_padded [] n
downs_padded (Absent ∷ ms) n = downs_padded ms n
downs_padded (Open ∷ ms) n = downs_padded ms n
downs_padded (Up ∷ ms) n = downs_padded ms n
downs_padded (Down ∷ ms) n = ap suc (downs_padded ms n)

-- The first of them, all that are told among these, have absent ones behind them too.
pub take_padded : (ms : List Mark) (k n : ℕ) → length ms ≤ k → (m : ℕ) × (take k (padded ms n) ≡ padded ms m)
take_padded [] zero n h = (0, refl)
take_padded [] (suc k) zero h = (0, refl)
take_padded [] (suc k) (suc n) h = let (m, e) = take_padded [] k n (omega arith) in (suc m, ap {B = List Mark} (λ r. Absent ∷ r) e)
take_padded (x ∷ ms) zero n h = absurd (omega arith)
take_padded (x ∷ ms) (suc k) n h = let (m, e) = take_padded ms k n (omega arith) in (m, ap {B = List Mark} (λ r. x ∷ r) e)
