-- Codes, read.
use Rattle.std.specs.Prelude.{◌≡◌, ℕ, Some, None, Option, Result, MatchResult}
use Rattle.selfid.specs.declared.code.UnknownCode.{UnknownCode}

-- The result is the value with this code, or tells the code of none.
abbrev pub Decodes : {V : Type 0} → (value_of : ℕ → Option V) → (code : ℕ) → Result V UnknownCode → Type 0
Decodes value_of code r = MatchResult r (λ v. value_of code ≡ Some v) (λ e. (value_of code ≡ None) × (e.code ≡ code))
