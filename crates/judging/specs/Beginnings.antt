-- Which quadlets are an announcement, and which begin one.
use Rattle.std.specs.Prelude.{◌≡◌, ℕ, List, ◌++◌}
use Rattle.selfid.specs.Cabling.{Cabling, Proper}
use Rattle.selfid.specs.Announcement.{announcement}

-- The cabling is proper, and announces exactly these quadlets.
pub record Announces (c : Cabling) (qs : List ℕ) : Type 0 where
  pub proper : Proper c
  pub exactly : announcement c ≡ qs

-- The announcement of c begins with these quadlets.
pub record BeginsWith (c : Cabling) (qs : List ℕ) : Type 0 where
  pub behind : List ℕ
  pub announces : Announces c (qs ++ behind)

-- Some cabling's announcement begins with these quadlets. Only that there is one is said, not which: there are mostly many.
abbrev pub Begins : List ℕ → Type 0
Begins qs = ∥ ((c : Cabling) × BeginsWith c qs) ∥₁

-- No cabling announces exactly these quadlets. (Where one does, it is the only one.)
abbrev pub Unannounced : List ℕ → Type 0
Unannounced qs = (c : Cabling) → Announces c qs → ⊥
