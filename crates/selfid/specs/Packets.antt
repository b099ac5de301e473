-- The self-ID packets of a node as words of 32 bits: a sum of fields, each times the weight of its lowest bit.
use Rattle.std.specs.Prelude.{ℕ, ◌+◌, ◌-◌, ◌*◌, ◌^◌, Bool, true, false, List, [], ◌∷◌, length, slice_index_or}
use Rattle.selfid.specs.declared.mark.Mark.{Mark}
use Rattle.selfid.specs.declared.mark.Mark.TheVariants.{Absent}
use Rattle.selfid.specs.declared.node.Fields.{Fields}
use Rattle.selfid.specs.Marks.{mark_code}
use Rattle.selfid.specs.Speeds.{speed_code}

abbrev pub bit : Bool → ℕ
bit true = 1
bit false = 0

-- The code of the i-th mark of a list. Past its end it is 0, as reserved bits are.
abbrev pub code_at : List Mark → ℕ → ℕ
code_at ms i = mark_code (slice_index_or ms i Absent)

-- The codes of marks, two bits for each, the last in the lowest.
abbrev pub packed_codes : List Mark → ℕ
packed_codes [] = 0
packed_codes (m ∷ ms) = mark_code m * 2 ^ (2 * length ms) + packed_codes ms

-- Packet zero of node n, below 64, with the fields x, where ms are the marks of the ports from port 0 on: it has the first three.
abbrev pub zero_word : (n : ℕ) → Fields → List Mark → (more : Bool) → ℕ
zero_word n x ms more =
    2 * 2 ^ 30
    + n * 2 ^ 24
    + bit x.link * 2 ^ 22
    + x.gap * 2 ^ 16
    + speed_code x.speed * 2 ^ 14
    + bit x.contender * 2 ^ 11
    + x.power * 2 ^ 8
    + code_at ms 0 * 2 ^ 6
    + code_at ms 1 * 2 ^ 4
    + code_at ms 2 * 2 ^ 2
    + bit x.initiator * 2
    + bit more

-- Extension e, below 8, of node n, below 64, where ms are the marks of the ports from port 8e + 3 on: it has the first eight.
abbrev pub extension_word : (n e : ℕ) → List Mark → (more : Bool) → ℕ
extension_word n e ms more =
    2 * 2 ^ 30
    + n * 2 ^ 24
    + 2 ^ 23
    + e * 2 ^ 20
    + code_at ms 0 * 2 ^ 16
    + code_at ms 1 * 2 ^ 14
    + code_at ms 2 * 2 ^ 12
    + code_at ms 3 * 2 ^ 10
    + code_at ms 4 * 2 ^ 8
    + code_at ms 5 * 2 ^ 6
    + code_at ms 6 * 2 ^ 4
    + code_at ms 7 * 2 ^ 2
    + bit more

-- The bitwise inverse of a quadlet, a number below 2 ^ 32.
abbrev pub inverse_of : ℕ → ℕ
inverse_of q = 2 ^ 32 - 1 - q

-- Each packet goes out as two quadlets: itself, then its inverse.
abbrev pub with_inverses : List ℕ → List ℕ
with_inverses [] = []
with_inverses (q ∷ qs) = q ∷ inverse_of q ∷ with_inverses qs
