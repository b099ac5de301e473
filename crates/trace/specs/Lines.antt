-- The lines of a trace, what kind of line each is, and the words of a words line.
use Rattle.std.specs.Prelude.{ℕ, ◌+◌, ◌-◌, ◌*◌, Bool, true, cond, ◌&&◌, List, [], ◌∷◌, map, length, is_some, Some, None, codes, Option, ◌==◌, nat_le, nat_lt}
use Rattle.std.specs.List.{fold, list_all, onto_first, slice_split}
use Rattle.std.specs.Option.{unwrap_or}
use Rattle.std.specs.Str.{bytes_eq}

-- The lines, each without its byte 10; the last may lack one.
abbrev pub lines_of : List ℕ → List (List ℕ)
lines_of [] = []
lines_of (byte ∷ bytes) = cond (byte == 10) ([] ∷ lines_of bytes) (onto_first byte (lines_of bytes))

-- What stands before, between and behind the spaces of a line.
abbrev pub pieces_of : List ℕ → List (List ℕ)
pieces_of bytes = slice_split (λ byte. byte == 32) bytes

-- The byte is in this range, both ends included.
abbrev pub within : ℕ → ℕ → ℕ → Bool
within low high byte = nat_le low byte && nat_le byte high

-- The value of a hexadecimal digit: 0 to 9, A to F or a to f.
abbrev pub digit_of : ℕ → Option ℕ
digit_of byte =
    cond (within 48 57 byte) (Some (byte - 48)) (cond (within 65 70 byte) (Some (byte - 55)) (cond (within 97 102 byte) (Some (byte - 87)) None))

-- The byte is a hexadecimal digit.
abbrev pub is_digit : ℕ → Bool
is_digit byte = is_some (digit_of byte)

-- The value of hexadecimal digits of this value with one more behind them.
abbrev pub and_digit : ℕ → ℕ → ℕ
and_digit before byte = before * 16 + unwrap_or (digit_of byte) 0

-- The value of hexadecimal digits, the highest first.
abbrev pub word_value : List ℕ → ℕ
word_value bytes = fold and_digit 0 bytes

-- A word is eight hexadecimal digits.
abbrev pub is_word : List ℕ → Bool
is_word bytes = length bytes == 8 && list_all is_digit bytes

-- A note is empty or begins with `#`.
abbrev pub is_note_line : List ℕ → Bool
is_note_line [] = true
is_note_line (byte ∷ bytes) = byte == 35

-- A reset line is these five bytes.
abbrev pub is_reset_line : List ℕ → Bool
is_reset_line bytes = bytes_eq bytes (codes "reset")

-- A words line has a word before, between and behind its spaces.
abbrev pub is_words_line : List ℕ → Bool
is_words_line bytes = list_all is_word (pieces_of bytes)

-- The words of a words line.
abbrev pub words_of : List ℕ → List ℕ
words_of bytes = map word_value (pieces_of bytes)

-- The words of what is left of a words line, which may be nothing.
abbrev pub words_left : List ℕ → List ℕ
words_left [] = []
words_left (byte ∷ bytes) = words_of (byte ∷ bytes)

-- What is left is nothing or a words line.
abbrev pub are_words_left : List ℕ → Bool
are_words_left [] = true
are_words_left (byte ∷ bytes) = is_words_line (byte ∷ bytes)

-- What kind of line it is; the last two are bad lines.
pub data Kind : Type 0 where
  note : Kind
  reset : Kind
  words : Kind
  too_long : Kind
  malformed : Kind

-- Too long comes first, whatever the line holds.
abbrev pub kind_of : List ℕ → Kind
kind_of bytes =
    cond (nat_lt 255 (length bytes)) too_long (cond (is_note_line bytes) note (cond (is_reset_line bytes) reset (cond (is_words_line bytes) words malformed)))
