-- Hexadecimal digits of either case, and the bytes that pairs of digits stand for: document 01, section "Program", "Reads lines of hexadecimal, either case".
use Rattle.std.specs.Prelude.{Bool, ◌&&◌, List, [], ◌∷◌, ℕ, ◌+◌, ◌-◌, ◌*◌, leb, ltb, Option, Some, None}
use Rattle.tables.specs.Choose.{pick}

-- the value of a digit by its ASCII code, `0` to `9`, `a` to `f` or `A` to `F`; 16 says that the byte is no digit
unfoldable pub digit_of : ℕ → ℕ
digit_of b =
    pick (leb 48 b && leb b 57) (b - 48)
    (pick (leb 97 b && leb b 102) (b - 87)
    (pick (leb 65 b && leb b 70) (b - 55)
    16))

abbrev pub is_digit : ℕ → Bool
is_digit b = ltb (digit_of b) 16

-- the digit that a byte is, if it is one
abbrev pub digit_in : ℕ → Option ℕ
digit_in b = pick (is_digit b) (Some (digit_of b)) None

-- the bytes that digits stand for
pub data Bytes : Type 0 where
  bytes : List ℕ → Bytes
  not_hex : Bytes

-- one byte more in front
abbrev pub before : ℕ → Bytes → Bytes
before b (bytes rest) = bytes (b ∷ rest)
before b not_hex = not_hex

-- two digits a byte, the higher first; an odd digit, or a byte that is no digit, makes it no hexadecimal
abbrev pub bytes_of : List ℕ → Bytes
bytes_of [] = bytes []
bytes_of (a ∷ []) = not_hex
bytes_of (a ∷ b ∷ rest) = pick (is_digit a && is_digit b) (before (16 * digit_of a + digit_of b) (bytes_of rest)) not_hex
