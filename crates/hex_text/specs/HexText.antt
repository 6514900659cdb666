-- The bytes that stand at the front of a text in hexadecimal: how the test programs write a script.
use Rattle.std.specs.Prelude.{◌≡◌, ◌&&◌, List, [], ◌∷◌, ℕ, zero, suc, ◌+◌, ◌*◌, ◌≤◌, length}
use Rattle.tables.specs.Choose.{pick}
use Rattle.tables.specs.Tables.{put_at}
use Rattle.hex_line.specs.Digits.{digit_of, is_digit}

-- two digits a byte, the higher first, up to the first byte that is no digit or an odd last one, and at most so many
abbrev pub bytes_in : ℕ → List ℕ → List ℕ
bytes_in zero text = []
bytes_in (suc room) [] = []
bytes_in (suc room) (a ∷ []) = []
bytes_in (suc room) (a ∷ b ∷ rest) = pick (is_digit a && is_digit b) ((16 * digit_of a + digit_of b) ∷ bytes_in room rest) []

-- what `unhex` answers and leaves of what was lent: the text's bytes at its front, and how many they are
pub record Unhexes (text lent now : List ℕ) (answer : ℕ) : Type 0 where
  pub fits : answer ≤ length lent
  pub counted : answer ≡ length (bytes_in (length lent) text)
  pub put : now ≡ put_at lent 0 (bytes_in (length lent) text)
