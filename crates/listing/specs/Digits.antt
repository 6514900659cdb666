-- Numbers in so many lowercase hexadecimal digits: document 01, section "Program", "It writes lowercase hexadecimal".
use Rattle.std.specs.Prelude.{List, [], ◌∷◌, ◌++◌, ℕ, zero, suc, ◌+◌, ◌/◌, ◌%◌, ltb}
use Rattle.tables.specs.Choose.{pick}

-- the ASCII code of a digit below 16: `0` to `9`, then `a` to `f`
abbrev pub glyph : ℕ → ℕ
glyph d = pick (ltb d 10) (48 + d) (87 + d)

-- the last so many digits of a number, the highest first
abbrev pub digits : ℕ → ℕ → List ℕ
digits zero n = []
digits (suc width) n = digits width (n / 16) ++ (glyph (n % 16) ∷ [])
