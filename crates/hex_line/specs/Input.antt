-- The lines of a whole input: document 01, section "Program", "ended by a line feed or the end of input (nothing after the last line feed is no line)".
use Rattle.std.specs.Prelude.{List, [], ◌∷◌, ◌++◌, map, ℕ, eqb}
use Rattle.tables.specs.Choose.{pick}
use Rattle.hex_line.specs.Meant.{Meant, line_of}

-- what the end of the input makes of the bytes after the last line feed
abbrev pub last_line : List ℕ → List (List ℕ)
last_line [] = []
last_line (b ∷ line) = (b ∷ line) ∷ []

-- the lines of the rest of an input, where these bytes of a line came before it; 10 is a line feed
abbrev pub lines_from : List ℕ → List ℕ → List (List ℕ)
lines_from line [] = last_line line
lines_from line (b ∷ rest) = pick (eqb b 10) (line ∷ lines_from [] rest) (lines_from (line ++ (b ∷ [])) rest)

abbrev pub lines_of : List ℕ → List (List ℕ)
lines_of input = lines_from [] input

-- what an input asks for, line by line
abbrev pub input_of : List ℕ → List Meant
input_of input = map line_of (lines_of input)
