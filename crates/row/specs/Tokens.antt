-- For the proof: the tokens that are left, read off the token table, which has three numbers for each (document 01, "A token holds code, number and place of its instruction"). "The last token is taken first", so the next one stands first.
use Rattle.std.specs.Prelude.{List, ℕ, zero, suc, ◌+◌, ◌*◌, ◌≤◌, ◌<◌, length, get_or, Option, None, Some}
use Rattle.tables.specs.Tables.{newest}
use Rattle.lex.specs.Token.{Token, token, Lexeme, lexeme}

-- token i of the table
abbrev pub token_at : List ℕ → ℕ → Token
token_at table i = token (get_or table (3 * i) 0) (get_or table (3 * i + 1) 0) (get_or table (3 * i + 2) 0)

-- the first `left` tokens of the table with what they push, the last of them first
abbrev pub lexemes_left : List ℕ → List ℕ → ℕ → List Lexeme
lexemes_left script table left = newest (λ (i : ℕ). lexeme script (token_at table i)) left

-- the code of the next token
abbrev pub ahead_of : List ℕ → ℕ → Option ℕ
ahead_of table zero = None
ahead_of table (suc rest) = Some (get_or table (3 * rest) 0)

-- what the decoder knows of a token table that the lexer has filled: the tokens left lie in it, and every number in it, and how many are left, is below 2^31
pub record InTable (table : List ℕ) (left : ℕ) : Type 0 where
  pub inside : 3 * left ≤ length table
  pub low : (i : ℕ) → get_or table i 0 < 2147483648
  pub few : left < 2147483648
