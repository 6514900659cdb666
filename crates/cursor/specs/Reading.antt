-- The token that is next when so many are left, read off the token table, which has three numbers for each (document 01, "A token holds code, number and place of its instruction"; "The last token is taken first").
use Rattle.std.specs.Prelude.{List, ℕ, zero, suc, ◌+◌, ◌*◌, get_or, Option, None, Some}
use Rattle.cursor.specs.declared.Token.{Token}
use Rattle.cursor.specs.declared.Took.{Took}

-- token i of the table
abbrev pub token_of : List ℕ → ℕ → Token
token_of table i = record { code = get_or table (3 * i) 0; number = get_or table (3 * i + 1) 0; place = get_or table (3 * i + 2) 0 }

abbrev pub next_of : List ℕ → ℕ → Option Token
next_of table zero = None
next_of table (suc rest) = Some (token_of table rest)

abbrev pub took_of : Option Token → ℕ → Took
took_of token left = record { token = token; left = left }
