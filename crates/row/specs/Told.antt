-- For the proof: what the contract of a row function says. Each reads the tokens from one point of a row on (`standard`'s Point), or the row of one entry.
use Rattle.std.specs.Prelude.{◌≡◌, Bool, List, ℕ, Result}
use Rattle.lex.specs.Token.{Data}
use Rattle.standard.specs.Rows.{Point, is_and_v, read_from, row_of}
use Rattle.row.specs.Tokens.{lexemes_left}
use Rattle.row.specs.Request.{Reading, reading_asked, entry_of, reading_of}
use Rattle.row.specs.declared.NonTerm.{NonTerm}
use Rattle.row.specs.declared.table.Tokens.{Tokens}
use Rattle.row.specs.declared.Found.{Found}
use Rattle.row.specs.declared.Refused.{Refused}

-- the row from a point on, by the tokens left in the table
unfoldable pub row_from : Bool → Point → List ℕ → List ℕ → ℕ → Reading
row_from segwit point script table left = reading_asked segwit (read_from segwit point (lexemes_left script table left))

-- the row of an entry
unfoldable pub entry_row : Bool → NonTerm → List ℕ → List ℕ → ℕ → Reading
entry_row segwit entry script table left = reading_asked segwit (row_of segwit (entry_of entry) (lexemes_left script table left))

-- of a function that is lent no script and told no kind: it reads the row from a point on in either kind, whatever the script's bytes are
abbrev pub Told : Point → Tokens → Result Found Refused → Type 0
Told point tokens r = (segwit : Bool) (script : List ℕ) → reading_of script tokens.table.now r ≡ row_from segwit point script tokens.table.now tokens.left

-- the same, at a point that holds pushed data, whose bytes the function doesn't look at
abbrev pub ToldOf : (Data → Point) → ℕ → Tokens → Result Found Refused → Type 0
ToldOf point offset tokens r = (segwit : Bool) (script bytes : List ℕ) → reading_of script tokens.table.now r ≡ row_from segwit (point (record { place = offset; bytes = bytes })) script tokens.table.now tokens.left

-- of a function that is told the kind
abbrev pub ToldIn : Bool → Point → Tokens → Result Found Refused → Type 0
ToldIn segwit point tokens r = (script : List ℕ) → reading_of script tokens.table.now r ≡ row_from segwit point script tokens.table.now tokens.left

-- of a function that is lent the script too
abbrev pub ToldBy : Bool → Point → List ℕ → Tokens → Result Found Refused → Type 0
ToldBy segwit point script tokens r = reading_of script tokens.table.now r ≡ row_from segwit point script tokens.table.now tokens.left

-- of a function that reads the row of an entry
abbrev pub ToldEntry : NonTerm → Tokens → Result Found Refused → Type 0
ToldEntry entry tokens r = (segwit : Bool) (script : List ℕ) → reading_of script tokens.table.now r ≡ entry_row segwit entry script tokens.table.now tokens.left

-- of is_and_v
abbrev pub ToldAndV : Tokens → Bool → Type 0
ToldAndV tokens r = (script : List ℕ) → r ≡ is_and_v (lexemes_left script tokens.table.now tokens.left)
