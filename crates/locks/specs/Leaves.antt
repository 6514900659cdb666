-- For the proof: the rows of a key alone and of a locktime, decided by document 01's tests (11 for the key form, 12 for a locktime).
use Rattle.std.specs.Prelude.{Bool, false, List, ℕ, Result}
use Rattle.tables.specs.Choose.{pick}
use Rattle.lex.specs.Token.{data_at, data_length}
use Rattle.standard.specs.Tree.{Key, key}
use Rattle.standard.specs.Allowed.{locktime}
use Rattle.row.specs.declared.Row.TheVariants as row
use Rattle.row.specs.declared.Found.{Found}
use Rattle.row.specs.declared.Refused.{Refused}
use Rattle.row.specs.Request.{asked_at, refused_at}

-- the key that a push of this code at this offset of the script is
abbrev pub key_at : List ℕ → ℕ → ℕ → Key
key_at script code offset = key code (data_at script offset (data_length code))

-- pk_k, if the key has the form
abbrev pub key_row : Bool → ℕ → ℕ → Result Found Refused
key_row form offset left = pick form (asked_at (row.Leaf 3 0 offset false) left) (refused_at 11 left)

-- after or older, by its kind
unfoldable pub time_row : ℕ → ℕ → ℕ → Result Found Refused
time_row kind n left = pick (locktime n) (asked_at (row.Leaf kind n 0 false) left) (refused_at 12 left)
