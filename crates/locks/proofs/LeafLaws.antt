-- The rows of a key alone, of a locktime and of a hash lock, as the code decides them. Assumes nothing.
use mathlib.Core.Path.{◌≡◌, ap, ◌∙◌}
use mathlib.Core.Bool.{Bool, false}
use mathlib.Core.List.{List, []}
use Prim.Native.Nat.{ℕ}
use Rattle.std.specs.Prelude.{Result}
use Rattle.tables.specs.Choose.{pick}
use Rattle.standard.specs.Allowed.{locktime, key_form}
use Rattle.standard.specs.Rows.{under_verify}
use Rattle.row.specs.declared.Row.TheVariants as row
use Rattle.row.specs.declared.Found.{Found}
use Rattle.row.specs.declared.Refused.{Refused}
use Rattle.row.specs.Tokens.{lexemes_left}
use Rattle.row.specs.Request.{refused, leaf_node, reading, asked_at, reading_of}
use Rattle.row.proofs.TakenLaws.{row_pick}
use Rattle.locks.specs.Leaves.{key_at, key_row, time_row}

pub time_is : (script table : List ℕ) (kind n left : ℕ) {r : Result Found Refused} → r ≡ time_row kind n left → reading_of script table r ≡ reading (pick (locktime n) (leaf_node kind n 0 []) (refused 12)) (lexemes_left script table left)
unfolding time_row
time_is script table kind n left e = ap (reading_of script table) e ∙ row_pick script table (locktime n) (row.Leaf kind n 0 false) 12 left

pub key_is : (segwit : Bool) (script table : List ℕ) (code offset left : ℕ) {r : Result Found Refused} → r ≡ key_row (key_form segwit (key_at script code offset)) offset left → reading_of script table r ≡ reading (pick (key_form segwit (key_at script code offset)) (leaf_node 3 0 offset []) (refused 11)) (lexemes_left script table left)
key_is segwit script table code offset left e = ap (reading_of script table) e ∙ row_pick script table (key_form segwit (key_at script code offset)) (row.Leaf 3 0 offset false) 11 left

-- a hash lock, by its kind
pub lock_is : (script table : List ℕ) (offset left : ℕ) (verify : Bool) {kind hash : ℕ} {r : Result Found Refused} → kind ≡ hash → r ≡ asked_at (row.Leaf kind 0 offset verify) left → reading_of script table r ≡ reading (leaf_node hash 0 offset (under_verify verify)) (lexemes_left script table left)
lock_is script table offset left verify e f = ap (reading_of script table) f ∙ ap (λ (k : ℕ). reading (leaf_node k 0 offset (under_verify verify)) (lexemes_left script table left)) e
