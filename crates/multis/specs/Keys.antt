-- For the proof: the keys of a multi and of a multi_a, read off the token table, and what the small functions of their rows answer.
use Rattle.std.specs.Prelude.{◌≡◌, Bool, true, false, ◌&&◌, List, [], ◌∷◌, ℕ, zero, suc, ◌+◌, eqb, leb, get_or, ◌*◌, Option, None, Some, Result, Ok, Err}
use Rattle.tables.specs.Choose.{pick}
use Rattle.lex.specs.Token.{Data, Lexeme, data_at, CHECKSIGADD, BYTES32, BYTES33, BYTES65}
use Rattle.standard.specs.Tree.{Key}
use Rattle.standard.specs.Allowed as allowed
use Rattle.standard.specs.Allowed.{within, multi_key}
use Rattle.standard.specs.Rows.{Point, multi_keys, multiAKeys}
use Rattle.row.specs.declared.Row.TheVariants as row
use Rattle.row.specs.declared.Found.{Found}
use Rattle.row.specs.declared.Refused.{Refused}
use Rattle.row.specs.declared.table.Taken.{Taken}
use Rattle.row.specs.declared.table.Tokens.{Tokens}
use Rattle.row.specs.Tokens.{token_at, lexemes_left}
use Rattle.row.specs.Request.{refused, Reading, reading, asked_at, refused_at, reading_of}
use Rattle.row.specs.Told.{row_from}
use Rattle.locks.specs.Leaves.{key_at}

-- 13 where a test before the keys fails
abbrev pub tested : Bool → Reading → List Lexeme → Reading
tested test row left = pick test row (reading (refused 13) left)

-- the n keys of a multi, from token i on
abbrev pub keys_from : List ℕ → List ℕ → ℕ → ℕ → List Key
keys_from script table zero i = []
keys_from script table (suc n) i = key_at script (token_at table i).code ((token_at table i).place + 1) ∷ keys_from script table n (suc i)

-- a token as a key of a multi: refused by 10 if it pushes neither 33 nor 65 bytes, by 11 if the key is of the wrong form
abbrev pub form_refusal : Bool → ℕ → Result (Unit {0}) Refused
form_refusal form left = pick form (Ok tt) (Err (record { number = 11; left = left }))

unfoldable pub key_refusal : Bool → List ℕ → Taken → Result (Unit {0}) Refused
key_refusal segwit script t =
    pick (eqb t.code BYTES33) (form_refusal (multi_key segwit (key_at script t.code (t.place + 1))) t.rest.left)
    (pick (eqb t.code BYTES65) (form_refusal (multi_key segwit (key_at script t.code (t.place + 1))) t.rest.left) (Err (record { number = 10; left = t.rest.left })))

-- a multi's k, once its keys have passed
unfoldable pub multi_row : ℕ → ℕ → ℕ → ℕ → Result Found Refused
multi_row k n first left = pick (within 1 k n) (asked_at (row.Keys 27 k n first 1) left) (refused_at 13 left)

-- what is read behind a multi's n keys, all of the right form
abbrev pub ToldMulti : Tokens → ℕ → Result Found Refused → Type 0
ToldMulti tokens n r =
    (segwit : Bool) (script : List ℕ) → allowed.all_multi_keys segwit (keys_from script tokens.table.now n tokens.left) ≡ true
    → reading_of script tokens.table.now r ≡ row_from segwit (multi_keys zero (keys_from script tokens.table.now n tokens.left)) script tokens.table.now tokens.left

-- n keys of a multi_a, from token i on, every second
abbrev pub datas_from : List ℕ → List ℕ → ℕ → ℕ → List Data
datas_from script table zero i = []
datas_from script table (suc n) i = data_at script ((token_at table i).place + 1) 32 ∷ datas_from script table n (suc (suc i))

-- CHECKSIGADD is the next token
abbrev pub is_check_sig_add : Option ℕ → Bool
is_check_sig_add None = false
is_check_sig_add (Some c) = eqb c CHECKSIGADD

-- a token as a key of a multi_a, by its code: refused by 10 if it doesn't push 32 bytes, by 11 in segwit
unfoldable pub added_refusal : Bool → ℕ → ℕ → Result (Unit {0}) Refused
added_refusal segwit code left = pick (eqb code BYTES32) (pick segwit (Err (record { number = 11; left = left })) (Ok tt)) (Err (record { number = 10; left = left }))

-- how many tokens are left once it has passed
abbrev pub left_behind : ℕ → Result (Unit {0}) Refused → Result ℕ Refused
left_behind left (Ok passed) = Ok left
left_behind left (Err e) = Err e

-- a CHECKSIGADD taken, and the key before it
abbrev pub added_key_of : Bool → List ℕ → ℕ → Result ℕ Refused
added_key_of segwit table zero = Err (record { number = 9; left = 0 })
added_key_of segwit table (suc zero) = Err (record { number = 9; left = 0 })
added_key_of segwit table (suc (suc m)) = left_behind m (added_refusal segwit (get_or table (3 * m) 0) m)

-- so many tokens of the same table are left
abbrev pub IsAdded : Bool → List ℕ → ℕ → Result Tokens Refused → Type 0
IsAdded segwit table left (Ok rest) = (rest.table.now ≡ table) × (added_key_of segwit table left ≡ Ok rest.left)
IsAdded segwit table left (Err e) = added_key_of segwit table left ≡ Err e

-- a multi_a's k, once its keys have passed: "then k ≤ n ≤ 999"
unfoldable pub multi_a_row : ℕ → ℕ → ℕ → Result Found Refused
multi_a_row k n first = pick (leb k n && leb n 999) (asked_at (row.Keys 28 k n first 2) first) (refused_at 13 first)

-- what is read behind a multi_a's n keys with CHECKSIGADD, which stand from token `first` on
abbrev pub ToldMultiA : (ℕ → List Data → Point) → Bool → Tokens → ℕ → ℕ → ℕ → Result Found Refused → Type 0
ToldMultiA point segwit tokens first k n r =
    (script : List ℕ) → allowed.all_multi_a_keys segwit (datas_from script tokens.table.now n first) ≡ true
    → reading_of script tokens.table.now r ≡ row_from segwit (point k (datas_from script tokens.table.now n first)) script tokens.table.now tokens.left

-- what is read behind a multi_a's k: its test, and then its keys
abbrev pub ToldTested : Bool → Tokens → ℕ → Result Found Refused → Type 0
ToldTested segwit tokens k r =
    (script : List ℕ) → reading_of script tokens.table.now r ≡ tested (allowed.multi_a_threshold k) (row_from segwit (multiAKeys k []) script tokens.table.now tokens.left) (lexemes_left script tokens.table.now tokens.left)
