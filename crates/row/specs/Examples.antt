-- Worked examples, computed on the definitions: what the rows of some short scripts ask for (document 01, "Tokens to tree" and "When the desk says no", 9 to 13). The last token stands first.
use Rattle.std.specs.Prelude.{◌≡◌, refl, true, false, List, [], ◌∷◌, ℕ, replicate, Ok}
use Rattle.lex.specs.Token.{Data, Lexeme, op, num, push, EQUAL, NUMEQUAL, CHECKSIG, CHECKMULTISIG, CHECKSEQUENCEVERIFY, DUP, SIZE, SWAP, VERIFY, HASH160, NUM, HASH20, BYTES32, BYTES33}
use Rattle.standard.specs.Rows.{NonTerm, Expression, MaybeAndV, AndV, Verify, ThreshE, row_of}
use Rattle.row.specs.declared.Row.TheVariants as row
use Rattle.row.specs.Request.{refused, entries, leaf_node, keys_node, many_children, Reading, reading, reading_asked, reading_of}

-- the row of an entry in segwit, and in tapscript
abbrev in_segwit : NonTerm → List Lexeme → Reading
in_segwit entry left = reading_asked true (row_of true entry left)

abbrev in_tapscript : NonTerm → List Lexeme → Reading
in_tapscript entry left = reading_asked false (row_of false entry left)

-- so many bytes, the first of them this one, at this place
abbrev bytes_at : ℕ → ℕ → ℕ → Data
bytes_at place first more = record { place = place; bytes = first ∷ replicate more 0 }

-- the empty script
pub none_left : in_segwit Expression [] ≡ reading (refused 9) []
none_left = refl

-- `00b2`: a locktime of 0
pub locktime_of_0 : in_segwit Expression (op CHECKSEQUENCEVERIFY ∷ num 0 ∷ []) ≡ reading (refused 12) []
locktime_of_0 = refl

-- `005287`: thresh with k 2 and one child
pub two_of_one : in_segwit (ThreshE 2 1) [] ≡ reading (refused 13) []
two_of_one = refl

pub one_of_one_lem : in_segwit (ThreshE 1 1) [] ≡ reading (many_children 1 1) []
one_of_one_lem = refl

-- SIZE 32 EQUALVERIFY HASH160 <20 bytes> EQUALVERIFY is a hash lock, with Verify entered; DUP HASH160 <20 bytes> EQUALVERIFY is a raw key hash
pub lock_under_verify :
    in_segwit Expression (op VERIFY ∷ op EQUAL ∷ push HASH20 (bytes_at 5 1 19) ∷ op HASH160 ∷ op VERIFY ∷ op EQUAL ∷ num 32 ∷ op SIZE ∷ []) ≡ reading (leaf_node 11 0 5 (Verify ∷ [])) []
lock_under_verify = refl

pub raw_key_hash : in_segwit Expression (op VERIFY ∷ op EQUAL ∷ push HASH20 (bytes_at 3 1 19) ∷ op HASH160 ∷ op DUP ∷ []) ≡ reading (leaf_node 5 0 3 []) []
raw_key_hash = refl

-- a multi of one key: allowed in segwit, 11 in tapscript; a push of another length is 10 there; n of 21 is 13 before any key
pub multi_of_one : in_segwit Expression (op CHECKMULTISIG ∷ num 1 ∷ push BYTES33 (bytes_at 2 2 32) ∷ num 1 ∷ []) ≡ reading (keys_node 27 1 (2 ∷ []) []) []
multi_of_one = refl

pub multi_in_tapscript : in_tapscript Expression (op CHECKMULTISIG ∷ num 1 ∷ push BYTES33 (bytes_at 2 2 32) ∷ num 1 ∷ []) ≡ reading (refused 11) (num 1 ∷ [])
multi_in_tapscript = refl

pub multi_of_32_bytes : in_tapscript Expression (op CHECKMULTISIG ∷ num 1 ∷ push BYTES32 (bytes_at 2 2 31) ∷ num 1 ∷ []) ≡ reading (refused 10) (num 1 ∷ [])
multi_of_32_bytes = refl

pub multi_of_21 : in_segwit Expression (op CHECKMULTISIG ∷ num 21 ∷ push BYTES32 (bytes_at 2 2 31) ∷ []) ≡ reading (refused 13) (push BYTES32 (bytes_at 2 2 31) ∷ [])
multi_of_21 = refl

-- a multi_a of one key: allowed in tapscript, 11 in segwit; k of 1000 is 13 before any key
pub multi_a_of_one : in_tapscript Expression (op NUMEQUAL ∷ num 1 ∷ op CHECKSIG ∷ push BYTES32 (bytes_at 1 7 31) ∷ []) ≡ reading (keys_node 28 1 (1 ∷ []) []) []
multi_a_of_one = refl

pub multi_a_in_segwit : in_segwit Expression (op NUMEQUAL ∷ num 1 ∷ op CHECKSIG ∷ push BYTES32 (bytes_at 1 7 31) ∷ []) ≡ reading (refused 11) []
multi_a_in_segwit = refl

pub multi_a_of_1000 : in_tapscript Expression (op NUMEQUAL ∷ num 1000 ∷ op CHECKSIG ∷ []) ≡ reading (refused 13) (op CHECKSIG ∷ [])
multi_a_of_1000 = refl

-- is_and_v is no before Swap, yes before a number
pub before_swap : in_segwit MaybeAndV (op SWAP ∷ []) ≡ reading (entries []) (op SWAP ∷ [])
before_swap = refl

pub before_a_number : in_segwit MaybeAndV (num 0 ∷ []) ≡ reading (entries (Expression ∷ AndV ∷ [])) (num 0 ∷ [])
before_a_number = refl

-- the keys of a multi of two, read off the table of its tokens (k, two keys, n and CHECKMULTISIG): tokens 1 and 2 push them
abbrev two_keys : List ℕ
two_keys = NUM ∷ 1 ∷ 0 ∷ BYTES33 ∷ 0 ∷ 1 ∷ BYTES33 ∷ 0 ∷ 35 ∷ NUM ∷ 2 ∷ 69 ∷ 8 ∷ 0 ∷ 70 ∷ []

pub keys_of_two : reading_of [] two_keys (Ok (record { left = 0; row = row.Keys 27 1 2 1 1 })) ≡ reading (keys_node 27 1 (2 ∷ 36 ∷ []) []) []
keys_of_two = refl
