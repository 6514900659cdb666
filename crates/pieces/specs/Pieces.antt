-- For the proof: the encoder's work list (document 01, "Encoder": "work below 8 per node plus 2 is 17"): the pieces of a script still to be written, one number each, the next one on top.
use Rattle.std.specs.Prelude.{◌≡◌, Bool, List, [], ◌∷◌, map, ℕ, zero, suc, ◌+◌, ◌*◌, ◌/◌, ◌%◌, ◌≤◌, eqb, leb, length, get_or}
use Rattle.tables.specs.Choose.{pick}
use Rattle.tables.specs.Tables.{newest}
use Rattle.lex.specs.Token.{BOOLAND, BOOLOR, ADD, EQUAL, CHECKSIG, CHECKSEQUENCEVERIFY, CHECKLOCKTIMEVERIFY, FROMALTSTACK, TOALTSTACK, DUP, IF, IFDUP, NOTIF, ELSE, ENDIF, ZERONOTEQUAL, SIZE, SWAP, VERIFY, HASH160, HASH256, NUM, HASH20, BYTES65, Lexeme, op, num, push, data_at, data_length}
use Rattle.standard.specs.Tree.{Wrapper, alt, swap, check, dupIf, verify, nonZero, zeroNotEqual, Combination, and_v, and_b, or_b, or_d, or_c, or_i}
use Rattle.standard.specs.Written.{hash_opcode, hash_push}
use Rattle.standard.specs.Table.{Terminal, noTerminal, isTrue, isFalse, isPkK, isRawPkH, isAfter, isOlder, is_hash, is_wrapper, is_combination, isAndOr, isThresh, isMulti, isMultiA, key_code}

-- a piece: the next subtree in script order, or a lexeme
pub data Piece : Type 0 where
  subtree : Piece
  writes : Lexeme → Piece

-- The tags: the codes of the tokens, and behind them a subtree and the numbers 0, 1 and 32

abbrev pub SUBTREE : ℕ
SUBTREE = 33

abbrev pub ZERO : ℕ
ZERO = 34

abbrev pub ONE : ℕ
ONE = 35

abbrev pub THIRTYTWO : ℕ
THIRTYTWO = 36

unfoldable pub constant : ℕ → ℕ
constant tag = pick (eqb tag ZERO) 0 (pick (eqb tag ONE) 1 32)

-- what a tag and a value stand for; a push's value is its place in the material
abbrev pub lexeme_for : List ℕ → ℕ → ℕ → Lexeme
lexeme_for material tag value =
    pick (leb tag HASH256) (op tag)
    (pick (eqb tag NUM) (num value) (pick (leb tag BYTES65) (push tag (data_at material value (data_length tag))) (num (constant tag))))

abbrev pub piece_for : List ℕ → ℕ → ℕ → Piece
piece_for material tag value = pick (eqb tag SUBTREE) subtree (writes (lexeme_for material tag value))

-- A piece as a number: the tag, and 64 times the value

abbrev pub value_for : ℕ → ℕ → ℕ → ℕ
value_for number place tag = pick (eqb tag NUM) number place

abbrev pub entry_for : ℕ → ℕ → ℕ → ℕ
entry_for number place tag = tag + 64 * value_for number place tag

abbrev pub entries : ℕ → ℕ → List ℕ → List ℕ
entries number place tags = map (entry_for number place) tags

abbrev pub value_in : ℕ → ℕ
value_in piece = piece / 64 % 4294967296

abbrev pub lexeme_in : List ℕ → ℕ → Lexeme
lexeme_in material piece = lexeme_for material (piece % 64) (value_in piece)

unfoldable pub piece_of : List ℕ → ℕ → Piece
piece_of material piece = piece_for material (piece % 64) (value_in piece)

-- the pieces that a work table holds, the next one first
abbrev pub pieces_in : List ℕ → List ℕ → ℕ → List Piece
pieces_in material work w = newest (λ i. piece_of material (get_or work i 0)) w

-- The tags of a node's pieces, in script order, as BIP 379 has them

abbrev pub wrapper_tags : Wrapper → List ℕ
wrapper_tags alt = TOALTSTACK ∷ SUBTREE ∷ FROMALTSTACK ∷ []
wrapper_tags swap = SWAP ∷ SUBTREE ∷ []
wrapper_tags check = SUBTREE ∷ CHECKSIG ∷ []
wrapper_tags dupIf = DUP ∷ IF ∷ SUBTREE ∷ ENDIF ∷ []
wrapper_tags verify = SUBTREE ∷ VERIFY ∷ []
wrapper_tags nonZero = SIZE ∷ ZERONOTEQUAL ∷ IF ∷ SUBTREE ∷ ENDIF ∷ []
wrapper_tags zeroNotEqual = SUBTREE ∷ ZERONOTEQUAL ∷ []

abbrev pub combination_tags : Combination → List ℕ
combination_tags and_v = SUBTREE ∷ SUBTREE ∷ []
combination_tags and_b = SUBTREE ∷ SUBTREE ∷ BOOLAND ∷ []
combination_tags or_b = SUBTREE ∷ SUBTREE ∷ BOOLOR ∷ []
combination_tags or_d = SUBTREE ∷ IFDUP ∷ NOTIF ∷ SUBTREE ∷ ENDIF ∷ []
combination_tags or_c = SUBTREE ∷ NOTIF ∷ SUBTREE ∷ ENDIF ∷ []
combination_tags or_i = IF ∷ SUBTREE ∷ ELSE ∷ SUBTREE ∷ ENDIF ∷ []

abbrev pub tags_of : Bool → Terminal → List ℕ
tags_of segwit noTerminal = []
tags_of segwit isTrue = ONE ∷ []
tags_of segwit isFalse = ZERO ∷ []
tags_of segwit isPkK = key_code segwit ∷ []
tags_of segwit isRawPkH = DUP ∷ HASH160 ∷ HASH20 ∷ EQUAL ∷ VERIFY ∷ []
tags_of segwit isAfter = NUM ∷ CHECKLOCKTIMEVERIFY ∷ []
tags_of segwit isOlder = NUM ∷ CHECKSEQUENCEVERIFY ∷ []
tags_of segwit (is_hash h) = SIZE ∷ THIRTYTWO ∷ EQUAL ∷ VERIFY ∷ hash_opcode h ∷ hash_push h ∷ EQUAL ∷ []
tags_of segwit (is_wrapper w) = wrapper_tags w
tags_of segwit (is_combination c) = combination_tags c
tags_of segwit isAndOr = SUBTREE ∷ NOTIF ∷ SUBTREE ∷ ELSE ∷ SUBTREE ∷ ENDIF ∷ []
tags_of segwit isThresh = []
tags_of segwit isMulti = []
tags_of segwit isMultiA = []

-- a thresh's, the last one first, with so many children behind the first
abbrev pub add_tags : ℕ → List ℕ → List ℕ
add_tags zero rest = rest
add_tags (suc n) rest = ADD ∷ SUBTREE ∷ add_tags n rest

abbrev pub thresh_tags : ℕ → List ℕ
thresh_tags further = EQUAL ∷ NUM ∷ add_tags further (SUBTREE ∷ [])

-- A lexeme that can be written: an opcode with a code from 1 on, a push with as many bytes as its code says

abbrev pub Whole : Lexeme → Type 0
Whole (op code) = 1 ≤ code
Whole (num n) = Unit {0}
Whole (push code d) = length d.bytes ≡ data_length code
