-- "Written with": BIP 379's column of scripts, as the lexemes of a tree, in script order. Nothing here speaks of the decoder.
use Rattle.std.specs.Prelude.{List, [], ◌∷◌, ◌++◌, ℕ, length}
use Rattle.lex.specs.Token.{Data, Lexeme, op, num, push}
use Rattle.lex.specs.Token.{BOOLAND, BOOLOR, ADD, EQUAL, NUMEQUAL, CHECKSIG, CHECKSIGADD, CHECKMULTISIG, CHECKSEQUENCEVERIFY, CHECKLOCKTIMEVERIFY, FROMALTSTACK, TOALTSTACK, DUP, IF, IFDUP, NOTIF, ELSE, ENDIF, ZERONOTEQUAL, SIZE, SWAP, VERIFY, RIPEMD160, HASH160, SHA256, HASH256, HASH20, BYTES32}
use Rattle.standard.specs.Tree.{Key, key, Hash, sha256, hash256, ripemd160, hash160, Leaf, True, False, PkK, RawPkH, After, Older, HashLock, Multi, MultiA, Wrapper, alt, swap, check, dupIf, verify, nonZero, zeroNotEqual, Combination, and_v, and_b, or_b, or_d, or_c, or_i, Tree, Trees, leaf, wrap, join, and_or, thresh, nil, ◌⊳◌}

-- a key's push
abbrev pub key_push : Key → Lexeme
key_push (key code d) = push code d

-- the opcode of a hash, and the code of the push that it is compared with
abbrev pub hash_opcode : Hash → ℕ
hash_opcode sha256 = SHA256
hash_opcode hash256 = HASH256
hash_opcode ripemd160 = RIPEMD160
hash_opcode hash160 = HASH160

abbrev pub hash_push : Hash → ℕ
hash_push sha256 = BYTES32
hash_push hash256 = BYTES32
hash_push ripemd160 = HASH20
hash_push hash160 = HASH20

-- Each function below writes in front of `rest`, what stands behind it in the script

-- <key1> ... <keyn>
abbrev pub keys_before : List Key → List Lexeme → List Lexeme
keys_before [] rest = rest
keys_before (k ∷ ks) rest = key_push k ∷ keys_before ks rest

-- <key2> CHECKSIGADD ... <keyn> CHECKSIGADD
abbrev pub added_keys_before : List Data → List Lexeme → List Lexeme
added_keys_before [] rest = rest
added_keys_before (d ∷ ds) rest = push BYTES32 d ∷ op CHECKSIGADD ∷ added_keys_before ds rest

abbrev pub leaf_before : Leaf → List Lexeme → List Lexeme
leaf_before True rest = num 1 ∷ rest
leaf_before False rest = num 0 ∷ rest
leaf_before (PkK k) rest = key_push k ∷ rest
leaf_before (RawPkH d) rest = op DUP ∷ op HASH160 ∷ push HASH20 d ∷ op EQUAL ∷ op VERIFY ∷ rest
leaf_before (After n) rest = num n ∷ op CHECKLOCKTIMEVERIFY ∷ rest
leaf_before (Older n) rest = num n ∷ op CHECKSEQUENCEVERIFY ∷ rest
leaf_before (HashLock h d) rest = op SIZE ∷ num 32 ∷ op EQUAL ∷ op VERIFY ∷ op (hash_opcode h) ∷ push (hash_push h) d ∷ op EQUAL ∷ rest
leaf_before (Multi k ks) rest = num k ∷ keys_before ks (num (length ks) ∷ op CHECKMULTISIG ∷ rest)
leaf_before (MultiA k d ds) rest = push BYTES32 d ∷ op CHECKSIG ∷ added_keys_before ds (num k ∷ op NUMEQUAL ∷ rest)

-- a wrapper is written before [X] and after it
abbrev pub opening : Wrapper → List Lexeme
opening alt = op TOALTSTACK ∷ []
opening swap = op SWAP ∷ []
opening check = []
opening dupIf = op DUP ∷ op IF ∷ []
opening verify = []
opening nonZero = op SIZE ∷ op ZERONOTEQUAL ∷ op IF ∷ []
opening zeroNotEqual = []

abbrev pub closing : Wrapper → List Lexeme
closing alt = op FROMALTSTACK ∷ []
closing swap = []
closing check = op CHECKSIG ∷ []
closing dupIf = op ENDIF ∷ []
closing verify = op VERIFY ∷ []
closing nonZero = op ENDIF ∷ []
closing zeroNotEqual = op ZERONOTEQUAL ∷ []

-- a combination is written before [X], between [X] and [Y], and after [Y]
abbrev pub first : Combination → List Lexeme
first and_v = []
first and_b = []
first or_b = []
first or_d = []
first or_c = []
first or_i = op IF ∷ []

abbrev pub between : Combination → List Lexeme
between and_v = []
between and_b = []
between or_b = []
between or_d = op IFDUP ∷ op NOTIF ∷ []
between or_c = op NOTIF ∷ []
between or_i = op ELSE ∷ []

abbrev pub last : Combination → List Lexeme
last and_v = []
last and_b = op BOOLAND ∷ []
last or_b = op BOOLOR ∷ []
last or_d = op ENDIF ∷ []
last or_c = op ENDIF ∷ []
last or_i = op ENDIF ∷ []

abbrev mutual
  pub tree_before : Tree → List Lexeme → List Lexeme
  tree_before (leaf l) rest = leaf_before l rest
  tree_before (wrap w x) rest = opening w ++ tree_before x (closing w ++ rest)
  tree_before (join c x y) rest = first c ++ tree_before x (between c ++ tree_before y (last c ++ rest))
  tree_before (and_or x y z) rest = tree_before x (op NOTIF ∷ tree_before z (op ELSE ∷ tree_before y (op ENDIF ∷ rest)))
  tree_before (thresh k x xs) rest = tree_before x (added_trees_before xs (num k ∷ op EQUAL ∷ rest))

  -- [X2] ADD ... [Xn] ADD
  pub added_trees_before : Trees → List Lexeme → List Lexeme
  added_trees_before nil rest = rest
  added_trees_before (x ⊳ xs) rest = tree_before x (op ADD ∷ added_trees_before xs rest)

-- the lexemes of a tree
unfoldable pub written : Tree → List Lexeme
written t = tree_before t []
