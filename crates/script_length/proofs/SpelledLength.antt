-- How many bytes the spelling of a tree has: what each of its nodes adds, without the VERIFY of each v: over a script that ends in an opcode with a verifying form. Assumes nothing.
-- Why: two lexemes are spelled as one only where the second is a VERIFY, no tree's script begins with one, and so a tree's own script and what stands behind it share at most the byte of a VERIFY that comes next.
use mathlib.Core.Path.{◌≡◌, refl, ap, ◌∙◌}
use mathlib.Core.Bool.{Bool, true, false}
use mathlib.Core.List.{List, [], ◌∷◌}
use Prim.Native.Nat.{ℕ, suc, ◌+◌}
use native.Mathlib.Omega.{arith}
use lib.ListN.{length, length-append}
use Rattle.lex.specs.Token.{Data, Lexeme, op, num, push}
use Rattle.lex.specs.Token.{BOOLAND, BOOLOR, ADD, EQUAL, NUMEQUAL, CHECKSIG, CHECKSIGADD, CHECKMULTISIG, CHECKSEQUENCEVERIFY, CHECKLOCKTIMEVERIFY, FROMALTSTACK, TOALTSTACK, DUP, IF, IFDUP, NOTIF, ELSE, ENDIF, ZERONOTEQUAL, SIZE, SWAP, VERIFY, HASH160, HASH20, BYTES32}
use Rattle.spelling.specs.Spell.{has_fused, number_bytes, digits, instruction_bytes, verified_bytes, is_verify, is_fusible, fuses, spelling, spell}
use Rattle.spelling.proofs.ScriptSpelling.{is_verify_lem}
use Rattle.tables.specs.Choose.{pick}
use Rattle.tables.specs.Tables.{flat}
use Rattle.standard.specs.Tree.{Key, key, Hash, sha256, hash256, ripemd160, hash160, Leaf, True, False, PkK, RawPkH, After, Older, HashLock, Multi, MultiA, Wrapper, alt, swap, check, dupIf, verify, nonZero, zeroNotEqual, Combination, and_v, and_b, or_b, or_d, or_c, or_i, Tree, Trees, leaf, wrap, join, and_or, thresh, nil, ◌⊳◌}
use Rattle.standard.specs.Written.{hash_opcode, hash_push, keys_before, added_keys_before, leaf_before, tree_before, added_trees_before, written}
use Rattle.script_length.specs.Length.{wrapper_bytes, combination_bytes}

-- The length of a tree's script

abbrev pub keys_bytes : List Key → ℕ
keys_bytes [] = 0
keys_bytes (key code d ∷ ks) = suc (length d.bytes) + keys_bytes ks

abbrev pub added_keys_bytes : List Data → ℕ
added_keys_bytes [] = 0
added_keys_bytes (d ∷ ds) = suc (suc (length d.bytes)) + added_keys_bytes ds

abbrev pub leaf_bytes : Leaf → ℕ
leaf_bytes True = 1
leaf_bytes False = 1
leaf_bytes (PkK (key code d)) = suc (length d.bytes)
leaf_bytes (RawPkH d) = 4 + length d.bytes
leaf_bytes (After n) = length (number_bytes n) + 1
leaf_bytes (Older n) = length (number_bytes n) + 1
leaf_bytes (HashLock h d) = 7 + length d.bytes
leaf_bytes (Multi k ks) = length (number_bytes k) + keys_bytes ks + length (number_bytes (length ks)) + 1
leaf_bytes (MultiA k d ds) = added_keys_bytes (d ∷ ds) + length (number_bytes k) + 1

abbrev pub leaf_ends : Leaf → Bool
leaf_ends True = false
leaf_ends False = false
leaf_ends (PkK k) = false
leaf_ends (RawPkH d) = false
leaf_ends (After n) = false
leaf_ends (Older n) = false
leaf_ends (HashLock h d) = true
leaf_ends (Multi k ks) = true
leaf_ends (MultiA k d ds) = true

abbrev pub wrapper_ends : Wrapper → Bool → Bool
wrapper_ends alt b = false
wrapper_ends swap b = b
wrapper_ends check b = true
wrapper_ends dupIf b = false
wrapper_ends verify b = false
wrapper_ends nonZero b = false
wrapper_ends zeroNotEqual b = false

abbrev pub combination_ends : Combination → Bool → Bool
combination_ends and_v b = b
combination_ends and_b b = false
combination_ends or_b b = false
combination_ends or_d b = false
combination_ends or_c b = false
combination_ends or_i b = false

-- whether a tree's script ends in an opcode that has a verifying form
abbrev pub tree_ends : Tree → Bool
tree_ends (leaf l) = leaf_ends l
tree_ends (wrap w x) = wrapper_ends w (tree_ends x)
tree_ends (join c x y) = combination_ends c (tree_ends y)
tree_ends (and_or x y z) = false
tree_ends (thresh k x xs) = true

abbrev mutual
  pub tree_bytes : Tree → ℕ
  tree_bytes (leaf l) = leaf_bytes l
  tree_bytes (wrap w x) = tree_bytes x + wrapper_bytes w (tree_ends x)
  tree_bytes (join c x y) = tree_bytes x + tree_bytes y + combination_bytes c
  tree_bytes (and_or x y z) = tree_bytes x + tree_bytes y + tree_bytes z + 3
  tree_bytes (thresh k x xs) = tree_bytes x + added_trees_bytes xs + length (number_bytes k) + 1

  pub added_trees_bytes : Trees → ℕ
  added_trees_bytes nil = 0
  added_trees_bytes (t ⊳ ts) = tree_bytes t + added_trees_bytes ts + 1

-- One lexeme more

-- the byte that a VERIFY that comes next has in common with the opcode before it
abbrev verify_first : List Lexeme → ℕ
verify_first [] = 0
verify_first (l ∷ ls) = pick (is_verify l) 1 0

plain_first : (l : Lexeme) (rest : List Lexeme) → is_fusible l ≡ false → length (spell (l ∷ rest)) ≡ length (instruction_bytes l) + length (spell rest)
unfolding spell
plain_first l [] e = length-append (instruction_bytes l) []
plain_first l (m ∷ rest) e =
    let f : fuses l m ≡ false = ap (λ (b : Bool). pick b (is_verify m) false) e in
    ap (λ (b : Bool). length (flat (pick b (verified_bytes l ∷ spelling rest) (instruction_bytes l ∷ spelling (m ∷ rest))))) f
    ∙ length-append (instruction_bytes l) (flat (spelling (m ∷ rest)))

opcode_first : (code : ℕ) (rest : List Lexeme) → has_fused code ≡ false → length (spell (op code ∷ rest)) ≡ suc (length (spell rest))
opcode_first code rest e = plain_first (op code) rest e ∙ omega arith

push_first : (code : ℕ) (d : Data) (rest : List Lexeme) → length (spell (push code d ∷ rest)) ≡ suc (length d.bytes) + length (spell rest)
push_first code d rest = plain_first (push code d) rest refl

number_first : (n : ℕ) (rest : List Lexeme) → length (spell (num n ∷ rest)) ≡ length (number_bytes n) + length (spell rest)
number_first n rest = plain_first (num n) rest refl

verify_first_lem : (rest : List Lexeme) → length (spell (op VERIFY ∷ rest)) ≡ suc (length (spell rest))
unfolding has_fused
verify_first_lem rest = opcode_first VERIFY rest refl

-- an opcode that has a verifying form
fused_verify : (code : ℕ) (m : Lexeme) (rest : List Lexeme) → has_fused code ≡ true → is_verify m ≡ true → length (spell (op code ∷ m ∷ rest)) + 1 ≡ suc (length (spell (m ∷ rest)))
unfolding spell
fused_verify code m rest e g =
    let f : fuses (op code) m ≡ true = ap (λ (b : Bool). pick b (is_verify m) false) e ∙ g in
    let a : length (spell (op code ∷ m ∷ rest)) ≡ suc (length (spell rest)) =
    ap (λ (b : Bool). length (flat (pick b (verified_bytes (op code) ∷ spelling rest) (instruction_bytes (op code) ∷ spelling (m ∷ rest))))) f in
    let b : length (spell (m ∷ rest)) ≡ suc (length (spell rest)) = ap (λ (x : Lexeme). length (spell (x ∷ rest))) (is_verify_lem m g) ∙ verify_first_lem rest in
    omega (arith, a, b)

not_fused : (code : ℕ) (m : Lexeme) (rest : List Lexeme) → has_fused code ≡ true → is_verify m ≡ false → length (spell (op code ∷ m ∷ rest)) ≡ suc (length (spell (m ∷ rest)))
unfolding spell
not_fused code m rest e g =
    let f : fuses (op code) m ≡ false = ap (λ (b : Bool). pick b (is_verify m) false) e ∙ g in
    ap (λ (b : Bool). length (flat (pick b (verified_bytes (op code) ∷ spelling rest) (instruction_bytes (op code) ∷ spelling (m ∷ rest))))) f

fusible_first : (code : ℕ) (rest : List Lexeme) → has_fused code ≡ true → length (spell (op code ∷ rest)) + verify_first rest ≡ suc (length (spell rest))
unfolding spell
fusible_first code [] e = refl
fusible_first code (m ∷ rest) e = by (is_verify m) refl
  where
    by : (b : Bool) → is_verify m ≡ b → length (spell (op code ∷ m ∷ rest)) + pick b 1 0 ≡ suc (length (spell (m ∷ rest)))
    by true g = fused_verify code m rest e g
    by false g = omega (arith, not_fused code m rest e g)

-- No tree's script begins with VERIFY

no_verify : (t : Tree) (rest : List Lexeme) → verify_first (tree_before t rest) ≡ 0
no_verify (leaf True) rest = refl
no_verify (leaf False) rest = refl
no_verify (leaf (PkK (key code d))) rest = refl
no_verify (leaf (RawPkH d)) rest = refl
no_verify (leaf (After n)) rest = refl
no_verify (leaf (Older n)) rest = refl
no_verify (leaf (HashLock h d)) rest = refl
no_verify (leaf (Multi k ks)) rest = refl
no_verify (leaf (MultiA k d ds)) rest = refl
no_verify (wrap alt x) rest = refl
no_verify (wrap swap x) rest = refl
no_verify (wrap check x) rest = no_verify x (op CHECKSIG ∷ rest)
no_verify (wrap dupIf x) rest = refl
no_verify (wrap verify x) rest = no_verify x (op VERIFY ∷ rest)
no_verify (wrap nonZero x) rest = refl
no_verify (wrap zeroNotEqual x) rest = no_verify x (op ZERONOTEQUAL ∷ rest)
no_verify (join and_v x y) rest = no_verify x (tree_before y rest)
no_verify (join and_b x y) rest = no_verify x (tree_before y (op BOOLAND ∷ rest))
no_verify (join or_b x y) rest = no_verify x (tree_before y (op BOOLOR ∷ rest))
no_verify (join or_d x y) rest = no_verify x (op IFDUP ∷ op NOTIF ∷ tree_before y (op ENDIF ∷ rest))
no_verify (join or_c x y) rest = no_verify x (op NOTIF ∷ tree_before y (op ENDIF ∷ rest))
no_verify (join or_i x y) rest = refl
no_verify (and_or x y z) rest = no_verify x (op NOTIF ∷ tree_before z (op ELSE ∷ tree_before y (op ENDIF ∷ rest)))
no_verify (thresh k x xs) rest = no_verify x (added_trees_before xs (num k ∷ op EQUAL ∷ rest))

-- The length of what is written before something

-- the byte that a script and what stands behind it have in common
abbrev shared : Bool → List Lexeme → ℕ
shared ends rest = pick ends (verify_first rest) 0

none_shared : (ends : Bool) (rest : List Lexeme) → verify_first rest ≡ 0 → shared ends rest ≡ 0
none_shared true rest e = e
none_shared false rest e = refl

keys_length : (ks : List Key) (rest : List Lexeme) → length (spell (keys_before ks rest)) ≡ keys_bytes ks + length (spell rest)
keys_length [] rest = omega arith
keys_length (key code d ∷ ks) rest = push_first code d (keys_before ks rest) ∙ omega (arith, keys_length ks rest)

added_keys_length : (ds : List Data) (rest : List Lexeme) → length (spell (added_keys_before ds rest)) ≡ added_keys_bytes ds + length (spell rest)
unfolding has_fused
added_keys_length [] rest = omega arith
added_keys_length (d ∷ ds) rest =
    push_first BYTES32 d (op CHECKSIGADD ∷ added_keys_before ds rest) ∙ omega (arith, opcode_first CHECKSIGADD (added_keys_before ds rest) refl, added_keys_length ds rest)

hash_plain : (h : Hash) → has_fused (hash_opcode h) ≡ false
unfolding has_fused
hash_plain sha256 = refl
hash_plain hash256 = refl
hash_plain ripemd160 = refl
hash_plain hash160 = refl

no_verify_in_keys : (ds : List Data) (k : ℕ) (rest : List Lexeme) → verify_first (added_keys_before ds (num k ∷ rest)) ≡ 0
no_verify_in_keys [] k rest = refl
no_verify_in_keys (d ∷ ds) k rest = refl

leaf_length : (l : Leaf) (rest : List Lexeme) → length (spell (leaf_before l rest)) + shared (leaf_ends l) rest ≡ leaf_bytes l + length (spell rest)
unfolding has_fused number_bytes digits
leaf_length True rest = omega (arith, number_first 1 rest)
leaf_length False rest = omega (arith, number_first 0 rest)
leaf_length (PkK (key code d)) rest = omega (arith, push_first code d rest)
leaf_length (RawPkH d) rest =
    omega (
      arith,
      opcode_first DUP (op HASH160 ∷ push HASH20 d ∷ op EQUAL ∷ op VERIFY ∷ rest) refl,
      opcode_first HASH160 (push HASH20 d ∷ op EQUAL ∷ op VERIFY ∷ rest) refl,
      push_first HASH20 d (op EQUAL ∷ op VERIFY ∷ rest),
      fusible_first EQUAL (op VERIFY ∷ rest) refl,
      verify_first_lem rest,
    )
leaf_length (After n) rest = omega (arith, number_first n (op CHECKLOCKTIMEVERIFY ∷ rest), opcode_first CHECKLOCKTIMEVERIFY rest refl)
leaf_length (Older n) rest = omega (arith, number_first n (op CHECKSEQUENCEVERIFY ∷ rest), opcode_first CHECKSEQUENCEVERIFY rest refl)
leaf_length (HashLock h d) rest =
    omega (
      arith,
      opcode_first SIZE (num 32 ∷ op EQUAL ∷ op VERIFY ∷ op (hash_opcode h) ∷ push (hash_push h) d ∷ op EQUAL ∷ rest) refl,
      number_first 32 (op EQUAL ∷ op VERIFY ∷ op (hash_opcode h) ∷ push (hash_push h) d ∷ op EQUAL ∷ rest),
      fusible_first EQUAL (op VERIFY ∷ op (hash_opcode h) ∷ push (hash_push h) d ∷ op EQUAL ∷ rest) refl,
      verify_first_lem (op (hash_opcode h) ∷ push (hash_push h) d ∷ op EQUAL ∷ rest),
      opcode_first (hash_opcode h) (push (hash_push h) d ∷ op EQUAL ∷ rest) (hash_plain h),
      push_first (hash_push h) d (op EQUAL ∷ rest),
      fusible_first EQUAL rest refl,
    )
leaf_length (Multi k ks) rest =
    omega (
      arith,
      number_first k (keys_before ks (num (length ks) ∷ op CHECKMULTISIG ∷ rest)),
      keys_length ks (num (length ks) ∷ op CHECKMULTISIG ∷ rest),
      number_first (length ks) (op CHECKMULTISIG ∷ rest),
      fusible_first CHECKMULTISIG rest refl,
    )
leaf_length (MultiA k d ds) rest =
    omega (
      arith,
      push_first BYTES32 d (op CHECKSIG ∷ added_keys_before ds (num k ∷ op NUMEQUAL ∷ rest)),
      fusible_first CHECKSIG (added_keys_before ds (num k ∷ op NUMEQUAL ∷ rest)) refl,
      no_verify_in_keys ds k (op NUMEQUAL ∷ rest),
      added_keys_length ds (num k ∷ op NUMEQUAL ∷ rest),
      number_first k (op NUMEQUAL ∷ rest),
      fusible_first NUMEQUAL rest refl,
    )

-- a script before what doesn't begin with VERIFY
abbrev Before : Tree → Type 0
Before x = (rest : List Lexeme) → length (spell (tree_before x rest)) + shared (tree_ends x) rest ≡ tree_bytes x + length (spell rest)

apart : (x : Tree) → Before x → (rest : List Lexeme) → verify_first rest ≡ 0 → length (spell (tree_before x rest)) ≡ tree_bytes x + length (spell rest)
apart x before rest e = omega (arith, before rest, none_shared (tree_ends x) rest e)

wrapped_length : (w : Wrapper) (x : Tree) → Before x → Before (wrap w x)
unfolding has_fused
wrapped_length alt x before rest = omega (arith, opcode_first TOALTSTACK (tree_before x (op FROMALTSTACK ∷ rest)) refl, apart x before (op FROMALTSTACK ∷ rest) refl, opcode_first FROMALTSTACK rest refl)
wrapped_length swap x before rest = omega (arith, opcode_first SWAP (tree_before x rest) refl, before rest)
wrapped_length check x before rest = omega (arith, apart x before (op CHECKSIG ∷ rest) refl, fusible_first CHECKSIG rest refl)
wrapped_length dupIf x before rest =
    omega (arith, opcode_first DUP (op IF ∷ tree_before x (op ENDIF ∷ rest)) refl, opcode_first IF (tree_before x (op ENDIF ∷ rest)) refl, apart x before (op ENDIF ∷ rest) refl, opcode_first ENDIF rest refl)
wrapped_length verify x before rest = by (tree_ends x) (before (op VERIFY ∷ rest))
  where
    by : (b : Bool) → length (spell (tree_before x (op VERIFY ∷ rest))) + shared b (op VERIFY ∷ rest) ≡ tree_bytes x + length (spell (op VERIFY ∷ rest))
        → length (spell (tree_before x (op VERIFY ∷ rest))) + 0 ≡ tree_bytes x + pick b 0 1 + length (spell rest)
    by true e = omega (arith, e, verify_first_lem rest)
    by false e = omega (arith, e, verify_first_lem rest)
wrapped_length nonZero x before rest =
    omega (
      arith,
      opcode_first SIZE (op ZERONOTEQUAL ∷ op IF ∷ tree_before x (op ENDIF ∷ rest)) refl,
      opcode_first ZERONOTEQUAL (op IF ∷ tree_before x (op ENDIF ∷ rest)) refl,
      opcode_first IF (tree_before x (op ENDIF ∷ rest)) refl,
      apart x before (op ENDIF ∷ rest) refl,
      opcode_first ENDIF rest refl,
    )
wrapped_length zeroNotEqual x before rest = omega (arith, apart x before (op ZERONOTEQUAL ∷ rest) refl, opcode_first ZERONOTEQUAL rest refl)

joined_length : (c : Combination) (x y : Tree) → Before x → Before y → Before (join c x y)
unfolding has_fused
joined_length and_v x y first second rest = omega (arith, apart x first (tree_before y rest) (no_verify y rest), second rest)
joined_length and_b x y first second rest =
    omega (arith, apart x first (tree_before y (op BOOLAND ∷ rest)) (no_verify y (op BOOLAND ∷ rest)), apart y second (op BOOLAND ∷ rest) refl, opcode_first BOOLAND rest refl)
joined_length or_b x y first second rest =
    omega (arith, apart x first (tree_before y (op BOOLOR ∷ rest)) (no_verify y (op BOOLOR ∷ rest)), apart y second (op BOOLOR ∷ rest) refl, opcode_first BOOLOR rest refl)
joined_length or_d x y first second rest =
    omega (
      arith,
      apart x first (op IFDUP ∷ op NOTIF ∷ tree_before y (op ENDIF ∷ rest)) refl,
      opcode_first IFDUP (op NOTIF ∷ tree_before y (op ENDIF ∷ rest)) refl,
      opcode_first NOTIF (tree_before y (op ENDIF ∷ rest)) refl,
      apart y second (op ENDIF ∷ rest) refl,
      opcode_first ENDIF rest refl,
    )
joined_length or_c x y first second rest =
    omega (
      arith,
      apart x first (op NOTIF ∷ tree_before y (op ENDIF ∷ rest)) refl,
      opcode_first NOTIF (tree_before y (op ENDIF ∷ rest)) refl,
      apart y second (op ENDIF ∷ rest) refl,
      opcode_first ENDIF rest refl,
    )
joined_length or_i x y first second rest =
    omega (
      arith,
      opcode_first IF (tree_before x (op ELSE ∷ tree_before y (op ENDIF ∷ rest))) refl,
      apart x first (op ELSE ∷ tree_before y (op ENDIF ∷ rest)) refl,
      opcode_first ELSE (tree_before y (op ENDIF ∷ rest)) refl,
      apart y second (op ENDIF ∷ rest) refl,
      opcode_first ENDIF rest refl,
    )

and_or_length : (x y z : Tree) → Before x → Before y → Before z → Before (and_or x y z)
unfolding has_fused
and_or_length x y z first second third rest =
    omega (
      arith,
      apart x first (op NOTIF ∷ tree_before z (op ELSE ∷ tree_before y (op ENDIF ∷ rest))) refl,
      opcode_first NOTIF (tree_before z (op ELSE ∷ tree_before y (op ENDIF ∷ rest))) refl,
      apart z third (op ELSE ∷ tree_before y (op ENDIF ∷ rest)) refl,
      opcode_first ELSE (tree_before y (op ENDIF ∷ rest)) refl,
      apart y second (op ENDIF ∷ rest) refl,
      opcode_first ENDIF rest refl,
    )

no_verify_in_trees : (xs : Trees) (k : ℕ) (rest : List Lexeme) → verify_first (added_trees_before xs (num k ∷ rest)) ≡ 0
no_verify_in_trees nil k rest = refl
no_verify_in_trees (x ⊳ xs) k rest = no_verify x (op ADD ∷ added_trees_before xs (num k ∷ rest))

thresh_length : (k : ℕ) (x : Tree) (xs : Trees) → Before x
    → ((rest : List Lexeme) → length (spell (added_trees_before xs rest)) ≡ added_trees_bytes xs + length (spell rest)) → Before (thresh k x xs)
unfolding has_fused
thresh_length k x xs first others rest =
    omega (
      arith,
      apart x first (added_trees_before xs (num k ∷ op EQUAL ∷ rest)) (no_verify_in_trees xs k (op EQUAL ∷ rest)),
      others (num k ∷ op EQUAL ∷ rest),
      number_first k (op EQUAL ∷ rest),
      fusible_first EQUAL rest refl,
    )

added_length : (x : Tree) (xs : Trees) (rest : List Lexeme) → Before x
    → length (spell (added_trees_before xs rest)) ≡ added_trees_bytes xs + length (spell rest) → length (spell (added_trees_before (x ⊳ xs) rest)) ≡ added_trees_bytes (x ⊳ xs) + length (spell rest)
unfolding has_fused
added_length x xs rest first others =
    omega (arith, apart x first (op ADD ∷ added_trees_before xs rest) refl, opcode_first ADD (added_trees_before xs rest) refl, others)

mutual
  before_rest : (t : Tree) (rest : List Lexeme) → length (spell (tree_before t rest)) + shared (tree_ends t) rest ≡ tree_bytes t + length (spell rest)
  before_rest (leaf l) rest = leaf_length l rest
  before_rest (wrap w x) rest = wrapped_length w x (λ more. before_rest x more) rest
  before_rest (join c x y) rest = joined_length c x y (λ more. before_rest x more) (λ more. before_rest y more) rest
  before_rest (and_or x y z) rest = and_or_length x y z (λ more. before_rest x more) (λ more. before_rest y more) (λ more. before_rest z more) rest
  before_rest (thresh k x xs) rest = thresh_length k x xs (λ more. before_rest x more) (λ more. added_before_rest xs more) rest

  added_before_rest : (xs : Trees) (rest : List Lexeme) → length (spell (added_trees_before xs rest)) ≡ added_trees_bytes xs + length (spell rest)
  added_before_rest nil rest = omega arith
  added_before_rest (x ⊳ xs) rest = added_length x xs rest (λ more. before_rest x more) (added_before_rest xs rest)

-- THEOREM: the length of a tree's spelling
pub spelled_length : (t : Tree) → length (spell (written t)) ≡ tree_bytes t
unfolding spell written
spelled_length t = omega (arith, apart t (before_rest t) [] refl)
