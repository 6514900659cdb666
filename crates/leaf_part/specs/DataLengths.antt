-- How many bytes a key or hash has is told where it is read, by several definitions: `data_length` of a push's code (lex/specs/Token.antt); `key_length`, `hash_length`, `keys_at` and `datas_at` of a tree that is read back (standard/specs/Table.antt); `data_bytes` and `key_bytes` of a node's shape (encoding/specs/Form.antt); `leaf_bytes` of a node's kind (LeafPart). They agree, for every kind of node, every hash and both script kinds. Assumes nothing.
-- Why: each is a table, so every row is computed; a kind beyond the tables has neither key nor hash.
use Rattle.std.specs.Prelude.{◌≡◌, refl, Bool, true, false, ◌&&◌, List, [], ◌∷◌, ℕ, ◌≤◌, eqb, ltb}
use Rattle.std.proofs.Common.{◌∙◌, arith, eqb-true, ne_eqb, ltb-true, ltb-false}
use Rattle.std.proofs.Math.Option.{Option, none, some}
use Rattle.tables.specs.Choose.{pick, look}
use Rattle.tables.proofs.BoolLaws.{left_true, right_true}
use Rattle.instruction.proofs.LowLaws.{below}
use Rattle.lex.specs.Token.{data_length, data_at, HASH20, BYTES32, BYTES33}
use Rattle.standard.specs.Tree.{key, Hash, sha256, hash256, ripemd160, hash160, RawPkH, Trees, leaf, ◌⊳◌}
use Rattle.standard.specs.Written.{hash_push}
use Rattle.standard.specs.Table.{Node, Terminal, noTerminal, isTrue, isFalse, isPkK, isRawPkH, isAfter, isOlder, is_hash, is_wrapper, is_combination, isAndOr, isThresh, isMulti, isMultiA, terminals, terminal_of, hash_length, key_code, key_length, keys_at, datas_at, add_terminal}
use Rattle.encoding.specs.Form.{Shape, shape_of}
use Rattle.leaf_part.specs.LeafPart.{leaf_bytes}

-- Keys and hashes as they are pushed, and as they are read back

pub key_length_lem : (segwit : Bool) → key_length segwit ≡ data_length (key_code segwit)
unfolding data_length
key_length_lem true = refl
key_length_lem false = refl

pub hash_length_lem : (h : Hash) → hash_length h ≡ data_length (hash_push h)
unfolding data_length
hash_length_lem sha256 = refl
hash_length_lem hash256 = refl
hash_length_lem ripemd160 = refl
hash_length_lem hash160 = refl

pub raw_hash_read : (segwit : Bool) (script keys : List ℕ) (n : Node) (ts : Trees) → add_terminal segwit script keys isRawPkH n ts ≡ some (leaf (RawPkH (data_at script n.place (data_length HASH20))) ⊳ ts)
unfolding data_length
raw_hash_read segwit script keys n ts = refl

pub multi_key_read : (script : List ℕ) (place : ℕ) → keys_at script (place ∷ []) ≡ key BYTES33 (data_at script place (data_length BYTES33)) ∷ []
unfolding data_length
multi_key_read script place = refl

pub multi_a_key_read : (script : List ℕ) (place : ℕ) → datas_at script (place ∷ []) ≡ data_at script place (data_length BYTES32) ∷ []
unfolding data_length
multi_a_key_read script place = refl

-- A node's shape

-- the push of the key or hash that a node holds
abbrev pub own_push : Bool → Terminal → Option ℕ
own_push segwit noTerminal = none
own_push segwit isTrue = none
own_push segwit isFalse = none
own_push segwit isPkK = some (key_code segwit)
own_push segwit isRawPkH = some HASH20
own_push segwit isAfter = none
own_push segwit isOlder = none
own_push segwit (is_hash h) = some (hash_push h)
own_push segwit (is_wrapper w) = none
own_push segwit (is_combination c) = none
own_push segwit isAndOr = none
own_push segwit isThresh = none
own_push segwit isMulti = none
own_push segwit isMultiA = none

-- the push of each key that a node names in the key table
abbrev pub named_push : Terminal → Option ℕ
named_push noTerminal = none
named_push isTrue = none
named_push isFalse = none
named_push isPkK = none
named_push isRawPkH = none
named_push isAfter = none
named_push isOlder = none
named_push (is_hash h) = none
named_push (is_wrapper w) = none
named_push (is_combination c) = none
named_push isAndOr = none
named_push isThresh = none
named_push isMulti = some BYTES33
named_push isMultiA = some BYTES32

abbrev pub bytes_pushed : Option ℕ → ℕ
bytes_pushed none = 0
bytes_pushed (some code) = data_length code

abbrev pub data_bytes_of : Option Shape → ℕ
data_bytes_of none = 0
data_bytes_of (some s) = s.data_bytes

abbrev pub key_bytes_of : Option Shape → ℕ
key_bytes_of none = 0
key_bytes_of (some s) = s.key_bytes

pub own_bytes : (segwit : Bool) (t : Terminal) → data_bytes_of (shape_of segwit t) ≡ bytes_pushed (own_push segwit t)
unfolding data_length
own_bytes segwit noTerminal = refl
own_bytes segwit isTrue = refl
own_bytes segwit isFalse = refl
own_bytes segwit isPkK = key_length_lem segwit
own_bytes segwit isRawPkH = refl
own_bytes segwit isAfter = refl
own_bytes segwit isOlder = refl
own_bytes segwit (is_hash h) = hash_length_lem h
own_bytes segwit (is_wrapper w) = refl
own_bytes segwit (is_combination c) = refl
own_bytes segwit isAndOr = refl
own_bytes segwit isThresh = refl
own_bytes segwit isMulti = refl
own_bytes segwit isMultiA = refl

pub named_bytes : (segwit : Bool) (t : Terminal) → key_bytes_of (shape_of segwit t) ≡ bytes_pushed (named_push t)
unfolding data_length
named_bytes segwit noTerminal = refl
named_bytes segwit isTrue = refl
named_bytes segwit isFalse = refl
named_bytes segwit isPkK = refl
named_bytes segwit isRawPkH = refl
named_bytes segwit isAfter = refl
named_bytes segwit isOlder = refl
named_bytes segwit (is_hash h) = refl
named_bytes segwit (is_wrapper w) = refl
named_bytes segwit (is_combination c) = refl
named_bytes segwit isAndOr = refl
named_bytes segwit isThresh = refl
named_bytes segwit isMulti = refl
named_bytes segwit isMultiA = refl

-- A leaf's part, by the number of its kind

abbrev listed_below : {A : Type 0} → ℕ → List (ℕ × A) → Bool
listed_below n [] = true
listed_below n (row ∷ rows) = ltb row.0 n && listed_below n rows

unlisted : {A : Type 0} (k n : ℕ) (rows : List (ℕ × A)) (other : A) → listed_below n rows ≡ true → n ≤ k → look k rows other ≡ other
unlisted k n [] other e h = refl
unlisted k n (row ∷ rows) other e h =
    let b = ltb-true row.0 n (left_true (ltb row.0 n) (listed_below n rows) e) in
    rw (ne_eqb k row.0 (λ q. omega (arith, q))) (unlisted k n rows other (right_true (ltb row.0 n) (listed_below n rows) e) h)

abbrev leaf_table : Bool → List (ℕ × ℕ)
leaf_table segwit = (3, pick segwit 33 32) ∷ (5, 20) ∷ (8, 32) ∷ (9, 32) ∷ (10, 20) ∷ (11, 20) ∷ []

listed_agrees : (segwit : Bool) (kind : ℕ) → ltb kind 29 ≡ true → look kind (leaf_table segwit) 0 ≡ data_bytes_of (shape_of segwit (terminal_of kind))
unfolding terminal_of
listed_agrees true kind h =
    eqb-true (look kind (leaf_table true) 0) (data_bytes_of (shape_of true (terminal_of kind)))
    (below 29 (λ (k : ℕ). eqb (look k (leaf_table true) 0) (data_bytes_of (shape_of true (terminal_of k)))) refl kind (ltb-true kind 29 h))
listed_agrees false kind h =
    eqb-true (look kind (leaf_table false) 0) (data_bytes_of (shape_of false (terminal_of kind)))
    (below 29 (λ (k : ℕ). eqb (look k (leaf_table false) 0) (data_bytes_of (shape_of false (terminal_of k)))) refl kind (ltb-true kind 29 h))

beyond_agrees : (segwit : Bool) (kind : ℕ) → ltb kind 29 ≡ false → look kind (leaf_table segwit) 0 ≡ data_bytes_of (shape_of segwit (terminal_of kind))
unfolding terminal_of
beyond_agrees segwit kind h =
    let far = ltb-false kind 29 h in
    let t : look kind terminals noTerminal ≡ noTerminal = unlisted kind 29 terminals noTerminal refl far in
    unlisted kind 29 (leaf_table segwit) 0 refl far ∙ rw t

kind_agrees : (segwit : Bool) (kind : ℕ) (b : Bool) → ltb kind 29 ≡ b → look kind (leaf_table segwit) 0 ≡ data_bytes_of (shape_of segwit (terminal_of kind))
kind_agrees segwit kind true h = listed_agrees segwit kind h
kind_agrees segwit kind false h = beyond_agrees segwit kind h

-- THEOREM: what is handed back for a node of any kind has as many bytes as its shape says, and so (`own_bytes`) as its push has
pub leaf_bytes_agree : (scriptKind kind : ℕ) → leaf_bytes scriptKind kind ≡ data_bytes_of (shape_of (eqb scriptKind 0) (terminal_of kind))
leaf_bytes_agree scriptKind kind = kind_agrees (eqb scriptKind 0) kind (ltb kind 29) refl

pub leaf_bytes_pushed : (scriptKind kind : ℕ) → leaf_bytes scriptKind kind ≡ bytes_pushed (own_push (eqb scriptKind 0) (terminal_of kind))
leaf_bytes_pushed scriptKind kind = leaf_bytes_agree scriptKind kind ∙ own_bytes (eqb scriptKind 0) (terminal_of kind)
