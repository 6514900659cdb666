-- The spelling of lexemes that a script can give is bytes; it has at least one byte for two lexemes, and a tree's written form at least one lexeme for two nodes. So a script of at most 10,000 bytes is written for a tree of at most 40,000 nodes. Assumes nothing.
use Rattle.std.specs.Prelude.{◌≡◌, refl, Bool, true, false, List, [], ◌∷◌, ◌++◌, ℕ, suc, ◌+◌, ◌*◌, ◌/◌, ◌%◌, ◌≤◌, ◌<◌, eqb, leb, ltb, length}
use Rattle.std.proofs.Common.{sym, subst, true≢false, arith, leb-true, ltb-true, length-append}
use Rattle.instruction.proofs.LowLaws.{below}
use Rattle.lex.specs.Token.{Bytes, Lexeme, op, num, push, Data, data_length}
use Rattle.tables.specs.Choose.{pick}
use Rattle.tables.specs.Tables.{flat}
use Rattle.spelling.specs.Spell.{opcode_byte, fused_byte, push_bytes, digits, number_bytes, instruction_bytes, verified_bytes, fuses, spelling, spell}
use Rattle.spelling.specs.Lexemes.{Formed, AllFormed}
use Rattle.spelling.proofs.NumberSpelling.{bytes_more}
use Rattle.spelling.proofs.SpellingLexes.{instruction_some}
use Rattle.standard.specs.Tree.{Leaf, True, False, PkK, RawPkH, After, Older, HashLock, Multi, MultiA, Key, Wrapper, alt, swap, check, dupIf, verify, nonZero, zeroNotEqual, Combination, and_v, and_b, or_b, or_d, or_c, or_i, Tree, Trees, leaf, wrap, join, and_or, thresh, nil, ◌⊳◌, size, sizes}
use Rattle.standard.specs.Written.{keys_before, added_keys_before, leaf_before, opening, closing, first, between, last, tree_before, added_trees_before, written}

-- Bytes

pub bytes_append : (a b : List ℕ) → Bytes a → Bytes b → Bytes (a ++ b)
bytes_append [] b f g = g
bytes_append (x ∷ a) b f g = bytes_more x (a ++ b) (f 0) (bytes_append a b (λ j. f (suc j)) g)

no_bytes : Bytes []
no_bytes i = omega arith

opcode_is_byte : (c : ℕ) → c ≤ 27 → opcode_byte c < 256
opcode_is_byte c h = let e : ltb (opcode_byte c) 256 ≡ true = below 28 (λ (k : ℕ). ltb (opcode_byte k) 256) refl c (omega arith) in ltb-true (opcode_byte c) 256 e

fused_is_byte : (c : ℕ) → fused_byte c < 256
unfolding fused_byte
fused_is_byte c = by (eqb c 4) (eqb c 5) (eqb c 6)
  where
    by : (x y z : Bool) → pick x 0x88 (pick y 0x9d (pick z 0xad 0xaf)) < 256
    by true y z = omega arith
    by false true z = omega arith
    by false false true = omega arith
    by false false false = omega arith

digits_are_bytes : (n : ℕ) → n < 2147483648 → Bytes (digits n) × (length (digits n) < 256)
unfolding digits
digits_are_bytes n h = by (ltb n 0x80) (ltb n 0x8000) (ltb n 0x800000) refl refl refl
  where
    by : (x y z : Bool) → ltb n 0x80 ≡ x → ltb n 0x8000 ≡ y → ltb n 0x800000 ≡ z
        → (let d = pick x (n ∷ []) (pick y (n % 256 ∷ n / 256 ∷ []) (pick z (n % 256 ∷ n / 256 % 256 ∷ n / 65536 ∷ []) (n % 256 ∷ n / 256 % 256 ∷ n / 65536 % 256 ∷ n / 16777216 ∷ []))) in Bytes d × (length d < 256))
    by true y z e f g = let k = ltb-true n 0x80 e in (bytes_more n [] (omega arith) no_bytes, omega arith)
    by false true z e f g =
        let k = ltb-true n 0x8000 f in (bytes_more (n % 256) (n / 256 ∷ []) (omega arith) (bytes_more (n / 256) [] (omega arith) no_bytes), omega arith)
    by false false true e f g =
        let k = ltb-true n 0x800000 g in
        (bytes_more (n % 256) (n / 256 % 256 ∷ n / 65536 ∷ []) (omega arith) (bytes_more (n / 256 % 256) (n / 65536 ∷ []) (omega arith) (bytes_more (n / 65536) [] (omega arith) no_bytes)), omega arith)
    by false false false e f g = (
      bytes_more (n % 256) (n / 256 % 256 ∷ n / 65536 % 256 ∷ n / 16777216 ∷ []) (omega arith)
          (bytes_more (n / 256 % 256) (n / 65536 % 256 ∷ n / 16777216 ∷ []) (omega arith)
          (bytes_more (n / 65536 % 256) (n / 16777216 ∷ []) (omega arith) (bytes_more (n / 16777216) [] (omega arith) no_bytes))),
      omega arith,
    )

number_is_bytes : (n : ℕ) → n < 2147483648 → Bytes (number_bytes n)
unfolding number_bytes
number_is_bytes n h = by (eqb n 0) (leb n 16) refl
  where
    by : (x y : Bool) → leb n 16 ≡ y → Bytes (pick x (0x00 ∷ []) (pick y ((0x50 + n) ∷ []) (push_bytes (digits n))))
    by true y e = bytes_more 0 [] (omega arith) no_bytes
    by false true e = let k = leb-true n 16 e in bytes_more (0x50 + n) [] (omega arith) no_bytes
    by false false e = bytes_more (length (digits n)) (digits n) (digits_are_bytes n h).1 (digits_are_bytes n h).0

data_length_low : (c : ℕ) → data_length c < 256
unfolding data_length
data_length_low c = by (eqb c 29) (eqb c 30) (eqb c 31)
  where
    by : (x y z : Bool) → pick x 20 (pick y 32 (pick z 33 65)) < 256
    by true y z = omega arith
    by false true z = omega arith
    by false false true = omega arith
    by false false false = omega arith

instruction_is_bytes : (l : Lexeme) → Formed l → Bytes (instruction_bytes l)
instruction_is_bytes (op c) f = bytes_more (opcode_byte c) [] (opcode_is_byte c f.1) no_bytes
instruction_is_bytes (num n) f = number_is_bytes n f
instruction_is_bytes (push c d) f = bytes_more (length d.bytes) d.bytes (subst (λ (k : ℕ). k < 256) (sym f.2) (data_length_low c)) f.3

verified_is_bytes : (l : Lexeme) → Bytes (verified_bytes l)
verified_is_bytes (op c) = bytes_more (fused_byte c) [] (fused_is_byte c) no_bytes
verified_is_bytes (num n) = no_bytes
verified_is_bytes (push c d) = no_bytes

spelling_is_bytes : (ls : List Lexeme) → AllFormed ls → Bytes (flat (spelling ls))
spelling_is_bytes [] f = no_bytes
spelling_is_bytes (l ∷ []) f = bytes_append (instruction_bytes l) [] (instruction_is_bytes l f.0) no_bytes
spelling_is_bytes (l ∷ m ∷ ls) f = by (fuses l m) (spelling_is_bytes ls f.1.1) (spelling_is_bytes (m ∷ ls) f.1)
  where
    by : (b : Bool) → Bytes (flat (spelling ls)) → Bytes (flat (spelling (m ∷ ls))) → Bytes (flat (pick b (verified_bytes l ∷ spelling ls) (instruction_bytes l ∷ spelling (m ∷ ls))))
    by true g h = bytes_append (verified_bytes l) (flat (spelling ls)) (verified_is_bytes l) g
    by false g h = bytes_append (instruction_bytes l) (flat (spelling (m ∷ ls))) (instruction_is_bytes l f.0) h

pub spell_is_bytes : (ls : List Lexeme) → AllFormed ls → Bytes (spell ls)
unfolding spell
spell_is_bytes ls f = spelling_is_bytes ls f

-- Lengths

verified_some : (l m : Lexeme) → fuses l m ≡ true → 1 ≤ length (verified_bytes l)
verified_some (op c) m e = omega arith
verified_some (num n) m e = absurd (true≢false (sym e))
verified_some (push c d) m e = absurd (true≢false (sym e))

spelling_length : (ls : List Lexeme) → length ls ≤ 2 * length (flat (spelling ls))
spelling_length [] = omega arith
spelling_length (l ∷ []) = omega (arith, length-append (instruction_bytes l) [], instruction_some l)
spelling_length (l ∷ m ∷ ls) = by (fuses l m) refl (spelling_length ls) (spelling_length (m ∷ ls))
  where
    by : (b : Bool) → fuses l m ≡ b → length ls ≤ 2 * length (flat (spelling ls)) → length (m ∷ ls) ≤ 2 * length (flat (spelling (m ∷ ls)))
        → length (l ∷ m ∷ ls) ≤ 2 * length (flat (pick b (verified_bytes l ∷ spelling ls) (instruction_bytes l ∷ spelling (m ∷ ls))))
    by true e g h = omega (arith, length-append (verified_bytes l) (flat (spelling ls)), verified_some l m e)
    by false e g h = omega (arith, length-append (instruction_bytes l) (flat (spelling (m ∷ ls))), instruction_some l)

pub spell_length : (ls : List Lexeme) → length ls ≤ 2 * length (spell ls)
unfolding spell
spell_length ls = spelling_length ls

keys_longer : (ks : List Key) (rest : List Lexeme) → length rest ≤ length (keys_before ks rest)
keys_longer [] rest = omega arith
keys_longer (k ∷ ks) rest = omega (arith, keys_longer ks rest)

added_keys_longer : (ds : List Data) (rest : List Lexeme) → length rest ≤ length (added_keys_before ds rest)
added_keys_longer [] rest = omega arith
added_keys_longer (d ∷ ds) rest = omega (arith, added_keys_longer ds rest)

leaf_longer : (l : Leaf) (rest : List Lexeme) → 1 + length rest ≤ length (leaf_before l rest)
leaf_longer True rest = omega arith
leaf_longer False rest = omega arith
leaf_longer (PkK k) rest = omega arith
leaf_longer (RawPkH d) rest = omega arith
leaf_longer (After n) rest = omega arith
leaf_longer (Older n) rest = omega arith
leaf_longer (HashLock h d) rest = omega arith
leaf_longer (Multi k ks) rest = omega (arith, keys_longer ks (num (length ks) ∷ op 8 ∷ rest))
leaf_longer (MultiA k d ds) rest = omega (arith, added_keys_longer ds (num k ∷ op 5 ∷ rest))

-- a wrapper has an opcode of its own
wrapper_longer : (w : Wrapper) (x : Tree) (rest : List Lexeme) → ((more : List Lexeme) → size x + 1 + 2 * length more ≤ 2 * length (tree_before x more))
    → size x + 1 + 1 + 2 * length rest ≤ 2 * length (opening w ++ tree_before x (closing w ++ rest))
wrapper_longer alt x rest h = omega (arith, h (op 11 ∷ rest))
wrapper_longer swap x rest h = omega (arith, h rest)
wrapper_longer check x rest h = omega (arith, h (op 6 ∷ rest))
wrapper_longer dupIf x rest h = omega (arith, h (op 19 ∷ rest))
wrapper_longer verify x rest h = omega (arith, h (op 23 ∷ rest))
wrapper_longer nonZero x rest h = omega (arith, h (op 19 ∷ rest))
wrapper_longer zeroNotEqual x rest h = omega (arith, h (op 20 ∷ rest))

combination_longer : (c : Combination) (x y : Tree) (rest : List Lexeme) → ((more : List Lexeme) → size x + 1 + 2 * length more ≤ 2 * length (tree_before x more))
    → ((more : List Lexeme) → size y + 1 + 2 * length more ≤ 2 * length (tree_before y more))
    → size x + size y + 1 + 1 + 2 * length rest ≤ 2 * length (first c ++ tree_before x (between c ++ tree_before y (last c ++ rest)))
combination_longer and_v x y rest g h = omega (arith, g (tree_before y rest), h rest)
combination_longer and_b x y rest g h = omega (arith, g (tree_before y (op 1 ∷ rest)), h (op 1 ∷ rest))
combination_longer or_b x y rest g h = omega (arith, g (tree_before y (op 2 ∷ rest)), h (op 2 ∷ rest))
combination_longer or_d x y rest g h = omega (arith, g (op 16 ∷ op 17 ∷ tree_before y (op 19 ∷ rest)), h (op 19 ∷ rest))
combination_longer or_c x y rest g h = omega (arith, g (op 17 ∷ tree_before y (op 19 ∷ rest)), h (op 19 ∷ rest))
combination_longer or_i x y rest g h = omega (arith, g (op 18 ∷ tree_before y (op 19 ∷ rest)), h (op 19 ∷ rest))

mutual
  tree_longer : (t : Tree) (rest : List Lexeme) → size t + 1 + 2 * length rest ≤ 2 * length (tree_before t rest)
  tree_longer (leaf l) rest = omega (arith, leaf_longer l rest)
  tree_longer (wrap w x) rest = wrapper_longer w x rest (λ more. tree_longer x more)
  tree_longer (join c x y) rest = combination_longer c x y rest (λ more. tree_longer x more) (λ more. tree_longer y more)
  tree_longer (and_or x y z) rest =
      omega (arith, tree_longer x (op 17 ∷ tree_before z (op 18 ∷ tree_before y (op 19 ∷ rest))), tree_longer z (op 18 ∷ tree_before y (op 19 ∷ rest)), tree_longer y (op 19 ∷ rest))
  tree_longer (thresh k x xs) rest = omega (arith, tree_longer x (added_trees_before xs (num k ∷ op 4 ∷ rest)), trees_longer xs (num k ∷ op 4 ∷ rest))

  trees_longer : (ts : Trees) (rest : List Lexeme) → sizes ts + 2 * length rest ≤ 2 * length (added_trees_before ts rest)
  trees_longer nil rest = omega arith
  trees_longer (t ⊳ ts) rest = omega (arith, tree_longer t (op 3 ∷ added_trees_before ts rest), trees_longer ts rest)

pub size_by_bytes : (t : Tree) → size t ≤ 4 * length (spell (written t))
unfolding written
size_by_bytes t = omega (arith, tree_longer t [], spell_length (tree_before t []))
