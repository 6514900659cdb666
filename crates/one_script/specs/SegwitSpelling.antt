-- In kind 0 no NUMEQUALVERIFY is spelled: a multi_a is not allowed there, and nothing else is written with NUMEQUAL.
use Rattle.std.specs.Prelude.{◌≡◌, refl, Bool, true, false, ◌&&◌, not, List, [], ◌∷◌, ◌++◌, ℕ, ◌+◌, ◌≤◌, eqb, leb}
use Rattle.std.proofs.Common.{sym, ◌∙◌, true≢false, arith, leb-true}
use Rattle.std.proofs.lemmas.Bool.{eqb-false, not-true}
use Rattle.tables.specs.Choose.{pick}
use Rattle.lex.specs.Token.{Lexeme, op, num, push, EQUAL, NUMEQUAL, CHECKSIG}
use Rattle.instruction.proofs.LowLaws.{below}
use Rattle.spelling.specs.Spell.{has_fused, fused_byte, digits, number_bytes, opcode_byte, instruction_bytes, verified_bytes, fuses, spelling, push_bytes}
use Rattle.spelling.specs.Lexemes.{Formed, AllFormed, NoNumEqualVerify}
use Rattle.tables.proofs.BoolLaws.{left_true, right_true}
use Rattle.standard.specs.Tree.{Key, key, sha256, hash256, ripemd160, hash160, Leaf, True, False, PkK, RawPkH, After, Older, HashLock, Multi, MultiA, Wrapper, alt, swap, check, dupIf, verify, nonZero, zeroNotEqual, Combination, and_v, and_b, or_b, or_d, or_c, or_i, Tree, Trees, leaf, wrap, join, and_or, thresh, nil, ◌⊳◌}
use Rattle.standard.specs.Written.{keys_before, leaf_before, opening, closing, first, between, last, tree_before, added_trees_before, written}
use Rattle.standard.specs.Allowed.{multi_a_threshold, thresh_allowed, allowed_leaf, allowed, all_allowed}

abbrev is_num_equal : Lexeme → Bool
is_num_equal (op c) = eqb c NUMEQUAL
is_num_equal (num n) = false
is_num_equal (push c d) = false

-- none of these lexemes is NUMEQUAL
abbrev pub free : List Lexeme → Bool
free [] = true
free (l ∷ ls) = not (is_num_equal l) && free ls

-- Written

free_keys : (ks : List Key) (rest : List Lexeme) → free (keys_before ks rest) ≡ free rest
free_keys [] rest = refl
free_keys (key c d ∷ ks) rest = free_keys ks rest

free_leaf : (l : Leaf) (rest : List Lexeme) → allowed_leaf true l ≡ true → free (leaf_before l rest) ≡ free rest
free_leaf True rest g = refl
free_leaf False rest g = refl
free_leaf (PkK (key c d)) rest g = refl
free_leaf (RawPkH d) rest g = refl
free_leaf (After n) rest g = refl
free_leaf (Older n) rest g = refl
free_leaf (HashLock sha256 d) rest g = refl
free_leaf (HashLock hash256 d) rest g = refl
free_leaf (HashLock ripemd160 d) rest g = refl
free_leaf (HashLock hash160 d) rest g = refl
free_leaf (Multi k ks) rest g = free_keys ks _
free_leaf (MultiA k d ds) rest g = absurd (true≢false (sym (right_true (multi_a_threshold k) _ g)))

free_opening : (w : Wrapper) (rest : List Lexeme) → free (opening w ++ rest) ≡ free rest
free_opening alt rest = refl
free_opening swap rest = refl
free_opening check rest = refl
free_opening dupIf rest = refl
free_opening verify rest = refl
free_opening nonZero rest = refl
free_opening zeroNotEqual rest = refl

free_closing : (w : Wrapper) (rest : List Lexeme) → free (closing w ++ rest) ≡ free rest
free_closing alt rest = refl
free_closing swap rest = refl
free_closing check rest = refl
free_closing dupIf rest = refl
free_closing verify rest = refl
free_closing nonZero rest = refl
free_closing zeroNotEqual rest = refl

free_first : (c : Combination) (rest : List Lexeme) → free (first c ++ rest) ≡ free rest
free_first and_v rest = refl
free_first and_b rest = refl
free_first or_b rest = refl
free_first or_d rest = refl
free_first or_c rest = refl
free_first or_i rest = refl

free_between : (c : Combination) (rest : List Lexeme) → free (between c ++ rest) ≡ free rest
free_between and_v rest = refl
free_between and_b rest = refl
free_between or_b rest = refl
free_between or_d rest = refl
free_between or_c rest = refl
free_between or_i rest = refl

free_last : (c : Combination) (rest : List Lexeme) → free (last c ++ rest) ≡ free rest
free_last and_v rest = refl
free_last and_b rest = refl
free_last or_b rest = refl
free_last or_d rest = refl
free_last or_c rest = refl
free_last or_i rest = refl

mutual
  free_tree : (t : Tree) (rest : List Lexeme) → allowed true t ≡ true → free (tree_before t rest) ≡ free rest
  free_tree (leaf l) rest g = free_leaf l rest g
  free_tree (wrap w x) rest g = free_opening w _ ∙ free_tree x _ g ∙ free_closing w rest
  free_tree (join c x y) rest g =
      free_first c _ ∙ free_tree x _ (left_true (allowed true x) (allowed true y) g) ∙ free_between c _ ∙ free_tree y _ (right_true (allowed true x) (allowed true y) g) ∙ free_last c rest
  free_tree (and_or x y z) rest g =
      let g' = right_true (allowed true x) (allowed true y && allowed true z) g in
      free_tree x _ (left_true (allowed true x) (allowed true y && allowed true z) g) ∙ free_tree z _ (right_true (allowed true y) (allowed true z) g') ∙ free_tree y _ (left_true (allowed true y) (allowed true z) g')
  free_tree (thresh k x xs) rest g =
      let g' = right_true (thresh_allowed k x xs) (allowed true x && all_allowed true xs) g in
      free_tree x _ (left_true (allowed true x) (all_allowed true xs) g') ∙ free_trees xs _ (right_true (allowed true x) (all_allowed true xs) g')

  free_trees : (ts : Trees) (rest : List Lexeme) → all_allowed true ts ≡ true → free (added_trees_before ts rest) ≡ free rest
  free_trees nil rest g = refl
  free_trees (t ⊳ ts) rest g = free_tree t _ (left_true (allowed true t) (all_allowed true ts) g) ∙ free_trees ts rest (right_true (allowed true t) (all_allowed true ts) g)

pub segwit_free : (t : Tree) → allowed true t ≡ true → free (written t) ≡ true
unfolding written
segwit_free t g = free_tree t [] g

-- Spelled

push_is_no_opcode : (bytes : List ℕ) → push_bytes bytes ≡ 0x9d ∷ [] → ⊥
push_is_no_opcode [] e = let z : ◌≡◌ {A = ℕ} 0 0x9d = cc in omega arith
push_is_no_opcode (b ∷ bytes) e = let z : ◌≡◌ {A = ℕ} 0 1 = cc in omega arith

one_byte : (a b : ℕ) → (a ∷ []) ≡ (b ∷ []) → a ≡ b
one_byte a b e = cc

opcode_is_none : (c : ℕ) → 1 ≤ c → c ≤ 27 → opcode_byte c ∷ [] ≡ 0x9d ∷ [] → ⊥
opcode_is_none c l h e = let f : eqb (opcode_byte c) 0x9d ≡ false = tested in eqb-false (opcode_byte c) 0x9d f (one_byte (opcode_byte c) 0x9d e)
  where
    tested : eqb (opcode_byte c) 0x9d ≡ false
    tested = not-true (eqb (opcode_byte c) 0x9d) (below 28 (λ (k : ℕ). not (eqb (opcode_byte k) 0x9d)) refl c (omega arith))

number_is_none : (n : ℕ) → number_bytes n ≡ 0x9d ∷ [] → ⊥
unfolding number_bytes
number_is_none n e = by (eqb n 0) (leb n 16) refl e
  where
    by : (a b : Bool) → leb n 16 ≡ b → pick a (0x00 ∷ []) (pick b ((0x50 + n) ∷ []) (push_bytes (digits n))) ≡ 0x9d ∷ [] → ⊥
    by true b h q = let z = one_byte 0x00 0x9d q in omega arith
    by false true h q = let z = one_byte (0x50 + n) 0x9d q in omega (arith, leb-true n 16 h)
    by false false h q = push_is_no_opcode (digits n) q

instruction_is_none : (l : Lexeme) → Formed l → instruction_bytes l ≡ 0x9d ∷ [] → ⊥
instruction_is_none (op c) f e = opcode_is_none c f.0 f.1 e
instruction_is_none (num n) f e = number_is_none n e
instruction_is_none (push c d) f e = push_is_no_opcode d.bytes e

fused_is_none : (l m : Lexeme) → fuses l m ≡ true → is_num_equal l ≡ false → verified_bytes l ≡ 0x9d ∷ [] → ⊥
unfolding has_fused fused_byte
fused_is_none (op c) m f n e = by (eqb c EQUAL) (eqb c NUMEQUAL) (eqb c CHECKSIG) n e
  where
    by : (a b d : Bool) → b ≡ false → ◌≡◌ {A = List ℕ} (pick a 0x88 (pick b 0x9d (pick d 0xad 0xaf)) ∷ []) (0x9d ∷ []) → ⊥
    by true b d h q = let z = one_byte 0x88 0x9d q in omega arith
    by false true d h q = absurd (true≢false h)
    by false false true h q = let z = one_byte 0xad 0x9d q in omega arith
    by false false false h q = let z = one_byte 0xaf 0x9d q in omega arith
fused_is_none (num n) m f k e = let z : ◌≡◌ {A = ℕ} 0 1 = cc in omega arith
fused_is_none (push c d) m f k e = let z : ◌≡◌ {A = ℕ} 0 1 = cc in omega arith

pub free_spelling : (ls : List Lexeme) → AllFormed ls → free ls ≡ true → NoNumEqualVerify (spelling ls)
free_spelling [] f g = tt
free_spelling (l ∷ []) f g = (instruction_is_none l f.0, tt)
free_spelling (l ∷ m ∷ ls) f g =
    by (fuses l m) refl
    (free_spelling ls f.1.1 (right_true (not (is_num_equal m)) (free ls) (right_true (not (is_num_equal l)) (free (m ∷ ls)) g)))
    (free_spelling (m ∷ ls) f.1 (right_true (not (is_num_equal l)) (free (m ∷ ls)) g))
  where
    by : (b : Bool) → fuses l m ≡ b → NoNumEqualVerify (spelling ls) → NoNumEqualVerify (spelling (m ∷ ls)) → NoNumEqualVerify (pick b (verified_bytes l ∷ spelling ls) (instruction_bytes l ∷ spelling (m ∷ ls)))
    by true e p q = (fused_is_none l m e (not-true (is_num_equal l) (left_true (not (is_num_equal l)) (free (m ∷ ls)) g)), p)
    by false e p q = (instruction_is_none l f.0, q)
