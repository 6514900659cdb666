-- The written form of an allowed tree whose keys and hashes lie within a script's bytes is a list of lexemes that a script can give. Assumes nothing.
-- Why: its opcodes are of the 27, its pushes have the bytes that their codes say, and its numbers are locktimes, thresholds and counts below 2^31.
use Rattle.std.specs.Prelude.{◌≡◌, refl, Bool, true, false, ◌&&◌, ℕ, suc, ◌<◌, eqb, leb, length, take, drop}
use Rattle.std.proofs.Common.{sym, ap, ◌∙◌, subst, arith, eqb-true, leb-true, length-drop, length-take-le}
use mathlib.Core.List.{List, [], ◌∷◌, ◌++◌}
use Rattle.instruction.proofs.LowLaws.{bytes_drop, bytes_take}
use Rattle.lex.specs.Token.{Bytes, Data, data_length, Lexeme, op, num, push, HASH20, BYTES32, BYTES33, BYTES65}
use Rattle.spelling.specs.Lexemes.{Formed, AllFormed}
use Rattle.tables.proofs.BoolLaws.{left_true, right_true}
use Rattle.standard.specs.Tree.{Key, key, Hash, sha256, hash256, ripemd160, hash160, Leaf, True, False, PkK, RawPkH, After, Older, HashLock, Multi, MultiA, Wrapper, alt, swap, check, dupIf, verify, nonZero, zeroNotEqual, Combination, and_v, and_b, or_b, or_d, or_c, or_i, Tree, Trees, leaf, wrap, join, and_or, thresh, nil, ◌⊳◌, many, size, sizes}
use Rattle.standard.proofs.TreeLaws.{size_some, many_sizes}
use Rattle.standard.specs.Written.{hash_opcode, hash_push, keys_before, added_keys_before, leaf_before, opening, closing, first, between, last, tree_before, added_trees_before, written}
use Rattle.standard.specs.Allowed.{within, key_form, multi_key, all_multi_keys, multi_count, multi_a_threshold, allowed_leaf, thresh_allowed, allowed, all_allowed}
use Rattle.standard.proofs.RuleLaws.{within_range}
use Rattle.there_and_back.specs.Ranged.{DataIn, KeysIn, DatasIn, LeafIn, TreeIn, TreesIn}

-- an opcode of the 27
an_op : (c : ℕ) → (leb 1 c && leb c 27) ≡ true → Formed (op c)
an_op c e = (leb-true 1 c (left_true (leb 1 c) (leb c 27) e), leb-true c 27 (right_true (leb 1 c) (leb c 27) e))

-- several opcodes before a list
opening_formed : (w : Wrapper) (ls : List Lexeme) → AllFormed ls → AllFormed (opening w ++ ls)
opening_formed alt ls f = (an_op 12 refl, f)
opening_formed swap ls f = (an_op 22 refl, f)
opening_formed check ls f = f
opening_formed dupIf ls f = (an_op 14 refl, (an_op 15 refl, f))
opening_formed verify ls f = f
opening_formed nonZero ls f = (an_op 21 refl, (an_op 20 refl, (an_op 15 refl, f)))
opening_formed zeroNotEqual ls f = f

closing_formed : (w : Wrapper) (ls : List Lexeme) → AllFormed ls → AllFormed (closing w ++ ls)
closing_formed alt ls f = (an_op 11 refl, f)
closing_formed swap ls f = f
closing_formed check ls f = (an_op 6 refl, f)
closing_formed dupIf ls f = (an_op 19 refl, f)
closing_formed verify ls f = (an_op 23 refl, f)
closing_formed nonZero ls f = (an_op 19 refl, f)
closing_formed zeroNotEqual ls f = (an_op 20 refl, f)

first_formed : (c : Combination) (ls : List Lexeme) → AllFormed ls → AllFormed (first c ++ ls)
first_formed and_v ls f = f
first_formed and_b ls f = f
first_formed or_b ls f = f
first_formed or_d ls f = f
first_formed or_c ls f = f
first_formed or_i ls f = (an_op 15 refl, f)

between_formed : (c : Combination) (ls : List Lexeme) → AllFormed ls → AllFormed (between c ++ ls)
between_formed and_v ls f = f
between_formed and_b ls f = f
between_formed or_b ls f = f
between_formed or_d ls f = (an_op 16 refl, (an_op 17 refl, f))
between_formed or_c ls f = (an_op 17 refl, f)
between_formed or_i ls f = (an_op 18 refl, f)

last_formed : (c : Combination) (ls : List Lexeme) → AllFormed ls → AllFormed (last c ++ ls)
last_formed and_v ls f = f
last_formed and_b ls f = (an_op 1 refl, f)
last_formed or_b ls f = (an_op 2 refl, f)
last_formed or_d ls f = (an_op 19 refl, f)
last_formed or_c ls f = (an_op 19 refl, f)
last_formed or_i ls f = (an_op 19 refl, f)

hash_op : (h : Hash) → Formed (op (hash_opcode h))
hash_op sha256 = an_op 26 refl
hash_op hash256 = an_op 27 refl
hash_op ripemd160 = an_op 24 refl
hash_op hash160 = an_op 25 refl

-- a stack has as many nodes as trees, or more
module _ (script : List ℕ) (bytes : Bytes script) where
  -- a push within the script
  push_formed : (code : ℕ) (d : Data) → (leb HASH20 code && leb code BYTES65) ≡ true → DataIn script code d → Formed (push code d)
  push_formed code d c (of, within-script) =
      let part : d.bytes ≡ take (data_length code) (drop d.place script) = ap (λ (x : Data). x.bytes) of in
      let l : length (take (data_length code) (drop d.place script)) ≡ data_length code = length-take-le (data_length code) (drop d.place script) (omega (arith, length-drop d.place script)) in (
        leb-true HASH20 code (left_true (leb HASH20 code) (leb code BYTES65) c),
        leb-true code BYTES65 (right_true (leb HASH20 code) (leb code BYTES65) c),
        ap length part ∙ l,
        subst Bytes (sym part) (bytes_take (data_length code) (drop d.place script) (bytes_drop d.place script bytes)),
      )

  hash_formed : (h : Hash) (d : Data) → DataIn script (hash_push h) d → Formed (push (hash_push h) d)
  hash_formed sha256 d i = push_formed BYTES32 d refl i
  hash_formed hash256 d i = push_formed BYTES32 d refl i
  hash_formed ripemd160 d i = push_formed HASH20 d refl i
  hash_formed hash160 d i = push_formed HASH20 d refl i

  key_formed : (segwit : Bool) (code : ℕ) (d : Data) → key_form segwit (key code d) ≡ true → DataIn script code d → Formed (push code d)
  key_formed true code d g i = push_formed code d (ap (λ (c : ℕ). leb HASH20 c && leb c BYTES65) (eqb-true code BYTES33 (left_true (eqb code BYTES33) _ g))) i
  key_formed false code d g i = push_formed code d (ap (λ (c : ℕ). leb HASH20 c && leb c BYTES65) (eqb-true code BYTES32 g)) i

  keys_formed : (segwit : Bool) (ks : List Key) (rest : List Lexeme) → all_multi_keys segwit ks ≡ true → KeysIn script ks → AllFormed rest → AllFormed (keys_before ks rest)
  keys_formed segwit [] rest g i f = f
  keys_formed segwit (key code d ∷ ks) rest g i f = (
    key_formed segwit code d (right_true segwit (key_form segwit (key code d)) (left_true (multi_key segwit (key code d)) (all_multi_keys segwit ks) g)) i.0,
    keys_formed segwit ks rest (right_true (multi_key segwit (key code d)) (all_multi_keys segwit ks) g) i.1 f,
  )

  added_keys_formed : (ds : List Data) (rest : List Lexeme) → DatasIn script ds → AllFormed rest → AllFormed (added_keys_before ds rest)
  added_keys_formed [] rest i f = f
  added_keys_formed (d ∷ ds) rest i f = (push_formed BYTES32 d refl i.0, (an_op 7 refl, added_keys_formed ds rest i.1 f))

  leaf_formed : (segwit : Bool) (l : Leaf) (rest : List Lexeme) → allowed_leaf segwit l ≡ true → LeafIn script l → AllFormed rest → AllFormed (leaf_before l rest)
  leaf_formed segwit True rest g i f = (omega arith, f)
  leaf_formed segwit False rest g i f = (omega arith, f)
  leaf_formed segwit (PkK (key code d)) rest g i f = (key_formed segwit code d g i, f)
  leaf_formed segwit (RawPkH d) rest g i f = (an_op 14 refl, (an_op 25 refl, (push_formed HASH20 d refl i, (an_op 4 refl, (an_op 23 refl, f)))))
  leaf_formed segwit (After n) rest g i f = let r = within_range 1 n 2147483647 g in (omega arith, (an_op 10 refl, f))
  leaf_formed segwit (Older n) rest g i f = let r = within_range 1 n 2147483647 g in (omega arith, (an_op 9 refl, f))
  leaf_formed segwit (HashLock h d) rest g i f =
      (an_op 21 refl, (omega arith, (an_op 4 refl, (an_op 23 refl, (hash_op h, (hash_formed h d i, (an_op 4 refl, f)))))))
  leaf_formed segwit (Multi k ks) rest g i f =
      let n = within_range 1 (length ks) 20 (left_true (multi_count (length ks)) _ g) in
      let h = right_true (multi_count (length ks)) (all_multi_keys segwit ks && within 1 k (length ks)) g in
      let r = within_range 1 k (length ks) (right_true (all_multi_keys segwit ks) (within 1 k (length ks)) h) in
      (omega arith, keys_formed segwit ks (num (length ks) ∷ op 8 ∷ rest) (left_true (all_multi_keys segwit ks) (within 1 k (length ks)) h) i (omega arith, (an_op 8 refl, f)))
  leaf_formed segwit (MultiA k d ds) rest g i f =
      let r = within_range 1 k 999 (left_true (multi_a_threshold k) _ g) in
      (push_formed BYTES32 d refl i.0, (an_op 6 refl, added_keys_formed ds (num k ∷ op 5 ∷ rest) i.1 (omega arith, (an_op 5 refl, f))))

  mutual
    tree_formed : (segwit : Bool) (t : Tree) (rest : List Lexeme) → allowed segwit t ≡ true → TreeIn script t → size t < 2147483648 → AllFormed rest → AllFormed (tree_before t rest)
    tree_formed segwit (leaf l) rest g i s f = leaf_formed segwit l rest g i f
    tree_formed segwit (wrap w x) rest g i s f = opening_formed w _ (tree_formed segwit x (closing w ++ rest) g i (omega arith) (closing_formed w rest f))
    tree_formed segwit (join c x y) rest g i s f =
        first_formed c _
        (tree_formed segwit x (between c ++ tree_before y (last c ++ rest)) (left_true (allowed segwit x) (allowed segwit y) g) i.0 (omega arith)
        (between_formed c _ (tree_formed segwit y (last c ++ rest) (right_true (allowed segwit x) (allowed segwit y) g) i.1 (omega arith) (last_formed c rest f))))
    tree_formed segwit (and_or x y z) rest g i s f =
        let h = right_true (allowed segwit x) (allowed segwit y && allowed segwit z) g in
        tree_formed segwit x (op 17 ∷ tree_before z (op 18 ∷ tree_before y (op 19 ∷ rest))) (left_true (allowed segwit x) (allowed segwit y && allowed segwit z) g) i.0 (omega arith) (
          an_op 17 refl,
          tree_formed segwit z (op 18 ∷ tree_before y (op 19 ∷ rest)) (right_true (allowed segwit y) (allowed segwit z) h) i.1.1 (omega arith)
              (an_op 18 refl, tree_formed segwit y (op 19 ∷ rest) (left_true (allowed segwit y) (allowed segwit z) h) i.1.0 (omega arith) (an_op 19 refl, f)),
        )
    tree_formed segwit (thresh k x xs) rest g i s f =
        let r = within_range 1 k (suc (many xs)) (left_true (thresh_allowed k x xs) _ g) in
        let m = many_sizes xs in
        let h = right_true (thresh_allowed k x xs) (allowed segwit x && all_allowed segwit xs) g in
        tree_formed segwit x (added_trees_before xs (num k ∷ op 4 ∷ rest)) (left_true (allowed segwit x) (all_allowed segwit xs) h) i.0 (omega arith)
        (trees_formed segwit xs (num k ∷ op 4 ∷ rest) (right_true (allowed segwit x) (all_allowed segwit xs) h) i.1 (omega (arith, size_some x)) (omega (arith, size_some x), (an_op 4 refl, f)))

    trees_formed : (segwit : Bool) (ts : Trees) (rest : List Lexeme) → all_allowed segwit ts ≡ true → TreesIn script ts → sizes ts < 2147483648 → AllFormed rest → AllFormed (added_trees_before ts rest)
    trees_formed segwit nil rest g i s f = f
    trees_formed segwit (t ⊳ ts) rest g i s f =
        tree_formed segwit t (op 3 ∷ added_trees_before ts rest) (left_true (allowed segwit t) (all_allowed segwit ts) g) i.0 (omega arith)
        (an_op 3 refl, trees_formed segwit ts rest (right_true (allowed segwit t) (all_allowed segwit ts) g) i.1 (omega arith) f)

  pub written_formed : (segwit : Bool) (t : Tree) → allowed segwit t ≡ true → TreeIn script t → size t < 2147483648 → AllFormed (written t)
  unfolding written
  written_formed segwit t g i s = tree_formed segwit t [] g i s tt
