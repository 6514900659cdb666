-- Every lexeme of a tree whose nodes have passed the checks can be written: its opcodes have codes, and its keys and hashes lie within the material. Assumes nothing.
-- Why: a node that has passed is well formed, so that what it names in the material is in range.
use mathlib.Core.Path.{◌≡◌, subst}
use mathlib.Core.Bool.{Bool, true, false}
use mathlib.Core.List.{List, [], ◌∷◌}
use mathlib.Core.Option.{Option, none, some}
use Prim.Native.Nat.{ℕ, zero, suc, ◌+◌, ◌≤◌}
use native.Mathlib.Omega.{arith}
use lib.Dec.{leb}
use lib.ListN.{length, take, drop, length-drop}
use lib.Seq.{length-take-le}
use borrow.Author.Tests.{leb-true}
use Rattle.lex.specs.Token.{Lexeme, op, num, data_at, data_length}
use Rattle.tables.proofs.BoolLaws.{left_true, right_true}
use Rattle.standard.specs.Tree.{key, Hash, sha256, hash256, ripemd160, hash160, PkK, RawPkH, HashLock, Wrapper, alt, swap, check, dupIf, verify, nonZero, zeroNotEqual, Combination, and_v, and_b, or_b, or_d, or_c, or_i, Tree, Trees, leaf, wrap, join, and_or, thresh, nil, ◌⊳◌}
use Rattle.standard.specs.Written.{tree_before, added_trees_before, keys_before, added_keys_before}
use Rattle.standard.specs.Table.{Node, Terminal, noTerminal, isTrue, isFalse, isPkK, isRawPkH, isAfter, isOlder, is_hash, is_wrapper, is_combination, isAndOr, isThresh, isMulti, isMultiA, terminal_of, hash_length, key_code, key_length, take_trees, keys_at, datas_at, multi_a_of, wrap_top, join_top, and_or_top, thresh_top, add_terminal}
use Rattle.encoding.specs.Form.{shape, shape_of, all_within, keys_named, formed_as, well_formed}
use Rattle.encoding.specs.FormLaws.{in_range_lem}
use Rattle.encoding.proofs.Passed.{Passed}
use Rattle.encoding.proofs.Stands.{Stands, empty, more}
use Rattle.emit_multi.specs.Multis.{AllWhole}

abbrev pub WholeTree : Tree → Type 0
WholeTree t = (rest : List Lexeme) → AllWhole rest → AllWhole (tree_before t rest)

abbrev pub WholeTrees : Trees → Type 0
WholeTrees nil = Unit {0}
WholeTrees (t ⊳ ts) = WholeTree t × WholeTrees ts

abbrev WholeMade : Option Trees → Type 0
WholeMade none = Unit {0}
WholeMade (some nil) = Unit {0}
WholeMade (some (t ⊳ us)) = WholeTree t × WholeTrees us

-- Inner nodes

wrapper_whole : (w : Wrapper) (x : Tree) → WholeTree x → WholeTree (wrap w x)
wrapper_whole alt x h rest r = (omega arith, h _ (omega arith, r))
wrapper_whole swap x h rest r = (omega arith, h _ r)
wrapper_whole check x h rest r = h _ (omega arith, r)
wrapper_whole dupIf x h rest r = (omega arith, (omega arith, h _ (omega arith, r)))
wrapper_whole verify x h rest r = h _ (omega arith, r)
wrapper_whole nonZero x h rest r = (omega arith, (omega arith, (omega arith, h _ (omega arith, r))))
wrapper_whole zeroNotEqual x h rest r = h _ (omega arith, r)

combination_whole : (c : Combination) (x y : Tree) → WholeTree x → WholeTree y → WholeTree (join c x y)
combination_whole and_v x y g h rest r = g _ (h _ r)
combination_whole and_b x y g h rest r = g _ (h _ (omega arith, r))
combination_whole or_b x y g h rest r = g _ (h _ (omega arith, r))
combination_whole or_d x y g h rest r = g _ (omega arith, (omega arith, h _ (omega arith, r)))
combination_whole or_c x y g h rest r = g _ (omega arith, h _ (omega arith, r))
combination_whole or_i x y g h rest r = (omega arith, g _ (omega arith, h _ (omega arith, r)))

and_or_whole : (x y z : Tree) → WholeTree x → WholeTree y → WholeTree z → WholeTree (and_or x y z)
and_or_whole x y z f g h rest r = f _ (omega arith, h _ (omega arith, g _ (omega arith, r)))

added_whole : (xs : Trees) → WholeTrees xs → (rest : List Lexeme) → AllWhole rest → AllWhole (added_trees_before xs rest)
added_whole nil h rest r = r
added_whole (x ⊳ xs) h rest r = h.0 _ (omega arith, added_whole xs h.1 rest r)

thresh_whole : (k : ℕ) (x : Tree) (xs : Trees) → WholeTree x → WholeTrees xs → WholeTree (thresh k x xs)
thresh_whole k x xs g h rest r = g _ (added_whole xs h (num k ∷ op 4 ∷ rest) (tt, (omega arith, r)))

taken_whole : (m : ℕ) (ts : Trees) (next : Trees → Trees → Option Trees) → WholeTrees ts
    → ((taken others : Trees) → WholeTrees taken → WholeTrees others → WholeMade (next taken others)) → WholeMade (take_trees m ts none next)
taken_whole zero ts next w h = h nil ts tt w
taken_whole (suc m) nil next w h = tt
taken_whole (suc m) (t ⊳ ts) next w h = taken_whole m ts (λ taken others. next (t ⊳ taken) others) w.1 (λ taken others a b. h (t ⊳ taken) others (w.0, a) b)

-- Leaves

module _ (material : List ℕ) where
  in_material : (place bytes : ℕ) → leb (place + bytes) (length material) ≡ true → length (take bytes (drop place material)) ≡ bytes
  in_material place bytes h =
      let l : place + bytes ≤ length material = leb-true (place + bytes) (length material) h in
      length-take-le bytes (drop place material) (omega (arith, length-drop place material))

  keys_whole : (ps : List ℕ) → all_within 33 (length material) ps ≡ true → (rest : List Lexeme) → AllWhole rest → AllWhole (keys_before (keys_at material ps) rest)
  unfolding data_length
  keys_whole [] h rest r = r
  keys_whole (p ∷ ps) h rest r =
      (in_material p 33 (left_true (leb (p + 33) (length material)) _ h), keys_whole ps (right_true (leb (p + 33) (length material)) _ h) rest r)

  datas_whole : (ps : List ℕ) → all_within 32 (length material) ps ≡ true → (rest : List Lexeme) → AllWhole rest → AllWhole (added_keys_before (datas_at material ps) rest)
  unfolding data_length
  datas_whole [] h rest r = r
  datas_whole (p ∷ ps) h rest r =
      (in_material p 32 (left_true (leb (p + 32) (length material)) _ h), (omega arith, datas_whole ps (right_true (leb (p + 32) (length material)) _ h) rest r))

  multi_a_whole : (k : ℕ) (ps : List ℕ) (ts : Trees) → all_within 32 (length material) ps ≡ true → WholeTrees ts → WholeMade (multi_a_of k (datas_at material ps) ts)
  unfolding data_length
  multi_a_whole k [] ts h w = tt
  multi_a_whole k (p ∷ ps) ts h w = (
    (λ rest r. (
      in_material p 32 (left_true (leb (p + 32) (length material)) _ h),
      (omega arith, datas_whole ps (right_true (leb (p + 32) (length material)) _ h) (num k ∷ op 5 ∷ rest) (tt, (omega arith, r))),
    )),
    w,
  )

  hash_whole : (h : Hash) (place : ℕ) → leb (place + hash_length h) (length material) ≡ true → WholeTree (leaf (HashLock h (data_at material place (hash_length h))))
  unfolding data_length
  hash_whole sha256 place e rest r = (omega arith, (tt, (omega arith, (omega arith, (omega arith, (in_material place 32 e, (omega arith, r)))))))
  hash_whole hash256 place e rest r = (omega arith, (tt, (omega arith, (omega arith, (omega arith, (in_material place 32 e, (omega arith, r)))))))
  hash_whole ripemd160 place e rest r = (omega arith, (tt, (omega arith, (omega arith, (omega arith, (in_material place 20 e, (omega arith, r)))))))
  hash_whole hash160 place e rest r = (omega arith, (tt, (omega arith, (omega arith, (omega arith, (in_material place 20 e, (omega arith, r)))))))

  key_whole : (segwit : Bool) (place : ℕ) → leb (place + key_length segwit) (length material) ≡ true → WholeTree (leaf (PkK (key (key_code segwit) (data_at material place (key_length segwit)))))
  unfolding data_length
  key_whole true place e rest r = (in_material place 33 e, r)
  key_whole false place e rest r = (in_material place 32 e, r)

  raw_whole : (place : ℕ) → leb (place + 20) (length material) ≡ true → WholeTree (leaf (RawPkH (data_at material place 20)))
  unfolding data_length
  raw_whole place e rest r = (omega arith, (omega arith, (in_material place 20 e, (omega arith, (omega arith, r)))))

-- A node

wrapped_whole : (w : Wrapper) (ts : Trees) → WholeTrees ts → WholeMade (wrap_top w ts)
wrapped_whole w nil h = tt
wrapped_whole w (x ⊳ ts) h = (wrapper_whole w x h.0, h.1)

joined_whole : (c : Combination) (ts : Trees) → WholeTrees ts → WholeMade (join_top c ts)
joined_whole c nil h = tt
joined_whole c (x ⊳ nil) h = tt
joined_whole c (x ⊳ (y ⊳ ts)) h = (combination_whole c x y h.0 h.1.0, h.1.1)

and_or_made : (ts : Trees) → WholeTrees ts → WholeMade (and_or_top ts)
and_or_made nil h = tt
and_or_made (x ⊳ nil) h = tt
and_or_made (x ⊳ (z ⊳ nil)) h = tt
and_or_made (x ⊳ (z ⊳ (y ⊳ ts))) h = (and_or_whole x y z h.0 h.1.1.0 h.1.0, h.1.1.1)

thresh_made : (k m : ℕ) (ts : Trees) → WholeTrees ts → WholeMade (thresh_top k m ts)
thresh_made k m nil h = tt
thresh_made k zero (x ⊳ ts) h = tt
thresh_made k (suc m) (x ⊳ ts) h =
    taken_whole m ts (λ xs others. some (thresh k x xs ⊳ others)) h.1 (λ taken others a b. (thresh_whole k x taken h.0 a, b))

module _ (segwit : Bool) (material keys : List ℕ) where
  made_whole : (k : Terminal) (n : Node) (ts : Trees) → formed_as (length material) keys (shape_of segwit k) n ts ≡ true → WholeTrees ts → WholeMade (add_terminal segwit material keys k n ts)
  made_whole noTerminal n ts f w = tt
  made_whole isTrue n ts f w = ((λ rest r. (tt, r)), w)
  made_whole isFalse n ts f w = ((λ rest r. (tt, r)), w)
  made_whole isPkK n ts f w = (key_whole material segwit n.place (in_range_lem (length material) keys (shape false false (key_length segwit) 0 0) n ts f), w)
  made_whole isRawPkH n ts f w = (raw_whole material n.place (in_range_lem (length material) keys (shape false false 20 0 0) n ts f), w)
  made_whole isAfter n ts f w = ((λ rest r. (tt, (omega arith, r))), w)
  made_whole isOlder n ts f w = ((λ rest r. (tt, (omega arith, r))), w)
  made_whole (is_hash h) n ts f w = (hash_whole material h n.place (in_range_lem (length material) keys (shape false false (hash_length h) 0 0) n ts f), w)
  made_whole (is_wrapper x) n ts f w = wrapped_whole x ts w
  made_whole (is_combination c) n ts f w = joined_whole c ts w
  made_whole isAndOr n ts f w = and_or_made ts w
  made_whole isThresh n ts f w = thresh_made n.number n.count ts w
  made_whole isMulti n ts f w = (
    (λ rest r. (
      tt,
      keys_whole material (keys_named n keys) (right_true (leb (n.place + n.count) (length keys)) _ (in_range_lem (length material) keys (shape true false 0 33 0) n ts f)) _ (tt, (omega arith, r)),
    )),
    w,
  )
  made_whole isMultiA n ts f w =
      multi_a_whole material n.number (keys_named n keys) ts (right_true (leb (n.place + n.count) (length keys)) _ (in_range_lem (length material) keys (shape true false 0 32 0) n ts f)) w

  passed_whole : (n : Node) (ts us : Trees) (t : Tree) → Passed segwit material keys n ts t us → WholeTrees ts → WholeTrees (t ⊳ us)
  unfolding well_formed
  passed_whole n ts us t p w = subst WholeMade p.makes (made_whole (terminal_of n.kind) n ts p.formed w)

  -- THEOREM: the trees of nodes that have passed
  pub stands_whole : {ns : List Node} {ts : Trees} → Stands segwit material keys ns ts → WholeTrees ts
  stands_whole empty = tt
  stands_whole (more {n} {ns} {ts} {us} {t} s p) = passed_whole n ts us t p (stands_whole s)
