-- What a node adds to the length of the script, by what its kind stands for: the tree that it makes is longer by so much than its children. Assumes nothing.
-- Why: a well-formed node's keys and hashes lie within the material, so each has its full length.
use mathlib.Core.Path.{◌≡◌, refl, ap, ◌∙◌}
use mathlib.Core.Bool.{Bool, true, false, ◌&&◌}
use mathlib.Core.List.{List, [], ◌∷◌}
use mathlib.Core.Option.{Option, none, some}
use Prim.Native.Nat.{ℕ, zero, suc, ◌+◌, ◌*◌, ◌≤◌}
use native.Mathlib.Omega.{arith}
use borrow.Author.Tests.{leb-true}
use lib.Dec.{leb}
use lib.ListN.{length, take, drop, length-drop}
use lib.Seq.{length-take-le}
use Rattle.lex.specs.Token.{Data}
use Rattle.spelling.specs.Spell.{number_bytes}
use Rattle.tables.proofs.BoolLaws.{left_true, right_true}
use Rattle.standard.specs.Tree.{Wrapper, Combination, Trees, thresh, nil, ◌⊳◌, ◌⊕◌, many}
use Rattle.standard.specs.Table.{Node, Terminal, noTerminal, isTrue, isFalse, isPkK, isRawPkH, isAfter, isOlder, is_hash, is_wrapper, is_combination, isAndOr, isThresh, isMulti, isMultiA, hash_length, key_length, keys_at, datas_at, take_trees, multi_a_of, wrap_top, join_top, and_or_top, thresh_top, add_terminal}
use Rattle.encoding.specs.Form.{Shape, shape, shape_of, unused_are_zero, all_within, keys_named, in_range, right_size, formed_as}
use Rattle.script_length.specs.Length.{wrapper_bytes, combination_bytes, terminal_bytes}
use Rattle.script_length.proofs.SpelledLength.{keys_bytes, added_keys_bytes, tree_ends, tree_bytes, added_trees_bytes}

-- of the finished trees
abbrev pub trees_bytes : Trees → ℕ
trees_bytes nil = 0
trees_bytes (t ⊳ ts) = tree_bytes t + trees_bytes ts

trees_append : (ts us : Trees) → trees_bytes (◌⊕◌ ts us) ≡ trees_bytes ts + trees_bytes us
trees_append nil us = omega arith
trees_append (t ⊳ ts) us = omega (arith, trees_append ts us)

-- an ADD for each
added_trees_lem : (ts : Trees) → added_trees_bytes ts ≡ trees_bytes ts + many ts
added_trees_lem nil = refl
added_trees_lem (t ⊳ ts) = omega (arith, added_trees_lem ts)

-- Data within the material

data_length_lem : (material : List ℕ) (place size : ℕ) → leb (place + size) (length material) ≡ true → length (take size (drop place material)) ≡ size
data_length_lem material place size e =
    let h : place + size ≤ length material = leb-true (place + size) (length material) e in
    length-take-le size (drop place material) (omega (arith, length-drop place material))

module _ (material : List ℕ) where
  keys_bytes_lem : (offsets : List ℕ) → all_within 33 (length material) offsets ≡ true → keys_bytes (keys_at material offsets) ≡ 34 * length offsets
  keys_bytes_lem [] e = refl
  keys_bytes_lem (p ∷ ps) e =
      omega (arith, data_length_lem material p 33 (left_true (leb (p + 33) (length material)) _ e), keys_bytes_lem ps (right_true (leb (p + 33) (length material)) _ e))

  keys_many : (offsets : List ℕ) → length (keys_at material offsets) ≡ length offsets
  keys_many [] = refl
  keys_many (p ∷ ps) = ap suc (keys_many ps)

  datas_bytes : (offsets : List ℕ) → all_within 32 (length material) offsets ≡ true → added_keys_bytes (datas_at material offsets) ≡ 34 * length offsets
  datas_bytes [] e = refl
  datas_bytes (p ∷ ps) e =
      omega (arith, data_length_lem material p 32 (left_true (leb (p + 32) (length material)) _ e), datas_bytes ps (right_true (leb (p + 32) (length material)) _ e))

named_many : (n : Node) (keys : List ℕ) → leb (n.place + n.count) (length keys) ≡ true → length (keys_named n keys) ≡ n.count
named_many n keys e = data_length_lem keys n.place n.count e

-- The trees after a node are longer by its bytes
abbrev pub Adds : ℕ → Trees → Option Trees → Type 0
Adds own ts none = Unit {0}
Adds own ts (some us) = trees_bytes us ≡ own + trees_bytes ts

-- the ending that was found is that of the newest tree
abbrev pub NewestEnds : Bool → Trees → Type 0
NewestEnds fusible nil = Unit {0}
NewestEnds fusible (t ⊳ ts) = fusible ≡ tree_ends t

wrapper_adds : (w : Wrapper) (fusible : Bool) (ts : Trees) → NewestEnds fusible ts → Adds (wrapper_bytes w fusible) ts (wrap_top w ts)
wrapper_adds w fusible nil e = tt
wrapper_adds w fusible (x ⊳ ts) e = omega (arith, ap (wrapper_bytes w) e)

combination_adds : (c : Combination) (ts : Trees) → Adds (combination_bytes c) ts (join_top c ts)
combination_adds c nil = tt
combination_adds c (x ⊳ nil) = tt
combination_adds c (x ⊳ (y ⊳ ts)) = omega arith

and_or_adds : (ts : Trees) → Adds 3 ts (and_or_top ts)
and_or_adds nil = tt
and_or_adds (x ⊳ nil) = tt
and_or_adds (x ⊳ (z ⊳ nil)) = tt
and_or_adds (x ⊳ (z ⊳ (y ⊳ ts))) = omega arith

taken_adds : (n own : ℕ) (ts all : Trees) (next : Trees → Trees → Option Trees)
    → ((taken rest : Trees) → ts ≡ ◌⊕◌ taken rest → many taken ≡ n → Adds own all (next taken rest)) → Adds own all (take_trees n ts none next)
taken_adds zero own ts all next h = h nil ts refl refl
taken_adds (suc n) own nil all next h = tt
taken_adds (suc n) own (t ⊳ ts) all next h =
    taken_adds n own ts all (λ taken rest. next (t ⊳ taken) rest) (λ taken rest e m. h (t ⊳ taken) rest (ap (λ (x : Trees). t ⊳ x) e) (ap suc m))

thresh_adds : (k n : ℕ) (ts : Trees) → Adds (n + length (number_bytes k)) ts (thresh_top k n ts)
thresh_adds k n nil = tt
thresh_adds k zero (x ⊳ ts) = tt
thresh_adds k (suc n) (x ⊳ ts) =
    taken_adds n (suc n + length (number_bytes k)) ts (x ⊳ ts) (λ xs rest. some (thresh k x xs ⊳ rest))
    (λ taken rest e m. omega (arith, ap trees_bytes e, trees_append taken rest, added_trees_lem taken, m))

multi_a_adds : (k own : ℕ) (ds : List Data) (ts : Trees) → own ≡ added_keys_bytes ds + length (number_bytes k) + 1 → Adds own ts (multi_a_of k ds ts)
multi_a_adds k own [] ts e = tt
multi_a_adds k own (d ∷ ds) ts e = omega (arith, e)

module _ (segwit : Bool) (material keys : List ℕ) where
  range_of : (s : Shape) (n : Node) (ts : Trees) → formed_as (length material) keys (some s) n ts ≡ true → in_range (length material) keys s n ≡ true
  range_of s n ts f = left_true (in_range (length material) keys s n) (right_size s n ts) (right_true (unused_are_zero s n) _ f)

  pub terminal_adds : (kind : Terminal) (n : Node) (fusible : Bool) (ts : Trees) → formed_as (length material) keys (shape_of segwit kind) n ts ≡ true → NewestEnds fusible ts
      → Adds (terminal_bytes segwit kind n.number n.count fusible) ts (add_terminal segwit material keys kind n ts)
  terminal_adds noTerminal n fusible ts f e = tt
  terminal_adds isTrue n fusible ts f e = refl
  terminal_adds isFalse n fusible ts f e = refl
  terminal_adds isPkK n fusible ts f e = omega (arith, data_length_lem material n.place (key_length segwit) (range_of (shape false false (key_length segwit) 0 0) n ts f))
  terminal_adds isRawPkH n fusible ts f e = omega (arith, data_length_lem material n.place 20 (range_of (shape false false 20 0 0) n ts f))
  terminal_adds isAfter n fusible ts f e = refl
  terminal_adds isOlder n fusible ts f e = refl
  terminal_adds (is_hash h) n fusible ts f e = omega (arith, data_length_lem material n.place (hash_length h) (range_of (shape false false (hash_length h) 0 0) n ts f))
  terminal_adds (is_wrapper w) n fusible ts f e = wrapper_adds w fusible ts e
  terminal_adds (is_combination c) n fusible ts f e = combination_adds c ts
  terminal_adds isAndOr n fusible ts f e = and_or_adds ts
  terminal_adds isThresh n fusible ts f e = thresh_adds n.number n.count ts
  terminal_adds isMulti n fusible ts f e =
      let r : (leb (n.place + n.count) (length keys) && all_within 33 (length material) (keys_named n keys)) ≡ true = range_of (shape true false 0 33 0) n ts f in
      let many-keys : length (keys_at material (keys_named n keys)) ≡ n.count = keys_many material (keys_named n keys) ∙ named_many n keys (left_true (leb (n.place + n.count) (length keys)) _ r) in
      let b : keys_bytes (keys_at material (keys_named n keys)) ≡ 34 * length (keys_named n keys) = keys_bytes_lem material (keys_named n keys) (right_true (leb (n.place + n.count) (length keys)) _ r) in
      omega (arith, many-keys, b, ap (λ (k : ℕ). length (number_bytes k)) many-keys, keys_many material (keys_named n keys))
  terminal_adds isMultiA n fusible ts f e =
      let r : (leb (n.place + n.count) (length keys) && all_within 32 (length material) (keys_named n keys)) ≡ true = range_of (shape true false 0 32 0) n ts f in
      let b : added_keys_bytes (datas_at material (keys_named n keys)) ≡ 34 * length (keys_named n keys) = datas_bytes material (keys_named n keys) (right_true (leb (n.place + n.count) (length keys)) _ r) in
      multi_a_adds n.number _ (datas_at material (keys_named n keys)) ts (omega (arith, b, named_many n keys (left_true (leb (n.place + n.count) (length keys)) _ r)))
