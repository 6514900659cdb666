-- Trees: the kinds of decode.rs's `Terminal` (document 01, "Tokens to tree"), and when two trees are the same.
use Rattle.std.specs.Prelude.{◌≡◌, Bool, true, false, ◌&&◌, not, List, [], ◌∷◌, ℕ, suc, ◌+◌, length}
use Rattle.lex.specs.Token.{Data}

-- a key: the code of its push (Bytes32, Bytes33 or Bytes65, which says how many bytes it has), and its data
pub data Key : Type 0 where
  key : ℕ → Data → Key

-- the four hashes
pub data Hash : Type 0 where
  sha256 hash256 ripemd160 hash160 : Hash

-- the kinds without a child: 1, 0, pk_k, a raw key hash, after, older, a hash lock, multi with its k and keys, multi_a with its k, first key and further keys
pub data Leaf : Type 0 where
  True False : Leaf
  PkK : Key → Leaf
  RawPkH : Data → Leaf
  After Older : ℕ → Leaf
  HashLock : Hash → Data → Leaf
  Multi : ℕ → List Key → Leaf
  MultiA : ℕ → Data → List Data → Leaf

-- the kinds with one child: BIP 379's wrappers a: s: c: d: v: j: n:
pub data Wrapper : Type 0 where
  alt swap check dupIf verify nonZero zeroNotEqual : Wrapper

-- the kinds with two children: and_v, and_b, or_b, or_d, or_c, or_i
pub data Combination : Type 0 where
  and_v and_b or_b or_d or_c or_i : Combination

-- and_or has X, Y and Z; thresh has k, its first child and the others
infixr 60 ◌⊳◌
mutual
  pub data Tree : Type 0 where
    leaf : Leaf → Tree
    wrap : Wrapper → Tree → Tree
    join : Combination → Tree → Tree → Tree
    and_or : Tree → Tree → Tree → Tree
    thresh : ℕ → Tree → Trees → Tree

  pub data Trees : Type 0 where
    nil : Trees
    ◌⊳◌ : Tree → Trees → Trees

-- how many trees
abbrev pub many : Trees → ℕ
many nil = 0
many (t ⊳ ts) = suc (many ts)

-- some trees, and then more
abbrev pub ◌⊕◌ : Trees → Trees → Trees
◌⊕◌ nil more = more
◌⊕◌ (t ⊳ ts) more = t ⊳ (◌⊕◌ ts more)

-- "Two trees are the same when kinds, numbers, counts, shape and key and hash bytes agree, whatever the offsets": a tree that has lost its offsets

abbrev pub bare_data : Data → Data
bare_data d = record { place = 0; bytes = d.bytes }

abbrev pub bare_datas : List Data → List Data
bare_datas [] = []
bare_datas (d ∷ ds) = bare_data d ∷ bare_datas ds

abbrev pub bare_key : Key → Key
bare_key (key code d) = key code (bare_data d)

abbrev pub bare_keys : List Key → List Key
bare_keys [] = []
bare_keys (k ∷ ks) = bare_key k ∷ bare_keys ks

abbrev pub bare_leaf : Leaf → Leaf
bare_leaf True = True
bare_leaf False = False
bare_leaf (PkK k) = PkK (bare_key k)
bare_leaf (RawPkH d) = RawPkH (bare_data d)
bare_leaf (After n) = After n
bare_leaf (Older n) = Older n
bare_leaf (HashLock h d) = HashLock h (bare_data d)
bare_leaf (Multi k ks) = Multi k (bare_keys ks)
bare_leaf (MultiA k d ds) = MultiA k (bare_data d) (bare_datas ds)

abbrev mutual
  pub bare_tree : Tree → Tree
  bare_tree (leaf l) = leaf (bare_leaf l)
  bare_tree (wrap w x) = wrap w (bare_tree x)
  bare_tree (join c x y) = join c (bare_tree x) (bare_tree y)
  bare_tree (and_or x y z) = and_or (bare_tree x) (bare_tree y) (bare_tree z)
  bare_tree (thresh k x xs) = thresh k (bare_tree x) (bare_trees xs)

  pub bare_trees : Trees → Trees
  bare_trees nil = nil
  bare_trees (t ⊳ ts) = bare_tree t ⊳ bare_trees ts

abbrev pub SameTree : Tree → Tree → Type 0
SameTree t u = bare_tree t ≡ bare_tree u

-- "size (nodes in its subtree, itself too)"
abbrev mutual
  pub size : Tree → ℕ
  size (leaf l) = 1
  size (wrap w x) = size x + 1
  size (join c x y) = size x + size y + 1
  size (and_or x y z) = size x + size y + size z + 1
  size (thresh k x xs) = size x + sizes xs + 1

  pub sizes : Trees → ℕ
  sizes nil = 0
  sizes (t ⊳ ts) = size t + sizes ts

-- how many keys the multis and multi_as of a tree have
abbrev pub leaf_keys : Leaf → ℕ
leaf_keys True = 0
leaf_keys False = 0
leaf_keys (PkK k) = 0
leaf_keys (RawPkH d) = 0
leaf_keys (After n) = 0
leaf_keys (Older n) = 0
leaf_keys (HashLock h d) = 0
leaf_keys (Multi k ks) = length ks
leaf_keys (MultiA k d ds) = suc (length ds)

abbrev mutual
  pub key_count : Tree → ℕ
  key_count (leaf l) = leaf_keys l
  key_count (wrap w x) = key_count x
  key_count (join c x y) = key_count x + key_count y
  key_count (and_or x y z) = key_count x + key_count y + key_count z
  key_count (thresh k x xs) = key_count x + key_counts xs

  pub key_counts : Trees → ℕ
  key_counts nil = 0
  key_counts (t ⊳ ts) = key_count t + key_counts ts

-- and_v chains nested to the left: no and_v is the second child of an and_v

abbrev pub joins_by_and_v : Combination → Bool
joins_by_and_v and_v = true
joins_by_and_v and_b = false
joins_by_and_v or_b = false
joins_by_and_v or_d = false
joins_by_and_v or_c = false
joins_by_and_v or_i = false

abbrev pub is_and_v_tree : Tree → Bool
is_and_v_tree (leaf l) = false
is_and_v_tree (wrap w x) = false
is_and_v_tree (join c x y) = joins_by_and_v c
is_and_v_tree (and_or x y z) = false
is_and_v_tree (thresh k x xs) = false

abbrev mutual
  pub left_nested : Tree → Bool
  left_nested (leaf l) = true
  left_nested (wrap w x) = left_nested x
  left_nested (join c x y) = not (joins_by_and_v c && is_and_v_tree y) && (left_nested x && left_nested y)
  left_nested (and_or x y z) = left_nested x && (left_nested y && left_nested z)
  left_nested (thresh k x xs) = left_nested x && all_left_nested xs

  pub all_left_nested : Trees → Bool
  all_left_nested nil = true
  all_left_nested (t ⊳ ts) = left_nested t && all_left_nested ts
