-- A tree that holds what the material has at its places, each key and hash wholly within it.
use Rattle.std.specs.Prelude.{List, [], ◌∷◌, ℕ, ◌+◌, ◌≤◌, length}
use Rattle.lex.specs.Token.{Data, data_length, HASH20, BYTES32}
use Rattle.standard.specs.Tree.{Key, key, Leaf, True, False, PkK, RawPkH, After, Older, HashLock, Multi, MultiA, Tree, Trees, leaf, wrap, join, and_or, thresh, nil, ◌⊳◌}
use Rattle.standard.specs.Written.{hash_push}
use Rattle.standard.specs.Table.{DataOf}

abbrev pub DataIn : List ℕ → ℕ → Data → Type 0
DataIn material code d = DataOf material code d × (d.place + data_length code ≤ length material)

abbrev pub KeysIn : List ℕ → List Key → Type 0
KeysIn material [] = Unit {0}
KeysIn material (key code d ∷ ks) = DataIn material code d × KeysIn material ks

abbrev pub DatasIn : List ℕ → List Data → Type 0
DatasIn material [] = Unit {0}
DatasIn material (d ∷ ds) = DataIn material BYTES32 d × DatasIn material ds

abbrev pub LeafIn : List ℕ → Leaf → Type 0
LeafIn material True = Unit {0}
LeafIn material False = Unit {0}
LeafIn material (PkK (key code d)) = DataIn material code d
LeafIn material (RawPkH d) = DataIn material HASH20 d
LeafIn material (After n) = Unit {0}
LeafIn material (Older n) = Unit {0}
LeafIn material (HashLock h d) = DataIn material (hash_push h) d
LeafIn material (Multi k ks) = KeysIn material ks
LeafIn material (MultiA k d ds) = DatasIn material (d ∷ ds)

abbrev mutual
  pub TreeIn : List ℕ → Tree → Type 0
  TreeIn material (leaf l) = LeafIn material l
  TreeIn material (wrap w x) = TreeIn material x
  TreeIn material (join c x y) = TreeIn material x × TreeIn material y
  TreeIn material (and_or x y z) = TreeIn material x × (TreeIn material y × TreeIn material z)
  TreeIn material (thresh k x xs) = TreeIn material x × TreesIn material xs

  pub TreesIn : List ℕ → Trees → Type 0
  TreesIn material nil = Unit {0}
  TreesIn material (t ⊳ ts) = TreeIn material t × TreesIn material ts
