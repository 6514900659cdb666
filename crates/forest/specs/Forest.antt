-- For the proof: the nodes of the finished trees, the newest first, which are the preorder of the trees in script order; when lists of nodes and keys are those of finished trees, and when what is said of a new node on lists is what is said of it on trees.
use Rattle.std.specs.Prelude.{◌≡◌, Bool, List, [], ◌∷◌, ◌++◌, ℕ, suc, ◌+◌, length}
use Rattle.correctness.specs.declared.Correctness.{Correctness}
use Rattle.std.specs.Prelude.{Ok}
use Rattle.standard.specs.Tree.{Leaf, True, False, PkK, RawPkH, After, Older, HashLock, Multi, MultiA, Tree, Trees, leaf, wrap, join, and_or, thresh, nil, ◌⊳◌, many, key_count, key_counts}
use Rattle.standard.specs.Types.{type_of, judge, passes, fails}
use Rattle.standard.specs.Table.{Node, leaf_kind, wrapper_kind, combination_kind, and_or_kind, thresh_kind, key_place, leaf_offsets, key_table, root_node}
use Rattle.judge.specs.Nodes.{Making, makes, refuses}

-- The preorder

-- the children of a tree, in script order
abbrev pub children : Tree → Trees
children (leaf l) = nil
children (wrap w x) = x ⊳ nil
children (join c x y) = x ⊳ (y ⊳ nil)
children (and_or x y z) = x ⊳ (z ⊳ (y ⊳ nil))
children (thresh k x xs) = x ⊳ xs

-- a root, and then its children in script order; `before` is how many keys stand in the key table before the tree's
abbrev mutual
  pub preorder : Bool → ℕ → Tree → List Node
  preorder segwit before (leaf l) = root_node segwit (leaf l) before ∷ []
  preorder segwit before (wrap w x) = root_node segwit (wrap w x) before ∷ preorder segwit before x
  preorder segwit before (join c x y) = root_node segwit (join c x y) before ∷ (preorder segwit (before + key_count y) x ++ preorder segwit before y)
  preorder segwit before (and_or x y z) =
      root_node segwit (and_or x y z) before
      ∷ (preorder segwit (before + key_count y + key_count z) x ++ (preorder segwit (before + key_count y) z ++ preorder segwit before y))
  preorder segwit before (thresh k x xs) = root_node segwit (thresh k x xs) before ∷ (preorder segwit (before + key_counts xs) x ++ preorders segwit before xs)

  -- of the finished trees, the newest of which is the first
  pub preorders : Bool → ℕ → Trees → List Node
  preorders segwit before nil = []
  preorders segwit before (t ⊳ ts) = preorder segwit (before + key_counts ts) t ++ preorders segwit before ts

-- What a root's node holds besides its size and type

abbrev pub leaf_number : Leaf → ℕ
leaf_number True = 0
leaf_number False = 0
leaf_number (PkK k) = 0
leaf_number (RawPkH d) = 0
leaf_number (After n) = n
leaf_number (Older n) = n
leaf_number (HashLock h d) = 0
leaf_number (Multi k ks) = k
leaf_number (MultiA k d ds) = k

abbrev pub leaf_count : Leaf → ℕ
leaf_count True = 0
leaf_count False = 0
leaf_count (PkK k) = 0
leaf_count (RawPkH d) = 0
leaf_count (After n) = 0
leaf_count (Older n) = 0
leaf_count (HashLock h d) = 0
leaf_count (Multi k ks) = length ks
leaf_count (MultiA k d ds) = suc (length ds)

abbrev pub leaf_place : Leaf → ℕ → ℕ
leaf_place True before = 0
leaf_place False before = 0
leaf_place (PkK k) before = key_place k
leaf_place (RawPkH d) before = d.place
leaf_place (After n) before = 0
leaf_place (Older n) before = 0
leaf_place (HashLock h d) before = d.place
leaf_place (Multi k ks) before = before
leaf_place (MultiA k d ds) before = before

abbrev pub kind_of : Tree → ℕ
kind_of (leaf l) = leaf_kind l
kind_of (wrap w x) = wrapper_kind w
kind_of (join c x y) = combination_kind c
kind_of (and_or x y z) = and_or_kind
kind_of (thresh k x xs) = thresh_kind

abbrev pub number_of : Tree → ℕ
number_of (leaf l) = leaf_number l
number_of (wrap w x) = 0
number_of (join c x y) = 0
number_of (and_or x y z) = 0
number_of (thresh k x xs) = k

abbrev pub count_of : Tree → ℕ
count_of (leaf l) = leaf_count l
count_of (wrap w x) = 0
count_of (join c x y) = 0
count_of (and_or x y z) = 0
count_of (thresh k x xs) = suc (many xs)

abbrev pub place_of : Tree → ℕ → ℕ
place_of (leaf l) before = leaf_place l before
place_of (wrap w x) before = 0
place_of (join c x y) before = 0
place_of (and_or x y z) before = 0
place_of (thresh k x xs) before = 0

-- the keys that a root adds to those of its children
abbrev pub own_keys : Tree → List ℕ
own_keys (leaf l) = leaf_offsets l
own_keys (wrap w x) = []
own_keys (join c x y) = []
own_keys (and_or x y z) = []
own_keys (thresh k x xs) = []

-- Lists and trees

abbrev pub HasType : Bool → Tree → Type 0
HasType segwit t = (c : Correctness) × (type_of segwit t ≡ Ok c)

-- every finished tree has a type
abbrev pub AllHaveTypes : Bool → Trees → Type 0
AllHaveTypes segwit nil = Unit {0}
AllHaveTypes segwit (t ⊳ ts) = HasType segwit t × AllHaveTypes segwit ts

-- and which
abbrev pub types_given : (segwit : Bool) (ts : Trees) → AllHaveTypes segwit ts → List Correctness
types_given segwit nil h = []
types_given segwit (t ⊳ ts) h = h.0.0 ∷ types_given segwit ts h.1

-- the nodes, the newest first, and the keys, in the table's order, are those of the finished trees, and each has a type
pub record Forest (segwit : Bool) (nodes : List Node) (keys : List ℕ) (done : Trees) : Type 0 where
  pub nodes_are : nodes ≡ preorders segwit 0 done
  pub keys_are : keys ≡ key_table done
  pub types : AllHaveTypes segwit done

-- a new node over the finished trees `done`, made on lists: its tree passes, and the new list is that of the new stack; or its tree is refused for the same reason
abbrev pub Agrees : Bool → List Node → List ℕ → Trees → Tree → Making → Type 0
Agrees segwit nodes keys done t (makes n) = (judge segwit t ≡ passes) × Forest segwit (n ∷ nodes) keys (t ⊳ done)
Agrees segwit nodes keys done t (refuses reason) = judge segwit t ≡ fails 14 reason
