-- The node table and the key table of a tree and of the finished trees: document 01, "Tokens to tree" ("A node holds ..", "Nodes stand in order of completion", "A multi's keys stand in script order in the key table, as offsets"). And a tree read back off the two tables and the script.
use Rattle.std.specs.Prelude.{◌≡◌, Bool, true, false, List, [], ◌∷◌, ◌++◌, ℕ, zero, suc, ◌+◌, ◌*◌, length, get_or, take, drop}
use Rattle.std.proofs.Math.Option.{Option, none, some}
use Rattle.correctness.specs.Typed.{Typed}
use Rattle.std.specs.Prelude.{Ok, Err}
use Rattle.base_input.specs.Numbers.{base_number, input_number, bool_number}
use Rattle.lex.specs.Token.{Data, data_at, data_length, HASH20, BYTES32, BYTES33}
use Rattle.tables.specs.Choose.{look}
use Rattle.standard.specs.Tree.{Key, key, Hash, sha256, hash256, ripemd160, hash160, Leaf, True, False, PkK, RawPkH, After, Older, HashLock, Multi, MultiA, Wrapper, alt, swap, check, dupIf, verify, nonZero, zeroNotEqual, Combination, and_v, and_b, or_b, or_d, or_c, or_i, Tree, Trees, leaf, wrap, join, and_or, thresh, nil, ◌⊳◌, many, size, key_count, key_counts}
use Rattle.standard.specs.Written.{hash_push}
use Rattle.standard.specs.Types.{type_of}

-- a node: "kind; number (locktime or k); count (thresh children or keys); place (script offset of the key or hash data, or first entry in the key table); size (nodes in its subtree, itself too); base, input, d, u"
pub record Node : Type 0 where
  pub kind : ℕ
  pub number : ℕ
  pub count : ℕ
  pub place : ℕ
  pub size : ℕ
  pub base : ℕ
  pub input : ℕ
  pub d : ℕ
  pub u : ℕ

-- how many numbers a node has, and which
abbrev pub node_cells : ℕ
node_cells = 9

abbrev pub cells : Node → List ℕ
cells n = n.kind ∷ n.number ∷ n.count ∷ n.place ∷ n.size ∷ n.base ∷ n.input ∷ n.d ∷ n.u ∷ []

-- node number i of a table
abbrev pub node_at : List ℕ → ℕ → Node
node_at table i =
    record {
      kind = get_or table (node_cells * i) 0;
      number = get_or table (node_cells * i + 1) 0;
      count = get_or table (node_cells * i + 2) 0;
      place = get_or table (node_cells * i + 3) 0;
      size = get_or table (node_cells * i + 4) 0;
      base = get_or table (node_cells * i + 5) 0;
      input = get_or table (node_cells * i + 6) 0;
      d = get_or table (node_cells * i + 7) 0;
      u = get_or table (node_cells * i + 8) 0;
    }

-- the fields of a type; a finished tree always has one
abbrev pub base_field : Typed → ℕ
base_field (Ok c) = base_number c.base
base_field (Err e) = 0

abbrev pub input_field : Typed → ℕ
input_field (Ok c) = input_number c.input
input_field (Err e) = 0

abbrev pub d_field : Typed → ℕ
d_field (Ok c) = bool_number c.dissatisfiable
d_field (Err e) = 0

abbrev pub u_field : Typed → ℕ
u_field (Ok c) = bool_number c.unit
u_field (Err e) = 0

abbrev pub node : ℕ → ℕ → ℕ → ℕ → ℕ → Typed → Node
node kind number count place size type =
    record { kind = kind; number = number; count = count; place = place; size = size; base = base_field type; input = input_field type; d = d_field type; u = u_field type }

-- "Kinds are numbered by `Terminal`'s order from True 1 to MultiA 28; 4 (PkH) never occurs"

abbrev pub hash_kind : Hash → ℕ
hash_kind sha256 = 8
hash_kind hash256 = 9
hash_kind ripemd160 = 10
hash_kind hash160 = 11

abbrev pub leaf_kind : Leaf → ℕ
leaf_kind True = 1
leaf_kind False = 2
leaf_kind (PkK k) = 3
leaf_kind (RawPkH d) = 5
leaf_kind (After n) = 6
leaf_kind (Older n) = 7
leaf_kind (HashLock h d) = hash_kind h
leaf_kind (Multi k ks) = 27
leaf_kind (MultiA k d ds) = 28

abbrev pub wrapper_kind : Wrapper → ℕ
wrapper_kind alt = 12
wrapper_kind swap = 13
wrapper_kind check = 14
wrapper_kind dupIf = 15
wrapper_kind verify = 16
wrapper_kind nonZero = 17
wrapper_kind zeroNotEqual = 18

abbrev pub combination_kind : Combination → ℕ
combination_kind and_v = 19
combination_kind and_b = 20
combination_kind or_b = 22
combination_kind or_d = 23
combination_kind or_c = 24
combination_kind or_i = 25

abbrev pub and_or_kind : ℕ
and_or_kind = 21

abbrev pub thresh_kind : ℕ
thresh_kind = 26

-- what a number stands for: a `Terminal` without what it holds
pub data Terminal : Type 0 where
  noTerminal isTrue isFalse isPkK isRawPkH isAfter isOlder : Terminal
  is_hash : Hash → Terminal
  is_wrapper : Wrapper → Terminal
  is_combination : Combination → Terminal
  isAndOr isThresh isMulti isMultiA : Terminal

abbrev pub terminals : List (ℕ × Terminal)
terminals =
    (1, isTrue) ∷
    (2, isFalse) ∷
    (3, isPkK) ∷
    (5, isRawPkH) ∷
    (6, isAfter) ∷
    (7, isOlder) ∷
    (8, is_hash sha256) ∷
    (9, is_hash hash256) ∷
    (10, is_hash ripemd160) ∷
    (11, is_hash hash160) ∷
    (12, is_wrapper alt) ∷
    (13, is_wrapper swap) ∷
    (14, is_wrapper check) ∷
    (15, is_wrapper dupIf) ∷
    (16, is_wrapper verify) ∷
    (17, is_wrapper nonZero) ∷
    (18, is_wrapper zeroNotEqual) ∷
    (19, is_combination and_v) ∷
    (20, is_combination and_b) ∷
    (21, isAndOr) ∷
    (22, is_combination or_b) ∷
    (23, is_combination or_d) ∷
    (24, is_combination or_c) ∷
    (25, is_combination or_i) ∷
    (26, isThresh) ∷
    (27, isMulti) ∷
    (28, isMultiA) ∷
    []

unfoldable pub terminal_of : ℕ → Terminal
terminal_of kind = look kind terminals noTerminal

-- how many bytes a hash lock's hash has
abbrev pub hash_length : Hash → ℕ
hash_length sha256 = 32
hash_length hash256 = 32
hash_length ripemd160 = 20
hash_length hash160 = 20

-- The key table

abbrev pub key_place : Key → ℕ
key_place (key code d) = d.place

abbrev pub key_places : List Key → List ℕ
key_places [] = []
key_places (k ∷ ks) = key_place k ∷ key_places ks

abbrev pub data_places : List Data → List ℕ
data_places [] = []
data_places (d ∷ ds) = d.place ∷ data_places ds

abbrev pub leaf_offsets : Leaf → List ℕ
leaf_offsets True = []
leaf_offsets False = []
leaf_offsets (PkK k) = []
leaf_offsets (RawPkH d) = []
leaf_offsets (After n) = []
leaf_offsets (Older n) = []
leaf_offsets (HashLock h d) = []
leaf_offsets (Multi k ks) = key_places ks
leaf_offsets (MultiA k d ds) = data_places (d ∷ ds)

-- the keys of the child that is last in the script come first, as its nodes do; and_or's script order is X, Z, Y
abbrev mutual
  pub keys_of : Tree → List ℕ
  keys_of (leaf l) = leaf_offsets l
  keys_of (wrap w x) = keys_of x
  keys_of (join c x y) = keys_of y ++ keys_of x
  keys_of (and_or x y z) = keys_of y ++ (keys_of z ++ keys_of x)
  keys_of (thresh k x xs) = key_table xs ++ keys_of x

  -- of the finished trees, the newest of which is the first
  pub key_table : Trees → List ℕ
  key_table nil = []
  key_table (t ⊳ ts) = key_table ts ++ keys_of t

-- The node table: `before` is how many keys stand in the key table before those of the tree

-- "Unused fields are 0"
abbrev pub leaf_node : Leaf → ℕ → Typed → Node
leaf_node True before c = node (leaf_kind True) 0 0 0 1 c
leaf_node False before c = node (leaf_kind False) 0 0 0 1 c
leaf_node (PkK k) before c = node (leaf_kind (PkK k)) 0 0 (key_place k) 1 c
leaf_node (RawPkH d) before c = node (leaf_kind (RawPkH d)) 0 0 d.place 1 c
leaf_node (After n) before c = node (leaf_kind (After n)) n 0 0 1 c
leaf_node (Older n) before c = node (leaf_kind (Older n)) n 0 0 1 c
leaf_node (HashLock h d) before c = node (leaf_kind (HashLock h d)) 0 0 d.place 1 c
leaf_node (Multi k ks) before c = node (leaf_kind (Multi k ks)) k (length ks) before 1 c
leaf_node (MultiA k d ds) before c = node (leaf_kind (MultiA k d ds)) k (suc (length ds)) before 1 c

-- the root's node
abbrev pub root_node : Bool → Tree → ℕ → Node
root_node segwit (leaf l) before = leaf_node l before (type_of segwit (leaf l))
root_node segwit (wrap w x) before = node (wrapper_kind w) 0 0 0 (size (wrap w x)) (type_of segwit (wrap w x))
root_node segwit (join c x y) before = node (combination_kind c) 0 0 0 (size (join c x y)) (type_of segwit (join c x y))
root_node segwit (and_or x y z) before = node and_or_kind 0 0 0 (size (and_or x y z)) (type_of segwit (and_or x y z))
root_node segwit (thresh k x xs) before = node thresh_kind k (suc (many xs)) 0 (size (thresh k x xs)) (type_of segwit (thresh k x xs))

-- "Nodes stand in order of completion": the child that is last in the script first, and the root last
abbrev mutual
  pub nodes_of : Bool → ℕ → Tree → List Node
  nodes_of segwit before (leaf l) = root_node segwit (leaf l) before ∷ []
  nodes_of segwit before (wrap w x) = nodes_of segwit before x ++ (root_node segwit (wrap w x) before ∷ [])
  nodes_of segwit before (join c x y) = nodes_of segwit before y ++ (nodes_of segwit (before + key_count y) x ++ (root_node segwit (join c x y) before ∷ []))
  nodes_of segwit before (and_or x y z) =
      nodes_of segwit before y ++ (nodes_of segwit (before + key_count y) z ++ (nodes_of segwit (before + key_count y + key_count z) x ++ (root_node segwit (and_or x y z) before ∷ [])))
  nodes_of segwit before (thresh k x xs) = nodes_from segwit before xs ++ (nodes_of segwit (before + key_counts xs) x ++ (root_node segwit (thresh k x xs) before ∷ []))

  -- of the finished trees, the newest of which is the first
  pub nodes_from : Bool → ℕ → Trees → List Node
  nodes_from segwit before nil = []
  nodes_from segwit before (t ⊳ ts) = nodes_from segwit before ts ++ nodes_of segwit (before + key_counts ts) t

abbrev pub node_table : Bool → Trees → List Node
node_table segwit ts = nodes_from segwit 0 ts

-- A tree read back: the nodes are taken in the table's order over a stack of trees, as they were made

-- the first n of a stack, and the rest
abbrev pub take_trees : {A : Type 0} → ℕ → Trees → A → (Trees → Trees → A) → A
take_trees zero ts few onward = onward nil ts
take_trees (suc n) nil few onward = few
take_trees (suc n) (t ⊳ ts) few onward = take_trees n ts few (λ taken rest. onward (t ⊳ taken) rest)

-- a pk_k's key has 33 bytes in segwit, 32 in tapscript
abbrev pub key_code : Bool → ℕ
key_code true = BYTES33
key_code false = BYTES32

abbrev pub key_length : Bool → ℕ
key_length true = 33
key_length false = 32

abbrev pub keys_at : List ℕ → List ℕ → List Key
keys_at script [] = []
keys_at script (p ∷ ps) = key BYTES33 (data_at script p 33) ∷ keys_at script ps

abbrev pub datas_at : List ℕ → List ℕ → List Data
datas_at script [] = []
datas_at script (p ∷ ps) = data_at script p 32 ∷ datas_at script ps

abbrev pub multi_a_of : ℕ → List Data → Trees → Option Trees
multi_a_of k [] ts = none
multi_a_of k (d ∷ ds) ts = some (leaf (MultiA k d ds) ⊳ ts)

abbrev pub wrap_top : Wrapper → Trees → Option Trees
wrap_top w nil = none
wrap_top w (x ⊳ ts) = some (wrap w x ⊳ ts)

abbrev pub join_top : Combination → Trees → Option Trees
join_top c nil = none
join_top c (x ⊳ nil) = none
join_top c (x ⊳ (y ⊳ ts)) = some (join c x y ⊳ ts)

abbrev pub and_or_top : Trees → Option Trees
and_or_top nil = none
and_or_top (x ⊳ nil) = none
and_or_top (x ⊳ (z ⊳ nil)) = none
and_or_top (x ⊳ (z ⊳ (y ⊳ ts))) = some (and_or x y z ⊳ ts)

abbrev pub thresh_top : ℕ → ℕ → Trees → Option Trees
thresh_top k n nil = none
thresh_top k zero (x ⊳ ts) = none
thresh_top k (suc n) (x ⊳ ts) = take_trees n ts none (λ xs rest. some (thresh k x xs ⊳ rest))

-- one node more, by what its kind stands for
abbrev pub add_terminal : Bool → List ℕ → List ℕ → Terminal → Node → Trees → Option Trees
add_terminal segwit script keys noTerminal n ts = none
add_terminal segwit script keys isTrue n ts = some (leaf True ⊳ ts)
add_terminal segwit script keys isFalse n ts = some (leaf False ⊳ ts)
add_terminal segwit script keys isPkK n ts = some (leaf (PkK (key (key_code segwit) (data_at script n.place (key_length segwit)))) ⊳ ts)
add_terminal segwit script keys isRawPkH n ts = some (leaf (RawPkH (data_at script n.place 20)) ⊳ ts)
add_terminal segwit script keys isAfter n ts = some (leaf (After n.number) ⊳ ts)
add_terminal segwit script keys isOlder n ts = some (leaf (Older n.number) ⊳ ts)
add_terminal segwit script keys (is_hash h) n ts = some (leaf (HashLock h (data_at script n.place (hash_length h))) ⊳ ts)
add_terminal segwit script keys (is_wrapper w) n ts = wrap_top w ts
add_terminal segwit script keys (is_combination c) n ts = join_top c ts
add_terminal segwit script keys isAndOr n ts = and_or_top ts
add_terminal segwit script keys isThresh n ts = thresh_top n.number n.count ts
add_terminal segwit script keys isMulti n ts = some (leaf (Multi n.number (keys_at script (take n.count (drop n.place keys)))) ⊳ ts)
add_terminal segwit script keys isMultiA n ts = multi_a_of n.number (datas_at script (take n.count (drop n.place keys))) ts

abbrev pub add_node : Bool → List ℕ → List ℕ → Node → Trees → Option Trees
add_node segwit script keys n ts = add_terminal segwit script keys (terminal_of n.kind) n ts

abbrev pub going_on : Option Trees → (Trees → Option Trees) → Option Trees
going_on none f = none
going_on (some ts) f = f ts

-- the trees that a node table holds, the newest first
abbrev pub trees_of : Bool → List ℕ → List ℕ → List Node → Trees → Option Trees
trees_of segwit script keys [] ts = some ts
trees_of segwit script keys (n ∷ ns) ts = going_on (add_node segwit script keys n ts) (λ more. trees_of segwit script keys ns more)

-- a node table that holds one tree
abbrev pub the_tree : Option Trees → Option Tree
the_tree none = none
the_tree (some nil) = none
the_tree (some (t ⊳ nil)) = some t
the_tree (some (t ⊳ (u ⊳ ts))) = none

abbrev pub tree_of : Bool → List ℕ → List ℕ → List Node → Option Tree
tree_of segwit script keys nodes = the_tree (trees_of segwit script keys nodes nil)

-- A tree that holds what the script has at its places: each key and hash is the bytes there, as many as its push has

abbrev pub DataOf : List ℕ → ℕ → Data → Type 0
DataOf script code d = d ≡ data_at script d.place (data_length code)

abbrev pub KeysOf : List ℕ → List Key → Type 0
KeysOf script [] = Unit {0}
KeysOf script (key code d ∷ ks) = DataOf script code d × KeysOf script ks

abbrev pub DatasOf : List ℕ → List Data → Type 0
DatasOf script [] = Unit {0}
DatasOf script (d ∷ ds) = DataOf script BYTES32 d × DatasOf script ds

abbrev pub LeafOf : List ℕ → Leaf → Type 0
LeafOf script True = Unit {0}
LeafOf script False = Unit {0}
LeafOf script (PkK (key code d)) = DataOf script code d
LeafOf script (RawPkH d) = DataOf script HASH20 d
LeafOf script (After n) = Unit {0}
LeafOf script (Older n) = Unit {0}
LeafOf script (HashLock h d) = DataOf script (hash_push h) d
LeafOf script (Multi k ks) = KeysOf script ks
LeafOf script (MultiA k d ds) = DatasOf script (d ∷ ds)

abbrev mutual
  pub TreeOf : List ℕ → Tree → Type 0
  TreeOf script (leaf l) = LeafOf script l
  TreeOf script (wrap w x) = TreeOf script x
  TreeOf script (join c x y) = TreeOf script x × TreeOf script y
  TreeOf script (and_or x y z) = TreeOf script x × (TreeOf script y × TreeOf script z)
  TreeOf script (thresh k x xs) = TreeOf script x × TreesOf script xs

  pub TreesOf : List ℕ → Trees → Type 0
  TreesOf script nil = Unit {0}
  TreesOf script (t ⊳ ts) = TreeOf script t × TreesOf script ts
