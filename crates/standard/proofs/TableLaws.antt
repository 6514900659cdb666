-- Theorems about the two tables. Making a node appends one entry (`leaf_appends`, `wrap_appends`, `join_appends`, `and_or_appends`, `thresh_appends`), and a multi its keys (`leaf_appends_keys`). The tables have `sizes` and `key_counts` entries. Reading a tree back off its tables gives the tree (`read_back`), so two trees with the same tables over the same script are the same (`same_tables_same_tree`). The numbers of a table fix its nodes (`same_numbers_same_nodes`).
use Rattle.std.specs.Prelude.{◌≡◌, Bool, ◌&&◌, eqb, length, take, drop, get_or}
use Rattle.std.proofs.Math.Path.{refl, sym, ap}
use Rattle.std.proofs.Common.{◌∙◌, true≢false, arith, length-append}
use Rattle.std.proofs.Math.Bool.{true, false}
use mathlib.Core.List.{List, [], ◌∷◌, ◌++◌, append_assoc, map, append-nil}
use Rattle.std.proofs.Math.Option.{none, some}
use Prim.Native.Nat.{ℕ, suc, ◌+◌}
use Rattle.std.proofs.Math.Seq.{take-append_seam, drop-append_seam}
use borrow.Author.Tests.{eqb-true}
use Rattle.correctness.specs.Typed.{Typed}
use Rattle.tables.specs.Tables.{flat, Strided}
use Rattle.lex.specs.Token.{Data, data_at, data_length, BYTES32, BYTES33}
use Rattle.tables.proofs.BoolLaws.{left_true, right_true}
use Rattle.standard.specs.Tree.{Key, key, sha256, hash256, ripemd160, hash160, Leaf, True, False, PkK, RawPkH, After, Older, HashLock, Multi, MultiA, Wrapper, alt, swap, check, dupIf, verify, nonZero, zeroNotEqual, Combination, and_v, and_b, or_b, or_d, or_c, or_i, Tree, Trees, leaf, wrap, join, and_or, thresh, nil, ◌⊳◌, ◌⊕◌, many, size, sizes, leaf_keys, key_count, key_counts}
use Rattle.standard.specs.Allowed.{key_form, multi_key, all_multi_keys, multi_count, within, allowed_leaf, thresh_allowed, allowed, all_allowed}
use Rattle.standard.specs.Types.{type_of}
use Rattle.standard.specs.Table.{Node, node_cells, cells, node, key_places, data_places, leaf_offsets, keys_of, key_table, wrapper_kind, combination_kind, and_or_kind, thresh_kind, leaf_node, root_node, nodes_of, nodes_from, node_table, key_code, key_length, keys_at, datas_at, multi_a_of, terminal_of, add_node, trees_of, the_tree, tree_of, DataOf, KeysOf, DatasOf, LeafOf, TreeOf, TreesOf}
use Rattle.standard.proofs.Sound.{take_all}
use Rattle.standard.proofs.TreeLaws.{keys_append}

-- How many entries

pub places_length : (ks : List Key) → length (key_places ks) ≡ length ks
places_length [] = refl
places_length (k ∷ ks) = ap suc (places_length ks)

pub data_length_lem : (ds : List Data) → length (data_places ds) ≡ length ds
data_length_lem [] = refl
data_length_lem (d ∷ ds) = ap suc (data_length_lem ds)

pub keys_at_length : (script places : List ℕ) → length (keys_at script places) ≡ length places
keys_at_length script [] = refl
keys_at_length script (p ∷ ps) = ap suc (keys_at_length script ps)

pub datas_at_length : (script places : List ℕ) → length (datas_at script places) ≡ length places
datas_at_length script [] = refl
datas_at_length script (p ∷ ps) = ap suc (datas_at_length script ps)

pub leaf_keys_length : (l : Leaf) → length (leaf_offsets l) ≡ leaf_keys l
leaf_keys_length True = refl
leaf_keys_length False = refl
leaf_keys_length (PkK k) = refl
leaf_keys_length (RawPkH d) = refl
leaf_keys_length (After n) = refl
leaf_keys_length (Older n) = refl
leaf_keys_length (HashLock h d) = refl
leaf_keys_length (Multi k ks) = places_length ks
leaf_keys_length (MultiA k d ds) = ap suc (data_length_lem ds)

mutual
  pub keys_length : (t : Tree) → length (keys_of t) ≡ key_count t
  keys_length (leaf l) = leaf_keys_length l
  keys_length (wrap w x) = keys_length x
  keys_length (join c x y) = omega (arith, length-append (keys_of y) (keys_of x), keys_length x, keys_length y)
  keys_length (and_or x y z) = omega (arith, length-append (keys_of y) (keys_of z ++ keys_of x), length-append (keys_of z) (keys_of x), keys_length x, keys_length y, keys_length z)
  keys_length (thresh k x xs) = omega (arith, length-append (key_table xs) (keys_of x), keys_length x, key_table_length xs)

  -- the key table of the finished trees has as many entries as they have keys
  pub key_table_length : (ts : Trees) → length (key_table ts) ≡ key_counts ts
  key_table_length nil = refl
  key_table_length (t ⊳ ts) = omega (arith, length-append (key_table ts) (keys_of t), keys_length t, key_table_length ts)

pub key_table_append : (ts more : Trees) → key_table (◌⊕◌ ts more) ≡ key_table more ++ key_table ts
key_table_append nil more = sym (append-nil (key_table more))
key_table_append (t ⊳ ts) more = rw (key_table_append ts more) (append_assoc (key_table more) (key_table ts) (keys_of t))

module _ (segwit : Bool) where
  mutual
    pub nodes_length : (before : ℕ) (t : Tree) → length (nodes_of segwit before t) ≡ size t
    nodes_length before (leaf l) = refl
    nodes_length before (wrap w x) = omega (arith, length-append (nodes_of segwit before x) (root_node segwit (wrap w x) before ∷ []), nodes_length before x)
    nodes_length before (join c x y) =
        let r = root_node segwit (join c x y) before ∷ [] in
        let b = before + key_count y in
        omega (arith, length-append (nodes_of segwit before y) (nodes_of segwit b x ++ r), length-append (nodes_of segwit b x) r, nodes_length b x, nodes_length before y)
    nodes_length before (and_or x y z) =
        let r = root_node segwit (and_or x y z) before ∷ [] in
        let b = before + key_count y in
        let c = before + key_count y + key_count z in
        omega (arith, length-append (nodes_of segwit before y) (nodes_of segwit b z ++ (nodes_of segwit c x ++ r)), length-append (nodes_of segwit b z) (nodes_of segwit c x ++ r), length-append (nodes_of segwit c x) r, nodes_length c x, nodes_length b z, nodes_length before y)
    nodes_length before (thresh k x xs) =
        let r = root_node segwit (thresh k x xs) before ∷ [] in
        let b = before + key_counts xs in
        omega (arith, length-append (nodes_from segwit before xs) (nodes_of segwit b x ++ r), length-append (nodes_of segwit b x) r, nodes_length b x, nodes_from_length before xs)

    nodes_from_length : (before : ℕ) (ts : Trees) → length (nodes_from segwit before ts) ≡ sizes ts
    nodes_from_length before nil = refl
    nodes_from_length before (t ⊳ ts) = omega (arith, length-append (nodes_from segwit before ts) (nodes_of segwit (before + key_counts ts) t), nodes_length (before + key_counts ts) t, nodes_from_length before ts)

  -- the node table of the finished trees has as many entries as they have nodes
  pub node_table_length : (ts : Trees) → length (node_table segwit ts) ≡ sizes ts
  node_table_length ts = nodes_from_length 0 ts

  -- Making a node appends one entry

  pub leaf_appends : (l : Leaf) (ts : Trees) → node_table segwit (leaf l ⊳ ts) ≡ node_table segwit ts ++ (root_node segwit (leaf l) (key_counts ts) ∷ [])
  leaf_appends l ts = let z : 0 + key_counts ts ≡ key_counts ts = omega arith in rw z

  pub leaf_appends_keys : (l : Leaf) (ts : Trees) → key_table (leaf l ⊳ ts) ≡ key_table ts ++ leaf_offsets l
  leaf_appends_keys l ts = refl

  pub wrap_appends : (w : Wrapper) (x : Tree) (ts : Trees) → node_table segwit (wrap w x ⊳ ts) ≡ node_table segwit (x ⊳ ts) ++ (root_node segwit (wrap w x) 0 ∷ [])
  wrap_appends w x ts = simp append_assoc

  pub wrap_keeps_keys : (w : Wrapper) (x : Tree) (ts : Trees) → key_table (wrap w x ⊳ ts) ≡ key_table (x ⊳ ts)
  wrap_keeps_keys w x ts = refl

  pub join_appends : (c : Combination) (x y : Tree) (ts : Trees) → node_table segwit (join c x y ⊳ ts) ≡ node_table segwit (x ⊳ (y ⊳ ts)) ++ (root_node segwit (join c x y) 0 ∷ [])
  join_appends c x y ts = let e : 0 + (key_count y + key_counts ts) ≡ 0 + key_counts ts + key_count y = omega arith in rw e (simp append_assoc)

  pub join_keeps_keys : (c : Combination) (x y : Tree) (ts : Trees) → key_table (join c x y ⊳ ts) ≡ key_table (x ⊳ (y ⊳ ts))
  join_keeps_keys c x y ts = simp append_assoc

  pub and_or_appends : (x y z : Tree) (ts : Trees) → node_table segwit (and_or x y z ⊳ ts) ≡ node_table segwit (x ⊳ (z ⊳ (y ⊳ ts))) ++ (root_node segwit (and_or x y z) 0 ∷ [])
  and_or_appends x y z ts =
      let e : 0 + (key_count y + key_counts ts) ≡ 0 + key_counts ts + key_count y = omega arith in
      let f : 0 + (key_count z + (key_count y + key_counts ts)) ≡ 0 + key_counts ts + key_count y + key_count z = omega arith in
      rw (f, e) (simp append_assoc)

  pub and_or_keeps_keys : (x y z : Tree) (ts : Trees) → key_table (and_or x y z ⊳ ts) ≡ key_table (x ⊳ (z ⊳ (y ⊳ ts)))
  and_or_keeps_keys x y z ts = simp append_assoc

  nodes_append : (before : ℕ) (xs under : Trees) → nodes_from segwit before (◌⊕◌ xs under) ≡ nodes_from segwit before under ++ nodes_from segwit (before + key_counts under) xs
  nodes_append before nil under = sym (append-nil (nodes_from segwit before under))
  nodes_append before (x ⊳ xs) under =
      let e : before + key_counts (◌⊕◌ xs under) ≡ before + key_counts under + key_counts xs = omega (arith, keys_append xs under) in
      rw (nodes_append before xs under, e) (append_assoc (nodes_from segwit before under) (nodes_from segwit (before + key_counts under) xs) (nodes_of segwit (before + key_counts under + key_counts xs) x))

  pub thresh_appends : (k : ℕ) (x : Tree) (xs ts : Trees) → node_table segwit (thresh k x xs ⊳ ts) ≡ node_table segwit (x ⊳ (◌⊕◌ xs ts)) ++ (root_node segwit (thresh k x xs) 0 ∷ [])
  thresh_appends k x xs ts =
      let e : 0 + key_counts (◌⊕◌ xs ts) ≡ 0 + key_counts ts + key_counts xs = omega (arith, keys_append xs ts) in
      rw (e, nodes_append 0 xs ts) (simp append_assoc)

  pub thresh_keeps_keys : (k : ℕ) (x : Tree) (xs ts : Trees) → key_table (thresh k x xs ⊳ ts) ≡ key_table (x ⊳ (◌⊕◌ xs ts))
  thresh_keeps_keys k x xs ts = rw (key_table_append xs ts) (simp append_assoc)

  -- A tree read back

  -- the tree of one node, put on a stack
  module _ (script : List ℕ) (keys : List ℕ) where
    pub wrap_added : (w : Wrapper) (size : ℕ) (o : Typed) (x : Tree) (ts : Trees) → add_node segwit script keys (node (wrapper_kind w) 0 0 0 size o) (x ⊳ ts) ≡ some (wrap w x ⊳ ts)
    unfolding terminal_of
    wrap_added alt size o x ts = refl
    wrap_added swap size o x ts = refl
    wrap_added check size o x ts = refl
    wrap_added dupIf size o x ts = refl
    wrap_added verify size o x ts = refl
    wrap_added nonZero size o x ts = refl
    wrap_added zeroNotEqual size o x ts = refl

    pub join_added : (c : Combination) (size : ℕ) (o : Typed) (x y : Tree) (ts : Trees) → add_node segwit script keys (node (combination_kind c) 0 0 0 size o) (x ⊳ (y ⊳ ts)) ≡ some (join c x y ⊳ ts)
    unfolding terminal_of
    join_added and_v size o x y ts = refl
    join_added and_b size o x y ts = refl
    join_added or_b size o x y ts = refl
    join_added or_d size o x y ts = refl
    join_added or_c size o x y ts = refl
    join_added or_i size o x y ts = refl

    pub and_or_added : (size : ℕ) (o : Typed) (x y z : Tree) (ts : Trees) → add_node segwit script keys (node and_or_kind 0 0 0 size o) (x ⊳ (z ⊳ (y ⊳ ts))) ≡ some (and_or x y z ⊳ ts)
    unfolding terminal_of
    and_or_added size o x y z ts = refl

    pub thresh_added : (k size : ℕ) (o : Typed) (x : Tree) (xs ts : Trees) → add_node segwit script keys (node thresh_kind k (suc (many xs)) 0 size o) (x ⊳ (◌⊕◌ xs ts)) ≡ some (thresh k x xs ⊳ ts)
    unfolding terminal_of
    thresh_added k size o x xs ts = take_all xs ts none (λ taken rest. some (thresh k x taken ⊳ rest))

    pub key_read : (z : Bool) (code : ℕ) (d : Data) → key_form z (key code d) ≡ true → DataOf script code d → key (key_code z) (data_at script d.place (key_length z)) ≡ key code d
    unfolding data_length
    key_read true code d g e = let c : code ≡ BYTES33 = eqb-true code BYTES33 (left_true (eqb code BYTES33) _ g) in let f : d ≡ data_at script d.place 33 = rw c at e in rw c (ap (key BYTES33) (sym f))
    key_read false code d g e = let c : code ≡ BYTES32 = eqb-true code BYTES32 g in let f : d ≡ data_at script d.place 32 = rw c at e in rw c (ap (key BYTES32) (sym f))

    pub keys_read_lem : (z : Bool) (ks : List Key) → all_multi_keys z ks ≡ true → KeysOf script ks → keys_at script (key_places ks) ≡ ks
    unfolding data_length
    keys_read_lem z [] g e = refl
    keys_read_lem true (key code d ∷ ks) g e =
        let c : code ≡ BYTES33 = eqb-true code BYTES33 (left_true (eqb code BYTES33) _ (left_true (multi_key true (key code d)) (all_multi_keys true ks) g)) in
        let f : d ≡ data_at script d.place 33 = rw c at e.0 in
        let first_key : key BYTES33 (data_at script d.place 33) ≡ key code d = rw c (ap (key BYTES33) (sym f)) in
        rw (first_key, keys_read_lem true ks (right_true (multi_key true (key code d)) (all_multi_keys true ks) g) e.1)
    keys_read_lem false (k ∷ ks) g e = absurd (true≢false (sym g))

    pub datas_read : (ds : List Data) → DatasOf script ds → datas_at script (data_places ds) ≡ ds
    unfolding data_length
    datas_read [] e = refl
    datas_read (d ∷ ds) e = let f : data_at script d.place 32 ≡ d = sym e.0 in rw (f, datas_read ds e.1)

    -- the part of the key table that a tree's keys are
    pub record KeyPart (part : List ℕ) (before : ℕ) : Type 0 where
      pub front : List ℕ
      pub back : List ℕ
      pub whole : keys ≡ front ++ (part ++ back)
      pub behind : length front ≡ before

    pub part_read : (part : List ℕ) (before n : ℕ) → KeyPart part before → length part ≡ n → take n (drop before keys) ≡ part
    part_read part before n s e = rw (← e, ← s.behind, s.whole, drop-append_seam, take-append_seam)

    pub first_part : (a b : List ℕ) (before : ℕ) → KeyPart (a ++ b) before → KeyPart a before
    first_part a b before s = record { front = s.front; back = b ++ s.back; whole = s.whole ∙ simp append_assoc; behind = s.behind }

    pub second_part : (a b : List ℕ) (before n : ℕ) → KeyPart (a ++ b) before → length a ≡ n → KeyPart b (before + n)
    second_part a b before n s e = record { front = s.front ++ a; back = s.back; whole = s.whole ∙ simp append_assoc; behind = length-append s.front a ∙ (let f = s.behind in omega arith) }

    pub leaf_added : (l : Leaf) (before : ℕ) (o : Typed) (ts : Trees) → allowed_leaf segwit l ≡ true → LeafOf script l → KeyPart (leaf_offsets l) before → add_node segwit script keys (leaf_node l before o) ts ≡ some (leaf l ⊳ ts)
    unfolding terminal_of data_length
    leaf_added True before o ts g e s = refl
    leaf_added False before o ts g e s = refl
    leaf_added (PkK (key code d)) before o ts g e s = ap (λ (k : Key). some (leaf (PkK k) ⊳ ts)) (key_read segwit code d g e)
    leaf_added (RawPkH d) before o ts g e s = ap (λ (x : Data). some (leaf (RawPkH x) ⊳ ts)) (sym e)
    leaf_added (After n) before o ts g e s = refl
    leaf_added (Older n) before o ts g e s = refl
    leaf_added (HashLock sha256 d) before o ts g e s = ap (λ (x : Data). some (leaf (HashLock sha256 x) ⊳ ts)) (sym e)
    leaf_added (HashLock hash256 d) before o ts g e s = ap (λ (x : Data). some (leaf (HashLock hash256 x) ⊳ ts)) (sym e)
    leaf_added (HashLock ripemd160 d) before o ts g e s = ap (λ (x : Data). some (leaf (HashLock ripemd160 x) ⊳ ts)) (sym e)
    leaf_added (HashLock hash160 d) before o ts g e s = ap (λ (x : Data). some (leaf (HashLock hash160 x) ⊳ ts)) (sym e)
    leaf_added (Multi k ks) before o ts g e s =
        let h = left_true (all_multi_keys segwit ks) (within 1 k (length ks)) (right_true (multi_count (length ks)) (all_multi_keys segwit ks && within 1 k (length ks)) g) in
        rw (part_read (key_places ks) before (length ks) s (places_length ks), keys_read_lem segwit ks h e)
    leaf_added (MultiA k d ds) before o ts g e s =
        ap (λ (ps : List ℕ). multi_a_of k (datas_at script ps) ts) (part_read (data_places (d ∷ ds)) before (suc (length ds)) s (ap suc (data_length_lem ds))) ∙ ap (λ (l : List Data). multi_a_of k l ts) (datas_read (d ∷ ds) e)

    -- a tree's nodes, read, leave the tree on the stack
    on_stack : (n : Node) (rest : List Node) (ts us : Trees) → add_node segwit script keys n ts ≡ some us → trees_of segwit script keys (n ∷ rest) ts ≡ trees_of segwit script keys rest us
    on_stack n rest ts us e = rw e

    mutual
      the_nodes_read : (t : Tree) (before : ℕ) → allowed segwit t ≡ true → TreeOf script t → KeyPart (keys_of t) before → (rest : List Node) (ts : Trees)
          → trees_of segwit script keys (nodes_of segwit before t ++ rest) ts ≡ trees_of segwit script keys rest (t ⊳ ts)
      the_nodes_read (leaf l) before g e s rest ts = on_stack _ rest ts (leaf l ⊳ ts) (leaf_added l before (type_of segwit (leaf l)) ts g e s)
      the_nodes_read (wrap w x) before g e s rest ts =
          let r = root_node segwit (wrap w x) before in
          rw (append_assoc (nodes_of segwit before x) (r ∷ []) rest)
          (the_nodes_read x before g e s (r ∷ rest) ts ∙ on_stack r rest (x ⊳ ts) (wrap w x ⊳ ts) (wrap_added w (size (wrap w x)) (type_of segwit (wrap w x)) x ts))
      the_nodes_read (join c x y) before g e s rest ts =
          let r = root_node segwit (join c x y) before in
          let b = before + key_count y in
          rw (append_assoc (nodes_of segwit before y) (nodes_of segwit b x ++ (r ∷ [])) rest, append_assoc (nodes_of segwit b x) (r ∷ []) rest)
          (the_nodes_read y before (right_true (allowed segwit x) (allowed segwit y) g) e.1 (first_part (keys_of y) (keys_of x) before s) (nodes_of segwit b x ++ (r ∷ rest)) ts
          ∙ the_nodes_read x b (left_true (allowed segwit x) (allowed segwit y) g) e.0 (second_part (keys_of y) (keys_of x) before (key_count y) s (keys_length y)) (r ∷ rest) (y ⊳ ts)
          ∙ on_stack r rest (x ⊳ (y ⊳ ts)) (join c x y ⊳ ts) (join_added c (size (join c x y)) (type_of segwit (join c x y)) x y ts))
      the_nodes_read (and_or x y z) before g e s rest ts =
          let r = root_node segwit (and_or x y z) before in
          let b = before + key_count y in
          let c = before + key_count y + key_count z in
          let g' = right_true (allowed segwit x) (allowed segwit y && allowed segwit z) g in
          let s' = second_part (keys_of y) (keys_of z ++ keys_of x) before (key_count y) s (keys_length y) in
          rw (append_assoc (nodes_of segwit before y) (nodes_of segwit b z ++ (nodes_of segwit c x ++ (r ∷ []))) rest, append_assoc (nodes_of segwit b z) (nodes_of segwit c x ++ (r ∷ [])) rest, append_assoc (nodes_of segwit c x) (r ∷ []) rest)
          (the_nodes_read y before (left_true (allowed segwit y) (allowed segwit z) g') e.1.0 (first_part (keys_of y) (keys_of z ++ keys_of x) before s) (nodes_of segwit b z ++ (nodes_of segwit c x ++ (r ∷ rest))) ts
          ∙ the_nodes_read z b (right_true (allowed segwit y) (allowed segwit z) g') e.1.1 (first_part (keys_of z) (keys_of x) b s') (nodes_of segwit c x ++ (r ∷ rest)) (y ⊳ ts)
          ∙ the_nodes_read x c (left_true (allowed segwit x) (allowed segwit y && allowed segwit z) g) e.0 (second_part (keys_of z) (keys_of x) b (key_count z) s' (keys_length z)) (r ∷ rest) (z ⊳ (y ⊳ ts))
          ∙ on_stack r rest (x ⊳ (z ⊳ (y ⊳ ts))) (and_or x y z ⊳ ts) (and_or_added (size (and_or x y z)) (type_of segwit (and_or x y z)) x y z ts))
      the_nodes_read (thresh k x xs) before g e s rest ts =
          let r = root_node segwit (thresh k x xs) before in
          let b = before + key_counts xs in
          let g' = right_true (thresh_allowed k x xs) (allowed segwit x && all_allowed segwit xs) g in
          rw (append_assoc (nodes_from segwit before xs) (nodes_of segwit b x ++ (r ∷ [])) rest, append_assoc (nodes_of segwit b x) (r ∷ []) rest)
          (all_read xs before (right_true (allowed segwit x) (all_allowed segwit xs) g') e.1 (first_part (key_table xs) (keys_of x) before s) (nodes_of segwit b x ++ (r ∷ rest)) ts
          ∙ the_nodes_read x b (left_true (allowed segwit x) (all_allowed segwit xs) g') e.0 (second_part (key_table xs) (keys_of x) before (key_counts xs) s (key_table_length xs)) (r ∷ rest) (◌⊕◌ xs ts)
          ∙ on_stack r rest (x ⊳ (◌⊕◌ xs ts)) (thresh k x xs ⊳ ts) (thresh_added k (size (thresh k x xs)) (type_of segwit (thresh k x xs)) x xs ts))

      all_read : (xs : Trees) (before : ℕ) → all_allowed segwit xs ≡ true → TreesOf script xs → KeyPart (key_table xs) before → (rest : List Node) (ts : Trees)
          → trees_of segwit script keys (nodes_from segwit before xs ++ rest) ts ≡ trees_of segwit script keys rest (◌⊕◌ xs ts)
      all_read nil before g e s rest ts = refl
      all_read (x ⊳ xs) before g e s rest ts =
          let b = before + key_counts xs in
          rw (append_assoc (nodes_from segwit before xs) (nodes_of segwit b x) rest)
          (all_read xs before (right_true (allowed segwit x) (all_allowed segwit xs) g) e.1 (first_part (key_table xs) (keys_of x) before s) (nodes_of segwit b x ++ rest) ts
          ∙ the_nodes_read x b (left_true (allowed segwit x) (all_allowed segwit xs) g) e.0 (second_part (key_table xs) (keys_of x) before (key_counts xs) s (key_table_length xs)) rest (◌⊕◌ xs ts))

  pub one_whole : (script : List ℕ) (t : Tree) → KeyPart script (key_table (t ⊳ nil)) (keys_of t) 0
  one_whole script t = record { front = []; back = []; whole = sym (append-nil (keys_of t)); behind = refl }

  -- Reading a tree back off its node table, its key table and the script gives the tree
  pub read_back : (script : List ℕ) (t : Tree) → allowed segwit t ≡ true → TreeOf script t → tree_of segwit script (key_table (t ⊳ nil)) (node_table segwit (t ⊳ nil)) ≡ some t
  read_back script t g e =
      let z : 0 + 0 ≡ 0 = omega arith in
      let h : trees_of segwit script (key_table (t ⊳ nil)) (nodes_of segwit 0 t) nil ≡ some (t ⊳ nil) =
      rw (← append-nil (nodes_of segwit 0 t)) (the_nodes_read script (key_table (t ⊳ nil)) t 0 g e (one_whole script t) [] nil) in
      ap the_tree h

  -- so two trees with the same tables over the same script are the same
  pub same_tables_same_tree : (script : List ℕ) (t u : Tree) → allowed segwit t ≡ true → TreeOf script t → allowed segwit u ≡ true → TreeOf script u
      → node_table segwit (t ⊳ nil) ≡ node_table segwit (u ⊳ nil) → key_table (t ⊳ nil) ≡ key_table (u ⊳ nil) → t ≡ u
  same_tables_same_tree script t u gt et gu eu en ek = some_same (sym (read_back script t gt et) ∙ same ∙ read_back script u gu eu)
    where
      same : tree_of segwit script (key_table (t ⊳ nil)) (node_table segwit (t ⊳ nil)) ≡ tree_of segwit script (key_table (u ⊳ nil)) (node_table segwit (u ⊳ nil))
      same = ap (λ (k : List ℕ). tree_of segwit script k (node_table segwit (t ⊳ nil))) ek ∙ ap (λ (n : List Node). tree_of segwit script (key_table (u ⊳ nil)) n) en

      some_same : some t ≡ some u → t ≡ u
      some_same e = cc

-- Nine numbers a node

pub nodes_strided : (ns : List Node) → Strided node_cells (map cells ns)
nodes_strided [] = tt
nodes_strided (n ∷ ns) = (refl, nodes_strided ns)

abbrev first_node : List ℕ → Node
first_node l =
    record {
      kind = get_or l 0 0;
      number = get_or l 1 0;
      count = get_or l 2 0;
      place = get_or l 3 0;
      size = get_or l 4 0;
      base = get_or l 5 0;
      input = get_or l 6 0;
      d = get_or l 7 0;
      u = get_or l 8 0;
    }

-- so the numbers of a node table, and how many nodes they are, fix the nodes
pub same_numbers_same_nodes : (ns ms : List Node) (a b : List ℕ) → length ns ≡ length ms → flat (map cells ns) ++ a ≡ flat (map cells ms) ++ b → ns ≡ ms
same_numbers_same_nodes [] [] a b l e = refl
same_numbers_same_nodes [] (m ∷ ms) a b l e = let z : ⊥ = omega arith in absurd z
same_numbers_same_nodes (n ∷ ns) [] a b l e = let z : ⊥ = omega arith in absurd z
same_numbers_same_nodes (n ∷ ns) (m ∷ ms) a b l e =
    let first-same : n ≡ m = ap first_node e in
    let rest-same : ns ≡ ms = same_numbers_same_nodes ns ms a b (omega arith) (ap (λ (x : List ℕ). drop 9 x) e) in
    ap (λ (x : Node). x ∷ ns) first-same ∙ ap (λ (x : List Node). m ∷ x) rest-same
