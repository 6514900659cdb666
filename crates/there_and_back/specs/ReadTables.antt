-- The checks pass the tables that the reader hands out: over the node table and the key table of an allowed, well-typed tree, whose keys and hashes lie within the script, they find that tree. Assumes nothing.
-- Why: each node is the root's of a subtree, over its children's trees, and holds that subtree's size and type.
use Rattle.std.specs.Prelude.{◌≡◌, Bool, ◌&&◌, eqb, get_or, take, drop}
use Rattle.std.proofs.Math.Path.{refl, ap}
use Rattle.std.proofs.Common.{sym, ◌∙◌, true≢false, arith, length-append}
use Rattle.std.proofs.Math.Bool.{true, false}
use mathlib.Core.List.{List, [], ◌∷◌, ◌++◌, append_assoc, append-nil, map}
use Rattle.std.proofs.Math.Option.{Option, some}
use Prim.Native.Nat.{ℕ, suc, ◌+◌, ◌*◌, ◌%◌, ◌≤◌, ◌<◌}
use borrow.Author.Tests.{eqb-true, le-leb, eq-eqb}
use Rattle.std.proofs.Math.Dec.{leb}
use Rattle.std.proofs.Math.ListN.{length}
use Rattle.base_input.specs.declared.Base.{Base}
use Rattle.base_input.specs.Tests.{is_b}
use Rattle.base_input.specs.Numbers.{base_number, input_number, bool_number}
use Rattle.correctness.specs.declared.Correctness.{Correctness}
use Rattle.correctness.specs.Typed.{Typed}
use Rattle.std.specs.Prelude.{Ok, Err}
use Rattle.correctness.specs.Rules as rules
use Rattle.correctness.specs.Rules.{onward, leaf_type, threshold}
use Rattle.lex.specs.Token.{Data, data_at, data_length, BYTES32, BYTES33}
use Rattle.tables.specs.Choose.{pick}
use Rattle.tables.specs.Tables.{flat}
use Rattle.tables.proofs.BoolLaws.{left_true, right_true, both_true}
use Rattle.standard.specs.Tree.{Key, key, sha256, hash256, ripemd160, hash160, Leaf, True, False, PkK, RawPkH, After, Older, HashLock, Multi, MultiA, Wrapper, alt, swap, check, dupIf, verify, nonZero, zeroNotEqual, Combination, and_v, and_b, or_b, or_d, or_c, or_i, Tree, Trees, leaf, wrap, join, and_or, thresh, nil, ◌⊳◌, ◌⊕◌, many, size, key_count, key_counts}
use Rattle.standard.proofs.TreeLaws.{many_append}
use Rattle.standard.specs.Allowed.{within, key_form, multi_key, all_multi_keys, all_multi_a_keys, locktime, multi_count, multi_a_threshold, allowed_leaf, thresh_allowed, allowed, all_allowed}
use Rattle.standard.specs.Types.{typed_leaf, wrapper_rule, combination_rule, AllTyped, all, not_all, and_then, ruled, type_of, types_of, WellTypedB}
use Rattle.standard.proofs.RuleLaws.{onward_is}
use Rattle.standard.specs.Table.{Node, node, node_at, node_cells, cells, terminal_of, wrapper_kind, combination_kind, and_or_kind, thresh_kind, leaf_node, root_node, key_places, data_places, keys_of, key_table, nodes_of, nodes_from, node_table, leaf_offsets, key_code, key_length, keys_at, datas_at, add_node, Terminal, isPkK, is_wrapper, is_combination, isAndOr, isThresh, KeysOf, DatasOf, LeafOf}
use Rattle.standard.proofs.TableLaws.{KeyPart, key_read, keys_read_lem, datas_read, part_read, first_part, second_part, one_whole, places_length, data_length_lem, keys_length, key_table_length, wrap_added, join_added, and_or_added, thresh_added, leaf_added}
use Rattle.encoding.specs.Form.{Shape, shape, shape_of, unused_are_zero, in_range, all_within, child_count, sizes_of_first, formed_as, well_formed}
use Rattle.encoding.specs.Values.{value_refusal_of, value_refusal}
use Rattle.encoding.specs.Checks as checks
use Rattle.encoding.specs.Checks.{Checked, finished, holds_type, check_node, check_nodes, found, top_checked, root_checked}
use Rattle.encoding.specs.Encoding as encoding
use Rattle.encoding.specs.Encoding.{node_count, tree_in}
use Rattle.judge.specs.Nodes.{no_node}
use Rattle.judge.specs.NodeTableLaws.{node_read}
use Rattle.encoding.proofs.Passed.{first_sizes}
use Rattle.there_and_back.specs.Ranged.{DataIn, KeysIn, DatasIn, LeafIn, TreeIn, TreesIn}

-- a node of a type holds it
held : (kind number count place size : ℕ) (c : Correctness) → holds_type (node kind number count place size (Ok c)) c ≡ true
held kind number count place size c =
    both_true (eq-eqb (base_number c.base) (base_number c.base) refl)
    (both_true (eq-eqb (input_number c.input) (input_number c.input) refl)
    (both_true (eq-eqb (bool_number c.dissatisfiable) (bool_number c.dissatisfiable) refl) (eq-eqb (bool_number c.unit) (bool_number c.unit) refl)))

module _ (segwit : Bool) (script keys : List ℕ) where
  -- what a node needs to pass
  node_checked : (n : Node) (ts us : Trees) (t : Tree) (c : Correctness) → well_formed segwit (length script) keys n ts ≡ true → value_refusal segwit script keys n ≡ 0
      → add_node segwit script keys n ts ≡ some (t ⊳ us) → type_of segwit t ≡ Ok c → holds_type n c ≡ true → check_node segwit script keys n ts ≡ finished (t ⊳ us)
  node_checked n ts us t c f v m y h = rw (f, v, m, y, h)

  formed : (s : Shape) (n : Node) (ts : Trees) → unused_are_zero s n ≡ true → in_range (length script) keys s n ≡ true → child_count s n ≤ many ts → n.size ≡ sizes_of_first (child_count s n) ts + 1
      → formed_as (length script) keys (some s) n ts ≡ true
  formed s n ts u r k z = both_true u (both_true r (both_true (le-leb (child_count s n) (many ts) k) (eq-eqb n.size (sizes_of_first (child_count s n) ts + 1) z)))

  -- The leaves

  data_of_keys : (ks : List Key) → KeysIn script ks → KeysOf script ks
  data_of_keys [] i = tt
  data_of_keys (key code d ∷ ks) i = (i.0.0, data_of_keys ks i.1)

  data_of_datas : (ds : List Data) → DatasIn script ds → DatasOf script ds
  data_of_datas [] i = tt
  data_of_datas (d ∷ ds) i = (i.0.0, data_of_datas ds i.1)

  leaf_of_lem : (l : Leaf) → LeafIn script l → LeafOf script l
  leaf_of_lem True i = tt
  leaf_of_lem False i = tt
  leaf_of_lem (PkK (key code d)) i = i.0
  leaf_of_lem (RawPkH d) i = i.0
  leaf_of_lem (After n) i = tt
  leaf_of_lem (Older n) i = tt
  leaf_of_lem (HashLock h d) i = i.0
  leaf_of_lem (Multi k ks) i = data_of_keys ks i
  leaf_of_lem (MultiA k d ds) i = data_of_datas (d ∷ ds) i

  keys_within : (ks : List Key) → all_multi_keys segwit ks ≡ true → KeysIn script ks → all_within 33 (length script) (key_places ks) ≡ true
  unfolding data_length
  keys_within [] g i = refl
  keys_within (key code d ∷ ks) g i =
      let form = right_true segwit (key_form segwit (key code d)) (left_true (multi_key segwit (key code d)) (all_multi_keys segwit ks) g) in
      let c : code ≡ BYTES33 = multi_code segwit (left_true segwit (key_form segwit (key code d)) (left_true (multi_key segwit (key code d)) (all_multi_keys segwit ks) g)) form in
      let r : d.place + data_length BYTES33 ≤ length script = rw c at i.0.1 in
      both_true (le-leb (d.place + 33) (length script) r) (keys_within ks (right_true (multi_key segwit (key code d)) (all_multi_keys segwit ks) g) i.1)
    where
      multi_code : (z : Bool) → z ≡ true → key_form z (key code d) ≡ true → code ≡ BYTES33
      multi_code true e f = eqb-true code BYTES33 (left_true (eqb code BYTES33) _ f)
      multi_code false e f = absurd (true≢false (sym e))

  datas_within : (ds : List Data) → DatasIn script ds → all_within 32 (length script) (data_places ds) ≡ true
  unfolding data_length
  datas_within [] i = refl
  datas_within (d ∷ ds) i = both_true (le-leb (d.place + 32) (length script) i.0.1) (datas_within ds i.1)

  -- a part of the key table ends within it
  part_within : (part : List ℕ) (before n : ℕ) → KeyPart segwit script keys part before → length part ≡ n → before + n ≤ length keys
  part_within part before n s e =
      let l : length keys ≡ length s.front + (length part + length s.back) = ap length s.whole ∙ length-append s.front (part ++ s.back) ∙ ap (λ (k : ℕ). length s.front + k) (length-append part s.back) in
      let b = s.behind in
      omega arith

  key_checked : (z : Bool) (code : ℕ) (d : Data) (c : Typed) (ts : Trees) → key_form z (key code d) ≡ true → DataIn script code d
      → formed_as (length script) keys (shape_of z isPkK) (node 3 0 0 d.place 1 c) ts ≡ true
  unfolding data_length
  key_checked true code d c ts g i =
      let e : code ≡ BYTES33 = eqb-true code BYTES33 (left_true (eqb code BYTES33) _ g) in
      let r : d.place + data_length BYTES33 ≤ length script = rw e at i.1 in
      formed (shape false false 33 0 0) (node 3 0 0 d.place 1 c) ts refl (le-leb (d.place + 33) (length script) r) (omega arith) refl
  key_checked false code d c ts g i =
      let e : code ≡ BYTES32 = eqb-true code BYTES32 g in
      let r : d.place + data_length BYTES32 ≤ length script = rw e at i.1 in
      formed (shape false false 32 0 0) (node 3 0 0 d.place 1 c) ts refl (le-leb (d.place + 32) (length script) r) (omega arith) refl

  leaf_formed : (l : Leaf) (before : ℕ) (c : Typed) (ts : Trees) → allowed_leaf segwit l ≡ true → LeafIn script l → KeyPart segwit script keys (leaf_offsets l) before
      → well_formed segwit (length script) keys (leaf_node l before c) ts ≡ true
  unfolding terminal_of well_formed data_length
  leaf_formed True before c ts g i s = formed (shape false false 0 0 0) (leaf_node True before c) ts refl (le-leb 0 (length script) (omega arith)) (omega arith) refl
  leaf_formed False before c ts g i s = formed (shape false false 0 0 0) (leaf_node False before c) ts refl (le-leb 0 (length script) (omega arith)) (omega arith) refl
  leaf_formed (PkK (key code d)) before c ts g i s = key_checked segwit code d c ts g i
  leaf_formed (RawPkH d) before c ts g i s = formed (shape false false 20 0 0) (leaf_node (RawPkH d) before c) ts refl (le-leb (d.place + 20) (length script) i.1) (omega arith) refl
  leaf_formed (After n) before c ts g i s = formed (shape true false 0 0 0) (leaf_node (After n) before c) ts refl (le-leb 0 (length script) (omega arith)) (omega arith) refl
  leaf_formed (Older n) before c ts g i s = formed (shape true false 0 0 0) (leaf_node (Older n) before c) ts refl (le-leb 0 (length script) (omega arith)) (omega arith) refl
  leaf_formed (HashLock sha256 d) before c ts g i s = formed (shape false false 32 0 0) (leaf_node (HashLock sha256 d) before c) ts refl (le-leb (d.place + 32) (length script) i.1) (omega arith) refl
  leaf_formed (HashLock hash256 d) before c ts g i s = formed (shape false false 32 0 0) (leaf_node (HashLock hash256 d) before c) ts refl (le-leb (d.place + 32) (length script) i.1) (omega arith) refl
  leaf_formed (HashLock ripemd160 d) before c ts g i s = formed (shape false false 20 0 0) (leaf_node (HashLock ripemd160 d) before c) ts refl (le-leb (d.place + 20) (length script) i.1) (omega arith) refl
  leaf_formed (HashLock hash160 d) before c ts g i s = formed (shape false false 20 0 0) (leaf_node (HashLock hash160 d) before c) ts refl (le-leb (d.place + 20) (length script) i.1) (omega arith) refl
  leaf_formed (Multi k ks) before c ts g i s =
      let p = part_read segwit script keys (key_places ks) before (length ks) s (places_length ks) in
      let h = left_true (all_multi_keys segwit ks) (within 1 k (length ks)) (right_true (multi_count (length ks)) (all_multi_keys segwit ks && within 1 k (length ks)) g) in
      formed (shape true false 0 33 0) (leaf_node (Multi k ks) before c) ts refl
      (both_true (le-leb (before + length ks) (length keys) (part_within (key_places ks) before (length ks) s (places_length ks))) (ap (all_within 33 (length script)) p ∙ keys_within ks h i)) (omega arith) refl
  leaf_formed (MultiA k d ds) before c ts g i s =
      let l : length (data_places (d ∷ ds)) ≡ suc (length ds) = ap suc (data_length_lem ds) in
      let p = part_read segwit script keys (data_places (d ∷ ds)) before (suc (length ds)) s l in
      formed (shape true false 0 32 0) (leaf_node (MultiA k d ds) before c) ts refl
      (both_true (le-leb (before + suc (length ds)) (length keys) (part_within (data_places (d ∷ ds)) before (suc (length ds)) s l)) (ap (all_within 32 (length script)) p ∙ datas_within (d ∷ ds) i)) (omega arith) refl

  -- a test that holds gives no number
  no_number : (b : Bool) (n : ℕ) → b ≡ true → pick b 0 n ≡ 0
  no_number b n e = rw e

  two_tests : (a b : Bool) (n m : ℕ) → a ≡ true → b ≡ true → pick a (pick b 0 n) m ≡ 0
  two_tests a b n m e f = rw (e, f)

  leaf_valued : (l : Leaf) (before : ℕ) (c : Typed) → allowed_leaf segwit l ≡ true → LeafIn script l → KeyPart segwit script keys (leaf_offsets l) before → value_refusal segwit script keys (leaf_node l before c) ≡ 0
  unfolding terminal_of value_refusal
  leaf_valued True before c g i s = refl
  leaf_valued False before c g i s = refl
  leaf_valued (PkK (key code d)) before c g i s = no_number (key_form segwit (key (key_code segwit) (data_at script d.place (key_length segwit)))) 11 (ap (key_form segwit) (key_read segwit script keys segwit code d g i.0) ∙ g)
  leaf_valued (RawPkH d) before c g i s = refl
  leaf_valued (After n) before c g i s = no_number (locktime n) 12 g
  leaf_valued (Older n) before c g i s = no_number (locktime n) 12 g
  leaf_valued (HashLock sha256 d) before c g i s = refl
  leaf_valued (HashLock hash256 d) before c g i s = refl
  leaf_valued (HashLock ripemd160 d) before c g i s = refl
  leaf_valued (HashLock hash160 d) before c g i s = refl
  leaf_valued (Multi k ks) before c g i s =
      let h = right_true (multi_count (length ks)) (all_multi_keys segwit ks && within 1 k (length ks)) g in
      let a = left_true (all_multi_keys segwit ks) (within 1 k (length ks)) h in
      let same : keys_at script (take (length ks) (drop before keys)) ≡ ks =
      ap (keys_at script) (part_read segwit script keys (key_places ks) before (length ks) s (places_length ks)) ∙ keys_read_lem segwit script keys segwit ks a (data_of_keys ks i) in
      two_tests (all_multi_keys segwit (keys_at script (take (length ks) (drop before keys)))) (multi_count (length ks) && within 1 k (length ks)) 13 11
      (ap (all_multi_keys segwit) same ∙ a) (both_true (left_true (multi_count (length ks)) (all_multi_keys segwit ks && within 1 k (length ks)) g) (right_true (all_multi_keys segwit ks) (within 1 k (length ks)) h))
  leaf_valued (MultiA k d ds) before c g i s =
      let h = right_true (multi_a_threshold k) (all_multi_a_keys segwit (d ∷ ds) && (leb k (suc (length ds)) && leb (suc (length ds)) 999)) g in
      let a = left_true (all_multi_a_keys segwit (d ∷ ds)) (leb k (suc (length ds)) && leb (suc (length ds)) 999) h in
      let same : datas_at script (take (suc (length ds)) (drop before keys)) ≡ d ∷ ds =
      ap (datas_at script) (part_read segwit script keys (data_places (d ∷ ds)) before (suc (length ds)) s (ap suc (data_length_lem ds))) ∙ datas_read segwit script keys (d ∷ ds) (data_of_datas (d ∷ ds) i) in
      two_tests (all_multi_a_keys segwit (datas_at script (take (suc (length ds)) (drop before keys)))) (multi_a_threshold k && (leb k (suc (length ds)) && leb (suc (length ds)) 999)) 13 11
      (ap (all_multi_a_keys segwit) same ∙ a)
      (both_true (left_true (multi_a_threshold k) _ g) (right_true (all_multi_a_keys segwit (d ∷ ds)) (leb k (suc (length ds)) && leb (suc (length ds)) 999) h))

  -- a node whose type is known holds it
  holds : (kind number count place size : ℕ) (o : Typed) (c : Correctness) → o ≡ Ok c → holds_type (node kind number count place size o) c ≡ true
  holds kind number count place size o c e = ap (λ (x : Typed). holds_type (node kind number count place size x) c) e ∙ held kind number count place size c

  leaf_holds : (l : Leaf) (before : ℕ) (c : Correctness) → holds_type (leaf_node l before (Ok c)) c ≡ true
  leaf_holds True before c = held 1 0 0 0 1 c
  leaf_holds False before c = held 2 0 0 0 1 c
  leaf_holds (PkK (key code d)) before c = held 3 0 0 d.place 1 c
  leaf_holds (RawPkH d) before c = held 5 0 0 d.place 1 c
  leaf_holds (After n) before c = held 6 n 0 0 1 c
  leaf_holds (Older n) before c = held 7 n 0 0 1 c
  leaf_holds (HashLock sha256 d) before c = held 8 0 0 d.place 1 c
  leaf_holds (HashLock hash256 d) before c = held 9 0 0 d.place 1 c
  leaf_holds (HashLock ripemd160 d) before c = held 10 0 0 d.place 1 c
  leaf_holds (HashLock hash160 d) before c = held 11 0 0 d.place 1 c
  leaf_holds (Multi k ks) before c = held 27 k (length ks) before 1 c
  leaf_holds (MultiA k d ds) before c = held 28 k (suc (length ds)) before 1 c

  leaf_checked : (l : Leaf) (before : ℕ) (ts : Trees) → allowed_leaf segwit l ≡ true → LeafIn script l → KeyPart segwit script keys (leaf_offsets l) before
      → check_node segwit script keys (root_node segwit (leaf l) before) ts ≡ finished (leaf l ⊳ ts)
  leaf_checked l before ts g i s =
      node_checked (root_node segwit (leaf l) before) ts ts (leaf l) (leaf_type (typed_leaf l)) (leaf_formed l before (type_of segwit (leaf l)) ts g i s) (leaf_valued l before (type_of segwit (leaf l)) g i s)
      (leaf_added segwit script keys l before (type_of segwit (leaf l)) ts g (leaf_of_lem l i) s) refl (leaf_holds l before (leaf_type (typed_leaf l)))

  -- Nodes with children

  wrapper_terminal : (w : Wrapper) → terminal_of (wrapper_kind w) ≡ is_wrapper w
  unfolding terminal_of
  wrapper_terminal alt = refl
  wrapper_terminal swap = refl
  wrapper_terminal check = refl
  wrapper_terminal dupIf = refl
  wrapper_terminal verify = refl
  wrapper_terminal nonZero = refl
  wrapper_terminal zeroNotEqual = refl

  combination_terminal : (c : Combination) → terminal_of (combination_kind c) ≡ is_combination c
  unfolding terminal_of
  combination_terminal and_v = refl
  combination_terminal and_b = refl
  combination_terminal or_b = refl
  combination_terminal or_d = refl
  combination_terminal or_c = refl
  combination_terminal or_i = refl

  and_or_terminal : terminal_of and_or_kind ≡ isAndOr
  unfolding terminal_of
  and_or_terminal = refl

  thresh_terminal : terminal_of thresh_kind ≡ isThresh
  unfolding terminal_of
  thresh_terminal = refl

  -- a parent: a node without place over its children
  parent_checked : (kind : ℕ) (terminal : Terminal) (s : Shape) (number count size : ℕ) (o : Typed) (c : Correctness) (ts us : Trees) (t : Tree) → terminal_of kind ≡ terminal → shape_of segwit terminal ≡ some s
      → formed_as (length script) keys (some s) (node kind number count 0 size o) ts ≡ true → value_refusal_of segwit script keys terminal (node kind number count 0 size o) ≡ 0
      → add_node segwit script keys (node kind number count 0 size o) ts ≡ some (t ⊳ us) → type_of segwit t ≡ Ok c → o ≡ Ok c → check_node segwit script keys (node kind number count 0 size o) ts ≡ finished (t ⊳ us)
  unfolding well_formed value_refusal
  parent_checked kind _ s number count size o c ts us t k h f v m y e =
      let n : Node = node kind number count 0 size o in
      node_checked n ts us t c (ap (λ (x : Terminal). formed_as (length script) keys (shape_of segwit x) n ts) k ∙ ap (λ (x : Option Shape). formed_as (length script) keys x n ts) h ∙ f)
      (ap (λ (x : Terminal). value_refusal_of segwit script keys x n) k ∙ v) m y (holds kind number count 0 size o c e)

  in_range_no_place : leb (0 + 0) (length script) ≡ true
  in_range_no_place = le-leb (0 + 0) (length script) (omega arith)

  wrap_checked : (w : Wrapper) (x : Tree) (ts : Trees) (c : Correctness) → type_of segwit (wrap w x) ≡ Ok c
      → check_node segwit script keys (root_node segwit (wrap w x) 0) (x ⊳ ts) ≡ finished (wrap w x ⊳ ts)
  wrap_checked w x ts c y =
      let n : Node = root_node segwit (wrap w x) 0 in
      parent_checked (wrapper_kind w) (is_wrapper w) (shape false false 0 0 1) 0 0 (size (wrap w x)) (type_of segwit (wrap w x)) c (x ⊳ ts) ts (wrap w x) (wrapper_terminal w) refl
      (formed (shape false false 0 0 1) n (x ⊳ ts) refl in_range_no_place (omega arith) (omega arith)) refl (wrap_added segwit script keys w (size (wrap w x)) (type_of segwit (wrap w x)) x ts) y y

  join_checked : (k : Combination) (x y : Tree) (ts : Trees) (c : Correctness) → type_of segwit (join k x y) ≡ Ok c
      → check_node segwit script keys (root_node segwit (join k x y) 0) (x ⊳ (y ⊳ ts)) ≡ finished (join k x y ⊳ ts)
  join_checked k x y ts c e =
      let n : Node = root_node segwit (join k x y) 0 in
      parent_checked (combination_kind k) (is_combination k) (shape false false 0 0 2) 0 0 (size (join k x y)) (type_of segwit (join k x y)) c (x ⊳ (y ⊳ ts)) ts (join k x y) (combination_terminal k) refl
      (formed (shape false false 0 0 2) n (x ⊳ (y ⊳ ts)) refl in_range_no_place (omega arith) (omega arith)) refl (join_added segwit script keys k (size (join k x y)) (type_of segwit (join k x y)) x y ts) e e

  and_or_checked : (x y z : Tree) (ts : Trees) (c : Correctness) → type_of segwit (and_or x y z) ≡ Ok c
      → check_node segwit script keys (root_node segwit (and_or x y z) 0) (x ⊳ (z ⊳ (y ⊳ ts))) ≡ finished (and_or x y z ⊳ ts)
  and_or_checked x y z ts c e =
      let n : Node = root_node segwit (and_or x y z) 0 in
      parent_checked and_or_kind isAndOr (shape false false 0 0 3) 0 0 (size (and_or x y z)) (type_of segwit (and_or x y z)) c (x ⊳ (z ⊳ (y ⊳ ts))) ts (and_or x y z) and_or_terminal refl
      (formed (shape false false 0 0 3) n (x ⊳ (z ⊳ (y ⊳ ts))) refl in_range_no_place (omega arith) (omega arith)) refl (and_or_added segwit script keys (size (and_or x y z)) (type_of segwit (and_or x y z)) x y z ts) e e

  thresh_checked : (k : ℕ) (x : Tree) (xs ts : Trees) (c : Correctness) → thresh_allowed k x xs ≡ true → type_of segwit (thresh k x xs) ≡ Ok c
      → check_node segwit script keys (root_node segwit (thresh k x xs) 0) (x ⊳ (◌⊕◌ xs ts)) ≡ finished (thresh k x xs ⊳ ts)
  thresh_checked k x xs ts c g e =
      let n : Node = root_node segwit (thresh k x xs) 0 in
      parent_checked thresh_kind isThresh (shape true true 0 0 0) k (suc (many xs)) (size (thresh k x xs)) (type_of segwit (thresh k x xs)) c (x ⊳ (◌⊕◌ xs ts)) ts (thresh k x xs) thresh_terminal refl
      (formed (shape true true 0 0 0) n (x ⊳ (◌⊕◌ xs ts)) refl in_range_no_place (omega (arith, many_append xs ts)) (ap (λ (j : ℕ). size x + j + 1) (sym (first_sizes xs ts))))
      (no_number (within 1 k (suc (many xs))) 13 g) (thresh_added segwit script keys k (size (thresh k x xs)) (type_of segwit (thresh k x xs)) x xs ts) e e

  -- Every subtree of a well-typed tree has a type

  abbrev Typable : Tree → Type 0
  Typable t = (c : Correctness) × (type_of segwit t ≡ Ok c)

  abbrev AllTypable : Trees → Type 0
  AllTypable ts = (cs : List Correctness) × (types_of segwit ts ≡ all cs)

  children_typable : (o : Typed) (a : AllTyped) (c : Correctness) → ruled (and_then o a) threshold ≡ Ok c → ((d : Correctness) × (o ≡ Ok d)) × ((cs : List Correctness) × (a ≡ all cs))
  children_typable (Ok d) (all cs) c e = ((d, refl), (cs, refl))
  children_typable (Ok d) (not_all x) c e = let z : ◌≡◌ {A = ℕ} 0 1 = cc in let no : ⊥ = omega arith in absurd no
  children_typable (Err x) a c e = let z : ◌≡◌ {A = ℕ} 0 1 = cc in let no : ⊥ = omega arith in absurd no

  first_typable : (o : Typed) (a : AllTyped) (cs : List Correctness) → and_then o a ≡ all cs → ((d : Correctness) × (o ≡ Ok d)) × ((ds : List Correctness) × (a ≡ all ds))
  first_typable (Ok d) (all ds) cs e = ((d, refl), (ds, refl))
  first_typable (Ok d) (not_all x) cs e = let z : ◌≡◌ {A = ℕ} 0 1 = cc in let no : ⊥ = omega arith in absurd no
  first_typable (Err x) a cs e = let z : ◌≡◌ {A = ℕ} 0 1 = cc in let no : ⊥ = omega arith in absurd no

  -- A tree's nodes, checked, leave the tree on the stack

  on_stack : (n : Node) (rest : List Node) (ts us : Trees) → check_node segwit script keys n ts ≡ finished us → check_nodes segwit script keys (n ∷ rest) ts ≡ check_nodes segwit script keys rest us
  on_stack n rest ts us e = rw e

  mutual
    nodes_checked : (t : Tree) (before : ℕ) → allowed segwit t ≡ true → TreeIn script t → Typable t → KeyPart segwit script keys (keys_of t) before → (rest : List Node) (ts : Trees)
        → check_nodes segwit script keys (nodes_of segwit before t ++ rest) ts ≡ check_nodes segwit script keys rest (t ⊳ ts)
    nodes_checked (leaf l) before g i y s rest ts = on_stack (root_node segwit (leaf l) before) rest ts (leaf l ⊳ ts) (leaf_checked l before ts g i s)
    nodes_checked (wrap w x) before g i y s rest ts =
        let r = root_node segwit (wrap w x) before in
        let a = onward_is (type_of segwit x) (wrapper_rule segwit w) y.0 y.1 in
        rw (append_assoc (nodes_of segwit before x) (r ∷ []) rest)
        (nodes_checked x before g i (a.0, a.1) s (r ∷ rest) ts ∙ on_stack r rest (x ⊳ ts) (wrap w x ⊳ ts) (wrap_checked w x ts y.0 y.1))
    nodes_checked (join k x y) before g i t s rest ts =
        let r = root_node segwit (join k x y) before in
        let b = before + key_count y in
        let a = onward_is (type_of segwit x) (λ p. onward (type_of segwit y) (λ q. combination_rule k p q)) t.0 t.1 in
        let c = onward_is (type_of segwit y) (λ q. combination_rule k a.0 q) t.0 a.2 in
        rw (append_assoc (nodes_of segwit before y) (nodes_of segwit b x ++ (r ∷ [])) rest, append_assoc (nodes_of segwit b x) (r ∷ []) rest)
        (nodes_checked y before (right_true (allowed segwit x) (allowed segwit y) g) i.1 (c.0, c.1) (first_part segwit script keys (keys_of y) (keys_of x) before s) (nodes_of segwit b x ++ (r ∷ rest)) ts
        ∙ nodes_checked x b (left_true (allowed segwit x) (allowed segwit y) g) i.0 (a.0, a.1) (second_part segwit script keys (keys_of y) (keys_of x) before (key_count y) s (keys_length y)) (r ∷ rest) (y ⊳ ts)
        ∙ on_stack r rest (x ⊳ (y ⊳ ts)) (join k x y ⊳ ts) (join_checked k x y ts t.0 t.1))
    nodes_checked (and_or x y z) before g i t s rest ts =
        let r = root_node segwit (and_or x y z) before in
        let b = before + key_count y in
        let c = before + key_count y + key_count z in
        let h = right_true (allowed segwit x) (allowed segwit y && allowed segwit z) g in
        let part = second_part segwit script keys (keys_of y) (keys_of z ++ keys_of x) before (key_count y) s (keys_length y) in
        let p = onward_is (type_of segwit x) (λ a. onward (type_of segwit y) (λ b. onward (type_of segwit z) (λ c. rules.and_or a b c))) t.0 t.1 in
        let q = onward_is (type_of segwit y) (λ b. onward (type_of segwit z) (λ c. rules.and_or p.0 b c)) t.0 p.2 in
        let u = onward_is (type_of segwit z) (λ c. rules.and_or p.0 q.0 c) t.0 q.2 in
        rw (append_assoc (nodes_of segwit before y) (nodes_of segwit b z ++ (nodes_of segwit c x ++ (r ∷ []))) rest, append_assoc (nodes_of segwit b z) (nodes_of segwit c x ++ (r ∷ [])) rest, append_assoc (nodes_of segwit c x) (r ∷ []) rest)
        (nodes_checked y before (left_true (allowed segwit y) (allowed segwit z) h) i.1.0 (q.0, q.1) (first_part segwit script keys (keys_of y) (keys_of z ++ keys_of x) before s) (nodes_of segwit b z ++ (nodes_of segwit c x ++ (r ∷ rest))) ts
        ∙ nodes_checked z b (right_true (allowed segwit y) (allowed segwit z) h) i.1.1 (u.0, u.1) (first_part segwit script keys (keys_of z) (keys_of x) b part) (nodes_of segwit c x ++ (r ∷ rest)) (y ⊳ ts)
        ∙ nodes_checked x c (left_true (allowed segwit x) (allowed segwit y && allowed segwit z) g) i.0 (p.0, p.1) (second_part segwit script keys (keys_of z) (keys_of x) b (key_count z) part (keys_length z)) (r ∷ rest) (z ⊳ (y ⊳ ts))
        ∙ on_stack r rest (x ⊳ (z ⊳ (y ⊳ ts))) (and_or x y z ⊳ ts) (and_or_checked x y z ts t.0 t.1))
    nodes_checked (thresh k x xs) before g i t s rest ts =
        let r = root_node segwit (thresh k x xs) before in
        let b = before + key_counts xs in
        let h = right_true (thresh_allowed k x xs) (allowed segwit x && all_allowed segwit xs) g in
        let p = children_typable (type_of segwit x) (types_of segwit xs) t.0 t.1 in
        rw (append_assoc (nodes_from segwit before xs) (nodes_of segwit b x ++ (r ∷ [])) rest, append_assoc (nodes_of segwit b x) (r ∷ []) rest)
        (trees_checked xs before (right_true (allowed segwit x) (all_allowed segwit xs) h) i.1 p.1 (first_part segwit script keys (key_table xs) (keys_of x) before s) (nodes_of segwit b x ++ (r ∷ rest)) ts
        ∙ nodes_checked x b (left_true (allowed segwit x) (all_allowed segwit xs) h) i.0 p.0 (second_part segwit script keys (key_table xs) (keys_of x) before (key_counts xs) s (key_table_length xs)) (r ∷ rest) (◌⊕◌ xs ts)
        ∙ on_stack r rest (x ⊳ (◌⊕◌ xs ts)) (thresh k x xs ⊳ ts) (thresh_checked k x xs ts t.0 (left_true (thresh_allowed k x xs) (allowed segwit x && all_allowed segwit xs) g) t.1))

    trees_checked : (xs : Trees) (before : ℕ) → all_allowed segwit xs ≡ true → TreesIn script xs → AllTypable xs → KeyPart segwit script keys (key_table xs) before → (rest : List Node) (ts : Trees)
        → check_nodes segwit script keys (nodes_from segwit before xs ++ rest) ts ≡ check_nodes segwit script keys rest (◌⊕◌ xs ts)
    trees_checked nil before g i t s rest ts = refl
    trees_checked (x ⊳ xs) before g i t s rest ts =
        let b = before + key_counts xs in
        let p = first_typable (type_of segwit x) (types_of segwit xs) t.0 t.1 in
        rw (append_assoc (nodes_from segwit before xs) (nodes_of segwit b x) rest)
        (trees_checked xs before (right_true (allowed segwit x) (all_allowed segwit xs) g) i.1 p.1 (first_part segwit script keys (key_table xs) (keys_of x) before s) (nodes_of segwit b x ++ rest) ts
        ∙ nodes_checked x b (left_true (allowed segwit x) (all_allowed segwit xs) g) i.0 p.0 (second_part segwit script keys (key_table xs) (keys_of x) before (key_counts xs) s (key_table_length xs)) rest (◌⊕◌ xs ts))

-- The node table as numbers, read back

numbers_read : (ns more : List Node) (i : ℕ) (table : List ℕ) → ((j : ℕ) → j < length ns → node_at table (i + j) ≡ get_or ns j no_node) → encoding.nodes_from table (length ns) i ≡ ns
numbers_read [] more i table h = refl
numbers_read (n ∷ ns) more i table h =
    let first : node_at table i ≡ n = (let z : i + 0 ≡ i = omega arith in ap (node_at table) (sym z)) ∙ h 0 (omega arith) in
    ap (λ (x : Node). x ∷ encoding.nodes_from table (length ns) (suc i)) first
    ∙ ap (λ (l : List Node). n ∷ l) (numbers_read ns more (suc i) table (λ j b. (let z : suc i + j ≡ i + suc j = omega arith in ap (node_at table) z) ∙ h (suc j) (omega arith)))

flat_length : (ns : List Node) → length (flat (map cells ns)) ≡ 9 * length ns
flat_length [] = refl
flat_length (n ∷ ns) = omega (arith, length-append (cells n) (flat (map cells ns)), flat_length ns)

table_read : (ns : List Node) → encoding.nodes_from (flat (map cells ns)) (length ns) 0 ≡ ns
table_read ns =
    let e : flat (map cells ns) ++ [] ≡ flat (map cells ns) = append-nil (flat (map cells ns)) in
    numbers_read ns [] 0 (flat (map cells ns)) (λ j h. let z : 0 + j ≡ j = omega arith in ap (node_at (flat (map cells ns))) z ∙ ap (λ (t : List ℕ). node_at t j) (sym e) ∙ node_read ns [] j h)

-- THEOREM: over the tables of an allowed, well-typed tree of base B, whose keys and hashes lie within the script, the checks find that tree
pub reads_back : (segwit : Bool) (script : List ℕ) (t : Tree) → allowed segwit t ≡ true → TreeIn script t → WellTypedB segwit t
    → tree_in segwit (flat (map cells (node_table segwit (t ⊳ nil)))) (key_table (t ⊳ nil)) script ≡ found t
unfolding tree_in
reads_back segwit script t g i (c, y, b) =
    let ns : List Node = node_table segwit (t ⊳ nil) in
    let table : List ℕ = flat (map cells ns) in
    let count : node_count table ≡ length ns = omega (arith, flat_length ns) in
    let odd : length table % node_cells ≡ 0 = omega (arith, flat_length ns) in
    let checked : check_nodes segwit script (key_table (t ⊳ nil)) ns nil ≡ finished (t ⊳ nil) =
    rw (← append-nil (nodes_of segwit 0 t)) (nodes_checked segwit script (key_table (t ⊳ nil)) t 0 g i (c, y) (one_whole segwit script t) [] nil) in
    let nodes-same : encoding.nodes_from table (node_count table) 0 ≡ ns = ap (λ (n : ℕ). encoding.nodes_from table n 0) count ∙ table_read ns in
    ap (λ (l : List Node). root_checked segwit (length table % node_cells) (check_nodes segwit script (key_table (t ⊳ nil)) l nil)) nodes-same
    ∙ ap (λ (x : Checked). root_checked segwit (length table % node_cells) x) checked
    ∙ ap (λ (k : ℕ). root_checked segwit k (finished (t ⊳ nil))) odd
    ∙ ap (top_checked t) y
    ∙ ap (λ (x : Base). pick (is_b x) (found t) (checks.refused 19 0)) b
