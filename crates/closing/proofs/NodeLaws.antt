-- A node's check on the flat table is its check over the finished trees: the same number and reason, for every kind. And a refusal's number is never 0. Assumes nothing.
-- Why: by what the kind stands for, a well-formed node with allowed values makes a tree of the newest trees, and the rule of its kind, on the types that their roots hold, gives that tree's type.
use mathlib.Core.Path.{◌≡◌, refl, sym, ap, ◌∙◌, subst}
use mathlib.Core.Bool.{Bool, true, false, ◌&&◌}
use mathlib.Core.List.{List, [], ◌∷◌}
use mathlib.Core.Option.{Option, none, some}
use Prim.Native.Nat.{ℕ, zero, suc, ◌+◌, ◌-◌, ◌≤◌}
use native.Mathlib.Omega.{arith}
use borrow.Author.Tests.{leb-true}
use lib.Dec.{leb}
use lib.ListN.{length, drop, length-drop}
use lib.Seq.{length-take-le}
use Rattle.correctness.specs.declared.Correctness.{Correctness}
use Rattle.correctness.specs.declared.Leaf.TheVariants as kind
use Rattle.correctness.specs.Typed.{Typed}
use Rattle.std.specs.Prelude.{Ok, Err}
use Rattle.correctness.specs.Rules as rules
use Rattle.correctness.specs.Rules.{onward, leaf_type, threshold}
use Rattle.lex.specs.Token.{Data}
use Rattle.tables.specs.Choose.{pick}
use Rattle.tables.proofs.BoolLaws.{left_true, right_true}
use Rattle.standard.specs.Tree.{Leaf, True, False, PkK, RawPkH, After, Older, HashLock, Multi, MultiA, Wrapper, Combination, Tree, Trees, leaf, wrap, join, and_or, thresh, nil, ◌⊳◌, many, size}
use Rattle.standard.specs.Allowed.{within, all_multi_a_keys, multi_a_threshold}
use Rattle.standard.specs.Types.{wrapper_rule, combination_rule, AllTyped, ruled, type_of}
use Rattle.standard.specs.Table.{Node, node_at, Terminal, noTerminal, isTrue, isFalse, isPkK, isRawPkH, isAfter, isOlder, is_hash, is_wrapper, is_combination, isAndOr, isThresh, isMulti, isMultiA, terminal_of, take_trees, datas_at, multi_a_of, wrap_top, join_top, and_or_top, thresh_top, add_terminal, add_node}
use Rattle.standard.proofs.TableLaws.{datas_at_length}
use Rattle.judge.specs.Nodes.{leaf_of, cast_of, combination_of}
use Rattle.encoding.specs.Form.{Shape, shape_of, unused_are_zero, in_range, child_count, formed_as, keys_named, well_formed}
use Rattle.encoding.specs.Values.{value_refusal_of, value_refusal}
use Rattle.encoding.specs.Checks.{Checked, finished, refused, holds_type, type_checked, newest_checked, value_checked, check_node}
use Rattle.node_shape.proofs.RowLaws.{of_terminal}
use Rattle.closing.specs.Verdicts.{Verdict, verdict}
use Rattle.closing.specs.Held.{RootsAt, top_type, under, types_held, pair_held, and_or_held, type_held, formed_held, judged_held, value_held, shape_checked, check_held}
use Rattle.closing.proofs.RootLaws.{first_trees, rest_trees, fits_on_trees, types_on_trees}

-- The rule of a kind's number is that of what it stands for

abbrev KindFits : Bool → ℕ → Terminal → Type 0
KindFits segwit k noTerminal = Unit {0}
KindFits segwit k isTrue = leaf_of k ≡ kind.True
KindFits segwit k isFalse = leaf_of k ≡ kind.False
KindFits segwit k isPkK = leaf_of k ≡ kind.PkK
KindFits segwit k isRawPkH = leaf_of k ≡ kind.RawPkH
KindFits segwit k isAfter = leaf_of k ≡ kind.Time
KindFits segwit k isOlder = leaf_of k ≡ kind.Time
KindFits segwit k (is_hash h) = leaf_of k ≡ kind.Hash
KindFits segwit k (is_wrapper w) = (c : Correctness) → cast_of k c ≡ wrapper_rule segwit w c
KindFits segwit k (is_combination j) = (a b : Correctness) → combination_of k a b ≡ combination_rule j a b
KindFits segwit k isAndOr = Unit {0}
KindFits segwit k isThresh = Unit {0}
KindFits segwit k isMulti = leaf_of k ≡ kind.Multi
KindFits segwit k isMultiA = leaf_of k ≡ kind.MultiA

-- a list of facts
infixr 40 ◌&◌
abbrev ◌&◌ : {A B : Type 0} → A → B → A × B
◌&◌ a b = (a, b)

kind_fits : (segwit : Bool) (k : ℕ) → KindFits segwit k (terminal_of k)
unfolding leaf_of cast_of combination_of
kind_fits segwit k =
    of_terminal (KindFits segwit) k
    (refl & refl & refl & refl & refl & refl & refl & refl & refl & refl
    & (λ c. refl) & (λ c. refl) & (λ c. refl) & (λ c. refl) & (λ c. refl) & (λ c. refl) & (λ c. refl)
    & (λ a b. refl) & (λ a b. refl) & tt & (λ a b. refl) & (λ a b. refl) & (λ a b. refl) & (λ a b. refl)
    & tt & refl & refl & tt)
    tt

-- What was allowed

passed_first : (b : Bool) (x y : ℕ) → 1 ≤ y → pick b x y ≡ 0 → (b ≡ true) × (x ≡ 0)
passed_first true x y h e = (refl, e)
passed_first false x y h e = let no : ⊥ = omega (arith, e) in absurd no

takes_first : (n : ℕ) (ts : Trees) (f : Trees → Trees → Option Trees) → n ≤ many ts → take_trees n ts none f ≡ f (first_trees n ts) (rest_trees n ts)
takes_first zero ts f h = refl
takes_first (suc n) nil f h = let no : ⊥ = omega arith in absurd no
takes_first (suc n) (t ⊳ ts) f h = takes_first n ts (λ taken rest. f (t ⊳ taken) rest) (omega arith)

module _ (segwit : Bool) (material keys table : List ℕ) (n : Node) (m : ℕ) where
  -- a tree is made, and this is its type
  abbrev Makes : Option Trees → Typed → Type 0
  Makes o type = (t : Tree) × (us : Trees) × (o ≡ some (t ⊳ us)) × (type ≡ type_of segwit t)

  makes_leaf : (l : Leaf) (ts : Trees) {k : Rattle.correctness.specs.declared.Leaf.Leaf} → leaf_of n.kind ≡ k → Ok (leaf_type k) ≡ type_of segwit (leaf l) → Makes (some (leaf l ⊳ ts)) (Ok (leaf_type (leaf_of n.kind)))
  makes_leaf l ts fits e = (leaf l, ts, refl, ap (λ (x : Rattle.correctness.specs.declared.Leaf.Leaf). Ok (leaf_type x)) fits ∙ e)

  makes_wrapped : (w : Wrapper) → ((c : Correctness) → cast_of n.kind c ≡ wrapper_rule segwit w c) → (ts : Trees) → RootsAt segwit table m ts → 1 ≤ many ts → Makes (wrap_top w ts) (cast_of n.kind (top_type table m))
  makes_wrapped w fits nil r h = let no : ⊥ = omega arith in absurd no
  makes_wrapped w fits (x ⊳ ts) r h = (wrap w x, ts, refl, fits (top_type table m) ∙ ap (λ (o : Typed). onward o (wrapper_rule segwit w)) (sym r.2))

  -- the type of the second newest tree
  second_type : (x y : Tree) (ts : Trees) → RootsAt segwit table m (x ⊳ (y ⊳ ts)) → type_of segwit y ≡ Ok (top_type table (under table m))
  second_type x y ts r = r.3.2 ∙ ap (λ (k : ℕ). Ok (top_type table (m - k))) (sym r.1)

  makes_joined : (j : Combination) → ((a b : Correctness) → combination_of n.kind a b ≡ combination_rule j a b) → (ts : Trees) → RootsAt segwit table m ts → 2 ≤ many ts → Makes (join_top j ts) (pair_held table m n.kind)
  makes_joined j fits nil r h = let no : ⊥ = omega arith in absurd no
  makes_joined j fits (x ⊳ nil) r h = let no : ⊥ = omega arith in absurd no
  makes_joined j fits (x ⊳ (y ⊳ ts)) r h = (
    join j x y,
    ts,
    refl,
    fits (top_type table m) (top_type table (under table m))
        ∙ ap (λ (o : Typed). onward o (λ b. combination_rule j (top_type table m) b)) (sym (second_type x y ts r))
        ∙ ap (λ (o : Typed). onward o (λ a. onward (type_of segwit y) (λ b. combination_rule j a b))) (sym r.2),
  )

  third_type : (x z y : Tree) (ts : Trees) → RootsAt segwit table m (x ⊳ (z ⊳ (y ⊳ ts))) → type_of segwit y ≡ Ok (top_type table (under table (under table m)))
  third_type x z y ts r =
      r.3.3.2
      ∙ ap (λ (k : ℕ). Ok (top_type table (m - size x - k))) (sym r.3.1)
      ∙ ap (λ (k : ℕ). Ok (top_type table (under table (m - k)))) (sym r.1)

  makes_and_or : (ts : Trees) → RootsAt segwit table m ts → 3 ≤ many ts → Makes (and_or_top ts) (and_or_held table m)
  makes_and_or nil r h = let no : ⊥ = omega arith in absurd no
  makes_and_or (x ⊳ nil) r h = let no : ⊥ = omega arith in absurd no
  makes_and_or (x ⊳ (z ⊳ nil)) r h = let no : ⊥ = omega arith in absurd no
  makes_and_or (x ⊳ (z ⊳ (y ⊳ ts))) r h =
      let a : Correctness = top_type table m in
      let b : Correctness = top_type table (under table (under table m)) in (
        and_or x y z,
        ts,
        refl,
        ap (λ (o : Typed). onward o (λ c. rules.and_or a b c)) (sym (second_type x z (y ⊳ ts) r))
            ∙ ap (λ (o : Typed). onward o (λ d. onward (type_of segwit z) (λ c. rules.and_or a d c))) (sym (third_type x z y ts r))
            ∙ ap (λ (o : Typed). onward o (λ d. onward (type_of segwit y) (λ b. onward (type_of segwit z) (λ c. rules.and_or d b c)))) (sym r.2),
      )

  makes_thresh : (k count : ℕ) (ts : Trees) → RootsAt segwit table m ts → 1 ≤ count → count ≤ many ts → Makes (thresh_top k count ts) (threshold (types_held table count m))
  makes_thresh k zero ts r has h = let no : ⊥ = omega arith in absurd no
  makes_thresh k (suc c) nil r has h = let no : ⊥ = omega arith in absurd no
  makes_thresh k (suc c) (x ⊳ ts) r has h = (
    thresh k x (first_trees c ts),
    rest_trees c ts,
    takes_first c ts (λ xs rest. some (thresh k x xs ⊳ rest)) (omega arith),
    sym (ap (λ (a : AllTyped). ruled a threshold) (types_on_trees segwit table (suc c) m (x ⊳ ts) r h)),
  )

  makes_multi_a : (k : ℕ) (ds : List Data) (ts : Trees) → leaf_of n.kind ≡ kind.MultiA → 1 ≤ length ds → Makes (multi_a_of k ds ts) (Ok (leaf_type (leaf_of n.kind)))
  makes_multi_a k [] ts fits h = let no : ⊥ = omega arith in absurd no
  makes_multi_a k (d ∷ ds) ts fits h = makes_leaf (MultiA k d ds) ts fits refl

  -- what a multi_a names is there, and it names a key
  names_a_key : n.place + n.count ≤ length keys → value_refusal_of segwit material keys isMultiA n ≡ 0 → 1 ≤ length (datas_at material (keys_named n keys))
  names_a_key there v =
      let allowed = (passed_first (all_multi_a_keys segwit (datas_at material (keys_named n keys))) _ 11 (omega arith) v).1 in
      let tests = (passed_first (multi_a_threshold n.number && (leb n.number n.count && leb n.count 999)) 0 13 (omega arith) allowed).0 in
      let least = leb-true 1 n.number (left_true (leb 1 n.number) _ (left_true (multi_a_threshold n.number) _ tests)) in
      let most = leb-true n.number n.count (left_true (leb n.number n.count) _ (right_true (multi_a_threshold n.number) _ tests)) in
      let l : length (keys_named n keys) ≡ n.count = length-take-le n.count (drop n.place keys) (omega (arith, length-drop n.place keys)) in
      omega (arith, datas_at_length material (keys_named n keys), l, least, most)

  -- thresh has a child
  has_a_child : value_refusal_of segwit material keys isThresh n ≡ 0 → 1 ≤ n.count
  has_a_child v =
      let tests = (passed_first (within 1 n.number n.count) 0 13 (omega arith) v).0 in
      let least = leb-true 1 n.number (left_true (leb 1 n.number) _ tests) in
      let most = leb-true n.number n.count (right_true (leb 1 n.number) _ tests) in
      omega (arith, least, most)

  module _ (ts : Trees) (roots : RootsAt segwit table m ts) where
    abbrev MakesAs : Terminal → Option Shape → Type 0
    MakesAs k none = Unit {0}
    MakesAs k (some s) =
        child_count s n ≤ many ts → in_range (length material) keys s n ≡ true → value_refusal_of segwit material keys k n ≡ 0
        → Makes (add_terminal segwit material keys k n ts) (type_held s n table m)

    -- by what the kind stands for
    makes_as : (k : Terminal) → KindFits segwit n.kind k → MakesAs k (shape_of segwit k)
    unfolding type_held
    makes_as noTerminal fits = tt
    makes_as isTrue fits = λ c r v. makes_leaf True ts fits refl
    makes_as isFalse fits = λ c r v. makes_leaf False ts fits refl
    makes_as isPkK fits = λ c r v. makes_leaf (PkK _) ts fits refl
    makes_as isRawPkH fits = λ c r v. makes_leaf (RawPkH _) ts fits refl
    makes_as isAfter fits = λ c r v. makes_leaf (After n.number) ts fits refl
    makes_as isOlder fits = λ c r v. makes_leaf (Older n.number) ts fits refl
    makes_as (is_hash h) fits = λ c r v. makes_leaf (HashLock h _) ts fits refl
    makes_as (is_wrapper w) fits = λ c r v. makes_wrapped w fits ts roots c
    makes_as (is_combination j) fits = λ c r v. makes_joined j fits ts roots c
    makes_as isAndOr fits = λ c r v. makes_and_or ts roots c
    makes_as isThresh fits = λ c r v. makes_thresh n.number n.count ts roots (has_a_child v) c
    makes_as isMulti fits = λ c r v. makes_leaf (Multi n.number _) ts fits refl
    makes_as isMultiA fits = λ c r v.
        makes_multi_a n.number (datas_at material (keys_named n keys)) ts fits
        (names_a_key (leb-true (n.place + n.count) (length keys) (left_true (leb (n.place + n.count) (length keys)) _ r)) v)

    makes_tree : (s : Shape) → shape_of segwit (terminal_of n.kind) ≡ some s → child_count s n ≤ many ts → in_range (length material) keys s n ≡ true → value_refusal segwit material keys n ≡ 0
        → Makes (add_node segwit material keys n ts) (type_held s n table m)
    unfolding value_refusal
    makes_tree s e c r v =
        subst (λ (o : Option Shape). MakesAs (terminal_of n.kind) o) e (makes_as (terminal_of n.kind) (kind_fits segwit n.kind)) c r v

-- What the check says

abbrev pub verdict_for : Checked → Verdict
verdict_for (finished ts) = verdict 0 0
verdict_for (refused number reason) = verdict number reason

type_told : (n : Node) (ts : Trees) (o : Typed) → judged_held n o ≡ verdict_for (type_checked n ts o)
type_told n ts (Err e) = refl
type_told n ts (Ok c) = by (holds_type n c)
  where
    by : (b : Bool) → pick b (verdict 0 0) (verdict 14 13) ≡ verdict_for (pick b (finished ts) (refused 14 13))
    by true = refl
    by false = refl

module _ (segwit : Bool) (material keys table : List ℕ) (m : ℕ) (ts : Trees) (roots : RootsAt segwit table m ts) where
  abbrev node : Node
  node = node_at table m

  -- well formed on the table is well formed over the trees
  pub formed_on_trees : (s : Shape) → formed_held (length material) keys s node table m ≡ formed_as (length material) keys (some s) node ts
  formed_on_trees s =
      ap (λ (b : Bool). unused_are_zero s node && (in_range (length material) keys s node && b)) (fits_on_trees segwit table (child_count s node) m node.size ts roots)

  newest_told : (s : Shape) → shape_of segwit (terminal_of node.kind) ≡ some s → formed_as (length material) keys (some s) node ts ≡ true → value_refusal segwit material keys node ≡ 0
      → judged_held node (type_held s node table m) ≡ verdict_for (newest_checked segwit node (add_node segwit material keys node ts))
  newest_told s e f v =
      let g = right_true (unused_are_zero s node) _ f in
      let range = left_true (in_range (length material) keys s node) _ g in
      let c : child_count s node ≤ many ts =
      leb-true (child_count s node) (many ts) (left_true (leb (child_count s node) (many ts)) _ (right_true (in_range (length material) keys s node) _ g)) in
      let made = makes_tree segwit material keys table node m ts roots s e c range v in
      ap (judged_held node) made.3
      ∙ type_told node (made.0 ⊳ made.1) (type_of segwit made.0)
      ∙ sym (ap (λ (o : Option Trees). verdict_for (newest_checked segwit node o)) made.2)

  value_told : (s : Shape) → shape_of segwit (terminal_of node.kind) ≡ some s → formed_as (length material) keys (some s) node ts ≡ true → (v : ℕ) → value_refusal segwit material keys node ≡ v
      → value_held v (judged_held node (type_held s node table m)) ≡ verdict_for (value_checked v (newest_checked segwit node (add_node segwit material keys node ts)))
  value_told s e f zero v = newest_told s e f v
  value_told s e f (suc k) v = refl

  abbrev onward_told : Option Shape → Bool → Type 0
  onward_told none b = Unit {0}
  onward_told (some s) b =
      pick b (value_held (value_refusal segwit material keys node) (judged_held node (type_held s node table m))) (verdict 21 0)
      ≡ verdict_for (pick b (value_checked (value_refusal segwit material keys node) (newest_checked segwit node (add_node segwit material keys node ts))) (refused 21 0))

  form_told : (s : Shape) → shape_of segwit (terminal_of node.kind) ≡ some s → (b : Bool) → formed_as (length material) keys (some s) node ts ≡ b → onward_told (some s) b
  form_told s e true f = value_told s e f (value_refusal segwit material keys node) refl
  form_told s e false f = refl

  shape_told_lem : (o : Option Shape) → shape_of segwit (terminal_of node.kind) ≡ o
      → shape_checked segwit material keys table m o
      ≡ verdict_for (pick (formed_as (length material) keys o node ts) (value_checked (value_refusal segwit material keys node) (newest_checked segwit node (add_node segwit material keys node ts))) (refused 21 0))
  shape_told_lem none e = refl
  shape_told_lem (some s) e =
      ap (λ (b : Bool). pick b (value_held (value_refusal segwit material keys node) (judged_held node (type_held s node table m))) (verdict 21 0)) (formed_on_trees s)
      ∙ form_told s e (formed_as (length material) keys (some s) node ts) refl

  -- THEOREM: a node's check on the table is its check over the trees
  pub check_told : check_held segwit material keys table m ≡ verdict_for (check_node segwit material keys node ts)
  unfolding check_held well_formed
  check_told = shape_told_lem (shape_of segwit (terminal_of node.kind)) refl

-- A refusal has a number

abbrev pub Numbered : Checked → Type 0
Numbered (finished ts) = Unit {0}
Numbered (refused number reason) = 1 ≤ number

numbered_pick : (b : Bool) (x y : Checked) → Numbered x → Numbered y → Numbered (pick b x y)
numbered_pick true x y p q = p
numbered_pick false x y p q = q

numbered_type : (n : Node) (ts : Trees) (o : Typed) → Numbered (type_checked n ts o)
numbered_type n ts (Ok c) = numbered_pick (holds_type n c) (finished ts) (refused 14 13) tt (omega arith)
numbered_type n ts (Err e) = omega arith

numbered_newest : (segwit : Bool) (n : Node) (o : Option Trees) → Numbered (newest_checked segwit n o)
numbered_newest segwit n none = omega arith
numbered_newest segwit n (some nil) = omega arith
numbered_newest segwit n (some (t ⊳ ts)) = numbered_type n (t ⊳ ts) (type_of segwit t)

numbered_value : (v : ℕ) (next : Checked) → Numbered next → Numbered (value_checked v next)
numbered_value zero next p = p
numbered_value (suc v) next p = omega arith

pub numbered_node : (segwit : Bool) (material keys : List ℕ) (n : Node) (ts : Trees) → Numbered (check_node segwit material keys n ts)
numbered_node segwit material keys n ts =
    numbered_pick (well_formed segwit (length material) keys n ts) _ (refused 21 0)
    (numbered_value (value_refusal segwit material keys n) _ (numbered_newest segwit n (add_node segwit material keys n ts))) (omega arith)

pub passes_at_0 : (segwit : Bool) (material keys : List ℕ) (n : Node) (ts : Trees) → (verdict_for (check_node segwit material keys n ts)).number ≡ 0 → (ds : Trees) × (check_node segwit material keys n ts ≡ finished ds)
passes_at_0 segwit material keys n ts = by (check_node segwit material keys n ts) (numbered_node segwit material keys n ts)
  where
    by : (c : Checked) → Numbered c → (verdict_for c).number ≡ 0 → (ds : Trees) × (c ≡ finished ds)
    by (finished ds) p e = (ds, refl)
    by (refused number reason) p e = let no : ⊥ = omega (arith, p, e) in absurd no
