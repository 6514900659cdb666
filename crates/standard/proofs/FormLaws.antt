-- The form that the rows build, node by node: what it asks of a node beside the form of its children, there (`.._form`) and back (`.._form_parts`). Places don't matter to it (`bare_row_form`).
use Rattle.std.specs.Prelude.{◌≡◌, refl, Bool, true, false, ◌&&◌, not, ℕ}
use Rattle.std.proofs.Common.{sym, ap, ◌∙◌}
use Rattle.std.proofs.lemmas.Bool.{not-true}
use Rattle.tables.proofs.BoolLaws.{left_true, right_true, both_true}
use Rattle.standard.specs.Tree.{Wrapper, Combination, Tree, Trees, leaf, wrap, join, and_or, thresh, nil, ◌⊳◌, bare_tree, bare_trees, SameTree, joins_by_and_v, is_and_v_tree, left_nested, all_left_nested}
use Rattle.standard.specs.RowForm.{floats, first_floats, floated_out, all_floated_out, row_form}

abbrev pub all_row_form : Trees → Bool
all_row_form ts = all_left_nested ts && all_floated_out ts

-- tests put together and taken apart

not_false : (b : Bool) → b ≡ false → not b ≡ true
not_false b e = rw e

-- There

pub wrap_form : (w : Wrapper) (x : Tree) → (floats w && is_and_v_tree x) ≡ false → row_form x ≡ true → row_form (wrap w x) ≡ true
wrap_form w x n f = rw (n, left_true (left_nested x) (floated_out x) f, right_true (left_nested x) (floated_out x) f)

pub join_form : (c : Combination) (x y : Tree) → (first_floats c && is_and_v_tree x) ≡ false → (joins_by_and_v c && is_and_v_tree y) ≡ false → row_form x ≡ true → row_form y ≡ true → row_form (join c x y) ≡ true
join_form c x y m n f g =
    rw (m, n, left_true (left_nested x) (floated_out x) f, left_true (left_nested y) (floated_out y) g, right_true (left_nested x) (floated_out x) f, right_true (left_nested y) (floated_out y) g)

pub and_or_form : (x y z : Tree) → is_and_v_tree x ≡ false → row_form x ≡ true → row_form y ≡ true → row_form z ≡ true → row_form (and_or x y z) ≡ true
and_or_form x y z n f g h = rw (
  n,
  left_true (left_nested x) (floated_out x) f,
  left_true (left_nested y) (floated_out y) g,
  left_true (left_nested z) (floated_out z) h,
  right_true (left_nested x) (floated_out x) f,
  right_true (left_nested y) (floated_out y) g,
  right_true (left_nested z) (floated_out z) h,
)

pub thresh_form : (k : ℕ) (x : Tree) (xs : Trees) → is_and_v_tree x ≡ false → row_form x ≡ true → all_row_form xs ≡ true → row_form (thresh k x xs) ≡ true
thresh_form k x xs n f g =
    rw (n, left_true (left_nested x) (floated_out x) f, left_true (all_left_nested xs) (all_floated_out xs) g, right_true (left_nested x) (floated_out x) f, right_true (all_left_nested xs) (all_floated_out xs) g)

pub all_form : (x : Tree) (xs : Trees) → row_form x ≡ true → all_row_form xs ≡ true → all_row_form (x ⊳ xs) ≡ true
all_form x xs f g = rw (left_true (left_nested x) (floated_out x) f, left_true (all_left_nested xs) (all_floated_out xs) g, right_true (left_nested x) (floated_out x) f, right_true (all_left_nested xs) (all_floated_out xs) g)

-- And back

pub wrap_form_parts : (w : Wrapper) (x : Tree) → row_form (wrap w x) ≡ true → ((floats w && is_and_v_tree x) ≡ false) × (row_form x ≡ true)
wrap_form_parts w x f =
    let n = left_true (left_nested x) (floated_out (wrap w x)) f in
    let o = right_true (left_nested x) (floated_out (wrap w x)) f in
    let m = not (floats w && is_and_v_tree x) in
    (not-true (floats w && is_and_v_tree x) (left_true m (floated_out x) o), both_true n (right_true m (floated_out x) o))

pub join_form_parts : (c : Combination) (x y : Tree) → row_form (join c x y) ≡ true
    → ((first_floats c && is_and_v_tree x) ≡ false) × ((joins_by_and_v c && is_and_v_tree y) ≡ false) × (row_form x ≡ true) × (row_form y ≡ true)
join_form_parts c x y f =
    let a = not (joins_by_and_v c && is_and_v_tree y) in
    let b = not (first_floats c && is_and_v_tree x) in
    let n = left_true (left_nested (join c x y)) (floated_out (join c x y)) f in
    let o = right_true (left_nested (join c x y)) (floated_out (join c x y)) f in
    let ns = right_true a (left_nested x && left_nested y) n in
    let os = right_true b (floated_out x && floated_out y) o in (
      not-true (first_floats c && is_and_v_tree x) (left_true b (floated_out x && floated_out y) o),
      not-true (joins_by_and_v c && is_and_v_tree y) (left_true a (left_nested x && left_nested y) n),
      both_true (left_true (left_nested x) (left_nested y) ns) (left_true (floated_out x) (floated_out y) os),
      both_true (right_true (left_nested x) (left_nested y) ns) (right_true (floated_out x) (floated_out y) os),
    )

pub and_or_form_parts : (x y z : Tree) → row_form (and_or x y z) ≡ true → (row_form x ≡ true) × (row_form y ≡ true) × (row_form z ≡ true)
and_or_form_parts x y z f =
    let n = left_true (left_nested (and_or x y z)) (floated_out (and_or x y z)) f in
    let o = right_true (not (is_and_v_tree x)) (floated_out x && (floated_out y && floated_out z)) (right_true (left_nested (and_or x y z)) (floated_out (and_or x y z)) f) in
    let ns = right_true (left_nested x) (left_nested y && left_nested z) n in
    let os = right_true (floated_out x) (floated_out y && floated_out z) o in (
      both_true (left_true (left_nested x) (left_nested y && left_nested z) n) (left_true (floated_out x) (floated_out y && floated_out z) o),
      both_true (left_true (left_nested y) (left_nested z) ns) (left_true (floated_out y) (floated_out z) os),
      both_true (right_true (left_nested y) (left_nested z) ns) (right_true (floated_out y) (floated_out z) os),
    )

pub thresh_form_parts : (k : ℕ) (x : Tree) (xs : Trees) → row_form (thresh k x xs) ≡ true → (row_form x ≡ true) × (all_row_form xs ≡ true)
thresh_form_parts k x xs f =
    let n = left_true (left_nested x && all_left_nested xs) (floated_out (thresh k x xs)) f in
    let o = right_true (not (is_and_v_tree x)) (floated_out x && all_floated_out xs) (right_true (left_nested x && all_left_nested xs) (floated_out (thresh k x xs)) f) in (
      both_true (left_true (left_nested x) (all_left_nested xs) n) (left_true (floated_out x) (all_floated_out xs) o),
      both_true (right_true (left_nested x) (all_left_nested xs) n) (right_true (floated_out x) (all_floated_out xs) o),
    )

pub all_form_parts : (x : Tree) (xs : Trees) → all_row_form (x ⊳ xs) ≡ true → (row_form x ≡ true) × (all_row_form xs ≡ true)
all_form_parts x xs f =
    let n = left_true (left_nested x && all_left_nested xs) (floated_out x && all_floated_out xs) f in
    let o = right_true (left_nested x && all_left_nested xs) (floated_out x && all_floated_out xs) f in (
      both_true (left_true (left_nested x) (all_left_nested xs) n) (left_true (floated_out x) (all_floated_out xs) o),
      both_true (right_true (left_nested x) (all_left_nested xs) n) (right_true (floated_out x) (all_floated_out xs) o),
    )

-- Places

bare_and_v : (t : Tree) → is_and_v_tree (bare_tree t) ≡ is_and_v_tree t
bare_and_v (leaf l) = refl
bare_and_v (wrap w x) = refl
bare_and_v (join c x y) = refl
bare_and_v (and_or x y z) = refl
bare_and_v (thresh k x xs) = refl

mutual
  bare_nested : (t : Tree) → left_nested (bare_tree t) ≡ left_nested t
  bare_nested (leaf l) = refl
  bare_nested (wrap w x) = bare_nested x
  bare_nested (join c x y) = simp (bare_and_v y, bare_nested x, bare_nested y)
  bare_nested (and_or x y z) = simp (bare_nested x, bare_nested y, bare_nested z)
  bare_nested (thresh k x xs) = simp (bare_nested x, bare_all_nested xs)

  bare_all_nested : (ts : Trees) → all_left_nested (bare_trees ts) ≡ all_left_nested ts
  bare_all_nested nil = refl
  bare_all_nested (t ⊳ ts) = simp (bare_nested t, bare_all_nested ts)

mutual
  bare_floated : (t : Tree) → floated_out (bare_tree t) ≡ floated_out t
  bare_floated (leaf l) = refl
  bare_floated (wrap w x) = simp (bare_and_v x, bare_floated x)
  bare_floated (join c x y) = simp (bare_and_v x, bare_floated x, bare_floated y)
  bare_floated (and_or x y z) = simp (bare_and_v x, bare_floated x, bare_floated y, bare_floated z)
  bare_floated (thresh k x xs) = simp (bare_and_v x, bare_floated x, bare_all_floated xs)

  bare_all_floated : (ts : Trees) → all_floated_out (bare_trees ts) ≡ all_floated_out ts
  bare_all_floated nil = refl
  bare_all_floated (t ⊳ ts) = simp (bare_floated t, bare_all_floated ts)

-- a tree that has lost its offsets has the form where it had it before
pub bare_row_form : (t : Tree) → row_form (bare_tree t) ≡ row_form t
bare_row_form t = simp (bare_nested t, bare_floated t)

pub same_row_form : (t u : Tree) → SameTree t u → row_form t ≡ row_form u
same_row_form t u e = sym (bare_row_form t) ∙ ap row_form e ∙ bare_row_form u
