-- For the proof: what is known of a node that has passed the checks over the finished trees: it is well formed, its values are allowed, it makes its tree of the newest trees, and its size and type are the tree's. Assumes nothing.
-- Why: a node's children are taken off the stack, as many as its shape says, and the stored type is compared with the one worked out.
use mathlib.Core.Path.{◌≡◌, refl, sym, ap, ◌∙◌, subst}
use mathlib.Core.Bool.{Bool, true, false, true≢false}
use mathlib.Core.List.{List, [], ◌∷◌}
use mathlib.Core.Option.{Option, none, some}
use Prim.Native.Nat.{ℕ, zero, suc, ◌+◌}
use native.Mathlib.Omega.{arith}
use borrow.Author.Tests.{eqb-true}
use lib.Dec.{eqb, leb}
use lib.ListN.{length}
use Rattle.base_input.specs.Numbers.{base_number, input_number, bool_number}
use Rattle.correctness.specs.declared.Correctness.{Correctness}
use Rattle.correctness.specs.Typed.{Typed}
use Rattle.std.specs.Prelude.{Ok, Err}
use Rattle.lex.specs.Token.{Data}
use Rattle.tables.specs.Choose.{pick}
use Rattle.tables.proofs.BoolLaws.{left_true, right_true}
use Rattle.standard.specs.Tree.{Wrapper, Combination, Tree, Trees, leaf, wrap, join, and_or, thresh, nil, ◌⊳◌, ◌⊕◌, many, size, sizes}
use Rattle.standard.specs.Types.{type_of}
use Rattle.standard.specs.Table.{Node, Terminal, noTerminal, isTrue, isFalse, isPkK, isRawPkH, isAfter, isOlder, is_hash, is_wrapper, is_combination, isAndOr, isThresh, isMulti, isMultiA, terminal_of, take_trees, datas_at, multi_a_of, wrap_top, join_top, and_or_top, thresh_top, add_terminal, add_node}
use Rattle.judge.specs.Nodes.{held_type}
use Rattle.forest.specs.Forest.{children}
use Rattle.forest.proofs.PreorderLaws.{held_back}
use Rattle.encoding.specs.Form.{Shape, shape_of, unused_are_zero, in_range, child_count, sizes_of_first, right_size, formed_as, keys_named, well_formed}
use Rattle.encoding.specs.Values.{value_refusal}
use Rattle.encoding.specs.Checks.{Checked, finished, refused, holds_type, type_checked, newest_checked, value_checked, check_node}

-- a node is its tree's children's and itself
pub size_of_children : (t : Tree) → size t ≡ sizes (children t) + 1
size_of_children (leaf l) = refl
size_of_children (wrap w x) = omega arith
size_of_children (join c x y) = omega arith
size_of_children (and_or x y z) = omega arith
size_of_children (thresh k x xs) = refl

pub append_trees : (a b c : Trees) → ◌⊕◌ (◌⊕◌ a b) c ≡ ◌⊕◌ a (◌⊕◌ b c)
append_trees nil b c = refl
append_trees (t ⊳ a) b c = ap (λ (x : Trees). t ⊳ x) (append_trees a b c)

-- The newest of the trees `us` was made of the trees `ts`
abbrev pub MadeOf : Trees → Option Trees → Type 0
MadeOf ts none = Unit {0}
MadeOf ts (some nil) = ⊥
MadeOf ts (some (t ⊳ us)) = ts ≡ ◌⊕◌ (children t) us

-- so many trees taken off a stack are its first ones
taken_first : (n : ℕ) (ts all : Trees) (some-trees : Trees → Trees → Option Trees)
    → ((taken rest : Trees) → ts ≡ ◌⊕◌ taken rest → MadeOf all (some-trees taken rest)) → MadeOf all (take_trees n ts none some-trees)
taken_first zero ts all next h = h nil ts refl
taken_first (suc n) nil all next h = tt
taken_first (suc n) (t ⊳ ts) all next h = taken_first n ts all (λ taken rest. next (t ⊳ taken) rest) (λ taken rest e. h (t ⊳ taken) rest (ap (λ (x : Trees). t ⊳ x) e))

wrapped_of : (w : Wrapper) (ts : Trees) → MadeOf ts (wrap_top w ts)
wrapped_of w nil = tt
wrapped_of w (x ⊳ ts) = refl

joined_of : (c : Combination) (ts : Trees) → MadeOf ts (join_top c ts)
joined_of c nil = tt
joined_of c (x ⊳ nil) = tt
joined_of c (x ⊳ (y ⊳ ts)) = refl

and_or_of : (ts : Trees) → MadeOf ts (and_or_top ts)
and_or_of nil = tt
and_or_of (x ⊳ nil) = tt
and_or_of (x ⊳ (z ⊳ nil)) = tt
and_or_of (x ⊳ (z ⊳ (y ⊳ ts))) = refl

thresh_of : (k n : ℕ) (ts : Trees) → MadeOf ts (thresh_top k n ts)
thresh_of k n nil = tt
thresh_of k zero (x ⊳ ts) = tt
thresh_of k (suc n) (x ⊳ ts) = taken_first n ts (x ⊳ ts) (λ xs rest. some (thresh k x xs ⊳ rest)) (λ taken rest e. ap (λ (y : Trees). x ⊳ y) e)

multi_a_of_lem : (k : ℕ) (ds : List Data) (ts : Trees) → MadeOf ts (multi_a_of k ds ts)
multi_a_of_lem k [] ts = tt
multi_a_of_lem k (d ∷ ds) ts = refl

-- As many trees as the node's shape says
abbrev Takes : ℕ → Option Trees → Type 0
Takes k none = Unit {0}
Takes k (some nil) = ⊥
Takes k (some (t ⊳ us)) = many (children t) ≡ k

abbrev TakesAs : Option Shape → Node → Option Trees → Type 0
TakesAs none n o = Unit {0}
TakesAs (some s) n o = Takes (child_count s n) o

taken_many : (n k : ℕ) (ts : Trees) (some-trees : Trees → Trees → Option Trees)
    → ((taken rest : Trees) → many taken ≡ n → Takes k (some-trees taken rest)) → Takes k (take_trees n ts none some-trees)
taken_many zero k ts next h = h nil ts refl
taken_many (suc n) k nil next h = tt
taken_many (suc n) k (t ⊳ ts) next h = taken_many n k ts (λ taken rest. next (t ⊳ taken) rest) (λ taken rest e. h (t ⊳ taken) rest (ap suc e))

wrapper_takes : (w : Wrapper) (ts : Trees) → Takes 1 (wrap_top w ts)
wrapper_takes w nil = tt
wrapper_takes w (x ⊳ ts) = refl

combination_takes : (c : Combination) (ts : Trees) → Takes 2 (join_top c ts)
combination_takes c nil = tt
combination_takes c (x ⊳ nil) = tt
combination_takes c (x ⊳ (y ⊳ ts)) = refl

and_or_takes : (ts : Trees) → Takes 3 (and_or_top ts)
and_or_takes nil = tt
and_or_takes (x ⊳ nil) = tt
and_or_takes (x ⊳ (z ⊳ nil)) = tt
and_or_takes (x ⊳ (z ⊳ (y ⊳ ts))) = refl

thresh_takes : (k n : ℕ) (ts : Trees) → Takes n (thresh_top k n ts)
thresh_takes k n nil = tt
thresh_takes k zero (x ⊳ ts) = tt
thresh_takes k (suc n) (x ⊳ ts) = taken_many n (suc n) ts (λ xs rest. some (thresh k x xs ⊳ rest)) (λ taken rest e. ap suc e)

multi_a_takes : (k : ℕ) (ds : List Data) (ts : Trees) → Takes 0 (multi_a_of k ds ts)
multi_a_takes k [] ts = tt
multi_a_takes k (d ∷ ds) ts = refl

-- the nodes of the first trees
pub first_sizes : (us vs : Trees) → sizes_of_first (many us) (◌⊕◌ us vs) ≡ sizes us
first_sizes nil vs = refl
first_sizes (u ⊳ us) vs = ap (λ (k : ℕ). size u + k) (first_sizes us vs)

-- What is known of a node that has passed, over the trees ts: it makes the tree t, and the trees us are left under it
pub record Passed (segwit : Bool) (material keys : List ℕ) (n : Node) (ts : Trees) (t : Tree) (us : Trees) : Type 0 where
  pub formed : well_formed segwit (length material) keys n ts ≡ true
  pub valued : value_refusal segwit material keys n ≡ 0
  pub makes : add_node segwit material keys n ts ≡ some (t ⊳ us)
  pub typed : type_of segwit t ≡ Ok (held_type n)
  pub sized : n.size ≡ size t

-- the stored type is the one worked out
held_type_lem : (n : Node) (c : Correctness) → holds_type n c ≡ true → held_type n ≡ c
held_type_lem n c h =
    let rest-one = right_true (eqb n.base (base_number c.base)) _ h in
    let rest-two = right_true (eqb n.input (input_number c.input)) _ rest-one in
    let b : n.base ≡ base_number c.base = eqb-true n.base (base_number c.base) (left_true (eqb n.base (base_number c.base)) _ h) in
    let i : n.input ≡ input_number c.input = eqb-true n.input (input_number c.input) (left_true (eqb n.input (input_number c.input)) _ rest-one) in
    let d : n.d ≡ bool_number c.dissatisfiable = eqb-true n.d (bool_number c.dissatisfiable) (left_true (eqb n.d (bool_number c.dissatisfiable)) _ rest-two) in
    let u : n.u ≡ bool_number c.unit = eqb-true n.u (bool_number c.unit) (right_true (eqb n.d (bool_number c.dissatisfiable)) _ rest-two) in
    rw (b, i, d, u) (held_back c)

-- a refusal is no stack of trees
abbrev is_finished : Checked → ℕ
is_finished (finished ts) = 1
is_finished (refused number reason) = 0

not_refused : {A : Type 0} (number reason : ℕ) (ds : Trees) → refused number reason ≡ finished ds → A
not_refused number reason ds e = let z : ◌≡◌ {A = ℕ} 0 1 = ap is_finished e in let no : ⊥ = omega arith in absurd no

finished_same : (ts ds : Trees) → finished ts ≡ finished ds → ts ≡ ds
finished_same ts ds e = cc

module _ (segwit : Bool) (material keys : List ℕ) where
  terminal_of_lem : (kind : Terminal) (n : Node) (ts : Trees) → MadeOf ts (add_terminal segwit material keys kind n ts)
  terminal_of_lem noTerminal n ts = tt
  terminal_of_lem isTrue n ts = refl
  terminal_of_lem isFalse n ts = refl
  terminal_of_lem isPkK n ts = refl
  terminal_of_lem isRawPkH n ts = refl
  terminal_of_lem isAfter n ts = refl
  terminal_of_lem isOlder n ts = refl
  terminal_of_lem (is_hash h) n ts = refl
  terminal_of_lem (is_wrapper w) n ts = wrapped_of w ts
  terminal_of_lem (is_combination c) n ts = joined_of c ts
  terminal_of_lem isAndOr n ts = and_or_of ts
  terminal_of_lem isThresh n ts = thresh_of n.number n.count ts
  terminal_of_lem isMulti n ts = refl
  terminal_of_lem isMultiA n ts = multi_a_of_lem n.number (datas_at material (keys_named n keys)) ts

  -- a node's tree is made of the newest trees
  pub made_of : (n : Node) (ts us : Trees) (t : Tree) → add_node segwit material keys n ts ≡ some (t ⊳ us) → ts ≡ ◌⊕◌ (children t) us
  made_of n ts us t e = rw e at (terminal_of_lem (terminal_of n.kind) n ts)

  terminal_takes : (kind : Terminal) (n : Node) (ts : Trees) → TakesAs (shape_of segwit kind) n (add_terminal segwit material keys kind n ts)
  terminal_takes noTerminal n ts = tt
  terminal_takes isTrue n ts = refl
  terminal_takes isFalse n ts = refl
  terminal_takes isPkK n ts = refl
  terminal_takes isRawPkH n ts = refl
  terminal_takes isAfter n ts = refl
  terminal_takes isOlder n ts = refl
  terminal_takes (is_hash h) n ts = refl
  terminal_takes (is_wrapper w) n ts = wrapper_takes w ts
  terminal_takes (is_combination c) n ts = combination_takes c ts
  terminal_takes isAndOr n ts = and_or_takes ts
  terminal_takes isThresh n ts = thresh_takes n.number n.count ts
  terminal_takes isMulti n ts = refl
  terminal_takes isMultiA n ts = multi_a_takes n.number (datas_at material (keys_named n keys)) ts

  -- a well-formed node's size is its tree's
  right_size_lem : (o : Option Shape) (n : Node) (ts us : Trees) (t : Tree) → formed_as (length material) keys o n ts ≡ true → TakesAs o n (some (t ⊳ us)) → ts ≡ ◌⊕◌ (children t) us → n.size ≡ size t
  right_size_lem none n ts us t f k m = absurd (true≢false (sym f))
  right_size_lem (some s) n ts us t f k m =
      let r = right_true (in_range (length material) keys s n) (right_size s n ts) (right_true (unused_are_zero s n) _ f) in
      let e : n.size ≡ sizes_of_first (child_count s n) ts + 1 = eqb-true n.size (sizes_of_first (child_count s n) ts + 1) (right_true (leb (child_count s n) (many ts)) _ r) in
      e ∙ ap (λ (x : Trees). sizes_of_first (child_count s n) x + 1) m
      ∙ ap (λ (j : ℕ). sizes_of_first j (◌⊕◌ (children t) us) + 1) (sym k)
      ∙ ap (λ (j : ℕ). j + 1) (first_sizes (children t) us)
      ∙ sym (size_of_children t)

  pub makes_right_size : (n : Node) (ts us : Trees) (t : Tree) → well_formed segwit (length material) keys n ts ≡ true → add_node segwit material keys n ts ≡ some (t ⊳ us) → n.size ≡ size t
  unfolding well_formed
  makes_right_size n ts us t f e =
      right_size_lem (shape_of segwit (terminal_of n.kind)) n ts us t f
      (subst (λ (o : Option Trees). TakesAs (shape_of segwit (terminal_of n.kind)) n o) e (terminal_takes (terminal_of n.kind) n ts)) (made_of n ts us t e)

  abbrev Passes : Node → Trees → Trees → Type 0
  Passes n ts ds = (t : Tree) × (us : Trees) × (ds ≡ t ⊳ us) × Passed segwit material keys n ts t us

  module _ (n : Node) (ts ds : Trees) (formed : well_formed segwit (length material) keys n ts ≡ true) (valued : value_refusal segwit material keys n ≡ 0) where
    type_passed : (t : Tree) (us : Trees) → add_node segwit material keys n ts ≡ some (t ⊳ us) → (o : Typed) → type_of segwit t ≡ o → type_checked n (t ⊳ us) o ≡ finished ds → Passes n ts ds
    type_passed t us m (Err e) o f = not_refused _ _ ds f
    type_passed t us m (Ok c) o f = by (holds_type n c) refl f
      where
        by : (b : Bool) → holds_type n c ≡ b → pick b (finished (t ⊳ us)) (refused 14 13) ≡ finished ds → Passes n ts ds
        by false h g = not_refused _ _ ds g
        by true h g =
            (t, us, sym (finished_same (t ⊳ us) ds g), record { formed = formed; valued = valued; makes = m; typed = o ∙ ap Ok (sym (held_type_lem n c h)); sized = makes_right_size n ts us t formed m })

    newest_passed : (o : Option Trees) → add_node segwit material keys n ts ≡ o → newest_checked segwit n o ≡ finished ds → Passes n ts ds
    newest_passed none m f = not_refused _ _ ds f
    newest_passed (some nil) m f = not_refused _ _ ds f
    newest_passed (some (t ⊳ us)) m f = type_passed t us m (type_of segwit t) refl f

  value_passed : (n : Node) (ts ds : Trees) → well_formed segwit (length material) keys n ts ≡ true → (v : ℕ) → value_refusal segwit material keys n ≡ v
      → value_checked v (newest_checked segwit n (add_node segwit material keys n ts)) ≡ finished ds → Passes n ts ds
  value_passed n ts ds f zero e g = newest_passed n ts ds f e (add_node segwit material keys n ts) refl g
  value_passed n ts ds f (suc v) e g = not_refused _ _ ds g

  form_passed : (n : Node) (ts ds : Trees) (b : Bool) → well_formed segwit (length material) keys n ts ≡ b
      → pick b (value_checked (value_refusal segwit material keys n) (newest_checked segwit n (add_node segwit material keys n ts))) (refused 21 0) ≡ finished ds → Passes n ts ds
  form_passed n ts ds true e g = value_passed n ts ds e (value_refusal segwit material keys n) refl g
  form_passed n ts ds false e g = not_refused _ _ ds g

  -- what the checks let pass has passed
  pub passed : (n : Node) (ts ds : Trees) → check_node segwit material keys n ts ≡ finished ds → Passes n ts ds
  passed n ts ds g = form_passed n ts ds (well_formed segwit (length material) keys n ts) refl g
