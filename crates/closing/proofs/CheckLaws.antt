-- The ways through the check of one node, against what is held of the flat table; and what a well-formed node's further checks ask: its keys lie in the key table, and its children are there. Assumes nothing.
use mathlib.Core.Path.{◌≡◌, refl, sym, ap, ◌∙◌}
use mathlib.Core.Bool.{Bool, true, false, ◌&&◌, not}
use mathlib.Core.List.{List}
use mathlib.Core.Option.{none, some}
use Prim.Native.Nat.{ℕ, zero, suc, ◌+◌, ◌≤◌}
use borrow.Author.Tests.{not-true, not-false, le-leb, leb-true}
use lib.Dec.{leb}
use lib.ListN.{length}
use Rattle.tables.specs.Choose.{pick}
use Rattle.tables.proofs.BoolLaws.{left_true, right_true}
use Rattle.standard.specs.Tree.{many}
use Rattle.standard.specs.Table.{Node, node_at, terminal_of}
use Rattle.encoding.specs.Form.{Shape, shape_of, unused_are_zero, all_within, keys_named, in_range, child_count}
use Rattle.encoding.specs.Values.{value_refusal}
use Rattle.node_shape.proofs.RowLaws.{names_keys_lem}
use native.Mathlib.Omega.{arith}
use Rattle.node_shape.specs.declared.ValueError.TheVariants.{KeyForm, Locktime, Threshold}
use Rattle.closing.specs.declared.Refusal.{Refusal}
use Rattle.closing.specs.declared.Refusal.TheVariants.{NotOneTree, Value, WrongType, TopNotB}
use Rattle.closing.specs.Verdicts.{Verdict, verdict, refusal_verdict}
use Rattle.closing.specs.Held.{Rooted, fits_from, type_held, Children, formed_held, judged_held, value_held, shape_checked, check_held}
use Rattle.closing.proofs.RootLaws.{fits_on_trees, subtrees_there}

-- every refusal has a number
pub refusal_numbered : (r : Refusal) → (refusal_verdict r).number ≡ 0 → ⊥
refusal_numbered NotOneTree e = omega arith
refusal_numbered (Value KeyForm) e = omega arith
refusal_numbered (Value Locktime) e = omega arith
refusal_numbered (Value Threshold) e = omega arith
refusal_numbered (WrongType reason) e = omega arith
refusal_numbered TopNotB e = omega arith

value_told : (w : ℕ) (next : Verdict) → (w ≡ 0 → ⊥) → verdict w 0 ≡ value_held w next
value_told zero next h = absurd (h refl)
value_told (suc w) next h = refl

module _ (segwit : Bool) (material keys table : List ℕ) (m : ℕ) (x : Node) (x-is : x ≡ node_at table m) where
  pub unknown_kind_told : {v : Verdict} → none ≡ shape_of segwit (terminal_of x.kind) → v ≡ verdict 21 0 → v ≡ check_held segwit material keys table m
  unfolding check_held
  unknown_kind_told h e =
      e ∙ ap (shape_checked segwit material keys table m) (h ∙ ap (λ (y : Node). shape_of segwit (terminal_of y.kind)) x-is)

  module _ (s : Shape) (h : some s ≡ shape_of segwit (terminal_of x.kind)) {b : Bool} (formed : b ≡ formed_held (length material) keys s x table m) where
    abbrev checked_as : Node → Verdict
    checked_as y =
        pick (formed_held (length material) keys s y table m) (value_held (value_refusal segwit material keys y) (judged_held y (type_held s y table m)))
        (verdict 21 0)

    checked_as_lem : checked_as x ≡ check_held segwit material keys table m
    unfolding check_held
    checked_as_lem = ap checked_as x-is ∙ ap (shape_checked segwit material keys table m) (h ∙ ap (λ (y : Node). shape_of segwit (terminal_of y.kind)) x-is)

    formed_told : {c : Bool} → b ≡ c → pick c (value_held (value_refusal segwit material keys x) (judged_held x (type_held s x table m))) (verdict 21 0) ≡ check_held segwit material keys table m
    formed_told e =
        sym (ap (λ (y : Bool). pick y (value_held (value_refusal segwit material keys x) (judged_held x (type_held s x table m))) (verdict 21 0)) (sym formed ∙ e)) ∙ checked_as_lem

    pub ill_formed : {v : Verdict} → not b ≡ true → v ≡ verdict 21 0 → v ≡ check_held segwit material keys table m
    ill_formed g e = e ∙ formed_told (not-true b g)

    module _ (g : not b ≡ false) where
      holds : formed_held (length material) keys s x table m ≡ true
      holds = sym formed ∙ not-false b g

      in_range_lem : in_range (length material) keys s x ≡ true
      in_range_lem = left_true (in_range (length material) keys s x) _ (right_true (unused_are_zero s x) _ holds)

      fits : fits_from table (child_count s x) m m x.size ≡ true
      fits = right_true (in_range (length material) keys s x) _ (right_true (unused_are_zero s x) _ holds)

      -- a multi's keys lie in the key table
      pub keys_there : 27 ≤ x.kind → x.place + x.count ≤ length keys
      keys_there k =
          let some_bytes : 1 ≤ s.key_bytes = names_keys_lem segwit x.kind s (sym h) k in
          let within : (leb (x.place + x.count) (length keys) && all_within s.key_bytes (length material) (keys_named x keys)) ≡ true =
          sym (ap (λ (y : Bool). pick y (leb (x.place + x.count) (length keys) && all_within s.key_bytes (length material) (keys_named x keys)) (leb (x.place + s.data_bytes) (length material))) (le-leb 1 s.key_bytes some_bytes))
          ∙ in_range_lem in
          leb-true (x.place + x.count) (length keys) (left_true (leb (x.place + x.count) (length keys)) _ within)

      -- the children are there
      pub children_there : Rooted table m → Children s x table m
      children_there r =
          let f = sym (fits_on_trees r.segwit table (child_count s x) m x.size r.trees r.roots) ∙ fits in
          subtrees_there r.segwit table (child_count s x) m r.trees r.roots
          (leb-true (child_count s x) (many r.trees) (left_true (leb (child_count s x) (many r.trees)) _ f))

      module _ {w : ℕ} (w-is : w ≡ value_refusal segwit material keys x) where
        pub value_refused : {v : Verdict} → (w ≡ 0 → ⊥) → v ≡ verdict w 0 → v ≡ check_held segwit material keys table m
        value_refused n e =
            e
            ∙ value_told w (judged_held x (type_held s x table m)) n
            ∙ ap (λ (k : ℕ). value_held k (judged_held x (type_held s x table m))) w-is
            ∙ formed_told (not-false b g)

        pub value_allowed : {v : Verdict} → w ≡ 0 → v ≡ judged_held x (type_held s x table m) → v ≡ check_held segwit material keys table m
        value_allowed z e =
            e
            ∙ ap (λ (k : ℕ). value_held k (judged_held x (type_held s x table m))) (sym z ∙ w-is)
            ∙ formed_told (not-false b g)
