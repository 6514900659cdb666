-- The tests of a node's fields and values, one law for each way through the code. Assumes nothing.
use mathlib.Core.Path.{◌≡◌, refl, sym, ap, ◌∙◌}
use mathlib.Core.Bool.{Bool, true, false, ◌&&◌}
use mathlib.Core.List.{List, [], ◌∷◌}
use Prim.Native.Nat.{ℕ, suc, ◌+◌, ◌≤◌}
use native.Mathlib.Omega.{arith}
use borrow.Author.Tests.{le-leb}
use lib.Dec.{leb}
use lib.ListN.{length, drop, length-drop}
use lib.Seq.{length-take-le}
use Rattle.tables.specs.Choose.{pick}
use Rattle.lex.specs.Token.{Data, data_at, data_length}
use Rattle.standard.specs.Tree.{key}
use Rattle.standard.specs.Allowed.{key_form, all_multi_a_keys, multi_a_threshold}
use Rattle.standard.specs.Table.{Node, terminal_of, key_code, key_length, datas_at}
use Rattle.locks.specs.Leaves.{key_at}
use Rattle.encoding.specs.Form.{keys_named}
use Rattle.encoding.specs.Values.{value_refusal}
use Rattle.node_shape.specs.Shapes.{multi_a_refusal}
use Rattle.node_shape.proofs.RowLaws.{valued_kind}

-- a test that was passed, or not
pub first : {A : Type 0} (t : Bool) {b : Bool} (x y : A) → b ≡ t → b ≡ true → x ≡ pick t x y
first t x y e h = sym (ap (λ (z : Bool). pick z x y) (sym e ∙ h))

pub second : {A : Type 0} (t : Bool) {b : Bool} (x y : A) → b ≡ t → b ≡ false → y ≡ pick t x y
second t x y e h = sym (ap (λ (z : Bool). pick z x y) (sym e ∙ h))

-- Keys

key_at_lem : (segwit : Bool) (material : List ℕ) (place : ℕ) → key_at material (key_code segwit) place ≡ key (key_code segwit) (data_at material place (key_length segwit))
unfolding data_length
key_at_lem true material place = refl
key_at_lem false material place = refl

pub key_tested : (segwit : Bool) (material : List ℕ) (place : ℕ) {code : ℕ} {b : Bool} → code ≡ key_code segwit → b ≡ key_form segwit (key_at material code place)
    → b ≡ key_form segwit (key (key_code segwit) (data_at material place (key_length segwit)))
key_tested segwit material place c e = e ∙ ap (λ (k : ℕ). key_form segwit (key_at material k place)) c ∙ ap (key_form segwit) (key_at_lem segwit material place)

-- By kind

-- in tapscript any 32 bytes are a multi_a's key
any_key : (ds : List Data) → all_multi_a_keys false ds ≡ true
any_key [] = refl
any_key (d ∷ ds) = any_key ds

-- in segwit none are
multi_a_keys : (segwit : Bool) (material offsets : List ℕ) (x y : ℕ) → pick (segwit && leb 1 (length offsets)) y x ≡ pick (all_multi_a_keys segwit (datas_at material offsets)) x y
multi_a_keys true material [] x y = refl
multi_a_keys true material (o ∷ os) x y = ap (λ (b : Bool). pick (true && b) y x) (le-leb 1 (suc (length os)) (omega arith))
multi_a_keys false material offsets x y = sym (ap (λ (b : Bool). pick b x y) (any_key (datas_at material offsets)))

module _ (segwit : Bool) (material keys : List ℕ) (n : Node) where
  named_length : n.place + n.count ≤ length keys → length (keys_named n keys) ≡ n.count
  named_length inside = length-take-le n.count (drop n.place keys) (omega (arith, length-drop n.place keys))

  pub multi_a_kind : {r : ℕ} → n.kind ≡ 28 → (27 ≤ n.kind → n.place + n.count ≤ length keys) → r ≡ multi_a_refusal segwit n.number n.count → r ≡ value_refusal segwit material keys n
  unfolding terminal_of
  multi_a_kind e inside h =
      let most : ℕ = pick (multi_a_threshold n.number && (leb n.number n.count && leb n.count 999)) 0 13 in
      valued_kind segwit material keys n 28 e
      (h
      ∙ ap (λ (j : ℕ). pick (segwit && leb 1 j) 11 most) (sym (named_length (inside (omega (arith, e)))))
      ∙ multi_a_keys segwit material (keys_named n keys) most 11)
