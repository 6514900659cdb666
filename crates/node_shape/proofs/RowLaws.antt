-- What a kind's number stands for, row by row of the table of terminals: a fact of every row is a fact of what the number stands for. Then: the kinds from 27 on name keys. Assumes nothing.
use mathlib.Core.Path.{◌≡◌, refl, sym, ap, ◌∙◌, subst}
use mathlib.Core.Bool.{Bool, true, false, ◌&&◌}
use mathlib.Core.List.{List, [], ◌∷◌}
use mathlib.Core.Option.{Option, none, some}
use Prim.Native.Nat.{ℕ, ◌≤◌}
use borrow.Author.Tests.{eqb-true, le-leb, leb-true}
use lib.Dec.{eqb, leb}
use Rattle.tables.specs.Choose.{pick, look}
use Rattle.tables.proofs.BoolLaws.{left_true, right_true}
use Rattle.standard.specs.Table.{Node, Terminal, noTerminal, terminals, terminal_of}
use Rattle.encoding.specs.Form.{Shape, shape_of}
use Rattle.encoding.specs.Values.{value_refusal_of, value_refusal}

-- Every row

abbrev pub AllRows : {A : Type 0} → (ℕ → A → Type 0) → List (ℕ × A) → Type 0
AllRows P [] = Unit {0}
AllRows P (row ∷ rows) = P row.0 row.1 × AllRows P rows

looked : {A : Type 0} (P : ℕ → A → Type 0) (k : ℕ) (other : A) (rows : List (ℕ × A)) → AllRows P rows → P k other → P k (look k rows other)
looked P k other [] a o = o
looked P k other (row ∷ rows) a o = by (looked P k other rows a.1 o) (eqb k row.0) refl
  where
    by : P k (look k rows other) → (b : Bool) → eqb k row.0 ≡ b → P k (pick b row.1 (look k rows other))
    by rest true e = subst (λ (j : ℕ). P j row.1) (sym (eqb-true k row.0 e)) a.0
    by rest false e = rest

-- what holds of every row holds of the terminal that a number stands for
pub of_terminal : (P : ℕ → Terminal → Type 0) (kind : ℕ) → AllRows P terminals → P kind noTerminal → P kind (terminal_of kind)
unfolding terminal_of
of_terminal P kind rows other = looked P kind noTerminal terminals rows other

-- a test of every row, computed
abbrev all_rows : (ℕ → Terminal → Bool) → List (ℕ × Terminal) → Bool
all_rows test [] = true
all_rows test (row ∷ rows) = test row.0 row.1 && all_rows test rows

rows_tested : (test : ℕ → Terminal → Bool) (rows : List (ℕ × Terminal)) → all_rows test rows ≡ true → AllRows (λ k t. test k t ≡ true) rows
rows_tested test [] e = tt
rows_tested test (row ∷ rows) e = (left_true (test row.0 row.1) _ e, rows_tested test rows (right_true (test row.0 row.1) _ e))

tested : (test : ℕ → Terminal → Bool) (kind : ℕ) → all_rows test terminals ≡ true → test kind noTerminal ≡ true → test kind (terminal_of kind) ≡ true
tested test kind rows other = of_terminal (λ k t. test k t ≡ true) kind (rows_tested test terminals rows) other

-- at the key of an arm
pub at_kind : {A : Type 0} (f : Terminal → A) {x : A} {kind : ℕ} (key : ℕ) → kind ≡ key → x ≡ f (terminal_of key) → x ≡ f (terminal_of kind)
at_kind f key e h = h ∙ ap (λ (k : ℕ). f (terminal_of k)) (sym e)

-- multi and multi_a are the last kinds, and both name keys

abbrev names_keys : Option Shape → Bool
names_keys none = true
names_keys (some s) = leb 1 s.key_bytes

abbrev names_keys_from27 : Bool → ℕ → Terminal → Bool
names_keys_from27 segwit kind terminal = pick (leb 27 kind) (names_keys (shape_of segwit terminal)) true

pub names_keys_lem : (segwit : Bool) (kind : ℕ) (s : Shape) → shape_of segwit (terminal_of kind) ≡ some s → 27 ≤ kind → 1 ≤ s.key_bytes
names_keys_lem segwit kind s e h =
    let other : (b : Bool) → pick b true true ≡ true = λ b. same b in
    let t : names_keys_from27 segwit kind (terminal_of kind) ≡ true = tested (names_keys_from27 segwit) kind refl (other (leb 27 kind)) in
    let k : names_keys (shape_of segwit (terminal_of kind)) ≡ true = sym (ap (λ (b : Bool). pick b (names_keys (shape_of segwit (terminal_of kind))) true) (le-leb 27 kind h)) ∙ t in
    leb-true 1 s.key_bytes (sym (ap names_keys e) ∙ k)
  where
    same : (b : Bool) → pick b true true ≡ true
    same true = refl
    same false = refl

-- Values

module _ (segwit : Bool) (material keys : List ℕ) (n : Node) where
  -- an arm with a key
  pub valued_kind : {r : ℕ} (key : ℕ) → n.kind ≡ key → r ≡ value_refusal_of segwit material keys (terminal_of key) n → r ≡ value_refusal segwit material keys n
  unfolding value_refusal
  valued_kind key e h = at_kind (λ (t : Terminal). value_refusal_of segwit material keys t n) key e h
