-- The type of a tree: by document 01's rules (those of `correctness`, cited), with the number and reason of a node's refusal; and by BIP 379's own rows.
use Rattle.std.specs.Prelude.{◌≡◌, Bool, not, List, [], ◌∷◌, ℕ}
use Rattle.std.proofs.Math.Option.{Option, none, some}
use Rattle.base_input.specs.declared.Base.TheVariants as base
use Rattle.correctness.specs.declared.Correctness.{Correctness}
use Rattle.correctness.specs.declared.ErrorKind.{ErrorKind}
use Rattle.correctness.specs.declared.Leaf.TheVariants as kind
use Rattle.correctness.specs.Typed.{Typed}
use Rattle.std.specs.Prelude.{Ok, Err}
use Rattle.correctness.specs.Reasons.{reason_of}
use Rattle.correctness.specs.Rules as rules
use Rattle.correctness.specs.Rules.{onward}
use Rattle.correctness.specs.Bip379 as bip
use Rattle.correctness.specs.Bip379.{Letters}
use Rattle.tables.specs.Choose.{pick}
use Rattle.standard.specs.Tree.{Leaf, True, False, PkK, RawPkH, After, Older, HashLock, Multi, MultiA, Wrapper, alt, swap, check, dupIf, verify, nonZero, zeroNotEqual, Combination, and_v, and_b, or_b, or_d, or_c, or_i, Tree, Trees, leaf, wrap, join, and_or, thresh, nil, ◌⊳◌}
use Rattle.standard.specs.Allowed.{allowed_leaf, leaf_refusal, thresh_allowed}

-- which leaf of `correctness` a leaf is
abbrev pub typed_leaf : Leaf → Rattle.correctness.specs.declared.Leaf.Leaf
typed_leaf True = kind.True
typed_leaf False = kind.False
typed_leaf (PkK k) = kind.PkK
typed_leaf (RawPkH d) = kind.RawPkH
typed_leaf (After n) = kind.Time
typed_leaf (Older n) = kind.Time
typed_leaf (HashLock h d) = kind.Hash
typed_leaf (Multi k ks) = kind.Multi
typed_leaf (MultiA k d ds) = kind.MultiA

-- the rule of each kind; a wrapper's is told the script kind, which no rule of 01 looks at yet
abbrev pub wrapper_rule : Bool → Wrapper → Correctness → Typed
wrapper_rule segwit alt = rules.cast_alt
wrapper_rule segwit swap = rules.cast_swap
wrapper_rule segwit check = rules.cast_check
wrapper_rule segwit dupIf = rules.cast_dupif
wrapper_rule segwit verify = rules.cast_verify
wrapper_rule segwit nonZero = rules.cast_nonzero
wrapper_rule segwit zeroNotEqual = rules.cast_zeronotequal

abbrev pub combination_rule : Combination → Correctness → Correctness → Typed
combination_rule and_v = rules.and_v
combination_rule and_b = rules.and_b
combination_rule or_b = rules.or_b
combination_rule or_d = rules.or_d
combination_rule or_c = rules.or_c
combination_rule or_i = rules.or_i

-- the types of several trees, or why one has none
pub data AllTyped : Type 0 where
  all : List Correctness → AllTyped
  not_all : ErrorKind → AllTyped

abbrev pub and_then : Typed → AllTyped → AllTyped
and_then (Ok c) (all cs) = all (c ∷ cs)
and_then (Ok c) (not_all e) = not_all e
and_then (Err e) rest = not_all e

abbrev pub ruled : AllTyped → (List Correctness → Typed) → Typed
ruled (all cs) rule = rule cs
ruled (not_all e) rule = Err e

-- 01's type of a tree, or the reason why it has none
abbrev mutual
  pub type_of : Bool → Tree → Typed
  type_of segwit (leaf l) = Ok (rules.leaf_type (typed_leaf l))
  type_of segwit (wrap w x) = onward (type_of segwit x) (wrapper_rule segwit w)
  type_of segwit (join c x y) = onward (type_of segwit x) (λ a. onward (type_of segwit y) (λ b. combination_rule c a b))
  type_of segwit (and_or x y z) = onward (type_of segwit x) (λ a. onward (type_of segwit y) (λ b. onward (type_of segwit z) (λ c. rules.and_or a b c)))
  type_of segwit (thresh k x xs) = ruled (and_then (type_of segwit x) (types_of segwit xs)) rules.threshold

  pub types_of : Bool → Trees → AllTyped
  types_of segwit nil = all []
  types_of segwit (t ⊳ ts) = and_then (type_of segwit t) (types_of segwit ts)

-- a tree is well typed, with base B at its root
abbrev pub WellTypedB : Bool → Tree → Type 0
WellTypedB segwit t = (c : Correctness) × (type_of segwit t ≡ Ok c) × (c.base ≡ base.B)

-- what is said of a new node whose children have passed
pub data Judged : Type 0 where
  passes : Judged
  fails : ℕ → ℕ → Judged

-- 14 with the rule's reason
abbrev pub by_rule : Typed → Judged
by_rule (Ok c) = passes
by_rule (Err e) = fails 14 (reason_of e)

-- first the node's own values (11, 12, 13), then the rule of its kind (14)
abbrev pub judge : Bool → Tree → Judged
judge segwit (leaf l) = pick (allowed_leaf segwit l) passes (fails (leaf_refusal segwit l) 0)
judge segwit (wrap w x) = by_rule (type_of segwit (wrap w x))
judge segwit (join c x y) = by_rule (type_of segwit (join c x y))
judge segwit (and_or x y z) = by_rule (type_of segwit (and_or x y z))
judge segwit (thresh k x xs) = pick (thresh_allowed k x xs) (by_rule (type_of segwit (thresh k x xs))) (fails 13 0)

-- BIP 379's type of a tree, from the rows of its table

abbrev pub bip_wrapper : Bool → Wrapper → Letters → Option Letters
bip_wrapper segwit alt = bip.a_row
bip_wrapper segwit swap = bip.s_row
bip_wrapper segwit check = bip.c_row
bip_wrapper segwit dupIf = bip.d_row (not segwit)
bip_wrapper segwit verify = bip.v_row
bip_wrapper segwit nonZero = bip.j_row
bip_wrapper segwit zeroNotEqual = bip.n_row

abbrev pub bip_combination : Combination → Letters → Letters → Option Letters
bip_combination and_v = bip.and_v_row
bip_combination and_b = bip.and_b_row
bip_combination or_b = bip.or_b_row
bip_combination or_d = bip.or_d_row
bip_combination or_c = bip.or_c_row
bip_combination or_i = bip.or_i_row

-- a row asks for the types of all its children
abbrev pub having : {A : Type 0} → Option A → (A → Option Letters) → Option Letters
having none row = none
having (some a) row = row a

abbrev pub having_both : Option Letters → Option (List Letters) → Option (List Letters)
having_both none rest = none
having_both (some a) none = none
having_both (some a) (some others) = some (a ∷ others)

abbrev mutual
  pub bip_type : Bool → Tree → Option Letters
  bip_type segwit (leaf l) = some (bip.leaf_row (typed_leaf l))
  bip_type segwit (wrap w x) = having (bip_type segwit x) (bip_wrapper segwit w)
  bip_type segwit (join c x y) = having (bip_type segwit x) (λ a. having (bip_type segwit y) (λ b. bip_combination c a b))
  bip_type segwit (and_or x y z) = having (bip_type segwit x) (λ a. having (bip_type segwit y) (λ b. having (bip_type segwit z) (λ c. bip.andor_row a b c)))
  bip_type segwit (thresh k x xs) = having (bip_type segwit x) (λ a. having (bip_types segwit xs) (λ others. bip.threshold_row a others))

  pub bip_types : Bool → Trees → Option (List Letters)
  bip_types segwit nil = some []
  bip_types segwit (t ⊳ ts) = having_both (bip_type segwit t) (bip_types segwit ts)
