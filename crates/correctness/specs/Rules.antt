-- The type rules of 01's section "Types", which are those of types/correctness.rs: each a chain of checks in its order, with the reason of the first that fails.
use Rattle.std.specs.Prelude.{Bool, true, false, ◌&&◌, ◌||◌, not, List, [], ◌∷◌, ℕ, ◌+◌, eqb}
use Rattle.std.proofs.Math.Option.{Option, none, some}
use Rattle.tables.specs.Choose.{pick}
use Rattle.base_input.specs.declared.Base.{Base}
use Rattle.base_input.specs.declared.Base.TheVariants.{B, K, «V», W}
use Rattle.base_input.specs.declared.Input.{Input}
use Rattle.base_input.specs.declared.Input.TheVariants.{Zero, One, Any, OneNonZero, AnyNonZero}
use Rattle.correctness.specs.declared.Correctness.{Correctness}
use Rattle.correctness.specs.declared.ErrorKind.{ErrorKind}
use Rattle.correctness.specs.declared.ErrorKind.TheVariants.{ChildBase1, ChildBase2, SwapNonOne, NonZeroDupIf, NonZeroZero, LeftNotDissatisfiable, RightNotDissatisfiable, LeftNotUnit, ThresholdBase, ThresholdNonUnit, ThresholdDissat, ChildBase3}
use Rattle.correctness.specs.Typed.{Typed}
use Rattle.std.specs.Prelude.{Ok, Err}
use Rattle.correctness.specs.declared.Leaf.{Leaf}
use Rattle.correctness.specs.declared.Leaf.TheVariants as leaf
use Rattle.base_input.specs.Numbers.{base_number}
use Rattle.base_input.specs.Inputs.{if_zero, and_input, or_else_input, or_input, either_input, and_or_input, is_subtype_input}
use Rattle.base_input.specs.Tests.{is_b, is_k, is_v, is_w, equal_bkv, is_zero, takes_one, top_non_zero}

-- Answers

-- a check that fails refuses with its reason
abbrev pub check : Bool → ErrorKind → Typed → Typed
check true e t = t
check false e t = Err e

-- a type from its parts, in 01's order base-input-d-u
abbrev pub made : Base → Input → Bool → Bool → Correctness
made b i d u = record { base = b; input = i; dissatisfiable = d; unit = u }

abbrev pub is : Base → Input → Bool → Bool → Typed
is b i d u = Ok (made b i d u)

-- the type, where there is one
abbrev pub given : Typed → Option Correctness
given (Ok c) = some c
given (Err e) = none

-- what a further rule makes of an answer: a refusal stays as it is
abbrev pub onward : Typed → (Correctness → Typed) → Typed
onward (Ok c) rule = rule c
onward (Err e) rule = Err e

-- "Leaf types are constants of the correctness type, as base-input-d-u"

abbrev pub leaf_type : Leaf → Correctness
leaf_type leaf.True = made B Zero false true
leaf_type leaf.False = made B Zero true true
leaf_type leaf.PkK = made K OneNonZero true true
leaf_type leaf.RawPkH = made K AnyNonZero true true
leaf_type leaf.Time = made B Zero false false
leaf_type leaf.Hash = made B OneNonZero true true
leaf_type leaf.Multi = made B AnyNonZero true true
leaf_type leaf.MultiA = made B Any true true

-- Casts

unfoldable pub cast_alt : Correctness → Typed
cast_alt c = check (is_b c.base) ChildBase1 (is W Any c.dissatisfiable c.unit)

unfoldable pub cast_swap : Correctness → Typed
cast_swap c =
    check (is_b c.base) ChildBase1
    (check (takes_one c.input) SwapNonOne (is W Any c.dissatisfiable c.unit))

unfoldable pub cast_check : Correctness → Typed
cast_check c = check (is_k c.base) ChildBase1 (is B c.input c.dissatisfiable true)

unfoldable pub cast_dupif : Correctness → Typed
cast_dupif c =
    check (is_v c.base) ChildBase1
    (check (is_zero c.input) NonZeroDupIf (is B OneNonZero true false))

unfoldable pub cast_verify : Correctness → Typed
cast_verify c = check (is_b c.base) ChildBase1 (is «V» c.input false false)

unfoldable pub cast_nonzero : Correctness → Typed
cast_nonzero c =
    check (top_non_zero c.input) NonZeroZero
    (check (is_b c.base) ChildBase1 (is B c.input true c.unit))

unfoldable pub cast_zeronotequal : Correctness → Typed
cast_zeronotequal c = check (is_b c.base) ChildBase1 (is B c.input c.dissatisfiable true)

unfoldable pub cast_true : Correctness → Typed
cast_true c = check (is_v c.base) ChildBase1 (is B c.input false true)

unfoldable pub cast_or_i_false : Correctness → Typed
cast_or_i_false c = check (is_b c.base) ChildBase1 (is B (if_zero c.input One Any) true c.unit)

-- Combinations

unfoldable pub and_b : Correctness → Correctness → Typed
and_b x y =
    check (is_b x.base && is_w y.base) ChildBase2
    (is B (and_input x.input y.input) (x.dissatisfiable && y.dissatisfiable) true)

unfoldable pub and_v : Correctness → Correctness → Typed
and_v x y =
    check (is_v x.base && not (is_w y.base)) ChildBase2
    (is y.base (and_input x.input y.input) false y.unit)

unfoldable pub or_b : Correctness → Correctness → Typed
or_b x z =
    check x.dissatisfiable LeftNotDissatisfiable
    (check z.dissatisfiable RightNotDissatisfiable
    (check (is_b x.base && is_w z.base) ChildBase2
    (is B (or_input x.input z.input) true true)))

unfoldable pub or_d : Correctness → Correctness → Typed
or_d x z =
    check x.dissatisfiable LeftNotDissatisfiable
    (check x.unit LeftNotUnit
    (check (is_b x.base && is_b z.base) ChildBase2
    (is B (or_else_input x.input z.input) z.dissatisfiable z.unit)))

unfoldable pub or_c : Correctness → Correctness → Typed
or_c x z =
    check x.dissatisfiable LeftNotDissatisfiable
    (check x.unit LeftNotUnit
    (check (is_b x.base && is_v z.base) ChildBase2
    (is «V» (or_else_input x.input z.input) false false)))

unfoldable pub or_i : Correctness → Correctness → Typed
or_i x z =
    check (equal_bkv x.base z.base) ChildBase2
    (is x.base (either_input x.input z.input) (x.dissatisfiable || z.dissatisfiable) (x.unit && z.unit))

unfoldable pub and_or : Correctness → Correctness → Correctness → Typed
and_or x y z =
    check x.dissatisfiable LeftNotDissatisfiable
    (check x.unit LeftNotUnit
    (check (is_b x.base && equal_bkv y.base z.base) ChildBase3
    (is y.base (and_or_input x.input y.input z.input) z.dissatisfiable (y.unit && z.unit))))

-- The threshold, child by child: `earlier` is the type of a thresh of the children before this one

-- a thresh of no child yet
abbrev pub no_children : Correctness
no_children = made B Zero true true

-- "A thresh child is tested for base, unit, dissatisfiable": the first is a B, each other a W
unfoldable pub threshold_child : ℕ → Correctness → Correctness → Typed
threshold_child i earlier c =
    check (pick (eqb i 0) (is_b c.base) (is_w c.base)) ThresholdBase
    (check c.unit ThresholdNonUnit
    (check c.dissatisfiable ThresholdDissat
    (is B (or_input earlier.input c.input) true true)))

-- the children from number i on
abbrev pub threshold_from : ℕ → Correctness → List Correctness → Typed
threshold_from i earlier [] = Ok earlier
threshold_from i earlier (c ∷ cs) = onward (threshold_child i earlier c) (λ next. threshold_from (i + 1) next cs)

unfoldable pub threshold : List Correctness → Typed
threshold cs = threshold_from 0 no_children cs

-- Subtypes

-- a has whatever b has
unfoldable pub is_subtype : Correctness → Correctness → Bool
is_subtype a b =
    eqb (base_number a.base) (base_number b.base)
    && (is_subtype_input a.input b.input
    && ((a.dissatisfiable || not b.dissatisfiable) && (a.unit || not b.unit)))
