-- BIP 379's shorthands t:, l: and u: have the types of what they stand for: t:X is and_v(X,1), l:X is or_i(0,X), u:X is or_i(X,0).
-- They refuse the same children; the reasons differ, 1 for the wrapper and 2 for the combination. Assumes nothing.
use Rattle.std.specs.Prelude.{◌≡◌, refl, Bool, true, false}
use Rattle.std.proofs.Common.{sym, ap}
use Rattle.std.proofs.Math.Bool.{or-true, and-true}
use Rattle.base_input.specs.declared.Base.{Base}
use Rattle.base_input.specs.declared.Base.TheVariants.{B, K, «V», W}
use Rattle.base_input.specs.declared.Input.{Input}
use Rattle.base_input.specs.declared.Input.TheVariants.{Zero, One, Any, OneNonZero, AnyNonZero}
use Rattle.base_input.specs.Inputs.{if_zero, either_input}
use Rattle.base_input.specs.InputLaws.{and_zero}
use Rattle.base_input.specs.InputLaws.{either_zero}
use Rattle.correctness.specs.declared.Correctness.{Correctness}
use Rattle.correctness.specs.declared.Leaf.TheVariants as leaf
use Rattle.correctness.specs.Rules.{made, is, given, leaf_type, cast_true, cast_or_i_false, and_v, or_i}

true_by_base : (b : Base) (i : Input) (d u : Bool) → given (cast_true (made b i d u)) ≡ given (and_v (made b i d u) (leaf_type leaf.True))
unfolding cast_true and_v
true_by_base B i d u = refl
true_by_base K i d u = refl
true_by_base «V» i d u = ap (λ (x : Input). given (is B x false true)) (sym (and_zero i))
true_by_base W i d u = refl

pub true_is_and_v : (x : Correctness) → given (cast_true x) ≡ given (and_v x (leaf_type leaf.True))
true_is_and_v x = true_by_base x.base x.input x.dissatisfiable x.unit

zero_either : (i : Input) → either_input Zero i ≡ if_zero i One Any
zero_either Zero = refl
zero_either One = refl
zero_either Any = refl
zero_either OneNonZero = refl
zero_either AnyNonZero = refl

right_false_by_base : (b : Base) (i : Input) (d u : Bool) → given (cast_or_i_false (made b i d u)) ≡ given (or_i (made b i d u) (leaf_type leaf.False))
unfolding cast_or_i_false or_i
right_false_by_base B i d u = rw (either_zero i, or-true d, and-true u)
right_false_by_base K i d u = refl
right_false_by_base «V» i d u = refl
right_false_by_base W i d u = refl

left_false_by_base : (b : Base) (i : Input) (d u : Bool) → given (cast_or_i_false (made b i d u)) ≡ given (or_i (leaf_type leaf.False) (made b i d u))
unfolding cast_or_i_false or_i
left_false_by_base B i d u = rw (zero_either i)
left_false_by_base K i d u = refl
left_false_by_base «V» i d u = refl
left_false_by_base W i d u = refl

-- u:
pub or_i_false_is_or_i_right : (x : Correctness) → given (cast_or_i_false x) ≡ given (or_i x (leaf_type leaf.False))
or_i_false_is_or_i_right x = right_false_by_base x.base x.input x.dissatisfiable x.unit

-- l:
pub or_i_false_is_or_i_left : (x : Correctness) → given (cast_or_i_false x) ≡ given (or_i (leaf_type leaf.False) x)
or_i_false_is_or_i_left x = left_false_by_base x.base x.input x.dissatisfiable x.unit
