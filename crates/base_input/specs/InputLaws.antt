-- Laws of the input rules: that of and_v and and_b is a monoid with Zero as its unit; a subtype of itself. Assumes nothing.
use Rattle.std.specs.Prelude.{◌≡◌, refl, true, false}
use Rattle.std.proofs.Common.{sym}
use Rattle.base_input.specs.declared.Input.{Input}
use Rattle.base_input.specs.declared.Input.TheVariants.{Zero, One, Any, OneNonZero, AnyNonZero}
use Rattle.base_input.specs.Tests.{is_zero}
use Rattle.base_input.specs.Inputs.{if_zero, and_input, either_input, is_subtype_input}

pub zero_and : (i : Input) → and_input Zero i ≡ i
zero_and i = refl

pub and_zero : (i : Input) → and_input i Zero ≡ i
and_zero Zero = refl
and_zero One = refl
and_zero Any = refl
and_zero OneNonZero = refl
and_zero AnyNonZero = refl

-- what a choice by Zero gives isn't Zero, where neither choice is
never_zero : (i x y p q : Input) → if_zero x p q ≡ q → if_zero y p q ≡ q → if_zero (if_zero i x y) p q ≡ q
never_zero Zero x y p q e f = e
never_zero One x y p q e f = f
never_zero Any x y p q e f = f
never_zero OneNonZero x y p q e f = f
never_zero AnyNonZero x y p q e f = f

pub and_associates : (i j k : Input) → and_input (and_input i j) k ≡ and_input i (and_input j k)
and_associates Zero j k = refl
and_associates One Zero k = refl
and_associates One One k = sym (never_zero k One Any One Any refl refl)
and_associates One Any k = refl
and_associates One OneNonZero k = sym (never_zero k OneNonZero AnyNonZero One Any refl refl)
and_associates One AnyNonZero k = refl
and_associates Any j k = refl
and_associates OneNonZero Zero k = refl
and_associates OneNonZero One k = sym (never_zero k One Any OneNonZero AnyNonZero refl refl)
and_associates OneNonZero Any k = refl
and_associates OneNonZero OneNonZero k = sym (never_zero k OneNonZero AnyNonZero OneNonZero AnyNonZero refl refl)
and_associates OneNonZero AnyNonZero k = refl
and_associates AnyNonZero j k = refl

-- an and_v or and_b takes no item only where neither child does
pub and_zero_right : (i j : Input) → is_zero j ≡ false → is_zero (and_input i j) ≡ false
and_zero_right Zero j h = h
and_zero_right One Zero h = refl
and_zero_right One One h = refl
and_zero_right One Any h = refl
and_zero_right One OneNonZero h = refl
and_zero_right One AnyNonZero h = refl
and_zero_right Any j h = refl
and_zero_right OneNonZero Zero h = refl
and_zero_right OneNonZero One h = refl
and_zero_right OneNonZero Any h = refl
and_zero_right OneNonZero OneNonZero h = refl
and_zero_right OneNonZero AnyNonZero h = refl
and_zero_right AnyNonZero j h = refl

pub input_subtype_of_itself : (i : Input) → is_subtype_input i i ≡ true
unfolding is_subtype_input
input_subtype_of_itself Zero = refl
input_subtype_of_itself One = refl
input_subtype_of_itself Any = refl
input_subtype_of_itself OneNonZero = refl
input_subtype_of_itself AnyNonZero = refl

-- or_i beside a 0
pub either_zero : (i : Input) → either_input i Zero ≡ if_zero i One Any
either_zero Zero = refl
either_zero One = refl
either_zero Any = refl
either_zero OneNonZero = refl
either_zero AnyNonZero = refl
