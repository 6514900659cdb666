-- The input of a node from those of its children (01, section "Types"), as types/correctness.rs has it.
use Rattle.std.specs.Prelude.{Bool, true, ◌&&◌, not, eqb}
use Rattle.tables.specs.Choose.{pick}
use Rattle.base_input.specs.declared.Input.{Input}
use Rattle.base_input.specs.declared.Input.TheVariants.{Zero, One, Any, OneNonZero, AnyNonZero}
use Rattle.base_input.specs.Numbers.{input_number}
use Rattle.base_input.specs.Tests.{is_zero, takes_one}

abbrev pub if_zero : Input → Input → Input → Input
if_zero Zero x y = x
if_zero One x y = y
if_zero Any x y = y
if_zero OneNonZero x y = y
if_zero AnyNonZero x y = y

-- and_v and and_b: Zero leaves the other as it is; after a first item anything more makes many
abbrev pub and_input : Input → Input → Input
and_input Zero b = b
and_input One b = if_zero b One Any
and_input Any b = Any
and_input OneNonZero b = if_zero b OneNonZero AnyNonZero
and_input AnyNonZero b = AnyNonZero

-- how many items are taken, whatever the top one is
abbrev pub count_only : Input → Input
count_only Zero = Zero
count_only One = One
count_only Any = Any
count_only OneNonZero = One
count_only AnyNonZero = Any

-- or_d and or_c
abbrev pub or_else_input : Input → Input → Input
or_else_input a b = if_zero b (count_only a) Any

-- or_b, and the children of a thresh one after the other
abbrev pub or_input : Input → Input → Input
or_input a b = if_zero a (count_only b) (or_else_input a b)

-- or_i
abbrev pub either_input : Input → Input → Input
either_input a b = pick (is_zero a && is_zero b) One Any

-- and_or: "Zero if all Zero, One if X Zero and both others One or OneNonZero, or X One or OneNonZero and both others Zero, else Any"
abbrev pub and_or_input : Input → Input → Input → Input
and_or_input x y z =
    pick (is_zero y && is_zero z) (count_only x)
    (pick (is_zero x && (takes_one y && takes_one z)) One Any)

-- OneNonZero is a subtype of all but Zero; every input is one of itself and of Any
unfoldable pub is_subtype_input : Input → Input → Bool
is_subtype_input a b =
    pick (eqb (input_number a) (input_number b)) true
    (pick (eqb (input_number b) (input_number Any)) true
    (eqb (input_number a) (input_number OneNonZero) && not (is_zero b)))
