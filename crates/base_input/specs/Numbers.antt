-- 01's numbers for bases, inputs and a yes (section "Tokens to tree").
use Rattle.std.specs.Prelude.{Bool, true, false, ℕ, eqb}
use Rattle.tables.specs.Choose.{pick}
use Rattle.base_input.specs.declared.Base.{Base}
use Rattle.base_input.specs.declared.Base.TheVariants.{B, K, «V», W}
use Rattle.base_input.specs.declared.Input.{Input}
use Rattle.base_input.specs.declared.Input.TheVariants.{Zero, One, Any, OneNonZero, AnyNonZero}

-- "Base B, K, V, W are 1 to 4"
abbrev pub base_number : Base → ℕ
base_number B = 1
base_number K = 2
base_number «V» = 3
base_number W = 4

-- the base that a number stands for; a number that stands for none is read as W
unfoldable pub base_of : ℕ → Base
base_of n = pick (eqb n 1) B (pick (eqb n 2) K (pick (eqb n 3) «V» W))

-- "input Zero, One, Any, OneNonZero, AnyNonZero 1 to 5"
abbrev pub input_number : Input → ℕ
input_number Zero = 1
input_number One = 2
input_number Any = 3
input_number OneNonZero = 4
input_number AnyNonZero = 5

-- the input that a number stands for; a number that stands for none is read as AnyNonZero
unfoldable pub input_of : ℕ → Input
input_of n = pick (eqb n 1) Zero (pick (eqb n 2) One (pick (eqb n 3) Any (pick (eqb n 4) OneNonZero AnyNonZero)))

-- "a yes is 1"
abbrev pub bool_number : Bool → ℕ
bool_number true = 1
bool_number false = 0

-- what a number says; only 1 is a yes
abbrev pub bool_of : ℕ → Bool
bool_of n = eqb n 1
