-- The end's test by the root's type is the test by its number. Assumes nothing.
use mathlib.Core.Path.{◌≡◌, refl}
use mathlib.Core.Bool.{Bool, true, false}
use Prim.Native.Nat.{ℕ}
use lib.Dec.{eqb}
use Rattle.tables.specs.Choose.{pick}
use Rattle.base_input.specs.declared.Base.{Base}
use Rattle.base_input.specs.declared.Base.TheVariants.{B, K, «V», W}
use Rattle.base_input.specs.Numbers.{base_of}
use Rattle.base_input.specs.Tests.{is_b}

by_tests : (a b c : Bool) → is_b (pick a B (pick b K (pick c «V» W))) ≡ a
by_tests true b c = refl
by_tests false true c = refl
by_tests false false true = refl
by_tests false false false = refl

pub is_first : (n : ℕ) → is_b (base_of n) ≡ eqb n 1
unfolding base_of
is_first n = by_tests (eqb n 1) (eqb n 2) (eqb n 3)
