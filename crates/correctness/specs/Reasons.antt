-- 01's number and reasons for a type rule that refuses (section "When the desk says no").
use Rattle.std.specs.Prelude.{ℕ}
use Rattle.correctness.specs.declared.ErrorKind.{ErrorKind}
use Rattle.correctness.specs.declared.ErrorKind.TheVariants.{ChildBase1, ChildBase2, SwapNonOne, NonZeroDupIf, NonZeroZero, LeftNotDissatisfiable, RightNotDissatisfiable, LeftNotUnit, ThresholdBase, ThresholdNonUnit, ThresholdDissat, ChildBase3}
use Rattle.correctness.specs.Typed.{Typed}
use Rattle.std.specs.Prelude.{Ok, Err}

-- "Reasons of 14"
abbrev pub reason_of : ErrorKind → ℕ
reason_of ChildBase1 = 1
reason_of ChildBase2 = 2
reason_of SwapNonOne = 3
reason_of NonZeroDupIf = 4
reason_of NonZeroZero = 5
reason_of LeftNotDissatisfiable = 6
reason_of RightNotDissatisfiable = 7
reason_of LeftNotUnit = 8
reason_of ThresholdBase = 9
reason_of ThresholdNonUnit = 10
reason_of ThresholdDissat = 11
reason_of ChildBase3 = 12

-- what the desk says of a rule's answer: its number, 14 where the rule refuses
abbrev pub number_of : Typed → ℕ
number_of (Ok c) = 0
number_of (Err e) = 14

-- and its reason
abbrev pub reason : Typed → ℕ
reason (Ok c) = 0
reason (Err e) = reason_of e
