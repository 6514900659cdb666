-- 01's numbers and what they stand for undo one another. Assumes nothing.
use Rattle.std.specs.Prelude.{◌≡◌, refl, Bool, true, false, ℕ, zero, suc, ◌≤◌}
use Rattle.std.proofs.Common.{arith}
use Rattle.base_input.specs.declared.Base.{Base}
use Rattle.base_input.specs.declared.Base.TheVariants.{B, K, «V», W}
use Rattle.base_input.specs.declared.Input.{Input}
use Rattle.base_input.specs.declared.Input.TheVariants.{Zero, One, Any, OneNonZero, AnyNonZero}
use Rattle.base_input.specs.Numbers.{base_number, base_of, input_number, input_of, bool_number, bool_of}

pub base_of_its_number : (b : Base) → base_of (base_number b) ≡ b
unfolding base_of
base_of_its_number B = refl
base_of_its_number K = refl
base_of_its_number «V» = refl
base_of_its_number W = refl

pub input_of_its_number : (i : Input) → input_of (input_number i) ≡ i
unfolding input_of
input_of_its_number Zero = refl
input_of_its_number One = refl
input_of_its_number Any = refl
input_of_its_number OneNonZero = refl
input_of_its_number AnyNonZero = refl

pub bool_of_its_number : (b : Bool) → bool_of (bool_number b) ≡ b
bool_of_its_number true = refl
bool_of_its_number false = refl

-- and the other way, for the numbers that stand for something

pub number_of_its_base : (n : ℕ) → 1 ≤ n → n ≤ 4 → base_number (base_of n) ≡ n
unfolding base_of
number_of_its_base zero low high = let b : ⊥ = omega arith in absurd b
number_of_its_base (suc zero) low high = refl
number_of_its_base (suc (suc zero)) low high = refl
number_of_its_base (suc (suc (suc zero))) low high = refl
number_of_its_base (suc (suc (suc (suc zero)))) low high = refl
number_of_its_base (suc (suc (suc (suc (suc n))))) low high = let b : ⊥ = omega arith in absurd b

pub number_of_its_input : (n : ℕ) → 1 ≤ n → n ≤ 5 → input_number (input_of n) ≡ n
unfolding input_of
number_of_its_input zero low high = let b : ⊥ = omega arith in absurd b
number_of_its_input (suc zero) low high = refl
number_of_its_input (suc (suc zero)) low high = refl
number_of_its_input (suc (suc (suc zero))) low high = refl
number_of_its_input (suc (suc (suc (suc zero)))) low high = refl
number_of_its_input (suc (suc (suc (suc (suc zero))))) low high = refl
number_of_its_input (suc (suc (suc (suc (suc (suc n)))))) low high = let b : ⊥ = omega arith in absurd b
