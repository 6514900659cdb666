-- A type is a subtype of itself, as the crate says of `is_subtype`. Assumes nothing.
use Rattle.std.specs.Prelude.{◌≡◌, refl, true, eqb}
use Rattle.std.proofs.Math.Bool.{or-not_self}
use Rattle.base_input.specs.declared.Base.{Base}
use Rattle.base_input.specs.declared.Base.TheVariants.{B, K, «V», W}
use Rattle.base_input.specs.Numbers.{base_number}
use Rattle.base_input.specs.InputLaws.{input_subtype_of_itself}
use Rattle.correctness.specs.declared.Correctness.{Correctness}
use Rattle.correctness.specs.Rules.{is_subtype}

equal_to_itself : (b : Base) → eqb (base_number b) (base_number b) ≡ true
equal_to_itself B = refl
equal_to_itself K = refl
equal_to_itself «V» = refl
equal_to_itself W = refl

pub subtype_of_itself : (c : Correctness) → is_subtype c c ≡ true
unfolding is_subtype
subtype_of_itself c =
    rw (equal_to_itself c.base, input_subtype_of_itself c.input, or-not_self c.dissatisfiable, or-not_self c.unit)
