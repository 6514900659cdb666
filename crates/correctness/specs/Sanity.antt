-- The sanity checks of types/correctness.rs: what holds of every type that the rules give; and that a K is never Zero.
use Rattle.std.specs.Prelude.{Bool, true, ◌&&◌, not, ◌≡◌}
use Rattle.base_input.specs.declared.Base.{Base}
use Rattle.base_input.specs.declared.Base.TheVariants.{B, K, «V», W}
use Rattle.base_input.specs.declared.Input.{Input}
use Rattle.correctness.specs.declared.Correctness.{Correctness}
use Rattle.correctness.specs.Typed.{Typed}
use Rattle.std.specs.Prelude.{Ok, Err}
use Rattle.base_input.specs.Tests.{is_zero, top_non_zero}

-- K is unit and takes at least one item; V is neither unit nor dissatisfiable; W is never OneNonZero or AnyNonZero
abbrev pub sane : Base → Input → Bool → Bool → Bool
sane B i d u = true
sane K i d u = u && not (is_zero i)
sane «V» i d u = not u && not d
sane W i d u = not (top_non_zero i)

abbrev pub Sound : Correctness → Type 0
Sound c = sane c.base c.input c.dissatisfiable c.unit ≡ true

-- a refusal has no type, so none that could be unsound
abbrev pub SoundAnswer : Typed → Type 0
SoundAnswer (Ok c) = Sound c
SoundAnswer (Err e) = Unit {0}
