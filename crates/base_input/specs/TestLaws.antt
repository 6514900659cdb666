-- What a test on a base says of it. Assumes nothing.
use Rattle.std.specs.Prelude.{◌≡◌, refl, true}
use Rattle.std.proofs.lemmas.Bool.{false≢true}
use Rattle.base_input.specs.declared.Base.{Base}
use Rattle.base_input.specs.declared.Base.TheVariants.{B, K, «V», W}
use Rattle.base_input.specs.Tests.{is_b}

pub only_b : (b : Base) → is_b b ≡ true → b ≡ B
only_b B e = refl
only_b K e = absurd (false≢true e)
only_b «V» e = absurd (false≢true e)
only_b W e = absurd (false≢true e)
