-- What a told length says of the length itself, for the test against the limit: it is within the limit exactly if the length is, and is then the length. Assumes nothing.
use mathlib.Core.Path.{◌≡◌, refl}
use mathlib.Core.Bool.{Bool, true, false}
use Prim.Native.Nat.{ℕ, ◌≤◌, ◌<◌}
use native.Mathlib.Omega.{arith}
use borrow.Author.Tests.{leb-true}
use lib.Dec.{leb}
use Rattle.lex.specs.Script.{script_limit}
use Rattle.tables.specs.Choose.{pick}
use Rattle.script_length.specs.Length.{capped}

module _ (n : ℕ) {told : ℕ} (e : told ≡ capped n) where
  pub told_within : told ≤ 10000 → (leb n script_limit ≡ true) × (told ≡ n)
  unfolding script_limit capped
  told_within h = by (leb n 10000) refl e
    where
      by : (b : Bool) → leb n 10000 ≡ b → told ≡ pick b n 10001 → (leb n 10000 ≡ true) × (told ≡ n)
      by true l t = (l, t)
      by false l t = let no : ⊥ = omega (arith, t, h) in absurd no

  pub told_above : 10000 < told → leb n script_limit ≡ false
  unfolding script_limit capped
  told_above h = by (leb n 10000) refl e
    where
      by : (b : Bool) → leb n 10000 ≡ b → told ≡ pick b n 10001 → leb n 10000 ≡ false
      by true l t = let no : ⊥ = omega (arith, t, h, leb-true n 10000 l) in absurd no
      by false l t = l
