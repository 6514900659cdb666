-- Laws of lists that the libraries don't have. Assumes nothing.
use mathlib.Core.Path.{◌≡◌}
use mathlib.Core.List.{List, [], ◌∷◌}
use Prim.Native.Nat.{ℕ, zero, suc, ◌≤◌}
use native.Mathlib.Omega.{arith}
use lib.ListN.{length, take}

-- a part that is there whole ends within the list
pub take_whole : (n : ℕ) (l : List ℕ) → length (take n l) ≡ n → n ≤ length l
take_whole zero l e = omega arith
take_whole (suc n) [] e = let no : ⊥ = omega arith in absurd no
take_whole (suc n) (x ∷ l) e = let r = take_whole n l (omega arith) in omega arith
