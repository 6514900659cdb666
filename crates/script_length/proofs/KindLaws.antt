-- For the proof of the code: how many bytes the push of a number has at most, and what some kinds of node count. Assumes nothing.
use mathlib.Core.Path.{◌≡◌, ap}
use mathlib.Core.Bool.{Bool, true, false}
use mathlib.Core.List.{[], ◌∷◌}
use Prim.Native.Nat.{ℕ, ◌+◌, ◌*◌, ◌/◌, ◌%◌, ◌≤◌, ◌<◌}
use native.Mathlib.Omega.{arith}
use lib.Dec.{eqb, leb, ltb}
use lib.ListN.{length}
use Rattle.tables.specs.Choose.{pick}
use Rattle.spelling.specs.Spell.{push_bytes, digits, number_bytes}
use Rattle.script_length.specs.Length.{Counts}

-- The push of a number

module _ (n : ℕ) where
  digits_low : length (digits n) ≤ 4
  unfolding digits
  digits_low = by (ltb n 0x80) (ltb n 0x8000) (ltb n 0x800000)
    where
      by : (x y z : Bool) → length (pick x (n ∷ []) (pick y (n % 256 ∷ n / 256 ∷ []) (pick z (n % 256 ∷ n / 256 % 256 ∷ n / 65536 ∷ []) (n % 256 ∷ n / 256 % 256 ∷ n / 65536 % 256 ∷ n / 16777216 ∷ [])))) ≤ 4
      by true y z = omega arith
      by false true z = omega arith
      by false false true = omega arith
      by false false false = omega arith

  -- no number has more than five
  pub at_most_five : length (number_bytes n) ≤ 5
  unfolding number_bytes
  at_most_five = by (eqb n 0) (leb n 16)
    where
      by : (x y : Bool) → length (pick x (0x00 ∷ []) (pick y ((0x50 + n) ∷ []) (push_bytes (digits n)))) ≤ 5
      by true y = omega arith
      by false true = omega arith
      by false false = omega (arith, digits_low)

-- What a function below counts

pub lock_counts : (n : ℕ) {a : ℕ} → a ≡ length (number_bytes n) → Counts (a + 1) (length (number_bytes n) + 1)
lock_counts n e = (ap (λ (x : ℕ). x + 1) e, omega (arith, e, at_most_five n))

pub thresh_counts : (k n : ℕ) {a : ℕ} → n < 4294967296 → a ≡ length (number_bytes k) → Counts (n + a) (n + length (number_bytes k))
thresh_counts k n h e = (ap (λ (x : ℕ). n + x) e, omega (arith, e, at_most_five k))

pub multi_counts : (k n : ℕ) {a b : ℕ} → n < 4294967296 → a ≡ length (number_bytes k) → b ≡ length (number_bytes n)
    → Counts (a + 34 * n + b + 1) (length (number_bytes k) + 34 * n + length (number_bytes n) + 1)
multi_counts k n h e f = (omega (arith, e, f), omega (arith, e, f, at_most_five k, at_most_five n))

pub multi_a_counts : (k n : ℕ) {a : ℕ} → n < 4294967296 → a ≡ length (number_bytes k) → Counts (34 * n + a + 1) (34 * n + length (number_bytes k) + 1)
multi_a_counts k n h e = (omega (arith, e), omega (arith, e, at_most_five k))
