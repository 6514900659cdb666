-- The contract of `unhex` settles its answer and what was lent. Assumes nothing.
use Rattle.std.specs.Prelude.{◌≡◌, List, ℕ}
use Rattle.std.proofs.Common.{sym, ◌∙◌}
use Rattle.hex_text.specs.HexText.{Unhexes}

-- THEOREM: any two outcomes that meet it are identical
pub unhex_outcome_unique : (text lent now other : List ℕ) (n m : ℕ) → Unhexes text lent now n → Unhexes text lent other m → (n ≡ m) × (now ≡ other)
unhex_outcome_unique text lent now other n m h g = (h.counted ∙ sym g.counted, h.put ∙ sym g.put)
