-- For the proof: the offsets of what tokens push, read off the token table.
use Rattle.std.specs.Prelude.{◌≡◌, List, ◌⊎◌, ℕ, ◌+◌, ◌*◌, ◌/◌, ◌≤◌, ◌<◌, length, get_or}

-- where a push of this token's instruction starts
abbrev pub offset_at : List ℕ → ℕ → ℕ
offset_at table i = get_or table (3 * i + 2) 0 + 1

-- the same token, or neither is in the table
abbrev pub SameToken : List ℕ → ℕ → ℕ → Type 0
SameToken table i j = (i ≡ j) ⊎ ((length table / 3 ≤ i) × (length table / 3 ≤ j))

-- every number of the table is below 2^31
abbrev pub Low : List ℕ → Type 0
Low table = (i : ℕ) → get_or table i 0 < 2147483648
