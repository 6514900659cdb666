-- What a lent table holds, as lists of numbers: document 01's "tokens, nodes and keys fill the front, zeros the rest".
use Rattle.std.specs.Prelude.{◌≡◌, List, [], ◌∷◌, ◌++◌, ℕ, zero, suc, ◌+◌, length, set, replicate}

-- so many zeros
abbrev pub zeros : ℕ → List ℕ
zeros n = replicate n 0

-- the numbers of the entries, one entry after the other
abbrev pub flat : List (List ℕ) → List ℕ
flat [] = []
flat (entry ∷ entries) = entry ++ flat entries

-- every entry has w numbers
abbrev pub Strided : ℕ → List (List ℕ) → Type 0
Strided w [] = Unit {0}
Strided w (entry ∷ entries) = (length entry ≡ w) × Strided w entries

-- a table with numbers written at i + k, i + k + 1 and so on
abbrev pub put_next : List ℕ → ℕ → ℕ → List ℕ → List ℕ
put_next table i k [] = table
put_next table i k (x ∷ xs) = put_next (set table (i + k) x) i (suc k) xs

-- a table with numbers written at i, i + 1 and so on
abbrev pub put_at : List ℕ → ℕ → List ℕ → List ℕ
put_at table i [] = table
put_at table i (x ∷ xs) = put_next (set table i x) i 1 xs

-- the first n entries of a table that is read by index, the newest first
abbrev pub newest : {A : Type 0} → (ℕ → A) → ℕ → List A
newest read zero = []
newest read (suc n) = read n ∷ newest read n
