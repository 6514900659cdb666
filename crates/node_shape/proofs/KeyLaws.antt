-- The offsets that a multi names in the key table: what is tested one by one is tested of all. Assumes nothing.
use mathlib.Core.Path.{◌≡◌, refl, ap}
use mathlib.Core.Bool.{Bool, ◌&&◌}
use mathlib.Core.List.{List, [], ◌∷◌}
use Prim.Native.Nat.{ℕ, ◌+◌}
use lib.Dec.{leb}
use Rattle.std.specs.List.{list_all}
use Rattle.lex.specs.Token.{data_length, BYTES33}
use Rattle.locks.specs.Leaves.{key_at}
use Rattle.standard.specs.Allowed.{multi_key, all_multi_keys}
use Rattle.standard.specs.Table.{keys_at}
use Rattle.encoding.specs.Form.{all_within}

-- the two tests
abbrev pub lies : ℕ → ℕ → ℕ → Bool
lies bytes material offset = leb (offset + bytes) material

abbrev pub formed : Bool → List ℕ → ℕ → Bool
formed segwit material offset = multi_key segwit (key_at material BYTES33 offset)

pub all_lie : (bytes material : ℕ) (offsets : List ℕ) → list_all (lies bytes material) offsets ≡ all_within bytes material offsets
all_lie bytes material [] = refl
all_lie bytes material (x ∷ xs) = ap (λ (b : Bool). lies bytes material x && b) (all_lie bytes material xs)

pub all_formed : (segwit : Bool) (material offsets : List ℕ) → list_all (formed segwit material) offsets ≡ all_multi_keys segwit (keys_at material offsets)
unfolding data_length
all_formed segwit material [] = refl
all_formed segwit material (x ∷ xs) = ap (λ (b : Bool). formed segwit material x && b) (all_formed segwit material xs)
