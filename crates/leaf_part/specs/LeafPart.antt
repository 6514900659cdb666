-- "A leaf's key or hash (kinds 3, 5, 8 to 11) is handed back as the very part of the caller's script; an empty part where there is none in range": document 01, section "Encoder".
use Rattle.std.specs.Prelude.{List, [], ◌∷◌, ℕ, ◌+◌, eqb, leb, length, take, drop}
use Rattle.tables.specs.Choose.{pick, look}

-- "pk_k 33 or 32 by script kind"
abbrev pub key_bytes : ℕ → ℕ
key_bytes scriptKind = pick (eqb scriptKind 0) 33 32

-- how many bytes a key or hash of this kind of node has, 0 where there is none
abbrev pub leaf_bytes : ℕ → ℕ → ℕ
leaf_bytes scriptKind kind = look kind ((3, key_bytes scriptKind) ∷ (5, 20) ∷ (8, 32) ∷ (9, 32) ∷ (10, 20) ∷ (11, 20) ∷ []) 0

-- so many bytes of the script from a place on, none if they don't all lie in it
abbrev pub part_of : List ℕ → ℕ → ℕ → List ℕ
part_of script start bytes = pick (leb (start + bytes) (length script)) (take bytes (drop start script)) []

-- a script kind that is neither 0 nor 1 has no leaves
unfoldable pub leaf_part : ℕ → List ℕ → ℕ → ℕ → List ℕ
leaf_part scriptKind script kind place = pick (leb scriptKind 1) (part_of script place (leaf_bytes scriptKind kind)) []
