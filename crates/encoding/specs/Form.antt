-- When a node is well formed over the finished trees before it: document 01's number 21, "not one tree, unknown kind (0 and 4 too), wrong size, place or key offset out of range, unused field not 0".
use Rattle.std.specs.Prelude.{Bool, true, false, ◌&&◌, ◌||◌, List, [], ◌∷◌, ℕ, zero, suc, ◌+◌, eqb, leb, length, take, drop}
use Rattle.std.proofs.Math.Option.{Option, none, some}
use Rattle.tables.specs.Choose.{pick}
use Rattle.standard.specs.Tree.{Trees, nil, ◌⊳◌, many, size}
use Rattle.standard.specs.Table.{Node, Terminal, noTerminal, isTrue, isFalse, isPkK, isRawPkH, isAfter, isOlder, is_hash, is_wrapper, is_combination, isAndOr, isThresh, isMulti, isMultiA, terminal_of, hash_length, key_length}

-- What a node of a kind holds
pub record Shape : Type 0 where
  -- whether it has a number: a locktime or k
  pub has_number : Bool
  -- whether it counts its children, as thresh does
  pub counts_children : Bool
  -- how many bytes of a key or hash stand at its place in the material, 0 if none
  pub data_bytes : ℕ
  -- how many bytes each key has that it names in the key table, 0 if it names none
  pub key_bytes : ℕ
  -- how many children it has, where it doesn't count them
  pub children : ℕ

abbrev pub shape : Bool → Bool → ℕ → ℕ → ℕ → Shape
shape has_number counts_children data_bytes key_bytes children =
    record { has_number = has_number; counts_children = counts_children; data_bytes = data_bytes; key_bytes = key_bytes; children = children }

-- "Key data: multi 33 bytes, multi_a 32, pk_k 33 or 32 by script kind"
abbrev pub shape_of : Bool → Terminal → Option Shape
shape_of segwit noTerminal = none
shape_of segwit isTrue = some (shape false false 0 0 0)
shape_of segwit isFalse = some (shape false false 0 0 0)
shape_of segwit isPkK = some (shape false false (key_length segwit) 0 0)
shape_of segwit isRawPkH = some (shape false false 20 0 0)
shape_of segwit isAfter = some (shape true false 0 0 0)
shape_of segwit isOlder = some (shape true false 0 0 0)
shape_of segwit (is_hash h) = some (shape false false (hash_length h) 0 0)
shape_of segwit (is_wrapper w) = some (shape false false 0 0 1)
shape_of segwit (is_combination c) = some (shape false false 0 0 2)
shape_of segwit isAndOr = some (shape false false 0 0 3)
shape_of segwit isThresh = some (shape true true 0 0 0)
shape_of segwit isMulti = some (shape true false 0 33 0)
shape_of segwit isMultiA = some (shape true false 0 32 0)

abbrev pub has_count : Shape → Bool
has_count s = s.counts_children || leb 1 s.key_bytes

abbrev pub has_place : Shape → Bool
has_place s = leb 1 s.data_bytes || leb 1 s.key_bytes

-- "unused field not 0"
abbrev pub unused_are_zero : Shape → Node → Bool
unused_are_zero s n = (s.has_number || eqb n.number 0) && ((has_count s || eqb n.count 0) && (has_place s || eqb n.place 0))

-- so many bytes from each offset on lie within the material
abbrev pub all_within : ℕ → ℕ → List ℕ → Bool
all_within bytes material [] = true
all_within bytes material (offset ∷ offsets) = leb (offset + bytes) material && all_within bytes material offsets

-- the part of the key table that a multi or multi_a names
abbrev pub keys_named : Node → List ℕ → List ℕ
keys_named n keys = take n.count (drop n.place keys)

-- "place or key offset out of range"
abbrev pub in_range : ℕ → List ℕ → Shape → Node → Bool
in_range material keys s n =
    pick (leb 1 s.key_bytes) (leb (n.place + n.count) (length keys) && all_within s.key_bytes material (keys_named n keys))
    (leb (n.place + s.data_bytes) material)

-- how many of the newest finished trees are its children
abbrev pub child_count : Shape → Node → ℕ
child_count s n = pick s.counts_children n.count s.children

-- the nodes of the first k finished trees
abbrev pub sizes_of_first : ℕ → Trees → ℕ
sizes_of_first zero ts = 0
sizes_of_first (suc k) nil = 0
sizes_of_first (suc k) (t ⊳ ts) = size t + sizes_of_first k ts

-- as many finished trees as it has children, and a size that is theirs and one
abbrev pub right_size : Shape → Node → Trees → Bool
right_size s n ts = leb (child_count s n) (many ts) && eqb n.size (sizes_of_first (child_count s n) ts + 1)

abbrev pub formed_as : ℕ → List ℕ → Option Shape → Node → Trees → Bool
formed_as material keys none n ts = false
formed_as material keys (some s) n ts = unused_are_zero s n && (in_range material keys s n && right_size s n ts)

-- a well-formed node over the finished trees, the newest first; `material` is how many bytes there are
unfoldable pub well_formed : Bool → ℕ → List ℕ → Node → Trees → Bool
well_formed segwit material keys n ts = formed_as material keys (shape_of segwit (terminal_of n.kind)) n ts
