-- What the writing pass is asked and what it gives: document 01, "Encoder" ("It writes canonical bytes at the front, .. the rest of the output as it was").
use Rattle.std.specs.Prelude.{Bool, List, [], ℕ, ◌+◌, ◌*◌, ◌≤◌, length}
use Rattle.spelling.specs.Spell.{spell}
use Rattle.standard.specs.Written.{written}
use Rattle.encoding.specs.Checks.{Found, found, refused}
use Rattle.encoding.specs.Encoding.{node_count, tree_in}

-- the script of a tree that was found
abbrev pub bytes_of : Found → List ℕ
bytes_of (found t) = spell (written t)
bytes_of (refused number reason) = []

abbrev pub IsFound : Found → Type 0
IsFound (found t) = Unit {0}
IsFound (refused number reason) = ⊥

-- a table that holds a tree, with work for it and room for its script
pub record Writable (segwit : Bool) (nodes keys material : List ℕ) (work out : ℕ) : Type 0 where
  pub is_found : IsFound (tree_in segwit nodes keys material)
  pub work_room : 8 * node_count nodes + 2 ≤ work
  pub out_room : length (bytes_of (tree_in segwit nodes keys material)) ≤ out
