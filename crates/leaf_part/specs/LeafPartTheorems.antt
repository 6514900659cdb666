-- The part that is handed back for a leaf of a tree is that leaf's key or hash, where the tree's data lie within the script; and the contract of `leaf_part` settles its answer. Assumes nothing.
use Rattle.std.specs.Prelude.{◌≡◌, List, ℕ, ◌+◌, ◌≤◌, length}
use Rattle.std.proofs.Common.{sym, ap, ◌∙◌, le-leb}
use Rattle.lex.specs.Token.{Data, data_length, HASH20, BYTES32, BYTES33}
use Rattle.standard.specs.Tree.{Hash, sha256, hash256, ripemd160, hash160}
use Rattle.standard.specs.Written.{hash_push}
use Rattle.standard.specs.Table.{hash_kind}
use Rattle.there_and_back.specs.Ranged.{DataIn}
use Rattle.leaf_part.specs.LeafPart.{part_of, leaf_part}

part_of_data : (script : List ℕ) (code : ℕ) (d : Data) → DataIn script code d → part_of script d.place (data_length code) ≡ d.bytes
part_of_data script code d i = rw (le-leb (d.place + data_length code) (length script) i.1) (ap (λ (x : Data). x.bytes) (sym i.0))

-- THEOREM: of a pk_k the key, of a raw key hash and of a hash lock the hash
pub key_of_segwit_leaf : (script : List ℕ) (d : Data) → DataIn script BYTES33 d → leaf_part 0 script 3 d.place ≡ d.bytes
unfolding leaf_part data_length
key_of_segwit_leaf script d i = part_of_data script BYTES33 d i

pub key_of_tapscript_leaf : (script : List ℕ) (d : Data) → DataIn script BYTES32 d → leaf_part 1 script 3 d.place ≡ d.bytes
unfolding leaf_part data_length
key_of_tapscript_leaf script d i = part_of_data script BYTES32 d i

module _ (scriptKind : ℕ) (known : scriptKind ≤ 1) (script : List ℕ) (d : Data) where
  pub hash_of_key_leaf : DataIn script HASH20 d → leaf_part scriptKind script 5 d.place ≡ d.bytes
  unfolding leaf_part data_length
  hash_of_key_leaf i = rw (le-leb scriptKind 1 known) (part_of_data script HASH20 d i)

  pub hash_of_lock : (h : Hash) → DataIn script (hash_push h) d → leaf_part scriptKind script (hash_kind h) d.place ≡ d.bytes
  unfolding leaf_part data_length
  hash_of_lock sha256 i = rw (le-leb scriptKind 1 known) (part_of_data script BYTES32 d i)
  hash_of_lock hash256 i = rw (le-leb scriptKind 1 known) (part_of_data script BYTES32 d i)
  hash_of_lock ripemd160 i = rw (le-leb scriptKind 1 known) (part_of_data script HASH20 d i)
  hash_of_lock hash160 i = rw (le-leb scriptKind 1 known) (part_of_data script HASH20 d i)

-- THEOREM: any two answers that meet the contract are identical
pub leaf_part_unique : (scriptKind : ℕ) (script : List ℕ) (kind place : ℕ) (part other : List ℕ) → part ≡ leaf_part scriptKind script kind place → other ≡ leaf_part scriptKind script kind place → part ≡ other
leaf_part_unique scriptKind script kind place part other p q = p ∙ sym q
