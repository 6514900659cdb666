-- The length read off a node table is that of the bytes which are written for its tree. Assumes nothing.
-- Why: each node adds what its tree has more than its children, so the nodes of a stack of trees add up to the lengths of these.
use mathlib.Core.Path.{◌≡◌, refl, ap, subst}
use mathlib.Core.Bool.{Bool}
use mathlib.Core.List.{List}
use mathlib.Core.Option.{Option}
use Prim.Native.Nat.{ℕ, ◌+◌}
use native.Mathlib.Omega.{arith}
use lib.ListN.{length}
use Rattle.spelling.specs.Spell.{spell}
use Rattle.standard.specs.Tree.{Tree, Trees, nil, ◌⊳◌}
use Rattle.standard.specs.Written.{written}
use Rattle.standard.specs.Table.{Node, terminal_of}
use Rattle.encoding.specs.Form.{well_formed}
use Rattle.encoding.specs.Checks.{found}
use Rattle.encoding.specs.Encoding.{tree_in}
use Rattle.encoding.proofs.Stands.{Stands, empty, more}
use Rattle.encoding.proofs.FoundLaws.{found_holding}
use Rattle.script_length.specs.Length.{ends_fusible, terminal_bytes, added_bytes, bytes_of, capped, length_in}
use Rattle.script_length.proofs.SpelledLength.{spelled_length}
use Rattle.script_length.proofs.NodeBytes.{trees_bytes, Adds, NewestEnds, terminal_adds}
use Rattle.script_length.proofs.NodeEndings.{AllEnd, stands_end}

newest_ends : (ns : List Node) (ts : Trees) → AllEnd 0 ns ts → NewestEnds (ends_fusible ns) ts
unfolding ends_fusible
newest_ends ns nil h = tt
newest_ends ns (t ⊳ ts) h = h.0

module _ (segwit : Bool) (material keys : List ℕ) where
  stands_bytes : {ns : List Node} {ts : Trees} → Stands segwit material keys ns ts → bytes_of segwit ns ≡ trees_bytes ts
  unfolding added_bytes well_formed
  stands_bytes empty = refl
  stands_bytes (more {n} {ns} {ts} {us} {t} s p) =
      let a : trees_bytes (t ⊳ us) ≡ terminal_bytes segwit (terminal_of n.kind) n.number n.count (ends_fusible ns) + trees_bytes ts =
      subst (λ (o : Option Trees). Adds (terminal_bytes segwit (terminal_of n.kind) n.number n.count (ends_fusible ns)) ts o) p.makes
      (terminal_adds segwit material keys (terminal_of n.kind) n (ends_fusible ns) ts p.formed (newest_ends ns ts (stands_end segwit material keys s))) in
      omega (arith, a, stands_bytes s)

  -- THEOREM: nodes that stand for one tree add up to the length of its bytes
  pub bytes_of_tree : {ns : List Node} (t : Tree) → Stands segwit material keys ns (t ⊳ nil) → bytes_of segwit ns ≡ length (spell (written t))
  bytes_of_tree t s = omega (arith, stands_bytes s, spelled_length t)

  -- THEOREM: the length of the script of a table that passes the checks
  pub length_of_tree : (nodes : List ℕ) (t : Tree) → tree_in segwit nodes keys material ≡ found t → length_in segwit nodes ≡ capped (length (spell (written t)))
  unfolding length_in
  length_of_tree nodes t e = ap capped (bytes_of_tree t (found_holding segwit nodes keys material t e).stands)
