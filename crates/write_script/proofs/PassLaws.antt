-- The whole pass: where it starts, and what it has written when no piece is left. Assumes nothing.
use mathlib.Core.Path.{◌≡◌, refl, sym, ap, subst}
use mathlib.Core.Bool.{Bool}
use mathlib.Core.List.{List, [], ◌∷◌, ◌++◌}
use Prim.Native.Nat.{ℕ, ◌≤◌}
use native.Mathlib.Omega.{arith}
use lib.ListN.{length, set, drop, length-set}
use lib.Seq.{get_or-set_same}
use Rattle.tables.specs.Tables.{newest}
use Rattle.tables.proofs.NewestLaws.{newest_length}
use Rattle.spelling.specs.Spell.{spell}
use Rattle.standard.specs.Tree.{Tree, nil, ◌⊳◌, sizes}
use Rattle.standard.specs.Written.{tree_before, written}
use Rattle.standard.specs.Table.{node_at}
use Rattle.encoding.specs.Checks.{Found, found, refused}
use Rattle.encoding.specs.Encoding.{node_count, tree_in}
use Rattle.encoding.proofs.Stands.{stands_length}
use Rattle.encoding.proofs.FoundLaws.{Holding, found_holding}
use Rattle.emit.specs.Emission.{pen}
use Rattle.emit.proofs.PenLaws.{Wrote, wrote_nothing, wrote_all_of_it}
use Rattle.pieces.specs.Pieces.{Piece, subtree, piece_of, pieces_in}
use Rattle.emit_multi.specs.Multis.{AllWhole}
use Rattle.write_script.specs.declared.State.{State}
use Rattle.write_script.specs.Text.{text, subtrees}
use Rattle.write_script.specs.Writing.{bytes_of, IsFound, Writable}
use Rattle.write_script.specs.Pass.{state, GoingOn}
use Rattle.write_script.proofs.WholeLaws.{stands_whole}

nothing : (t : Tree) (out : List ℕ) → length (spell (written t)) ≤ length out → Wrote out (spell (written t)) out (pen 0 0) (tree_before t [])
unfolding written
nothing t out l = wrote_nothing out (tree_before t []) l

module _ (segwit : Bool) (nodes keys material : List ℕ) where
  -- one subtree on the work list
  first_piece : (work : List ℕ) → 1 ≤ length work → pieces_in material (set work 0 33) 1 ≡ subtree ∷ []
  unfolding piece_of
  first_piece work h = ap (λ (x : ℕ). piece_of material x ∷ []) (get_or-set_same work 0 33 0 h)

  pub begun : (work out : List ℕ) → Writable segwit nodes keys material (length work) (length out)
      → GoingOn segwit nodes keys material out (bytes_of (tree_in segwit nodes keys material)) (set work 0 33) out (state 1 (node_count nodes) (pen 0 0))
  begun work out r = by (tree_in segwit nodes keys material) refl r.is_found r.out_room
    where
      by : (f : Found) → tree_in segwit nodes keys material ≡ f → IsFound f → length (bytes_of f) ≤ length out
          → GoingOn segwit nodes keys material out (bytes_of f) (set work 0 33) out (state 1 (node_count nodes) (pen 0 0))
      by (refused number reason) e i l = absurd i
      by (found t) e i l = start t (found_holding segwit nodes keys material t e) l
        where
          start : (t : Tree) → Holding segwit nodes keys material t → length (spell (written t)) ≤ length out
              → GoingOn segwit nodes keys material out (spell (written t)) (set work 0 33) out (state 1 (node_count nodes) (pen 0 0))
          start t h l =
              let p : pieces_in material (set work 0 33) 1 ≡ subtree ∷ [] = first_piece work (omega (arith, r.work_room)) in
              let n : length (newest (node_at nodes) (node_count nodes)) ≡ sizes (t ⊳ nil) = stands_length segwit material keys h.stands in
              record {
                trees = t ⊳ nil;
                stands = h.stands;
                asked = ap subtrees p;
                wrote = subst (λ (ps : List Piece). Wrote out (spell (written t)) out (pen 0 0) (text ps (t ⊳ nil))) (sym p) (nothing t out l);
                whole = subst (λ (ps : List Piece). AllWhole (text ps (t ⊳ nil))) (sym p) ((stands_whole segwit material keys h.stands).0 [] tt);
                room = omega (arith, newest_length (node_at nodes) (node_count nodes));
                enough = omega (arith, r.work_room, length-set work 0 33);
                inside = omega arith;
              }

  pub ended : (before all work out : List ℕ) (s : State) → GoingOn segwit nodes keys material before all work out s → s.work ≤ 0 → (out ≡ all ++ drop (length all) before) × (s.pen.at ≡ length all)
  ended before all work out s g h =
      let z : s.work ≡ 0 = omega arith in
      wrote_all_of_it (subst (λ (k : ℕ). Wrote before all out s.pen (text (pieces_in material work k) g.trees)) z g.wrote)
