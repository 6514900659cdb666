-- A step of the pass: what is known where a subtree's node is to be taken, that each way of taking it keeps what holds, and that the end comes nearer. Assumes nothing.
-- Why: a node's pieces say what its tree says, and bring at most seven pieces more than two for each child.
use mathlib.Core.Path.{◌≡◌, refl, sym, ap, subst, ◌∙◌}
use mathlib.Core.Bool.{Bool}
use mathlib.Core.List.{List, [], ◌∷◌, ◌++◌}
use Prim.Native.Nat.{ℕ, zero, suc, ◌+◌, ◌-◌, ◌*◌, ◌%◌, ◌≤◌, ◌<◌}
use native.Mathlib.Omega.{arith}
use native.Mathlib.Nat.{div-add-mod'}
use lib.ListN.{length, get_or}
use borrow.Author.Tests.{eq-eqb, ne_eqb}
use Rattle.tables.specs.Tables.{newest}
use Rattle.tables.proofs.NewestLaws.{newest_length}
use Rattle.lex.specs.Token.{Lexeme, op, num, push}
use Rattle.standard.specs.Tree.{Tree, Trees, nil, ◌⊳◌, ◌⊕◌, many, size, sizes}
use Rattle.standard.proofs.TreeLaws.{many_sizes, many_append, sizes_append}
use Rattle.standard.specs.Written.{tree_before}
use Rattle.standard.specs.Table.{Node, node_at}
use Rattle.forest.specs.Forest.{children}
use Rattle.encoding.specs.Encoding.{node_count}
use Rattle.encoding.proofs.Passed.{Passed, made_of, size_of_children}
use Rattle.encoding.proofs.Stands.{Stands, empty, more, stands_length}
use Rattle.emit.specs.declared.Pen.{Pen}
use Rattle.emit.specs.Emission.{inked, penned, Coded, Room, inked_all, penned_all, RoomForAll}
use Rattle.emit.proofs.PenLaws.{Wrote, wrote_length, wrote_more, wrote_room, AllCoded, wrote_several}
use Rattle.pieces.specs.Pieces.{Piece, subtree, writes, lexeme_in, piece_of, pieces_in, Whole}
use Rattle.pieces.proofs.EntryLaws.{taken}
use Rattle.emit_multi.specs.Multis.{AllWhole, Ready}
use Rattle.write_script.specs.declared.State.{State}
use Rattle.write_script.specs.Text.{text, subtrees, to_write}
use Rattle.write_script.specs.Pass.{state, GoingOn}
use Rattle.write_script.proofs.TextLaws.{Says, Leafs}

-- Trees and their sizes

-- Pieces

is_subtree : (material : List ℕ) (piece : ℕ) → piece % 64 ≡ 33 → piece_of material piece ≡ subtree
unfolding piece_of
is_subtree material piece h = rw (eq-eqb (piece % 64) 33 h) refl

is_lexeme : (material : List ℕ) (piece : ℕ) → (piece % 64 ≡ 33 → ⊥) → piece_of material piece ≡ writes (lexeme_in material piece)
unfolding piece_of
is_lexeme material piece h = rw (ne_eqb (piece % 64) 33 h) refl

whole_coded : (l : Lexeme) → Whole l → Coded l
whole_coded (op c) h = h
whole_coded (num n) h = tt
whole_coded (push c d) h = tt

all_coded : (ls : List Lexeme) → AllWhole ls → AllCoded ls
all_coded [] h = tt
all_coded (l ∷ ls) h = (whole_coded l h.0, all_coded ls h.1)

whole_front : (xs ys : List Lexeme) → AllWhole (xs ++ ys) → AllWhole xs × AllWhole ys
whole_front [] ys h = (tt, h)
whole_front (x ∷ xs) ys h = let m = whole_front xs ys h.1 in ((h.0, m.0), m.1)

-- The newest node

abbrev Top : (segwit : Bool) (material keys : List ℕ) → List Node → Trees → Type 0
Top segwit material keys [] nil = Unit {0}
Top segwit material keys [] (t ⊳ us) = ⊥
Top segwit material keys (n ∷ ns) nil = ⊥
Top segwit material keys (n ∷ ns) (t ⊳ us) = (ts : Trees) × Stands segwit material keys ns ts × Passed segwit material keys n ts t us

top : (segwit : Bool) (material keys : List ℕ) {ns : List Node} {ts : Trees} → Stands segwit material keys ns ts → Top segwit material keys ns ts
top segwit material keys empty = tt
top segwit material keys (more {ts = ts} s p) = (ts, s, p)

module _ (segwit : Bool) (nodes keys material : List ℕ) where
  -- where a subtree is to be taken: its node makes the tree t of the trees ts, and the trees us are left under it
  pub record Opened (before all work out : List ℕ) (s : State) : Type 0 where
    pub ts : Trees
    pub us : Trees
    pub t : Tree
    pub some_left : 1 ≤ s.left
    pub stands : Stands segwit material keys (newest (node_at nodes) (s.left - 1)) ts
    pub passed : Passed segwit material keys (node_at nodes (s.left - 1)) ts t us
    pub asked : subtrees (pieces_in material work (s.work - 1)) ≡ many us
    pub wrote : Wrote before all out s.pen (tree_before t (text (pieces_in material work (s.work - 1)) us))
    pub whole : AllWhole (tree_before t (text (pieces_in material work (s.work - 1)) us))
    pub room : s.work + 8 * (size t + sizes us) + 1 ≤ 8 * node_count nodes + 2 * suc (many us)
    pub pieces_are : pieces_in material work s.work ≡ subtree ∷ pieces_in material work (s.work - 1)

  module _ {before all work out : List ℕ} {s : State} (g : GoingOn segwit nodes keys material before all work out s) (some_work : 1 ≤ s.work) where
    abbrev next_piece : ℕ
    next_piece = get_or work (s.work - 1) 0

    abbrev others : List Piece
    others = pieces_in material work (s.work - 1)

    split_trees : (left : ℕ) (trees : Trees) → Stands segwit material keys (newest (node_at nodes) left) trees → subtrees (subtree ∷ others) ≡ many trees
        → Wrote before all out s.pen (text (subtree ∷ others) trees) → AllWhole (text (subtree ∷ others) trees)
        → s.work + 8 * sizes trees + 1 ≤ 8 * node_count nodes + 2 * many trees → left ≡ s.left → pieces_in material work s.work ≡ subtree ∷ others
        → Opened before all work out s
    split_trees left nil st a w h r e p = let no : ⊥ = omega arith in absurd no
    split_trees zero (t ⊳ us) st a w h r e p = absurd (top segwit material keys st)
    split_trees (suc i) (t ⊳ us) st a w h r e p =
        let x : (ts : Trees) × Stands segwit material keys (newest (node_at nodes) i) ts × Passed segwit material keys (node_at nodes i) ts t us = top segwit material keys st in
        let j : i ≡ s.left - 1 = omega arith in
        record {
          ts = x.0;
          us = us;
          t = t;
          some_left = omega arith;
          stands = subst (λ (k : ℕ). Stands segwit material keys (newest (node_at nodes) k) x.0) j x.1;
          passed = subst (λ (k : ℕ). Passed segwit material keys (node_at nodes k) x.0 t us) j x.2;
          asked = omega arith;
          wrote = w;
          whole = h;
          room = r;
          pieces_are = p;
        }

    -- a subtree
    pub opened : next_piece % 64 ≡ 33 → Opened before all work out s
    opened h =
        let e : pieces_in material work s.work ≡ subtree ∷ others = taken material work s.work some_work ∙ ap (λ (x : Piece). x ∷ others) (is_subtree material next_piece h) in
        split_trees s.left g.trees g.stands (ap subtrees (sym e) ∙ g.asked)
        (subst (λ (ps : List Piece). Wrote before all out s.pen (text ps g.trees)) e g.wrote)
        (subst (λ (ps : List Piece). AllWhole (text ps g.trees)) e g.whole)
        g.room refl e

    -- a lexeme
    module _ (h : next_piece % 64 ≡ 33 → ⊥) where
      lexeme_first : pieces_in material work s.work ≡ writes (lexeme_in material next_piece) ∷ others
      lexeme_first = taken material work s.work some_work ∙ ap (λ (x : Piece). x ∷ others) (is_lexeme material next_piece h)

      first_wrote : Wrote before all out s.pen (lexeme_in material next_piece ∷ text others g.trees)
      first_wrote = subst (λ (ps : List Piece). Wrote before all out s.pen (text ps g.trees)) lexeme_first g.wrote

      first_whole : AllWhole (lexeme_in material next_piece ∷ text others g.trees)
      first_whole = subst (λ (ps : List Piece). AllWhole (text ps g.trees)) lexeme_first g.whole

      pub lexeme_ready : (Room (length out) s.pen (lexeme_in material next_piece)) × (Whole (lexeme_in material next_piece))
      lexeme_ready = (
        subst (λ (k : ℕ). Room k s.pen (lexeme_in material next_piece)) (sym (wrote_length first_wrote))
            (wrote_room (lexeme_in material next_piece) (text others g.trees) first_wrote (whole_coded (lexeme_in material next_piece) first_whole.0)),
        first_whole.0,
      )

      pub lexeme_kept : (now : List ℕ) (p : Pen) → now ≡ inked out s.pen (lexeme_in material next_piece) → p ≡ penned s.pen (lexeme_in material next_piece)
          → GoingOn segwit nodes keys material before all work now (state (s.work - 1) s.left p) × (to_write others s.left < to_write (pieces_in material work s.work) s.left)
      lexeme_kept now p e f =
          let a : subtrees others ≡ many g.trees = ap subtrees (sym lexeme_first) ∙ g.asked in
          let moved : Wrote before all (inked out s.pen (lexeme_in material next_piece)) (penned s.pen (lexeme_in material next_piece)) (text others g.trees) =
          wrote_more (lexeme_in material next_piece) (text others g.trees) first_wrote in
          let here : Wrote before all now p (text others g.trees) =
          subst (λ (x : List ℕ). Wrote before all x p (text others g.trees)) (sym e)
          (subst (λ (x : Pen). Wrote before all (inked out s.pen (lexeme_in material next_piece)) x (text others g.trees)) (sym f) moved) in
          let stood : length (newest (node_at nodes) s.left) ≡ sizes g.trees = stands_length segwit material keys g.stands in (
            record {
              trees = g.trees;
              stands = g.stands;
              asked = a;
              wrote = here;
              whole = first_whole.1;
              room = omega (arith, g.room);
              enough = g.enough;
              inside = g.inside;
            },
            omega (arith, newest_length (node_at nodes) s.left, many_sizes g.trees, newest_length (λ i. piece_of material (get_or work i 0)) s.work, newest_length (λ i. piece_of material (get_or work i 0)) (s.work - 1), ap subtrees lexeme_first),
          )

    pub left_inside : 1 ≤ s.left → 9 * (s.left - 1) + 8 < length nodes
    left_inside h = omega (arith, g.inside, div-add-mod' (length nodes) 9)

  -- Taking a node

  module _ {before all work out : List ℕ} {s : State} (g : GoingOn segwit nodes keys material before all work out s) (some_work : 1 ≤ s.work) (o : Opened before all work out s) where
    abbrev node : Node
    node = node_at nodes (s.left - 1)

    abbrev under : List Piece
    under = pieces_in material work (s.work - 1)

    makes_of : o.ts ≡ ◌⊕◌ (children o.t) o.us
    makes_of = made_of segwit material keys node o.ts o.us o.t o.passed.makes

    -- pieces entered
    pub pieces_room : (pieces : ℕ) → pieces ≤ 7 + 2 * many (children o.t) → s.work - 1 + pieces ≤ length work
    pieces_room pieces h = omega (arith, o.room, g.enough, size_of_children o.t, many_sizes (children o.t), many_sizes o.us)

    pub pieces_kept : (now : List ℕ) (pieces : ℕ) → length now ≡ length work → Says (pieces_in material now (s.work - 1 + pieces)) under pieces o.ts o.t o.us
        → GoingOn segwit nodes keys material before all now out (state (s.work - 1 + pieces) (s.left - 1) s.pen)
        × (to_write (pieces_in material now (s.work - 1 + pieces)) (s.left - 1) < to_write (pieces_in material work s.work) s.left)
    pieces_kept now pieces k says =
        let m : many o.ts ≡ many (children o.t) + many o.us = ap many makes_of ∙ many_append (children o.t) o.us in
        let z : sizes o.ts ≡ sizes (children o.t) + sizes o.us = ap sizes makes_of ∙ sizes_append (children o.t) o.us in
        let stood : length (newest (node_at nodes) (s.left - 1)) ≡ sizes o.ts = stands_length segwit material keys o.stands in (
          record {
            trees = o.ts;
            stands = o.stands;
            asked = says.same_many ∙ omega (arith, o.asked);
            wrote = subst (λ (l : List Lexeme). Wrote before all out s.pen l) (sym says.same_text) o.wrote;
            whole = subst AllWhole (sym says.same_text) o.whole;
            room = omega (arith, o.room, size_of_children o.t, says.few);
            enough = omega (arith, g.enough);
            inside = omega (arith, g.inside);
          },
          omega (arith, says.few, says.same_many, o.asked, o.some_left, newest_length (node_at nodes) (s.left - 1), many_sizes o.us, many_sizes (children o.t), newest_length (λ i. piece_of material (get_or work i 0)) s.work, newest_length (λ i. piece_of material (get_or now i 0)) (s.work - 1 + pieces), ap subtrees o.pieces_are),
        )

    -- written at once
    module _ (script : List Lexeme) (l : Leafs script o.ts o.t o.us) where
      script_wrote : Wrote before all out s.pen (script ++ text under o.us)
      script_wrote = subst (λ (x : List Lexeme). Wrote before all out s.pen x) (sym (l.same_script (text under o.us))) o.wrote

      script_whole : AllWhole (script ++ text under o.us)
      script_whole = subst AllWhole (sym (l.same_script (text under o.us))) o.whole

      several : RoomForAll (length before) s.pen script × Wrote before all (inked_all out s.pen script) (penned_all s.pen script) (text under o.us)
      several = wrote_several script (text under o.us) script_wrote (all_coded script (whole_front script (text under o.us) script_whole).0)

      pub script_ready : Ready (length out) s.pen script
      script_ready =
          record {
            room = subst (λ (k : ℕ). RoomForAll k s.pen script) (sym (wrote_length o.wrote)) several.0;
            whole = (whole_front script (text under o.us) script_whole).0;
          }

      pub script_kept : (now : List ℕ) (p : Pen) → now ≡ inked_all out s.pen script → p ≡ penned_all s.pen script
          → GoingOn segwit nodes keys material before all work now (state (s.work - 1) (s.left - 1) p) × (to_write under (s.left - 1) < to_write (pieces_in material work s.work) s.left)
      script_kept now p e f =
          let stood : length (newest (node_at nodes) (s.left - 1)) ≡ sizes o.ts = stands_length segwit material keys o.stands in
          let same : sizes o.ts ≡ sizes o.us = ap sizes (sym l.untouched) in
          let here : Wrote before all now p (text under o.us) =
          subst (λ (x : List ℕ). Wrote before all x p (text under o.us)) (sym e)
          (subst (λ (x : Pen). Wrote before all (inked_all out s.pen script) x (text under o.us)) (sym f) several.1) in (
            record {
              trees = o.us;
              stands = subst (λ (x : Trees). Stands segwit material keys (newest (node_at nodes) (s.left - 1)) x) (sym l.untouched) o.stands;
              asked = o.asked;
              wrote = here;
              whole = (whole_front script (text under o.us) script_whole).1;
              room = omega (arith, o.room, size_of_children o.t);
              enough = g.enough;
              inside = omega (arith, g.inside);
            },
            omega (arith, o.asked, o.some_left, newest_length (node_at nodes) (s.left - 1), many_sizes o.us, newest_length (λ i. piece_of material (get_or work i 0)) s.work, newest_length (λ i. piece_of material (get_or work i 0)) (s.work - 1), ap subtrees o.pieces_are),
          )

-- the pieces in use lie within the table
pub work_inside : (segwit : Bool) (nodes keys material before all work out : List ℕ) (s : State) → GoingOn segwit nodes keys material before all work out s → s.work ≤ length work
work_inside segwit nodes keys material before all work out s g = omega (arith, g.room, g.enough, many_sizes g.trees)
