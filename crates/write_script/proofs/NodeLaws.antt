-- A node taken, by its kind, as the code does it: what each call needs, and that each answer keeps what holds. Assumes nothing.
use mathlib.Core.Path.{◌≡◌, refl, sym, ap, subst, ◌∙◌}
use mathlib.Core.Bool.{Bool, true, false, ◌&&◌}
use mathlib.Core.List.{List, [], ◌∷◌, reverse}
use mathlib.Core.Option.{some}
use Prim.Native.Nat.{ℕ, zero, suc, ◌+◌, ◌-◌, ◌*◌, ◌%◌, ◌≤◌, ◌<◌}
use native.Mathlib.Omega.{arith}
use lib.Dec.{leb, ltb}
use lib.ListN.{length, get_or, length-reverse}
use borrow.Author.Tests.{ltb-true}
use Rattle.tables.specs.Tables.{put_at}
use Rattle.tables.proofs.BoolLaws.{left_true, right_true}
use Rattle.tables.proofs.PutLaws.{put_length}
use Rattle.standard.specs.Tree.{Hash, sha256, hash256, ripemd160, hash160, Wrapper, alt, swap, check, dupIf, verify, nonZero, zeroNotEqual, Combination, and_v, and_b, or_b, or_d, or_c, or_i, ◌⊳◌}
use Rattle.standard.specs.Table.{Node, Terminal, noTerminal, isTrue, isFalse, isPkK, isRawPkH, isAfter, isOlder, is_hash, is_wrapper, is_combination, isAndOr, isThresh, isMulti, isMultiA, terminal_of, node_at, add_terminal}
use Rattle.encoding.specs.Form.{shape, shape_of, formed_as, well_formed}
use Rattle.encoding.specs.FormLaws.{keys_range}
use Rattle.emit.specs.declared.Pen.{Pen}
use Rattle.emit.specs.Emission.{inked_all, penned_all}
use Rattle.pieces.specs.Pieces.{Piece, entries, pieces_in, tags_of, add_tags, thresh_tags, SUBTREE}
use Rattle.pieces.proofs.EntryLaws.{AllTags, entered, thresh_length}
use Rattle.emit_multi.specs.Multis.{multi_script, multi_a_script, Ready}
use Rattle.write_script.specs.declared.State.{State}
use Rattle.write_script.specs.Text.{to_write}
use Rattle.write_script.specs.Pass.{state, GoingOn}
use Rattle.write_script.proofs.TextLaws as says
use Rattle.write_script.proofs.TextLaws.{Says, Leafs, template_says, thresh_says, thresh_counts, multi_says, multi_a_counts, multi_a_says, templated}
use Rattle.write_script.proofs.StepLaws.{Opened, opened, pieces_room, pieces_kept, script_ready, script_kept, left_inside}

-- Tags are small

abbrev small_tags : List ℕ → Bool
small_tags [] = true
small_tags (t ∷ ts) = ltb t 64 && small_tags ts

small_tags_lem : (ts : List ℕ) → small_tags ts ≡ true → AllTags ts
small_tags_lem [] h = tt
small_tags_lem (t ∷ ts) h = (ltb-true t 64 (left_true (ltb t 64) (small_tags ts) h), small_tags_lem ts (right_true (ltb t 64) (small_tags ts) h))

key_small : (segwit : Bool) → small_tags (reverse (tags_of segwit isPkK)) ≡ true
key_small true = refl
key_small false = refl

hash_small : (segwit : Bool) (h : Hash) → small_tags (reverse (tags_of segwit (is_hash h))) ≡ true
hash_small segwit sha256 = refl
hash_small segwit hash256 = refl
hash_small segwit ripemd160 = refl
hash_small segwit hash160 = refl

wrapper_small : (segwit : Bool) (w : Wrapper) → small_tags (reverse (tags_of segwit (is_wrapper w))) ≡ true
wrapper_small segwit alt = refl
wrapper_small segwit swap = refl
wrapper_small segwit check = refl
wrapper_small segwit dupIf = refl
wrapper_small segwit verify = refl
wrapper_small segwit nonZero = refl
wrapper_small segwit zeroNotEqual = refl

combination_small : (segwit : Bool) (c : Combination) → small_tags (reverse (tags_of segwit (is_combination c))) ≡ true
combination_small segwit and_v = refl
combination_small segwit and_b = refl
combination_small segwit or_b = refl
combination_small segwit or_d = refl
combination_small segwit or_c = refl
combination_small segwit or_i = refl

template_small : (segwit : Bool) (k : Terminal) → small_tags (reverse (tags_of segwit k)) ≡ true
template_small segwit noTerminal = refl
template_small segwit isTrue = refl
template_small segwit isFalse = refl
template_small segwit isPkK = key_small segwit
template_small segwit isRawPkH = refl
template_small segwit isAfter = refl
template_small segwit isOlder = refl
template_small segwit (is_hash h) = hash_small segwit h
template_small segwit (is_wrapper w) = wrapper_small segwit w
template_small segwit (is_combination c) = combination_small segwit c
template_small segwit isAndOr = refl
template_small segwit isThresh = refl
template_small segwit isMulti = refl
template_small segwit isMultiA = refl

added_small : (m : ℕ) → AllTags (add_tags m (SUBTREE ∷ []))
added_small zero = (omega arith, tt)
added_small (suc m) = (omega arith, (omega arith, added_small m))

thresh_small : (m : ℕ) → AllTags (thresh_tags m)
thresh_small m = (omega arith, (omega arith, added_small m))

-- Kinds

kind_thresh : {kind : ℕ} → kind ≡ 26 → terminal_of kind ≡ isThresh
unfolding terminal_of
kind_thresh e = ap terminal_of e

kind_multi : {kind : ℕ} → kind ≡ 27 → terminal_of kind ≡ isMulti
unfolding terminal_of
kind_multi e = ap terminal_of e

kind_multi_a : {kind : ℕ} → kind ≡ 28 → terminal_of kind ≡ isMultiA
unfolding terminal_of
kind_multi_a e = ap terminal_of e

module _ (segwit : Bool) (nodes keys material before all work out : List ℕ) (s : State) (g : GoingOn segwit nodes keys material before all work out s) (some_work : 1 ≤ s.work) (tag : get_or work (s.work - 1) 0 % 64 ≡ 33) where
  abbrev node : Node
  node = node_at nodes (s.left - 1)

  abbrev p₀ : Pen
  p₀ = s.pen

  o : Opened segwit nodes keys material before all work out s
  o = opened segwit nodes keys material g some_work tag

  pub some_node : (1 ≤ s.left) × (9 * (s.left - 1) + 8 < length nodes)
  some_node = (o.some_left, left_inside segwit nodes keys material g some_work o.some_left)

  abbrev Kept : List ℕ → List ℕ → State → Type 0
  Kept work' out' r = GoingOn segwit nodes keys material before all work' out' r × (to_write (pieces_in material work' r.work) r.left < to_write (pieces_in material work s.work) s.left)

  makes : (k : Terminal) → terminal_of node.kind ≡ k → add_terminal segwit material keys k node o.ts ≡ some (o.t ⊳ o.us)
  makes k e = subst (λ (x : Terminal). add_terminal segwit material keys x node o.ts ≡ some (o.t ⊳ o.us)) e o.passed.makes

  formed : (k : Terminal) → terminal_of node.kind ≡ k → formed_as (length material) keys (shape_of segwit k) node o.ts ≡ true
  unfolding well_formed
  formed k e = subst (λ (x : Terminal). formed_as (length material) keys (shape_of segwit x) node o.ts ≡ true) e o.passed.formed

  module _ (small_number : node.number < 4294967296) (small-place : node.place < 4294967296) where
    entered_kept : (tags : List ℕ) → AllTags tags → (pieces : ℕ) → length tags ≡ pieces → Says (says.entered material node tags (pieces_in material work (s.work - 1))) (pieces_in material work (s.work - 1)) pieces o.ts o.t o.us
        → (now : List ℕ) → now ≡ put_at work (s.work - 1) (entries node.number node.place tags) → (n : ℕ) → n ≡ s.work - 1 + pieces → Kept now out (state n (s.left - 1) p₀)
    entered_kept tags small pieces l h now e n f =
        let room : s.work - 1 + length tags ≤ length work = omega (arith, pieces_room segwit nodes keys material g some_work o pieces h.few) in
        let same : pieces_in material now (s.work - 1 + pieces) ≡ says.entered material node tags (pieces_in material work (s.work - 1)) =
        ap (λ (t : List ℕ). pieces_in material t (s.work - 1 + pieces)) e
        ∙ ap (λ (k : ℕ). pieces_in material (put_at work (s.work - 1) (entries node.number node.place tags)) (s.work - 1 + k)) (sym l)
        ∙ entered material work (s.work - 1) node.number node.place small_number small-place tags room small in
        let kept = pieces_kept segwit nodes keys material g some_work o now pieces (ap length e ∙ put_length work (s.work - 1) (entries node.number node.place tags))
        (subst (λ (ps : List Piece). Says ps (pieces_in material work (s.work - 1)) pieces o.ts o.t o.us) (sym same) h) in
        subst (λ (k : ℕ). Kept now out (state k (s.left - 1) p₀)) (sym f) kept

    -- a template
    module _ (a : node.kind ≡ 26 → ⊥) (b : node.kind ≡ 27 → ⊥) (c : node.kind ≡ 28 → ⊥) (r : List ℕ) (e : r ≡ tags_of segwit (terminal_of node.kind)) where
      template_said : Says (says.entered material node (reverse (tags_of segwit (terminal_of node.kind))) (pieces_in material work (s.work - 1))) (pieces_in material work (s.work - 1)) (length (tags_of segwit (terminal_of node.kind))) o.ts o.t o.us
      template_said = template_says segwit material keys node (pieces_in material work (s.work - 1)) (terminal_of node.kind) o.ts o.us o.t (templated node.kind a b c) o.passed.makes

      pub template_fits : s.work - 1 + length r ≤ length work
      template_fits = omega (arith, ap length e, pieces_room segwit nodes keys material g some_work o (length (tags_of segwit (terminal_of node.kind))) template_said.few)

      pub template_kept : (now : List ℕ) → now ≡ put_at work (s.work - 1) (entries node.number node.place (reverse r)) → (n : ℕ) → n ≡ s.work - 1 + length r → Kept now out (state n (s.left - 1) p₀)
      template_kept now f n k =
          entered_kept (reverse (tags_of segwit (terminal_of node.kind))) (small_tags_lem (reverse (tags_of segwit (terminal_of node.kind))) (template_small segwit (terminal_of node.kind)))
          (length (tags_of segwit (terminal_of node.kind))) (length-reverse (tags_of segwit (terminal_of node.kind))) template_said
          now (f ∙ ap (λ (ts : List ℕ). put_at work (s.work - 1) (entries node.number node.place (reverse ts))) e) n (k ∙ ap (λ (ts : List ℕ). s.work - 1 + length ts) e)

    -- a thresh
    module _ (e : node.kind ≡ 26) (count : ℕ) (c : count ≡ node.count) where
      pub thresh_some : 1 ≤ count
      thresh_some = omega (arith, thresh_counts segwit material keys node (pieces_in material work (s.work - 1)) o.ts o.us o.t (makes isThresh (kind_thresh e)))

      thresh_said : Says (says.entered material node (thresh_tags (count - 1)) (pieces_in material work (s.work - 1))) (pieces_in material work (s.work - 1)) (2 * (count - 1) + 3) o.ts o.t o.us
      thresh_said =
          subst (λ (k : ℕ). Says (says.entered material node (thresh_tags (k - 1)) (pieces_in material work (s.work - 1))) (pieces_in material work (s.work - 1)) (2 * (k - 1) + 3) o.ts o.t o.us) (sym c)
          (thresh_says segwit material keys node (pieces_in material work (s.work - 1)) o.ts o.us o.t (makes isThresh (kind_thresh e)))

      pub thresh_fits : s.work - 1 + 2 * (count - 1) + 3 ≤ length work
      thresh_fits = omega (arith, pieces_room segwit nodes keys material g some_work o (2 * (count - 1) + 3) thresh_said.few)

      pub thresh_kept : (now : List ℕ) → now ≡ put_at work (s.work - 1) (entries node.number node.place (thresh_tags (count - 1))) → (n : ℕ) → n ≡ s.work - 1 + 2 * (count - 1) + 3 → Kept now out (state n (s.left - 1) p₀)
      thresh_kept now f n k = entered_kept (thresh_tags (count - 1)) (thresh_small (count - 1)) (2 * (count - 1) + 3) (thresh_length (count - 1)) thresh_said now f n (omega (arith, k))

  -- the keys that it names stand in the key table
  keys_inside : (bytes : ℕ) → leb 1 bytes ≡ true → formed_as (length material) keys (some (shape true false 0 bytes 0)) node o.ts ≡ true → node.place + node.count ≤ length keys
  keys_inside bytes some_bytes f = (keys_range (length material) keys bytes node o.ts some_bytes f).0

  -- a multi
  module _ (e : node.kind ≡ 27) (place count : ℕ) (b : place ≡ node.place) (c : count ≡ node.count) where
    multi_said : Leafs (multi_script keys material node.number count place) o.ts o.t o.us
    multi_said =
        subst (λ (k : ℕ). Leafs (multi_script keys material node.number k place) o.ts o.t o.us) (sym c)
        (subst (λ (k : ℕ). Leafs (multi_script keys material node.number node.count k) o.ts o.t o.us) (sym b)
        (multi_says segwit material keys node (keys_inside 33 refl (formed isMulti (kind_multi e))) o.ts o.us o.t (makes isMulti (kind_multi e))))

    pub multi_ready : (count ≤ 4294967295) → (place + count ≤ length keys) × (count ≤ 4294967295) × (Ready (length out) p₀ (multi_script keys material node.number count place))
    multi_ready h = (omega (arith, keys_inside 33 refl (formed isMulti (kind_multi e))), h, script_ready segwit nodes keys material g some_work o (multi_script keys material node.number count place) multi_said)

    pub multi_kept : (now : List ℕ) (p : Pen) → (now ≡ inked_all out p₀ (multi_script keys material node.number count place)) × (p ≡ penned_all p₀ (multi_script keys material node.number count place))
        → Kept work now (state (s.work - 1) (s.left - 1) p)
    multi_kept now p h = script_kept segwit nodes keys material g some_work o (multi_script keys material node.number count place) multi_said now p h.0 h.1

  -- a multi_a
  module _ (e : node.kind ≡ 28) (place count : ℕ) (b : place ≡ node.place) (c : count ≡ node.count) where
    pub multi_a_some : 1 ≤ count
    multi_a_some = omega (arith, multi_a_counts segwit material keys node (keys_inside 32 refl (formed isMultiA (kind_multi_a e))) o.ts o.us o.t (makes isMultiA (kind_multi_a e)))

    multi_a_said : Leafs (multi_a_script keys material node.number (count - 1) place) o.ts o.t o.us
    multi_a_said =
        subst (λ (k : ℕ). Leafs (multi_a_script keys material node.number (k - 1) place) o.ts o.t o.us) (sym c)
        (subst (λ (k : ℕ). Leafs (multi_a_script keys material node.number (node.count - 1) k) o.ts o.t o.us) (sym b)
        (multi_a_says segwit material keys node (keys_inside 32 refl (formed isMultiA (kind_multi_a e))) o.ts o.us o.t (makes isMultiA (kind_multi_a e))))

    pub multi_a_ready : (place + 1 + (count - 1) ≤ length keys) × (Ready (length out) p₀ (multi_a_script keys material node.number (count - 1) place))
    multi_a_ready = (omega (arith, keys_inside 32 refl (formed isMultiA (kind_multi_a e)), multi_a_some), script_ready segwit nodes keys material g some_work o (multi_a_script keys material node.number (count - 1) place) multi_a_said)

    pub multi_a_kept : (now : List ℕ) (p : Pen) → (now ≡ inked_all out p₀ (multi_a_script keys material node.number (count - 1) place)) × (p ≡ penned_all p₀ (multi_a_script keys material node.number (count - 1) place))
        → Kept work now (state (s.work - 1) (s.left - 1) p)
    multi_a_kept now p h = script_kept segwit nodes keys material g some_work o (multi_a_script keys material node.number (count - 1) place) multi_a_said now p h.0 h.1
