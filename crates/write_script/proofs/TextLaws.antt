-- A node's pieces over its children say what the node's tree says: the lexemes, how many subtrees, and how many pieces. Assumes nothing.
use mathlib.Core.Path.{◌≡◌, refl, sym, ap, subst, ◌∙◌}
use mathlib.Core.Bool.{Bool, true, false}
use mathlib.Core.List.{List, [], ◌∷◌, ◌++◌, map, reverse, reverse_aux, append_assoc}
use mathlib.Core.Option.{Option, none, some}
use Prim.Native.Nat.{ℕ, zero, suc, ◌+◌, ◌-◌, ◌*◌, ◌≤◌}
use native.Mathlib.Omega.{arith}
use lib.Dec.{eqb}
use lib.ListN.{length, get_or, take, drop, length-drop}
use lib.Seq.{length-take-le}
use borrow.Author.Tests.{eqb-true}
use mathlib.Core.Logic.{◌⊎◌, inl, inr, ⊎_elim}
use Rattle.tables.specs.Choose.{pick, look}
use Rattle.lex.specs.Token.{ADD, EQUAL, CHECKMULTISIG, NUMEQUAL, CHECKSIG, CHECKSIGADD, BYTES32, Lexeme, op, num, push, Data, data_at, data_length}
use Rattle.standard.specs.Tree.{Key, Hash, sha256, hash256, ripemd160, hash160, Wrapper, alt, swap, check, dupIf, verify, nonZero, zeroNotEqual, Combination, and_v, and_b, or_b, or_d, or_c, or_i, Tree, Trees, thresh, nil, ◌⊳◌, ◌⊕◌, many}
use Rattle.standard.specs.Written.{key_push, tree_before, added_trees_before, keys_before, added_keys_before}
use Rattle.standard.specs.Table.{Node, Terminal, noTerminal, isTrue, isFalse, isPkK, isRawPkH, isAfter, isOlder, is_hash, is_wrapper, is_combination, isAndOr, isThresh, isMulti, isMultiA, terminals, terminal_of, take_trees, keys_at, datas_at, multi_a_of, thresh_top, add_terminal}
use Rattle.standard.proofs.TableLaws.{keys_at_length}
use Rattle.forest.specs.Forest.{children}
use Rattle.pieces.specs.Pieces.{Piece, subtree, writes, SUBTREE, constant, tags_of, add_tags, thresh_tags}
use Rattle.pieces.proofs.EntryLaws.{piece_with}
use Rattle.emit_multi.specs.Multis.{multi_keys, added_keys, multi_script, multi_a_script}
use Rattle.emit_multi.proofs.KeyLaws.{next_entry}
use Rattle.write_script.specs.Text.{text, subtrees}

-- The pieces entered, the last one first

abbrev pub entered : List ℕ → Node → List ℕ → List Piece → List Piece
entered material n tags rest = reverse_aux (map (piece_with material n.number n.place) tags) rest

-- what entering such pieces over the trees ts says of the tree t and the trees us
pub record Says (ps rest : List Piece) (pieces : ℕ) (ts : Trees) (t : Tree) (us : Trees) : Type 0 where
  pub same_text : text ps ts ≡ tree_before t (text rest us)
  pub same_many : subtrees ps ≡ many (children t) + subtrees rest
  pub few : pieces ≤ 7 + 2 * many (children t)

abbrev SaysOf : List Piece → List Piece → ℕ → Trees → Option Trees → Type 0
SaysOf ps rest pieces ts none = Unit {0}
SaysOf ps rest pieces ts (some nil) = Unit {0}
SaysOf ps rest pieces ts (some (t ⊳ us)) = Says ps rest pieces ts t us

-- a kind whose pieces a template has
abbrev pub Templated : Terminal → Type 0
Templated noTerminal = Unit {0}
Templated isTrue = Unit {0}
Templated isFalse = Unit {0}
Templated isPkK = Unit {0}
Templated isRawPkH = Unit {0}
Templated isAfter = Unit {0}
Templated isOlder = Unit {0}
Templated (is_hash h) = Unit {0}
Templated (is_wrapper w) = Unit {0}
Templated (is_combination c) = Unit {0}
Templated isAndOr = Unit {0}
Templated isThresh = ⊥
Templated isMulti = ⊥
Templated isMultiA = ⊥

module _ (segwit : Bool) (material keys : List ℕ) (n : Node) (rest : List Piece) where
  abbrev template : Terminal → List Piece
  template k = entered material n (reverse (tags_of segwit k)) rest

  abbrev Made : Terminal → Trees → Type 0
  Made k ts = SaysOf (template k) rest (length (tags_of segwit k)) ts (add_terminal segwit material keys k n ts)

  key_says : (b : Bool) (ts : Trees) → SaysOf (entered material n (reverse (tags_of b isPkK)) rest) rest 1 ts (add_terminal b material keys isPkK n ts)
  unfolding data_length
  key_says true ts = record { same_text = refl; same_many = omega arith; few = omega arith }
  key_says false ts = record { same_text = refl; same_many = omega arith; few = omega arith }

  hash_says : (h : Hash) (ts : Trees) → Made (is_hash h) ts
  unfolding data_length constant
  hash_says sha256 ts = record { same_text = refl; same_many = omega arith; few = omega arith }
  hash_says hash256 ts = record { same_text = refl; same_many = omega arith; few = omega arith }
  hash_says ripemd160 ts = record { same_text = refl; same_many = omega arith; few = omega arith }
  hash_says hash160 ts = record { same_text = refl; same_many = omega arith; few = omega arith }

  wrapper_says : (w : Wrapper) (ts : Trees) → Made (is_wrapper w) ts
  wrapper_says w nil = tt
  wrapper_says alt (x ⊳ ts) = record { same_text = refl; same_many = omega arith; few = omega arith }
  wrapper_says swap (x ⊳ ts) = record { same_text = refl; same_many = omega arith; few = omega arith }
  wrapper_says check (x ⊳ ts) = record { same_text = refl; same_many = omega arith; few = omega arith }
  wrapper_says dupIf (x ⊳ ts) = record { same_text = refl; same_many = omega arith; few = omega arith }
  wrapper_says verify (x ⊳ ts) = record { same_text = refl; same_many = omega arith; few = omega arith }
  wrapper_says nonZero (x ⊳ ts) = record { same_text = refl; same_many = omega arith; few = omega arith }
  wrapper_says zeroNotEqual (x ⊳ ts) = record { same_text = refl; same_many = omega arith; few = omega arith }

  combination_says : (c : Combination) (ts : Trees) → Made (is_combination c) ts
  combination_says c nil = tt
  combination_says c (x ⊳ nil) = tt
  combination_says and_v (x ⊳ (y ⊳ ts)) = record { same_text = refl; same_many = omega arith; few = omega arith }
  combination_says and_b (x ⊳ (y ⊳ ts)) = record { same_text = refl; same_many = omega arith; few = omega arith }
  combination_says or_b (x ⊳ (y ⊳ ts)) = record { same_text = refl; same_many = omega arith; few = omega arith }
  combination_says or_d (x ⊳ (y ⊳ ts)) = record { same_text = refl; same_many = omega arith; few = omega arith }
  combination_says or_c (x ⊳ (y ⊳ ts)) = record { same_text = refl; same_many = omega arith; few = omega arith }
  combination_says or_i (x ⊳ (y ⊳ ts)) = record { same_text = refl; same_many = omega arith; few = omega arith }

  and_or_says : (ts : Trees) → Made isAndOr ts
  and_or_says nil = tt
  and_or_says (x ⊳ nil) = tt
  and_or_says (x ⊳ (z ⊳ nil)) = tt
  and_or_says (x ⊳ (z ⊳ (y ⊳ ts))) = record { same_text = refl; same_many = omega arith; few = omega arith }

  terminal_says : (k : Terminal) (ts : Trees) → Templated k → Made k ts
  unfolding data_length constant
  terminal_says noTerminal ts h = tt
  terminal_says isTrue ts h = record { same_text = refl; same_many = omega arith; few = omega arith }
  terminal_says isFalse ts h = record { same_text = refl; same_many = omega arith; few = omega arith }
  terminal_says isPkK ts h = key_says segwit ts
  terminal_says isRawPkH ts h = record { same_text = refl; same_many = omega arith; few = omega arith }
  terminal_says isAfter ts h = record { same_text = refl; same_many = omega arith; few = omega arith }
  terminal_says isOlder ts h = record { same_text = refl; same_many = omega arith; few = omega arith }
  terminal_says (is_hash x) ts h = hash_says x ts
  terminal_says (is_wrapper w) ts h = wrapper_says w ts
  terminal_says (is_combination c) ts h = combination_says c ts
  terminal_says isAndOr ts h = and_or_says ts
  terminal_says isThresh ts h = absurd h
  terminal_says isMulti ts h = absurd h
  terminal_says isMultiA ts h = absurd h

  -- THEOREM: a node's template
  pub template_says : (k : Terminal) (ts us : Trees) (t : Tree) → Templated k → add_terminal segwit material keys k n ts ≡ some (t ⊳ us)
      → Says (template k) rest (length (tags_of segwit k)) ts t us
  template_says k ts us t h e = subst (SaysOf (template k) rest (length (tags_of segwit k)) ts) e (terminal_says k ts h)

  -- A thresh

  -- the pieces of the children behind the first
  abbrev behind : ℕ → List Piece → List Piece
  behind zero ps = ps
  behind (suc m) ps = subtree ∷ writes (op ADD) ∷ behind m ps

  behind_more : (m : ℕ) (ps : List Piece) → behind m (subtree ∷ writes (op ADD) ∷ ps) ≡ behind (suc m) ps
  behind_more zero ps = refl
  behind_more (suc m) ps = ap (λ (l : List Piece). subtree ∷ writes (op ADD) ∷ l) (behind_more m ps)

  added_behind : (m : ℕ) (ps : List Piece) → entered material n (add_tags m (SUBTREE ∷ [])) ps ≡ subtree ∷ behind m ps
  added_behind zero ps = refl
  added_behind (suc m) ps = added_behind m (subtree ∷ writes (op ADD) ∷ ps) ∙ ap (λ (l : List Piece). subtree ∷ l) (behind_more m ps)

  behind_many : (m : ℕ) (ps : List Piece) → subtrees (behind m ps) ≡ m + subtrees ps
  behind_many zero ps = omega arith
  behind_many (suc m) ps = omega (arith, behind_many m ps)

  closing : List Piece
  closing = writes (num n.number) ∷ writes (op EQUAL) ∷ rest

  behind_text : (xs us : Trees) (ps : List Piece) → text (behind (many xs) ps) (◌⊕◌ xs us) ≡ added_trees_before xs (text ps us)
  behind_text nil us ps = refl
  behind_text (x ⊳ xs) us ps = ap (λ (l : List Lexeme). tree_before x (op ADD ∷ l)) (behind_text xs us ps)

  thresh_pieces : (m : ℕ) → entered material n (thresh_tags m) rest ≡ subtree ∷ behind m closing
  unfolding closing
  thresh_pieces m = added_behind m (writes (num n.number) ∷ writes (op EQUAL) ∷ rest)

  abbrev Thresh : ℕ → Trees → Option Trees → Type 0
  Thresh m ts none = Unit {0}
  Thresh m ts (some nil) = Unit {0}
  Thresh m ts (some (t ⊳ us)) = (text (subtree ∷ behind m closing) ts ≡ tree_before t (text rest us)) × (many (children t) ≡ suc m)

  taken_thresh : (m j : ℕ) (x : Tree) (ts all : Trees) (next : Trees → Trees → Option Trees)
      → ((taken others : Trees) → ts ≡ ◌⊕◌ taken others → many taken ≡ m → Thresh j all (next taken others)) → Thresh j all (take_trees m ts none next)
  taken_thresh zero j x ts all next h = h nil ts refl refl
  taken_thresh (suc m) j x nil all next h = tt
  taken_thresh (suc m) j x (t ⊳ ts) all next h =
      taken_thresh m j x ts all (λ taken others. next (t ⊳ taken) others) (λ taken others e f. h (t ⊳ taken) others (ap (λ (l : Trees). t ⊳ l) e) (ap suc f))

  thresh_of : (count : ℕ) (ts : Trees) → Thresh (count - 1) ts (thresh_top n.number count ts)
  unfolding closing
  thresh_of count nil = tt
  thresh_of zero (x ⊳ ts) = tt
  thresh_of (suc m) (x ⊳ ts) =
      let z : suc m - 1 ≡ m = omega arith in
      subst (λ (j : ℕ). Thresh j (x ⊳ ts) (thresh_top n.number (suc m) (x ⊳ ts))) (sym z)
      (taken_thresh m m x ts (x ⊳ ts) (λ xs others. some (thresh n.number x xs ⊳ others))
      (λ taken others e f. (
        ap (λ (l : Trees). tree_before x (text (behind m (writes (num n.number) ∷ writes (op EQUAL) ∷ rest)) l)) e
            ∙ ap (λ (j : ℕ). tree_before x (text (behind j (writes (num n.number) ∷ writes (op EQUAL) ∷ rest)) (◌⊕◌ taken others))) (sym f)
            ∙ ap (tree_before x) (behind_text taken others (writes (num n.number) ∷ writes (op EQUAL) ∷ rest)),
        ap suc f,
      )))

  -- THEOREM: a thresh's pieces
  pub thresh_says : (ts us : Trees) (t : Tree) → add_terminal segwit material keys isThresh n ts ≡ some (t ⊳ us)
      → Says (entered material n (thresh_tags (n.count - 1)) rest) rest (2 * (n.count - 1) + 3) ts t us
  unfolding closing
  thresh_says ts us t e =
      let h = subst (Thresh (n.count - 1) ts) e (thresh_of n.count ts) in
      let m : many (children t) ≡ suc (n.count - 1) = h.1 in
      record {
        same_text = ap (λ (l : List Piece). text l ts) (thresh_pieces (n.count - 1)) ∙ h.0;
        same_many = ap subtrees (thresh_pieces (n.count - 1)) ∙ omega (arith, behind_many (n.count - 1) (writes (num n.number) ∷ writes (op EQUAL) ∷ rest));
        few = omega arith;
      }

  pub thresh_counts : (ts us : Trees) (t : Tree) → add_terminal segwit material keys isThresh n ts ≡ some (t ⊳ us) → 1 ≤ n.count
  thresh_counts ts us t e = by n.count ts e
    where
      by : (count : ℕ) (ts : Trees) → thresh_top n.number count ts ≡ some (t ⊳ us) → 1 ≤ count
      by zero nil f = let z : ◌≡◌ {A = ℕ} 0 1 = cc in let no : ⊥ = omega arith in absurd no
      by zero (x ⊳ ts) f = let z : ◌≡◌ {A = ℕ} 0 1 = cc in let no : ⊥ = omega arith in absurd no
      by (suc m) ts f = omega arith

-- A multi and a multi_a, which are written at once

added_append : (ds : List Data) (ys : List Lexeme) → added_keys_before ds [] ++ ys ≡ added_keys_before ds ys
added_append [] ys = refl
added_append (d ∷ ds) ys = ap (λ (l : List Lexeme). push BYTES32 d ∷ op CHECKSIGADD ∷ l) (added_append ds ys)

keys_append : (ks : List Key) (ys : List Lexeme) → keys_before ks [] ++ ys ≡ keys_before ks ys
keys_append [] ys = refl
keys_append (k ∷ ks) ys = ap (λ (l : List Lexeme). key_push k ∷ l) (keys_append ks ys)

-- the tree has no child, and the trees under it are untouched
pub record Leafs (script : List Lexeme) (ts : Trees) (t : Tree) (us : Trees) : Type 0 where
  pub same_script : (rest : List Lexeme) → script ++ rest ≡ tree_before t rest
  pub childless : many (children t) ≡ 0
  pub untouched : us ≡ ts

abbrev LeafsOf : List Lexeme → Trees → Option Trees → Type 0
LeafsOf script ts none = Unit {0}
LeafsOf script ts (some nil) = Unit {0}
LeafsOf script ts (some (t ⊳ us)) = Leafs script ts t us

module _ (segwit : Bool) (material keys : List ℕ) (n : Node) (inside : n.place + n.count ≤ length keys) where
  abbrev named : List ℕ
  named = take n.count (drop n.place keys)

  named_length : length named ≡ n.count
  named_length = length-take-le n.count (drop n.place keys) (omega (arith, length-drop n.place keys))

  -- THEOREM: a multi
  pub multi_says : (ts us : Trees) (t : Tree) → add_terminal segwit material keys isMulti n ts ≡ some (t ⊳ us) → Leafs (multi_script keys material n.number n.count n.place) ts t us
  multi_says ts us t e =
      let c : length (keys_at material named) ≡ n.count = keys_at_length material named ∙ named_length in
      subst (LeafsOf (multi_script keys material n.number n.count n.place) ts) e
      (record {
        same_script =
            λ rest.
            ap (λ (l : List Lexeme). num n.number ∷ l)
            (append_assoc (multi_keys keys material n.count n.place) (num n.count ∷ op CHECKMULTISIG ∷ []) rest
            ∙ keys_append (keys_at material named) (num n.count ∷ op CHECKMULTISIG ∷ rest)
            ∙ ap (λ (k : ℕ). keys_before (keys_at material named) (num k ∷ op CHECKMULTISIG ∷ rest)) (sym c));
        childless = refl;
        untouched = refl;
      })

  pub multi_a_counts : (ts us : Trees) (t : Tree) → add_terminal segwit material keys isMultiA n ts ≡ some (t ⊳ us) → 1 ≤ n.count
  multi_a_counts ts us t e = by n.count e
    where
      by : (count : ℕ) → multi_a_of n.number (datas_at material (take count (drop n.place keys))) ts ≡ some (t ⊳ us) → 1 ≤ count
      by zero f = let z : ◌≡◌ {A = ℕ} 0 1 = cc in let no : ⊥ = omega arith in absurd no
      by (suc m) f = omega arith

  first_named : 1 ≤ n.count → named ≡ get_or keys n.place 0 ∷ take (n.count - 1) (drop (n.place + 1) keys)
  first_named h =
      let c : n.count ≡ suc (n.count - 1) = omega arith in
      ap (λ (k : ℕ). take k (drop n.place keys)) c ∙ next_entry keys n.place (n.count - 1) (omega arith)

  -- THEOREM: a multi_a
  pub multi_a_says : (ts us : Trees) (t : Tree) → add_terminal segwit material keys isMultiA n ts ≡ some (t ⊳ us)
      → Leafs (multi_a_script keys material n.number (n.count - 1) n.place) ts t us
  multi_a_says ts us t e =
      let f : multi_a_of n.number (datas_at material (get_or keys n.place 0 ∷ take (n.count - 1) (drop (n.place + 1) keys))) ts ≡ some (t ⊳ us) =
      ap (λ (ps : List ℕ). multi_a_of n.number (datas_at material ps) ts) (sym (first_named (multi_a_counts ts us t e))) ∙ e in
      subst (LeafsOf (multi_a_script keys material n.number (n.count - 1) n.place) ts) f
      (record {
        same_script =
            λ rest.
            ap (λ (l : List Lexeme). push BYTES32 (data_at material (get_or keys n.place 0) 32) ∷ op CHECKSIG ∷ l)
            (append_assoc (added_keys keys material (n.count - 1) (n.place + 1)) (num n.number ∷ op NUMEQUAL ∷ []) rest
            ∙ added_append (datas_at material (take (n.count - 1) (drop (n.place + 1) keys))) (num n.number ∷ op NUMEQUAL ∷ rest));
        childless = refl;
        untouched = refl;
      })

-- Which kinds have a template

abbrev special : Terminal → ℕ
special noTerminal = 0
special isTrue = 0
special isFalse = 0
special isPkK = 0
special isRawPkH = 0
special isAfter = 0
special isOlder = 0
special (is_hash h) = 0
special (is_wrapper w) = 0
special (is_combination c) = 0
special isAndOr = 0
special isThresh = 26
special isMulti = 27
special isMultiA = 28

plain_templated : (k : Terminal) → special k ≡ 0 → Templated k
plain_templated noTerminal h = tt
plain_templated isTrue h = tt
plain_templated isFalse h = tt
plain_templated isPkK h = tt
plain_templated isRawPkH h = tt
plain_templated isAfter h = tt
plain_templated isOlder h = tt
plain_templated (is_hash x) h = tt
plain_templated (is_wrapper w) h = tt
plain_templated (is_combination c) h = tt
plain_templated isAndOr h = tt
plain_templated isThresh h = let no : ⊥ = omega arith in absurd no
plain_templated isMulti h = let no : ⊥ = omega arith in absurd no
plain_templated isMultiA h = let no : ⊥ = omega arith in absurd no

-- a row's kind is its own number where it has no template
abbrev OwnNumber : List (ℕ × Terminal) → Type 0
OwnNumber [] = Unit {0}
OwnNumber (row ∷ rows) = ((special row.1 ≡ 0) ⊎ (special row.1 ≡ row.0)) × OwnNumber rows

looked_special : (kind : ℕ) (rows : List (ℕ × Terminal)) → OwnNumber rows → (special (look kind rows noTerminal) ≡ 0) ⊎ (special (look kind rows noTerminal) ≡ kind)
looked_special kind [] h = inl refl
looked_special kind (row ∷ rows) h = by (eqb kind row.0) refl (looked_special kind rows h.1)
  where
    by : (b : Bool) → eqb kind row.0 ≡ b → (special (look kind rows noTerminal) ≡ 0) ⊎ (special (look kind rows noTerminal) ≡ kind)
        → (special (pick b row.1 (look kind rows noTerminal)) ≡ 0) ⊎ (special (pick b row.1 (look kind rows noTerminal)) ≡ kind)
    by true e others = ⊎_elim (λ z. inl z) (λ z. inr (z ∙ sym (eqb-true kind row.0 e))) h.0
    by false e others = others

small_special : (k : Terminal) → (special k ≡ 0) ⊎ ((26 ≤ special k) × (special k ≤ 28))
small_special noTerminal = inl refl
small_special isTrue = inl refl
small_special isFalse = inl refl
small_special isPkK = inl refl
small_special isRawPkH = inl refl
small_special isAfter = inl refl
small_special isOlder = inl refl
small_special (is_hash x) = inl refl
small_special (is_wrapper w) = inl refl
small_special (is_combination c) = inl refl
small_special isAndOr = inl refl
small_special isThresh = inr (omega arith, omega arith)
small_special isMulti = inr (omega arith, omega arith)
small_special isMultiA = inr (omega arith, omega arith)

infixr 40 ◌&◌
◌&◌ : {A B : Type 0} → A → B → A × B
◌&◌ a b = (a, b)

own_numbers : OwnNumber terminals
own_numbers =
    inl refl & inl refl & inl refl & inl refl & inl refl & inl refl & inl refl & inl refl & inl refl & inl refl & inl refl & inl refl & inl refl & inl refl & inl refl & inl refl & inl refl
    & inl refl & inl refl & inl refl & inl refl & inl refl & inl refl & inl refl & inr refl & inr refl & inr refl & tt

pub templated : (kind : ℕ) → (kind ≡ 26 → ⊥) → (kind ≡ 27 → ⊥) → (kind ≡ 28 → ⊥) → Templated (terminal_of kind)
unfolding terminal_of
templated kind a b c =
    plain_templated (look kind terminals noTerminal)
    (⊎_elim (λ z. z) (λ same. ⊎_elim (λ z. z) (λ r. let no : ⊥ = between kind a b c (omega arith) (omega arith) in absurd no) (small_special (look kind terminals noTerminal)))
    (looked_special kind terminals own_numbers))
  where
    between : (k : ℕ) → (k ≡ 26 → ⊥) → (k ≡ 27 → ⊥) → (k ≡ 28 → ⊥) → 26 ≤ k → k ≤ 28 → ⊥
    between k a b c l h = omega arith
