-- Places don't matter: a tree's type and allowed values are those of the bare tree (`bare_type`, `bare_allowed`), the same tree is written with the same bare lexemes (`same_tree_same_lexemes`), and lexemes that are a tree's but for their places are written by that tree with other places (`replaced`).
use Rattle.std.specs.Prelude.{◌≡◌, refl, Bool, true, false, List, [], ◌∷◌, ◌++◌, ℕ, suc, length}
use Rattle.std.proofs.Common.{sym, ap, ◌∙◌, arith}
use Rattle.lex.specs.Token.{Data, Lexeme, op, num, push}
use Rattle.lex.specs.Token.{ADD, EQUAL, NUMEQUAL, CHECKSIG, CHECKSIGADD, CHECKMULTISIG, CHECKSEQUENCEVERIFY, CHECKLOCKTIMEVERIFY, DUP, NOTIF, ELSE, ENDIF, SIZE, VERIFY, HASH160, HASH20, BYTES32}
use Rattle.standard.specs.Tree.{Key, key, Leaf, True, False, PkK, RawPkH, After, Older, HashLock, Multi, MultiA, Wrapper, alt, swap, check, dupIf, verify, nonZero, zeroNotEqual, Combination, and_v, and_b, or_b, or_d, or_c, or_i, Tree, Trees, leaf, wrap, join, and_or, thresh, nil, ◌⊳◌, many, bare_data, bare_datas, bare_key, bare_keys, bare_leaf, bare_tree, bare_trees, SameTree}
use Rattle.standard.specs.Written.{hash_opcode, hash_push, keys_before, added_keys_before, leaf_before, opening, closing, first, between, last, tree_before, added_trees_before, written}
use Rattle.standard.specs.Allowed.{key_form, multi_a_key, all_multi_keys, all_multi_a_keys, allowed_leaf, allowed, all_allowed}
use Rattle.standard.specs.Types.{typed_leaf, type_of, types_of}
use Rattle.standard.specs.Statements.{bares}

-- Types and values

bare_keys_length : (ks : List Key) → length (bare_keys ks) ≡ length ks
bare_keys_length [] = refl
bare_keys_length (k ∷ ks) = ap suc (bare_keys_length ks)

bare_datas_length : (ds : List Data) → length (bare_datas ds) ≡ length ds
bare_datas_length [] = refl
bare_datas_length (d ∷ ds) = ap suc (bare_datas_length ds)

bare_many : (ts : Trees) → many (bare_trees ts) ≡ many ts
bare_many nil = refl
bare_many (t ⊳ ts) = ap suc (bare_many ts)

bare_leaf_lem : (l : Leaf) → typed_leaf (bare_leaf l) ≡ typed_leaf l
bare_leaf_lem True = refl
bare_leaf_lem False = refl
bare_leaf_lem (PkK k) = refl
bare_leaf_lem (RawPkH d) = refl
bare_leaf_lem (After n) = refl
bare_leaf_lem (Older n) = refl
bare_leaf_lem (HashLock h d) = refl
bare_leaf_lem (Multi k ks) = refl
bare_leaf_lem (MultiA k d ds) = refl

module _ (segwit : Bool) where
  mutual
    pub bare_type : (t : Tree) → type_of segwit (bare_tree t) ≡ type_of segwit t
    bare_type (leaf l) = rw (bare_leaf_lem l)
    bare_type (wrap w x) = rw (bare_type x)
    bare_type (join c x y) = simp (bare_type x, bare_type y)
    bare_type (and_or x y z) = simp (bare_type x, bare_type y, bare_type z)
    bare_type (thresh k x xs) = simp (bare_type x, bare_types xs)

    bare_types : (ts : Trees) → types_of segwit (bare_trees ts) ≡ types_of segwit ts
    bare_types nil = refl
    bare_types (t ⊳ ts) = simp (bare_type t, bare_types ts)

bare_key_form : (segwit : Bool) (k : Key) → key_form segwit (bare_key k) ≡ key_form segwit k
bare_key_form true (key code d) = refl
bare_key_form false (key code d) = refl

bare_multi_keys : (segwit : Bool) (ks : List Key) → all_multi_keys segwit (bare_keys ks) ≡ all_multi_keys segwit ks
bare_multi_keys segwit [] = refl
bare_multi_keys segwit (k ∷ ks) = simp (bare_key_form segwit k, bare_multi_keys segwit ks)

bare_multi_a_key : (segwit : Bool) (d : Data) → multi_a_key segwit (bare_data d) ≡ multi_a_key segwit d
bare_multi_a_key true d = refl
bare_multi_a_key false d = refl

bare_multi_a_keys : (segwit : Bool) (ds : List Data) → all_multi_a_keys segwit (bare_datas ds) ≡ all_multi_a_keys segwit ds
bare_multi_a_keys segwit [] = refl
bare_multi_a_keys segwit (d ∷ ds) = simp (bare_multi_a_key segwit d, bare_multi_a_keys segwit ds)

bare_allowed_leaf : (segwit : Bool) (l : Leaf) → allowed_leaf segwit (bare_leaf l) ≡ allowed_leaf segwit l
bare_allowed_leaf segwit True = refl
bare_allowed_leaf segwit False = refl
bare_allowed_leaf segwit (PkK k) = bare_key_form segwit k
bare_allowed_leaf segwit (RawPkH d) = refl
bare_allowed_leaf segwit (After n) = refl
bare_allowed_leaf segwit (Older n) = refl
bare_allowed_leaf segwit (HashLock h d) = refl
bare_allowed_leaf segwit (Multi k ks) = simp (bare_keys_length ks, bare_multi_keys segwit ks)
bare_allowed_leaf segwit (MultiA k d ds) = simp (bare_datas_length ds, bare_multi_a_key segwit d, bare_multi_a_keys segwit ds)

mutual
  pub bare_allowed : (segwit : Bool) (t : Tree) → allowed segwit (bare_tree t) ≡ allowed segwit t
  bare_allowed segwit (leaf l) = bare_allowed_leaf segwit l
  bare_allowed segwit (wrap w x) = bare_allowed segwit x
  bare_allowed segwit (join c x y) = simp (bare_allowed segwit x, bare_allowed segwit y)
  bare_allowed segwit (and_or x y z) = simp (bare_allowed segwit x, bare_allowed segwit y, bare_allowed segwit z)
  bare_allowed segwit (thresh k x xs) = simp (bare_many xs, bare_allowed segwit x, bare_all_allowed segwit xs)

  bare_all_allowed : (segwit : Bool) (ts : Trees) → all_allowed segwit (bare_trees ts) ≡ all_allowed segwit ts
  bare_all_allowed segwit nil = refl
  bare_all_allowed segwit (t ⊳ ts) = simp (bare_allowed segwit t, bare_all_allowed segwit ts)

-- Lexemes

bare_keys_before : (ks : List Key) (rest : List Lexeme) → bares (keys_before ks rest) ≡ keys_before (bare_keys ks) (bares rest)
bare_keys_before [] rest = refl
bare_keys_before (key code d ∷ ks) rest = ap (λ (l : List Lexeme). push code (bare_data d) ∷ l) (bare_keys_before ks rest)

bare_added_keys : (ds : List Data) (rest : List Lexeme) → bares (added_keys_before ds rest) ≡ added_keys_before (bare_datas ds) (bares rest)
bare_added_keys [] rest = refl
bare_added_keys (d ∷ ds) rest = ap (λ (l : List Lexeme). push BYTES32 (bare_data d) ∷ op CHECKSIGADD ∷ l) (bare_added_keys ds rest)

bare_leaf_before : (l : Leaf) (rest : List Lexeme) → bares (leaf_before l rest) ≡ leaf_before (bare_leaf l) (bares rest)
bare_leaf_before True rest = refl
bare_leaf_before False rest = refl
bare_leaf_before (PkK (key code d)) rest = refl
bare_leaf_before (RawPkH d) rest = refl
bare_leaf_before (After n) rest = refl
bare_leaf_before (Older n) rest = refl
bare_leaf_before (HashLock h d) rest = refl
bare_leaf_before (Multi k ks) rest = rw (bare_keys_before ks _, bare_keys_length ks)
bare_leaf_before (MultiA k d ds) rest = rw (bare_added_keys ds _)

bare_opening : (w : Wrapper) (rest : List Lexeme) → bares (opening w ++ rest) ≡ opening w ++ bares rest
bare_opening alt rest = refl
bare_opening swap rest = refl
bare_opening check rest = refl
bare_opening dupIf rest = refl
bare_opening verify rest = refl
bare_opening nonZero rest = refl
bare_opening zeroNotEqual rest = refl

bare_closing : (w : Wrapper) (rest : List Lexeme) → bares (closing w ++ rest) ≡ closing w ++ bares rest
bare_closing alt rest = refl
bare_closing swap rest = refl
bare_closing check rest = refl
bare_closing dupIf rest = refl
bare_closing verify rest = refl
bare_closing nonZero rest = refl
bare_closing zeroNotEqual rest = refl

bare_first : (c : Combination) (rest : List Lexeme) → bares (first c ++ rest) ≡ first c ++ bares rest
bare_first and_v rest = refl
bare_first and_b rest = refl
bare_first or_b rest = refl
bare_first or_d rest = refl
bare_first or_c rest = refl
bare_first or_i rest = refl

bare_between : (c : Combination) (rest : List Lexeme) → bares (between c ++ rest) ≡ between c ++ bares rest
bare_between and_v rest = refl
bare_between and_b rest = refl
bare_between or_b rest = refl
bare_between or_d rest = refl
bare_between or_c rest = refl
bare_between or_i rest = refl

bare_last : (c : Combination) (rest : List Lexeme) → bares (last c ++ rest) ≡ last c ++ bares rest
bare_last and_v rest = refl
bare_last and_b rest = refl
bare_last or_b rest = refl
bare_last or_d rest = refl
bare_last or_c rest = refl
bare_last or_i rest = refl

mutual
  bare_before : (t : Tree) (rest : List Lexeme) → bares (tree_before t rest) ≡ tree_before (bare_tree t) (bares rest)
  bare_before (leaf l) rest = bare_leaf_before l rest
  bare_before (wrap w x) rest = bare_opening w _ ∙ ap (λ (l : List Lexeme). opening w ++ l) (bare_before x _ ∙ ap (tree_before (bare_tree x)) (bare_closing w rest))
  bare_before (join c x y) rest =
      bare_first c _ ∙ ap (λ (l : List Lexeme). first c ++ l) (bare_before x _ ∙ ap (tree_before (bare_tree x)) (bare_between c _ ∙ ap (λ (l : List Lexeme). between c ++ l) (bare_before y _ ∙ ap (tree_before (bare_tree y)) (bare_last c rest))))
  bare_before (and_or x y z) rest =
      bare_before x _ ∙ ap (λ (l : List Lexeme). tree_before (bare_tree x) (op NOTIF ∷ l)) (bare_before z _ ∙ ap (λ (l : List Lexeme). tree_before (bare_tree z) (op ELSE ∷ l)) (bare_before y _))
  bare_before (thresh k x xs) rest = bare_before x _ ∙ ap (tree_before (bare_tree x)) (bare_added xs _)

  bare_added : (ts : Trees) (rest : List Lexeme) → bares (added_trees_before ts rest) ≡ added_trees_before (bare_trees ts) (bares rest)
  bare_added nil rest = refl
  bare_added (t ⊳ ts) rest = bare_before t _ ∙ ap (λ (l : List Lexeme). tree_before (bare_tree t) (op ADD ∷ l)) (bare_added ts rest)

-- the bare lexemes of a tree are those of the bare tree
pub bare_written : (t : Tree) → bares (written t) ≡ written (bare_tree t)
unfolding written
bare_written t = bare_before t []

-- The same tree is written with the same lexemes, whatever their places
pub same_tree_same_lexemes : (t u : Tree) → SameTree t u → bares (written t) ≡ bares (written u)
same_tree_same_lexemes t u e = bare_written t ∙ ap written e ∙ sym (bare_written u)

-- Lexemes that are a tree's but for their places

-- a list whose bare lexemes begin so
abbrev Plain : List Lexeme → Type 0
Plain [] = Unit {0}
Plain (op c ∷ l) = Plain l
Plain (num n ∷ l) = Plain l
Plain (push c d ∷ l) = ⊥

apart : {A : Type 0} (a b : Lexeme) (l m : List Lexeme) → a ∷ l ≡ b ∷ m → (a ≡ b → ⊥) → A
apart a b l m e f = let h : a ≡ b = cc in absurd (f h)

op_head : (c : ℕ) (l m : List Lexeme) → bares l ≡ op c ∷ m → (r : List Lexeme) × (l ≡ op c ∷ r) × (bares r ≡ m)
op_head c [] m e = let z : ◌≡◌ {A = ℕ} 0 1 = cc in let x : ⊥ = omega arith in absurd x
op_head c (op a ∷ r) m e = let h : a ≡ c = cc in let g : bares r ≡ m = cc in (r, rw h, g)
op_head c (num n ∷ r) m e = apart (num n) (op c) (bares r) m e (λ h. let z : ◌≡◌ {A = ℕ} 0 1 = cc in omega arith)
op_head c (push a d ∷ r) m e = apart (push a (bare_data d)) (op c) (bares r) m e (λ h. let z : ◌≡◌ {A = ℕ} 0 1 = cc in omega arith)

num_head : (n : ℕ) (l m : List Lexeme) → bares l ≡ num n ∷ m → (r : List Lexeme) × (l ≡ num n ∷ r) × (bares r ≡ m)
num_head n [] m e = let z : ◌≡◌ {A = ℕ} 0 1 = cc in let x : ⊥ = omega arith in absurd x
num_head n (op a ∷ r) m e = apart (op a) (num n) (bares r) m e (λ h. let z : ◌≡◌ {A = ℕ} 0 1 = cc in omega arith)
num_head n (num k ∷ r) m e = let h : k ≡ n = cc in let g : bares r ≡ m = cc in (r, rw h, g)
num_head n (push a d ∷ r) m e = apart (push a (bare_data d)) (num n) (bares r) m e (λ h. let z : ◌≡◌ {A = ℕ} 0 1 = cc in omega arith)

push_head : (c : ℕ) (d : Data) (l m : List Lexeme) → bares l ≡ push c (bare_data d) ∷ m → (b : Data) × (r : List Lexeme) × (l ≡ push c b ∷ r) × (bare_data b ≡ bare_data d) × (bares r ≡ m)
push_head c d [] m e = let z : ◌≡◌ {A = ℕ} 0 1 = cc in let x : ⊥ = omega arith in absurd x
push_head c d (op a ∷ r) m e = apart (op a) (push c (bare_data d)) (bares r) m e (λ h. let z : ◌≡◌ {A = ℕ} 0 1 = cc in omega arith)
push_head c d (num n ∷ r) m e = apart (num n) (push c (bare_data d)) (bares r) m e (λ h. let z : ◌≡◌ {A = ℕ} 0 1 = cc in omega arith)
push_head c d (push a b ∷ r) m e = let h : a ≡ c = cc in let x : bare_data b ≡ bare_data d = cc in let g : bares r ≡ m = cc in (b, r, rw h, x, g)

plain_head : (a l m : List Lexeme) → Plain a → bares l ≡ bares (a ++ m) → (r : List Lexeme) × (l ≡ a ++ r) × (bares r ≡ bares m)
plain_head [] l m p e = (l, refl, e)
plain_head (op c ∷ a) l m p e =
    let h = op_head c l (bares (a ++ m)) e in
    let g = plain_head a h.0 m p h.2 in
    (g.0, h.1 ∙ ap (λ (x : List Lexeme). op c ∷ x) g.1, g.2)
plain_head (num n ∷ a) l m p e =
    let h = num_head n l (bares (a ++ m)) e in
    let g = plain_head a h.0 m p h.2 in
    (g.0, h.1 ∙ ap (λ (x : List Lexeme). num n ∷ x) g.1, g.2)
plain_head (push c d ∷ a) l m p e = absurd p

opening_plain : (w : Wrapper) → Plain (opening w)
opening_plain alt = tt
opening_plain swap = tt
opening_plain check = tt
opening_plain dupIf = tt
opening_plain verify = tt
opening_plain nonZero = tt
opening_plain zeroNotEqual = tt

closing_plain : (w : Wrapper) → Plain (closing w)
closing_plain alt = tt
closing_plain swap = tt
closing_plain check = tt
closing_plain dupIf = tt
closing_plain verify = tt
closing_plain nonZero = tt
closing_plain zeroNotEqual = tt

first_plain : (c : Combination) → Plain (first c)
first_plain and_v = tt
first_plain and_b = tt
first_plain or_b = tt
first_plain or_d = tt
first_plain or_c = tt
first_plain or_i = tt

between_plain : (c : Combination) → Plain (between c)
between_plain and_v = tt
between_plain and_b = tt
between_plain or_b = tt
between_plain or_d = tt
between_plain or_c = tt
between_plain or_i = tt

last_plain : (c : Combination) → Plain (last c)
last_plain and_v = tt
last_plain and_b = tt
last_plain or_b = tt
last_plain or_d = tt
last_plain or_c = tt
last_plain or_i = tt

-- what writes a list in front of a rest, whatever the places: a thing of the same kind, and another rest
abbrev Placed : {A : Type 0} → (A → List Lexeme → List Lexeme) → (A → A) → A → List Lexeme → List Lexeme → Type 0
Placed {A} writes strip x rest l = (y : A) × (r : List Lexeme) × (l ≡ writes y r) × (strip y ≡ strip x) × (bares r ≡ bares rest)

keys_placed : (ks : List Key) (rest l : List Lexeme) → bares l ≡ bares (keys_before ks rest) → Placed keys_before bare_keys ks rest l
keys_placed [] rest l e = ([], l, refl, refl, e)
keys_placed (key c d ∷ ks) rest l e =
    let h = push_head c d l (bares (keys_before ks rest)) e in
    let g = keys_placed ks rest h.1 h.4 in
    (key c h.0 ∷ g.0, g.1, h.2 ∙ ap (λ (x : List Lexeme). push c h.0 ∷ x) g.2, (let p = h.3 in let q = g.3 in rw (p, q)), g.4)

added_keys_placed : (ds : List Data) (rest l : List Lexeme) → bares l ≡ bares (added_keys_before ds rest) → Placed added_keys_before bare_datas ds rest l
added_keys_placed [] rest l e = ([], l, refl, refl, e)
added_keys_placed (d ∷ ds) rest l e =
    let h = push_head BYTES32 d l _ e in
    let o = op_head CHECKSIGADD h.1 (bares (added_keys_before ds rest)) h.4 in
    let g = added_keys_placed ds rest o.0 o.2 in
    (h.0 ∷ g.0, g.1, h.2 ∙ ap (λ (x : List Lexeme). push BYTES32 h.0 ∷ x) (o.1 ∙ ap (λ (x : List Lexeme). op CHECKSIGADD ∷ x) g.2), (let p = h.3 in let q = g.3 in rw (p, q)), g.4)

leaf_placed : (f : Leaf) (rest l : List Lexeme) → bares l ≡ bares (leaf_before f rest) → Placed leaf_before bare_leaf f rest l
leaf_placed True rest l e = let h = plain_head (num 1 ∷ []) l rest tt e in (True, h.0, h.1, refl, h.2)
leaf_placed False rest l e = let h = plain_head (num 0 ∷ []) l rest tt e in (False, h.0, h.1, refl, h.2)
leaf_placed (PkK (key c d)) rest l e =
    let h = push_head c d l (bares rest) e in
    (PkK (key c h.0), h.1, h.2, (let p = h.3 in ap (λ (x : Data). PkK (key c x)) p), h.4)
leaf_placed (RawPkH d) rest l e =
    let h = plain_head (op DUP ∷ op HASH160 ∷ []) l (push HASH20 d ∷ op EQUAL ∷ op VERIFY ∷ rest) tt e in
    let g = push_head HASH20 d h.0 _ h.2 in
    let k = plain_head (op EQUAL ∷ op VERIFY ∷ []) g.1 rest tt g.4 in
    (RawPkH g.0, k.0, h.1 ∙ ap (λ (x : List Lexeme). op DUP ∷ op HASH160 ∷ x) (g.2 ∙ ap (λ (x : List Lexeme). push HASH20 g.0 ∷ x) k.1), ap RawPkH g.3, k.2)
leaf_placed (After n) rest l e = let h = plain_head (num n ∷ op CHECKLOCKTIMEVERIFY ∷ []) l rest tt e in (After n, h.0, h.1, refl, h.2)
leaf_placed (Older n) rest l e = let h = plain_head (num n ∷ op CHECKSEQUENCEVERIFY ∷ []) l rest tt e in (Older n, h.0, h.1, refl, h.2)
leaf_placed (HashLock a d) rest l e =
    let h = plain_head (op SIZE ∷ num 32 ∷ op EQUAL ∷ op VERIFY ∷ op (hash_opcode a) ∷ []) l (push (hash_push a) d ∷ op EQUAL ∷ rest) tt e in
    let g = push_head (hash_push a) d h.0 _ h.2 in
    let k = plain_head (op EQUAL ∷ []) g.1 rest tt g.4 in
    (HashLock a g.0, k.0, h.1 ∙ ap (λ (x : List Lexeme). op SIZE ∷ num 32 ∷ op EQUAL ∷ op VERIFY ∷ op (hash_opcode a) ∷ x) (g.2 ∙ ap (λ (x : List Lexeme). push (hash_push a) g.0 ∷ x) k.1), ap (HashLock a) g.3, k.2)
leaf_placed (Multi k ks) rest l e =
    let h = plain_head (num k ∷ []) l (keys_before ks (num (length ks) ∷ op CHECKMULTISIG ∷ rest)) tt e in
    let g = keys_placed ks (num (length ks) ∷ op CHECKMULTISIG ∷ rest) h.0 h.2 in
    let n : length ks ≡ length g.0 = sym (bare_keys_length ks) ∙ ap length (sym g.3) ∙ bare_keys_length g.0 in
    let t = plain_head (num (length ks) ∷ op CHECKMULTISIG ∷ []) g.1 rest tt g.4 in
    (Multi k g.0, t.0, h.1 ∙ ap (λ (x : List Lexeme). num k ∷ x) (g.2 ∙ ap (keys_before g.0) (t.1 ∙ ap (λ (m : ℕ). num m ∷ op CHECKMULTISIG ∷ t.0) n)), ap (Multi k) g.3, t.2)
leaf_placed (MultiA k d ds) rest l e =
    let h = push_head BYTES32 d l _ e in
    let o = op_head CHECKSIG h.1 _ h.4 in
    let g = added_keys_placed ds (num k ∷ op NUMEQUAL ∷ rest) o.0 o.2 in
    let t = plain_head (num k ∷ op NUMEQUAL ∷ []) g.1 rest tt g.4 in
    (MultiA k h.0 g.0, t.0, h.2 ∙ ap (λ (x : List Lexeme). push BYTES32 h.0 ∷ x) (o.1 ∙ ap (λ (x : List Lexeme). op CHECKSIG ∷ x) (g.2 ∙ ap (added_keys_before g.0) t.1)), (let p = h.3 in let q = g.3 in rw (p, q)), t.2)

join_whole : (c : Combination) (x y : Tree) (l a b d e k : List Lexeme) → l ≡ first c ++ a → a ≡ tree_before x b → b ≡ between c ++ d → d ≡ tree_before y e → e ≡ last c ++ k → l ≡ tree_before (join c x y) k
join_whole c x y l a b d e k p q r s t = p ∙ ap (λ (m : List Lexeme). first c ++ m) (q ∙ ap (tree_before x) (r ∙ ap (λ (m : List Lexeme). between c ++ m) (s ∙ ap (tree_before y) t)))

and_or_whole : (x y z : Tree) (l a b c d e k : List Lexeme) → l ≡ tree_before x a → a ≡ op NOTIF ∷ b → b ≡ tree_before z c → c ≡ op ELSE ∷ d → d ≡ tree_before y e → e ≡ op ENDIF ∷ k → l ≡ tree_before (and_or x y z) k
and_or_whole x y z l a b c d e k p q r s t u =
    p ∙ ap (tree_before x) (q ∙ ap (λ (m : List Lexeme). op NOTIF ∷ m) (r ∙ ap (tree_before z) (s ∙ ap (λ (m : List Lexeme). op ELSE ∷ m) (t ∙ ap (tree_before y) u))))

mutual
  tree_placed : (t : Tree) (rest l : List Lexeme) → bares l ≡ bares (tree_before t rest) → Placed tree_before bare_tree t rest l
  tree_placed (leaf f) rest l e = let h = leaf_placed f rest l e in (leaf h.0, h.1, h.2, ap leaf h.3, h.4)
  tree_placed (wrap w x) rest l e =
      let h = plain_head (opening w) l (tree_before x (closing w ++ rest)) (opening_plain w) e in
      let g = tree_placed x (closing w ++ rest) h.0 h.2 in
      let k = plain_head (closing w) g.1 rest (closing_plain w) g.4 in
      (wrap w g.0, k.0, h.1 ∙ ap (λ (m : List Lexeme). opening w ++ m) (g.2 ∙ ap (tree_before g.0) k.1), ap (wrap w) g.3, k.2)
  tree_placed (join c x y) rest l e =
      let h = plain_head (first c) l (tree_before x (between c ++ tree_before y (last c ++ rest))) (first_plain c) e in
      let g = tree_placed x (between c ++ tree_before y (last c ++ rest)) h.0 h.2 in
      let b = plain_head (between c) g.1 (tree_before y (last c ++ rest)) (between_plain c) g.4 in
      let f = tree_placed y (last c ++ rest) b.0 b.2 in
      let k = plain_head (last c) f.1 rest (last_plain c) f.4 in (
        join c g.0 f.0,
        k.0,
        join_whole c g.0 f.0 l h.0 g.1 b.0 f.1 k.0 h.1 g.2 b.1 f.2 k.1,
        (let p = g.3 in let q = f.3 in rw (p, q)),
        k.2,
      )
  tree_placed (and_or x y z) rest l e =
      let h = tree_placed x (op NOTIF ∷ tree_before z (op ELSE ∷ tree_before y (op ENDIF ∷ rest))) l e in
      let a = op_head NOTIF h.1 _ h.4 in
      let g = tree_placed z (op ELSE ∷ tree_before y (op ENDIF ∷ rest)) a.0 a.2 in
      let b = op_head ELSE g.1 _ g.4 in
      let f = tree_placed y (op ENDIF ∷ rest) b.0 b.2 in
      let k = op_head ENDIF f.1 _ f.4 in (
        and_or h.0 f.0 g.0,
        k.0,
        and_or_whole h.0 f.0 g.0 l h.1 a.0 g.1 b.0 f.1 k.0 h.2 a.1 g.2 b.1 f.2 k.1,
        (let p = h.3 in let q = f.3 in let s = g.3 in rw (p, q, s)),
        k.2,
      )
  tree_placed (thresh k x xs) rest l e =
      let h = tree_placed x (added_trees_before xs (num k ∷ op EQUAL ∷ rest)) l e in
      let g = trees_placed xs (num k ∷ op EQUAL ∷ rest) h.1 h.4 in
      let t = plain_head (num k ∷ op EQUAL ∷ []) g.1 rest tt g.4 in
      (thresh k h.0 g.0, t.0, h.2 ∙ ap (tree_before h.0) (g.2 ∙ ap (added_trees_before g.0) t.1), (let p = h.3 in let q = g.3 in rw (p, q)), t.2)

  trees_placed : (ts : Trees) (rest l : List Lexeme) → bares l ≡ bares (added_trees_before ts rest) → Placed added_trees_before bare_trees ts rest l
  trees_placed nil rest l e = (nil, l, refl, refl, e)
  trees_placed (t ⊳ ts) rest l e =
      let h = tree_placed t (op ADD ∷ added_trees_before ts rest) l e in
      let a = op_head ADD h.1 _ h.4 in
      let g = trees_placed ts rest a.0 a.2 in
      (h.0 ⊳ g.0, g.1, h.2 ∙ ap (tree_before h.0) (a.1 ∙ ap (λ (m : List Lexeme). op ADD ∷ m) g.2), (let p = h.3 in let q = g.3 in rw (p, q)), g.4)

none_left : (l : List Lexeme) → bares l ≡ [] → l ≡ []
none_left [] e = refl
none_left (x ∷ l) e = let z : ◌≡◌ {A = ℕ} 0 1 = cc in let b : ⊥ = omega arith in absurd b

-- Lexemes that are a tree's but for their places are written by the same tree with other places
pub replaced : (t : Tree) (lexemes : List Lexeme) → bares (written t) ≡ bares lexemes → (u : Tree) × (written u ≡ lexemes) × SameTree u t
unfolding written
replaced t lexemes e =
    let h = tree_placed t [] lexemes (sym e) in
    (h.0, ap (tree_before h.0) (sym (none_left h.1 h.4)) ∙ sym h.2, h.3)
