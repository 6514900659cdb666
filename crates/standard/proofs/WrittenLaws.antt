-- The written form, row by row as BIP 379 prints it: each row of its table of scripts is an equation between lists. What is written before a rest is the written form and then the rest (`written_before`).
use Rattle.std.specs.Prelude.{◌≡◌, refl, List, [], ◌∷◌, ◌++◌, ℕ, length}
use Rattle.std.proofs.Common.{sym, ap, ◌∙◌, append_assoc, append-nil}
use Rattle.lex.specs.Token.{Data, Lexeme, op, num, push}
use Rattle.lex.specs.Token.{BOOLAND, BOOLOR, ADD, EQUAL, NUMEQUAL, CHECKSIG, CHECKSIGADD, CHECKMULTISIG, IF, IFDUP, NOTIF, ELSE, ENDIF, BYTES32}
use Rattle.standard.specs.Tree.{Key, Leaf, True, False, PkK, RawPkH, After, Older, HashLock, Multi, MultiA, Wrapper, and_v, and_b, or_b, or_d, or_c, or_i, Tree, Trees, leaf, wrap, join, and_or, thresh, nil, ◌⊳◌}
use Rattle.standard.specs.Written.{key_push, keys_before, added_keys_before, leaf_before, opening, closing, first, between, last, tree_before, added_trees_before, written}

keys_append : (ks : List Key) (a b : List Lexeme) → keys_before ks (a ++ b) ≡ keys_before ks a ++ b
keys_append [] a b = refl
keys_append (k ∷ ks) a b = ap (λ (l : List Lexeme). key_push k ∷ l) (keys_append ks a b)

added_keys_append : (ds : List Data) (a b : List Lexeme) → added_keys_before ds (a ++ b) ≡ added_keys_before ds a ++ b
added_keys_append [] a b = refl
added_keys_append (d ∷ ds) a b = ap (λ (l : List Lexeme). push BYTES32 d ∷ op CHECKSIGADD ∷ l) (added_keys_append ds a b)

leaf_append : (l : Leaf) (a b : List Lexeme) → leaf_before l (a ++ b) ≡ leaf_before l a ++ b
leaf_append True a b = refl
leaf_append False a b = refl
leaf_append (PkK k) a b = refl
leaf_append (RawPkH d) a b = refl
leaf_append (After n) a b = refl
leaf_append (Older n) a b = refl
leaf_append (HashLock h d) a b = refl
leaf_append (Multi k ks) a b = ap (λ (l : List Lexeme). num k ∷ l) (keys_append ks (num (length ks) ∷ op CHECKMULTISIG ∷ a) b)
leaf_append (MultiA k d ds) a b = ap (λ (l : List Lexeme). push BYTES32 d ∷ op CHECKSIG ∷ l) (added_keys_append ds (num k ∷ op NUMEQUAL ∷ a) b)

mutual
  tree_append : (t : Tree) (a b : List Lexeme) → tree_before t (a ++ b) ≡ tree_before t a ++ b
  tree_append (leaf l) a b = leaf_append l a b
  tree_append (wrap w x) a b = ap (λ (l : List Lexeme). opening w ++ tree_before x l) (sym (append_assoc (closing w) a b)) ∙ ap (λ (l : List Lexeme). opening w ++ l) (tree_append x (closing w ++ a) b) ∙ sym (append_assoc (opening w) (tree_before x (closing w ++ a)) b)
  tree_append (join c x y) a b =
      ap (λ (l : List Lexeme). first c ++ tree_before x (between c ++ tree_before y l)) (sym (append_assoc (last c) a b))
      ∙ ap (λ (l : List Lexeme). first c ++ tree_before x (between c ++ l)) (tree_append y (last c ++ a) b)
      ∙ ap (λ (l : List Lexeme). first c ++ tree_before x l) (sym (append_assoc (between c) (tree_before y (last c ++ a)) b))
      ∙ ap (λ (l : List Lexeme). first c ++ l) (tree_append x (between c ++ tree_before y (last c ++ a)) b)
      ∙ sym (append_assoc (first c) (tree_before x (between c ++ tree_before y (last c ++ a))) b)
  tree_append (and_or x y z) a b =
      ap (λ (l : List Lexeme). tree_before x (op NOTIF ∷ tree_before z (op ELSE ∷ l))) (tree_append y (op ENDIF ∷ a) b)
      ∙ ap (λ (l : List Lexeme). tree_before x (op NOTIF ∷ l)) (tree_append z (op ELSE ∷ tree_before y (op ENDIF ∷ a)) b)
      ∙ tree_append x (op NOTIF ∷ tree_before z (op ELSE ∷ tree_before y (op ENDIF ∷ a))) b
  tree_append (thresh k x xs) a b = ap (tree_before x) (added_append xs (num k ∷ op EQUAL ∷ a) b) ∙ tree_append x (added_trees_before xs (num k ∷ op EQUAL ∷ a)) b

  added_append : (ts : Trees) (a b : List Lexeme) → added_trees_before ts (a ++ b) ≡ added_trees_before ts a ++ b
  added_append nil a b = refl
  added_append (t ⊳ ts) a b = ap (λ (l : List Lexeme). tree_before t (op ADD ∷ l)) (added_append ts a b) ∙ tree_append t (op ADD ∷ added_trees_before ts a) b

-- What is written before a rest is the written form, and then the rest
pub written_before : (t : Tree) (rest : List Lexeme) → tree_before t rest ≡ written t ++ rest
unfolding written
written_before t rest = tree_append t [] rest

-- and_v(X,Y): [X] [Y]
pub written_and_v : (x y : Tree) → written (join and_v x y) ≡ written x ++ written y
unfolding written
written_and_v x y = written_before x (tree_before y [])

-- and_b(X,Y): [X] [Y] BOOLAND
pub written_and_b : (x y : Tree) → written (join and_b x y) ≡ written x ++ (written y ++ (op BOOLAND ∷ []))
unfolding written
written_and_b x y = written_before x (tree_before y (op BOOLAND ∷ [])) ∙ ap (λ (l : List Lexeme). tree_before x [] ++ l) (written_before y (op BOOLAND ∷ []))

-- or_b(X,Z): [X] [Z] BOOLOR
pub written_or_b : (x z : Tree) → written (join or_b x z) ≡ written x ++ (written z ++ (op BOOLOR ∷ []))
unfolding written
written_or_b x z = written_before x (tree_before z (op BOOLOR ∷ [])) ∙ ap (λ (l : List Lexeme). tree_before x [] ++ l) (written_before z (op BOOLOR ∷ []))

-- or_c(X,Z): [X] NOTIF [Z] ENDIF
pub written_or_c : (x z : Tree) → written (join or_c x z) ≡ written x ++ (op NOTIF ∷ (written z ++ (op ENDIF ∷ [])))
unfolding written
written_or_c x z = written_before x (op NOTIF ∷ tree_before z (op ENDIF ∷ [])) ∙ ap (λ (l : List Lexeme). tree_before x [] ++ (op NOTIF ∷ l)) (written_before z (op ENDIF ∷ []))

-- or_d(X,Z): [X] IFDUP NOTIF [Z] ENDIF
pub written_or_d : (x z : Tree) → written (join or_d x z) ≡ written x ++ (op IFDUP ∷ op NOTIF ∷ (written z ++ (op ENDIF ∷ [])))
unfolding written
written_or_d x z = written_before x (op IFDUP ∷ op NOTIF ∷ tree_before z (op ENDIF ∷ [])) ∙ ap (λ (l : List Lexeme). tree_before x [] ++ (op IFDUP ∷ op NOTIF ∷ l)) (written_before z (op ENDIF ∷ []))

-- or_i(X,Z): IF [X] ELSE [Z] ENDIF
pub written_or_i : (x z : Tree) → written (join or_i x z) ≡ op IF ∷ (written x ++ (op ELSE ∷ (written z ++ (op ENDIF ∷ []))))
unfolding written
written_or_i x z = ap (λ (l : List Lexeme). op IF ∷ l) (written_before x (op ELSE ∷ tree_before z (op ENDIF ∷ [])) ∙ ap (λ (l : List Lexeme). tree_before x [] ++ (op ELSE ∷ l)) (written_before z (op ENDIF ∷ [])))

-- andor(X,Y,Z): [X] NOTIF [Z] ELSE [Y] ENDIF
pub written_and_or : (x y z : Tree) → written (and_or x y z) ≡ written x ++ (op NOTIF ∷ (written z ++ (op ELSE ∷ (written y ++ (op ENDIF ∷ [])))))
unfolding written
written_and_or x y z =
    written_before x (op NOTIF ∷ tree_before z (op ELSE ∷ tree_before y (op ENDIF ∷ [])))
    ∙ ap (λ (l : List Lexeme). tree_before x [] ++ (op NOTIF ∷ l)) (written_before z (op ELSE ∷ tree_before y (op ENDIF ∷ [])) ∙ ap (λ (l : List Lexeme). tree_before z [] ++ (op ELSE ∷ l)) (written_before y (op ENDIF ∷ [])))

-- thresh(k,X1,...,Xn): [X1] [X2] ADD ... [Xn] ADD <k> EQUAL
abbrev pub added_trees : Trees → List Lexeme
added_trees nil = []
added_trees (x ⊳ xs) = written x ++ (op ADD ∷ added_trees xs)

added_written : (xs : Trees) (rest : List Lexeme) → added_trees_before xs rest ≡ added_trees xs ++ rest
added_written nil rest = refl
added_written (x ⊳ xs) rest = written_before x (op ADD ∷ added_trees_before xs rest) ∙ ap (λ (l : List Lexeme). written x ++ (op ADD ∷ l)) (added_written xs rest) ∙ sym (append_assoc (written x) (op ADD ∷ added_trees xs) rest)

pub written_thresh : (k : ℕ) (x : Tree) (xs : Trees) → written (thresh k x xs) ≡ written x ++ (added_trees xs ++ (num k ∷ op EQUAL ∷ []))
unfolding written
written_thresh k x xs = written_before x (added_trees_before xs (num k ∷ op EQUAL ∷ [])) ∙ ap (λ (l : List Lexeme). tree_before x [] ++ l) (added_written xs (num k ∷ op EQUAL ∷ []))

-- the wrappers: a: TOALTSTACK [X] FROMALTSTACK, s: SWAP [X], c: [X] CHECKSIG, d: DUP IF [X] ENDIF, v: [X] VERIFY, j: SIZE 0NOTEQUAL IF [X] ENDIF, n: [X] 0NOTEQUAL
pub written_wrap : (w : Wrapper) (x : Tree) → written (wrap w x) ≡ opening w ++ (written x ++ closing w)
unfolding written
written_wrap w x = ap (λ (l : List Lexeme). opening w ++ l) (ap (tree_before x) (append-nil (closing w)) ∙ written_before x (closing w))
