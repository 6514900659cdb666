-- What a run of the rows makes is written with the tokens that it was given, and passes every rule; and a row never finds too few finished trees.
-- Why: carry the work list out over the finished trees, with whatever trees are still to come; the tokens so written end in those taken. Each row keeps that (`rows_right`, case by case of the table), and where a pop would find nothing it says ⊥.
use Rattle.std.specs.Prelude.{◌≡◌, Bool, true, false, ℕ, zero, suc, ◌+◌, eqb, length}
use Rattle.std.proofs.Math.Path.{refl}
use Rattle.std.proofs.Common.{ap, arith, eqb-true}
use mathlib.Core.List.{List, [], ◌∷◌, ◌++◌, reverse_aux}
use Rattle.correctness.specs.declared.Correctness.{Correctness}
use Rattle.correctness.specs.Typed.{Typed}
use Rattle.std.specs.Prelude.{Ok, Err}
use Rattle.lex.specs.Token.{Data, Lexeme, op, num, push}
use Rattle.lex.specs.Token.{EQUAL, NUMEQUAL, CHECKSIG, CHECKSIGADD, CHECKMULTISIG, CHECKSEQUENCEVERIFY, CHECKLOCKTIMEVERIFY, FROMALTSTACK, TOALTSTACK, DUP, IF, IFDUP, NOTIF, ELSE, ENDIF, ZERONOTEQUAL, SIZE, SWAP, VERIFY, HASH160, HASH20, BYTES32, BYTES33, BYTES65}
use Rattle.tables.specs.Choose.{pick}
use Rattle.standard.specs.Tree.{Key, key, Leaf, True, False, PkK, RawPkH, After, Older, HashLock, Multi, MultiA, Wrapper, alt, swap, check, dupIf, verify, nonZero, zeroNotEqual, Combination, and_v, and_b, or_b, or_d, or_c, or_i, Tree, Trees, leaf, wrap, join, and_or, thresh, nil, ◌⊳◌, many, ◌⊕◌}
use Rattle.standard.specs.Written.{key_push, hash_opcode, hash_push, keys_before, added_keys_before, tree_before, added_trees_before, written}
use Rattle.standard.specs.Allowed.{within, multi_key, multi_a_key, all_multi_keys, all_multi_a_keys, multi_count, multi_a_threshold, allowed_leaf, leaf_refusal, thresh_allowed, allowed, all_allowed}
use Rattle.standard.specs.Types.{type_of, Judged, passes, fails, by_rule, judge}
use Rattle.standard.specs.Table.{take_trees}
use Rattle.standard.specs.Rows.{NonTerm, Expression, WExpression, MaybeAndV, AndV, Alt, Swap, EndIf, EndIfNotIf, EndIfElse, Tern, Reduce1, Reduce2, ThreshW, ThreshE, Point, inExpression, inWExpression, inAlt, inSwap, inEndIf, inEndIfNotIf, inEndIfElse, in_thresh_w, afterVerify, afterVerifyEqual, afterEqual, afterCheckSequenceVerify, afterCheckLockTimeVerify, afterCheckMultiSig, afterNumEqual, afterVerifyEqualHash20, afterVerifyEqualHash20Hash160, afterEqualHash20, after_bytes32, lockVerify, lockEqual, lock32, lockSize, multi_keys, multiAKeys, afterCheckSigAdd, afterCheckSig, afterIf, afterIfZeroNotEqual}
use Rattle.standard.specs.Rows.{Act, read_on, enter, put_back, make, reduce1, reduce2, refuse, Case, opcode, number, any_number, pushed, other, fits, look, cases, act_at, is_and_v, Found, follow, read_from, row_of}
use Rattle.standard.specs.Machine.{Next, goes, stops, goes_on, admit, finish, finish1, finish2, finish3, finish_many, perform, step}

-- the work list, carried out over the finished trees with whatever trees are still to come, ends in a tree whose tokens end in `text`
abbrev pub Pending : List NonTerm → Trees → List Lexeme → Type 0
Pending [] nil text = ⊥
Pending [] (t ⊳ nil) text = text ≡ tree_before t []
Pending [] (t ⊳ (u ⊳ done)) text = ⊥
Pending (Expression ∷ work) done text = (t : Tree) → Pending work (t ⊳ done) (tree_before t text)
Pending (WExpression ∷ work) done text = (t : Tree) → Pending work (t ⊳ done) (tree_before t text)
Pending (MaybeAndV ∷ work) nil text = ⊥
Pending (MaybeAndV ∷ work) (y ⊳ done) text = (rest : List Lexeme) × (text ≡ tree_before y rest) × ((t : Tree) → Pending work (t ⊳ done) (tree_before t rest))
Pending (AndV ∷ work) nil text = ⊥
Pending (AndV ∷ work) (x ⊳ nil) text = ⊥
Pending (AndV ∷ work) (x ⊳ (y ⊳ done)) text = (rest : List Lexeme) × (text ≡ tree_before x (tree_before y rest)) × ((t : Tree) → Pending work (t ⊳ done) (tree_before t rest))
Pending (Alt ∷ work) nil text = ⊥
Pending (Alt ∷ work) (x ⊳ done) text = Pending work (wrap alt x ⊳ done) (op TOALTSTACK ∷ text)
Pending (Swap ∷ work) nil text = ⊥
Pending (Swap ∷ work) (x ⊳ done) text = Pending work (wrap swap x ⊳ done) (op SWAP ∷ text)
Pending (EndIf ∷ work) nil text = ⊥
Pending (EndIf ∷ work) (z ⊳ done) text = (rest : List Lexeme) × (text ≡ tree_before z (op ENDIF ∷ rest)) × ((t : Tree) → Pending work (t ⊳ done) (tree_before t rest))
Pending (EndIfNotIf ∷ work) nil text = ⊥
Pending (EndIfNotIf ∷ work) (z ⊳ done) text = (rest : List Lexeme) × (text ≡ op NOTIF ∷ tree_before z (op ENDIF ∷ rest)) × ((t : Tree) → Pending work (t ⊳ done) (tree_before t rest))
Pending (EndIfElse ∷ work) nil text = ⊥
Pending (EndIfElse ∷ work) (x ⊳ nil) text = ⊥
Pending (EndIfElse ∷ work) (x ⊳ (z ⊳ done)) text = (rest : List Lexeme) × (text ≡ tree_before x (op ELSE ∷ tree_before z (op ENDIF ∷ rest))) × ((t : Tree) → Pending work (t ⊳ done) (tree_before t rest))
Pending (Tern ∷ work) nil text = ⊥
Pending (Tern ∷ work) (x ⊳ nil) text = ⊥
Pending (Tern ∷ work) (x ⊳ (z ⊳ nil)) text = ⊥
Pending (Tern ∷ work) (x ⊳ (z ⊳ (y ⊳ done))) text = Pending work (and_or x y z ⊳ done) text
Pending (Reduce1 w ∷ work) nil text = ⊥
Pending (Reduce1 w ∷ work) (x ⊳ done) text = Pending work (wrap w x ⊳ done) text
Pending (Reduce2 c ∷ work) nil text = ⊥
Pending (Reduce2 c ∷ work) (x ⊳ nil) text = ⊥
Pending (Reduce2 c ∷ work) (x ⊳ (y ⊳ done)) text = Pending work (join c x y ⊳ done) text
Pending (ThreshW k n ∷ work) done text =
    (xs : Trees) × (under : Trees) × (rest : List Lexeme) × (done ≡ ◌⊕◌ xs under) × (n ≡ many xs) × (text ≡ added_trees_before xs (num k ∷ op EQUAL ∷ rest)) × ((t : Tree) → Pending work (t ⊳ under) (tree_before t rest))
Pending (ThreshE k n ∷ work) nil text = ⊥
Pending (ThreshE k n ∷ work) (x ⊳ done) text =
    (xs : Trees) × (under : Trees) × (rest : List Lexeme) × (done ≡ ◌⊕◌ xs under) × (n ≡ suc (many xs)) × (text ≡ tree_before x (added_trees_before xs (num k ∷ op EQUAL ∷ rest))) × ((t : Tree) → Pending work (t ⊳ under) (tree_before t rest))

-- the entry that a point belongs to, and what has been read of its row
abbrev pub entry_at : Point → NonTerm
entry_at inExpression = Expression
entry_at inWExpression = WExpression
entry_at inAlt = Alt
entry_at inSwap = Swap
entry_at inEndIf = EndIf
entry_at inEndIfNotIf = EndIfNotIf
entry_at inEndIfElse = EndIfElse
entry_at (in_thresh_w k n) = ThreshW k n
entry_at afterVerify = Expression
entry_at afterVerifyEqual = Expression
entry_at afterEqual = Expression
entry_at afterCheckSequenceVerify = Expression
entry_at afterCheckLockTimeVerify = Expression
entry_at afterCheckMultiSig = Expression
entry_at afterNumEqual = Expression
entry_at (afterVerifyEqualHash20 h) = Expression
entry_at (afterVerifyEqualHash20Hash160 h) = Expression
entry_at (afterEqualHash20 h) = Expression
entry_at (after_bytes32 v h) = Expression
entry_at (lockVerify v k h) = Expression
entry_at (lockEqual v k h) = Expression
entry_at (lock32 v k h) = Expression
entry_at (lockSize v k h) = Expression
entry_at (multi_keys n ks) = Expression
entry_at (multiAKeys k ds) = Expression
entry_at (afterCheckSigAdd k ds) = Expression
entry_at (afterCheckSig k ds) = Expression
entry_at afterIf = EndIf
entry_at afterIfZeroNotEqual = EndIf

abbrev pub verify_if : Bool → List Lexeme → List Lexeme
verify_if true text = op VERIFY ∷ text
verify_if false text = text

abbrev pub read_at : Point → List Lexeme → List Lexeme
read_at inExpression text = text
read_at inWExpression text = text
read_at inAlt text = text
read_at inSwap text = text
read_at inEndIf text = text
read_at inEndIfNotIf text = text
read_at inEndIfElse text = text
read_at (in_thresh_w k n) text = text
read_at afterVerify text = op VERIFY ∷ text
read_at afterVerifyEqual text = op EQUAL ∷ op VERIFY ∷ text
read_at afterEqual text = op EQUAL ∷ text
read_at afterCheckSequenceVerify text = op CHECKSEQUENCEVERIFY ∷ text
read_at afterCheckLockTimeVerify text = op CHECKLOCKTIMEVERIFY ∷ text
read_at afterCheckMultiSig text = op CHECKMULTISIG ∷ text
read_at afterNumEqual text = op NUMEQUAL ∷ text
read_at (afterVerifyEqualHash20 h) text = push HASH20 h ∷ op EQUAL ∷ op VERIFY ∷ text
read_at (afterVerifyEqualHash20Hash160 h) text = op HASH160 ∷ push HASH20 h ∷ op EQUAL ∷ op VERIFY ∷ text
read_at (afterEqualHash20 h) text = push HASH20 h ∷ op EQUAL ∷ text
read_at (after_bytes32 v h) text = push BYTES32 h ∷ op EQUAL ∷ verify_if v text
read_at (lockVerify v k h) text = op (hash_opcode k) ∷ push (hash_push k) h ∷ op EQUAL ∷ verify_if v text
read_at (lockEqual v k h) text = op VERIFY ∷ op (hash_opcode k) ∷ push (hash_push k) h ∷ op EQUAL ∷ verify_if v text
read_at (lock32 v k h) text = op EQUAL ∷ op VERIFY ∷ op (hash_opcode k) ∷ push (hash_push k) h ∷ op EQUAL ∷ verify_if v text
read_at (lockSize v k h) text = num 32 ∷ op EQUAL ∷ op VERIFY ∷ op (hash_opcode k) ∷ push (hash_push k) h ∷ op EQUAL ∷ verify_if v text
read_at (multi_keys n ks) text = keys_before ks (num (n + length ks) ∷ op CHECKMULTISIG ∷ text)
read_at (multiAKeys k ds) text = added_keys_before ds (num k ∷ op NUMEQUAL ∷ text)
read_at (afterCheckSigAdd k ds) text = op CHECKSIGADD ∷ added_keys_before ds (num k ∷ op NUMEQUAL ∷ text)
read_at (afterCheckSig k ds) text = op CHECKSIG ∷ added_keys_before ds (num k ∷ op NUMEQUAL ∷ text)
read_at afterIf text = op IF ∷ text
read_at afterIfZeroNotEqual text = op ZERONOTEQUAL ∷ op IF ∷ text

-- an act is right at a point and a token: what is pending stays so; a refusal has a number from 9 to 14
abbrev pub From : Point → (List NonTerm → Trees → List Lexeme → Type 0) → Type 0
From p Q = (work : List NonTerm) (done : Trees) (text : List Lexeme) → Pending (entry_at p ∷ work) done text → Q work done text

abbrev pub Right : Point → Lexeme → Act → Type 0
Right p t (read_on q) = (entry_at q ≡ entry_at p) × ((text : List Lexeme) → read_at q text ≡ t ∷ read_at p text)
Right p t (enter es) = From p (λ work done text. Pending (es ++ work) done (t ∷ read_at p text))
Right p t (put_back es) = From p (λ work done text. Pending (Expression ∷ (es ++ work)) done (read_at p text))
Right p t (make l es) = From p (λ work done text. Pending (es ++ work) (leaf l ⊳ done) (t ∷ read_at p text))
Right p t (reduce1 w) = From p (λ work done text. Pending (Reduce1 w ∷ work) done (t ∷ read_at p text))
Right p t (reduce2 c) = From p (λ work done text. Pending (Reduce2 c ∷ work) done (t ∷ read_at p text))
Right p t (refuse n) = within 9 n 14 ≡ true

abbrev pub RightCase : Point → Case → Type 0
RightCase p (opcode k a) = Right p (op k) a
RightCase p (number k a) = Right p (num k) a
RightCase p (any_number f) = (n : ℕ) → Right p (num n) (f n)
RightCase p (pushed k f) = (d : Data) → Right p (push k d) (f d)
RightCase p (other a) = (t : Lexeme) → Right p t a

abbrev pub RightCases : Point → List Case → Type 0
RightCases p [] = Unit {0}
RightCases p (x ∷ l) = RightCase p x × RightCases p l

infixr 40 ◌&◌
◌&◌ : {A B : Type 0} → A → B → A × B
◌&◌ a b = (a, b)

pick_right : (p : Point) (f : ℕ → Lexeme) (c k : ℕ) (a r : Act) → Right p (f k) a → Right p (f c) r → Right p (f c) (pick (eqb c k) a r)
pick_right p f c k a r h g = by (eqb c k) refl
  where
    by : (b : Bool) → eqb c k ≡ b → Right p (f c) (pick b a r)
    by true e = rw (eqb-true c k e) h
    by false e = g

fits_right : (p : Point) (x : Case) (t : Lexeme) (r : Act) → RightCase p x → Right p t r → Right p t (fits x t r)
fits_right p (opcode k a) (op c) r h g = pick_right p op c k a r h g
fits_right p (opcode k a) (num n) r h g = g
fits_right p (opcode k a) (push c d) r h g = g
fits_right p (number k a) (op c) r h g = g
fits_right p (number k a) (num n) r h g = pick_right p num n k a r h g
fits_right p (number k a) (push c d) r h g = g
fits_right p (any_number f) (op c) r h g = g
fits_right p (any_number f) (num n) r h g = h n
fits_right p (any_number f) (push c d) r h g = g
fits_right p (pushed k f) (op c) r h g = g
fits_right p (pushed k f) (num n) r h g = g
fits_right p (pushed k f) (push c d) r h g = pick_right p (λ x. push x d) c k (f d) r (h d) g
fits_right p (other a) t r h g = h t

look_right : (p : Point) (t : Lexeme) (l : List Case) → RightCases p l → Right p t (look t l)
look_right p t [] h = refl
look_right p t (x ∷ l) h = fits_right p x t (look t l) h.0 (look_right p t l h.1)

else_right : From inEndIf (λ work done text. (x : Tree) → Pending (MaybeAndV ∷ EndIfElse ∷ work) (x ⊳ done) (tree_before x (op ELSE ∷ text)))
else_right work nil text h x = absurd h
else_right work (z ⊳ done) text h x = (op ELSE ∷ text, refl, λ t. (h.0, rw h.1, h.2))

notif_right : From inEndIf (λ work done text. Pending (EndIfNotIf ∷ work) done (op NOTIF ∷ text))
notif_right work nil text h = h
notif_right work (z ⊳ done) text h = (h.0, rw h.1, h.2)

-- d: and j: close the branch
if_right : (w : Wrapper) (f : List Lexeme → List Lexeme) → ((z : Tree) (rest : List Lexeme) → tree_before (wrap w z) rest ≡ f (tree_before z (op ENDIF ∷ rest)))
    → From inEndIf (λ work done text. Pending (Reduce1 w ∷ work) done (f text))
if_right w f e work nil text h = h
if_right w f e work (z ⊳ done) text h = rw (h.1, ← e z h.0) (h.2 (wrap w z))

-- or_d and or_c
or_right : (c : Combination) (f : List Lexeme → List Lexeme) → ((x z : Tree) (rest : List Lexeme) → tree_before (join c x z) rest ≡ tree_before x (f (op NOTIF ∷ tree_before z (op ENDIF ∷ rest))))
    → From inEndIfNotIf (λ work done text. (x : Tree) → Pending (Reduce2 c ∷ work) (x ⊳ done) (tree_before x (f text)))
or_right c f e work nil text h x = h
or_right c f e work (z ⊳ done) text h x = rw (h.1, ← e x z h.0) (h.2 (join c x z))

ori_right : From inEndIfElse (λ work done text. Pending (Reduce2 or_i ∷ work) done (op IF ∷ text))
ori_right work nil text h = h
ori_right work (x ⊳ nil) text h = h
ori_right work (x ⊳ (z ⊳ done)) text h = rw h.1 (h.2 (join or_i x z))

tern_right : From inEndIfElse (λ work done text. (x : Tree) → Pending (Tern ∷ work) (x ⊳ done) (tree_before x (op NOTIF ∷ text)))
tern_right work nil text h x = h
tern_right work (z ⊳ nil) text h x = h
tern_right work (z ⊳ (y ⊳ done)) text h x = rw h.1 (h.2 (and_or x y z))

alt_right : From inAlt (λ work done text. Pending (Reduce1 alt ∷ work) done (op TOALTSTACK ∷ text))
alt_right work nil text h = h
alt_right work (x ⊳ done) text h = h

swap_right : From inSwap (λ work done text. Pending (Reduce1 swap ∷ work) done (op SWAP ∷ text))
swap_right work nil text h = h
swap_right work (x ⊳ done) text h = h

or_refuse : (p : Point) (t : Lexeme) (b : Bool) (a : Act) (n : ℕ) → within 9 n 14 ≡ true → Right p t a → Right p t (pick b a (refuse n))
or_refuse p t true a n e h = h
or_refuse p t false a n e h = e

more_keys : (n : ℕ) (ks : List Key) (k : Key) (text : List Lexeme)
    → keys_before (k ∷ ks) (num (n + length (k ∷ ks)) ∷ op CHECKMULTISIG ∷ text) ≡ key_push k ∷ keys_before ks (num (suc n + length ks) ∷ op CHECKMULTISIG ∷ text)
more_keys n ks k text = let e : n + length (k ∷ ks) ≡ suc n + length ks = omega arith in ap (λ (m : ℕ). key_push k ∷ keys_before ks (num m ∷ op CHECKMULTISIG ∷ text)) e

all_keys : (ks : List Key) → 0 + length ks ≡ length ks
all_keys ks = omega arith

-- the children of a thresh are those that were counted
pub take_all : {A : Type 0} (xs under : Trees) (few : A) (onward : Trees → Trees → A) → take_trees (many xs) (◌⊕◌ xs under) few onward ≡ onward xs under
take_all nil under few onward = refl
take_all (x ⊳ xs) under few onward = take_all xs under few (λ a b. onward (x ⊳ a) b)

-- What a finished tree has passed

module _ (segwit : Bool) where
  abbrev pub Passed : Tree → Type 0
  Passed t = (allowed segwit t ≡ true) × ((c : Correctness) × (type_of segwit t ≡ Ok c))

  abbrev pub AllPassed : Trees → Type 0
  AllPassed nil = Unit {0}
  AllPassed (t ⊳ ts) = Passed t × AllPassed ts

  -- the children of the root
  abbrev pub Children : Tree → Type 0
  Children (leaf l) = Unit {0}
  Children (wrap w x) = Passed x
  Children (join c x y) = Passed x × Passed y
  Children (and_or x y z) = Passed x × (Passed y × Passed z)
  Children (thresh k x xs) = Passed x × AllPassed xs

  pub all_allowed_lem : (ts : Trees) → AllPassed ts → all_allowed segwit ts ≡ true
  all_allowed_lem nil h = refl
  all_allowed_lem (t ⊳ ts) h = rw h.0.0 (all_allowed_lem ts h.1)

  pub rule_passes : (o : Typed) → by_rule o ≡ passes → (c : Correctness) × (o ≡ Ok c)
  rule_passes (Ok c) e = (c, refl)
  rule_passes (Err x) e = let z : ◌≡◌ {A = ℕ} 0 1 = cc in let b : ⊥ = omega arith in absurd b

  if_passes : (b : Bool) (j : Judged) (n r : ℕ) → pick b j (fails n r) ≡ passes → (b ≡ true) × (j ≡ passes)
  if_passes true j n r e = (refl, e)
  if_passes false j n r e = let z : ◌≡◌ {A = ℕ} 0 1 = cc in let b : ⊥ = omega arith in absurd b

  -- a node that is admitted has passed, if its children have
  pub passed : (t : Tree) → judge segwit t ≡ passes → Children t → Passed t
  passed (leaf l) e h = ((if_passes (allowed_leaf segwit l) passes _ 0 e).0, (_, refl))
  passed (wrap w x) e h = (h.0, rule_passes (type_of segwit (wrap w x)) e)
  passed (join c x y) e h = (rw (h.0.0, h.1.0), rule_passes (type_of segwit (join c x y)) e)
  passed (and_or x y z) e h = (rw (h.0.0, h.1.0.0, h.1.1.0), rule_passes (type_of segwit (and_or x y z)) e)
  passed (thresh k x xs) e h =
      let p = if_passes (thresh_allowed k x xs) (by_rule (type_of segwit (thresh k x xs))) 13 0 e in
      (rw (p.0, h.0.0) (all_allowed_lem xs h.1), rule_passes (type_of segwit (thresh k x xs)) p.1)

  -- a node that is not admitted is refused by a number from 9 to 14
  abbrev Known : Judged → Type 0
  Known passes = Unit {0}
  Known (fails n r) = within 9 n 14 ≡ true

  rule_known : (o : Typed) → Known (by_rule o)
  rule_known (Ok c) = tt
  rule_known (Err e) = refl

  if_known : (b : Bool) (j : Judged) (n r : ℕ) → Known j → within 9 n 14 ≡ true → Known (pick b j (fails n r))
  if_known true j n r h e = h
  if_known false j n r h e = e

  known_of : (a b : Bool) → within 9 (pick a (pick b 13 11) 13) 14 ≡ true
  known_of true true = refl
  known_of true false = refl
  known_of false b = refl

  leaf_known : (l : Leaf) → Known (judge segwit (leaf l))
  leaf_known True = tt
  leaf_known False = tt
  leaf_known (PkK k) = if_known (allowed_leaf segwit (PkK k)) passes 11 0 tt refl
  leaf_known (RawPkH d) = tt
  leaf_known (After n) = if_known (allowed_leaf segwit (After n)) passes 12 0 tt refl
  leaf_known (Older n) = if_known (allowed_leaf segwit (Older n)) passes 12 0 tt refl
  leaf_known (HashLock h d) = tt
  leaf_known (Multi k ks) = if_known (allowed_leaf segwit (Multi k ks)) passes (leaf_refusal segwit (Multi k ks)) 0 tt (known_of (multi_count (length ks)) (all_multi_keys segwit ks))
  leaf_known (MultiA k d ds) = if_known (allowed_leaf segwit (MultiA k d ds)) passes (leaf_refusal segwit (MultiA k d ds)) 0 tt (known_of (multi_a_threshold k) (all_multi_a_keys segwit (d ∷ ds)))

  judge_known : (t : Tree) → Known (judge segwit t)
  judge_known (leaf l) = leaf_known l
  judge_known (wrap w x) = rule_known (type_of segwit (wrap w x))
  judge_known (join c x y) = rule_known (type_of segwit (join c x y))
  judge_known (and_or x y z) = rule_known (type_of segwit (and_or x y z))
  judge_known (thresh k x xs) = if_known (thresh_allowed k x xs) (by_rule (type_of segwit (thresh k x xs))) 13 0 (rule_known (type_of segwit (thresh k x xs))) refl

  -- The table, case by case
  rows_right : (p : Point) → RightCases p (cases segwit p)
  rows_right inExpression = (λ d work done text h. h (leaf (PkK (key BYTES33 d))))
      & (λ d work done text h. h (leaf (PkK (key BYTES65 d))))
      & (λ d work done text h. h (leaf (PkK (key BYTES32 d))))
      & (λ work done text h t. h (wrap check t))
      & (refl, λ text. refl)
      & (λ work done text h t. h (wrap zeroNotEqual t))
      & (refl, λ text. refl)
      & (refl, λ text. refl)
      & (refl, λ text. refl)
      & (λ work done text h. h (leaf False))
      & (λ work done text h. h (leaf True))
      & (λ work done text h z. (op ENDIF ∷ text, refl, λ t. (text, refl, h)))
      & (λ work done text h y x. h (join and_b x y))
      & (λ work done text h y x. h (join or_b x y))
      & (refl, λ text. refl)
      & (refl, λ text. refl)
      & tt
  rows_right afterVerify = (refl, λ text. refl) & (λ t work done text h x. h (wrap verify x)) & tt
  rows_right afterVerifyEqual = (λ d. (refl, λ text. refl)) & (λ d. (refl, λ text. refl)) & (λ k work done text h. (nil, done, op VERIFY ∷ text, refl, refl, refl, λ t. h (wrap verify t))) & tt
  rows_right (afterVerifyEqualHash20 d) = (refl, λ text. refl) & (refl, λ text. refl) & tt
  rows_right (afterVerifyEqualHash20Hash160 d) = (λ work done text h. h (leaf (RawPkH d))) & (refl, λ text. refl) & tt
  rows_right (after_bytes32 v d) = (refl, λ text. refl) & (refl, λ text. refl) & tt
  rows_right afterCheckSequenceVerify = (λ n work done text h. h (leaf (Older n))) & tt
  rows_right afterCheckLockTimeVerify = (λ n work done text h. h (leaf (After n))) & tt
  rows_right afterEqual = (λ d. (refl, λ text. refl)) & (λ d. (refl, λ text. refl)) & (λ k work done text h. (nil, done, text, refl, refl, refl, h)) & tt
  rows_right (afterEqualHash20 d) = (refl, λ text. refl) & (refl, λ text. refl) & tt
  rows_right (lockVerify v k d) = (refl, λ text. refl) & tt
  rows_right (lockEqual v k d) = (refl, λ text. refl) & tt
  rows_right (lock32 v k d) = (refl, λ text. refl) & tt
  rows_right (lockSize true k d) = (λ work done text h. h (wrap verify (leaf (HashLock k d)))) & tt
  rows_right (lockSize false k d) = (λ work done text h. h (leaf (HashLock k d))) & tt
  rows_right afterCheckMultiSig = (λ n. or_refuse afterCheckMultiSig (num n) (multi_count n) (read_on (multi_keys n [])) 13 refl (refl, λ text. ap (λ (m : ℕ). num m ∷ op CHECKMULTISIG ∷ text) (omega arith))) & tt
  rows_right (multi_keys (suc n) ks) =
      (λ d. or_refuse (multi_keys (suc n) ks) (push BYTES33 d) (multi_key segwit (key BYTES33 d)) (read_on (multi_keys n (key BYTES33 d ∷ ks))) 11 refl (refl, λ text. more_keys n ks (key BYTES33 d) text))
      & (λ d. or_refuse (multi_keys (suc n) ks) (push BYTES65 d) (multi_key segwit (key BYTES65 d)) (read_on (multi_keys n (key BYTES65 d ∷ ks))) 11 refl (refl, λ text. more_keys n ks (key BYTES65 d) text))
      & tt
  rows_right (multi_keys zero ks) = (λ k work done text h. rw (all_keys ks) (h (leaf (Multi k ks)))) & tt
  rows_right afterNumEqual = (λ k. or_refuse afterNumEqual (num k) (multi_a_threshold k) (read_on (multiAKeys k [])) 13 refl (refl, λ text. refl)) & tt
  rows_right (multiAKeys k ds) = (refl, λ text. refl) & (refl, λ text. refl) & tt
  rows_right (afterCheckSigAdd k ds) = (λ d. or_refuse (afterCheckSigAdd k ds) (push BYTES32 d) (multi_a_key segwit d) (read_on (multiAKeys k (d ∷ ds))) 11 refl (refl, λ text. refl)) & tt
  rows_right (afterCheckSig k ds) = (λ d. or_refuse (afterCheckSig k ds) (push BYTES32 d) (multi_a_key segwit d) (make (MultiA k d ds) []) 11 refl (λ work done text h. h (leaf (MultiA k d ds)))) & tt
  rows_right inSwap = swap_right & tt
  rows_right inAlt = alt_right & tt
  rows_right (in_thresh_w k n) = (λ work done text h x. (x ⊳ h.0, h.1, h.2, rw h.3, ap suc h.4, rw h.5, h.6))
      & (λ t work done text h x. (h.0, h.1, h.2, h.3, ap suc h.4, rw h.5, h.6))
      & tt
  rows_right inEndIf = else_right & (refl, λ text. refl) & notif_right & tt
  rows_right afterIf = if_right dupIf (λ text. op DUP ∷ op IF ∷ text) (λ z rest. refl) & (refl, λ text. refl) & tt
  rows_right afterIfZeroNotEqual = if_right nonZero (λ text. op SIZE ∷ op ZERONOTEQUAL ∷ op IF ∷ text) (λ z rest. refl) & tt
  rows_right inEndIfNotIf = or_right or_d (λ text. op IFDUP ∷ text) (λ x z rest. refl) & (λ t. or_right or_c (λ text. text) (λ x z rest. refl)) & tt
  rows_right inEndIfElse = ori_right & tern_right & tt
  rows_right inWExpression = (λ work done text h x. (op FROMALTSTACK ∷ text, refl, λ t. h (wrap alt t))) & (λ t work done text h x. (text, refl, λ u. h (wrap swap u))) & tt

  act_right : (p : Point) (t : Lexeme) → Right p t (act_at segwit p t)
  act_right p t = look_right p t (cases segwit p) (rows_right p)

  -- A state is good: the tokens left, and behind them the text of what is pending, are all the tokens; and every finished tree has passed. A refusal has a number from 9 to 14
  abbrev pub Good : List Lexeme → Next → Type 0
  Good all (stops r) = within 9 r.number 14 ≡ true
  Good all (goes s) = (text : List Lexeme) × Pending s.work s.done text × (reverse_aux s.left text ≡ all) × AllPassed s.done

  module _ (tokens : List Lexeme) where
    admit_good : (t : Tree) (j : Judged) → judge segwit t ≡ j → Known j → (work : List NonTerm) (left : List Lexeme) (done : Trees) → Children t → AllPassed done
        → (text : List Lexeme) → Pending work (t ⊳ done) text → reverse_aux left text ≡ tokens → Good tokens (admit j work left (t ⊳ done))
    admit_good t passes e k work left done c p text h r = (text, h, r, (passed t e c, p))
    admit_good t (fails n w) e k work left done c p text h r = k

    finish_good : (t : Tree) (work : List NonTerm) (left : List Lexeme) (done : Trees) → Children t → AllPassed done
        → (text : List Lexeme) → Pending work (t ⊳ done) text → reverse_aux left text ≡ tokens → Good tokens (finish segwit t work left done)
    finish_good t work left done c p text h r = admit_good t (judge segwit t) refl (judge_known t) work left done c p text h r

    one_good : (w : Wrapper) (work : List NonTerm) (left : List Lexeme) (done : Trees) → AllPassed done
        → (text : List Lexeme) → Pending (Reduce1 w ∷ work) done text → reverse_aux left text ≡ tokens → Good tokens (finish1 segwit w work left done)
    one_good w work left nil p text h r = absurd h
    one_good w work left (x ⊳ done) p text h r = finish_good (wrap w x) work left done p.0 p.1 text h r

    two_good : (c : Combination) (work : List NonTerm) (left : List Lexeme) (done : Trees) → AllPassed done
        → (text : List Lexeme) → Pending (Reduce2 c ∷ work) done text → reverse_aux left text ≡ tokens → Good tokens (finish2 segwit c work left done)
    two_good c work left nil p text h r = absurd h
    two_good c work left (x ⊳ nil) p text h r = absurd h
    two_good c work left (x ⊳ (y ⊳ done)) p text h r = finish_good (join c x y) work left done (p.0, p.1.0) p.1.1 text h r

    andv_good : (work : List NonTerm) (left : List Lexeme) (done : Trees) → AllPassed done
        → (text : List Lexeme) → Pending (AndV ∷ work) done text → reverse_aux left text ≡ tokens → Good tokens (finish2 segwit and_v work left done)
    andv_good work left nil p text h r = absurd h
    andv_good work left (x ⊳ nil) p text h r = absurd h
    andv_good work left (x ⊳ (y ⊳ done)) p text h r = finish_good (join and_v x y) work left done (p.0, p.1.0) p.1.1 text (rw h.1 (h.2 (join and_v x y))) r

    three_good : (work : List NonTerm) (left : List Lexeme) (done : Trees) → AllPassed done
        → (text : List Lexeme) → Pending (Tern ∷ work) done text → reverse_aux left text ≡ tokens → Good tokens (finish3 segwit work left done)
    three_good work left nil p text h r = absurd h
    three_good work left (x ⊳ nil) p text h r = absurd h
    three_good work left (x ⊳ (z ⊳ nil)) p text h r = absurd h
    three_good work left (x ⊳ (z ⊳ (y ⊳ done))) p text h r = finish_good (and_or x y z) work left done (p.0, (p.1.1.0, p.1.0)) p.1.1.1 text h r

    split : (xs under : Trees) → AllPassed (◌⊕◌ xs under) → AllPassed xs × AllPassed under
    split nil under p = (tt, p)
    split (x ⊳ xs) under p = ((p.0, (split xs under p.1).0), (split xs under p.1).1)

    no_children_lem : (n : ℕ) → 0 ≡ suc n → ⊥
    no_children_lem n e = omega arith

    thresh_good : (k n : ℕ) (work : List NonTerm) (left : List Lexeme) (done : Trees) → AllPassed done
        → (text : List Lexeme) → Pending (ThreshE k n ∷ work) done text → reverse_aux left text ≡ tokens → Good tokens (finish_many segwit k n work left done)
    thresh_good k n work left nil p text h r = absurd h
    thresh_good k zero work left (x ⊳ done) p text h r = absurd (no_children_lem (many h.0) h.4)
    thresh_good k (suc n) work left (x ⊳ done) p text h r =
        let en : n ≡ many h.0 = cc in
        let q = split h.0 h.1 (rw h.3 at p.1) in
        rw (h.3, en, take_all) (finish_good (thresh k x h.0) work left h.1 (p.0, q.0) q.1 text (rw h.5 (h.6 (thresh k x h.0))) r)

    act_good : (p : Point) (t : Lexeme) (a : Act) (left : List Lexeme) (work : List NonTerm) (done : Trees) → AllPassed done
        → (text : List Lexeme) → Right p t a → Pending (entry_at p ∷ work) done text → reverse_aux left (t ∷ read_at p text) ≡ tokens
        → ((q : Point) → Pending (entry_at q ∷ work) done text → reverse_aux left (read_at q text) ≡ tokens → Good tokens (perform segwit (read_from segwit q left) work done))
        → Good tokens (perform segwit (follow a (λ q. read_from segwit q left) t left) work done)
    act_good p t (read_on q) left work done g text r h e ih = ih q (rw r.0 h) (rw (r.1 text) e)
    act_good p t (enter es) left work done g text r h e ih = (_, r work done text h, e, g)
    act_good p t (put_back es) left work done g text r h e ih = (_, r work done text h, e, g)
    act_good p t (make l es) left work done g text r h e ih = finish_good (leaf l) (es ++ work) left done tt g _ (r work done text h) e
    act_good p t (reduce1 w) left work done g text r h e ih = one_good w work left done g _ (r work done text h) e
    act_good p t (reduce2 c) left work done g text r h e ih = two_good c work left done g _ (r work done text h) e
    act_good p t (refuse n) left work done g text r h e ih = r

    read_good : (p : Point) (left : List Lexeme) (work : List NonTerm) (done : Trees) → AllPassed done
        → (text : List Lexeme) → Pending (entry_at p ∷ work) done text → reverse_aux left (read_at p text) ≡ tokens → Good tokens (perform segwit (read_from segwit p left) work done)
    read_good p [] work done g text h e = refl
    read_good p (t ∷ left) work done g text h e = act_good p t (act_at segwit p t) left work done g text (act_right p t) h e (λ q h' e'. read_good q left work done g text h' e')

    pick_good : (b : Bool) (x y : Found) (work : List NonTerm) (done : Trees) → Good tokens (perform segwit x work done) → Good tokens (perform segwit y work done) → Good tokens (perform segwit (pick b x y) work done)
    pick_good true x y work done p q = p
    pick_good false x y work done p q = q

    shut_good : (work : List NonTerm) (done : Trees) (text : List Lexeme) → Pending (MaybeAndV ∷ work) done text → Pending work done text
    shut_good work nil text h = absurd h
    shut_good work (x ⊳ done) text h = rw h.1 (h.2 x)

    open_good : (work : List NonTerm) (done : Trees) (text : List Lexeme) → Pending (MaybeAndV ∷ work) done text → Pending (Expression ∷ AndV ∷ work) done text
    open_good work nil text h = absurd h
    open_good work (y ⊳ done) text h = λ x. (h.0, rw h.1, h.2)

    more_good : (work : List NonTerm) (done : Trees) (text : List Lexeme) → Pending (AndV ∷ work) done text → Pending (MaybeAndV ∷ AndV ∷ work) done text
    more_good work nil text h = absurd h
    more_good work (x ⊳ nil) text h = absurd h
    more_good work (x ⊳ (y ⊳ done)) text h = (tree_before y h.0, h.1, λ t. (h.0, refl, h.2))

    entry_good : (entry : NonTerm) (work : List NonTerm) (left : List Lexeme) (done : Trees) → AllPassed done
        → (text : List Lexeme) → Pending (entry ∷ work) done text → reverse_aux left text ≡ tokens → Good tokens (perform segwit (row_of segwit entry left) work done)
    entry_good Expression work left done g text h e = read_good inExpression left work done g text h e
    entry_good WExpression work left done g text h e = read_good inWExpression left work done g text h e
    entry_good MaybeAndV work left done g text h e = pick_good (is_and_v left) _ _ work done (text, open_good work done text h, e, g) (text, shut_good work done text h, e, g)
    entry_good AndV work left done g text h e = pick_good (is_and_v left) _ _ work done (text, more_good work done text h, e, g) (andv_good work left done g text h e)
    entry_good Alt work left done g text h e = read_good inAlt left work done g text h e
    entry_good Swap work left done g text h e = read_good inSwap left work done g text h e
    entry_good EndIf work left done g text h e = read_good inEndIf left work done g text h e
    entry_good EndIfNotIf work left done g text h e = read_good inEndIfNotIf left work done g text h e
    entry_good EndIfElse work left done g text h e = read_good inEndIfElse left work done g text h e
    entry_good Tern work left done g text h e = three_good work left done g text h e
    entry_good (Reduce1 w) work left done g text h e = one_good w work left done g text h e
    entry_good (Reduce2 c) work left done g text h e = two_good c work left done g text h e
    entry_good (ThreshW k n) work left done g text h e = read_good (in_thresh_w k n) left work done g text h e
    entry_good (ThreshE k n) work left done g text h e = thresh_good k n work left done g text h e

    -- the start is good
    pub start_good : (left : List Lexeme) → reverse_aux left [] ≡ tokens → Good tokens (goes_on (Expression ∷ MaybeAndV ∷ []) left nil)
    start_good left e = ([], (λ y. ([], refl, λ t. refl)), e, tt)

    -- a good state with an entry on its work list steps to a good one
    pub step_good : (entry : NonTerm) (work : List NonTerm) (left : List Lexeme) (done : Trees)
        → Good tokens (goes_on (entry ∷ work) left done) → Good tokens (step segwit (entry ∷ work) left done)
    step_good entry work left done g = entry_good entry work left done g.3 g.0 g.1 g.2

    -- where a good state has no entry left, one tree is finished; with no token left, it is written with the tokens
    pub end_good : (left : List Lexeme) (done : Trees) → Good tokens (goes_on [] left done) → (t : Tree) × (done ≡ t ⊳ nil) × Passed t × (reverse_aux left (written t) ≡ tokens)
    unfolding written
    end_good left nil g = absurd g.1
    end_good left (t ⊳ nil) g = (t, refl, g.3.0, rw g.1 at g.2)
    end_good left (t ⊳ (u ⊳ done)) g = absurd g.1
