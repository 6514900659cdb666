-- The tokens of every well-typed, allowed tree are read, to a tree of the same type that has the form that the rows build, and to the very tree if it has that form (`complete_form`).
-- Why: a tree is read as an expression with no and_v before it (`Core`), or as a chain of such (`Parsed`). c:, v:, n: and and_b's first child let the chain float out, with the same type (laws 4 and 5); the first child of or_b, or_d, or_c, and_or and thresh is dissatisfiable, so it has no chain (laws 2 and 3). The rest is walking the rows.
use Rattle.std.specs.Prelude.{◌≡◌, refl, Bool, true, false, ◌&&◌, ℕ, suc, ◌+◌, eqb, leb, length}
use Rattle.std.proofs.Common.{sym, ap, ◌∙◌, true≢false, arith, eqb-true}
use mathlib.Core.List.{List, [], ◌∷◌, ◌++◌, reverse_aux, append-nil, reverse_aux-append}
use Rattle.correctness.specs.declared.Correctness.{Correctness}
use Rattle.correctness.specs.Typed.{Typed}
use Rattle.std.specs.Prelude.{Ok, Err}
use Rattle.base_input.specs.Tests.{is_w}
use Rattle.correctness.specs.Rules as rules
use Rattle.correctness.specs.Rules.{onward}
use Rattle.correctness.specs.AndVLaws.{and_v_not_dissatisfiable}
use Rattle.lex.specs.Token.{Data, Lexeme, op, num, push}
use Rattle.lex.specs.Token.{BOOLAND, BOOLOR, ADD, EQUAL, NUMEQUAL, CHECKSIG, CHECKSIGADD, CHECKMULTISIG, CHECKSEQUENCEVERIFY, CHECKLOCKTIMEVERIFY, FROMALTSTACK, TOALTSTACK, DUP, IF, IFDUP, NOTIF, ELSE, ENDIF, ZERONOTEQUAL, SIZE, SWAP, VERIFY, HASH160, HASH20, BYTES32, BYTES33}
use Rattle.tables.specs.Choose.{pick}
use Rattle.tables.proofs.BoolLaws.{left_true, right_true}
use Rattle.standard.specs.Tree.{Key, key, Hash, sha256, hash256, ripemd160, hash160, Leaf, True, False, PkK, RawPkH, After, Older, HashLock, Multi, MultiA, Wrapper, alt, swap, check, dupIf, verify, nonZero, zeroNotEqual, Combination, and_v, and_b, or_b, or_d, or_c, or_i, Tree, Trees, leaf, wrap, join, and_or, thresh, nil, ◌⊳◌, many, ◌⊕◌, is_and_v_tree, left_nested}
use Rattle.standard.specs.RowForm.{floats, floated_out, row_form}
use Rattle.standard.proofs.FormLaws.{all_row_form, wrap_form, join_form, and_or_form, thresh_form, all_form, wrap_form_parts, join_form_parts, and_or_form_parts, thresh_form_parts, all_form_parts}
use Rattle.standard.specs.Written.{key_push, hash_opcode, hash_push, keys_before, added_keys_before, leaf_before, opening, closing, first, between, last, tree_before, added_trees_before, written}
use Rattle.standard.specs.Allowed.{within, key_form, multi_key, multi_a_key, all_multi_keys, all_multi_a_keys, multi_count, multi_a_threshold, allowed_leaf, thresh_allowed, allowed, all_allowed}
use Rattle.standard.specs.Types.{wrapper_rule, combination_rule, AllTyped, all, not_all, and_then, ruled, type_of, types_of, typed_leaf, passes, judge}
use Rattle.standard.specs.Rows.{NonTerm, Expression, WExpression, MaybeAndV, AndV, Alt, Swap, EndIf, EndIfNotIf, EndIfElse, Tern, Reduce1, Reduce2, ThreshW, ThreshE, Check, Verify, ZeroNotEqual, OrC, OrD, multi_keys, multiAKeys, inWExpression, inEndIfNotIf, in_thresh_w, afterVerify, put_back, act_at, is_and_v, read_from}
use Rattle.standard.specs.Machine.{Next, goes_on, step}
use Rattle.standard.proofs.Sound.{take_all}
use Rattle.standard.proofs.RuleLaws.{onward_is, gives_w, takes_w, wrapper_bases, combination_bases, and_or_bases, AllW, threshold_bases, leaf_base, first_dissatisfiable_lem, and_or_dissatisfiable, and_v_associative, wrapper_floats, and_b_floats}
use Rattle.standard.proofs.Runs as runs
use Rattle.standard.proofs.Runs.{begin}

-- The tokens of a tree as they are read: last first, in front of `left`

abbrev pub keys_read : List Key → List Lexeme → List Lexeme
keys_read [] left = left
keys_read (k ∷ ks) left = keys_read ks (key_push k ∷ left)

abbrev pub added_keys_read : List Data → List Lexeme → List Lexeme
added_keys_read [] left = left
added_keys_read (d ∷ ds) left = added_keys_read ds (op CHECKSIGADD ∷ push BYTES32 d ∷ left)

abbrev pub leaf_read : Leaf → List Lexeme → List Lexeme
leaf_read True left = num 1 ∷ left
leaf_read False left = num 0 ∷ left
leaf_read (PkK k) left = key_push k ∷ left
leaf_read (RawPkH d) left = op VERIFY ∷ op EQUAL ∷ push HASH20 d ∷ op HASH160 ∷ op DUP ∷ left
leaf_read (After n) left = op CHECKLOCKTIMEVERIFY ∷ num n ∷ left
leaf_read (Older n) left = op CHECKSEQUENCEVERIFY ∷ num n ∷ left
leaf_read (HashLock h d) left = op EQUAL ∷ push (hash_push h) d ∷ op (hash_opcode h) ∷ op VERIFY ∷ op EQUAL ∷ num 32 ∷ op SIZE ∷ left
leaf_read (Multi k ks) left = op CHECKMULTISIG ∷ num (length ks) ∷ keys_read ks (num k ∷ left)
leaf_read (MultiA k d ds) left = op NUMEQUAL ∷ num k ∷ added_keys_read ds (op CHECKSIG ∷ push BYTES32 d ∷ left)

abbrev mutual
  pub tree_read : Tree → List Lexeme → List Lexeme
  tree_read (leaf l) left = leaf_read l left
  tree_read (wrap w x) left = reverse_aux (closing w) (tree_read x (reverse_aux (opening w) left))
  tree_read (join c x y) left = reverse_aux (last c) (tree_read y (reverse_aux (between c) (tree_read x (reverse_aux (first c) left))))
  tree_read (and_or x y z) left = op ENDIF ∷ tree_read y (op ELSE ∷ tree_read z (op NOTIF ∷ tree_read x left))
  tree_read (thresh k x xs) left = op EQUAL ∷ num k ∷ added_trees_read xs (tree_read x left)

  pub added_trees_read : Trees → List Lexeme → List Lexeme
  added_trees_read nil left = left
  added_trees_read (x ⊳ xs) left = added_trees_read xs (op ADD ∷ tree_read x left)

keys_reversed : (ks : List Key) (rest left : List Lexeme) → reverse_aux (keys_before ks rest) left ≡ reverse_aux rest (keys_read ks left)
keys_reversed [] rest left = refl
keys_reversed (k ∷ ks) rest left = keys_reversed ks rest (key_push k ∷ left)

added_keys_reversed : (ds : List Data) (rest left : List Lexeme) → reverse_aux (added_keys_before ds rest) left ≡ reverse_aux rest (added_keys_read ds left)
added_keys_reversed [] rest left = refl
added_keys_reversed (d ∷ ds) rest left = added_keys_reversed ds rest (op CHECKSIGADD ∷ push BYTES32 d ∷ left)

leaf_reversed : (l : Leaf) (rest left : List Lexeme) → reverse_aux (leaf_before l rest) left ≡ reverse_aux rest (leaf_read l left)
leaf_reversed True rest left = refl
leaf_reversed False rest left = refl
leaf_reversed (PkK k) rest left = refl
leaf_reversed (RawPkH d) rest left = refl
leaf_reversed (After n) rest left = refl
leaf_reversed (Older n) rest left = refl
leaf_reversed (HashLock h d) rest left = refl
leaf_reversed (Multi k ks) rest left = keys_reversed ks _ (num k ∷ left)
leaf_reversed (MultiA k d ds) rest left = added_keys_reversed ds _ (op CHECKSIG ∷ push BYTES32 d ∷ left)

mutual
  pub tree_reversed : (t : Tree) (rest left : List Lexeme) → reverse_aux (tree_before t rest) left ≡ reverse_aux rest (tree_read t left)
  tree_reversed (leaf l) rest left = leaf_reversed l rest left
  tree_reversed (wrap w x) rest left = reverse_aux-append (opening w) _ left ∙ tree_reversed x _ _ ∙ reverse_aux-append (closing w) rest _
  tree_reversed (join c x y) rest left = reverse_aux-append (first c) _ left ∙ tree_reversed x _ _ ∙ reverse_aux-append (between c) _ _ ∙ tree_reversed y _ _ ∙ reverse_aux-append (last c) rest _
  tree_reversed (and_or x y z) rest left = tree_reversed x _ left ∙ tree_reversed z _ _ ∙ tree_reversed y _ _
  tree_reversed (thresh k x xs) rest left = tree_reversed x _ left ∙ added_trees_reversed xs _ _

  added_trees_reversed : (xs : Trees) (rest left : List Lexeme) → reverse_aux (added_trees_before xs rest) left ≡ reverse_aux rest (added_trees_read xs left)
  added_trees_reversed nil rest left = refl
  added_trees_reversed (x ⊳ xs) rest left = tree_reversed x _ left ∙ added_trees_reversed xs rest _

-- a chain: the and_v's before an expression, the nearest first

abbrev pub chain : Trees → Tree → Tree
chain nil x = x
chain (u ⊳ us) x = join and_v (chain us u) x

abbrev pub chain_read : Trees → List Lexeme → List Lexeme
chain_read nil left = left
chain_read (u ⊳ us) left = tree_read u (chain_read us left)

chain_read_lem : (us : Trees) (x : Tree) (left : List Lexeme) → tree_read (chain us x) left ≡ tree_read x (chain_read us left)
chain_read_lem nil x left = refl
chain_read_lem (u ⊳ us) x left = ap (tree_read x) (chain_read_lem us u left)

chain_append : (us vs : Trees) (left : List Lexeme) → chain_read (◌⊕◌ us vs) left ≡ chain_read us (chain_read vs left)
chain_append nil vs left = refl
chain_append (u ⊳ us) vs left = ap (tree_read u) (chain_append us vs left)

module _ (segwit : Bool) where
  abbrev Reach : Next → Next → Type 0
  Reach a b = runs.Reach segwit a b

  at_once : {a : Next} → Reach a a
  at_once = runs.at_once segwit

  later : {work : List NonTerm} {left : List Lexeme} {done : Trees} {b : Next} → Reach (step segwit work left done) b → Reach (goes_on work left done) b
  later p = runs.later segwit p

  infixr 40 ◌⨾◌
  ◌⨾◌ : {a b c : Next} → Reach a b → Reach b c → Reach a c
  ◌⨾◌ p q = runs.then segwit p q

  -- A token that ends an expression: and_v may go on before it, and it is no FROMALTSTACK, no IFDUP and no ADD
  abbrev Fine : Lexeme → Type 0
  Fine t = ((left : List Lexeme) → is_and_v (t ∷ left) ≡ true) × (act_at segwit inWExpression t ≡ put_back (MaybeAndV ∷ Swap ∷ [])) × (act_at segwit inEndIfNotIf t ≡ put_back (OrC ∷ []))
      × ((k n : ℕ) → act_at segwit (in_thresh_w k n) t ≡ put_back (ThreshE k (suc n) ∷ []))

  -- What the row of an expression reads as one, under VERIFY too
  record Core (x : Tree) : Type 0 where
    type : Correctness
    typed : type_of segwit x ≡ Ok type
    runs : (work : List NonTerm) (left : List Lexeme) (done : Trees) → Reach (goes_on (Expression ∷ work) (tree_read x left) done) (goes_on work left (x ⊳ done))
    end : Lexeme
    rest : List Lexeme → List Lexeme
    ends : (left : List Lexeme) → tree_read x left ≡ end ∷ rest left
    fine : Fine end
    verified : (work : List NonTerm) (left : List Lexeme) (done : Trees) → Reach (goes_on (Expression ∷ work) (op VERIFY ∷ tree_read x left) done) (goes_on (Verify ∷ work) left (x ⊳ done))
    single : is_and_v_tree x ≡ false
    form : row_form x ≡ true

  abbrev Cores : Trees → Type 0
  Cores nil = Unit {0}
  Cores (u ⊳ us) = Core u × Cores us

  -- A tree's tokens, read as and_v's before one expression
  record Parsed (t : Tree) (c : Correctness) : Type 0 where
    us : Trees
    x : Tree
    core : Core x
    cores : Cores us
    typed : type_of segwit (chain us x) ≡ Ok c
    reads : (left : List Lexeme) → tree_read t left ≡ tree_read x (chain_read us left)
    kept : row_form t ≡ true → chain us x ≡ t

  -- The same as one tree, where MaybeAndV stands under the expression
  record Canon (t : Tree) (c : Correctness) : Type 0 where
    x : Tree
    typed : type_of segwit x ≡ Ok c
    runs : (work : List NonTerm) (left : List Lexeme) (done : Trees) → is_and_v left ≡ false → Reach (goes_on (Expression ∷ MaybeAndV ∷ work) (tree_read x left) done) (goes_on work left (x ⊳ done))
    end : Lexeme
    rest : List Lexeme → List Lexeme
    ends : (left : List Lexeme) → tree_read x left ≡ end ∷ rest left
    fine : Fine end
    form : row_form x ≡ true
    reads : (left : List Lexeme) → tree_read t left ≡ tree_read x left
    kept : row_form t ≡ true → x ≡ t

  -- A W, read by its own row
  record WParsed (t : Tree) (c : Correctness) : Type 0 where
    x : Tree
    typed : type_of segwit x ≡ Ok c
    runs : (work : List NonTerm) (left : List Lexeme) (done : Trees) → Reach (goes_on (WExpression ∷ work) (tree_read x left) done) (goes_on work left (x ⊳ done))
    form : row_form x ≡ true
    reads : (left : List Lexeme) → tree_read t left ≡ tree_read x left
    kept : row_form t ≡ true → x ≡ t

  -- types of nodes from those of their children, and back

  wrap_typed : (w : Wrapper) (x : Tree) (c r : Correctness) → type_of segwit x ≡ Ok c → wrapper_rule segwit w c ≡ Ok r → type_of segwit (wrap w x) ≡ Ok r
  wrap_typed w x c r e f = rw e f

  join_typed : (k : Combination) (x y : Tree) (a b r : Correctness) → type_of segwit x ≡ Ok a → type_of segwit y ≡ Ok b → combination_rule k a b ≡ Ok r → type_of segwit (join k x y) ≡ Ok r
  join_typed k x y a b r e f g = rw (e, f) g

  join_parts : (k : Combination) (x y : Tree) (r : Correctness) → type_of segwit (join k x y) ≡ Ok r
      → (a : Correctness) × (b : Correctness) × (type_of segwit x ≡ Ok a) × (type_of segwit y ≡ Ok b) × (combination_rule k a b ≡ Ok r)
  join_parts k x y r e =
      let h = onward_is (type_of segwit x) (λ a. onward (type_of segwit y) (λ b. combination_rule k a b)) r e in
      let g = onward_is (type_of segwit y) (λ b. combination_rule k h.0 b) r h.2 in
      (h.0, g.0, h.1, g.1, g.2)

  wrap_passes : (w : Wrapper) (x : Tree) (c : Correctness) → type_of segwit (wrap w x) ≡ Ok c → judge segwit (wrap w x) ≡ passes
  wrap_passes w x c e = rw e

  join_passes : (k : Combination) (x y : Tree) (c : Correctness) → type_of segwit (join k x y) ≡ Ok c → judge segwit (join k x y) ≡ passes
  join_passes k x y c e = rw e

  -- Chains

  goes_on_lem : {x : Tree} → Core x → (left : List Lexeme) → is_and_v (tree_read x left) ≡ true
  goes_on_lem c left = rw c.ends (c.fine.0 (c.rest left))

  chain_run : (us : Trees) → Cores us → (v y : Tree) (c : Correctness) → type_of segwit (join and_v (chain us v) y) ≡ Ok c
      → (work : List NonTerm) (left : List Lexeme) (done : Trees) → is_and_v left ≡ false
      → Reach (goes_on (AndV ∷ work) (chain_read us left) (v ⊳ (y ⊳ done))) (goes_on work left (join and_v (chain us v) y ⊳ done))
  chain_run nil cs v y c e work left done stop = later (rw stop (runs.made segwit (join and_v v y) (join_passes and_v v y c e) at_once))
  chain_run (u ⊳ us) cs v y c e work left done stop =
      let h = join_parts and_v (join and_v (chain us u) v) y c e in
      let on : is_and_v (tree_read u (chain_read us left)) ≡ true = goes_on_lem cs.0 (chain_read us left) in
      later (rw on (later (rw on at_once))) ⨾ cs.0.runs (AndV ∷ AndV ∷ work) (chain_read us left) (v ⊳ (y ⊳ done))
      ⨾ chain_run us cs.1 u v h.0 h.2 (AndV ∷ work) left (y ⊳ done) stop
      ⨾ later (rw stop (runs.made segwit (join and_v (chain (u ⊳ us) v) y) (join_passes and_v (chain (u ⊳ us) v) y c e) at_once))

  canon_run : (us : Trees) → Cores us → (x : Tree) (c : Correctness) → type_of segwit (chain us x) ≡ Ok c → (work : List NonTerm) (left : List Lexeme) (done : Trees) → is_and_v left ≡ false
      → Reach (goes_on (MaybeAndV ∷ work) (chain_read us left) (x ⊳ done)) (goes_on work left (chain us x ⊳ done))
  canon_run nil cs x c e work left done stop = later (rw stop at_once)
  canon_run (u ⊳ us) cs x c e work left done stop =
      later (rw (goes_on_lem cs.0 (chain_read us left)) at_once) ⨾ cs.0.runs (AndV ∷ work) (chain_read us left) (x ⊳ done)
      ⨾ chain_run us cs.1 u x c e work left done stop

  chain_form : (us : Trees) → Cores us → (x : Tree) → Core x → row_form (chain us x) ≡ true
  chain_form nil cs x c = c.form
  chain_form (u ⊳ us) cs x c = join_form and_v (chain us u) x refl c.single (chain_form us cs.1 u cs.0) c.form

  canon : (t : Tree) (c : Correctness) → Parsed t c → Canon t c
  canon t c p = record {
    x = chain p.us p.x;
    typed = p.typed;
    runs = λ work left done stop. rw (chain_read_lem p.us p.x left) (p.core.runs (MaybeAndV ∷ work) (chain_read p.us left) done ⨾ canon_run p.us p.cores p.x c p.typed work left done stop);
    end = p.core.end;
    rest = λ left. p.core.rest (chain_read p.us left);
    ends = λ left. chain_read_lem p.us p.x left ∙ p.core.ends (chain_read p.us left);
    fine = p.core.fine;
    form = chain_form p.us p.cores p.x p.core;
    reads = λ left. p.reads left ∙ sym (chain_read_lem p.us p.x left);
    kept = p.kept;
  }

  -- an expression with nothing before it
  alone : (t x : Tree) (c : Correctness) → Core x → type_of segwit x ≡ Ok c → ((left : List Lexeme) → tree_read t left ≡ tree_read x left) → (row_form t ≡ true → x ≡ t) → Parsed t c
  alone t x c k e r h = record { us = nil; x = x; core = k; cores = tt; typed = e; reads = r; kept = h }

  -- a tree that can be dissatisfied has no and_v before it
  abbrev Solo : Tree → Correctness → Type 0
  Solo t c = (x : Tree) × Core x × (type_of segwit x ≡ Ok c) × ((left : List Lexeme) → tree_read t left ≡ tree_read x left) × (row_form t ≡ true → x ≡ t)

  solo_at : (t : Tree) (c : Correctness) (us : Trees) (x : Tree) → Core x → type_of segwit (chain us x) ≡ Ok c → ((left : List Lexeme) → tree_read t left ≡ tree_read x (chain_read us left))
      → (row_form t ≡ true → chain us x ≡ t) → c.dissatisfiable ≡ true → Solo t c
  solo_at t c nil x k e r h d = (x, k, e, r, h)
  solo_at t c (u ⊳ us) x k e r kept d =
      let h = join_parts and_v (chain us u) x c e in
      absurd (true≢false (sym d ∙ and_v_not_dissatisfiable h.0 h.1 c h.4))

  solo : (t : Tree) (c : Correctness) → Parsed t c → c.dissatisfiable ≡ true → Solo t c
  solo t c p d = solo_at t c p.us p.x p.core p.typed p.reads p.kept d

  -- an expression whose last token is no EQUAL
  plain : (x : Tree) (c : Correctness) (e : Lexeme) (r : List Lexeme → List Lexeme) → type_of segwit x ≡ Ok c → ((left : List Lexeme) → tree_read x left ≡ e ∷ r left) → Fine e
      → act_at segwit afterVerify e ≡ put_back (Verify ∷ []) → is_and_v_tree x ≡ false → row_form x ≡ true
      → ((work : List NonTerm) (left : List Lexeme) (done : Trees) → Reach (goes_on (Expression ∷ work) (tree_read x left) done) (goes_on work left (x ⊳ done))) → Core x
  plain x c e r te en f back si fo rn = record {
    type = c;
    typed = te;
    runs = rn;
    end = e;
    rest = r;
    ends = en;
    fine = f;
    verified = λ work left done. later (rw (en left, back) (rw (en left) at (rn (Verify ∷ work) left done)));
    single = si;
    form = fo;
  }

  -- Leaves

  pub leaf_passes : (l : Leaf) → allowed_leaf segwit l ≡ true → judge segwit (leaf l) ≡ passes
  leaf_passes l g = rw g

  abbrev leaf_type : Leaf → Correctness
  leaf_type l = rules.leaf_type (typed_leaf l)

  plain_leaf : (l : Leaf) (e : Lexeme) (r : List Lexeme → List Lexeme) → ((left : List Lexeme) → leaf_read l left ≡ e ∷ r left) → Fine e → act_at segwit afterVerify e ≡ put_back (Verify ∷ [])
      → ((work : List NonTerm) (left : List Lexeme) (done : Trees) → Reach (goes_on (Expression ∷ work) (leaf_read l left) done) (goes_on work left (leaf l ⊳ done))) → Parsed (leaf l) (leaf_type l)
  plain_leaf l e r en f back rn = alone (leaf l) (leaf l) (leaf_type l) (plain (leaf l) (leaf_type l) e r refl en f back refl refl rn) refl (λ left. refl) (λ f. refl)

  the_key_code : (z : Bool) (code : ℕ) (d : Data) → key_form z (key code d) ≡ true → code ≡ pick z BYTES33 BYTES32
  the_key_code true code d g = eqb-true code BYTES33 (left_true (eqb code BYTES33) _ g)
  the_key_code false code d g = eqb-true code BYTES32 g

  key_at_lem : (z : Bool) (code : ℕ) (d : Data) → code ≡ pick z BYTES33 BYTES32 → key_form segwit (key code d) ≡ true → (work : List NonTerm) (left : List Lexeme) (done : Trees)
      → Reach (goes_on (Expression ∷ work) (push code d ∷ left) done) (goes_on work left (leaf (PkK (key code d)) ⊳ done))
  key_at_lem true code d e g work left done = rw e (later (runs.made segwit (leaf (PkK (key BYTES33 d))) (leaf_passes (PkK (key BYTES33 d)) (rw e at g)) at_once))
  key_at_lem false code d e g work left done = rw e (later (runs.made segwit (leaf (PkK (key BYTES32 d))) (leaf_passes (PkK (key BYTES32 d)) (rw e at g)) at_once))

  key_run : (code : ℕ) (d : Data) → key_form segwit (key code d) ≡ true → (work : List NonTerm) (left : List Lexeme) (done : Trees)
      → Reach (goes_on (Expression ∷ work) (push code d ∷ left) done) (goes_on work left (leaf (PkK (key code d)) ⊳ done))
  key_run code d g work left done = key_at_lem segwit code d (the_key_code segwit code d g) g work left done

  segwit_key : (z : Bool) (code : ℕ) (d : Data) → (z && key_form z (key code d)) ≡ true → code ≡ BYTES33
  segwit_key true code d g = eqb-true code BYTES33 (left_true (eqb code BYTES33) _ g)
  segwit_key false code d g = absurd (true≢false (sym g))

  keys_run : (ks acc : List Key) (n : ℕ) (left : List Lexeme) → all_multi_keys segwit ks ≡ true → read_from segwit (multi_keys (n + length ks) acc) (keys_read ks left) ≡ read_from segwit (multi_keys n (ks ++ acc)) left
  keys_run [] acc n left g = let e : n + 0 ≡ n = omega arith in ap (λ (m : ℕ). read_from segwit (multi_keys m acc) left) e
  keys_run (key code d ∷ ks) acc n left g =
      let e : n + length (key code d ∷ ks) ≡ suc n + length ks = omega arith in
      let g1 : multi_key segwit (key code d) ≡ true = left_true (multi_key segwit (key code d)) (all_multi_keys segwit ks) g in
      let is33 = segwit_key segwit code d g1 in
      let g33 : multi_key segwit (key BYTES33 d) ≡ true = rw is33 at g1 in
      let one_key : read_from segwit (multi_keys (suc n) (ks ++ acc)) (push BYTES33 d ∷ left) ≡ read_from segwit (multi_keys n (key BYTES33 d ∷ (ks ++ acc))) left = rw g33 in
      ap (λ (m : ℕ). read_from segwit (multi_keys m acc) (keys_read ks (push code d ∷ left))) e
      ∙ keys_run ks acc (suc n) (push code d ∷ left) (right_true (multi_key segwit (key code d)) (all_multi_keys segwit ks) g)
      ∙ rw is33 one_key

  added_keys_run : (ds acc : List Data) (k : ℕ) (left : List Lexeme) → all_multi_a_keys segwit ds ≡ true → read_from segwit (multiAKeys k acc) (added_keys_read ds left) ≡ read_from segwit (multiAKeys k (ds ++ acc)) left
  added_keys_run [] acc k left g = refl
  added_keys_run (d ∷ ds) acc k left g =
      let g1 : multi_a_key segwit d ≡ true = left_true (multi_a_key segwit d) (all_multi_a_keys segwit ds) g in
      let one_key : read_from segwit (multiAKeys k (ds ++ acc)) (op CHECKSIGADD ∷ push BYTES32 d ∷ left) ≡ read_from segwit (multiAKeys k (d ∷ (ds ++ acc))) left = rw g1 in
      added_keys_run ds acc k (op CHECKSIGADD ∷ push BYTES32 d ∷ left) (right_true (multi_a_key segwit d) (all_multi_a_keys segwit ds) g) ∙ one_key

  multi_run : (k : ℕ) (ks : List Key) → allowed_leaf segwit (Multi k ks) ≡ true → (work : List NonTerm) (left : List Lexeme) (done : Trees)
      → Reach (goes_on (Expression ∷ work) (leaf_read (Multi k ks) left) done) (goes_on work left (leaf (Multi k ks) ⊳ done))
  multi_run k ks g work left done =
      let g1 : multi_count (length ks) ≡ true = left_true (multi_count (length ks)) (all_multi_keys segwit ks && within 1 k (length ks)) g in
      let g2 : all_multi_keys segwit ks ≡ true = left_true (all_multi_keys segwit ks) (within 1 k (length ks)) (right_true (multi_count (length ks)) (all_multi_keys segwit ks && within 1 k (length ks)) g) in
      let z : 0 + length ks ≡ length ks = omega arith in
      let e : read_from segwit (multi_keys (length ks) []) (keys_read ks (num k ∷ left)) ≡ read_from segwit (multi_keys 0 ks) (num k ∷ left) =
      ap (λ (m : ℕ). read_from segwit (multi_keys m []) (keys_read ks (num k ∷ left))) (sym z) ∙ keys_run ks [] 0 (num k ∷ left) g2 ∙ ap (λ (l : List Key). read_from segwit (multi_keys 0 l) (num k ∷ left)) (append-nil ks) in
      later (rw (g1, e) (runs.made segwit (leaf (Multi k ks)) (leaf_passes (Multi k ks) g) at_once))

  multi_a_run : (k : ℕ) (d : Data) (ds : List Data) → allowed_leaf segwit (MultiA k d ds) ≡ true → (work : List NonTerm) (left : List Lexeme) (done : Trees)
      → Reach (goes_on (Expression ∷ work) (leaf_read (MultiA k d ds) left) done) (goes_on work left (leaf (MultiA k d ds) ⊳ done))
  multi_a_run k d ds g work left done =
      let r = leb k (suc (length ds)) && leb (suc (length ds)) 999 in
      let g1 : multi_a_threshold k ≡ true = left_true (multi_a_threshold k) (all_multi_a_keys segwit (d ∷ ds) && r) g in
      let g2 : all_multi_a_keys segwit (d ∷ ds) ≡ true = left_true (all_multi_a_keys segwit (d ∷ ds)) r (right_true (multi_a_threshold k) (all_multi_a_keys segwit (d ∷ ds) && r) g) in
      let g3 : multi_a_key segwit d ≡ true = left_true (multi_a_key segwit d) (all_multi_a_keys segwit ds) g2 in
      let e : read_from segwit (multiAKeys k []) (added_keys_read ds (op CHECKSIG ∷ push BYTES32 d ∷ left)) ≡ read_from segwit (multiAKeys k ds) (op CHECKSIG ∷ push BYTES32 d ∷ left) =
      added_keys_run ds [] k (op CHECKSIG ∷ push BYTES32 d ∷ left) (right_true (multi_a_key segwit d) (all_multi_a_keys segwit ds) g2) ∙ ap (λ (l : List Data). read_from segwit (multiAKeys k l) (op CHECKSIG ∷ push BYTES32 d ∷ left)) (append-nil ds) in
      later (rw (g1, e, g3) (runs.made segwit (leaf (MultiA k d ds)) (leaf_passes (MultiA k d ds) g) at_once))

  -- a hash lock ends in EQUAL; under VERIFY its own rows read it
  hash_runs : (h : Hash) (d : Data) (work : List NonTerm) (left : List Lexeme) (done : Trees) → Reach (goes_on (Expression ∷ work) (leaf_read (HashLock h d) left) done) (goes_on work left (leaf (HashLock h d) ⊳ done))
  hash_runs sha256 d work left done = later at_once
  hash_runs hash256 d work left done = later at_once
  hash_runs ripemd160 d work left done = later at_once
  hash_runs hash160 d work left done = later at_once

  hash_verified : (h : Hash) (d : Data) (work : List NonTerm) (left : List Lexeme) (done : Trees)
      → Reach (goes_on (Expression ∷ work) (op VERIFY ∷ leaf_read (HashLock h d) left) done) (goes_on (Verify ∷ work) left (leaf (HashLock h d) ⊳ done))
  hash_verified sha256 d work left done = later at_once
  hash_verified hash256 d work left done = later at_once
  hash_verified ripemd160 d work left done = later at_once
  hash_verified hash160 d work left done = later at_once

  hash_core : (h : Hash) (d : Data) → Core (leaf (HashLock h d))
  hash_core h d = record {
    type = leaf_type (HashLock h d);
    typed = refl;
    runs = hash_runs h d;
    end = op EQUAL;
    rest = λ left. push (hash_push h) d ∷ op (hash_opcode h) ∷ op VERIFY ∷ op EQUAL ∷ num 32 ∷ op SIZE ∷ left;
    ends = λ left. refl;
    fine = (λ left. refl, refl, refl, λ k n. refl);
    verified = hash_verified h d;
    single = refl;
    form = refl;
  }

  leaf_par : (l : Leaf) → allowed_leaf segwit l ≡ true → Parsed (leaf l) (leaf_type l)
  leaf_par True g = plain_leaf True (num 1) (λ left. left) (λ left. refl) (λ left. refl, refl, refl, λ k n. refl) refl (λ work left done. later at_once)
  leaf_par False g = plain_leaf False (num 0) (λ left. left) (λ left. refl) (λ left. refl, refl, refl, λ k n. refl) refl (λ work left done. later at_once)
  leaf_par (PkK (key code d)) g = plain_leaf (PkK (key code d)) (push code d) (λ left. left) (λ left. refl) (λ left. refl, refl, refl, λ k n. refl) refl (key_run code d g)
  leaf_par (RawPkH d) g = plain_leaf (RawPkH d) (op VERIFY) (λ left. op EQUAL ∷ push HASH20 d ∷ op HASH160 ∷ op DUP ∷ left) (λ left. refl) (λ left. refl, refl, refl, λ k n. refl) refl (λ work left done. later at_once)
  leaf_par (After n) g = plain_leaf (After n) (op CHECKLOCKTIMEVERIFY) (λ left. num n ∷ left) (λ left. refl) (λ left. refl, refl, refl, λ k n. refl) refl (λ work left done. later (runs.made segwit (leaf (After n)) (leaf_passes (After n) g) at_once))
  leaf_par (Older n) g = plain_leaf (Older n) (op CHECKSEQUENCEVERIFY) (λ left. num n ∷ left) (λ left. refl) (λ left. refl, refl, refl, λ k n. refl) refl (λ work left done. later (runs.made segwit (leaf (Older n)) (leaf_passes (Older n) g) at_once))
  leaf_par (HashLock h d) g = alone (leaf (HashLock h d)) (leaf (HashLock h d)) (leaf_type (HashLock h d)) (hash_core h d) refl (λ left. refl) (λ f. refl)
  leaf_par (Multi k ks) g = plain_leaf (Multi k ks) (op CHECKMULTISIG) (λ left. num (length ks) ∷ keys_read ks (num k ∷ left)) (λ left. refl) (λ left. refl, refl, refl, λ k n. refl) refl (multi_run k ks g)
  leaf_par (MultiA k d ds) g = plain_leaf (MultiA k d ds) (op NUMEQUAL) (λ left. num k ∷ added_keys_read ds (op CHECKSIG ∷ push BYTES32 d ∷ left)) (λ left. refl) (λ left. refl, refl, refl, λ k n. refl) refl (multi_a_run k d ds g)

  -- Wrappers

  -- the and_v's float out of c:, v: and n:
  wrap_float : (w : Wrapper) → floats w ≡ true → (us : Trees) (x : Tree) (c r : Correctness) → type_of segwit (chain us x) ≡ Ok c → wrapper_rule segwit w c ≡ Ok r
      → (z : Correctness) × (type_of segwit (wrap w x) ≡ Ok z) × (type_of segwit (chain us (wrap w x)) ≡ Ok r)
  wrap_float w n nil x c r e f = let h = wrap_typed w x c r e f in (r, h, h)
  wrap_float w n (u ⊳ us) x c r e f =
      let h = join_parts and_v (chain us u) x c e in
      let g = wrapper_floats segwit w n h.0 h.1 c r h.4 f in
      let t = wrap_typed w x h.1 g.0 h.3 g.1 in
      (g.0, t, join_typed and_v (chain us u) (wrap w x) h.0 g.0 r h.2 t g.2)

  -- where no and_v may stand under a node, none floats out of it
  none_float : (f : Tree → Tree) (us : Trees) (x t : Tree) → chain us x ≡ t → is_and_v_tree t ≡ false → chain us (f x) ≡ f t
  none_float f nil x t e n = ap f e
  none_float f (u ⊳ us) x t e n = absurd (true≢false (ap is_and_v_tree e ∙ n))

  float : (w : Wrapper) (t : Tree) (c r : Correctness) → floats w ≡ true → wrapper_rule segwit w c ≡ Ok r → ((left : List Lexeme) → reverse_aux (opening w) left ≡ left)
      → ((x : Tree) (z : Correctness) → Core x → type_of segwit (wrap w x) ≡ Ok z → Core (wrap w x)) → Parsed t c → Parsed (wrap w t) r
  float w t c r n f o core p =
      let h = wrap_float w n p.us p.x c r p.typed f in
      record {
        us = p.us;
        x = wrap w p.x;
        core = core p.x h.0 p.core h.1;
        cores = p.cores;
        typed = h.2;
        reads = λ left. rw (o left, o (chain_read p.us left)) (ap (reverse_aux (closing w)) (p.reads left));
        kept = λ f. let h = wrap_form_parts w t f in none_float (wrap w) p.us p.x t (p.kept h.1) (rw n at h.0);
      }

  core_check : (x : Tree) (z : Correctness) → Core x → type_of segwit (wrap check x) ≡ Ok z → Core (wrap check x)
  core_check x z c e = plain (wrap check x) z (op CHECKSIG) (tree_read x) e (λ left. refl) (λ left. refl, refl, refl, λ k n. refl) refl refl (wrap_form check x c.single c.form)
      (λ work left done. later (c.runs (Check ∷ work) left done) ⨾ later (runs.made segwit (wrap check x) (wrap_passes check x z e) at_once))

  core_zero_not_equal : (x : Tree) (z : Correctness) → Core x → type_of segwit (wrap zeroNotEqual x) ≡ Ok z → Core (wrap zeroNotEqual x)
  core_zero_not_equal x z c e = plain (wrap zeroNotEqual x) z (op ZERONOTEQUAL) (tree_read x) e (λ left. refl) (λ left. refl, refl, refl, λ k n. refl) refl refl (wrap_form zeroNotEqual x c.single c.form)
      (λ work left done. later (c.runs (ZeroNotEqual ∷ work) left done) ⨾ later (runs.made segwit (wrap zeroNotEqual x) (wrap_passes zeroNotEqual x z e) at_once))

  core_verify : (x : Tree) (z : Correctness) → Core x → type_of segwit (wrap verify x) ≡ Ok z → Core (wrap verify x)
  core_verify x z c e = plain (wrap verify x) z (op VERIFY) (tree_read x) e (λ left. refl) (λ left. refl, refl, refl, λ k n. refl) refl refl (wrap_form verify x c.single c.form)
      (λ work left done. c.verified work left done ⨾ later (runs.made segwit (wrap verify x) (wrap_passes verify x z e) at_once))

  -- d: and j:
  core_if : (w : Wrapper) → floats w ≡ false → (t : Tree) (c r : Correctness) (p : List Lexeme → List Lexeme) (k : Canon t c) → type_of segwit (wrap w k.x) ≡ Ok r
      → ((left : List Lexeme) → tree_read (wrap w k.x) left ≡ op ENDIF ∷ tree_read k.x (op IF ∷ p left))
      → ((work : List NonTerm) (left : List Lexeme) (done : Trees) → step segwit (EndIf ∷ work) (op IF ∷ p left) done ≡ goes_on (Reduce1 w ∷ work) left done) → Core (wrap w k.x)
  core_if w n t c r p k te en next = plain (wrap w k.x) r (op ENDIF) (λ left. tree_read k.x (op IF ∷ p left)) te en (λ left. refl, refl, refl, λ k n. refl) refl refl (wrap_form w k.x (rw n) k.form)
      (λ work left done.
      let p1 : Reach (goes_on (Expression ∷ work) (tree_read (wrap w k.x) left) done) (goes_on (EndIf ∷ work) (op IF ∷ p left) (k.x ⊳ done)) = rw (en left) (later (k.runs (EndIf ∷ work) (op IF ∷ p left) done refl)) in
      let p2 : Reach (goes_on (EndIf ∷ work) (op IF ∷ p left) (k.x ⊳ done)) (goes_on work left (wrap w k.x ⊳ done)) = later (rw (next work left (k.x ⊳ done)) (later (runs.made segwit (wrap w k.x) (wrap_passes w k.x r te) at_once))) in
      p1 ⨾ p2)

  wrap_kept : (w : Wrapper) (t : Tree) (c : Correctness) (k : Canon t c) → row_form (wrap w t) ≡ true → wrap w k.x ≡ wrap w t
  wrap_kept w t c k f = ap (wrap w) (k.kept (wrap_form_parts w t f).1)

  wrap_alt : (t : Tree) (c r : Correctness) → wrapper_rule segwit alt c ≡ Ok r → Canon t c → WParsed (wrap alt t) r
  wrap_alt t c r f k =
      let te = wrap_typed alt k.x c r k.typed f in
      record {
        x = wrap alt k.x;
        typed = te;
        runs = λ work left done. later (k.runs (Alt ∷ work) (op TOALTSTACK ∷ left) done refl) ⨾ later (runs.made segwit (wrap alt k.x) (wrap_passes alt k.x r te) at_once);
        form = wrap_form alt k.x refl k.form;
        reads = λ left. ap (λ l. op FROMALTSTACK ∷ l) (k.reads (op TOALTSTACK ∷ left));
        kept = wrap_kept alt t c k;
      }

  wrap_swap : (t : Tree) (c r : Correctness) → wrapper_rule segwit swap c ≡ Ok r → Canon t c → WParsed (wrap swap t) r
  wrap_swap t c r f k =
      let te = wrap_typed swap k.x c r k.typed f in
      let back : (work : List NonTerm) (left : List Lexeme) (done : Trees) → Reach (goes_on (WExpression ∷ work) (tree_read k.x (op SWAP ∷ left)) done) (goes_on (Swap ∷ work) (op SWAP ∷ left) (k.x ⊳ done)) =
      λ work left done. later (rw (k.ends (op SWAP ∷ left), k.fine.1) (rw (k.ends (op SWAP ∷ left)) at (k.runs (Swap ∷ work) (op SWAP ∷ left) done refl))) in
      record {
        x = wrap swap k.x;
        typed = te;
        runs = λ work left done. back work left done ⨾ later (runs.made segwit (wrap swap k.x) (wrap_passes swap k.x r te) at_once);
        form = wrap_form swap k.x refl k.form;
        reads = λ left. k.reads (op SWAP ∷ left);
        kept = wrap_kept swap t c k;
      }

  abbrev ParB : Bool → Tree → Correctness → Type 0
  ParB true t c = WParsed t c
  ParB false t c = Parsed t c

  abbrev Par : Tree → Typed → Type 0
  Par t (Ok c) = ParB (is_w c.base) t c
  Par t (Err e) = Unit {0}

  one_par : (w : Wrapper) (t : Tree) (c r : Correctness) → wrapper_rule segwit w c ≡ Ok r → Parsed t c → ParB (gives_w w) (wrap w t) r
  one_par alt t c r f p = wrap_alt t c r f (canon t c p)
  one_par swap t c r f p = wrap_swap t c r f (canon t c p)
  one_par check t c r f p = float check t c r refl f (λ left. refl) core_check p
  one_par dupIf t c r f p =
      let k = canon t c p in
      let te = wrap_typed dupIf k.x c r k.typed f in
      alone (wrap dupIf t) (wrap dupIf k.x) r (core_if dupIf refl t c r (λ left. op DUP ∷ left) k te (λ left. refl) (λ work left done. refl)) te (λ left. ap (λ l. op ENDIF ∷ l) (k.reads (op IF ∷ op DUP ∷ left))) (wrap_kept dupIf t c k)
  one_par verify t c r f p = float verify t c r refl f (λ left. refl) core_verify p
  one_par nonZero t c r f p =
      let k = canon t c p in
      let te = wrap_typed nonZero k.x c r k.typed f in
      alone (wrap nonZero t) (wrap nonZero k.x) r (core_if nonZero refl t c r (λ left. op ZERONOTEQUAL ∷ op SIZE ∷ left) k te (λ left. refl) (λ work left done. refl)) te
      (λ left. ap (λ l. op ENDIF ∷ l) (k.reads (op IF ∷ op ZERONOTEQUAL ∷ op SIZE ∷ left))) (wrap_kept nonZero t c k)
  one_par zeroNotEqual t c r f p = float zeroNotEqual t c r refl f (λ left. refl) core_zero_not_equal p

  -- Combinations

  cores_append : (us vs : Trees) → Cores us → Cores vs → Cores (◌⊕◌ us vs)
  cores_append nil vs p q = q
  cores_append (u ⊳ us) vs p q = (p.0, cores_append us vs p.1 q)

  -- an and_v of two chains is one chain
  chains_typed : (ua : Trees) (xa : Tree) (us : Trees) (x : Tree) (r : Correctness) → type_of segwit (join and_v (chain ua xa) (chain us x)) ≡ Ok r → type_of segwit (chain (◌⊕◌ us (xa ⊳ ua)) x) ≡ Ok r
  chains_typed ua xa nil x r e = e
  chains_typed ua xa (u ⊳ us) x r e =
      let h = join_parts and_v (chain ua xa) (join and_v (chain us u) x) r e in
      let g = join_parts and_v (chain us u) x h.1 h.3 in
      let w = and_v_associative h.0 g.0 g.1 h.1 r g.4 h.4 in
      let i = chains_typed ua xa us u w.0 (join_typed and_v (chain ua xa) (chain us u) h.0 g.0 w.0 h.2 g.2 w.1) in
      join_typed and_v (chain (◌⊕◌ us (xa ⊳ ua)) u) x w.0 g.1 r i g.3 w.2

  -- an and_v whose second child is none is kept
  and_v_kept : (ua : Trees) (xa : Tree) (us : Trees) (x a b : Tree) → chain ua xa ≡ a → chain us x ≡ b → is_and_v_tree b ≡ false → chain (◌⊕◌ us (xa ⊳ ua)) x ≡ join and_v a b
  and_v_kept ua xa nil x a b e f n = rw (e, f)
  and_v_kept ua xa (u ⊳ us) x a b e f n = absurd (true≢false (ap is_and_v_tree f ∙ n))

  and_v_par : (a b : Tree) (c d r : Correctness) → combination_rule and_v c d ≡ Ok r → Parsed a c → Parsed b d → Parsed (join and_v a b) r
  and_v_par a b c d r f p q = record {
    us = ◌⊕◌ q.us (p.x ⊳ p.us);
    x = q.x;
    core = q.core;
    cores = cores_append q.us (p.x ⊳ p.us) q.cores (p.core, p.cores);
    typed = chains_typed p.us p.x q.us q.x r (join_typed and_v (chain p.us p.x) (chain q.us q.x) c d r p.typed q.typed f);
    reads = λ left. q.reads (tree_read a left) ∙ ap (λ l. tree_read q.x (chain_read q.us l)) (p.reads left) ∙ ap (tree_read q.x) (sym (chain_append q.us (p.x ⊳ p.us) left));
    kept = λ h. let g = join_form_parts and_v a b h in and_v_kept p.us p.x q.us q.x a b (p.kept g.2) (q.kept g.3) g.1;
  }

  -- the and_v's float out of and_b's first child
  and_b_float : (us : Trees) (x y : Tree) (c d r : Correctness) → type_of segwit (chain us x) ≡ Ok c → type_of segwit y ≡ Ok d → combination_rule and_b c d ≡ Ok r
      → (z : Correctness) × (type_of segwit (join and_b x y) ≡ Ok z) × (type_of segwit (chain us (join and_b x y)) ≡ Ok r)
  and_b_float nil x y c d r e g f = let h = join_typed and_b x y c d r e g f in (r, h, h)
  and_b_float (u ⊳ us) x y c d r e g f =
      let h = join_parts and_v (chain us u) x c e in
      let k = and_b_floats h.0 h.1 c d r h.4 f in
      let t = join_typed and_b x y h.1 d k.0 h.3 g k.1 in
      (k.0, t, join_typed and_v (chain us u) (join and_b x y) h.0 k.0 r h.2 t k.2)

  -- and_b and or_b: the W is read first, then the expression
  core_w : (k : Combination) (x y : Tree) (z : Correctness) (e : Lexeme) → type_of segwit (join k x y) ≡ Ok z → ((left : List Lexeme) → tree_read (join k x y) left ≡ e ∷ tree_read y (tree_read x left)) → Fine e
      → act_at segwit afterVerify e ≡ put_back (Verify ∷ []) → is_and_v_tree (join k x y) ≡ false → row_form (join k x y) ≡ true
      → ((work : List NonTerm) (left : List Lexeme) (done : Trees) → step segwit (Expression ∷ work) (e ∷ left) done ≡ goes_on (WExpression ∷ Expression ∷ Reduce2 k ∷ work) left done)
      → ((work : List NonTerm) (left : List Lexeme) (done : Trees) → Reach (goes_on (WExpression ∷ work) (tree_read y left) done) (goes_on work left (y ⊳ done)))
      → Core x → Core (join k x y)
  core_w k x y z e te en f back si fo next ry c = plain (join k x y) z e (λ left. tree_read y (tree_read x left)) te en f back si fo
      (λ work left done.
      let p1 : Reach (goes_on (Expression ∷ work) (tree_read (join k x y) left) done) (goes_on (Expression ∷ Reduce2 k ∷ work) (tree_read x left) (y ⊳ done)) =
      rw (en left) (later (rw (next work (tree_read y (tree_read x left)) done) (ry (Expression ∷ Reduce2 k ∷ work) (tree_read x left) done))) in
      p1 ⨾ c.runs (Reduce2 k ∷ work) left (y ⊳ done) ⨾ later (runs.made segwit (join k x y) (join_passes k x y z te) at_once))

  and_b_par : (a b : Tree) (c d r : Correctness) → combination_rule and_b c d ≡ Ok r → Parsed a c → WParsed b d → Parsed (join and_b a b) r
  and_b_par a b c d r f p q =
      let h = and_b_float p.us p.x q.x c d r p.typed q.typed f in
      record {
        us = p.us;
        x = join and_b p.x q.x;
        core = core_w and_b p.x q.x h.0 (op BOOLAND) h.1 (λ left. refl) (λ left. refl, refl, refl, λ k n. refl) refl refl (join_form and_b p.x q.x p.core.single refl p.core.form q.form) (λ work left done. refl) q.runs p.core;
        cores = p.cores;
        typed = h.2;
        reads = λ left. ap (λ l. op BOOLAND ∷ l) (q.reads (tree_read a left) ∙ ap (tree_read q.x) (p.reads left));
        kept = λ f. let g = join_form_parts and_b a b f in none_float (λ t. join and_b t q.x) p.us p.x a (p.kept g.2) g.0 ∙ ap (join and_b a) (q.kept g.3);
      }

  join_kept : (k : Combination) (a b x y : Tree) → (row_form a ≡ true → x ≡ a) → (row_form b ≡ true → y ≡ b) → row_form (join k a b) ≡ true → join k x y ≡ join k a b
  join_kept k a b x y p q f = let h = join_form_parts k a b f in rw (p h.2, q h.3)

  or_b_par : (a b : Tree) (c d r : Correctness) → combination_rule or_b c d ≡ Ok r → Solo a c → WParsed b d → Parsed (join or_b a b) r
  or_b_par a b c d r f p q =
      let te = join_typed or_b p.0 q.x c d r p.2 q.typed f in
      alone (join or_b a b) (join or_b p.0 q.x) r
      (core_w or_b p.0 q.x r (op BOOLOR) te (λ left. refl) (λ left. refl, refl, refl, λ k n. refl) refl refl (join_form or_b p.0 q.x p.1.single refl p.1.form q.form) (λ work left done. refl) q.runs p.1) te
      (λ left. ap (λ l. op BOOLOR ∷ l) (q.reads (tree_read a left) ∙ ap (tree_read q.x) (p.3 left))) (join_kept or_b a b p.0 q.x p.4 q.kept)

  or_d_par : (a b : Tree) (c d r : Correctness) → combination_rule or_d c d ≡ Ok r → Solo a c → Canon b d → Parsed (join or_d a b) r
  or_d_par a b c d r f p q =
      let te = join_typed or_d p.0 q.x c d r p.2 q.typed f in
      alone (join or_d a b) (join or_d p.0 q.x) r
      (plain _ r (op ENDIF) (λ left. tree_read q.x (op NOTIF ∷ op IFDUP ∷ tree_read p.0 left)) te (λ left. refl) (λ left. refl, refl, refl, λ k n. refl) refl refl (join_form or_d p.0 q.x p.1.single refl p.1.form q.form)
      (λ work left done. later (q.runs (EndIf ∷ work) (op NOTIF ∷ op IFDUP ∷ tree_read p.0 left) done refl) ⨾ later (later (p.1.runs (OrD ∷ work) left (q.x ⊳ done))) ⨾ later (runs.made segwit (join or_d p.0 q.x) (join_passes or_d p.0 q.x r te) at_once))) te
      (λ left. ap (λ l. op ENDIF ∷ l) (q.reads (op NOTIF ∷ op IFDUP ∷ tree_read a left) ∙ ap (λ l. tree_read q.x (op NOTIF ∷ op IFDUP ∷ l)) (p.3 left))) (join_kept or_d a b p.0 q.x p.4 q.kept)

  or_c_par : (a b : Tree) (c d r : Correctness) → combination_rule or_c c d ≡ Ok r → Solo a c → Canon b d → Parsed (join or_c a b) r
  or_c_par a b c d r f p q =
      let te = join_typed or_c p.0 q.x c d r p.2 q.typed f in
      let back : (work : List NonTerm) (left : List Lexeme) (done : Trees) → Reach (goes_on (EndIfNotIf ∷ work) (tree_read p.0 left) done) (goes_on (OrC ∷ work) left (p.0 ⊳ done)) =
      λ work left done. later (rw (p.1.ends left, p.1.fine.2) (rw (p.1.ends left) at (p.1.runs (OrC ∷ work) left done))) in
      alone (join or_c a b) (join or_c p.0 q.x) r
      (plain _ r (op ENDIF) (λ left. tree_read q.x (op NOTIF ∷ tree_read p.0 left)) te (λ left. refl) (λ left. refl, refl, refl, λ k n. refl) refl refl (join_form or_c p.0 q.x p.1.single refl p.1.form q.form)
      (λ work left done. later (q.runs (EndIf ∷ work) (op NOTIF ∷ tree_read p.0 left) done refl) ⨾ later (back work left (q.x ⊳ done)) ⨾ later (runs.made segwit (join or_c p.0 q.x) (join_passes or_c p.0 q.x r te) at_once))) te
      (λ left. ap (λ l. op ENDIF ∷ l) (q.reads (op NOTIF ∷ tree_read a left) ∙ ap (λ l. tree_read q.x (op NOTIF ∷ l)) (p.3 left))) (join_kept or_c a b p.0 q.x p.4 q.kept)

  or_i_par : (a b : Tree) (c d r : Correctness) → combination_rule or_i c d ≡ Ok r → Canon a c → Canon b d → Parsed (join or_i a b) r
  or_i_par a b c d r f p q =
      let te = join_typed or_i p.x q.x c d r p.typed q.typed f in
      alone (join or_i a b) (join or_i p.x q.x) r
      (plain _ r (op ENDIF) (λ left. tree_read q.x (op ELSE ∷ tree_read p.x (op IF ∷ left))) te (λ left. refl) (λ left. refl, refl, refl, λ k n. refl) refl refl (join_form or_i p.x q.x refl refl p.form q.form)
      (λ work left done. later (q.runs (EndIf ∷ work) (op ELSE ∷ tree_read p.x (op IF ∷ left)) done refl) ⨾ later (p.runs (EndIfElse ∷ work) (op IF ∷ left) (q.x ⊳ done) refl) ⨾ later (runs.made segwit (join or_i p.x q.x) (join_passes or_i p.x q.x r te) at_once))) te
      (λ left. ap (λ l. op ENDIF ∷ l) (q.reads (op ELSE ∷ tree_read a (op IF ∷ left)) ∙ ap (λ l. tree_read q.x (op ELSE ∷ l)) (p.reads (op IF ∷ left)))) (join_kept or_i a b p.x q.x p.kept q.kept)

  two_par : (k : Combination) (a b : Tree) (c d r : Correctness) → combination_rule k c d ≡ Ok r → Parsed a c → ParB (takes_w k) b d → Parsed (join k a b) r
  two_par and_v a b c d r f p q = and_v_par a b c d r f p q
  two_par and_b a b c d r f p q = and_b_par a b c d r f p q
  two_par or_b a b c d r f p q = or_b_par a b c d r f (solo a c p (first_dissatisfiable_lem or_b c d r f refl)) q
  two_par or_d a b c d r f p q = or_d_par a b c d r f (solo a c p (first_dissatisfiable_lem or_d c d r f refl)) (canon b d q)
  two_par or_c a b c d r f p q = or_c_par a b c d r f (solo a c p (first_dissatisfiable_lem or_c c d r f refl)) (canon b d q)
  two_par or_i a b c d r f p q = or_i_par a b c d r f (canon a c p) (canon b d q)

  and_or_par : (x y z : Tree) (a b c r : Correctness) → rules.and_or a b c ≡ Ok r → Solo x a → Canon y b → Canon z c → Parsed (and_or x y z) r
  and_or_par x y z a b c r f p q s =
      let te : type_of segwit (and_or p.0 q.x s.x) ≡ Ok r = rw (p.2, q.typed, s.typed) f in
      let ok : judge segwit (and_or p.0 q.x s.x) ≡ passes = rw te in
      alone (and_or x y z) (and_or p.0 q.x s.x) r
      (plain _ r (op ENDIF) (λ left. tree_read q.x (op ELSE ∷ tree_read s.x (op NOTIF ∷ tree_read p.0 left))) te (λ left. refl) (λ left. refl, refl, refl, λ k n. refl) refl refl (and_or_form p.0 q.x s.x p.1.single p.1.form q.form s.form)
      (λ work left done. later (q.runs (EndIf ∷ work) (op ELSE ∷ tree_read s.x (op NOTIF ∷ tree_read p.0 left)) done refl) ⨾ later (s.runs (EndIfElse ∷ work) (op NOTIF ∷ tree_read p.0 left) (q.x ⊳ done) refl)
      ⨾ later (p.1.runs (Tern ∷ work) left (s.x ⊳ (q.x ⊳ done))) ⨾ later (runs.made segwit (and_or p.0 q.x s.x) ok at_once))) te
      (λ left. ap (λ l. op ENDIF ∷ l) (q.reads (op ELSE ∷ tree_read z (op NOTIF ∷ tree_read x left)) ∙ ap (λ l. tree_read q.x (op ELSE ∷ l)) (s.reads (op NOTIF ∷ tree_read x left) ∙ ap (λ l. tree_read s.x (op NOTIF ∷ l)) (p.3 left))))
      (λ f. let h = and_or_form_parts x y z f in let e = p.4 h.0 in let g = q.kept h.1 in let i = s.kept h.2 in rw (e, g, i))

  -- thresh: the further children, as they are read

  abbrev counted : Trees → ℕ → ℕ
  counted nil n = n
  counted (x ⊳ xs) n = suc (counted xs n)

  counted_many : (xs : Trees) → counted xs 0 ≡ many xs
  counted_many nil = refl
  counted_many (x ⊳ xs) = ap suc (counted_many xs)

  record Others (xs : Trees) (cs : List Correctness) : Type 0 where
    ys : Trees
    typed : types_of segwit ys ≡ all cs
    count : many ys ≡ many xs
    runs : (k n : ℕ) (work : List NonTerm) (left : List Lexeme) (done : Trees) → Reach (goes_on (ThreshW k n ∷ work) (added_trees_read ys left) done) (goes_on (ThreshW k (counted ys n) ∷ work) left (◌⊕◌ ys done))
    form : all_row_form ys ≡ true
    reads : (left : List Lexeme) → added_trees_read xs left ≡ added_trees_read ys left
    kept : all_row_form xs ≡ true → ys ≡ xs

  -- what is known of the children of a thresh, one by one
  abbrev ParAll : Trees → List Correctness → Type 0
  ParAll nil [] = Unit {0}
  ParAll nil (c ∷ cs) = ⊥
  ParAll (x ⊳ xs) [] = ⊥
  ParAll (x ⊳ xs) (c ∷ cs) = ParB (is_w c.base) x c × ParAll xs cs

  abbrev ParTypes : Trees → AllTyped → Type 0
  ParTypes xs (all cs) = ParAll xs cs
  ParTypes xs (not_all e) = Unit {0}

  w_of : (b : Bool) (x : Tree) (c : Correctness) → b ≡ true → ParB b x c → WParsed x c
  w_of true x c e p = p
  w_of false x c e p = absurd (true≢false (sym e))

  no_w_of : (b : Bool) (x : Tree) (c : Correctness) → b ≡ false → ParB b x c → Parsed x c
  no_w_of true x c e p = absurd (true≢false e)
  no_w_of false x c e p = p

  others_cons : (x : Tree) (xs : Trees) (c : Correctness) (cs : List Correctness) → WParsed x c → Others xs cs → Others (x ⊳ xs) (c ∷ cs)
  others_cons x xs c cs p q = record {
    ys = p.x ⊳ q.ys;
    typed = rw (p.typed, q.typed);
    count = ap suc q.count;
    runs = λ k n work left done. q.runs k n work (op ADD ∷ tree_read p.x left) done ⨾ later (p.runs (ThreshW k (suc (counted q.ys n)) ∷ work) left (◌⊕◌ q.ys done));
    form = all_form p.x q.ys p.form q.form;
    reads = λ left. q.reads (op ADD ∷ tree_read x left) ∙ ap (λ l. added_trees_read q.ys (op ADD ∷ l)) (p.reads left);
    kept = λ f. let h = all_form_parts x xs f in let e = p.kept h.0 in let g = q.kept h.1 in rw (e, g);
  }

  others : (xs : Trees) (cs : List Correctness) → ParAll xs cs → AllW cs → Others xs cs
  others nil [] p w = record { ys = nil; typed = refl; count = refl; runs = λ k n work left done. at_once; form = refl; reads = λ left. refl; kept = λ f. refl }
  others nil (c ∷ cs) p w = absurd p
  others (x ⊳ xs) [] p w = absurd p
  others (x ⊳ xs) (c ∷ cs) p w = others_cons x xs c cs (w_of (is_w c.base) x c w.0 p.0) (others xs cs p.1 w.1)

  thresh_run : (k : ℕ) (x : Tree) (xs : Trees) (cs : List Correctness) → Core x → (q : Others xs cs) → judge segwit (thresh k x q.ys) ≡ passes
      → (work : List NonTerm) (left : List Lexeme) (done : Trees) → Reach (goes_on (ThreshW k 0 ∷ work) (added_trees_read q.ys (tree_read x left)) done) (goes_on work left (thresh k x q.ys ⊳ done))
  thresh_run k x xs cs c q ok work left done =
      let n = counted q.ys 0 in
      let first_read : Reach (goes_on (ThreshW k n ∷ work) (tree_read x left) (◌⊕◌ q.ys done)) (goes_on (ThreshE k (suc n) ∷ work) left (x ⊳ (◌⊕◌ q.ys done))) =
      later (rw (c.ends left, c.fine.3 k n) (rw (c.ends left) at (c.runs (ThreshE k (suc n) ∷ work) left (◌⊕◌ q.ys done)))) in
      let all-taken : Reach (goes_on (ThreshE k (suc n) ∷ work) left (x ⊳ (◌⊕◌ q.ys done))) (goes_on work left (thresh k x q.ys ⊳ done)) =
      later (rw (counted_many q.ys, take_all q.ys done) (runs.made segwit (thresh k x q.ys) ok at_once)) in
      q.runs k 0 work (tree_read x left) done ⨾ first_read ⨾ all-taken

  thresh_par : (k : ℕ) (x : Tree) (xs : Trees) (c : Correctness) (cs : List Correctness) (r : Correctness) → thresh_allowed k x xs ≡ true → rules.threshold (c ∷ cs) ≡ Ok r → Solo x c → Others xs cs → Parsed (thresh k x xs) r
  thresh_par k x xs c cs r g f p q =
      let te : type_of segwit (thresh k p.0 q.ys) ≡ Ok r = rw (p.2, q.typed) f in
      let ok : judge segwit (thresh k p.0 q.ys) ≡ passes = rw (te, q.count, g) in
      alone (thresh k x xs) (thresh k p.0 q.ys) r
      (record {
        type = r;
        typed = te;
        end = op EQUAL;
        rest = λ left. num k ∷ added_trees_read q.ys (tree_read p.0 left);
        ends = λ left. refl;
        fine = (λ left. refl, refl, refl, λ k n. refl);
        runs = λ work left done. later (thresh_run k p.0 xs cs p.1 q ok work left done);
        verified = λ work left done. later (thresh_run k p.0 xs cs p.1 q ok (Verify ∷ work) left done);
        single = refl;
        form = thresh_form k p.0 q.ys p.1.single p.1.form q.form;
      }) te
      (λ left. ap (λ l. op EQUAL ∷ num k ∷ l) (q.reads (tree_read x left) ∙ ap (added_trees_read q.ys) (p.3 left)))
      (λ f. let h = thresh_form_parts k x xs f in let e = p.4 h.0 in let g = q.kept h.1 in rw (e, g))

  -- From what is known of the parts to what is known of the whole

  of_base : (b : Bool) (t : Tree) (c : Correctness) → is_w c.base ≡ b → ParB b t c → ParB (is_w c.base) t c
  of_base b t c e p = rw e p

  wrap_par : (w : Wrapper) (t : Tree) (c : Correctness) (q : Typed) → wrapper_rule segwit w c ≡ q → ParB (is_w c.base) t c → Par (wrap w t) q
  wrap_par w t c (Err e) f p = tt
  wrap_par w t c (Ok r) f p =
      let h = wrapper_bases segwit w c r f in
      of_base (gives_w w) (wrap w t) r h.1 (one_par w t c r f (no_w_of (is_w c.base) t c h.0 p))

  wrap_any : (w : Wrapper) (t : Tree) (o : Typed) → Par t o → Par (wrap w t) (onward o (wrapper_rule segwit w))
  wrap_any w t (Err e) p = tt
  wrap_any w t (Ok c) p = wrap_par w t c (wrapper_rule segwit w c) refl p

  join_par : (k : Combination) (a b : Tree) (c d : Correctness) (q : Typed) → combination_rule k c d ≡ q → ParB (is_w c.base) a c → ParB (is_w d.base) b d → Par (join k a b) q
  join_par k a b c d (Err e) f p s = tt
  join_par k a b c d (Ok r) f p s =
      let h = combination_bases k c d r f in
      of_base false (join k a b) r h.1.1 (two_par k a b c d r f (no_w_of (is_w c.base) a c h.0 p) (rw h.1.0 at s))

  join_any : (k : Combination) (a b : Tree) (o q : Typed) → Par a o → Par b q → Par (join k a b) (onward o (λ c. onward q (λ d. combination_rule k c d)))
  join_any k a b (Err e) q p s = tt
  join_any k a b (Ok c) (Err e) p s = tt
  join_any k a b (Ok c) (Ok d) p s = join_par k a b c d (combination_rule k c d) refl p s

  and_or_at : (x y z : Tree) (a b c : Correctness) (q : Typed) → rules.and_or a b c ≡ q → ParB (is_w a.base) x a → ParB (is_w b.base) y b → ParB (is_w c.base) z c → Par (and_or x y z) q
  and_or_at x y z a b c (Err e) f px py pz = tt
  and_or_at x y z a b c (Ok r) f px py pz =
      let h = and_or_bases a b c r f in
      of_base false (and_or x y z) r h.1.1.1
      (and_or_par x y z a b c r f (solo x a (no_w_of (is_w a.base) x a h.0 px) (and_or_dissatisfiable a b c r f)) (canon y b (no_w_of (is_w b.base) y b h.1.0 py)) (canon z c (no_w_of (is_w c.base) z c h.1.1.0 pz)))

  and_or_any : (x y z : Tree) (o q s : Typed) → Par x o → Par y q → Par z s → Par (and_or x y z) (onward o (λ a. onward q (λ b. onward s (λ c. rules.and_or a b c))))
  and_or_any x y z (Err e) q s px py pz = tt
  and_or_any x y z (Ok a) (Err e) s px py pz = tt
  and_or_any x y z (Ok a) (Ok b) (Err e) px py pz = tt
  and_or_any x y z (Ok a) (Ok b) (Ok c) px py pz = and_or_at x y z a b c (rules.and_or a b c) refl px py pz

  thresh_at : (k : ℕ) (x : Tree) (xs : Trees) (c : Correctness) (cs : List Correctness) (q : Typed) → thresh_allowed k x xs ≡ true → rules.threshold (c ∷ cs) ≡ q → ParB (is_w c.base) x c → ParAll xs cs → Par (thresh k x xs) q
  thresh_at k x xs c cs (Err e) g f p s = tt
  thresh_at k x xs c cs (Ok r) g f p s =
      let h = threshold_bases c cs r f in
      of_base false (thresh k x xs) r h.1.1.1 (thresh_par k x xs c cs r g f (solo x c (no_w_of (is_w c.base) x c h.0 p) h.1.0) (others xs cs s h.1.1.0))

  thresh_any : (k : ℕ) (x : Tree) (xs : Trees) (o : Typed) (q : AllTyped) → thresh_allowed k x xs ≡ true → Par x o → ParTypes xs q → Par (thresh k x xs) (ruled (and_then o q) rules.threshold)
  thresh_any k x xs (Err e) q g p s = tt
  thresh_any k x xs (Ok c) (not_all e) g p s = tt
  thresh_any k x xs (Ok c) (all cs) g p s = thresh_at k x xs c cs (rules.threshold (c ∷ cs)) g refl p s

  all_any : (x : Tree) (xs : Trees) (o : Typed) (q : AllTyped) → Par x o → ParTypes xs q → ParTypes (x ⊳ xs) (and_then o q)
  all_any x xs (Err e) q p s = tt
  all_any x xs (Ok c) (not_all e) p s = tt
  all_any x xs (Ok c) (all cs) p s = (p, s)

  leaf_any : (l : Leaf) → allowed_leaf segwit l ≡ true → Par (leaf l) (type_of segwit (leaf l))
  leaf_any l g = of_base false (leaf l) (leaf_type l) (leaf_base l) (leaf_par l g)

  mutual
    parse : (t : Tree) → allowed segwit t ≡ true → Par t (type_of segwit t)
    parse (leaf l) g = leaf_any l g
    parse (wrap w x) g = wrap_any w x (type_of segwit x) (parse x g)
    parse (join k a b) g = join_any k a b (type_of segwit a) (type_of segwit b) (parse a (left_true (allowed segwit a) (allowed segwit b) g)) (parse b (right_true (allowed segwit a) (allowed segwit b) g))
    parse (and_or x y z) g =
        let h = right_true (allowed segwit x) (allowed segwit y && allowed segwit z) g in
        and_or_any x y z (type_of segwit x) (type_of segwit y) (type_of segwit z) (parse x (left_true (allowed segwit x) (allowed segwit y && allowed segwit z) g)) (parse y (left_true (allowed segwit y) (allowed segwit z) h)) (parse z (right_true (allowed segwit y) (allowed segwit z) h))
    parse (thresh k x xs) g =
        let h = right_true (thresh_allowed k x xs) (allowed segwit x && all_allowed segwit xs) g in
        thresh_any k x xs (type_of segwit x) (types_of segwit xs) (left_true (thresh_allowed k x xs) (allowed segwit x && all_allowed segwit xs) g) (parse x (left_true (allowed segwit x) (all_allowed segwit xs) h)) (parses xs (right_true (allowed segwit x) (all_allowed segwit xs) h))

    parses : (xs : Trees) → all_allowed segwit xs ≡ true → ParTypes xs (types_of segwit xs)
    parses nil g = tt
    parses (x ⊳ xs) g = all_any x xs (type_of segwit x) (types_of segwit xs) (parse x (left_true (allowed segwit x) (all_allowed segwit xs) g)) (parses xs (right_true (allowed segwit x) (all_allowed segwit xs) g))

  -- The tokens of an allowed tree with a type that is no W are read, to a tree of the same type that has the rows' form; to the very tree, if it has that form
  pub complete_form : (t : Tree) (c : Correctness) → allowed segwit t ≡ true → type_of segwit t ≡ Ok c → is_w c.base ≡ false
      → (u : Tree) × (type_of segwit u ≡ Ok c) × (row_form u ≡ true) × (row_form t ≡ true → u ≡ t) × runs.Reach segwit (begin (reverse_aux (written t) [])) (goes_on [] [] (u ⊳ nil))
  unfolding begin written
  complete_form t c g e w =
      let p0 : Par t (Ok c) = rw e at (parse t g) in
      let p : Parsed t c = no_w_of (is_w c.base) t c w p0 in
      let k : Canon t c = canon t c p in
      let reads : reverse_aux (written t) [] ≡ tree_read k.x [] = tree_reversed t [] [] ∙ k.reads [] in
      (k.x, k.typed, k.form, k.kept, rw reads (k.runs [] [] nil refl))

  -- so its and_v chains are nested to the left
  pub complete : (t : Tree) (c : Correctness) → allowed segwit t ≡ true → type_of segwit t ≡ Ok c → is_w c.base ≡ false
      → (u : Tree) × (type_of segwit u ≡ Ok c) × (left_nested u ≡ true) × runs.Reach segwit (begin (reverse_aux (written t) [])) (goes_on [] [] (u ⊳ nil))
  complete t c g e w = let k = complete_form t c g e w in (k.0, k.1, left_true (left_nested k.0) (floated_out k.0) k.2, k.4)
