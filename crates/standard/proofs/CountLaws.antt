-- A thresh's count in the work list never exceeds the tokens taken: in every state, a ThreshW counts fewer trees, and a ThreshE no more, than tokens were taken (`start_counts`, `step_counts`). What a packed work entry needs.
use Rattle.std.specs.Prelude.{◌≡◌, Bool, true, false, List, [], ◌∷◌, ◌++◌, ℕ, zero, suc, ◌+◌, ◌≤◌, eqb, length}
use Rattle.std.proofs.Common.{arith}
use Rattle.lex.specs.Token.{Data, Lexeme, op, num, push, BYTES33, BYTES65}
use Rattle.tables.specs.Choose.{pick}
use Rattle.standard.specs.Tree.{key, MultiA, Wrapper, Combination, and_v, Trees, leaf, wrap, join, and_or, thresh, nil, ◌⊳◌}
use Rattle.standard.specs.Allowed.{multi_key, multi_a_key, multi_count, multi_a_threshold}
use Rattle.standard.specs.Types.{Judged, passes, fails, judge}
use Rattle.standard.specs.Table.{take_trees}
use Rattle.standard.specs.Rows.{NonTerm, Expression, WExpression, MaybeAndV, AndV, Alt, Swap, EndIf, EndIfNotIf, EndIfElse, Tern, Reduce1, Reduce2, ThreshW, ThreshE, Point, inExpression, inWExpression, inAlt, inSwap, inEndIf, inEndIfNotIf, inEndIfElse, in_thresh_w, afterVerify, afterVerifyEqual, afterEqual, afterCheckSequenceVerify, afterCheckLockTimeVerify, afterCheckMultiSig, afterNumEqual, afterVerifyEqualHash20, afterVerifyEqualHash20Hash160, afterEqualHash20, after_bytes32, lockVerify, lockEqual, lock32, lockSize, multi_keys, multiAKeys, afterCheckSigAdd, afterCheckSig, afterIf, afterIfZeroNotEqual}
use Rattle.standard.specs.Rows.{Act, read_on, enter, put_back, make, reduce1, reduce2, refuse, Case, opcode, number, any_number, pushed, other, fits, look, cases, act_at, is_and_v, Found, follow, read_from, row_of}
use Rattle.standard.specs.Machine.{Next, goes, stops, goes_on, never, admit, finish1, finish2, finish3, finish_many, perform, step}

-- what an entry says of the tokens taken
abbrev pub counts : NonTerm → ℕ
counts Expression = 0
counts WExpression = 0
counts MaybeAndV = 0
counts AndV = 0
counts Alt = 0
counts Swap = 0
counts EndIf = 0
counts EndIfNotIf = 0
counts EndIfElse = 0
counts Tern = 0
counts (Reduce1 w) = 0
counts (Reduce2 c) = 0
counts (ThreshW k n) = n + 1
counts (ThreshE k n) = n

-- each entry counts at most so many
abbrev pub AtMost : ℕ → List NonTerm → Type 0
AtMost b [] = Unit {0}
AtMost b (e ∷ es) = (counts e ≤ b) × AtMost b es

-- in a state, over t tokens: no entry counts more than the tokens taken
abbrev pub CountsLow : ℕ → Next → Type 0
CountsLow t (stops r) = Unit {0}
CountsLow t (goes s) = (taken : ℕ) × (taken + length s.left ≡ t) × AtMost taken s.work

more : (b c : ℕ) (es : List NonTerm) → b ≤ c → AtMost b es → AtMost c es
more b c [] h g = tt
more b c (e ∷ es) h g = (omega (arith, g.0), more b c es h g.1)

append : (b : ℕ) (es work : List NonTerm) → AtMost b es → AtMost b work → AtMost b (es ++ work)
append b [] work h g = g
append b (e ∷ es) work h g = (h.0, append b es work h.1 g)

-- what is known at a point of the tokens taken before
abbrev base : Point → ℕ
base inExpression = 0
base inWExpression = 0
base inAlt = 0
base inSwap = 0
base inEndIf = 0
base inEndIfNotIf = 0
base inEndIfElse = 0
base (in_thresh_w k n) = n + 1
base afterVerify = 0
base afterVerifyEqual = 0
base afterEqual = 0
base afterCheckSequenceVerify = 0
base afterCheckLockTimeVerify = 0
base afterCheckMultiSig = 0
base afterNumEqual = 0
base (afterVerifyEqualHash20 h) = 0
base (afterVerifyEqualHash20Hash160 h) = 0
base (afterEqualHash20 h) = 0
base (after_bytes32 v h) = 0
base (lockVerify v k h) = 0
base (lockEqual v k h) = 0
base (lock32 v k h) = 0
base (lockSize v k h) = 0
base (multi_keys n ks) = 0
base (multiAKeys k ds) = 0
base (afterCheckSigAdd k ds) = 0
base (afterCheckSig k ds) = 0
base afterIf = 0
base afterIfZeroNotEqual = 0

abbrev Low : Point → Act → Type 0
Low p (read_on q) = base q ≤ base p
Low p (enter es) = AtMost (base p + 1) es
Low p (put_back es) = AtMost (base p) es
Low p (make l es) = AtMost (base p + 1) es
Low p (reduce1 w) = Unit {0}
Low p (reduce2 c) = Unit {0}
Low p (refuse n) = Unit {0}

abbrev LowCase : Point → Case → Type 0
LowCase p (opcode k a) = Low p a
LowCase p (number k a) = Low p a
LowCase p (any_number f) = (n : ℕ) → Low p (f n)
LowCase p (pushed k f) = (d : Data) → Low p (f d)
LowCase p (other a) = Low p a

abbrev LowCases : Point → List Case → Type 0
LowCases p [] = Unit {0}
LowCases p (x ∷ l) = LowCase p x × LowCases p l

infixr 40 ◌&◌
◌&◌ : {A B : Type 0} → A → B → A × B
◌&◌ a b = (a, b)

none : {n : ℕ} → 0 ≤ n
none = omega arith

least : (n : ℕ) → n ≤ n
least n = omega arith

pick_low : (p : Point) (b : Bool) (x y : Act) → Low p x → Low p y → Low p (pick b x y)
pick_low p true x y h g = h
pick_low p false x y h g = g

module _ (segwit : Bool) where
  rows_low : (p : Point) → LowCases p (cases segwit p)
  rows_low inExpression = (λ d. tt) & (λ d. tt) & (λ d. tt) & (none & none & tt) & none & (none & none & tt) & none & none & none & tt & tt
      & (none & none & none & tt) & (none & none & none & tt) & (none & none & none & tt) & none & none & tt
  rows_low afterVerify = none & (none & tt) & tt
  rows_low afterVerifyEqual = (λ d. none) & (λ d. none) & (λ k. least 1 & none & tt) & tt
  rows_low (afterVerifyEqualHash20 h) = none & none & tt
  rows_low (afterVerifyEqualHash20Hash160 h) = tt & none & tt
  rows_low (after_bytes32 v h) = none & none & tt
  rows_low afterCheckSequenceVerify = (λ n. tt) & tt
  rows_low afterCheckLockTimeVerify = (λ n. tt) & tt
  rows_low afterEqual = (λ d. none) & (λ d. none) & (λ k. least 1 & tt) & tt
  rows_low (afterEqualHash20 h) = none & none & tt
  rows_low (lockVerify v k h) = none & tt
  rows_low (lockEqual v k h) = none & tt
  rows_low (lock32 v k h) = none & tt
  rows_low (lockSize true k h) = (none & tt) & tt
  rows_low (lockSize false k h) = tt & tt
  rows_low afterCheckMultiSig = (λ n. pick_low afterCheckMultiSig (multi_count n) (read_on (multi_keys n [])) (refuse 13) none tt) & tt
  rows_low (multi_keys (suc n) ks) =
      (λ d. pick_low (multi_keys (suc n) ks) (multi_key segwit (key BYTES33 d)) (read_on (multi_keys n (key BYTES33 d ∷ ks))) (refuse 11) none tt)
      & (λ d. pick_low (multi_keys (suc n) ks) (multi_key segwit (key BYTES65 d)) (read_on (multi_keys n (key BYTES65 d ∷ ks))) (refuse 11) none tt)
      & tt
  rows_low (multi_keys zero ks) = (λ k. tt) & tt
  rows_low afterNumEqual = (λ k. pick_low afterNumEqual (multi_a_threshold k) (read_on (multiAKeys k [])) (refuse 13) none tt) & tt
  rows_low (multiAKeys k ds) = none & none & tt
  rows_low (afterCheckSigAdd k ds) = (λ d. pick_low (afterCheckSigAdd k ds) (multi_a_key segwit d) (read_on (multiAKeys k (d ∷ ds))) (refuse 11) none tt) & tt
  rows_low (afterCheckSig k ds) = (λ d. pick_low (afterCheckSig k ds) (multi_a_key segwit d) (make (MultiA k d ds) []) (refuse 11) tt tt) & tt
  rows_low inSwap = tt & tt
  rows_low inAlt = tt & tt
  rows_low (in_thresh_w k n) = (none & (omega arith) & tt) & ((omega arith) & tt) & tt
  rows_low inEndIf = (none & none & none & tt) & none & (none & tt) & tt
  rows_low afterIf = (none & tt) & none & tt
  rows_low afterIfZeroNotEqual = (none & tt) & tt
  rows_low inEndIfNotIf = (none & none & tt) & (none & tt) & tt
  rows_low inEndIfElse = tt & (none & none & tt) & tt
  rows_low inWExpression = (none & none & none & tt) & (none & none & tt) & tt

  fits_low : (p : Point) (x : Case) (t : Lexeme) (r : Act) → LowCase p x → Low p r → Low p (fits x t r)
  fits_low p (opcode k a) (op c) r h g = pick_low p (eqb c k) a r h g
  fits_low p (opcode k a) (num n) r h g = g
  fits_low p (opcode k a) (push c d) r h g = g
  fits_low p (number k a) (op c) r h g = g
  fits_low p (number k a) (num n) r h g = pick_low p (eqb n k) a r h g
  fits_low p (number k a) (push c d) r h g = g
  fits_low p (any_number f) (op c) r h g = g
  fits_low p (any_number f) (num n) r h g = h n
  fits_low p (any_number f) (push c d) r h g = g
  fits_low p (pushed k f) (op c) r h g = g
  fits_low p (pushed k f) (num n) r h g = g
  fits_low p (pushed k f) (push c d) r h g = pick_low p (eqb c k) (f d) r (h d) g
  fits_low p (other a) t r h g = h

  look_low : (p : Point) (t : Lexeme) (l : List Case) → LowCases p l → Low p (look t l)
  look_low p t [] h = tt
  look_low p t (x ∷ l) h = fits_low p x t (look t l) h.0 (look_low p t l h.1)

  module _ (t : ℕ) where
    admit_low : (j : Judged) (work : List NonTerm) (left : List Lexeme) (done : Trees) (taken : ℕ) → taken + length left ≡ t → AtMost taken work → CountsLow t (admit j work left done)
    admit_low passes work left done taken e h = (taken, e, h)
    admit_low (fails n r) work left done taken e h = tt

    one_low : (w : Wrapper) (work : List NonTerm) (left : List Lexeme) (done : Trees) (taken : ℕ) → taken + length left ≡ t → AtMost taken work → CountsLow t (finish1 segwit w work left done)
    one_low w work left nil taken e h = tt
    one_low w work left (x ⊳ done) taken e h = admit_low (judge segwit (wrap w x)) work left (wrap w x ⊳ done) taken e h

    two_low : (c : Combination) (work : List NonTerm) (left : List Lexeme) (done : Trees) (taken : ℕ) → taken + length left ≡ t → AtMost taken work → CountsLow t (finish2 segwit c work left done)
    two_low c work left nil taken e h = tt
    two_low c work left (x ⊳ nil) taken e h = tt
    two_low c work left (x ⊳ (y ⊳ done)) taken e h = admit_low (judge segwit (join c x y)) work left (join c x y ⊳ done) taken e h

    three_low : (work : List NonTerm) (left : List Lexeme) (done : Trees) (taken : ℕ) → taken + length left ≡ t → AtMost taken work → CountsLow t (finish3 segwit work left done)
    three_low work left nil taken e h = tt
    three_low work left (x ⊳ nil) taken e h = tt
    three_low work left (x ⊳ (z ⊳ nil)) taken e h = tt
    three_low work left (x ⊳ (z ⊳ (y ⊳ done))) taken e h = admit_low (judge segwit (and_or x y z)) work left (and_or x y z ⊳ done) taken e h

    take_low : (m : ℕ) (ts : Trees) (f : Trees → Trees → Next) → ((xs under : Trees) → CountsLow t (f xs under)) → CountsLow t (take_trees m ts (stops never) f)
    take_low zero ts f h = h nil ts
    take_low (suc m) nil f h = tt
    take_low (suc m) (x ⊳ ts) f h = take_low m ts (λ xs under. f (x ⊳ xs) under) (λ xs under. h (x ⊳ xs) under)

    many_low : (k m : ℕ) (work : List NonTerm) (left : List Lexeme) (done : Trees) (taken : ℕ) → taken + length left ≡ t → AtMost taken work → CountsLow t (finish_many segwit k m work left done)
    many_low k m work left nil taken e h = tt
    many_low k zero work left (x ⊳ done) taken e h = tt
    many_low k (suc m) work left (x ⊳ done) taken e h = take_low m done _ (λ xs under. admit_low (judge segwit (thresh k x xs)) work left (thresh k x xs ⊳ under) taken e h)

    act_low : (p : Point) (x : Lexeme) (a : Act) (left : List Lexeme) (work : List NonTerm) (done : Trees) (taken : ℕ) → Low p a → base p ≤ taken → taken + suc (length left) ≡ t → AtMost taken work
        → ((q : Point) → base q ≤ suc taken → CountsLow t (perform segwit (read_from segwit q left) work done))
        → CountsLow t (perform segwit (follow a (λ q. read_from segwit q left) x left) work done)
    act_low p x (read_on q) left work done taken l b e h ih = ih q (omega arith)
    act_low p x (enter es) left work done taken l b e h ih = (suc taken, omega arith, append (suc taken) es work (more (base p + 1) (suc taken) es (omega arith) l) (more taken (suc taken) work (omega arith) h))
    act_low p x (put_back es) left work done taken l b e h ih = (taken, e, (none, append taken es work (more (base p) taken es b l) h))
    act_low p x (make y es) left work done taken l b e h ih =
        admit_low (judge segwit (leaf y)) (es ++ work) left (leaf y ⊳ done) (suc taken) (omega arith) (append (suc taken) es work (more (base p + 1) (suc taken) es (omega arith) l) (more taken (suc taken) work (omega arith) h))
    act_low p x (reduce1 w) left work done taken l b e h ih = one_low w work left done (suc taken) (omega arith) (more taken (suc taken) work (omega arith) h)
    act_low p x (reduce2 c) left work done taken l b e h ih = two_low c work left done (suc taken) (omega arith) (more taken (suc taken) work (omega arith) h)
    act_low p x (refuse n) left work done taken l b e h ih = tt

    read_low : (p : Point) (left : List Lexeme) (work : List NonTerm) (done : Trees) (taken : ℕ) → base p ≤ taken → taken + length left ≡ t → AtMost taken work → CountsLow t (perform segwit (read_from segwit p left) work done)
    read_low p [] work done taken b e h = tt
    read_low p (x ∷ left) work done taken b e h =
        act_low p x (act_at segwit p x) left work done taken (look_low p x (cases segwit p) (rows_low p)) b e h (λ q b'. read_low q left work done (suc taken) b' (omega arith) (more taken (suc taken) work (omega arith) h))

    pick_counts : (b : Bool) (x y : Found) (work : List NonTerm) (done : Trees) → CountsLow t (perform segwit x work done) → CountsLow t (perform segwit y work done) → CountsLow t (perform segwit (pick b x y) work done)
    pick_counts true x y work done p q = p
    pick_counts false x y work done p q = q

    entry_low : (e : NonTerm) (work : List NonTerm) (left : List Lexeme) (done : Trees) (taken : ℕ) → taken + length left ≡ t → counts e ≤ taken → AtMost taken work → CountsLow t (perform segwit (row_of segwit e left) work done)
    entry_low Expression work left done taken e c h = read_low inExpression left work done taken none e h
    entry_low WExpression work left done taken e c h = read_low inWExpression left work done taken none e h
    entry_low MaybeAndV work left done taken e c h = pick_counts (is_and_v left) _ _ work done (taken, e, (none, (none, h))) (taken, e, h)
    entry_low AndV work left done taken e c h = pick_counts (is_and_v left) _ _ work done (taken, e, (none, (none, h))) (two_low and_v work left done taken e h)
    entry_low Alt work left done taken e c h = read_low inAlt left work done taken none e h
    entry_low Swap work left done taken e c h = read_low inSwap left work done taken none e h
    entry_low EndIf work left done taken e c h = read_low inEndIf left work done taken none e h
    entry_low EndIfNotIf work left done taken e c h = read_low inEndIfNotIf left work done taken none e h
    entry_low EndIfElse work left done taken e c h = read_low inEndIfElse left work done taken none e h
    entry_low Tern work left done taken e c h = three_low work left done taken e h
    entry_low (Reduce1 w) work left done taken e c h = one_low w work left done taken e h
    entry_low (Reduce2 k) work left done taken e c h = two_low k work left done taken e h
    entry_low (ThreshW k n) work left done taken e c h = read_low (in_thresh_w k n) left work done taken c e h
    entry_low (ThreshE k n) work left done taken e c h = many_low k n work left done taken e h

    -- the start, and each step
    pub start_counts : (left : List Lexeme) → length left ≡ t → CountsLow t (goes_on (Expression ∷ MaybeAndV ∷ []) left nil)
    start_counts left e = (0, omega arith, (none, (none, tt)))

    pub step_counts : (e : NonTerm) (work : List NonTerm) (left : List Lexeme) (done : Trees) → CountsLow t (goes_on (e ∷ work) left done) → CountsLow t (step segwit (e ∷ work) left done)
    step_counts e work left done h = entry_low e work left done h.0 h.1 h.2.0 h.2.1
