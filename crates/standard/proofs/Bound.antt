-- Each step lowers three potentials, so steps, work entries, nodes and keys are bounded by the tokens.
-- Steps: eight a token and one an entry, less four for an Expression that has a token to take, and less two for a MaybeAndV that will say yes. Nodes: those made, those that waiting entries will make without a token, and two a token, less one for an Expression on top that has a token to take. Keys: those of the finished trees, those held in the row, and one a push. Each case of the table is a closed test (`rows_cheap`).
use Rattle.std.specs.Prelude.{◌≡◌, refl, Bool, true, false, List, [], ◌∷◌, ◌++◌, ℕ, zero, suc, ◌+◌, ◌*◌, ◌-◌, ◌≤◌, eqb, leb, length}
use Rattle.std.proofs.Common.{sym, true≢false, arith, length-append, leb-true}
use Rattle.std.proofs.Math.Dec.{leb-zero}
use Rattle.lex.specs.Token.{Data, Lexeme, op, num, push, BYTES33, BYTES65}
use Rattle.tables.specs.Choose.{pick}
use Rattle.standard.specs.Tree.{key, MultiA, Wrapper, Combination, and_v, Tree, Trees, leaf, wrap, join, and_or, thresh, nil, ◌⊳◌, size, sizes, leaf_keys, key_count, key_counts}
use Rattle.standard.specs.Allowed.{multi_key, multi_a_key, multi_count, multi_a_threshold}
use Rattle.standard.specs.Types.{Judged, passes, fails, judge}
use Rattle.standard.specs.Table.{take_trees}
use Rattle.standard.specs.Rows.{NonTerm, Expression, WExpression, MaybeAndV, AndV, Alt, Swap, EndIf, EndIfNotIf, EndIfElse, Tern, Reduce1, Reduce2, ThreshW, ThreshE, Point, inExpression, inWExpression, inAlt, inSwap, inEndIf, inEndIfNotIf, inEndIfElse, in_thresh_w, afterVerify, afterVerifyEqual, afterEqual, afterCheckSequenceVerify, afterCheckLockTimeVerify, afterCheckMultiSig, afterNumEqual, afterVerifyEqualHash20, afterVerifyEqualHash20Hash160, afterEqualHash20, after_bytes32, lockVerify, lockEqual, lock32, lockSize, multi_keys, multiAKeys, afterCheckSigAdd, afterCheckSig, afterIf, afterIfZeroNotEqual}
use Rattle.standard.specs.Rows.{Act, read_on, enter, put_back, make, reduce1, reduce2, refuse, Case, opcode, number, any_number, pushed, other, fits, look, cases, act_at, is_and_v, Found, follow, read_from, row_of}
use Rattle.standard.specs.Machine.{Next, goes, stops, goes_on, admit, finish, finish1, finish2, finish3, finish_many, never, perform, step}

-- What the next token pays for at a point: eight steps and two nodes, less where an expression begins

abbrev begins : Point → Bool
begins inExpression = true
begins inWExpression = false
begins inAlt = false
begins inSwap = false
begins inEndIf = false
begins inEndIfNotIf = false
begins inEndIfElse = false
begins (in_thresh_w k n) = false
begins afterVerify = false
begins afterVerifyEqual = false
begins afterEqual = false
begins afterCheckSequenceVerify = false
begins afterCheckLockTimeVerify = false
begins afterCheckMultiSig = false
begins afterNumEqual = false
begins (afterVerifyEqualHash20 h) = false
begins (afterVerifyEqualHash20Hash160 h) = false
begins (afterEqualHash20 h) = false
begins (after_bytes32 v h) = false
begins (lockVerify v k h) = false
begins (lockEqual v k h) = false
begins (lock32 v k h) = false
begins (lockSize v k h) = false
begins (multi_keys n ks) = false
begins (multiAKeys k ds) = false
begins (afterCheckSigAdd k ds) = false
begins (afterCheckSig k ds) = false
begins afterIf = false
begins afterIfZeroNotEqual = false

-- the keys held in a row
abbrev held : Point → ℕ
held inExpression = 0
held inWExpression = 0
held inAlt = 0
held inSwap = 0
held inEndIf = 0
held inEndIfNotIf = 0
held inEndIfElse = 0
held (in_thresh_w k n) = 0
held afterVerify = 0
held afterVerifyEqual = 0
held afterEqual = 0
held afterCheckSequenceVerify = 0
held afterCheckLockTimeVerify = 0
held afterCheckMultiSig = 0
held afterNumEqual = 0
held (afterVerifyEqualHash20 h) = 0
held (afterVerifyEqualHash20Hash160 h) = 0
held (afterEqualHash20 h) = 0
held (after_bytes32 v h) = 0
held (lockVerify v k h) = 0
held (lockEqual v k h) = 0
held (lock32 v k h) = 0
held (lockSize v k h) = 0
held (multi_keys n ks) = length ks
held (multiAKeys k ds) = length ds
held (afterCheckSigAdd k ds) = length ds
held (afterCheckSig k ds) = length ds
held afterIf = 0
held afterIfZeroNotEqual = 0

abbrev step_credit : Point → ℕ
step_credit p = pick (begins p) 5 8

abbrev node_credit : Point → ℕ
node_credit p = pick (begins p) 1 2

pick_le : (b : Bool) (x y n : ℕ) → x ≤ n → y ≤ n → pick b x y ≤ n
pick_le true x y n p q = p
pick_le false x y n p q = q

step_credit_le : (p : Point) → step_credit p ≤ 8
step_credit_le p = pick_le (begins p) 5 8 8 (omega arith) (omega arith)

node_credit_le : (p : Point) → node_credit p ≤ 2
node_credit_le p = pick_le (begins p) 1 2 2 (omega arith) (omega arith)

-- the nodes that an entry makes without a token
abbrev waits : NonTerm → ℕ
waits Expression = 0
waits WExpression = 0
waits MaybeAndV = 0
waits AndV = 1
waits Alt = 0
waits Swap = 0
waits EndIf = 0
waits EndIfNotIf = 0
waits EndIfElse = 0
waits Tern = 1
waits (Reduce1 w) = 1
waits (Reduce2 c) = 1
waits (ThreshW k n) = 0
waits (ThreshE k n) = 1

abbrev waiting : List NonTerm → ℕ
waiting [] = 0
waiting (e ∷ es) = waits e + waiting es

waiting_append : (es work : List NonTerm) → waiting (es ++ work) ≡ waiting es + waiting work
waiting_append [] work = omega arith
waiting_append (e ∷ es) work = omega (arith, waiting_append es work)

-- what an act costs

abbrev step_cost : Act → ℕ
step_cost (read_on p) = 0
step_cost (enter es) = length es + 1
step_cost (put_back es) = length es + 6
step_cost (make l es) = length es + 1
step_cost (reduce1 w) = 1
step_cost (reduce2 c) = 1
step_cost (refuse n) = 0

abbrev node_cost : Act → ℕ
node_cost (read_on p) = 0
node_cost (enter es) = waiting es
node_cost (put_back es) = waiting es + 1
node_cost (make l es) = waiting es + 1
node_cost (reduce1 w) = 1
node_cost (reduce2 c) = 1
node_cost (refuse n) = 0

abbrev key_cost : Act → ℕ
key_cost (read_on p) = held p
key_cost (enter es) = 0
key_cost (put_back es) = 0
key_cost (make l es) = leaf_keys l
key_cost (reduce1 w) = 0
key_cost (reduce2 c) = 0
key_cost (refuse n) = 0

-- a push pays for a key
abbrev pub key_credit : Lexeme → ℕ
key_credit (op c) = 0
key_credit (num n) = 0
key_credit (push c d) = 1

abbrev pub pushes : List Lexeme → ℕ
pushes [] = 0
pushes (t ∷ ts) = key_credit t + pushes ts

abbrev Cheap : Point → ℕ → Act → Type 0
Cheap p keys a = (leb (step_cost a) (step_credit p) ≡ true) × (leb (node_cost a) (node_credit p) ≡ true) × (key_cost a ≤ held p + keys)

abbrev CheapCase : Point → Case → Type 0
CheapCase p (opcode k a) = Cheap p 0 a
CheapCase p (number k a) = Cheap p 0 a
CheapCase p (any_number f) = (n : ℕ) → Cheap p 0 (f n)
CheapCase p (pushed k f) = (d : Data) → Cheap p 1 (f d)
CheapCase p (other a) = Cheap p 0 a

abbrev CheapCases : Point → List Case → Type 0
CheapCases p [] = Unit {0}
CheapCases p (x ∷ l) = CheapCase p x × CheapCases p l

infixr 40 ◌&◌
◌&◌ : {A B : Type 0} → A → B → A × B
◌&◌ a b = (a, b)

none : {n : ℕ} → 0 ≤ n
none = omega arith

pick_cheap : (p : Point) (k : ℕ) (b : Bool) (x y : Act) → Cheap p k x → Cheap p k y → Cheap p k (pick b x y)
pick_cheap p k true x y h g = h
pick_cheap p k false x y h g = g

refuse_cheap : (p : Point) (k n : ℕ) → Cheap p k (refuse n)
refuse_cheap p k n = (leb-zero (step_credit p), leb-zero (node_credit p), none)

more_credit : (p : Point) (k : ℕ) (a : Act) → Cheap p 0 a → Cheap p k a
more_credit p k a h = (h.0, h.1, omega (arith, h.2))

one_more : (n : ℕ) → suc n ≤ n + 1
one_more n = omega arith

no_more : (n : ℕ) → n ≤ n + 0
no_more n = omega arith

module _ (segwit : Bool) where
  rows_cheap : (p : Point) → CheapCases p (cases segwit p)
  rows_cheap inExpression = (λ d. (refl, refl, none)) & (λ d. (refl, refl, none)) & (λ d. (refl, refl, none)) & (refl, refl, none) & (refl, refl, none) & (refl, refl, none) & (refl, refl, none) & (refl, refl, none)
      & (refl, refl, none) & (refl, refl, none) & (refl, refl, none) & (refl, refl, none) & (refl, refl, none) & (refl, refl, none) & (refl, refl, none) & (refl, refl, none) & tt
  rows_cheap afterVerify = (refl, refl, none) & (refl, refl, none) & tt
  rows_cheap afterVerifyEqual = (λ d. (refl, refl, none)) & (λ d. (refl, refl, none)) & (λ k. (refl, refl, none)) & tt
  rows_cheap (afterVerifyEqualHash20 h) = (refl, refl, none) & (refl, refl, none) & tt
  rows_cheap (afterVerifyEqualHash20Hash160 h) = (refl, refl, none) & (refl, refl, none) & tt
  rows_cheap (after_bytes32 v h) = (refl, refl, none) & (refl, refl, none) & tt
  rows_cheap afterCheckSequenceVerify = (λ n. (refl, refl, none)) & tt
  rows_cheap afterCheckLockTimeVerify = (λ n. (refl, refl, none)) & tt
  rows_cheap afterEqual = (λ d. (refl, refl, none)) & (λ d. (refl, refl, none)) & (λ k. (refl, refl, none)) & tt
  rows_cheap (afterEqualHash20 h) = (refl, refl, none) & (refl, refl, none) & tt
  rows_cheap (lockVerify v k h) = (refl, refl, none) & tt
  rows_cheap (lockEqual v k h) = (refl, refl, none) & tt
  rows_cheap (lock32 v k h) = (refl, refl, none) & tt
  rows_cheap (lockSize true k h) = (refl, refl, none) & tt
  rows_cheap (lockSize false k h) = (refl, refl, none) & tt
  rows_cheap afterCheckMultiSig = (λ n. pick_cheap afterCheckMultiSig 0 (multi_count n) (read_on (multi_keys n [])) (refuse 13) (refl, refl, none) (refl, refl, none)) & tt
  rows_cheap (multi_keys (suc n) ks) =
      (λ d. pick_cheap (multi_keys (suc n) ks) 1 (multi_key segwit (key BYTES33 d)) (read_on (multi_keys n (key BYTES33 d ∷ ks))) (refuse 11) (refl, refl, one_more (length ks)) (refl, refl, none))
      & (λ d. pick_cheap (multi_keys (suc n) ks) 1 (multi_key segwit (key BYTES65 d)) (read_on (multi_keys n (key BYTES65 d ∷ ks))) (refuse 11) (refl, refl, one_more (length ks)) (refl, refl, none))
      & tt
  rows_cheap (multi_keys zero ks) = (λ k. (refl, refl, no_more (length ks))) & tt
  rows_cheap afterNumEqual = (λ k. pick_cheap afterNumEqual 0 (multi_a_threshold k) (read_on (multiAKeys k [])) (refuse 13) (refl, refl, none) (refl, refl, none)) & tt
  rows_cheap (multiAKeys k ds) = (refl, refl, no_more (length ds)) & (refl, refl, no_more (length ds)) & tt
  rows_cheap (afterCheckSigAdd k ds) = (λ d. pick_cheap (afterCheckSigAdd k ds) 1 (multi_a_key segwit d) (read_on (multiAKeys k (d ∷ ds))) (refuse 11) (refl, refl, one_more (length ds)) (refl, refl, none)) & tt
  rows_cheap (afterCheckSig k ds) = (λ d. pick_cheap (afterCheckSig k ds) 1 (multi_a_key segwit d) (make (MultiA k d ds) []) (refuse 11) (refl, refl, one_more (length ds)) (refl, refl, none)) & tt
  rows_cheap inSwap = (refl, refl, none) & tt
  rows_cheap inAlt = (refl, refl, none) & tt
  rows_cheap (in_thresh_w k n) = (refl, refl, none) & (refl, refl, none) & tt
  rows_cheap inEndIf = (refl, refl, none) & (refl, refl, none) & (refl, refl, none) & tt
  rows_cheap afterIf = (refl, refl, none) & (refl, refl, none) & tt
  rows_cheap afterIfZeroNotEqual = (refl, refl, none) & tt
  rows_cheap inEndIfNotIf = (refl, refl, none) & (refl, refl, none) & tt
  rows_cheap inEndIfElse = (refl, refl, none) & (refl, refl, none) & tt
  rows_cheap inWExpression = (refl, refl, none) & (refl, refl, none) & tt

  fits_cheap : (p : Point) (x : Case) (t : Lexeme) (r : Act) → CheapCase p x → Cheap p (key_credit t) r → Cheap p (key_credit t) (fits x t r)
  fits_cheap p (opcode k a) (op c) r h g = pick_cheap p 0 (eqb c k) a r h g
  fits_cheap p (opcode k a) (num n) r h g = g
  fits_cheap p (opcode k a) (push c d) r h g = g
  fits_cheap p (number k a) (op c) r h g = g
  fits_cheap p (number k a) (num n) r h g = pick_cheap p 0 (eqb n k) a r h g
  fits_cheap p (number k a) (push c d) r h g = g
  fits_cheap p (any_number f) (op c) r h g = g
  fits_cheap p (any_number f) (num n) r h g = h n
  fits_cheap p (any_number f) (push c d) r h g = g
  fits_cheap p (pushed k f) (op c) r h g = g
  fits_cheap p (pushed k f) (num n) r h g = g
  fits_cheap p (pushed k f) (push c d) r h g = pick_cheap p 1 (eqb c k) (f d) r (h d) g
  fits_cheap p (other a) t r h g = more_credit p (key_credit t) a h

  look_cheap : (p : Point) (t : Lexeme) (l : List Case) → CheapCases p l → Cheap p (key_credit t) (look t l)
  look_cheap p t [] h = refuse_cheap p (key_credit t) 10
  look_cheap p t (x ∷ l) h = fits_cheap p x t (look t l) h.0 (look_cheap p t l h.1)

-- The potentials of a state

abbrev step_pot : Point → List Lexeme → ℕ
step_pot p [] = 0
step_pot p (t ∷ left) = step_credit p + 8 * length left

abbrev node_pot : Point → List Lexeme → ℕ
node_pot p [] = 0
node_pot p (t ∷ left) = node_credit p + 2 * length left

abbrev step_head : NonTerm → List Lexeme → ℕ
step_head Expression left = step_pot inExpression left
step_head WExpression left = 8 * length left + 1
step_head MaybeAndV left = pick (is_and_v left) (8 * length left - 1) (8 * length left + 1)
step_head AndV left = 8 * length left + 1
step_head Alt left = 8 * length left + 1
step_head Swap left = 8 * length left + 1
step_head EndIf left = 8 * length left + 1
step_head EndIfNotIf left = 8 * length left + 1
step_head EndIfElse left = 8 * length left + 1
step_head Tern left = 8 * length left + 1
step_head (Reduce1 w) left = 8 * length left + 1
step_head (Reduce2 c) left = 8 * length left + 1
step_head (ThreshW k n) left = 8 * length left + 1
step_head (ThreshE k n) left = 8 * length left + 1

abbrev node_head : NonTerm → List Lexeme → ℕ
node_head Expression left = node_pot inExpression left
node_head WExpression left = 2 * length left
node_head MaybeAndV left = 2 * length left
node_head AndV left = 2 * length left + 1
node_head Alt left = 2 * length left
node_head Swap left = 2 * length left
node_head EndIf left = 2 * length left
node_head EndIfNotIf left = 2 * length left
node_head EndIfElse left = 2 * length left
node_head Tern left = 2 * length left + 1
node_head (Reduce1 w) left = 2 * length left + 1
node_head (Reduce2 c) left = 2 * length left + 1
node_head (ThreshW k n) left = 2 * length left
node_head (ThreshE k n) left = 2 * length left + 1

abbrev pub to_step : List NonTerm → List Lexeme → ℕ
to_step [] left = 8 * length left
to_step (e ∷ work) left = step_head e left + length work

abbrev pub to_make : List NonTerm → List Lexeme → ℕ
to_make [] left = 2 * length left
to_make (e ∷ work) left = node_head e left + waiting work

step_pot_le : (p : Point) (left : List Lexeme) → step_pot p left ≤ 8 * length left
step_pot_le p [] = omega arith
step_pot_le p (t ∷ left) = omega (arith, step_credit_le p)

node_pot_le : (p : Point) (left : List Lexeme) → node_pot p left ≤ 2 * length left
node_pot_le p [] = omega arith
node_pot_le p (t ∷ left) = omega (arith, node_credit_le p)

to_step_le : (work : List NonTerm) (left : List Lexeme) → to_step work left ≤ 8 * length left + length work
to_step_le [] left = omega arith
to_step_le (Expression ∷ work) left = omega (arith, step_pot_le inExpression left)
to_step_le (WExpression ∷ work) left = omega arith
to_step_le (MaybeAndV ∷ work) left = omega (arith, pick_le (is_and_v left) (8 * length left - 1) (8 * length left + 1) (8 * length left + 1) (omega arith) (omega arith))
to_step_le (AndV ∷ work) left = omega arith
to_step_le (Alt ∷ work) left = omega arith
to_step_le (Swap ∷ work) left = omega arith
to_step_le (EndIf ∷ work) left = omega arith
to_step_le (EndIfNotIf ∷ work) left = omega arith
to_step_le (EndIfElse ∷ work) left = omega arith
to_step_le (Tern ∷ work) left = omega arith
to_step_le (Reduce1 w ∷ work) left = omega arith
to_step_le (Reduce2 c ∷ work) left = omega arith
to_step_le (ThreshW k n ∷ work) left = omega arith
to_step_le (ThreshE k n ∷ work) left = omega arith

to_make_le : (work : List NonTerm) (left : List Lexeme) → to_make work left ≤ 2 * length left + waiting work
to_make_le [] left = omega arith
to_make_le (Expression ∷ work) left = omega (arith, node_pot_le inExpression left)
to_make_le (WExpression ∷ work) left = omega arith
to_make_le (MaybeAndV ∷ work) left = omega arith
to_make_le (AndV ∷ work) left = omega arith
to_make_le (Alt ∷ work) left = omega arith
to_make_le (Swap ∷ work) left = omega arith
to_make_le (EndIf ∷ work) left = omega arith
to_make_le (EndIfNotIf ∷ work) left = omega arith
to_make_le (EndIfElse ∷ work) left = omega arith
to_make_le (Tern ∷ work) left = omega arith
to_make_le (Reduce1 w ∷ work) left = omega arith
to_make_le (Reduce2 c ∷ work) left = omega arith
to_make_le (ThreshW k n ∷ work) left = omega arith
to_make_le (ThreshE k n ∷ work) left = omega arith

-- a step costs one, makes no more nodes than were waited for or paid for, and holds no more keys than pushes taken
abbrev pub Less : ℕ → ℕ → ℕ → Next → Type 0
Less p n k (stops r) = Unit {0}
Less p n k (goes s) = (to_step s.work s.left + 1 ≤ p) × (sizes s.done + to_make s.work s.left ≤ n) × (key_counts s.done + pushes s.left ≤ k)

less_mono : (a : Next) {p n k p' n' k' : ℕ} → p ≤ p' → n ≤ n' → k ≤ k' → Less p n k a → Less p' n' k' a
less_mono (stops r) hp hn hk g = tt
less_mono (goes s) hp hn hk g = (omega arith, omega arith, omega arith)

goes_less : (work : List NonTerm) (left : List Lexeme) (done : Trees) (p n k : ℕ)
    → 8 * length left + length work + 1 ≤ p → sizes done + 2 * length left + waiting work ≤ n → key_counts done + pushes left ≤ k → Less p n k (goes_on work left done)
goes_less work left done p n k hp hn hk = (omega (arith, to_step_le work left), omega (arith, to_make_le work left), hk)

admit_less : (j : Judged) (work : List NonTerm) (left : List Lexeme) (done : Trees) (p n k : ℕ) → Less p n k (goes_on work left done) → Less p n k (admit j work left done)
admit_less passes work left done p n k h = h
admit_less (fails x y) work left done p n k h = tt

module _ (segwit : Bool) where
  finish_less : (t : Tree) (work : List NonTerm) (left : List Lexeme) (done : Trees) (p n k : ℕ)
      → 8 * length left + length work + 1 ≤ p → size t + sizes done + 2 * length left + waiting work ≤ n → key_count t + key_counts done + pushes left ≤ k → Less p n k (finish segwit t work left done)
  finish_less t work left done p n k hp hn hk = admit_less (judge segwit t) work left (t ⊳ done) p n k (goes_less work left (t ⊳ done) p n k hp hn hk)

  one_less : (w : Wrapper) (work : List NonTerm) (left : List Lexeme) (done : Trees) (p n k : ℕ)
      → 8 * length left + length work + 1 ≤ p → sizes done + 1 + 2 * length left + waiting work ≤ n → key_counts done + pushes left ≤ k → Less p n k (finish1 segwit w work left done)
  one_less w work left nil p n k hp hn hk = tt
  one_less w work left (x ⊳ done) p n k hp hn hk = finish_less (wrap w x) work left done p n k hp (omega arith) (omega arith)

  two_less : (c : Combination) (work : List NonTerm) (left : List Lexeme) (done : Trees) (p n k : ℕ)
      → 8 * length left + length work + 1 ≤ p → sizes done + 1 + 2 * length left + waiting work ≤ n → key_counts done + pushes left ≤ k → Less p n k (finish2 segwit c work left done)
  two_less c work left nil p n k hp hn hk = tt
  two_less c work left (x ⊳ nil) p n k hp hn hk = tt
  two_less c work left (x ⊳ (y ⊳ done)) p n k hp hn hk = finish_less (join c x y) work left done p n k hp (omega arith) (omega arith)

  three_less : (work : List NonTerm) (left : List Lexeme) (done : Trees) (p n k : ℕ)
      → 8 * length left + length work + 1 ≤ p → sizes done + 1 + 2 * length left + waiting work ≤ n → key_counts done + pushes left ≤ k → Less p n k (finish3 segwit work left done)
  three_less work left nil p n k hp hn hk = tt
  three_less work left (x ⊳ nil) p n k hp hn hk = tt
  three_less work left (x ⊳ (z ⊳ nil)) p n k hp hn hk = tt
  three_less work left (x ⊳ (z ⊳ (y ⊳ done))) p n k hp hn hk = finish_less (and_or x y z) work left done p n k hp (omega arith) (omega arith)

  take_less : (m : ℕ) (ts : Trees) (f : Trees → Trees → Next) (p n k : ℕ)
      → ((xs under : Trees) → sizes xs + sizes under ≡ sizes ts → key_counts xs + key_counts under ≡ key_counts ts → Less p n k (f xs under)) → Less p n k (take_trees m ts (stops never) f)
  take_less zero ts f p n k h = h nil ts (omega arith) (omega arith)
  take_less (suc m) nil f p n k h = tt
  take_less (suc m) (t ⊳ ts) f p n k h = take_less m ts (λ xs under. f (t ⊳ xs) under) p n k (λ xs under e g. h (t ⊳ xs) under (omega arith) (omega arith))

  many_less : (j m : ℕ) (work : List NonTerm) (left : List Lexeme) (done : Trees) (p n k : ℕ)
      → 8 * length left + length work + 1 ≤ p → sizes done + 1 + 2 * length left + waiting work ≤ n → key_counts done + pushes left ≤ k → Less p n k (finish_many segwit j m work left done)
  many_less j m work left nil p n k hp hn hk = tt
  many_less j zero work left (x ⊳ done) p n k hp hn hk = tt
  many_less j (suc m) work left (x ⊳ done) p n k hp hn hk =
      take_less m done (λ xs under. finish segwit (thresh j x xs) work left under) p n k (λ xs under e g. finish_less (thresh j x xs) work left under p n k hp (omega arith) (omega arith))

  act_less : (p : Point) (t : Lexeme) (a : Act) (left : List Lexeme) (work : List NonTerm) (done : Trees) → Cheap p (key_credit t) a
      → ((q : Point) → Less (step_pot q left + length work) (sizes done + node_pot q left + waiting work) (key_counts done + held q + pushes left) (perform segwit (read_from segwit q left) work done))
      → Less (step_credit p + 8 * length left + length work) (sizes done + (node_credit p + 2 * length left) + waiting work) (key_counts done + held p + (key_credit t + pushes left))
      (perform segwit (follow a (λ q. read_from segwit q left) t left) work done)
  act_less p t (read_on q) left work done h ih = less_mono (perform segwit (read_from segwit q left) work done) (omega (arith, step_pot_le q left)) (omega (arith, node_pot_le q left)) (omega (arith, h.2)) (ih q)
  act_less p t (enter es) left work done h ih =
      goes_less (es ++ work) left done _ _ _ (omega (arith, leb-true (length es + 1) (step_credit p) h.0, length-append es work)) (omega (arith, leb-true (waiting es) (node_credit p) h.1, waiting_append es work)) (omega arith)
  act_less p t (put_back es) left work done h ih =
      (omega (arith, leb-true (length es + 6) (step_credit p) h.0, length-append es work), omega (arith, leb-true (waiting es + 1) (node_credit p) h.1, waiting_append es work), omega arith)
  act_less p t (make l es) left work done h ih =
      finish_less (leaf l) (es ++ work) left done _ _ _ (omega (arith, leb-true (length es + 1) (step_credit p) h.0, length-append es work)) (omega (arith, leb-true (waiting es + 1) (node_credit p) h.1, waiting_append es work)) (omega (arith, h.2))
  act_less p t (reduce1 w) left work done h ih = one_less w work left done _ _ _ (omega (arith, leb-true 1 (step_credit p) h.0)) (omega (arith, leb-true 1 (node_credit p) h.1)) (omega arith)
  act_less p t (reduce2 c) left work done h ih = two_less c work left done _ _ _ (omega (arith, leb-true 1 (step_credit p) h.0)) (omega (arith, leb-true 1 (node_credit p) h.1)) (omega arith)
  act_less p t (refuse n) left work done h ih = tt

  read_less : (p : Point) (left : List Lexeme) (work : List NonTerm) (done : Trees)
      → Less (step_pot p left + length work) (sizes done + node_pot p left + waiting work) (key_counts done + held p + pushes left) (perform segwit (read_from segwit p left) work done)
  read_less p [] work done = tt
  read_less p (t ∷ left) work done = act_less p t (act_at segwit p t) left work done (look_cheap segwit p t (cases segwit p) (rows_cheap segwit p)) (λ q. read_less q left work done)

  -- an entry that reads from its first token on
  from : (p : Point) (left : List Lexeme) (work : List NonTerm) (done : Trees) → held p ≡ 0
      → Less (8 * length left + 1 + length work) (sizes done + (2 * length left + waiting work)) (key_counts done + pushes left) (perform segwit (read_from segwit p left) work done)
  from p left work done z = less_mono (perform segwit (read_from segwit p left) work done) (omega (arith, step_pot_le p left)) (omega (arith, node_pot_le p left)) (omega arith) (read_less p left work done)

  pick_less : (b : Bool) (x y : Found) (work : List NonTerm) (done : Trees) (p n k : ℕ) → (b ≡ true → Less p n k (perform segwit x work done)) → (b ≡ false → Less p n k (perform segwit y work done)) → Less p n k (perform segwit (pick b x y) work done)
  pick_less true x y work done p n k f g = f refl
  pick_less false x y work done p n k f g = g refl

  yes_less : (left : List Lexeme) (work : List NonTerm) → is_and_v left ≡ true
      → (to_step (Expression ∷ AndV ∷ work) left + 1 ≤ to_step (MaybeAndV ∷ work) left) × (to_step (MaybeAndV ∷ AndV ∷ work) left + 1 ≤ to_step (AndV ∷ work) left) × (to_make (Expression ∷ AndV ∷ work) left ≤ to_make (MaybeAndV ∷ work) left)
  yes_less [] work e = absurd (true≢false (sym e))
  yes_less (t ∷ left) work e = (rw e (omega arith), rw e (omega arith), omega arith)

  no_less : (left : List Lexeme) (work : List NonTerm) → is_and_v left ≡ false → 8 * length left + 1 + length work ≤ to_step (MaybeAndV ∷ work) left
  no_less left work e = rw e (omega arith)

  pub step_less : (e : NonTerm) (work : List NonTerm) (left : List Lexeme) (done : Trees)
      → Less (to_step (e ∷ work) left) (sizes done + to_make (e ∷ work) left) (key_counts done + pushes left) (perform segwit (row_of segwit e left) work done)
  step_less Expression work left done = less_mono (perform segwit (read_from segwit inExpression left) work done) (omega arith) (omega arith) (omega arith) (read_less inExpression left work done)
  step_less WExpression work left done = from inWExpression left work done refl
  step_less MaybeAndV work left done = pick_less (is_and_v left) _ _ work done _ _ _
      (λ e. ((yes_less left work e).0, omega (arith, (yes_less left work e).2), omega arith))
      (λ e. goes_less work left done _ _ _ (omega (arith, no_less left work e)) (omega arith) (omega arith))
  step_less AndV work left done = pick_less (is_and_v left) _ _ work done _ _ _
      (λ e. ((yes_less left work e).1, omega arith, omega arith))
      (λ e. two_less and_v work left done _ _ _ (omega arith) (omega arith) (omega arith))
  step_less Alt work left done = from inAlt left work done refl
  step_less Swap work left done = from inSwap left work done refl
  step_less EndIf work left done = from inEndIf left work done refl
  step_less EndIfNotIf work left done = from inEndIfNotIf left work done refl
  step_less EndIfElse work left done = from inEndIfElse left work done refl
  step_less Tern work left done = three_less work left done _ _ _ (omega arith) (omega arith) (omega arith)
  step_less (Reduce1 w) work left done = one_less w work left done _ _ _ (omega arith) (omega arith) (omega arith)
  step_less (Reduce2 c) work left done = two_less c work left done _ _ _ (omega arith) (omega arith) (omega arith)
  step_less (ThreshW k n) work left done = from (in_thresh_w k n) left work done refl
  step_less (ThreshE k n) work left done = many_less k n work left done _ _ _ (omega arith) (omega arith) (omega arith)

-- the work list is no longer than the steps to come, and one
pub work_le : (work : List NonTerm) (left : List Lexeme) → length work ≤ to_step work left + 1
work_le [] left = omega arith
work_le (Expression ∷ work) left = omega arith
work_le (WExpression ∷ work) left = omega arith
work_le (MaybeAndV ∷ work) left = omega arith
work_le (AndV ∷ work) left = omega arith
work_le (Alt ∷ work) left = omega arith
work_le (Swap ∷ work) left = omega arith
work_le (EndIf ∷ work) left = omega arith
work_le (EndIfNotIf ∷ work) left = omega arith
work_le (EndIfElse ∷ work) left = omega arith
work_le (Tern ∷ work) left = omega arith
work_le (Reduce1 w ∷ work) left = omega arith
work_le (Reduce2 c ∷ work) left = omega arith
work_le (ThreshW k n ∷ work) left = omega arith
work_le (ThreshE k n ∷ work) left = omega arith

-- After n steps over t tokens with so many pushes: what is still to do

abbrev pub Bounded : ℕ → ℕ → ℕ → Next → Type 0
Bounded t d n (stops r) = Unit {0}
Bounded t d n (goes s) = (to_step s.work s.left + n + 1 ≤ 8 * t + 2) × (sizes s.done + to_make s.work s.left ≤ 2 * t) × (key_counts s.done + pushes s.left ≤ d)

pub begin_bounded : (left : List Lexeme) → Bounded (length left) (pushes left) 0 (goes_on (Expression ∷ MaybeAndV ∷ []) left nil)
begin_bounded left = (omega (arith, step_pot_le inExpression left), omega (arith, node_pot_le inExpression left), omega arith)

bounded_of : (t d n p m k : ℕ) (a : Next) → p + n + 1 ≤ 8 * t + 2 → m ≤ 2 * t → k ≤ d → Less p m k a → Bounded t d (suc n) a
bounded_of t d n p m k (stops r) hp hm hk g = tt
bounded_of t d n p m k (goes s) hp hm hk g = (omega arith, omega arith, omega arith)

pub step_bounded : (segwit : Bool) (t d n : ℕ) (e : NonTerm) (work : List NonTerm) (left : List Lexeme) (done : Trees) → Bounded t d n (goes_on (e ∷ work) left done) → Bounded t d (suc n) (step segwit (e ∷ work) left done)
step_bounded segwit t d n e work left done b =
    bounded_of t d n (to_step (e ∷ work) left) (sizes done + to_make (e ∷ work) left) (key_counts done + pushes left) (step segwit (e ∷ work) left done) b.0 b.1 b.2 (step_less segwit e work left done)

pub pushes_le : (l : List Lexeme) → pushes l ≤ length l
pushes_le [] = omega arith
pushes_le (op c ∷ l) = omega (arith, pushes_le l)
pushes_le (num n ∷ l) = omega (arith, pushes_le l)
pushes_le (push c d ∷ l) = omega (arith, pushes_le l)
