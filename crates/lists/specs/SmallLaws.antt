-- For the proof: the entries that a row enters are small, where the entry taken off and the tokens' numbers are. Assumes nothing.
use Rattle.std.specs.Prelude.{Bool, true, false, List, [], ◌∷◌, ℕ, zero, suc, ◌<◌, eqb}
use Rattle.tables.specs.Choose.{pick}
use Rattle.lex.specs.Token.{Data, Lexeme, op, num, push}
use Rattle.standard.specs.Allowed.{multi_key, multi_a_key, multi_count, multi_a_threshold}
use Rattle.standard.specs.Rows.{NonTerm, Expression, WExpression, MaybeAndV, AndV, Alt, Swap, EndIf, EndIfNotIf, EndIfElse, Tern, Reduce1, Reduce2, ThreshW, ThreshE, Point, in_thresh_w, inExpression, inWExpression, inAlt, inSwap, inEndIf, inEndIfNotIf, inEndIfElse, afterVerify, afterVerifyEqual, afterEqual, afterCheckSequenceVerify, afterCheckLockTimeVerify, afterCheckMultiSig, afterNumEqual, afterIf, afterIfZeroNotEqual, afterVerifyEqualHash20, afterVerifyEqualHash20Hash160, afterEqualHash20, after_bytes32, lockVerify, lockEqual, lock32, lockSize, multi_keys, multiAKeys, afterCheckSigAdd, afterCheckSig}
use Rattle.standard.specs.Rows.{Act, read_on, enter, put_back, make, reduce1, reduce2, refuse, Case, opcode, number, any_number, pushed, other, fits, look, is_and_v, Asks, noneLeft, reduces3, refuses, enters, makes, reduces1, reduces2, reduces_many, Found, found, follow, cases, act_at, read_from, row_of}
use Rattle.lists.specs.Small.{SmallEntries, SmallLexeme, SmallLexemes}

-- what a row asks for

abbrev pub SmallAsks : ℕ → Asks → Type 0
SmallAsks most noneLeft = Unit {0}
SmallAsks most reduces3 = Unit {0}
SmallAsks most (refuses n) = Unit {0}
SmallAsks most (enters es) = SmallEntries most es
SmallAsks most (makes l es) = SmallEntries most es
SmallAsks most (reduces1 w) = Unit {0}
SmallAsks most (reduces2 c) = Unit {0}
SmallAsks most (reduces_many k n) = Unit {0}

abbrev pub SmallFound : ℕ → Found → Type 0
SmallFound most (found asks left) = SmallAsks most asks

-- one more child can be counted

abbrev pub Countable : ℕ → NonTerm → Type 0
Countable most Expression = Unit {0}
Countable most WExpression = Unit {0}
Countable most MaybeAndV = Unit {0}
Countable most AndV = Unit {0}
Countable most Alt = Unit {0}
Countable most Swap = Unit {0}
Countable most EndIf = Unit {0}
Countable most EndIfNotIf = Unit {0}
Countable most EndIfElse = Unit {0}
Countable most Tern = Unit {0}
Countable most (Reduce1 w) = Unit {0}
Countable most (Reduce2 c) = Unit {0}
Countable most (ThreshW k n) = (k < 4294967296) × (suc n < most)
Countable most (ThreshE k n) = Unit {0}

abbrev SmallPoint : ℕ → Point → Type 0
SmallPoint most inExpression = Unit {0}
SmallPoint most inWExpression = Unit {0}
SmallPoint most inAlt = Unit {0}
SmallPoint most inSwap = Unit {0}
SmallPoint most inEndIf = Unit {0}
SmallPoint most inEndIfNotIf = Unit {0}
SmallPoint most inEndIfElse = Unit {0}
SmallPoint most afterVerify = Unit {0}
SmallPoint most afterVerifyEqual = Unit {0}
SmallPoint most afterEqual = Unit {0}
SmallPoint most afterCheckSequenceVerify = Unit {0}
SmallPoint most afterCheckLockTimeVerify = Unit {0}
SmallPoint most afterCheckMultiSig = Unit {0}
SmallPoint most afterNumEqual = Unit {0}
SmallPoint most afterIf = Unit {0}
SmallPoint most afterIfZeroNotEqual = Unit {0}
SmallPoint most (afterVerifyEqualHash20 h) = Unit {0}
SmallPoint most (afterVerifyEqualHash20Hash160 h) = Unit {0}
SmallPoint most (afterEqualHash20 h) = Unit {0}
SmallPoint most (after_bytes32 v h) = Unit {0}
SmallPoint most (lockVerify v x h) = Unit {0}
SmallPoint most (lockEqual v x h) = Unit {0}
SmallPoint most (lock32 v x h) = Unit {0}
SmallPoint most (lockSize v x h) = Unit {0}
SmallPoint most (multi_keys n ks) = Unit {0}
SmallPoint most (multiAKeys k ds) = Unit {0}
SmallPoint most (afterCheckSigAdd k ds) = Unit {0}
SmallPoint most (afterCheckSig k ds) = Unit {0}
SmallPoint most (in_thresh_w k n) = (k < 4294967296) × (suc n < most)

abbrev SmallAct : ℕ → Act → Type 0
SmallAct most (read_on p) = SmallPoint most p
SmallAct most (enter es) = SmallEntries most es
SmallAct most (put_back es) = SmallEntries most es
SmallAct most (make l es) = SmallEntries most es
SmallAct most (reduce1 w) = Unit {0}
SmallAct most (reduce2 c) = Unit {0}
SmallAct most (refuse n) = Unit {0}

abbrev SmallCase : ℕ → Case → Type 0
SmallCase most (opcode c a) = SmallAct most a
SmallCase most (number k a) = SmallAct most a
SmallCase most (any_number f) = (n : ℕ) → n < 4294967296 → SmallAct most (f n)
SmallCase most (pushed c f) = (d : Data) → SmallAct most (f d)
SmallCase most (other a) = SmallAct most a

abbrev SmallCases : ℕ → List Case → Type 0
SmallCases most [] = Unit {0}
SmallCases most (c ∷ cs) = SmallCase most c × SmallCases most cs

picked : (most : ℕ) (b : Bool) (x y : Act) → SmallAct most x → SmallAct most y → SmallAct most (pick b x y)
picked most true x y h g = h
picked most false x y h g = g

fits_small : (most : ℕ) (c : Case) (t : Lexeme) (next : Act) → SmallCase most c → SmallLexeme t → SmallAct most next → SmallAct most (fits c t next)
fits_small most (opcode c a) (op code) next h s g = picked most (eqb code c) a next h g
fits_small most (opcode c a) (num n) next h s g = g
fits_small most (opcode c a) (push code d) next h s g = g
fits_small most (number k a) (op code) next h s g = g
fits_small most (number k a) (num n) next h s g = picked most (eqb n k) a next h g
fits_small most (number k a) (push code d) next h s g = g
fits_small most (any_number f) (op code) next h s g = g
fits_small most (any_number f) (num n) next h s g = h n s
fits_small most (any_number f) (push code d) next h s g = g
fits_small most (pushed c f) (op code) next h s g = g
fits_small most (pushed c f) (num n) next h s g = g
fits_small most (pushed c f) (push code d) next h s g = picked most (eqb code c) (f d) next (h d) g
fits_small most (other a) t next h s g = h

look_small : (most : ℕ) (t : Lexeme) (cs : List Case) → SmallLexeme t → SmallCases most cs → SmallAct most (look t cs)
look_small most t [] s h = tt
look_small most t (c ∷ cs) s h = fits_small most c t (look t cs) h.0 s (look_small most t cs s h.1)

-- a list of proofs
infixr 40 ◌&◌
◌&◌ : {A B : Type 0} → A → B → A × B
◌&◌ a b = (a, b)

-- the table, point by point
module _ (segwit : Bool) (most : ℕ) (some : 0 < most) where
  cases_small : (p : Point) → SmallPoint most p → SmallCases most (cases segwit p)
  cases_small inExpression h = (λ d. tt) & (λ d. tt) & (λ d. tt) & (tt & tt & tt) & tt & (tt & tt & tt) & tt & tt & tt & tt & tt & (tt & tt & tt & tt) & (tt & tt & tt & tt) & (tt & tt & tt & tt) & tt & tt & tt
  cases_small afterVerify h = tt & (tt & tt) & tt
  cases_small afterVerifyEqual h = (λ d. tt) & (λ d. tt) & (λ k s. (s, some) & tt & tt) & tt
  cases_small (afterVerifyEqualHash20 x) h = tt & tt & tt
  cases_small (afterVerifyEqualHash20Hash160 x) h = tt & tt & tt
  cases_small (after_bytes32 v x) h = tt & tt & tt
  cases_small afterCheckSequenceVerify h = (λ n s. tt) & tt
  cases_small afterCheckLockTimeVerify h = (λ n s. tt) & tt
  cases_small afterEqual h = (λ d. tt) & (λ d. tt) & (λ k s. (s, some) & tt) & tt
  cases_small (afterEqualHash20 x) h = tt & tt & tt
  cases_small (lockVerify v x y) h = tt & tt
  cases_small (lockEqual v x y) h = tt & tt
  cases_small (lock32 v x y) h = tt & tt
  cases_small (lockSize true x y) h = (tt & tt) & tt
  cases_small (lockSize false x y) h = tt & tt
  cases_small afterCheckMultiSig h = (λ n s. picked most (multi_count n) (read_on (multi_keys n [])) (refuse 13) tt tt) & tt
  cases_small (multi_keys (suc n) ks) h = (λ d. picked most (multi_key segwit _) (read_on (multi_keys n _)) (refuse 11) tt tt) & (λ d. picked most (multi_key segwit _) (read_on (multi_keys n _)) (refuse 11) tt tt) & tt
  cases_small (multi_keys zero ks) h = (λ k s. tt) & tt
  cases_small afterNumEqual h = (λ k s. picked most (multi_a_threshold k) (read_on (multiAKeys k [])) (refuse 13) tt tt) & tt
  cases_small (multiAKeys k ds) h = tt & tt & tt
  cases_small (afterCheckSigAdd k ds) h = (λ d. picked most (multi_a_key segwit d) (read_on (multiAKeys k (d ∷ ds))) (refuse 11) tt tt) & tt
  cases_small (afterCheckSig k ds) h = (λ d. picked most (multi_a_key segwit d) (make _ []) (refuse 11) tt tt) & tt
  cases_small inSwap h = tt & tt
  cases_small inAlt h = tt & tt
  cases_small (in_thresh_w k n) h = (tt & h & tt) & (h & tt) & tt
  cases_small inEndIf h = (tt & tt & tt & tt) & tt & (tt & tt) & tt
  cases_small afterIf h = (tt & tt) & tt & tt
  cases_small afterIfZeroNotEqual h = (tt & tt) & tt
  cases_small inEndIfNotIf h = (tt & tt & tt) & (tt & tt) & tt
  cases_small inEndIfElse h = tt & (tt & tt & tt) & tt
  cases_small inWExpression h = (tt & tt & tt & tt) & (tt & tt & tt) & tt

  follow_small : (a : Act) (further : Point → Found) (t : Lexeme) (left : List Lexeme) → SmallAct most a → ((p : Point) → SmallPoint most p → SmallFound most (further p)) → SmallFound most (follow a further t left)
  follow_small (read_on p) further t left h g = g p h
  follow_small (enter es) further t left h g = h
  follow_small (put_back es) further t left h g = (tt, h)
  follow_small (make l es) further t left h g = h
  follow_small (reduce1 w) further t left h g = tt
  follow_small (reduce2 c) further t left h g = tt
  follow_small (refuse n) further t left h g = tt

  read_small : (p : Point) (left : List Lexeme) → SmallPoint most p → SmallLexemes left → SmallFound most (read_from segwit p left)
  read_small p [] h s = tt
  read_small p (t ∷ left) h s =
      follow_small (act_at segwit p t) (λ q. read_from segwit q left) t left (look_small most t (cases segwit p) s.0 (cases_small p h)) (λ q g. read_small q left g s.1)

  branch : (b : Bool) (x y : Found) → SmallFound most x → SmallFound most y → SmallFound most (pick b x y)
  branch true x y h g = h
  branch false x y h g = g

  -- what the row of an entry enters is small
  pub row_small : (e : NonTerm) (left : List Lexeme) → Countable most e → SmallLexemes left → SmallFound most (row_of segwit e left)
  row_small Expression left h s = read_small inExpression left tt s
  row_small WExpression left h s = read_small inWExpression left tt s
  row_small MaybeAndV left h s = branch (is_and_v left) _ _ (tt & tt & tt) tt
  row_small AndV left h s = branch (is_and_v left) _ _ (tt & tt & tt) tt
  row_small Alt left h s = read_small inAlt left tt s
  row_small Swap left h s = read_small inSwap left tt s
  row_small EndIf left h s = read_small inEndIf left tt s
  row_small EndIfNotIf left h s = read_small inEndIfNotIf left tt s
  row_small EndIfElse left h s = read_small inEndIfElse left tt s
  row_small Tern left h s = tt
  row_small (Reduce1 w) left h s = tt
  row_small (Reduce2 c) left h s = tt
  row_small (ThreshW k n) left h s = read_small (in_thresh_w k n) left h s
  row_small (ThreshE k n) left h s = tt
