-- The rows of `decode` (decode.rs; document 01, "Tokens to tree"): what the row of a work entry asks for, by the tokens left alone. The last token is taken first, so the tokens left stand in reverse, the next one first.
use Rattle.std.specs.Prelude.{Bool, true, false, not, List, [], ◌∷◌, ℕ, zero, suc, eqb}
use Rattle.lex.specs.Token.{Data, Lexeme, op, num, push}
use Rattle.lex.specs.Token.{BOOLAND, BOOLOR, ADD, EQUAL, NUMEQUAL, CHECKSIG, CHECKSIGADD, CHECKMULTISIG, CHECKSEQUENCEVERIFY, CHECKLOCKTIMEVERIFY, FROMALTSTACK, TOALTSTACK, DUP, IF, IFDUP, NOTIF, ELSE, ENDIF, ZERONOTEQUAL, SIZE, SWAP, VERIFY, RIPEMD160, HASH160, SHA256, HASH256, HASH20, BYTES32, BYTES33, BYTES65}
use Rattle.tables.specs.Choose.{pick}
use Rattle.standard.specs.Tree.{Key, key, Hash, sha256, hash256, ripemd160, hash160, Leaf, True, False, PkK, RawPkH, After, Older, HashLock, Multi, MultiA, Wrapper, alt, swap, check, dupIf, verify, nonZero, zeroNotEqual, Combination, and_v, and_b, or_b, or_d, or_c, or_i}
use Rattle.standard.specs.Allowed.{multi_key, multi_a_key, multi_count, multi_a_threshold}

-- The entries of the work list: decode.rs's `NonTerm`. Alt and Swap take a token before they wrap; Check, DupIf, Verify, NonZero and ZeroNotEqual only wrap; AndB, OrB, OrD and OrC only combine
pub data NonTerm : Type 0 where
  Expression WExpression MaybeAndV AndV Alt Swap EndIf EndIfNotIf EndIfElse Tern : NonTerm
  Reduce1 : Wrapper → NonTerm
  Reduce2 : Combination → NonTerm
  ThreshW ThreshE : ℕ → ℕ → NonTerm

abbrev pub Check : NonTerm
Check = Reduce1 check

abbrev pub DupIf : NonTerm
DupIf = Reduce1 dupIf

abbrev pub Verify : NonTerm
Verify = Reduce1 verify

abbrev pub NonZero : NonTerm
NonZero = Reduce1 nonZero

abbrev pub ZeroNotEqual : NonTerm
ZeroNotEqual = Reduce1 zeroNotEqual

abbrev pub AndB : NonTerm
AndB = Reduce2 and_b

abbrev pub OrB : NonTerm
OrB = Reduce2 or_b

abbrev pub OrD : NonTerm
OrD = Reduce2 or_d

abbrev pub OrC : NonTerm
OrC = Reduce2 or_c

-- A point of a row: what has been read since the entry was taken. decode.rs nests a `match_token!` for each
pub data Point : Type 0 where
  inExpression inWExpression inAlt inSwap inEndIf inEndIfNotIf inEndIfElse : Point
  in_thresh_w : ℕ → ℕ → Point
  -- in Expression, after these tokens
  afterVerify afterVerifyEqual afterEqual afterCheckSequenceVerify afterCheckLockTimeVerify afterCheckMultiSig afterNumEqual : Point
  afterVerifyEqualHash20 afterVerifyEqualHash20Hash160 afterEqualHash20 : Data → Point
  -- after Equal, and Verify before it if so, and the 32 bytes of a hash
  after_bytes32 : Bool → Data → Point
  -- in a hash lock, which still wants Verify, Equal, Num(32) and Size
  lockVerify lockEqual lock32 lockSize : Bool → Hash → Data → Point
  -- so many keys of a multi to come, and those read
  multi_keys : ℕ → List Key → Point
  -- a multi_a's k, and the keys read: before CheckSigAdd or CheckSig, and after each
  multiAKeys afterCheckSigAdd afterCheckSig : ℕ → List Data → Point
  -- in EndIf, after these tokens
  afterIf afterIfZeroNotEqual : Point

-- What a token leads to: another point of the row; entries, the first on top; the token put back, and an Expression over these entries; a leaf, and entries; a node of one child, of two; a refusal
pub data Act : Type 0 where
  read_on : Point → Act
  enter put_back : List NonTerm → Act
  make : Leaf → List NonTerm → Act
  reduce1 : Wrapper → Act
  reduce2 : Combination → Act
  refuse : ℕ → Act

-- A case of a point: an opcode, a number, any number, a push, any other token
pub data Case : Type 0 where
  opcode number : ℕ → Act → Case
  any_number : (ℕ → Act) → Case
  pushed : ℕ → (Data → Act) → Case
  other : Act → Case

-- what a case makes of a token, with what the cases after it make of it
abbrev pub fits : Case → Lexeme → Act → Act
fits (opcode c act) (op code) next = pick (eqb code c) act next
fits (opcode c act) (num n) next = next
fits (opcode c act) (push code d) next = next
fits (number k act) (op code) next = next
fits (number k act) (num n) next = pick (eqb n k) act next
fits (number k act) (push code d) next = next
fits (any_number act) (op code) next = next
fits (any_number act) (num n) next = act n
fits (any_number act) (push code d) next = next
fits (pushed c act) (op code) next = next
fits (pushed c act) (num n) next = next
fits (pushed c act) (push code d) next = pick (eqb code c) (act d) next
fits (other act) t next = act

-- the first case that fits; "token fits no case of the row" is 10
abbrev pub look : Lexeme → List Case → Act
look t [] = refuse 10
look t (c ∷ cs) = fits c t (look t cs)

-- a hash lock under Verify leaves that entry
abbrev pub under_verify : Bool → List NonTerm
under_verify true = Verify ∷ []
under_verify false = []

-- "`is_and_v` is no at the script's start and before If, NotIf, Else, ToAltStack, Swap, else yes"
abbrev pub is_and_v : List Lexeme → Bool
is_and_v [] = false
is_and_v (op c ∷ left) = not (pick (eqb c IF) true (pick (eqb c NOTIF) true (pick (eqb c ELSE) true (pick (eqb c TOALTSTACK) true (eqb c SWAP)))))
is_and_v (num n ∷ left) = true
is_and_v (push c d ∷ left) = true

-- what a row asks for once its tokens are read: a token where none is left (9); a refusal; entries; a leaf, and entries; a node of one child, two, three (and_or), or n with its k (thresh)
pub data Asks : Type 0 where
  noneLeft reduces3 : Asks
  refuses : ℕ → Asks
  enters : List NonTerm → Asks
  makes : Leaf → List NonTerm → Asks
  reduces1 : Wrapper → Asks
  reduces2 : Combination → Asks
  reduces_many : ℕ → ℕ → Asks

-- and the tokens that are left after it
pub data Found : Type 0 where
  found : Asks → List Lexeme → Found

abbrev pub follow : Act → (Point → Found) → Lexeme → List Lexeme → Found
follow (read_on p) further t left = further p
follow (enter entries) further t left = found (enters entries) left
follow (put_back entries) further t left = found (enters (Expression ∷ entries)) (t ∷ left)
follow (make l entries) further t left = found (makes l entries) left
follow (reduce1 w) further t left = found (reduces1 w) left
follow (reduce2 c) further t left = found (reduces2 c) left
follow (refuse n) further t left = found (refuses n) left

module _ (segwit : Bool) where
  -- "11 comes key by key as read"
  abbrev pub multi_next : ℕ → List Key → Key → Act
  multi_next n ks k = pick (multi_key segwit k) (read_on (multi_keys n (k ∷ ks))) (refuse 11)

  -- The table: the cases of each point
  abbrev pub cases : Point → List Case
  cases inExpression =
      pushed BYTES33 (λ d. make (PkK (key BYTES33 d)) [])
      ∷ pushed BYTES65 (λ d. make (PkK (key BYTES65 d)) [])
      ∷ pushed BYTES32 (λ d. make (PkK (key BYTES32 d)) [])
      ∷ opcode CHECKSIG (enter (Expression ∷ Check ∷ []))
      ∷ opcode VERIFY (read_on afterVerify)
      ∷ opcode ZERONOTEQUAL (enter (Expression ∷ ZeroNotEqual ∷ []))
      ∷ opcode CHECKSEQUENCEVERIFY (read_on afterCheckSequenceVerify)
      ∷ opcode CHECKLOCKTIMEVERIFY (read_on afterCheckLockTimeVerify)
      ∷ opcode EQUAL (read_on afterEqual)
      ∷ number 0 (make False [])
      ∷ number 1 (make True [])
      ∷ opcode ENDIF (enter (Expression ∷ MaybeAndV ∷ EndIf ∷ []))
      ∷ opcode BOOLAND (enter (WExpression ∷ Expression ∷ AndB ∷ []))
      ∷ opcode BOOLOR (enter (WExpression ∷ Expression ∷ OrB ∷ []))
      ∷ opcode CHECKMULTISIG (read_on afterCheckMultiSig)
      ∷ opcode NUMEQUAL (read_on afterNumEqual)
      ∷ []
  cases afterVerify =
      opcode EQUAL (read_on afterVerifyEqual)
      ∷ other (put_back (Verify ∷ []))
      ∷ []
  cases afterVerifyEqual =
      pushed HASH20 (λ h. read_on (afterVerifyEqualHash20 h))
      ∷ pushed BYTES32 (λ h. read_on (after_bytes32 true h))
      ∷ any_number (λ k. enter (ThreshW k 0 ∷ Verify ∷ []))
      ∷ []
  cases (afterVerifyEqualHash20 h) =
      opcode HASH160 (read_on (afterVerifyEqualHash20Hash160 h))
      ∷ opcode RIPEMD160 (read_on (lockVerify true ripemd160 h))
      ∷ []
  cases (afterVerifyEqualHash20Hash160 h) =
      opcode DUP (make (RawPkH h) [])
      ∷ opcode VERIFY (read_on (lockEqual true hash160 h))
      ∷ []
  cases (after_bytes32 verified h) =
      opcode SHA256 (read_on (lockVerify verified sha256 h))
      ∷ opcode HASH256 (read_on (lockVerify verified hash256 h))
      ∷ []
  cases afterCheckSequenceVerify = any_number (λ n. make (Older n) []) ∷ []
  cases afterCheckLockTimeVerify = any_number (λ n. make (After n) []) ∷ []
  cases afterEqual =
      pushed BYTES32 (λ h. read_on (after_bytes32 false h))
      ∷ pushed HASH20 (λ h. read_on (afterEqualHash20 h))
      ∷ any_number (λ k. enter (ThreshW k 0 ∷ []))
      ∷ []
  cases (afterEqualHash20 h) =
      opcode RIPEMD160 (read_on (lockVerify false ripemd160 h))
      ∷ opcode HASH160 (read_on (lockVerify false hash160 h))
      ∷ []
  cases (lockVerify verified hash h) = opcode VERIFY (read_on (lockEqual verified hash h)) ∷ []
  cases (lockEqual verified hash h) = opcode EQUAL (read_on (lock32 verified hash h)) ∷ []
  cases (lock32 verified hash h) = number 32 (read_on (lockSize verified hash h)) ∷ []
  cases (lockSize verified hash h) = opcode SIZE (make (HashLock hash h) (under_verify verified)) ∷ []
  cases afterCheckMultiSig = any_number (λ n. pick (multi_count n) (read_on (multi_keys n [])) (refuse 13)) ∷ []
  cases (multi_keys (suc n) ks) =
      pushed BYTES33 (λ d. multi_next n ks (key BYTES33 d))
      ∷ pushed BYTES65 (λ d. multi_next n ks (key BYTES65 d))
      ∷ []
  cases (multi_keys zero ks) = any_number (λ k. make (Multi k ks) []) ∷ []
  cases afterNumEqual = any_number (λ k. pick (multi_a_threshold k) (read_on (multiAKeys k [])) (refuse 13)) ∷ []
  cases (multiAKeys k ds) =
      opcode CHECKSIGADD (read_on (afterCheckSigAdd k ds))
      ∷ opcode CHECKSIG (read_on (afterCheckSig k ds))
      ∷ []
  cases (afterCheckSigAdd k ds) = pushed BYTES32 (λ d. pick (multi_a_key segwit d) (read_on (multiAKeys k (d ∷ ds))) (refuse 11)) ∷ []
  cases (afterCheckSig k ds) = pushed BYTES32 (λ d. pick (multi_a_key segwit d) (make (MultiA k d ds) []) (refuse 11)) ∷ []
  cases inSwap = opcode SWAP (reduce1 swap) ∷ []
  cases inAlt = opcode TOALTSTACK (reduce1 alt) ∷ []
  cases (in_thresh_w k n) =
      opcode ADD (enter (WExpression ∷ ThreshW k (suc n) ∷ []))
      ∷ other (put_back (ThreshE k (suc n) ∷ []))
      ∷ []
  cases inEndIf =
      opcode ELSE (enter (Expression ∷ MaybeAndV ∷ EndIfElse ∷ []))
      ∷ opcode IF (read_on afterIf)
      ∷ opcode NOTIF (enter (EndIfNotIf ∷ []))
      ∷ []
  cases afterIf =
      opcode DUP (enter (DupIf ∷ []))
      ∷ opcode ZERONOTEQUAL (read_on afterIfZeroNotEqual)
      ∷ []
  cases afterIfZeroNotEqual = opcode SIZE (enter (NonZero ∷ [])) ∷ []
  cases inEndIfNotIf =
      opcode IFDUP (enter (Expression ∷ OrD ∷ []))
      ∷ other (put_back (OrC ∷ []))
      ∷ []
  cases inEndIfElse =
      opcode IF (reduce2 or_i)
      ∷ opcode NOTIF (enter (Expression ∷ Tern ∷ []))
      ∷ []
  cases inWExpression =
      opcode FROMALTSTACK (enter (Expression ∷ MaybeAndV ∷ Alt ∷ []))
      ∷ other (put_back (MaybeAndV ∷ Swap ∷ []))
      ∷ []

  -- what a token leads to at a point
  abbrev pub act_at : Point → Lexeme → Act
  act_at p t = look t (cases p)

  -- token by token from a point on
  abbrev pub read_from : Point → List Lexeme → Found
  read_from p [] = found noneLeft []
  read_from p (t ∷ left) = follow (act_at p t) (λ further. read_from further left) t left

  -- the row of an entry
  abbrev pub row_of : NonTerm → List Lexeme → Found
  row_of Expression left = read_from inExpression left
  row_of MaybeAndV left = pick (is_and_v left) (found (enters (Expression ∷ AndV ∷ [])) left) (found (enters []) left)
  row_of Swap left = read_from inSwap left
  row_of Alt left = read_from inAlt left
  row_of (Reduce1 w) left = found (reduces1 w) left
  row_of AndV left = pick (is_and_v left) (found (enters (MaybeAndV ∷ AndV ∷ [])) left) (found (reduces2 and_v) left)
  row_of (Reduce2 c) left = found (reduces2 c) left
  row_of Tern left = found reduces3 left
  row_of (ThreshW k n) left = read_from (in_thresh_w k n) left
  row_of (ThreshE k n) left = found (reduces_many k n) left
  row_of EndIf left = read_from inEndIf left
  row_of EndIfNotIf left = read_from inEndIfNotIf left
  row_of EndIfElse left = read_from inEndIfElse left
  row_of WExpression left = read_from inWExpression left
