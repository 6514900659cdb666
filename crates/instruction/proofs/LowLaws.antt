-- Every code is at most 32, every number below 2^31, every refusal's number between 2 and 7: once for one instruction. Assumes nothing.
-- Why: the opcode table is computed over all bytes, and a number's last byte is below 128.
use mathlib.Core.Path.{◌≡◌, refl, sym, ap, subst, ◌∙◌}
use mathlib.Core.Bool.{Bool, true, false}
use mathlib.Core.List.{List, [], ◌∷◌}
use Prim.Native.Nat.{ℕ, zero, suc, ◌+◌, ◌≤◌, ◌<◌}
use native.Mathlib.Omega.{arith}
use borrow.Author.Tests.{leb-true, leb-false, eqb-true, eqb-false}
use lib.Dec.{eqb, leb, ltb}
use lib.ListN.{length, take, drop, get_or, length-drop}
use lib.Seq.{get_or-drop, get_or-take, length-take-le}
use Rattle.tables.specs.Choose.{pick}
use Rattle.tables.proofs.BoolLaws.{picked_both}
use Rattle.instruction.specs.declared.Op.{Op}
use Rattle.instruction.specs.declared.Op.TheVariants.{Push, Sized, Num, One, Fused, Verify, Unlisted}
use Rattle.instruction.specs.declared.Error.{Error}
use Rattle.instruction.specs.Error.{error_number, Lexing, Number}
use Rattle.instruction.specs.declared.Lexed.TheVariants as gives
use Rattle.std.specs.Prelude.{Ok, Err}
use Rattle.instruction.specs.declared.Error.TheVariants as error
use Rattle.instruction.specs.Code.{Bytes}
use Rattle.instruction.specs.Opcode.{op_of, ranged}
use Rattle.instruction.specs.Number.{little_endian, last_byte, minimal, number_of}
use Rattle.instruction.specs.Push.{has_opcode, push_of, pushed, numbered, sized_of}
use Rattle.instruction.specs.Instruction.{instruction_of, given, verify_refused}
use Rattle.instruction.proofs.SizeLaws.{either}

pub bytes_drop : (n : ℕ) (s : List ℕ) → Bytes s → Bytes (drop n s)
bytes_drop n s b i = subst (λ (x : ℕ). x < 256) (sym (get_or-drop n s i 0)) (b (n + i))

pub bytes_take : (n : ℕ) (s : List ℕ) → Bytes s → Bytes (take n s)
bytes_take n s b i = split (leb n i) refl
  where
    split : (c : Bool) → leb n i ≡ c → get_or (take n s) i 0 < 256
    split true e = let z : get_or (take n s) i 0 ≡ 0 = short n s i (leb-true n i e) in omega arith
      where
        short : (m : ℕ) (l : List ℕ) (j : ℕ) → m ≤ j → get_or (take m l) j 0 ≡ 0
        short zero l j h = refl
        short (suc m) [] j h = refl
        short (suc m) (x ∷ l) zero h = absurd (omega arith)
        short (suc m) (x ∷ l) (suc j) h = short m l j (omega arith)
    split false e = let z : get_or (take n s) i 0 ≡ get_or s i 0 = get_or-take n s i 0 (leb-false n i e) in let y : get_or s i 0 < 256 = b i in omega arith

-- a test that holds of each number below n, computed
abbrev pub all_below : ℕ → (ℕ → Bool) → Bool
all_below zero test = true
all_below (suc n) test = pick (test n) (all_below n test) false

pub below : (n : ℕ) (test : ℕ → Bool) → all_below n test ≡ true → (b : ℕ) → b < n → test b ≡ true
below zero test e b h = absurd (omega arith)
below (suc n) test e b h = split (λ l. below n test (picked_both (test n) (all_below n test) e).1 b l) (eqb b n) refl
  where
    split : (b < n → test b ≡ true) → (c : Bool) → eqb b n ≡ c → test b ≡ true
    split rest true q = ap test (eqb-true b n q) ∙ (picked_both (test n) (all_below n test) e).0
    split rest false q = rest (let o : b ≡ n → ⊥ = eqb-false b n q in omega arith)

-- ---- numbers
abbrev LowNumber : Number → Type 0
LowNumber (Ok v) = v < 2147483648
LowNumber (Err e) = Unit {0}

low_value : (d : List ℕ) → length d ≤ 4 → Bytes d → last_byte d < 128 → little_endian d < 2147483648
low_value [] l b h = omega arith
low_value (x ∷ []) l b h = omega arith
low_value (x ∷ y ∷ []) l b h = omega (arith, b 0)
low_value (x ∷ y ∷ z ∷ []) l b h = omega (arith, b 0, b 1)
low_value (x ∷ y ∷ z ∷ w ∷ []) l b h = omega (arith, b 0, b 1, b 2)
low_value (x ∷ y ∷ z ∷ w ∷ u ∷ rest) l b h = absurd (omega arith)

low_pick : (m n : Bool) (v : ℕ) → (n ≡ false → v < 2147483648) → LowNumber (pick m (pick n (Err error.NegativeInt) (Ok v)) (Err error.InvalidInt))
low_pick true true v h = tt
low_pick true false v h = h refl
low_pick false n v h = tt

low_number : (d : List ℕ) → length d ≤ 4 → Bytes d → LowNumber (number_of d)
unfolding number_of
low_number d l b = low_pick (minimal d) (leb 128 (last_byte d)) (little_endian d) (λ e. low_value d l b (leb-false 128 (last_byte d) e))

-- ---- one instruction
abbrev pub Low : Lexing → Type 0
Low (Ok (gives.One c n v)) = (c ≤ 32) × (v < 2147483648)
Low (Ok (gives.Two c n)) = c ≤ 32
Low (Err e) = (2 ≤ error_number e) × (error_number e ≤ 7)

low_error : (e : Error) → Low (Err e)
low_error error.EarlyEndOfScript = (omega arith, omega arith)
low_error error.NonMinimalPush = (omega arith, omega arith)
low_error error.InvalidInt = (omega arith, omega arith)
low_error error.NegativeInt = (omega arith, omega arith)
low_error error.InvalidOpcode = (omega arith, omega arith)
low_error error.NonMinimalVerify = (omega arith, omega arith)

low_numbered : (all : ℕ) (v : Number) → LowNumber v → Low (numbered v all)
low_numbered all (Ok v) h = (omega arith, h)
low_numbered all (Err e) h = low_error e

low_pushed : (d : List ℕ) (n all : ℕ) → length d ≡ n → Bytes d → Low (pushed d n all)
unfolding pushed
low_pushed d n all l b =
    either Low (eqb n 20) _ _ (λ _. (omega arith, omega arith))
    (λ _. either Low (eqb n 32) _ _ (λ _. (omega arith, omega arith))
    (λ _. either Low (eqb n 33) _ _ (λ _. (omega arith, omega arith))
    (λ _. either Low (eqb n 65) _ _ (λ _. (omega arith, omega arith))
    (λ _. either Low (leb n 4) _ _ (λ e. low_numbered all (number_of d) (low_number d (let h : n ≤ 4 = leb-true n 4 e in omega arith) b)) (λ _. (omega arith, omega arith))))))

low_push : (rest : List ℕ) (head n : ℕ) → Bytes rest → Low (push_of rest head n)
unfolding push_of
low_push rest head n b =
    either Low (has_opcode rest head n) _ _ (λ _. (omega arith, omega arith))
    (λ _. either Low (leb (head + n) (length rest)) _ _
    (λ e. let h : head + n ≤ length rest = leb-true (head + n) (length rest) e in
    low_pushed (take n (drop head rest)) n (head + n) (length-take-le n (drop head rest) (omega (arith, length-drop head rest))) (bytes_take n (drop head rest) (bytes_drop head rest b)))
    (λ _. (omega arith, omega arith)))

low_sized : (rest : List ℕ) (w least : ℕ) → Bytes rest → Low (sized_of rest w least)
unfolding sized_of
low_sized rest w least b =
    either Low (leb (1 + w) (length rest)) _ _
    (λ _. either Low (ltb (little_endian (take w (drop 1 rest))) least) _ _ (λ _. (omega arith, omega arith)) (λ _. low_push rest (1 + w) _ b))
    (λ _. (omega arith, omega arith))

-- what the table asks for is low, at each byte
abbrev low_op : Op → Bool
low_op (Push n) = true
low_op (Sized w least) = true
low_op (Num n) = leb n 16
low_op (One c) = leb c 32
low_op (Fused c) = leb c 32
low_op Verify = true
low_op Unlisted = true

low_table : (b : ℕ) → b < 256 → low_op (op_of b) ≡ true
unfolding ranged
low_table b h = below 256 (λ (k : ℕ). low_op (op_of k)) refl b h

low_given : (rest : List ℕ) (last : ℕ) (o : Op) → low_op o ≡ true → Bytes rest → Low (given o rest last)
low_given rest last (Push n) e b = low_push rest 1 n b
low_given rest last (Sized w least) e b = low_sized rest w least b
low_given rest last (Num n) e b = let h : n ≤ 16 = leb-true n 16 e in (omega arith, omega arith)
low_given rest last (One c) e b = (leb-true c 32 e, omega arith)
low_given rest last (Fused c) e b = leb-true c 32 e
low_given rest last Verify e b = either Low (verify_refused last) _ _ (λ _. (omega arith, omega arith)) (λ _. (omega arith, omega arith))
low_given rest last Unlisted e b = (omega arith, omega arith)

pub low_instruction : (rest : List ℕ) (last : ℕ) → Bytes rest → Low (instruction_of rest last)
unfolding instruction_of
low_instruction rest last b = low_given rest last (op_of (get_or rest 0 0)) (low_table (get_or rest 0 0) (b 0)) b
