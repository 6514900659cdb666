-- The spelling of any list of lexemes that a script can give is lexed to those lexemes. Assumes nothing.
-- Why: the opcode table is computed at each code's byte, a push of at most 75 bytes is read whole, and the spelling fuses exactly where the VERIFY rule would refuse.
use mathlib.Core.Path.{◌≡◌, refl, sym, ap, subst, ◌∙◌}
use mathlib.Core.Bool.{Bool, true, false, true≢false}
use mathlib.Core.List.{List, [], ◌∷◌, ◌++◌, map}
use Prim.Native.Nat.{ℕ, suc, ◌+◌, ◌-◌, ◌≤◌, ◌<◌}
use native.Mathlib.Omega.{arith}
use borrow.Author.Tests.{ne_eqb, le-leb, eqb-true, eqb-false, leb-true, leb-false}
use lib.Dec.{eqb, leb}
use lib.ListN.{length, take, drop, get_or, length-drop, length-append, length-map, get_or-append}
use lib.Seq.{drop-drop, take_at, drop_at}
use Rattle.tables.specs.Choose.{pick}
use Rattle.tables.proofs.BoolLaws.{picked_both}
use Rattle.tables.specs.Tables.{flat}
use Rattle.instruction.specs.Error.{Number}
use Rattle.instruction.specs.declared.Op.{Op}
use Rattle.instruction.specs.declared.Op.TheVariants.{Push, Sized, Num, One, Fused, Verify, Unlisted}
use Rattle.instruction.specs.declared.Lexed.TheVariants as gives
use Rattle.std.specs.Prelude.{Ok, Err}
use Rattle.instruction.specs.declared.Error.TheVariants as error
use Rattle.lex.specs.Token.{Token, token, Lexeme, op, num, push, data_length, data_at, lexeme, bare, VERIFY, NUM}
use Rattle.instruction.specs.Opcode.{op_of, ranged}
use Rattle.instruction.specs.Number.{minimal, number_of}
use Rattle.instruction.specs.Push.{small, has_opcode, pushed, numbered, push_of}
use Rattle.instruction.specs.Instruction.{verify_refused, given, instruction_of}
use Rattle.lex.specs.Script.{script_limit, lex_of, tokens}
use Rattle.instruction.proofs.LowLaws.{below}
use Rattle.lex.proofs.Derivation.{Gives, done, one, two, outcome_of_lem}
use Rattle.spelling.specs.Spell.{opcode_byte, has_fused, fused_byte, push_bytes, digits, number_bytes, instruction_bytes, verified_bytes, is_verify, is_fusible, fuses, spelling, spell}
use Rattle.spelling.specs.Lexemes.{Formed, AllFormed, lexemes}
use Rattle.spelling.proofs.NumberSpelling.{Reads, spelled_is_read}
use Rattle.spelling.proofs.InstructionSpelling.{fused_low, lexeme_op, lexeme_num}

-- ---- the opcode table, at each byte of a spelling
abbrev is_one : ℕ → Op → Bool
is_one c (Push n) = false
is_one c (Sized w least) = false
is_one c (Num n) = false
is_one c (One k) = eqb k c
is_one c (Fused k) = false
is_one c Verify = false
is_one c Unlisted = false

abbrev is_fused : ℕ → Op → Bool
is_fused c (Push n) = false
is_fused c (Sized w least) = false
is_fused c (Num n) = false
is_fused c (One k) = false
is_fused c (Fused k) = eqb k c
is_fused c Verify = false
is_fused c Unlisted = false

abbrev is_num : ℕ → Op → Bool
is_num c (Push n) = false
is_num c (Sized w least) = false
is_num c (Num n) = eqb n c
is_num c (One k) = false
is_num c (Fused k) = false
is_num c Verify = false
is_num c Unlisted = false

abbrev is_push : ℕ → Op → Bool
is_push c (Push n) = eqb n c
is_push c (Sized w least) = false
is_push c (Num n) = false
is_push c (One k) = false
is_push c (Fused k) = false
is_push c Verify = false
is_push c Unlisted = false

one_is : (c : ℕ) (o : Op) → is_one c o ≡ true → o ≡ One c
one_is c (Push n) e = absurd (true≢false (sym e))
one_is c (Sized w least) e = absurd (true≢false (sym e))
one_is c (Num n) e = absurd (true≢false (sym e))
one_is c (One k) e = ap One (eqb-true k c e)
one_is c (Fused k) e = absurd (true≢false (sym e))
one_is c Verify e = absurd (true≢false (sym e))
one_is c Unlisted e = absurd (true≢false (sym e))

fused_is : (c : ℕ) (o : Op) → is_fused c o ≡ true → o ≡ Fused c
fused_is c (Push n) e = absurd (true≢false (sym e))
fused_is c (Sized w least) e = absurd (true≢false (sym e))
fused_is c (Num n) e = absurd (true≢false (sym e))
fused_is c (One k) e = absurd (true≢false (sym e))
fused_is c (Fused k) e = ap Fused (eqb-true k c e)
fused_is c Verify e = absurd (true≢false (sym e))
fused_is c Unlisted e = absurd (true≢false (sym e))

num_is : (c : ℕ) (o : Op) → is_num c o ≡ true → o ≡ Num c
num_is c (Push n) e = absurd (true≢false (sym e))
num_is c (Sized w least) e = absurd (true≢false (sym e))
num_is c (Num n) e = ap Num (eqb-true n c e)
num_is c (One k) e = absurd (true≢false (sym e))
num_is c (Fused k) e = absurd (true≢false (sym e))
num_is c Verify e = absurd (true≢false (sym e))
num_is c Unlisted e = absurd (true≢false (sym e))

push_is : (c : ℕ) (o : Op) → is_push c o ≡ true → o ≡ Push c
push_is c (Push n) e = ap Push (eqb-true n c e)
push_is c (Sized w least) e = absurd (true≢false (sym e))
push_is c (Num n) e = absurd (true≢false (sym e))
push_is c (One k) e = absurd (true≢false (sym e))
push_is c (Fused k) e = absurd (true≢false (sym e))
push_is c Verify e = absurd (true≢false (sym e))
push_is c Unlisted e = absurd (true≢false (sym e))

opcode_asks : (c : ℕ) → 1 ≤ c → c ≤ 27 → (c ≡ VERIFY → ⊥) → op_of (opcode_byte c) ≡ One c
unfolding ranged
opcode_asks c l h n =
    one_is c (op_of (opcode_byte c))
    (sym (simp (ne_eqb c 0 (λ z. omega arith), ne_eqb c VERIFY n)) ∙ below 28 (λ (k : ℕ). pick (eqb k 0) true (pick (eqb k VERIFY) true (is_one k (op_of (opcode_byte k))))) refl c (omega arith))

fused_asks : (c : ℕ) → has_fused c ≡ true → op_of (fused_byte c) ≡ Fused c
unfolding ranged has_fused fused_byte
fused_asks c e =
    fused_is c (op_of (fused_byte c))
    (sym (simp e) ∙ below 9 (λ (k : ℕ). pick (has_fused k) (is_fused k (op_of (fused_byte k))) true) refl c (let z : c ≤ 8 = (fused_low c e).1 in omega arith))

number_asks : (n : ℕ) → 1 ≤ n → n ≤ 16 → op_of (0x50 + n) ≡ Num n
unfolding ranged
number_asks n l h =
    num_is n (op_of (0x50 + n))
    (sym (simp (ne_eqb n 0 (λ z. omega arith))) ∙ below 17 (λ (k : ℕ). pick (eqb k 0) true (is_num k (op_of (0x50 + k)))) refl n (omega arith))

push_asks : (n : ℕ) → n ≤ 75 → op_of n ≡ Push n
unfolding ranged
push_asks n h = push_is n (op_of n) (below 76 (λ (k : ℕ). is_push k (op_of k)) refl n (omega arith))

-- ---- an instruction of the spelling, with anything behind it
asked : (b last : ℕ) (r : List ℕ) (o : Op) → op_of b ≡ o → instruction_of (b ∷ r) last ≡ given o (b ∷ r) last
unfolding instruction_of
asked b last r o e = ap (λ (p : Op). given p (b ∷ r) last) e

no_opcode : (d r : List ℕ) → (length d ≡ 1 → small (get_or d 0 0) ≡ false) → has_opcode (length d ∷ (d ++ r)) 1 (length d) ≡ false
unfolding has_opcode
no_opcode d r n = by (eqb (length d) 1) refl
  where
    by : (b : Bool) → eqb (length d) 1 ≡ b → pick b (small (get_or (d ++ r) 0 0)) false ≡ false
    by true e = let l : length d ≡ 1 = eqb-true (length d) 1 e in ap small (get_or-append d r 0 0 (omega arith)) ∙ n l
    by false e = refl

push_read : (d r : List ℕ) (last : ℕ) → length d ≤ 75 → (length d ≡ 1 → small (get_or d 0 0) ≡ false) → instruction_of (push_bytes d ++ r) last ≡ pushed d (length d) (1 + length d)
unfolding push_of
push_read d r last h n =
    asked (length d) last (d ++ r) (Push (length d)) (push_asks (length d) h)
    ∙ simp (no_opcode d r n, le-leb (1 + length d) (suc (length (d ++ r))) (omega (arith, length-append d r)), take_at d r (length d) refl)

-- by the code of a push
data_token : (c : ℕ) (d : List ℕ) (all : ℕ) → 29 ≤ c → c ≤ 32 → pushed d (data_length c) all ≡ Ok (gives.One c all 0)
unfolding pushed data_length
data_token c d all l h = by (eqb c 29) (eqb c 30) (eqb c 31) refl refl refl
  where
    at_code : (k : ℕ) → c ≡ k → pushed d (data_length k) all ≡ Ok (gives.One k all 0) → pushed d (data_length c) all ≡ Ok (gives.One c all 0)
    at_code k e p = subst (λ (j : ℕ). pushed d (data_length j) all ≡ Ok (gives.One j all 0)) (sym e) p

    by : (x y z : Bool) → eqb c 29 ≡ x → eqb c 30 ≡ y → eqb c 31 ≡ z → pushed d (data_length c) all ≡ Ok (gives.One c all 0)
    by true y z p q r = at_code 29 (eqb-true c 29 p) refl
    by false true z p q r = at_code 30 (eqb-true c 30 q) refl
    by false false true p q r = at_code 31 (eqb-true c 31 r) refl
    by false false false p q r =
        let a : c ≡ 29 → ⊥ = eqb-false c 29 p in let b : c ≡ 30 → ⊥ = eqb-false c 30 q in let e : c ≡ 31 → ⊥ = eqb-false c 31 r in
        at_code 32 (omega arith) refl

pub data_short : (c : ℕ) → (data_length c ≤ 65) × (2 ≤ data_length c)
unfolding data_length
data_short c = by (eqb c 29) (eqb c 30) (eqb c 31)
  where
    by : (x y z : Bool) → (pick x 20 (pick y 32 (pick z 33 65)) ≤ 65) × (2 ≤ pick x 20 (pick y 32 (pick z 33 65)))
    by true y z = (omega arith, omega arith)
    by false true z = (omega arith, omega arith)
    by false false true = (omega arith, omega arith)
    by false false false = (omega arith, omega arith)

-- the token that a lexeme stands for at a place
abbrev token_of : Lexeme → ℕ → Token
token_of (op c) at = token c 0 at
token_of (num n) at = token NUM n at
token_of (push c d) at = token c 0 at

-- the token of a lexeme, as its instruction gives it
abbrev Single : Lexeme → List ℕ → ℕ → Type 0
Single l r last = instruction_of (instruction_bytes l ++ r) last ≡ Ok (gives.One (token_of l 0).code (length (instruction_bytes l)) (token_of l 0).number)

zero_number : (r : List ℕ) (last : ℕ) → instruction_of (0x00 ∷ r) last ≡ Ok (gives.One NUM 1 0)
unfolding pushed minimal number_of
zero_number r last = push_read [] r last (omega arith) (λ e. absurd (omega arith))

zero_bytes : 0x00 ∷ [] ≡ number_bytes 0
unfolding number_bytes
zero_bytes = refl

small_bytes : (n : ℕ) → (n ≡ 0 → ⊥) → n ≤ 16 → (0x50 + n) ∷ [] ≡ number_bytes n
unfolding number_bytes
small_bytes n a b = sym (simp (ne_eqb n 0 a, le-leb n 16 b))

few_pushed : (d : List ℕ) (n all : ℕ) (w : Number) → n ≤ 4 → number_of d ≡ w → pushed d n all ≡ numbered w all
unfolding pushed
few_pushed d n all w h e =
    simp (ne_eqb n 20 (λ q. omega arith), ne_eqb n 32 (λ q. omega arith), ne_eqb n 33 (λ q. omega arith), ne_eqb n 65 (λ q. omega arith), le-leb n 4 h)
    (ap (λ (x : Number). numbered x all) e)

digits_lex : (n : ℕ) (d r : List ℕ) (last : ℕ) → Reads n d → instruction_of (push_bytes d ++ r) last ≡ Ok (gives.One NUM (length (push_bytes d)) n)
digits_lex n d r last i =
    let f : length d ≤ 4 = i.few in
    let z : 1 + length d ≡ suc (length d) = omega arith in
    push_read d r last (omega arith) i.no_opcode ∙ few_pushed d (length d) (1 + length d) (Ok n) f i.read ∙ ap (λ (k : ℕ). Ok (gives.One NUM k n)) z

number_lexes : (n : ℕ) (r : List ℕ) (last : ℕ) → n < 2147483648 → Single (num n) r last
number_lexes n r last h = by (eqb n 0) (leb n 16) refl refl
  where
    by : (x y : Bool) → eqb n 0 ≡ x → leb n 16 ≡ y → Single (num n) r last
    by true y p q = subst (λ (k : ℕ). Single (num k) r last) (sym (eqb-true n 0 p)) (subst (λ (b : List ℕ). instruction_of (b ++ r) last ≡ Ok (gives.One NUM (length b) 0)) zero_bytes (zero_number r last))
    by false true p q =
        let a : n ≡ 0 → ⊥ = eqb-false n 0 p in
        let b : n ≤ 16 = leb-true n 16 q in
        subst (λ (b : List ℕ). instruction_of (b ++ r) last ≡ Ok (gives.One NUM (length b) n)) (small_bytes n a b)
        (asked (0x50 + n) last r (Num n) (number_asks n (omega arith) b))
    by false false p q =
        let b : 16 < n = leb-false n 16 q in
        let d : (d : List ℕ) × Reads n d = spelled_is_read n (omega arith) h in
        subst (λ (b : List ℕ). instruction_of (b ++ r) last ≡ Ok (gives.One NUM (length b) n)) (sym d.1.spelled) (digits_lex n d.0 r last d.1)

-- a lexeme's instruction gives its token, but for a VERIFY that the rule refuses
lexeme_lexes : (l : Lexeme) (r : List ℕ) (last : ℕ) → Formed l → (is_verify l ≡ true → verify_refused last ≡ false) → Single l r last
lexeme_lexes (op c) r last f w = by (eqb c VERIFY) refl
  where
    by : (b : Bool) → eqb c VERIFY ≡ b → Single (op c) r last
    by true e =
        subst (λ (k : ℕ). Single (op k) r last) (sym (eqb-true c VERIFY e))
        (asked 0x69 last r Verify refl ∙ ap (λ (b : Bool). pick b (Err error.NonMinimalVerify) (Ok (gives.One VERIFY 1 0))) (w e))
    by false e = asked (opcode_byte c) last r (One c) (opcode_asks c f.0 f.1 (eqb-false c VERIFY e))
lexeme_lexes (num n) r last f w = number_lexes n r last f
lexeme_lexes (push c d) r last f w =
    let k : length d.bytes ≡ data_length c = f.2 in
    let s : (data_length c ≤ 65) × (2 ≤ data_length c) = data_short c in
    let z : 1 + length d.bytes ≡ suc (length d.bytes) = omega arith in
    push_read d.bytes r last (omega arith) (λ e. absurd (omega arith))
    ∙ ap (λ (n : ℕ). pushed d.bytes n (1 + length d.bytes)) k
    ∙ data_token c d.bytes (1 + length d.bytes) f.0 f.1
    ∙ ap (λ (k : ℕ). Ok (gives.One c k 0)) z

-- ---- the token's lexeme is the lexeme that was spelled, but for its place
lexeme_push : (s : List ℕ) (c at : ℕ) → 29 ≤ c → c ≤ 32 → lexeme s (token c 0 at) ≡ push c (data_at s (at + 1) (data_length c))
unfolding lexeme
lexeme_push s c at l h = simp (ne_eqb c 28 (λ e. omega arith), le-leb 29 c l, le-leb c 32 h)

lexeme_back : (s : List ℕ) (at : ℕ) (l : Lexeme) (r : List ℕ) → Formed l → drop at s ≡ instruction_bytes l ++ r → bare (lexeme s (token_of l at)) ≡ bare l
lexeme_back s at (op c) r f e = ap bare (lexeme_op s c 0 at f.1)
lexeme_back s at (num n) r f e = ap bare (lexeme_num s n at)
lexeme_back s at (push c d) r f e =
    let b : take (data_length c) (drop (at + 1) s) ≡ d.bytes =
    ap (take (data_length c)) (sym (drop-drop 1 at s) ∙ ap (drop 1) e) ∙ take_at d.bytes r (data_length c) f.2 in
    ap bare (lexeme_push s c at f.0 f.1) ∙ ap (λ (bs : List ℕ). push c (record { place = 0; bytes = bs })) b

-- ---- the whole list
-- VERIFY doesn't follow a code that the rule refuses it after
abbrev starts_verify : List Lexeme → Bool
starts_verify [] = false
starts_verify (m ∷ ls) = is_verify m

abbrev Open : ℕ → List Lexeme → Type 0
Open last ls = starts_verify ls ≡ true → verify_refused last ≡ false

not_refused : (c : ℕ) → has_fused c ≡ false → verify_refused c ≡ false
unfolding has_fused verify_refused
not_refused c e = by (eqb c 4) (eqb c 5) (eqb c 6) (eqb c 8) e
  where
    by : (w x y z : Bool) → pick w true (pick x true (pick y true z)) ≡ false → pick w true (pick y true z) ≡ false
    by true x y z p = p
    by false true y z p = absurd (true≢false p)
    by false false y z p = p

data_not_refused : (c : ℕ) → 29 ≤ c → verify_refused c ≡ false
unfolding verify_refused
data_not_refused c l = simp (ne_eqb c 4 (λ e. omega arith), ne_eqb c 6 (λ e. omega arith), ne_eqb c 8 (λ e. omega arith))

number_not_refused : verify_refused NUM ≡ false
unfolding verify_refused
number_not_refused = refl

none_before : verify_refused 0 ≡ false
unfolding verify_refused
none_before = refl

verify_not_refused : verify_refused VERIFY ≡ false
unfolding verify_refused
verify_not_refused = refl

opened : (l : Lexeme) → Formed l → is_fusible l ≡ false → verify_refused (token_of l 0).code ≡ false
opened (op c) f e = not_refused c e
opened (num n) f e = number_not_refused
opened (push c d) f e = data_not_refused c f.0

-- what is spelled from `at` on is given
pub record ReadBack (s : List ℕ) (at last : ℕ) (ls : List Lexeme) : Type 0 where
  pub ts : List Token
  pub gives_ts : Gives s at last ts
  pub same_lexemes : map bare (lexemes s ts) ≡ map bare ls

pub number_some : (n : ℕ) → 1 ≤ length (number_bytes n)
unfolding number_bytes
number_some n = by (eqb n 0) (leb n 16)
  where
    by : (x y : Bool) → 1 ≤ length (pick x (0x00 ∷ []) (pick y ((0x50 + n) ∷ []) (push_bytes (digits n))))
    by true y = omega arith
    by false true = omega arith
    by false false = omega arith

pub instruction_some : (l : Lexeme) → 1 ≤ length (instruction_bytes l)
instruction_some (op c) = omega arith
instruction_some (num n) = number_some n
instruction_some (push c d) = omega arith

module _ (s : List ℕ) where
  one_lexes : (at last : ℕ) (l : Lexeme) (ls : List Lexeme) (r : List ℕ) → at ≤ length s → Formed l → (is_verify l ≡ true → verify_refused last ≡ false) → drop at s ≡ instruction_bytes l ++ r
      → ((n : ℕ) → at + n ≤ length s → drop (at + n) s ≡ r → ReadBack s (at + n) (token_of l at).code ls) → ReadBack s at last (l ∷ ls)
  one_lexes at last l ls r w f v e rest =
      let n : ℕ = length (instruction_bytes l) in
      let p : length (instruction_bytes l ++ r) ≡ length (instruction_bytes l) + length r = length-append (instruction_bytes l) r in
      let q : length s - at ≡ length (instruction_bytes l ++ r) = sym (length-drop at s) ∙ ap length e in
      let k : 1 ≤ length (instruction_bytes l) = instruction_some l in
      let x : ReadBack s (at + length (instruction_bytes l)) (token_of l at).code ls =
      rest (length (instruction_bytes l)) (omega arith) (sym (drop-drop (length (instruction_bytes l)) at s) ∙ ap (drop (length (instruction_bytes l))) e ∙ drop_at (instruction_bytes l) r (length (instruction_bytes l)) refl) in
      by l e f v x (omega arith)
    where
      by : (l : Lexeme) → drop at s ≡ instruction_bytes l ++ r → Formed l → (is_verify l ≡ true → verify_refused last ≡ false) → ReadBack s (at + length (instruction_bytes l)) (token_of l at).code ls → at < length s → ReadBack s at last (l ∷ ls)
      by (op c) e f v x h =
          record { ts = token c 0 at ∷ x.ts; gives_ts = one h (ap (λ (b : List ℕ). instruction_of b last) e ∙ lexeme_lexes (op c) r last f v) x.gives_ts; same_lexemes = ap (λ (m : Lexeme). m ∷ map bare (lexemes s x.ts)) (lexeme_back s at (op c) r f e) ∙ ap (λ (ms : List Lexeme). op c ∷ ms) x.same_lexemes }
      by (num n) e f v x h =
          record { ts = token NUM n at ∷ x.ts; gives_ts = one h (ap (λ (b : List ℕ). instruction_of b last) e ∙ lexeme_lexes (num n) r last f v) x.gives_ts; same_lexemes = ap (λ (m : Lexeme). m ∷ map bare (lexemes s x.ts)) (lexeme_back s at (num n) r f e) ∙ ap (λ (ms : List Lexeme). num n ∷ ms) x.same_lexemes }
      by (push c d) e f v x h =
          record { ts = token c 0 at ∷ x.ts; gives_ts = one h (ap (λ (b : List ℕ). instruction_of b last) e ∙ lexeme_lexes (push c d) r last f v) x.gives_ts; same_lexemes = ap (λ (m : Lexeme). m ∷ map bare (lexemes s x.ts)) (lexeme_back s at (push c d) r f e) ∙ ap (λ (ms : List Lexeme). bare (push c d) ∷ ms) x.same_lexemes }

  fused_lexes : (at last c : ℕ) (ls : List Lexeme) (r : List ℕ) → at ≤ length s → has_fused c ≡ true → drop at s ≡ fused_byte c ∷ r
      → (at + 1 ≤ length s → drop (at + 1) s ≡ r → ReadBack s (at + 1) VERIFY ls) → ReadBack s at last (op c ∷ op VERIFY ∷ ls)
  fused_lexes at last c ls r w f e rest =
      let q : length s - at ≡ suc (length r) = sym (length-drop at s) ∙ ap length e in
      let x : ReadBack s (at + 1) VERIFY ls = rest (omega arith) (sym (drop-drop 1 at s) ∙ ap (drop 1) e) in
      let l : c ≤ 8 = (fused_low c f).1 in
      let h : at < length s = omega arith in
      record {
        ts = token c 0 at ∷ token VERIFY 0 at ∷ x.ts;
        gives_ts = two h (ap (λ (b : List ℕ). instruction_of b last) e ∙ asked (fused_byte c) last r (Fused c) (fused_asks c f)) x.gives_ts;
        same_lexemes =
            ap (λ (m : Lexeme). bare m ∷ bare (lexeme s (token VERIFY 0 at)) ∷ map bare (lexemes s x.ts)) (lexeme_op s c 0 at (omega arith))
            ∙ ap (λ (m : Lexeme). op c ∷ bare m ∷ map bare (lexemes s x.ts)) (lexeme_op s VERIFY 0 at (omega arith))
            ∙ ap (λ (ms : List Lexeme). op c ∷ op VERIFY ∷ ms) x.same_lexemes;
      }

  -- with what comes behind, fused or not
  next_lexes : (at last : ℕ) (l m : Lexeme) (ls : List Lexeme) → AllFormed (l ∷ m ∷ ls) → at ≤ length s → Open last (l ∷ m ∷ ls)
      → ((at last : ℕ) → at ≤ length s → Open last ls → drop at s ≡ flat (spelling ls) → ReadBack s at last ls)
      → ((at last : ℕ) → at ≤ length s → Open last (m ∷ ls) → drop at s ≡ flat (spelling (m ∷ ls)) → ReadBack s at last (m ∷ ls))
      → (b : Bool) → fuses l m ≡ b → drop at s ≡ flat (pick b (verified_bytes l ∷ spelling ls) (instruction_bytes l ∷ spelling (m ∷ ls))) → ReadBack s at last (l ∷ m ∷ ls)
  next_lexes at last (op c) (op k) ls f w o after_both after_one true e p =
      let q : (has_fused c ≡ true) × (eqb k VERIFY ≡ true) = picked_both (has_fused c) (eqb k VERIFY) e in
      subst (λ (j : ℕ). ReadBack s at last (op c ∷ op j ∷ ls)) (sym (eqb-true k VERIFY q.1))
      (fused_lexes at last c ls (flat (spelling ls)) w q.0 p (λ h g. after_both (at + 1) VERIFY h (λ _. verify_not_refused) g))
  next_lexes at last (op c) (num k) ls f w o after_both after_one true e p = absurd (true≢false (sym (picked_both (has_fused c) false e).1))
  next_lexes at last (op c) (push k d) ls f w o after_both after_one true e p = absurd (true≢false (sym (picked_both (has_fused c) false e).1))
  next_lexes at last (num n) m ls f w o after_both after_one true e p = absurd (true≢false (sym e))
  next_lexes at last (push c d) m ls f w o after_both after_one true e p = absurd (true≢false (sym e))
  next_lexes at last l m ls f w o after_both after_one false e p =
      one_lexes at last l (m ∷ ls) (flat (spelling (m ∷ ls))) w f.0 o p (λ n h g. after_one (at + n) (token_of l at).code h (λ v. still_open l f.0 e v) g)
    where
      still_open : (l : Lexeme) → Formed l → fuses l m ≡ false → is_verify m ≡ true → verify_refused (token_of l at).code ≡ false
      still_open (op c) g q v = opened (op c) g (by (has_fused c) q)
        where
          by : (b : Bool) → pick b (is_verify m) false ≡ false → b ≡ false
          by true z = absurd (true≢false (sym v ∙ z))
          by false z = refl
      still_open (num n) g q v = number_not_refused
      still_open (push c d) g q v = data_not_refused c g.0

  spells_lex : (ls : List Lexeme) → AllFormed ls → (at last : ℕ) → at ≤ length s → Open last ls → drop at s ≡ flat (spelling ls) → ReadBack s at last ls
  spells_lex [] f at last w o e =
      let q : length s - at ≡ 0 = sym (length-drop at s) ∙ ap length e in
      let z : at ≡ length s = omega arith in
      record { ts = []; gives_ts = done z; same_lexemes = refl }
  spells_lex (l ∷ []) f at last w o e =
      one_lexes at last l [] [] w f.0 o e (λ n h g. let q : length s - (at + n) ≡ 0 = sym (length-drop (at + n) s) ∙ ap length g in let z : at + n ≡ length s = omega arith in record { ts = []; gives_ts = done z; same_lexemes = refl })
  spells_lex (l ∷ m ∷ ls) f at last w o e =
      next_lexes at last l m ls f w o (λ at' last' w' o' e'. spells_lex ls f.1.1 at' last' w' o' e') (λ at' last' w' o' e'. spells_lex (m ∷ ls) f.1 at' last' w' o' e') (fuses l m) refl e

length_bare : (s : List ℕ) (ts : List Token) (ls : List Lexeme) → map bare (lexemes s ts) ≡ map bare ls → length ts ≡ length ls
length_bare s ts ls e = sym (length-map ts (lexeme s)) ∙ sym (length-map (lexemes s ts) bare) ∙ ap length e ∙ length-map ls bare

-- for every list of lexemes that a script can give, of a length within the limit and with room for its tokens: lexing its spelling gives those lexemes, compared by code, number and bytes
pub spelled_lexes : (room : ℕ) (ls : List Lexeme) → AllFormed ls → length (spell ls) ≤ script_limit → length ls ≤ room → (ts : List Token) × (lex_of room (spell ls) ≡ tokens ts) × (map bare (lexemes (spell ls) ts) ≡ map bare ls)
unfolding spell
spelled_lexes room ls f h r =
    let x : ReadBack (spell ls) 0 0 ls = spells_lex (spell ls) ls f 0 0 (omega arith) (λ _. none_before) refl in
    (x.ts, outcome_of_lem room (spell ls) x.ts h x.gives_ts (let q : length x.ts ≡ length ls = length_bare (spell ls) x.ts ls x.same_lexemes in omega arith), x.same_lexemes)
