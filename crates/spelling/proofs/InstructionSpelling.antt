-- An instruction that is accepted is the spelling of its lexeme: one instruction at a place of a script. Assumes nothing.
-- Why: the opcode table is computed over all bytes; a push with a wider length form has 76 bytes or more, and no token.
use mathlib.Core.Path.{◌≡◌, refl, sym, ap, subst, ◌∙◌}
use mathlib.Core.Bool.{Bool, true, false, not}
use mathlib.Core.List.{List, [], ◌∷◌}
use Prim.Native.Nat.{ℕ, suc, ◌+◌, ◌≤◌, ◌<◌}
use native.Mathlib.Omega.{arith}
use borrow.Author.Tests.{eq-eqb, ne_eqb, le-leb, lt-leb, eqb-true, eqb-false, leb-true, leb-false, ltb-false, not-true}
use lib.Dec.{eqb, leb, ltb}
use lib.ListN.{length, take, drop, get_or, length-drop}
use lib.Seq.{drop-drop, get_or-drop, get_or-take, length-take-le}
use Rattle.tables.specs.Choose.{pick}
use Rattle.tables.proofs.BoolLaws.{picked_both}
use Rattle.instruction.specs.declared.Op.{Op}
use Rattle.instruction.specs.declared.Op.TheVariants.{Push, Sized, Num, One, Fused, Verify, Unlisted}
use Rattle.instruction.specs.Error.{Lexing, Number}
use Rattle.instruction.specs.declared.Lexed.TheVariants as gives
use Rattle.std.specs.Prelude.{Ok, Err}
use Rattle.instruction.specs.declared.Error.TheVariants as error
use Rattle.lex.specs.Token.{Bytes, token, Lexeme, op, num, push, data_length, data_at, lexeme, VERIFY}
use Rattle.instruction.specs.Opcode.{op_of, ranged}
use Rattle.instruction.specs.Number.{little_endian, number_of}
use Rattle.instruction.specs.Push.{small, has_opcode, pushed, numbered, push_of, sized_of}
use Rattle.instruction.specs.Instruction.{verify_refused, given, instruction_of}
use Rattle.instruction.proofs.SizeLaws.{either}
use Rattle.instruction.proofs.LowLaws.{bytes_drop, bytes_take, below}
use Rattle.spelling.specs.Spell.{opcode_byte, has_fused, fused_byte, push_bytes, number_bytes, instruction_bytes}
use Rattle.spelling.specs.Lexemes.{Formed}
use Rattle.spelling.proofs.NumberSpelling.{number_is_spelled}

-- ---- the opcode table, at each byte: which byte asked for this
abbrev pub right_byte : ℕ → Op → Bool
right_byte b (Push n) = pick (eqb n b) (leb n 75) false
right_byte b (Sized w least) = leb 76 least
right_byte b (Num n) = pick (eqb b (0x50 + n)) (pick (leb 1 n) (leb n 16) false) false
right_byte b (One c) = pick (eqb b (opcode_byte c)) (pick (leb 1 c) (pick (leb c 27) (not (eqb c VERIFY)) false) false) false
right_byte b (Fused c) = pick (eqb b (fused_byte c)) (has_fused c) false
right_byte b Verify = eqb b 0x69
right_byte b Unlisted = true

pub right_byte_lem : (b : ℕ) → b < 256 → right_byte b (op_of b) ≡ true
unfolding ranged has_fused fused_byte
right_byte_lem b h = below 256 (λ (k : ℕ). right_byte k (op_of k)) refl b h

-- a fused code is an opcode's
pub fused_code : (c : ℕ) → has_fused c ≡ true → (c ≡ 4 → ⊥) → (c ≡ 5 → ⊥) → (c ≡ 6 → ⊥) → c ≡ 8
unfolding has_fused
fused_code c e a b d = eqb-true c 8 (sym (simp (ne_eqb c 4 a, ne_eqb c 5 b, ne_eqb c 6 d)) ∙ e)

pub fused_low : (c : ℕ) → has_fused c ≡ true → (1 ≤ c) × (c ≤ 8) × (c ≡ VERIFY → ⊥)
fused_low c e = split (leb c 8) (leb 1 c) refl refl
  where
    split : (p q : Bool) → leb c 8 ≡ p → leb 1 c ≡ q → (1 ≤ c) × (c ≤ 8) × (c ≡ VERIFY → ⊥)
    split true true h l = let k : c ≤ 8 = leb-true c 8 h in (leb-true 1 c l, k, λ z. omega arith)
    split true false h l = let k : c < 1 = leb-false 1 c l in let z : c ≡ 8 = fused_code c e (λ z. omega arith) (λ z. omega arith) (λ z. omega arith) in absurd (omega arith)
    split false q h l = let k : 8 < c = leb-false c 8 h in let z : c ≡ 8 = fused_code c e (λ z. omega arith) (λ z. omega arith) (λ z. omega arith) in absurd (omega arith)

-- ---- the lexeme of a token, by its code
pub lexeme_op : (s : List ℕ) (c v at : ℕ) → c ≤ 27 → lexeme s (token c v at) ≡ op c
unfolding lexeme
lexeme_op s c v at h = simp (ne_eqb c 28 (λ e. omega arith), lt-leb 29 c (omega arith))

pub lexeme_num : (s : List ℕ) (v at : ℕ) → lexeme s (token 28 v at) ≡ num v
unfolding lexeme
lexeme_num s v at = refl

-- ---- the front of a list
front : (n : ℕ) (r : List ℕ) → 1 ≤ length r → take (1 + n) r ≡ get_or r 0 0 ∷ take n (drop 1 r)
front n [] h = absurd (omega arith)
front n (b ∷ r) h = let e : 1 + n ≡ suc n = omega arith in ap (λ (k : ℕ). take k (b ∷ r)) e

front_one : (r : List ℕ) → 1 ≤ length r → take 1 r ≡ get_or r 0 0 ∷ []
front_one [] h = absurd (omega arith)
front_one (b ∷ r) h = refl

-- ---- one instruction
module _ (s : List ℕ) (at last : ℕ) (bytes : Bytes s) (here : at < length s) where
  abbrev rest : List ℕ
  rest = drop at s

  some : 1 ≤ length rest
  some = omega (arith, length-drop at s)

  -- an accepted instruction is its lexeme's spelling; VERIFY stands only where the rule lets it
  abbrev pub Canonical : Lexing → Type 0
  Canonical (Ok (gives.One c n v)) = (take n (drop at s) ≡ instruction_bytes (lexeme s (token c v at))) × Formed (lexeme s (token c v at)) × (c ≡ VERIFY → verify_refused last ≡ false)
  Canonical (Ok (gives.Two c n)) = (take n (drop at s) ≡ fused_byte c ∷ []) × (has_fused c ≡ true)
  Canonical (Err k) = Unit {0}

  by_lexeme : (l : Lexeme) (c v n : ℕ) → lexeme s (token c v at) ≡ l → take n (drop at s) ≡ instruction_bytes l → Formed l → (c ≡ VERIFY → verify_refused last ≡ false) → Canonical (Ok (gives.One c n v))
  by_lexeme l c v n e t f w = (t ∙ ap instruction_bytes (sym e), subst Formed (sym e) f, w)

  byte_op : (c : ℕ) → get_or rest 0 0 ≡ opcode_byte c → 1 ≤ c → c ≤ 27 → (c ≡ VERIFY → verify_refused last ≡ false) → Canonical (Ok (gives.One c 1 0))
  byte_op c e l h w = by_lexeme (op c) c 0 1 (lexeme_op s c 0 at h) (front_one rest some ∙ ap (λ (b : ℕ). b ∷ []) e) (l, h) w

  byte_num : (n : ℕ) → get_or rest 0 0 ≡ 0x50 + n → 1 ≤ n → n ≤ 16 → Canonical (Ok (gives.One 28 1 n))
  unfolding number_bytes
  byte_num n e l h =
      by_lexeme (num n) 28 n 1 (lexeme_num s n at)
      (front_one rest some ∙ ap (λ (b : ℕ). b ∷ []) e ∙ sym (simp (ne_eqb n 0 (λ z. omega arith), le-leb n 16 h)))
      (omega arith) (λ z. absurd (omega arith))

  -- a push of n bytes behind one byte
  module _ (n : ℕ) (first : get_or rest 0 0 ≡ n) (fits : 1 + n ≤ length rest) where
    part : List ℕ
    part = take n (drop 1 rest)

    part_is : take n (drop (at + 1) s) ≡ take n (drop 1 rest)
    part_is = ap (take n) (sym (drop-drop 1 at s))

    part_length : length (take n (drop 1 rest)) ≡ n
    part_length = length-take-le n (drop 1 rest) (omega (arith, length-drop 1 rest))

    written : take (1 + n) rest ≡ push_bytes (take n (drop 1 rest))
    written = front n rest some ∙ ap (λ (b : ℕ). b ∷ take n (drop 1 rest)) (first ∙ sym part_length)

    data_canonical : (c : ℕ) → n ≡ data_length c → lexeme s (token c 0 at) ≡ push c (data_at s (at + 1) (data_length c)) → 29 ≤ c → c ≤ 32 → Canonical (Ok (gives.One c (1 + n) 0))
    data_canonical c e p l h =
        let d : take (data_length c) (drop (at + 1) s) ≡ take n (drop 1 rest) = ap (λ (k : ℕ). take k (drop (at + 1) s)) (sym e) ∙ part_is in
        by_lexeme (push c (data_at s (at + 1) (data_length c))) c 0 (1 + n) p
        (written ∙ ap push_bytes (sym d))
        (l, h, ap length d ∙ part_length ∙ e, bytes_take (data_length c) (drop (at + 1) s) (bytes_drop (at + 1) s bytes))
        (λ z. absurd (omega arith))

    number_canonical : (w : Number) → number_of (take n (drop 1 rest)) ≡ w → n ≤ 4 → (n ≡ 1 → small (get_or rest 1 0) ≡ false) → Canonical (numbered w (1 + n))
    number_canonical (Ok v) e h none =
        let r : (push_bytes (take n (drop 1 rest)) ≡ number_bytes v) × (v < 2147483648) =
        number_is_spelled (take n (drop 1 rest)) v (omega (arith, part_length)) (bytes_take n (drop 1 rest) (bytes_drop 1 rest (bytes_drop at s bytes)))
        (λ z. let o : n ≡ 1 = sym part_length ∙ z in ap small (get_or-take n (drop 1 rest) 0 0 (omega arith) ∙ get_or-drop 1 rest 0 0) ∙ none o) e in
        by_lexeme (num v) 28 v (1 + n) (lexeme_num s v at) (written ∙ r.0) r.1 (λ z. absurd (omega arith))
    number_canonical (Err x) e h none = tt

    pushed_canonical : (n ≡ 1 → small (get_or rest 1 0) ≡ false) → Canonical (pushed (take n (drop 1 rest)) n (1 + n))
    unfolding pushed lexeme data_length
    pushed_canonical none =
        either Canonical (eqb n 20) _ _ (λ e. data_canonical 29 (eqb-true n 20 e) refl (omega arith) (omega arith))
        (λ _. either Canonical (eqb n 32) _ _ (λ e. data_canonical 30 (eqb-true n 32 e) refl (omega arith) (omega arith))
        (λ _. either Canonical (eqb n 33) _ _ (λ e. data_canonical 31 (eqb-true n 33 e) refl (omega arith) (omega arith))
        (λ _. either Canonical (eqb n 65) _ _ (λ e. data_canonical 32 (eqb-true n 65 e) refl (omega arith) (omega arith))
        (λ _. either Canonical (leb n 4) _ _ (λ e. number_canonical (number_of (take n (drop 1 rest))) refl (leb-true n 4 e) none) (λ _. tt)))))

  no_opcode : (head n : ℕ) → has_opcode rest head n ≡ false → n ≡ 1 → small (get_or rest head 0) ≡ false
  unfolding has_opcode
  no_opcode head n e z = sym (simp (eq-eqb n 1 z)) ∙ e

  push_canonical : (n : ℕ) → get_or rest 0 0 ≡ n → Canonical (push_of rest 1 n)
  unfolding push_of
  push_canonical n first =
      either Canonical (has_opcode rest 1 n) _ _ (λ _. tt)
      (λ none. either Canonical (leb (1 + n) (length rest)) _ _
      (λ e. pushed_canonical n first (leb-true (1 + n) (length rest) e) (no_opcode 1 n none))
      (λ _. tt))

  -- 76 bytes or more are no token
  long_refused : (d : List ℕ) (n all : ℕ) → 76 ≤ n → Canonical (pushed d n all)
  unfolding pushed
  long_refused d n all h =
      either Canonical (eqb n 20) _ _ (λ e. absurd (let z : n ≡ 20 = eqb-true n 20 e in omega arith))
      (λ _. either Canonical (eqb n 32) _ _ (λ e. absurd (let z : n ≡ 32 = eqb-true n 32 e in omega arith))
      (λ _. either Canonical (eqb n 33) _ _ (λ e. absurd (let z : n ≡ 33 = eqb-true n 33 e in omega arith))
      (λ _. either Canonical (eqb n 65) _ _ (λ e. absurd (let z : n ≡ 65 = eqb-true n 65 e in omega arith))
      (λ _. either Canonical (leb n 4) _ _ (λ e. absurd (let z : n ≤ 4 = leb-true n 4 e in omega arith)) (λ _. tt)))))

  long_push_refused : (head n : ℕ) → 76 ≤ n → Canonical (push_of rest head n)
  unfolding push_of
  long_push_refused head n h =
      either Canonical (has_opcode rest head n) _ _ (λ _. tt)
      (λ _. either Canonical (leb (head + n) (length rest)) _ _ (λ _. long_refused _ n (head + n) h) (λ _. tt))

  sized_canonical : (w least : ℕ) → 76 ≤ least → Canonical (sized_of rest w least)
  unfolding sized_of
  sized_canonical w least h =
      either Canonical (leb (1 + w) (length rest)) _ _
      (λ _. either Canonical (ltb (little_endian (take w (drop 1 rest))) least) _ _ (λ _. tt)
      (λ e. long_push_refused (1 + w) (little_endian (take w (drop 1 rest))) (let l : least ≤ little_endian (take w (drop 1 rest)) = ltb-false (little_endian (take w (drop 1 rest))) least e in omega arith)))
      (λ _. tt)

  given_canonical : (o : Op) → right_byte (get_or rest 0 0) o ≡ true → Canonical (given o rest last)
  given_canonical (Push n) e = push_canonical n (sym (eqb-true n (get_or rest 0 0) (picked_both (eqb n (get_or rest 0 0)) (leb n 75) e).0))
  given_canonical (Sized w least) e = sized_canonical w least (leb-true 76 least e)
  given_canonical (Num n) e =
      let p = picked_both (eqb (get_or rest 0 0) (0x50 + n)) (pick (leb 1 n) (leb n 16) false) e in
      let q = picked_both (leb 1 n) (leb n 16) p.1 in
      byte_num n (eqb-true (get_or rest 0 0) (0x50 + n) p.0) (leb-true 1 n q.0) (leb-true n 16 q.1)
  given_canonical (One c) e =
      let p = picked_both (eqb (get_or rest 0 0) (opcode_byte c)) (pick (leb 1 c) (pick (leb c 27) (not (eqb c VERIFY)) false) false) e in
      let q = picked_both (leb 1 c) (pick (leb c 27) (not (eqb c VERIFY)) false) p.1 in
      let r = picked_both (leb c 27) (not (eqb c VERIFY)) q.1 in
      byte_op c (eqb-true (get_or rest 0 0) (opcode_byte c) p.0) (leb-true 1 c q.0) (leb-true c 27 r.0)
      (λ z. absurd (eqb-false c VERIFY (not-true (eqb c VERIFY) r.1) z))
  given_canonical (Fused c) e =
      let p = picked_both (eqb (get_or rest 0 0) (fused_byte c)) (has_fused c) e in
      (front_one rest some ∙ ap (λ (b : ℕ). b ∷ []) (eqb-true (get_or rest 0 0) (fused_byte c) p.0), p.1)
  given_canonical Verify e =
      either Canonical (verify_refused last) _ _ (λ _. tt) (λ w. byte_op 23 (eqb-true (get_or rest 0 0) 0x69 e) (omega arith) (omega arith) (λ _. w))
  given_canonical Unlisted e = tt

  pub instruction_canonical : Canonical (instruction_of (drop at s) last)
  unfolding instruction_of
  instruction_canonical = given_canonical (op_of (get_or rest 0 0)) (right_byte_lem (get_or rest 0 0) (bytes_drop at s bytes 0))
