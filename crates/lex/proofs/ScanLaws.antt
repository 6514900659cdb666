-- Scanning a script instruction by instruction: what holds between two instructions, and what the next one makes of it. With a table or without. Assumes nothing.
-- Why: the outcome of the whole script is the tokens so far, put before the outcome of what is left.
use mathlib.Core.Path.{◌≡◌, refl, sym, ap, fun_ext, ◌∙◌}
use mathlib.Core.Bool.{false}
use mathlib.Core.List.{List, [], ◌∷◌, ◌++◌}
use Prim.Native.Nat.{ℕ, zero, suc, ◌+◌, ◌-◌, ◌*◌, ◌≤◌, ◌<◌}
use native.Mathlib.Omega.{arith}
use borrow.Author.Tests.{le-leb, lt-leb}
use lib.ListN.{length, drop, length-drop, length-append, drop_of_length-le}
use lib.Seq.{drop-drop}
use lib.Dec.{leb}
use Rattle.instruction.specs.declared.Error.{Error}
use Rattle.instruction.specs.Error.{error_number, Lexing}
use Rattle.instruction.specs.declared.Lexed.TheVariants.{One, Two}
use Rattle.std.specs.Prelude.{Ok, Err}
use Rattle.instruction.specs.Instruction.{instruction_of}
use Rattle.lex.specs.Token.{Token, token, VERIFY}
use Rattle.lex.specs.Script.{script_limit, Outcome, tokens, refused, and_then, after, instructions, lex_of}
use Rattle.instruction.proofs.SizeLaws.{one_fits, two_fits}

-- all that the proofs use of the limit
pub limit_low : script_limit < 2147483648
unfolding script_limit
limit_low = omega arith

pub limit_kept : (room : ℕ) (s : List ℕ) → length s ≤ script_limit → lex_of room s ≡ instructions (length s) room 0 0 s
unfolding lex_of
limit_kept room s h = simp (le-leb (length s) script_limit h)

pub limit_passed : (room : ℕ) (s : List ℕ) → leb (length s) script_limit ≡ false → lex_of room s ≡ refused 1 0
unfolding lex_of
limit_passed room s e = simp e

-- tokens put before an outcome
abbrev pub with_tokens : List Token → Outcome → Outcome
with_tokens [] o = o
with_tokens (t ∷ ts) o = and_then t (with_tokens ts o)

with_one : (ts : List Token) (t : Token) (o : Outcome) → with_tokens ts (and_then t o) ≡ with_tokens (ts ++ (t ∷ [])) o
with_one [] t o = refl
with_one (u ∷ ts) t o = ap (and_then u) (with_one ts t o)

with_none : (ts : List Token) → with_tokens ts (tokens []) ≡ tokens ts
with_none [] = refl
with_none (t ∷ ts) = ap (and_then t) (with_none ts)

with_refused : (ts : List Token) (k p : ℕ) → with_tokens ts (refused k p) ≡ refused k p
with_refused [] k p = refl
with_refused (t ∷ ts) k p = ap (and_then t) (with_refused ts k p)

-- the tokens up to `at` are ts, the last of them with the code `last`
pub record Scan (s : List ℕ) (room : ℕ) (ts : List Token) (at last : ℕ) : Type 0 where
  pub most : ℕ
  pub within : at ≤ length s
  pub enough : length s - at ≤ most
  pub few : length ts ≤ 2 * at
  pub same : instructions (length s) room 0 0 s ≡ with_tokens ts (instructions most (room - length ts) at last (drop at s))

pub begun : (s : List ℕ) (room : ℕ) → Scan s room [] 0 0
begun s room =
    let z : room ≡ room - 0 = omega arith in
    record {
      most = length s;
      within = omega arith;
      enough = omega arith;
      few = omega arith;
      same = ap (λ (k : ℕ). instructions (length s) k 0 0 s) z;
    }

-- one instruction, opened
opened_list : (most room at last : ℕ) (r : List ℕ) → 1 ≤ length r → instructions (suc most) room at last r ≡ after room at (instruction_of r last) (λ left n code. instructions most left (at + n) code (drop n r))
opened_list most room at last [] h = absurd (omega arith)
opened_list most room at last (b ∷ r) h = refl

pub opened : (most room at last : ℕ) (s : List ℕ) → at < length s → instructions (suc most) room at last (drop at s) ≡ after room at (instruction_of (drop at s) last) (λ left n code. instructions most left (at + n) code (drop (at + n) s))
opened most room at last s h =
    opened_list most room at last (drop at s) (omega (arith, length-drop at s))
    ∙ ap (λ (g : ℕ → List ℕ). after room at (instruction_of (drop at s) last) (λ left n code. instructions most left (at + n) code (g n)))
    (fun_ext (λ n. drop-drop n at s))

module _ (s : List ℕ) (room : ℕ) (ts : List Token) (at last : ℕ) (i : Scan s room ts at last) (h : at < length s) (x : Lexing) (e : x ≡ instruction_of (drop at s) last) where
  onward : ℕ → ℕ → ℕ → Outcome
  onward left m code = instructions (i.most - 1) left (at + m) code (drop (at + m) s)

  stepped : instructions (length s) room 0 0 s ≡ with_tokens ts (after (room - length ts) at x onward)
  unfolding onward
  stepped =
      let g : length s - at ≤ i.most = i.enough in
      let f : i.most ≡ suc (i.most - 1) = omega arith in
      i.same
      ∙ ap (λ (k : ℕ). with_tokens ts (instructions k (room - length ts) at last (drop at s))) f
      ∙ ap (with_tokens ts) (opened (i.most - 1) (room - length ts) at last s h ∙ ap (λ (y : Lexing). after (room - length ts) at y onward) (sym e))

  stepped_by : (y : Lexing) → x ≡ y → instructions (length s) room 0 0 s ≡ with_tokens ts (after (room - length ts) at y onward)
  stepped_by y p = stepped ∙ ap (λ (z : Lexing). with_tokens ts (after (room - length ts) at z onward)) p

  pub refuses : (k : Error) → x ≡ Err k → instructions (length s) room 0 0 s ≡ refused (error_number k) at
  refuses k p = stepped_by (Err k) p ∙ with_refused ts (error_number k) at

  pub full_one : (c v m : ℕ) → x ≡ Ok (One c m v) → room - length ts < 1 → instructions (length s) room 0 0 s ≡ refused 8 at
  full_one c v m p q = stepped_by (Ok (One c m v)) p ∙ simp (lt-leb 1 (room - length ts) q) (with_refused ts 8 at)

  pub full_two : (c m : ℕ) → x ≡ Ok (Two c m) → room - length ts < 2 → instructions (length s) room 0 0 s ≡ refused 8 at
  full_two c m p q = stepped_by (Ok (Two c m)) p ∙ simp (lt-leb 2 (room - length ts) q) (with_refused ts 8 at)

  pub one_more : (c v m : ℕ) → x ≡ Ok (One c m v) → 1 ≤ room - length ts → Scan s room (ts ++ (token c v at ∷ [])) (at + m) c
  unfolding onward
  one_more c v m p q =
      let w : (1 ≤ m) × (m ≤ length s - at) = one_fits s at last h e c v m p in
      let l : length (ts ++ (token c v at ∷ [])) ≡ length ts + 1 = length-append ts (token c v at ∷ []) in
      let z : room - length ts - 1 ≡ room - length (ts ++ (token c v at ∷ [])) = omega arith in
      let u : length s - at ≤ i.most = i.enough in
      let f : length ts ≤ 2 * at = i.few in
      record {
        most = i.most - 1;
        within = omega arith;
        enough = omega arith;
        few = omega arith;
        same =
            stepped_by (Ok (One c m v)) p
            ∙ simp (le-leb 1 (room - length ts) q) (with_one ts (token c v at) (onward (room - length ts - 1) m c))
            ∙ ap (λ (k : ℕ). with_tokens (ts ++ (token c v at ∷ [])) (instructions (i.most - 1) k (at + m) c (drop (at + m) s))) z;
      }

  pub two_more : (c m : ℕ) → x ≡ Ok (Two c m) → 2 ≤ room - length ts → Scan s room (ts ++ (token c 0 at ∷ []) ++ (token VERIFY 0 at ∷ [])) (at + m) VERIFY
  unfolding onward
  two_more c m p q =
      let w : (1 ≤ m) × (m ≤ length s - at) = two_fits s at last h e c m p in
      let us : List Token = ts ++ (token c 0 at ∷ []) in
      let l : length (ts ++ (token c 0 at ∷ [])) ≡ length ts + 1 = length-append ts (token c 0 at ∷ []) in
      let k : length (ts ++ (token c 0 at ∷ []) ++ (token VERIFY 0 at ∷ [])) ≡ length (ts ++ (token c 0 at ∷ [])) + 1 = length-append (ts ++ (token c 0 at ∷ [])) (token VERIFY 0 at ∷ []) in
      let z : room - length ts - 2 ≡ room - length (ts ++ (token c 0 at ∷ []) ++ (token VERIFY 0 at ∷ [])) = omega arith in
      let u : length s - at ≤ i.most = i.enough in
      let f : length ts ≤ 2 * at = i.few in
      record {
        most = i.most - 1;
        within = omega arith;
        enough = omega arith;
        few = omega arith;
        same =
            stepped_by (Ok (Two c m)) p
            ∙ simp (le-leb 2 (room - length ts) q)
            (with_one ts (token c 0 at) (and_then (token VERIFY 0 at) (onward (room - length ts - 2) m VERIFY))
            ∙ with_one (ts ++ (token c 0 at ∷ [])) (token VERIFY 0 at) (onward (room - length ts - 2) m VERIFY))
            ∙ ap (λ (j : ℕ). with_tokens (ts ++ (token c 0 at ∷ []) ++ (token VERIFY 0 at ∷ [])) (instructions (i.most - 1) j (at + m) VERIFY (drop (at + m) s))) z;
      }

none_left : (most room at last : ℕ) → instructions most room at last [] ≡ tokens []
none_left zero room at last = refl
none_left (suc most) room at last = refl

pub ended : (s : List ℕ) (room : ℕ) (ts : List Token) (at last : ℕ) (i : Scan s room ts at last) → length s ≤ at → instructions (length s) room 0 0 s ≡ tokens ts
ended s room ts at last i h =
    i.same ∙ ap (λ (l : List ℕ). with_tokens ts (instructions i.most (room - length ts) at last l)) (drop_of_length-le s h) ∙ ap (with_tokens ts) (none_left i.most (room - length ts) at last) ∙ with_none ts
