-- What holds of every script and every table: tokens are at most twice the bytes, room beyond that never matters, every number of the table is below 2^31, an entry of the table is its token, and the contract has one outcome. Assumes nothing.
use mathlib.Core.Path.{◌≡◌, refl, sym, ap, subst, ◌∙◌}
use mathlib.Core.Bool.{Bool, true, false}
use mathlib.Core.List.{List, [], ◌∷◌, ◌++◌, map, reverse}
use Prim.Native.Nat.{ℕ, zero, suc, ◌+◌, ◌-◌, ◌*◌, ◌≤◌, ◌<◌}
use native.Mathlib.Omega.{arith}
use borrow.Author.Tests.{le-leb, leb-true, leb-false}
use lib.Dec.{leb}
use lib.ListN.{length, drop, get_or, drop_of_length-le, length-map}
use Rattle.tables.specs.Choose.{pick}
use Rattle.tables.specs.Tables.{zeros, flat, newest}
use Rattle.tables.proofs.NewestLaws.{newest_same, newest_reverse}
use Rattle.tables.proofs.PutLaws.{zeros_cell}
use Rattle.tables.proofs.FlatLaws.{entry_cell}
use Rattle.instruction.specs.Error.{error_number, Lexing}
use Rattle.instruction.specs.declared.Lexed.TheVariants.{One, Two}
use Rattle.std.specs.Prelude.{Ok, Err}
use Rattle.instruction.specs.Instruction.{instruction_of}
use Rattle.lex.specs.Token.{Bytes, Token, token, read_token, VERIFY}
use Rattle.lex.specs.Script.{Answer, numbers_of, refusal, script_limit, Outcome, tokens, refused, and_then, after, instructions, lex_of, numbers, table_of, answer_of, Lexes}
use Rattle.lex.specs.Room.{Ample, sizes_for, room_for, room_of}
use Rattle.lex.proofs.ScanLaws.{opened, limit_low}
use Rattle.instruction.proofs.SizeLaws.{one_fits, two_fits}
use Rattle.lex.proofs.FillLaws.{tokens_strided}
use Rattle.instruction.proofs.LowLaws.{bytes_drop, Low, low_instruction}
use Rattle.lex.proofs.Derivation.{Gives, done, one, two, gives_few, derived, outcome_of_lem}

-- ---- one outcome
-- any two outcomes that meet the contract of `lex` are identical
pub lex_outcome_unique : (s : List ℕ) (size : ℕ) (r r' : Answer) (t t' : List ℕ) → Lexes s size r t → Lexes s size r' t' → (r ≡ r') × (t ≡ t')
lex_outcome_unique s size r r' t t' a b = (a.0 ∙ sym b.0, a.1 ∙ sym b.1)

-- and any two of `room`
pub room_outcome_unique : (s : List ℕ) (r r' : Ample) → r ≡ room_of s → r' ≡ room_of s → r ≡ r'
room_outcome_unique s r r' a b = a ∙ sym b

-- ---- room
-- a script gives at most two tokens a byte
pub tokens_at_most_twice : (room : ℕ) (s : List ℕ) (ts : List Token) → lex_of room s ≡ tokens ts → length ts ≤ 2 * length s
tokens_at_most_twice room s ts e = let f : length ts + 2 * 0 ≤ 2 * length s = gives_few s (derived room s ts e).1 in omega arith

pub same_tokens : {ts us : List Token} → tokens ts ≡ tokens us → ts ≡ us
same_tokens e = cc

-- the tokens are the same in any room that holds them
pub same_tokens_in_any_room : (room other : ℕ) (s : List ℕ) (ts : List Token) → lex_of room s ≡ tokens ts → length ts ≤ other → lex_of other s ≡ tokens ts
same_tokens_in_any_room room other s ts e h = let d = derived room s ts e in outcome_of_lem other s ts d.0 d.1 h

module _ (s : List ℕ) where
  -- two rooms that are both ample for the rest
  Same : ℕ → ℕ → Type 0
  Same most at = (room other last : ℕ) → at ≤ length s → 2 * (length s - at) ≤ room → 2 * (length s - at) ≤ other → instructions most room at last (drop at s) ≡ instructions most other at last (drop at s)

  step_same : (most at last room other : ℕ) → at < length s → 2 * (length s - at) ≤ room → 2 * (length s - at) ≤ other → ((n : ℕ) → Same most (at + n)) → (x : Lexing) → instruction_of (drop at s) last ≡ x
      → after room at x (λ left n code. instructions most left (at + n) code (drop (at + n) s)) ≡ after other at x (λ left n code. instructions most left (at + n) code (drop (at + n) s))
  unfolding Same
  step_same most at last room other h a b rest (Ok (One c n v)) e =
      let f : (1 ≤ n) × (n ≤ length s - at) = one_fits s at last h (sym e) c v n refl in
      simp (le-leb 1 room (omega arith), le-leb 1 other (omega arith)) (ap (and_then (token c v at)) (rest n (room - 1) (other - 1) c (omega arith) (omega arith) (omega arith)))
  step_same most at last room other h a b rest (Ok (Two c n)) e =
      let f : (1 ≤ n) × (n ≤ length s - at) = two_fits s at last h (sym e) c n refl in
      simp (le-leb 2 room (omega arith), le-leb 2 other (omega arith))
      (ap (λ (o : Outcome). and_then (token c 0 at) (and_then (token VERIFY 0 at) o)) (rest n (room - 2) (other - 2) VERIFY (omega arith) (omega arith) (omega arith)))
  step_same most at last room other h a b rest (Err k) e = refl

  empty_same : (most room other at last : ℕ) → instructions most room at last [] ≡ instructions most other at last []
  empty_same zero room other at last = refl
  empty_same (suc most) room other at last = refl

  all_same : (most at : ℕ) → Same most at
  unfolding Same
  all_same zero at room other last w a b = refl
  all_same (suc most) at room other last w a b = split (λ n. all_same most (at + n)) (leb (length s) at) refl
    where
      split : ((n : ℕ) → Same most (at + n)) → (c : Bool) → leb (length s) at ≡ c → instructions (suc most) room at last (drop at s) ≡ instructions (suc most) other at last (drop at s)
      split rest true e = subst (λ (l : List ℕ). instructions (suc most) room at last l ≡ instructions (suc most) other at last l) (sym (drop_of_length-le s (leb-true (length s) at e))) refl
      split rest false e =
          let l : at < length s = leb-false (length s) at e in
          opened most room at last s l
          ∙ step_same most at last room other l a b rest (instruction_of (drop at s) last) refl
          ∙ sym (opened most other at last s l)

-- with room for two tokens a byte, more room changes nothing
pub ample_room_suffices : (room : ℕ) (s : List ℕ) → 2 * length s ≤ room → lex_of room s ≡ lex_of (2 * length s) s
unfolding lex_of Same
ample_room_suffices room s h =
    ap (λ (o : Outcome). pick (leb (length s) script_limit) o (refused 1 0)) (all_same s (length s) 0 room (2 * length s) 0 (omega arith) (omega arith) (omega arith))

-- what `room` answers is lexing with room enough: the refusal, or the number of tokens
pub room_is_lexing : (room : ℕ) (s : List ℕ) → 2 * length s ≤ room → room_of s ≡ room_for (lex_of room s)
unfolding room_of
room_is_lexing room s h = ap room_for (sym (ample_room_suffices room s h))

-- how many tokens the sizes are for
abbrev tokens_in : Ample → ℕ
tokens_in (Ok s) = s.tokens
tokens_in (Err e) = 0

sizes_tokens : (o : Outcome) (t : ℕ) → room_for o ≡ sizes_for t → (ts : List Token) × (o ≡ tokens ts) × (length ts ≡ t)
sizes_tokens (tokens ts) t e = (ts, refl, ap tokens_in e)
sizes_tokens (refused k p) t e = let z : ◌≡◌ {A = ℕ} 0 1 = cc in absurd (omega arith)

-- and the table of the size that `room` names holds them
pub room_holds_the_tokens : (s : List ℕ) (t : ℕ) → room_of s ≡ sizes_for t → (ts : List Token) × (lex_of t s ≡ tokens ts) × (length ts ≡ t)
unfolding room_of
room_holds_the_tokens s t e =
    let r : (ts : List Token) × (lex_of (2 * length s) s ≡ tokens ts) × (length ts ≡ t) = sizes_tokens (lex_of (2 * length s) s) t e in
    let l : length r.0 ≡ t = r.2 in
    (r.0, same_tokens_in_any_room (2 * length s) t s r.0 r.1 (omega arith), r.2)

-- ---- refusals
-- a refusal inside the script: its number is 2 to 7, or 8 if the room may be too small; its place lies in the script
abbrev Inside : List ℕ → Outcome → Type 0
Inside s (tokens ts) = Unit {0}
Inside s (refused k p) = (2 ≤ k) × (k ≤ 7) × (p < length s)

inside_then : (s : List ℕ) (t : Token) (o : Outcome) → Inside s o → Inside s (and_then t o)
inside_then s t (tokens ts) h = tt
inside_then s t (refused k p) h = h

module _ (s : List ℕ) (bytes : Bytes s) where
  Tame : ℕ → ℕ → Type 0
  Tame most at = (room last : ℕ) → at ≤ length s → 2 * (length s - at) ≤ room → Inside s (instructions most room at last (drop at s))

  step_tame : (most at last room : ℕ) → at < length s → 2 * (length s - at) ≤ room → ((n : ℕ) → Tame most (at + n)) → (x : Lexing) → instruction_of (drop at s) last ≡ x
      → Inside s (after room at x (λ left n code. instructions most left (at + n) code (drop (at + n) s)))
  unfolding Tame
  step_tame most at last room h a rest (Ok (One c n v)) e =
      let f : (1 ≤ n) × (n ≤ length s - at) = one_fits s at last h (sym e) c v n refl in
      simp (le-leb 1 room (omega arith)) (inside_then s (token c v at) (instructions most (room - 1) (at + n) c (drop (at + n) s)) (rest n (room - 1) c (omega arith) (omega arith)))
  step_tame most at last room h a rest (Ok (Two c n)) e =
      let f : (1 ≤ n) × (n ≤ length s - at) = two_fits s at last h (sym e) c n refl in
      simp (le-leb 2 room (omega arith))
      (inside_then s (token c 0 at) (and_then (token VERIFY 0 at) (instructions most (room - 2) (at + n) VERIFY (drop (at + n) s)))
      (inside_then s (token VERIFY 0 at) (instructions most (room - 2) (at + n) VERIFY (drop (at + n) s)) (rest n (room - 2) VERIFY (omega arith) (omega arith))))
  step_tame most at last room h a rest (Err k) e =
      let l : (2 ≤ error_number k) × (error_number k ≤ 7) = subst Low e (low_instruction (drop at s) last (bytes_drop at s bytes)) in
      (l.0, l.1, h)

  empty_tame : (most room at last : ℕ) → Inside s (instructions most room at last [])
  empty_tame zero room at last = tt
  empty_tame (suc most) room at last = tt

  all_tame : (most at : ℕ) → Tame most at
  unfolding Tame
  all_tame zero at room last w a = tt
  all_tame (suc most) at room last w a = split (λ n. all_tame most (at + n)) (leb (length s) at) refl
    where
      split : ((n : ℕ) → Tame most (at + n)) → (c : Bool) → leb (length s) at ≡ c → Inside s (instructions (suc most) room at last (drop at s))
      split rest true e = subst (λ (l : List ℕ). Inside s (instructions (suc most) room at last l)) (sym (drop_of_length-le s (leb-true (length s) at e))) tt
      split rest false e =
          let l : at < length s = leb-false (length s) at e in
          subst (Inside s) (sym (opened most room at last s l)) (step_tame most at last room l a rest (instruction_of (drop at s) last) refl)

  limit_tame : (b : Bool) (o : Outcome) (k p : ℕ) → Inside s o → pick b o (refused 1 0) ≡ refused k p → k ≡ 8 → ⊥
  limit_tame true (tokens ts) k p h e q = let z : ◌≡◌ {A = ℕ} 0 1 = cc in omega arith
  limit_tame true (refused k' p') k p h e q = let z : k' ≡ k = cc in let w : k' ≤ 7 = h.1 in omega arith
  limit_tame false o k p h e q = let z : ◌≡◌ {A = ℕ} 1 k = cc in omega arith

  -- with room for two tokens a byte, 8 is never given
  pub eight_never_with_ample_room : (room p : ℕ) → 2 * length s ≤ room → lex_of room s ≡ refused 8 p → ⊥
  unfolding lex_of Tame
  eight_never_with_ample_room room p h e = limit_tame (leb (length s) script_limit) (instructions (length s) room 0 0 s) 8 p (all_tame (length s) 0 room 0 (omega arith) (omega arith)) e refl

-- ---- the table
-- every token of a list
abbrev pub Each : (Token → Type 0) → List Token → Type 0
Each P [] = Unit {0}
Each P (t ∷ ts) = P t × Each P ts

abbrev pub LowToken : Token → Type 0
LowToken t = (t.code ≤ 32) × (t.number < 2147483648) × (t.place < 2147483648)

low_tokens : (s : List ℕ) → Bytes s → length s < 2147483648 → {at last : ℕ} {ts : List Token} → Gives s at last ts → Each LowToken ts
low_tokens s b h (done e) = tt
low_tokens s b h (one {at} {last} {c} {v} {n} {ts} l e g) =
    let q : (c ≤ 32) × (v < 2147483648) = subst Low e (low_instruction (drop at s) last (bytes_drop at s b)) in
    ((q.0, q.1, omega arith), low_tokens s b h g)
low_tokens s b h (two {at} {last} {c} {n} {ts} l e g) =
    let q : c ≤ 32 = subst Low e (low_instruction (drop at s) last (bytes_drop at s b)) in
    ((q, omega arith, omega arith), ((omega arith, omega arith, omega arith), low_tokens s b h g))

-- codes, numbers and places are below 2^31
pub tokens_low : (room : ℕ) (s : List ℕ) (ts : List Token) → Bytes s → lex_of room s ≡ tokens ts → Each LowToken ts
tokens_low room s ts b e = let d = derived room s ts e in let l : length s ≤ script_limit = d.0 in low_tokens s b (omega (arith, limit_low)) d.1

table_low : (ts : List Token) (m i : ℕ) → Each LowToken ts → get_or (flat (map numbers ts) ++ zeros m) i 0 < 2147483648
table_low [] m i h = let z : get_or (zeros m) i 0 ≡ 0 = zeros_cell m i in omega arith
table_low (t ∷ ts) m zero h = let c : t.code ≤ 32 = h.0.0 in omega arith
table_low (t ∷ ts) m (suc zero) h = h.0.1
table_low (t ∷ ts) m (suc (suc zero)) h = h.0.2
table_low (t ∷ ts) m (suc (suc (suc i))) h = table_low ts m i h.1

cells_low_of : (size i : ℕ) (s : List ℕ) (o : Outcome) → ((ts : List Token) → o ≡ tokens ts → Each LowToken ts) → get_or (table_of size o) i 0 < 2147483648
cells_low_of size i s (tokens ts) h = table_low ts (size - 3 * length ts) i (h ts refl)
cells_low_of size i s (refused k p) h = let z : get_or (zeros size) i 0 ≡ 0 = zeros_cell size i in omega arith

-- every number of the table is below 2^31, after a refusal too
pub cells_low : (size room i : ℕ) (s : List ℕ) → Bytes s → get_or (table_of size (lex_of room s)) i 0 < 2147483648
cells_low size room i s b = cells_low_of size i s (lex_of room s) (λ ts e. tokens_low room s ts b e)

-- ---- reading the table
-- token i of the list, and a token of zeros past its end
abbrev pub token_at : List Token → ℕ → Token
token_at ts i = get_or ts i (token 0 0 0)

numbers_at : (ts : List Token) (i : ℕ) → i < length ts → get_or (map numbers ts) i [] ≡ numbers (token_at ts i)
numbers_at [] i h = absurd (omega arith)
numbers_at (t ∷ ts) zero h = refl
numbers_at (t ∷ ts) (suc i) h = numbers_at ts i (omega arith)

module _ (size : ℕ) (ts : List Token) (i : ℕ) (h : i < length ts) where
  cell : (j : ℕ) → j < 3 → get_or (table_of size (tokens ts)) (3 * i + j) 0 ≡ get_or (numbers (token_at ts i)) j 0
  cell j l =
      entry_cell 3 i j (map numbers ts) (zeros (size - 3 * length ts)) (tokens_strided ts) (let e : length (map numbers ts) ≡ length ts = length-map ts numbers in omega arith) l
      ∙ ap (λ (entry : List ℕ). get_or entry j 0) (numbers_at ts i h)

  -- entry i of the table is token i
  pub code_at : get_or (table_of size (tokens ts)) (3 * i) 0 ≡ (token_at ts i).code
  code_at = let e : 3 * i ≡ 3 * i + 0 = omega arith in ap (λ (k : ℕ). get_or (table_of size (tokens ts)) k 0) e ∙ cell 0 (omega arith)

  pub number_at : get_or (table_of size (tokens ts)) (3 * i + 1) 0 ≡ (token_at ts i).number
  number_at = cell 1 (omega arith)

  pub place_at : get_or (table_of size (tokens ts)) (3 * i + 2) 0 ≡ (token_at ts i).place
  place_at = cell 2 (omega arith)

  -- all three numbers at once
  pub token_at_lem : read_token (table_of size (tokens ts)) i ≡ token_at ts i
  token_at_lem =
      ap (λ (c : ℕ). token c (get_or (table_of size (tokens ts)) (3 * i + 1) 0) (get_or (table_of size (tokens ts)) (3 * i + 2) 0)) code_at
      ∙ ap (λ (v : ℕ). token (token_at ts i).code v (get_or (table_of size (tokens ts)) (3 * i + 2) 0)) number_at
      ∙ ap (λ (p : ℕ). token (token_at ts i).code (token_at ts i).number p) place_at

-- the tokens read off the table, the last one first, are the script's tokens reversed
pub tokens_newest_first : (size : ℕ) (ts : List Token) → newest (read_token (table_of size (tokens ts))) (length ts) ≡ reverse ts
tokens_newest_first size ts =
    newest_same (token_at ts) (read_token (table_of size (tokens ts))) (length ts) (λ i h. token_at_lem size ts i h) ∙ newest_reverse ts (token 0 0 0)

-- the answer says which outcome it was
pub answered_tokens : (room n : ℕ) (s : List ℕ) → Ok n ≡ answer_of (lex_of room s) → (ts : List Token) × (lex_of room s ≡ tokens ts) × (length ts ≡ n)
answered_tokens room n s e = of (lex_of room s) e
  where
    of : (o : Outcome) → Ok n ≡ answer_of o → (ts : List Token) × (o ≡ tokens ts) × (length ts ≡ n)
    of (tokens ts) p = (ts, refl, cc)
    of (refused k q) p = let z : ◌≡◌ {A = ℕ} 0 1 = cc in absurd (omega arith)

pub answered_refused : (room k p : ℕ) (s : List ℕ) → Err (refusal k p) ≡ answer_of (lex_of room s) → lex_of room s ≡ refused k p
answered_refused room k p s e = of (lex_of room s) e
  where
    of : (o : Outcome) → Err (refusal k p) ≡ answer_of o → o ≡ refused k p
    of (tokens ts) q = let z : ◌≡◌ {A = ℕ} 0 1 = cc in absurd (omega arith)
    of (refused k' p') q =
        ap (λ (n : ℕ). refused n p') (sym (ap (λ (a : Answer). (numbers_of a).number) q))
        ∙ ap (refused k) (sym (ap (λ (a : Answer). (numbers_of a).place) q))
