-- The loop that writes tokens into a cleared table, and the scan that only counts them. Assumes nothing.
-- Why: the table holds the tokens so far and then zeros, and a token more is one entry more of three numbers.
use mathlib.Core.Path.{◌≡◌, refl, sym, ap, subst, ◌∙◌}
use mathlib.Core.List.{List, [], ◌∷◌, ◌++◌, map}
use Prim.Native.Nat.{ℕ, ◌+◌, ◌-◌, ◌*◌, ◌/◌, ◌≤◌, ◌<◌}
use native.Mathlib.Omega.{arith}
use borrow.Author.Tests.{lt-leb}
use lib.ListN.{length, take, drop, length-append, length-map, length-drop}
use Rattle.std.proofs.lemmas.List.{take_all}
use Rattle.tables.specs.Tables.{zeros, flat, Strided, put_at}
use Rattle.tables.proofs.FlatLaws.{strided_map, append_entry}
use Rattle.instruction.specs.declared.Error.{Error}
use Rattle.instruction.specs.Error.{error_number, Lexing}
use Rattle.instruction.specs.declared.Lexed.TheVariants.{One, Two}
use Rattle.std.specs.Prelude.{Result, Ok, Err}
use Rattle.lex.specs.declared.Refused.{Refused}
use Rattle.instruction.specs.declared.Lexed.{Lexed}
use Rattle.instruction.specs.Instruction.{instruction_of}
use Rattle.lex.specs.Token.{Token, token, VERIFY}
use Rattle.lex.specs.Script.{placed, Answer, refusal, script_limit, Outcome, tokens, refused, instructions, lex_of, numbers, table_of, answer_of, Fills, Lexes}
use Rattle.lex.specs.Room.{Ample, sizes_for, room_for, room_of}
use Rattle.lex.proofs.ScanLaws.{limit_low, limit_kept, limit_passed, Scan, begun, refuses, full_one, full_two, one_more, two_more, ended}

-- an instruction with the place of its refusal, read back
pub placed_ok : (at : ℕ) (x : Lexing) {r : Result Lexed Refused} {got : Lexed} → r ≡ placed at x → r ≡ Ok got → Ok got ≡ x
placed_ok at (Ok y) {r} {got} p q = let z : got ≡ y = cc in ap Ok z
placed_ok at (Err e) p q = let z : ◌≡◌ {A = ℕ} 0 1 = cc in absurd (omega arith)

pub placed_err : (at : ℕ) (x : Lexing) {r : Result Lexed Refused} {f : Refused} → r ≡ placed at x → r ≡ Err f → (k : Error) × (Err k ≡ x) × (f ≡ refusal (error_number k) at)
placed_err at (Ok y) p q = let z : ◌≡◌ {A = ℕ} 0 1 = cc in absurd (omega arith)
placed_err at (Err e) {r} {f} p q = let z : f ≡ record { number = error_number e; place = at } = cc in (e, refl, z)

-- an instruction read off the rest of a script
pub of_the_rest : (s : List ℕ) (at last : ℕ) {r : Lexing} → r ≡ instruction_of (take (length s - at) (drop at s)) last → r ≡ instruction_of (drop at s) last
of_the_rest s at last e =
    let l : length (drop at s) ≤ length s - at = omega (arith, length-drop at s) in
    e ∙ ap (λ (rest : List ℕ). instruction_of rest last) (take_all (length s - at) (drop at s) l)

-- three numbers a token
pub tokens_strided : (ts : List Token) → Strided 3 (map numbers ts)
tokens_strided ts = strided_map 3 numbers (λ t. refl) ts

map_append : (ts us : List Token) → map numbers (ts ++ us) ≡ map numbers ts ++ map numbers us
map_append [] us = refl
map_append (t ∷ ts) us = ap (λ (l : List (List ℕ)). numbers t ∷ l) (map_append ts us)

-- one token more in the table
token_more : (size n : ℕ) (ts : List Token) (t : Token) → length ts ≡ n → 3 * n + 2 < size
    → put_at (flat (map numbers ts) ++ zeros (size - 3 * n)) (3 * n) (numbers t) ≡ flat (map numbers (ts ++ (t ∷ []))) ++ zeros (size - 3 * (n + 1))
token_more size n ts t e h =
    append_entry 3 size n (map numbers ts) (numbers t) (tokens_strided ts) refl (length-map ts numbers ∙ e) (omega arith)
    ∙ ap (λ (l : List (List ℕ)). flat l ++ zeros (size - 3 * (n + 1))) (sym (map_append ts (t ∷ [])))

-- between two instructions: n tokens are read and written
pub record Filling (s : List ℕ) (size : ℕ) (table : List ℕ) (at n last : ℕ) : Type 0 where
  pub ts : List Token
  pub scan : Scan s (size / 3) ts at last
  pub count : length ts ≡ n
  pub fits : n ≤ size / 3
  pub holds : table ≡ flat (map numbers ts) ++ zeros (size - 3 * n)
  pub whole : length table ≡ size
  pub low : length s < 2147483648
  pub short : length s ≤ script_limit

pub fill_begun : (s : List ℕ) (size : ℕ) (table : List ℕ) → length s ≤ script_limit → length table ≡ size → table ≡ zeros (length table) → Filling s size table 0 0 0
fill_begun s size table h w z =
    let e : length table ≡ size - 3 * 0 = omega arith in
    record {
      ts = [];
      scan = begun s (size / 3);
      count = refl;
      fits = omega arith;
      holds = z ∙ ap zeros e;
      whole = w;
      low = omega (arith, limit_low);
      short = h;
    }

-- a refusal
filled_refused : (s : List ℕ) (size k p : ℕ) (table : List ℕ) → length s ≤ script_limit → instructions (length s) (size / 3) 0 0 s ≡ refused k p
    → (Err (refusal k p) ≡ answer_of (lex_of (size / 3) s)) × Fills size (lex_of (size / 3) s) table
filled_refused s size k p table h e =
    let f : lex_of (size / 3) s ≡ refused k p = limit_kept (size / 3) s h ∙ e in
    (ap answer_of (sym f), subst (λ (o : Outcome). Fills size o table) (sym f) tt)

module _ (s : List ℕ) (size : ℕ) (table : List ℕ) (at n last : ℕ) (i : Filling s size table at n last) (h : at < length s) (x : Lexing) (e : x ≡ instruction_of (drop at s) last) where
  room_left : (k : ℕ) → size / 3 - n < k → size / 3 - length i.ts < k
  room_left k q = let c : length i.ts ≡ n = i.count in omega arith

  pub fill_refused : {r : Answer} {f : Refused} (after : List ℕ) → r ≡ Err f → (k : Error) × (Err k ≡ x) × (f ≡ refusal (error_number k) at) → (r ≡ answer_of (lex_of (size / 3) s)) × Fills size (lex_of (size / 3) s) after
  fill_refused after q (k, p, g) = let f = filled_refused s size (error_number k) at after i.short (refuses s (size / 3) i.ts at last i.scan h x e k (sym p)) in (q ∙ ap Err g ∙ f.0, f.1)

  pub fill_full_one : (c v m : ℕ) {r : Answer} (after : List ℕ) → x ≡ Ok (One c m v) → size / 3 - n < 1 → r ≡ Err (refusal 8 at) → (r ≡ answer_of (lex_of (size / 3) s)) × Fills size (lex_of (size / 3) s) after
  fill_full_one c v m after p l q = let f = filled_refused s size 8 at after i.short (full_one s (size / 3) i.ts at last i.scan h x e c v m p (room_left 1 l)) in (q ∙ f.0, f.1)

  pub fill_full_two : (c m : ℕ) {r : Answer} (after : List ℕ) → x ≡ Ok (Two c m) → size / 3 - n < 2 → r ≡ Err (refusal 8 at) → (r ≡ answer_of (lex_of (size / 3) s)) × Fills size (lex_of (size / 3) s) after
  fill_full_two c m after p l q = let f = filled_refused s size 8 at after i.short (full_two s (size / 3) i.ts at last i.scan h x e c m p (room_left 2 l)) in (q ∙ f.0, f.1)

  pub fill_one : (c v m : ℕ) (after : List ℕ) → x ≡ Ok (One c m v) → 1 ≤ size / 3 - n → length after ≡ length table → after ≡ put_at table (3 * n) (numbers (token c v at)) → Filling s size after (at + m) (n + 1) c
  fill_one c v m after p q l g =
      let d : length i.ts ≡ n = i.count in
      let w : length table ≡ size = i.whole in
      record {
        ts = i.ts ++ (token c v at ∷ []);
        scan = one_more s (size / 3) i.ts at last i.scan h x e c v m p (omega arith);
        count = length-append i.ts (token c v at ∷ []) ∙ omega arith;
        fits = omega arith;
        holds = g ∙ ap (λ (t : List ℕ). put_at t (3 * n) (numbers (token c v at))) i.holds ∙ token_more size n i.ts (token c v at) d (omega arith);
        whole = l ∙ w;
        low = i.low;
        short = i.short;
      }

  pub fill_two : (c m : ℕ) (between after : List ℕ) → x ≡ Ok (Two c m) → 2 ≤ size / 3 - n → length between ≡ length table → length after ≡ length between
      → between ≡ put_at table (3 * n) (numbers (token c 0 at)) → after ≡ put_at between (3 * (n + 1)) (numbers (token VERIFY 0 at)) → Filling s size after (at + m) (n + 2) VERIFY
  fill_two c m between after p q l l' g g' =
      let d : length i.ts ≡ n = i.count in
      let w : length table ≡ size = i.whole in
      let a : n + 1 + 1 ≡ n + 2 = omega arith in
      let us : List Token = i.ts ++ (token c 0 at ∷ []) in
      let d' : length (i.ts ++ (token c 0 at ∷ [])) ≡ n + 1 = length-append i.ts (token c 0 at ∷ []) ∙ omega arith in
      record {
        ts = i.ts ++ (token c 0 at ∷ []) ++ (token VERIFY 0 at ∷ []);
        scan = two_more s (size / 3) i.ts at last i.scan h x e c m p (omega arith);
        count = length-append (i.ts ++ (token c 0 at ∷ [])) (token VERIFY 0 at ∷ []) ∙ omega arith;
        fits = omega arith;
        holds =
            g' ∙ ap (λ (t : List ℕ). put_at t (3 * (n + 1)) (numbers (token VERIFY 0 at)))
            (g ∙ ap (λ (t : List ℕ). put_at t (3 * n) (numbers (token c 0 at))) i.holds ∙ token_more size n i.ts (token c 0 at) d (omega arith))
            ∙ token_more size (n + 1) (i.ts ++ (token c 0 at ∷ [])) (token VERIFY 0 at) d' (omega arith)
            ∙ ap (λ (k : ℕ). flat (map numbers (i.ts ++ (token c 0 at ∷ []) ++ (token VERIFY 0 at ∷ []))) ++ zeros (size - 3 * k)) a;
        whole = l' ∙ l ∙ w;
        low = i.low;
        short = i.short;
      }

-- the end of the script
pub fill_ended : (s : List ℕ) (size : ℕ) (table : List ℕ) (at n last : ℕ) → Filling s size table at n last → length s ≤ at
    → (Ok n ≡ answer_of (lex_of (size / 3) s)) × Fills size (lex_of (size / 3) s) table
fill_ended s size table at n last i h =
    let f : lex_of (size / 3) s ≡ tokens i.ts = limit_kept (size / 3) s i.short ∙ ended s (size / 3) i.ts at last i.scan h in (
      ap Ok (sym i.count) ∙ ap answer_of (sym f),
      subst (λ (o : Outcome). Fills size o table) (sym f) (i.holds ∙ ap (λ (k : ℕ). flat (map numbers i.ts) ++ zeros (size - 3 * k)) (sym i.count)),
    )

-- what `lex` makes of it
pub lex_long : (s : List ℕ) (size : ℕ) (table : List ℕ) {r : Answer} → script_limit < length s → r ≡ Err (refusal 1 0) → table ≡ zeros size → Lexes s size r table
lex_long s size table h p z =
    let f : lex_of (size / 3) s ≡ refused 1 0 = limit_passed (size / 3) s (lt-leb (length s) script_limit h) in
    (p ∙ ap answer_of (sym f), z ∙ ap (table_of size) (sym f))

tokens_outcome : (size n : ℕ) (o : Outcome) (table : List ℕ) → Ok n ≡ answer_of o → Fills size o table → table ≡ table_of size o
tokens_outcome size n (tokens ts) table p q = q
tokens_outcome size n (refused k l) table p q = let z : ◌≡◌ {A = ℕ} 0 1 = cc in absurd (omega arith)

pub lex_tokens : (s : List ℕ) (size n : ℕ) (table : List ℕ) {r : Answer} → r ≡ Ok n → r ≡ answer_of (lex_of (size / 3) s) → Fills size (lex_of (size / 3) s) table → Lexes s size (Ok n) table
lex_tokens s size n table e p q = (sym e ∙ p, tokens_outcome size n (lex_of (size / 3) s) table (sym e ∙ p) q)

refused_outcome : (size k l : ℕ) (o : Outcome) (table : List ℕ) → Err (refusal k l) ≡ answer_of o → table ≡ zeros size → table ≡ table_of size o
refused_outcome size k l (tokens ts) table p q = let z : ◌≡◌ {A = ℕ} 0 1 = cc in absurd (omega arith)
refused_outcome size k l (refused k' l') table p q = q

pub lex_refused : (s : List ℕ) (size k l : ℕ) (table : List ℕ) {r r' : Answer} → r ≡ Err (refusal k l) → r ≡ answer_of (lex_of (size / 3) s) → table ≡ zeros size → r' ≡ Err (refusal k l) → Lexes s size r' table
lex_refused s size k l table e p z q = (q ∙ sym e ∙ p, refused_outcome size k l (lex_of (size / 3) s) table (sym e ∙ p) z)

-- the same, from a table whose length was kept
pub lex_filled : (s : List ℕ) (size size' n : ℕ) (table : List ℕ) {r : Answer} → size' ≡ size → r ≡ Ok n
    → (r ≡ answer_of (lex_of (size' / 3) s)) × Fills size' (lex_of (size' / 3) s) table → Lexes s size (Ok n) table
lex_filled s size size' n table {r} k e f =
    let g : (r ≡ answer_of (lex_of (size / 3) s)) × Fills size (lex_of (size / 3) s) table =
    subst (λ (m : ℕ). (r ≡ answer_of (lex_of (m / 3) s)) × Fills m (lex_of (m / 3) s) table) k f in
    lex_tokens s size n table e g.0 g.1

pub lex_cleared : (s : List ℕ) (size size' k l : ℕ) (table : List ℕ) {r r' : Answer} → size' ≡ size → r ≡ Err (refusal k l) → r ≡ answer_of (lex_of (size' / 3) s) → table ≡ zeros size → r' ≡ Err (refusal k l) → Lexes s size r' table
lex_cleared s size size' k l table {r} e p f z q = lex_refused s size k l table p (subst (λ (m : ℕ). r ≡ answer_of (lex_of (m / 3) s)) e f) z q

-- the scan that counts: two tokens a byte always have room
pub record Counting (s : List ℕ) (at n last : ℕ) : Type 0 where
  pub ts : List Token
  pub scan : Scan s (2 * length s) ts at last
  pub count : length ts ≡ n
  pub few : n ≤ 2 * at
  pub within : at ≤ length s
  pub low : length s < 2147483648
  pub short : length s ≤ script_limit

pub count_begun : (s : List ℕ) → length s ≤ script_limit → Counting s 0 0 0
count_begun s h =
    record {
      ts = [];
      scan = begun s (2 * length s);
      count = refl;
      few = omega arith;
      within = omega arith;
      low = omega (arith, limit_low);
      short = h;
    }

room_is : (s : List ℕ) (o : Outcome) → length s ≤ script_limit → instructions (length s) (2 * length s) 0 0 s ≡ o → room_for o ≡ room_of s
unfolding room_of
room_is s o h e = ap room_for (sym (limit_kept (2 * length s) s h ∙ e))

module _ (s : List ℕ) (at n last : ℕ) (i : Counting s at n last) (h : at < length s) (x : Lexing) (e : x ≡ instruction_of (drop at s) last) where
  pub count_refused : {r : Ample} {f : Refused} → r ≡ Err f → (k : Error) × (Err k ≡ x) × (f ≡ refusal (error_number k) at) → r ≡ room_of s
  count_refused q (k, p, g) = q ∙ ap Err g ∙ room_is s (refused (error_number k) at) i.short (refuses s (2 * length s) i.ts at last i.scan h x e k (sym p))

  pub count_one : (c v m : ℕ) → x ≡ Ok (One c m v) → (1 ≤ m) × (m ≤ length s - at) → Counting s (at + m) (n + 1) c
  count_one c v m p w =
      let d : length i.ts ≡ n = i.count in
      let f : n ≤ 2 * at = i.few in
      record {
        ts = i.ts ++ (token c v at ∷ []);
        scan = one_more s (2 * length s) i.ts at last i.scan h x e c v m p (omega arith);
        count = length-append i.ts (token c v at ∷ []) ∙ omega arith;
        few = omega arith;
        within = omega arith;
        low = i.low;
        short = i.short;
      }

  pub count_two : (c m : ℕ) → x ≡ Ok (Two c m) → (1 ≤ m) × (m ≤ length s - at) → Counting s (at + m) (n + 2) VERIFY
  count_two c m p w =
      let d : length i.ts ≡ n = i.count in
      let f : n ≤ 2 * at = i.few in
      let d' : length (i.ts ++ (token c 0 at ∷ [])) ≡ n + 1 = length-append i.ts (token c 0 at ∷ []) ∙ omega arith in
      record {
        ts = i.ts ++ (token c 0 at ∷ []) ++ (token VERIFY 0 at ∷ []);
        scan = two_more s (2 * length s) i.ts at last i.scan h x e c m p (omega arith);
        count = length-append (i.ts ++ (token c 0 at ∷ [])) (token VERIFY 0 at ∷ []) ∙ omega arith;
        few = omega arith;
        within = omega arith;
        low = i.low;
        short = i.short;
      }

pub count_ended : (s : List ℕ) (at n last : ℕ) (i : Counting s at n last) → length s ≤ at → {r : Ample} → r ≡ sizes_for n → r ≡ room_of s
count_ended s at n last i h e =
    e ∙ ap sizes_for (sym i.count) ∙ room_is s (tokens i.ts) i.short (ended s (2 * length s) i.ts at last i.scan h)

pub count_long : (s : List ℕ) {r : Ample} → script_limit < length s → r ≡ Err (refusal 1 0) → r ≡ room_of s
unfolding room_of
count_long s h p = p ∙ ap room_for (sym (limit_passed (2 * length s) s (lt-leb (length s) script_limit h)))
