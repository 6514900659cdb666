-- Keys written one after the other: the loops, and the scripts of a multi and a multi_a. Assumes nothing.
-- Why: what is left to write, from the state that the loop has reached, comes to the whole.
use mathlib.Core.Path.{◌≡◌, refl, sym, ap, subst, ◌∙◌}
use mathlib.Core.List.{List, [], ◌∷◌, ◌++◌}
use Prim.Native.Nat.{ℕ, suc, ◌+◌, ◌-◌, ◌≤◌, ◌<◌}
use native.Mathlib.Omega.{arith}
use native.Mathlib.Numerals.{add-one}
use lib.ListN.{length, get_or, take, drop}
use lib.Seq.{drop-cons, take-length}
use native.Mathlib.Nat.{add-sub_cancel_left}
use Rattle.lex.specs.Token.{CHECKSIGADD, BYTES32, BYTES33, Lexeme, op, num, push, data_at, data_length}
use Rattle.standard.specs.Written.{keys_before, added_keys_before}
use Rattle.standard.specs.Table.{keys_at, datas_at}
use Rattle.emit.specs.declared.Pen.{Pen}
use Rattle.emit.specs.Emission.{inked, penned, Room, inked_all, penned_all}
use Rattle.pieces.proofs.WriteLaws.{whole_within}
use Rattle.emit_multi.specs.Multis.{multi_keys, added_keys, Ready}

-- Several lexemes, and then several more

pub inked_append : (out : List ℕ) (p : Pen) (xs ys : List Lexeme) → inked_all out p (xs ++ ys) ≡ inked_all (inked_all out p xs) (penned_all p xs) ys
inked_append out p [] ys = refl
inked_append out p (x ∷ xs) ys = inked_append (inked out p x) (penned p x) xs ys

pub penned_append : (p : Pen) (xs ys : List Lexeme) → penned_all p (xs ++ ys) ≡ penned_all (penned_all p xs) ys
penned_append p [] ys = refl
penned_append p (x ∷ xs) ys = penned_append (penned p x) xs ys

ready_first : {size : ℕ} {p : Pen} {l : Lexeme} {ls : List Lexeme} → Ready size p (l ∷ ls) → Ready size (penned p l) ls
ready_first r = record { room = r.room.1; whole = r.whole.1 }

pub ready_split : {size : ℕ} {p : Pen} (xs ys : List Lexeme) → Ready size p (xs ++ ys) → Ready size p xs × Ready size (penned_all p xs) ys
ready_split [] ys r = (record { room = tt; whole = tt }, r)
ready_split {size = size} {p = p} (x ∷ xs) ys r =
    let m = ready_split {p = penned p x} xs ys (ready_first r) in
    (record { room = (r.room.0, m.0.room); whole = (r.whole.0, m.0.whole) }, m.1)

pub ready_resized : {size other : ℕ} {p : Pen} {ls : List Lexeme} → size ≡ other → Ready size p ls → Ready other p ls
ready_resized {p = p} {ls = ls} e r = subst (λ (k : ℕ). Ready k p ls) e r

-- what writing a lexeme gives
abbrev pub Emits : List ℕ → Pen → Lexeme → List ℕ → Pen → Type 0
Emits out p l now r = (now ≡ inked out p l) × (r ≡ penned p l)

-- One key

pub next_entry : (keys : List ℕ) (first count : ℕ) → first < length keys → take (suc count) (drop first keys) ≡ get_or keys first 0 ∷ take count (drop (first + 1) keys)
next_entry keys first count h =
    ap (take (suc count)) (drop-cons keys first 0 h) ∙ ap (λ (k : ℕ). get_or keys first 0 ∷ take count (drop k keys)) (sym (add-one first))

pub next_key : (keys material : List ℕ) (first count : ℕ) → first < length keys
    → multi_keys keys material (suc count) first ≡ push BYTES33 (data_at material (get_or keys first 0) 33) ∷ multi_keys keys material count (first + 1)
next_key keys material first count h = ap (λ (ps : List ℕ). keys_before (keys_at material ps) []) (next_entry keys first count h)

pub next_added : (keys material : List ℕ) (first count : ℕ) → first < length keys
    → added_keys keys material (suc count) first ≡ push BYTES32 (data_at material (get_or keys first 0) 32) ∷ op CHECKSIGADD ∷ added_keys keys material count (first + 1)
next_added keys material first count h = ap (λ (ps : List ℕ). added_keys_before (datas_at material ps) []) (next_entry keys first count h)

-- a push that can be written is so by `emit_push`
abbrev pub PushReady : ℕ → Pen → List ℕ → ℕ → ℕ → Type 0
PushReady size p material place bytes = (Room size p (push 0 (data_at material place bytes))) × (place + bytes ≤ length material) × (bytes ≤ 75)

push_ready : (size : ℕ) (p : Pen) (material : List ℕ) (code place bytes : ℕ) → bytes ≡ data_length code → 1 ≤ bytes → bytes ≤ 75
    → Room size p (push code (data_at material place bytes)) → length (take bytes (drop place material)) ≡ data_length code → PushReady size p material place bytes
push_ready size p material code place bytes e a b r w =
    (record { some_bytes = r.some_bytes; fits = r.fits; coded = tt }, whole_within material place bytes a (w ∙ sym e), b)

length_33 : 33 ≡ data_length BYTES33
unfolding data_length
length_33 = refl

length_32 : 32 ≡ data_length BYTES32
unfolding data_length
length_32 = refl

-- at another name of the place
pub push_as : {size : ℕ} {p : Pen} (material : List ℕ) (bytes x place : ℕ) → x ≡ place → PushReady size p material place bytes → PushReady size p material x bytes
push_as {size} {p} material bytes x place e r = subst (λ (k : ℕ). PushReady size p material k bytes) (sym e) r

-- The loops

-- what is left to write, over a list that the loop takes entry by entry
pub record Emitting (left : ℕ → ℕ → List Lexeme) (before now : List ℕ) (p₀ p : Pen) (first count i : ℕ) : Type 0 where
  pub within : i ≤ count
  pub same_out : inked_all before p₀ (left count first) ≡ inked_all now p (left (count - i) (first + i))
  pub same_pen : penned_all p₀ (left count first) ≡ penned_all p (left (count - i) (first + i))
  pub ready : Ready (length before) p (left (count - i) (first + i))
  pub kept : length now ≡ length before

module _ (left : ℕ → ℕ → List Lexeme) (before : List ℕ) (p₀ : Pen) (first count : ℕ) where
  pub keys_begun : Ready (length before) p₀ (left count first) → Emitting left before before p₀ p₀ first count 0
  keys_begun r =
      let a : count ≡ count - 0 = omega arith in
      let b : first ≡ first + 0 = omega arith in
      let e : left count first ≡ left (count - 0) (first + 0) = ap (λ (k : ℕ). left k first) a ∙ ap (left (count - 0)) b in
      record {
        within = omega arith;
        same_out = ap (inked_all before p₀) e;
        same_pen = ap (penned_all p₀) e;
        ready = subst (Ready (length before) p₀) e r;
        kept = refl;
      }

  module _ (now : List ℕ) (p : Pen) (i : ℕ) (c : Emitting left before now p₀ p first count i) where
    -- the next lexemes, and what is left behind them
    abbrev pub Turns : List Lexeme → Type 0
    Turns ls = left (count - i) (first + i) ≡ ls ++ left (count - (i + 1)) (first + (i + 1))

    pub keys_ready : (ls : List Lexeme) → Turns ls → Ready (length now) p ls
    keys_ready ls e = ready_resized (sym c.kept) (ready_split ls (left (count - (i + 1)) (first + (i + 1))) (subst (Ready (length before) p) e c.ready)).0

    pub keys_turned : (ls : List Lexeme) → Turns ls → i < count → (next : List ℕ) (q : Pen) → next ≡ inked_all now p ls → q ≡ penned_all p ls → length next ≡ length now
        → Emitting left before next p₀ q first count (i + 1)
    keys_turned ls e h next q f g k =
        let r = (ready_split ls (left (count - (i + 1)) (first + (i + 1))) (subst (Ready (length before) p) e c.ready)).1 in
        record {
          within = omega arith;
          same_out =
              c.same_out
              ∙ ap (inked_all now p) e
              ∙ inked_append now p ls (left (count - (i + 1)) (first + (i + 1)))
              ∙ ap (λ (x : Pen). inked_all (inked_all now p ls) x (left (count - (i + 1)) (first + (i + 1)))) (sym g)
              ∙ ap (λ (t : List ℕ). inked_all t q (left (count - (i + 1)) (first + (i + 1)))) (sym f);
          same_pen =
              c.same_pen
              ∙ ap (penned_all p) e
              ∙ penned_append p ls (left (count - (i + 1)) (first + (i + 1)))
              ∙ ap (λ (x : Pen). penned_all x (left (count - (i + 1)) (first + (i + 1)))) (sym g);
          ready = subst (λ (x : Pen). Ready (length before) x (left (count - (i + 1)) (first + (i + 1)))) (sym g) r;
          kept = k ∙ c.kept;
        }

    pub keys_ended : count ≤ i → left 0 (first + i) ≡ [] → (now ≡ inked_all before p₀ (left count first)) × (p ≡ penned_all p₀ (left count first))
    keys_ended h z =
        let w : i ≤ count = c.within in
        let d : count - i ≡ 0 = omega arith in
        let e : left (count - i) (first + i) ≡ [] = ap (λ (k : ℕ). left k (first + i)) d ∙ z in
        (sym (c.same_out ∙ ap (inked_all now p) e), sym (c.same_pen ∙ ap (penned_all p) e))

-- a turn of each loop
module _ (keys material : List ℕ) (first count i : ℕ) (h : i < count) (inside : first + count ≤ length keys) where
  abbrev pub key_at : ℕ
  key_at = get_or keys (first + i) 0

  again : count - i ≡ suc (count - (i + 1))
  again = omega arith

  further : first + i + 1 ≡ first + (i + 1)
  further = omega arith

  pub key_turn : multi_keys keys material (count - i) (first + i) ≡ (push BYTES33 (data_at material key_at 33) ∷ []) ++ multi_keys keys material (count - (i + 1)) (first + (i + 1))
  key_turn =
      ap (λ (k : ℕ). multi_keys keys material k (first + i)) again
      ∙ next_key keys material (first + i) (count - (i + 1)) (omega arith)
      ∙ ap (λ (k : ℕ). push BYTES33 (data_at material key_at 33) ∷ multi_keys keys material (count - (i + 1)) k) further

  pub added_turn : added_keys keys material (count - i) (first + i)
      ≡ (push BYTES32 (data_at material key_at 32) ∷ op CHECKSIGADD ∷ []) ++ added_keys keys material (count - (i + 1)) (first + (i + 1))
  added_turn =
      ap (λ (k : ℕ). added_keys keys material k (first + i)) again
      ∙ next_added keys material (first + i) (count - (i + 1)) (omega arith)
      ∙ ap (λ (k : ℕ). push BYTES32 (data_at material key_at 32) ∷ op CHECKSIGADD ∷ added_keys keys material (count - (i + 1)) k) further

pub at_0 : (keys : List ℕ) (i : ℕ) → get_or keys i 0 ≡ get_or keys (0 + i) 0
at_0 keys i = let e : i ≡ 0 + i = omega arith in ap (λ (k : ℕ). get_or keys k 0) e

-- what a call needs, from what is ready
module _ {size : ℕ} {p : Pen} (material : List ℕ) (x place : ℕ) (e : x ≡ place) (rest : List Lexeme) where
  pub key_ready : Ready size p (push BYTES33 (data_at material place 33) ∷ rest) → PushReady size p material x 33
  key_ready r = push_as material 33 x place e (push_ready size p material BYTES33 place 33 length_33 (omega arith) (omega arith) r.room.0 r.whole.0)

  pub short_key_ready : Ready size p (push BYTES32 (data_at material place 32) ∷ rest) → PushReady size p material x 32
  short_key_ready r = push_as material 32 x place e (push_ready size p material BYTES32 place 32 length_32 (omega arith) (omega arith) r.room.0 r.whole.0)

-- what a call gives, at the place's other name
pub push_emits : (out : List ℕ) (p : Pen) (material : List ℕ) (code bytes x place : ℕ) (now : List ℕ) (r : Pen) → x ≡ place
    → Emits out p (push 0 (data_at material x bytes)) now r → Emits out p (push code (data_at material place bytes)) now r
push_emits out p material code bytes x place now r e h = subst (λ (k : ℕ). Emits out p (push code (data_at material k bytes)) now r) e h

-- one lexeme behind another
pub two_emitted : (out : List ℕ) (p : Pen) (l m : Lexeme) (now : List ℕ) (q : Pen) (next : List ℕ) (r : Pen) → Emits out p l now q → Emits now q m next r
    → (next ≡ inked_all out p (l ∷ m ∷ [])) × (r ≡ penned_all p (l ∷ m ∷ []))
two_emitted out p l m now q next r a b =
    (b.0 ∙ ap (λ (x : Pen). inked now x m) a.1 ∙ ap (λ (t : List ℕ). inked t (penned p l) m) a.0, b.1 ∙ ap (λ (x : Pen). penned x m) a.1)

-- the pen where the lexemes before have left it
pub ready_at : {size other : ℕ} {q : Pen} {ls : List Lexeme} (p : Pen) → q ≡ p → size ≡ other → Ready size p ls → Ready other q ls
ready_at {size} {other} {q} {ls} p e f r = subst (λ (k : ℕ). Ready k q ls) f (subst (λ (x : Pen). Ready size x ls) (sym e) r)

pub second_ready : {size : ℕ} {p : Pen} {l m : Lexeme} {ls : List Lexeme} → Ready size p (l ∷ m ∷ ls) → Ready size (penned p l) (m ∷ ls)
second_ready r = ready_first r

pub room_of : {size : ℕ} {p : Pen} {l : Lexeme} {ls : List Lexeme} → Ready size p (l ∷ ls) → Room size p l
room_of r = r.room.0

-- A whole script, as the calls write it: one lexeme, several, two

abbrev pub EmitsAll : List ℕ → Pen → List Lexeme → List ℕ → Pen → Type 0
EmitsAll out p ls now r = (now ≡ inked_all out p ls) × (r ≡ penned_all p ls)

pub emits_then : (out : List ℕ) (p : Pen) (xs ys : List Lexeme) (now : List ℕ) (q : Pen) (next : List ℕ) (r : Pen) → EmitsAll out p xs now q → EmitsAll now q ys next r → EmitsAll out p (xs ++ ys) next r
emits_then out p xs ys now q next r a b = (
  b.0 ∙ ap (λ (x : Pen). inked_all now x ys) a.1 ∙ ap (λ (t : List ℕ). inked_all t (penned_all p xs) ys) a.0 ∙ sym (inked_append out p xs ys),
  b.1 ∙ ap (λ (x : Pen). penned_all x ys) a.1 ∙ sym (penned_append p xs ys),
)

-- the keys of a part of the key table are those that stand there in the table
module _ (keys material : List ℕ) (first count : ℕ) where
  abbrev part : List ℕ
  part = take (first + count - first) (drop first keys)

  part_whole : take (length part) (drop 0 part) ≡ take count (drop first keys)
  part_whole = take-length part ∙ ap (λ (k : ℕ). take k (drop first keys)) (add-sub_cancel_left first count)

  keys_part : multi_keys part material (length part) 0 ≡ multi_keys keys material count first
  keys_part = ap (λ (ps : List ℕ). keys_before (keys_at material ps) []) part_whole

  added_part : added_keys part material (length part) 0 ≡ added_keys keys material count first
  added_part = ap (λ (ps : List ℕ). added_keys_before (datas_at material ps) []) part_whole

  module _ {size : ℕ} {p : Pen} where
    pub keys_part_ready : Ready size p (multi_keys keys material count first) → Ready size p (multi_keys part material (length part) 0)
    keys_part_ready r = subst (Ready size p) (sym keys_part) r

    pub added_part_ready : Ready size p (added_keys keys material count first) → Ready size p (added_keys part material (length part) 0)
    added_part_ready r = subst (Ready size p) (sym added_part) r

  module _ (out now : List ℕ) (p r : Pen) where
    pub keys_part_emits : EmitsAll out p (multi_keys part material (length part) 0) now r → EmitsAll out p (multi_keys keys material count first) now r
    keys_part_emits h = subst (λ (ls : List Lexeme). EmitsAll out p ls now r) keys_part h

    pub added_part_emits : EmitsAll out p (added_keys part material (length part) 0) now r → EmitsAll out p (added_keys keys material count first) now r
    added_part_emits h = subst (λ (ls : List Lexeme). EmitsAll out p ls now r) added_part h

-- the keys behind the first lexemes, and the last two behind the keys
module _ {size : ℕ} {p : Pen} (xs keys : List Lexeme) (l m : Lexeme) (r : Ready size p (xs ++ (keys ++ (l ∷ m ∷ [])))) where
  pub middle_ready : {other : ℕ} {a : Pen} → a ≡ penned_all p xs → size ≡ other → Ready other a keys
  middle_ready e f = ready_at (penned_all p xs) e f (ready_split keys (l ∷ m ∷ []) (ready_split xs (keys ++ (l ∷ m ∷ [])) r).1).0

  pub last_ready : {other : ℕ} {a b : Pen} → a ≡ penned_all p xs → b ≡ penned_all a keys → size ≡ other → Ready other b (l ∷ m ∷ [])
  last_ready e g f = ready_at (penned_all (penned_all p xs) keys) (g ∙ ap (λ (x : Pen). penned_all x keys) e) f (ready_split keys (l ∷ m ∷ []) (ready_split xs (keys ++ (l ∷ m ∷ [])) r).1).1

pub number_as : {size : ℕ} {p : Pen} (x n : ℕ) → x ≡ n → Room size p (num n) → Room size p (num x)
number_as {size} {p} x n e r = subst (λ (k : ℕ). Room size p (num k)) (sym e) r

pub number_emits : (out : List ℕ) (p : Pen) (x n : ℕ) (now : List ℕ) (r : Pen) → x ≡ n → Emits out p (num x) now r → Emits out p (num n) now r
number_emits out p x n now r e h = subst (λ (k : ℕ). Emits out p (num k) now r) e h
