-- Bytes written one after the other: the loops that write a number's digits and a push's data, and what a number and a push are as bytes. Assumes nothing.
use mathlib.Core.Path.{◌≡◌, refl, sym, ap, ◌∙◌}
use mathlib.Core.Bool.{Bool, true, false}
use mathlib.Core.List.{List, [], ◌∷◌, ◌++◌, append_assoc}
use Prim.Native.Nat.{ℕ, zero, suc, ◌+◌, ◌-◌, ◌/◌, ◌%◌, ◌≤◌, ◌<◌}
use native.Mathlib.Omega.{arith}
use lib.Dec.{ltb}
use native.Mathlib.Nat.{add-sub_cancel_left}
use borrow.Rule.Slice.PartMut.{put_mid}
use Rattle.std.specs.Int.{to_le_bytes}
use Rattle.std.proofs.Common.{w32}
use lib.ListN.{length, set, get_or, take, drop, length-drop}
use Rattle.std.proofs.lemmas.List.{take_more}
use lib.Seq.{length-take-le, drop-drop}
use borrow.Author.Tests.{eq-eqb, ne_eqb, le-leb, lt-leb, ltb-true}
use Rattle.tables.specs.Choose.{pick}
use Rattle.tables.specs.Tables.{put_next, put_at}
use Rattle.tables.proofs.PutLaws.{put_more, put_parts}
use Rattle.spelling.specs.Spell.{push_bytes, digits, number_bytes}
use Rattle.emit.specs.Emission.{digit_count, low_bytes}

-- One number first, and then the others

next_on : (t : List ℕ) (i k : ℕ) (xs : List ℕ) → put_next t (i + 1) k xs ≡ put_next t i (suc k) xs
next_on t i k [] = refl
next_on t i k (x ∷ xs) =
    let e : i + 1 + k ≡ i + suc k = omega arith in
    ap (λ (j : ℕ). put_next (set t j x) (i + 1) (suc k) xs) e ∙ next_on (set t (i + suc k) x) i (suc k) xs

pub put_then : (t : List ℕ) (i x : ℕ) (xs : List ℕ) → put_at (set t i x) (i + 1) xs ≡ put_at t i (x ∷ xs)
put_then t i x [] = refl
put_then t i x (y ∷ ys) = next_on (set (set t i x) (i + 1) y) i 1 ys

-- bytes copied over a part of the output
pub put_as_part : (t : List ℕ) (at : ℕ) (xs ys : List ℕ) → ys ≡ xs → at + length xs ≤ length t → put_mid at (at + length xs - at) t ys ≡ put_at t at xs
put_as_part t at xs ys e h =
    ap (put_mid at (at + length xs - at) t) e
    ∙ ap (λ (k : ℕ). put_mid at k t xs) (add-sub_cancel_left at (length xs))
    ∙ ap (λ (l : List ℕ). take at t ++ (xs ++ l)) (drop-drop (length xs) at t)
    ∙ sym (append_assoc (take at t) xs (drop (at + length xs) t))
    ∙ sym (put_parts t at xs h)

-- one byte more: before turn i the first i are written
pub byte_more : (t : List ℕ) (at : ℕ) (bytes : List ℕ) {now : List ℕ} {i x : ℕ} → i < length bytes → now ≡ put_at t at (take i bytes) → x ≡ get_or bytes i 0
    → set now (at + i) x ≡ put_at t at (take (i + 1) bytes)
byte_more t at bytes {now} {i} h e v =
    let l : length (take i bytes) ≡ i = length-take-le i bytes (omega arith) in
    ap (set now (at + i)) v
    ∙ ap (λ (w : List ℕ). set w (at + i) (get_or bytes i 0)) e
    ∙ ap (λ (n : ℕ). set (put_at t at (take i bytes)) (at + n) (get_or bytes i 0)) (sym l)
    ∙ put_more t at (take i bytes) (get_or bytes i 0)
    ∙ ap (put_at t at) (sym (take_more bytes i 0 h))

-- The lowest bytes

pub low_length : (size n : ℕ) → length (low_bytes size n) ≡ size
low_length zero n = refl
low_length (suc size) n = ap suc (low_length size (n / 256))

-- the first of the four that the library makes
pub low_of_four : (size n : ℕ) → size ≤ 4 → take size (to_le_bytes w32 n) ≡ low_bytes size n
low_of_four zero n h = refl
low_of_four (suc zero) n h = refl
low_of_four (suc (suc zero)) n h = refl
low_of_four (suc (suc (suc zero))) n h = let e : n / 65536 % 256 ≡ n / 256 / 256 % 256 = omega arith in ap (λ (k : ℕ). n % 256 ∷ n / 256 % 256 ∷ k ∷ []) e
low_of_four (suc (suc (suc (suc zero)))) n h =
    let e : n / 65536 % 256 ≡ n / 256 / 256 % 256 = omega arith in
    let f : n / 16777216 % 256 ≡ n / 256 / 256 / 256 % 256 = omega arith in
    ap (λ (k : ℕ). n % 256 ∷ n / 256 % 256 ∷ k ∷ n / 16777216 % 256 ∷ []) e ∙ ap (λ (k : ℕ). n % 256 ∷ n / 256 % 256 ∷ n / 256 / 256 % 256 ∷ k ∷ []) f
low_of_four (suc (suc (suc (suc (suc size))))) n h = absurd (omega arith)

-- The data of a push

abbrev part : List ℕ → ℕ → ℕ → List ℕ
part material place size = take size (drop place material)

pub part_length : (material : List ℕ) (place size : ℕ) → place + size ≤ length material → length (part material place size) ≡ size
part_length material place size h = length-take-le size (drop place material) (omega (arith, length-drop place material))

-- A number

module _ (n : ℕ) where
  pub zero_bytes : n ≡ 0 → number_bytes n ≡ 0 ∷ []
  unfolding number_bytes
  zero_bytes h = simp (eq-eqb n 0 h)

  pub small_bytes : (n ≡ 0 → ⊥) → n ≤ 16 → number_bytes n ≡ (0x50 + n) ∷ []
  unfolding number_bytes
  small_bytes a b = simp (ne_eqb n 0 a, le-leb n 16 b)

  digits_low : n < 4294967296 → digits n ≡ low_bytes (digit_count n) n
  unfolding digits digit_count
  digits_low m = by (ltb n 0x80) refl (ltb n 0x8000) refl (ltb n 0x800000) refl
    where
      by : (a : Bool) → ltb n 0x80 ≡ a → (b : Bool) → ltb n 0x8000 ≡ b → (c : Bool) → ltb n 0x800000 ≡ c
          → pick a (n ∷ []) (pick b (n % 256 ∷ n / 256 ∷ []) (pick c (n % 256 ∷ n / 256 % 256 ∷ n / 65536 ∷ []) (n % 256 ∷ n / 256 % 256 ∷ n / 65536 % 256 ∷ n / 16777216 ∷ [])))
          ≡ low_bytes (pick a 1 (pick b 2 (pick c 3 4))) n
      by true a b h c g = let l : n < 0x80 = ltb-true n 0x80 a in let e : n ≡ n % 256 = omega arith in ap (λ (k : ℕ). k ∷ []) e
      by false a true b c g =
          let l : n < 0x8000 = ltb-true n 0x8000 b in
          let e : n / 256 ≡ n / 256 % 256 = omega arith in
          ap (λ (k : ℕ). n % 256 ∷ k ∷ []) e
      by false a false b true c =
          let l : n < 0x800000 = ltb-true n 0x800000 c in
          let e : n / 65536 ≡ n / 256 / 256 % 256 = omega arith in
          ap (λ (k : ℕ). n % 256 ∷ n / 256 % 256 ∷ k ∷ []) e
      by false a false b false c =
          let e : n / 65536 % 256 ≡ n / 256 / 256 % 256 = omega arith in
          let f : n / 16777216 ≡ n / 256 / 256 / 256 % 256 = omega arith in
          ap (λ (k : ℕ). n % 256 ∷ n / 256 % 256 ∷ k ∷ n / 16777216 ∷ []) e ∙ ap (λ (k : ℕ). n % 256 ∷ n / 256 % 256 ∷ n / 256 / 256 % 256 ∷ k ∷ []) f

  pub large_bytes : n < 4294967296 → 16 < n → number_bytes n ≡ digit_count n ∷ low_bytes (digit_count n) n
  unfolding number_bytes
  large_bytes m a =
      let z : n ≡ 0 → ⊥ = λ e. omega arith in
      let d : digits n ≡ low_bytes (digit_count n) n = digits_low m in
      let l : length (digits n) ≡ digit_count n = ap length d ∙ low_length (digit_count n) n in
      simp (ne_eqb n 0 z, lt-leb n 16 a) (ap (λ (k : ℕ). k ∷ digits n) l ∙ ap (λ (ds : List ℕ). digit_count n ∷ ds) d)

  pub few_digits : digit_count n ≤ 4
  unfolding digit_count
  few_digits = by (ltb n 0x80) (ltb n 0x8000) (ltb n 0x800000)
    where
      by : (a b c : Bool) → pick a 1 (pick b 2 (pick c 3 4)) ≤ 4
      by true b c = omega arith
      by false true c = omega arith
      by false false true = omega arith
      by false false false = omega arith

  -- what each way writes, and where it ends
  module _ (t : List ℕ) (at : ℕ) where
    pub wrote_zero : n ≡ 0 → (set t at 0 ≡ put_at t at (number_bytes n)) × (at + 1 ≡ at + length (number_bytes n))
    wrote_zero h = rw (zero_bytes h) (refl, refl)

    pub wrote_small : (n ≡ 0 → ⊥) → n ≤ 16 → (x : ℕ) → x ≡ 0x50 + n → (set t at x ≡ put_at t at (number_bytes n)) × (at + 1 ≡ at + length (number_bytes n))
    wrote_small a b x e = rw (small_bytes a b) (ap (λ (y : ℕ). set t at y) e, refl)

    pub wrote_large : n < 4294967296 → 16 < n → (size x : ℕ) → size ≡ digit_count n → x ≡ size → (now : List ℕ) → now ≡ put_at (set t at x) (at + 1) (low_bytes size n)
        → (now ≡ put_at t at (number_bytes n)) × (at + 1 + size ≡ at + length (number_bytes n))
    wrote_large m a size x e f now h =
        rw (large_bytes m a) (
          h ∙ put_then t at x (low_bytes size n) ∙ ap (λ (y : ℕ). put_at t at (y ∷ low_bytes size n)) (f ∙ e) ∙ ap (λ (k : ℕ). put_at t at (digit_count n ∷ low_bytes k n)) e,
          omega (arith, low_length (digit_count n) n),
        )

    -- room for the digits
    pub large_room : n < 4294967296 → 16 < n → (size : ℕ) → size ≡ digit_count n → (room : ℕ) → at + length (number_bytes n) ≤ room → at + 1 + size ≤ room
    large_room m a size e room h = omega (arith, ap length (large_bytes m a), low_length (digit_count n) n)

    pub zero_room : n ≡ 0 → (room : ℕ) → at + length (number_bytes n) ≤ room → at + 1 ≤ room
    zero_room h room g = omega (arith, ap length (zero_bytes h))

    pub small_room : (n ≡ 0 → ⊥) → n ≤ 16 → (room : ℕ) → at + length (number_bytes n) ≤ room → at + 1 ≤ room
    small_room a b room g = omega (arith, ap length (small_bytes a b))

-- A push

module _ (t material : List ℕ) (at place size : ℕ) (inside : place + size ≤ length material) where
  pub wrote_push : (x : ℕ) → x ≡ size → (now : List ℕ) → now ≡ put_at (set t at x) (at + 1) (part material place size) → now ≡ put_at t at (push_bytes (part material place size))
  wrote_push x e now h =
      h ∙ put_then t at x (part material place size) ∙ ap (λ (y : ℕ). put_at t at (y ∷ part material place size)) (e ∙ sym (part_length material place size inside))

  pub push_ends : at + 1 + size ≡ at + length (push_bytes (part material place size))
  push_ends = omega (arith, part_length material place size inside)
