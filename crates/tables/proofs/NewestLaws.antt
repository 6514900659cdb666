-- Entries read off a table by index, the newest first: what a push, a pop and a table that changed elsewhere make of the list, and the list of a table that holds given entries in order. Assumes nothing.
-- Why: the list of the first n entries depends on their readings alone, so what lies at or above n never matters.
use mathlib.Core.Path.{◌≡◌, refl, sym, ap, ◌∙◌}
use mathlib.Core.List.{List, [], ◌∷◌, reverse, reverse_aux}
use Prim.Native.Nat.{ℕ, zero, suc, ◌+◌, ◌-◌, ◌≤◌, ◌<◌}
use native.Mathlib.Nat.{add-zero, zero-add}
use native.Mathlib.Numerals.{add-one}
use native.Mathlib.Omega.{arith}
use lib.ListN.{length, get_or, drop}
use Rattle.tables.specs.Tables.{newest}

module _ {A : Type 0} where
  pub newest_length : (read : ℕ → A) (n : ℕ) → length (newest read n) ≡ n
  newest_length read zero = refl
  newest_length read (suc n) = ap suc (newest_length read n)

  -- the same list, if the readings agree below n
  pub newest_same : (read other : ℕ → A) (n : ℕ) → ((i : ℕ) → i < n → other i ≡ read i) → newest other n ≡ newest read n
  newest_same read other zero e = refl
  newest_same read other (suc n) e =
      ap (λ (a : A). a ∷ newest other n) (e n (omega arith)) ∙ ap (λ (l : List A). read n ∷ l) (newest_same read other n (λ i h. e i (omega arith)))

  -- one entry more on the front, if the entries below are kept
  pub newest_push : (read other : ℕ → A) (n : ℕ) (a : A) → ((i : ℕ) → i < n → other i ≡ read i) → other n ≡ a → newest other (n + 1) ≡ a ∷ newest read n
  newest_push read other n a e p =
      ap (newest other) (add-one n) ∙ ap (λ (x : A). x ∷ newest other n) p ∙ ap (λ (l : List A). a ∷ l) (newest_same read other n e)

  -- entries more on the front, the last one first, if the entries below are kept
  pub newest_grown : (read other : ℕ → A) (n : ℕ) (entries : List A) (default : A) → ((i : ℕ) → i < n → other i ≡ read i)
      → ((j : ℕ) → j < length entries → other (n + j) ≡ get_or entries j default) → newest other (n + length entries) ≡ reverse_aux entries (newest read n)
  newest_grown read other n [] default e p = ap (newest other) (add-zero n) ∙ newest_same read other n e
  newest_grown read other n (a ∷ entries) default e p =
      let k : n + suc (length entries) ≡ n + 1 + length entries = omega arith in
      let next : (j : ℕ) → n + 1 + j ≡ n + suc j = λ j. omega arith in
      ap (newest other) k
      ∙ newest_grown other other (n + 1) entries default (λ i h. refl) (λ j h. ap other (next j) ∙ p (suc j) (omega arith))
      ∙ ap (reverse_aux entries) (newest_push read other n a e (ap other (sym (add-zero n)) ∙ p 0 (omega arith)))

  -- every entry of a table that holds these in order
  pub newest_all : (read : ℕ → A) (entries : List A) (default : A) → ((j : ℕ) → j < length entries → read j ≡ get_or entries j default) → newest read (length entries) ≡ reverse entries
  newest_all read entries default e =
      ap (newest read) (sym (zero-add (length entries)))
      ∙ newest_grown read read 0 entries default (λ i h. refl) (λ j h. ap read (zero-add j) ∙ e j h)

  -- all entries of a list, the newest first, are the list reversed
  pub newest_reverse : (l : List A) (default : A) → newest (λ i. get_or l i default) (length l) ≡ reverse l
  newest_reverse l default = newest_all (λ i. get_or l i default) l default (λ j h. refl)

  -- the newest entry, and the others
  pub newest_pop : (read : ℕ → A) (n : ℕ) → 1 ≤ n → newest read n ≡ read (n - 1) ∷ newest read (n - 1)
  newest_pop read n h = let e : n ≡ suc (n - 1) = omega arith in ap (newest read) e

  -- without the newest k entries, the older ones are left
  pub newest_drop : (read : ℕ → A) (n k : ℕ) → drop k (newest read n) ≡ newest read (n - k)
  newest_drop read n zero = let e : n ≡ n - 0 = omega arith in ap (newest read) e
  newest_drop read zero (suc k) = let e : 0 ≡ 0 - suc k = omega arith in ap (newest read) e
  newest_drop read (suc n) (suc k) = let e : n - k ≡ suc n - suc k = omega arith in newest_drop read n k ∙ ap (newest read) e

  -- entry k of the list is the reading at n - 1 - k
  pub newest_at : (read : ℕ → A) (n k : ℕ) (default : A) → k < n → get_or (newest read n) k default ≡ read (n - 1 - k)
  newest_at read zero k default h = absurd (omega arith)
  newest_at read (suc n) zero default h = let e : n ≡ suc n - 1 - 0 = omega arith in ap read e
  newest_at read (suc n) (suc k) default h = let e : n - 1 - k ≡ suc n - 1 - suc k = omega arith in newest_at read n k default (omega arith) ∙ ap read e
