-- Numbers written into a table: the length stays, the cells written hold them, the others are kept. Assumes nothing.
-- Why: writing a list is a run of stores (`sets`), and each store changes one cell.
use mathlib.Core.Path.{◌≡◌, refl, sym, ap, ◌∙◌}
use mathlib.Core.List.{List, [], ◌∷◌, ◌++◌, append-nil}
use mathlib.Core.Logic.{◌≢◌, ◌⊎◌, inl, inr}
use Prim.Native.Nat.{ℕ, zero, suc, ◌+◌, ◌≤◌, ◌<◌}
use native.Mathlib.Nat.{add-suc, add-zero}
use native.Mathlib.Numerals.{add-one}
use native.Mathlib.Omega.{arith}
use lib.ListN.{length, get_or, set, take, drop, length-append, drop_of_length-le, get_or-append}
use lib.Seq.{sets, length-sets, sets-eq, get_or-set_other, get_or-append-add, length-take-le}
use Rattle.tables.specs.Tables.{zeros, put_next, put_at}

-- the run of stores that writing is
next_sets : (t : List ℕ) (i k : ℕ) (xs : List ℕ) → put_next t i k xs ≡ sets t (i + k) xs
next_sets t i k [] = refl
next_sets t i k (x ∷ xs) = next_sets (set t (i + k) x) i (suc k) xs ∙ ap (λ (j : ℕ). sets (set t (i + k) x) j xs) (add-suc i k)

put_sets : (t : List ℕ) (i : ℕ) (xs : List ℕ) → put_at t i xs ≡ sets t i xs
put_sets t i [] = refl
put_sets t i (x ∷ xs) = next_sets (set t i x) i 1 xs ∙ ap (λ (j : ℕ). sets (set t i x) j xs) (add-one i)

-- the table keeps its length
pub put_length : (t : List ℕ) (i : ℕ) (xs : List ℕ) → length (put_at t i xs) ≡ length t
put_length t i xs = ap length (put_sets t i xs) ∙ length-sets t i xs

-- what stood before i, the numbers written, what stood after them
pub put_parts : (t : List ℕ) (i : ℕ) (xs : List ℕ) → i + length xs ≤ length t → put_at t i xs ≡ take i t ++ xs ++ drop (i + length xs) t
put_parts t i xs h = put_sets t i xs ∙ sets-eq xs t i h

-- a cell that is written holds its number
pub put_inside : (t : List ℕ) (i j : ℕ) (xs : List ℕ) → i + length xs ≤ length t → j < length xs → get_or (put_at t i xs) (i + j) 0 ≡ get_or xs j 0
put_inside t i j xs h b =
    let e : length (take i t) ≡ i = length-take-le i t (omega arith) in
    let f : i + j ≡ length (take i t) + j = omega arith in
    ap (λ (l : List ℕ). get_or l (i + j) 0) (put_parts t i xs h)
    ∙ get_or-append (take i t ++ xs) (drop (i + length xs) t) 0 (i + j) (omega (arith, length-append (take i t) xs))
    ∙ ap (λ (k : ℕ). get_or (take i t ++ xs) k 0) f
    ∙ get_or-append-add (take i t) xs j 0

sets_outside : (t : List ℕ) (i j : ℕ) (xs : List ℕ) → (j < i) ⊎ (i + length xs ≤ j) → get_or (sets t i xs) j 0 ≡ get_or t j 0
sets_outside t i j [] h = refl
sets_outside t i j (x ∷ xs) (inl h) =
    let o : j ≢ i = λ p. omega arith in
    sets_outside (set t i x) (suc i) j xs (inl (omega arith)) ∙ get_or-set_other t i j x 0 o
sets_outside t i j (x ∷ xs) (inr h) =
    let o : j ≢ i = λ p. omega arith in
    sets_outside (set t i x) (suc i) j xs (inr (omega arith)) ∙ get_or-set_other t i j x 0 o

-- a cell before the numbers written, or behind them, is kept
pub put_before : (t : List ℕ) (i j : ℕ) (xs : List ℕ) → j < i → get_or (put_at t i xs) j 0 ≡ get_or t j 0
put_before t i j xs h = ap (λ (l : List ℕ). get_or l j 0) (put_sets t i xs) ∙ sets_outside t i j xs (inl h)

pub put_behind : (t : List ℕ) (i j : ℕ) (xs : List ℕ) → i + length xs ≤ j → get_or (put_at t i xs) j 0 ≡ get_or t j 0
put_behind t i j xs h = ap (λ (l : List ℕ). get_or l j 0) (put_sets t i xs) ∙ sets_outside t i j xs (inr h)

sets_more : (t : List ℕ) (i : ℕ) (xs : List ℕ) (x : ℕ) → set (sets t i xs) (i + length xs) x ≡ sets t i (xs ++ (x ∷ []))
sets_more t i [] x = ap (λ (j : ℕ). set t j x) (add-zero i)
sets_more t i (y ∷ ys) x =
    let e : i + suc (length ys) ≡ suc i + length ys = omega arith in
    ap (λ (j : ℕ). set (sets (set t i y) (suc i) ys) j x) e ∙ sets_more (set t i y) (suc i) ys x

-- one number more behind those written
pub put_more : (t : List ℕ) (i : ℕ) (xs : List ℕ) (x : ℕ) → set (put_at t i xs) (i + length xs) x ≡ put_at t i (xs ++ (x ∷ []))
put_more t i xs x = ap (λ (l : List ℕ). set l (i + length xs) x) (put_sets t i xs) ∙ sets_more t i xs x ∙ sym (put_sets t i (xs ++ (x ∷ [])))

-- every cell of a table of zeros, and past its end, reads 0
pub zeros_cell : (n i : ℕ) → get_or (zeros n) i 0 ≡ 0
zeros_cell zero i = refl
zeros_cell (suc n) zero = refl
zeros_cell (suc n) (suc i) = zeros_cell n i

-- zeros from the front, as far as the table goes
pub all_cleared : (i : ℕ) (t : List ℕ) → length t ≤ i → i ≤ length t → zeros i ++ drop i t ≡ zeros (length t)
all_cleared i t p q =
    let e : i ≡ length t = omega arith in
    ap (λ (l : List ℕ). zeros i ++ l) (drop_of_length-le t p) ∙ append-nil (zeros i) ∙ ap zeros e
