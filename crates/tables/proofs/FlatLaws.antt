-- Tables that are only appended to: entries of one width at the front, zeros behind. Each law is stated once, over the width w. Assumes nothing.
-- Why: an entry more is written where the zeros begin, and takes the place of w of them.
use mathlib.Core.Path.{◌≡◌, refl, sym, ap, ◌∙◌}
use mathlib.Core.List.{List, [], ◌∷◌, ◌++◌, append_assoc, append-nil, map}
use Prim.Native.Nat.{ℕ, zero, suc, ◌+◌, ◌-◌, ◌*◌, ◌≤◌, ◌<◌}
use native.Mathlib.Nat.{mul-zero, mul-suc, mul-add, mul-one}
use native.Mathlib.Omega.{arith}
use lib.ListN.{length, get_or, drop, length-append, length-replicate, get_or-append}
use lib.Seq.{take-append_seam, drop-append-add, get_or-append-add}
use Rattle.tables.specs.Tables.{zeros, flat, Strided, put_at}
use Rattle.tables.proofs.PutLaws.{put_parts}

-- entries made by one function, each with w numbers
pub strided_map : {A : Type 0} (w : ℕ) (numbers : A → List ℕ) → ((a : A) → length (numbers a) ≡ w) → (entries : List A) → Strided w (map numbers entries)
strided_map w numbers e [] = tt
strided_map w numbers e (a ∷ entries) = (e a, strided_map w numbers e entries)

pub strided_append : (w : ℕ) (es fs : List (List ℕ)) → Strided w es → Strided w fs → Strided w (es ++ fs)
strided_append w [] fs p q = q
strided_append w (e ∷ es) fs p q = (p.0, strided_append w es fs p.1 q)

-- so many entries have so many times w numbers
pub flat_length : (w : ℕ) (es : List (List ℕ)) → Strided w es → length (flat es) ≡ w * length es
flat_length w [] s = sym (mul-zero w)
flat_length w (e ∷ es) s =
    let a : length e ≡ w = s.0 in
    let b : length (flat es) ≡ w * length es = flat_length w es s.1 in
    length-append e (flat es) ∙ omega (arith, mul-suc w (length es))

pub flat_append : (es fs : List (List ℕ)) → flat (es ++ fs) ≡ flat es ++ flat fs
flat_append [] fs = refl
flat_append (e ∷ es) fs = ap (λ (l : List ℕ). e ++ l) (flat_append es fs) ∙ sym (append_assoc e (flat es) (flat fs))

flat_one : (es : List (List ℕ)) (e : List ℕ) → flat (es ++ (e ∷ [])) ≡ flat es ++ e
flat_one es e = flat_append es (e ∷ []) ∙ ap (λ (l : List ℕ). flat es ++ l) (append-nil e)

-- zeros without the first k are fewer zeros
zeros_drop : (n k : ℕ) → drop k (zeros n) ≡ zeros (n - k)
zeros_drop n zero = let e : n ≡ n - 0 = omega arith in ap zeros e
zeros_drop zero (suc k) = let e : 0 ≡ 0 - suc k = omega arith in ap zeros e
zeros_drop (suc n) (suc k) = let e : n - k ≡ suc n - suc k = omega arith in zeros_drop n k ∙ ap zeros e

-- the table's length is its size, if its entries fit
pub table_length : (w size : ℕ) (es : List (List ℕ)) → Strided w es → w * length es ≤ size → length (flat es ++ zeros (size - w * length es)) ≡ size
table_length w size es s h =
    length-append (flat es) (zeros (size - w * length es)) ∙ omega (arith, flat_length w es s, length-replicate {A = ℕ} (size - w * length es) 0)

-- numbers written where the zeros begin take the place of as many of them
pub append_numbers : (front xs : List ℕ) (rest : ℕ) → length xs ≤ rest → put_at (front ++ zeros rest) (length front) xs ≡ front ++ xs ++ zeros (rest - length xs)
append_numbers front xs rest h =
    put_parts (front ++ zeros rest) (length front) xs (omega (arith, length-append front (zeros rest), length-replicate {A = ℕ} rest 0))
    ∙ ap (λ (l : List ℕ). l ++ xs ++ drop (length front + length xs) (front ++ zeros rest)) (take-append_seam front (zeros rest))
    ∙ ap (λ (l : List ℕ). front ++ xs ++ l) (drop-append-add front (zeros rest) (length xs) ∙ zeros_drop rest (length xs))

-- one entry more
pub append_entry : (w size n : ℕ) (es : List (List ℕ)) (e : List ℕ) → Strided w es → length e ≡ w → length es ≡ n → w * (n + 1) ≤ size
    → put_at (flat es ++ zeros (size - w * n)) (w * n) e ≡ flat (es ++ (e ∷ [])) ++ zeros (size - w * (n + 1))
append_entry w size n es e s l c h =
    let m : w * (n + 1) ≡ w * n + w = mul-add w n 1 ∙ ap (λ (k : ℕ). w * n + k) (mul-one w) in
    let f : length (flat es) ≡ w * n = flat_length w es s ∙ ap (λ (k : ℕ). w * k) c in
    let z : size - w * n - length e ≡ size - w * (n + 1) = omega arith in
    ap (λ (i : ℕ). put_at (flat es ++ zeros (size - w * n)) i e) (sym f)
    ∙ append_numbers (flat es) e (size - w * n) (omega arith)
    ∙ ap (λ (k : ℕ). flat es ++ e ++ zeros k) z
    ∙ ap (λ (front : List ℕ). front ++ zeros (size - w * (n + 1))) (sym (flat_one es e))

-- number j of entry i stands in cell w * i + j, whatever follows the entries
pub entry_cell : (w i j : ℕ) (es : List (List ℕ)) (rest : List ℕ) → Strided w es → i < length es → j < w
    → get_or (flat es ++ rest) (w * i + j) 0 ≡ get_or (get_or es i []) j 0
entry_cell w i j [] rest s h b = absurd (omega arith)
entry_cell w zero j (e ∷ es) rest s h b =
    let l : length e ≡ w = s.0 in
    let k : w * 0 + j ≡ j = omega (arith, mul-zero w) in
    ap (λ (m : ℕ). get_or (e ++ flat es ++ rest) m 0) k
    ∙ get_or-append (e ++ flat es) rest 0 j (omega (arith, length-append e (flat es)))
    ∙ get_or-append e (flat es) 0 j (omega arith)
entry_cell w (suc i) j (e ∷ es) rest s h b =
    let l : length e ≡ w = s.0 in
    let k : w * suc i + j ≡ length e + (w * i + j) = omega (arith, mul-suc w i) in
    ap (λ (m : ℕ). get_or (e ++ flat es ++ rest) m 0) k
    ∙ ap (λ (t : List ℕ). get_or t (length e + (w * i + j)) 0) (append_assoc e (flat es) rest)
    ∙ get_or-append-add e (flat es ++ rest) (w * i + j) 0
    ∙ entry_cell w i j es rest s.1 (omega arith) b
