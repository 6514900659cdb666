-- Writing text after text, and a digit in front of digits. Assumes nothing.
-- Why: where a text fits, writing it is a run of stores (`sets`), so one text after another is both in one.
use mathlib.Core.Path.{◌≡◌, refl, sym, ap, ◌∙◌}
use mathlib.Core.List.{List, [], ◌∷◌, ◌++◌, append_assoc, append-nil}
use Prim.Native.Nat.{ℕ, zero, suc, ◌+◌, ◌-◌, ◌/◌, ◌%◌, ◌≤◌, ◌<◌}
use native.Mathlib.Nat.{add-zero}
use native.Mathlib.Omega.{arith}
use lib.ListN.{length, set, take, drop, length-append, length-set, take-append-drop}
use lib.Seq.{sets, sets-eq, length-sets, take-set-le, drop-set-add, drop-cons, append_snoc}
use Rattle.listing.specs.Digits.{glyph, digits}
use Rattle.listing.specs.Output.{write}

-- a number has as many digits as it is given
pub digits_length : (width n : ℕ) → length (digits width n) ≡ width
digits_length zero n = refl
digits_length (suc width) n =
    length-append (digits width (n / 16)) (glyph (n % 16) ∷ []) ∙ omega (arith, digits_length width (n / 16))

pub word_length : (width n after : ℕ) → length (digits width n ++ (after ∷ [])) ≡ width + 1
word_length width n after = length-append (digits width n) (after ∷ []) ∙ ap (λ (k : ℕ). k + 1) (digits_length width n)

write_sets : (out : List ℕ) (at : ℕ) (text : List ℕ) → at + length text ≤ length out → write out at text ≡ sets out at text
unfolding write
write_sets out at text h = sym (sets-eq text out at h)

pub write_length : (out : List ℕ) (at : ℕ) (text : List ℕ) → at + length text ≤ length out → length (write out at text) ≡ length out
write_length out at text h = ap length (write_sets out at text h) ∙ length-sets out at text

pub write_nothing : (out : List ℕ) (at : ℕ) → write out at [] ≡ out
unfolding write
write_nothing out at =
    ap (λ (front : List ℕ). front ++ drop (at + 0) out) (append-nil (take at out))
    ∙ ap (λ (k : ℕ). take at out ++ drop k out) (add-zero at)
    ∙ take-append-drop at out

sets_append : (xs ys out : List ℕ) (i : ℕ) → sets (sets out i xs) (i + length xs) ys ≡ sets out i (xs ++ ys)
sets_append [] ys out i = ap (λ (k : ℕ). sets out k ys) (add-zero i)
sets_append (x ∷ xs) ys out i =
    let e : i + suc (length xs) ≡ suc i + length xs = omega arith in
    ap (λ (k : ℕ). sets (sets (set out i x) (suc i) xs) k ys) e ∙ sets_append xs ys (set out i x) (suc i)

-- one text after another
pub write_append : (out : List ℕ) (at : ℕ) (xs ys : List ℕ) → at + length xs + length ys ≤ length out
    → write (write out at xs) (at + length xs) ys ≡ write out at (xs ++ ys)
write_append out at xs ys h =
    let fits : at + length xs ≤ length out = omega arith in
    let l : length (write out at xs) ≡ length out = write_length out at xs fits in
    write_sets (write out at xs) (at + length xs) ys (omega arith)
    ∙ ap (λ (o : List ℕ). sets o (at + length xs) ys) (write_sets out at xs fits)
    ∙ sets_append xs ys out at
    ∙ sym (write_sets out at (xs ++ ys) (omega (arith, length-append xs ys)))

-- a byte stored where a text will end, and then the text: the text with that byte behind it
pub write_behind : (out : List ℕ) (at : ℕ) (xs : List ℕ) (x : ℕ) → at + length xs < length out
    → write (set out (at + length xs) x) at xs ≡ write out at (xs ++ (x ∷ []))
unfolding write
write_behind out at xs x h =
    let k : ℕ = at + length xs in
    let e : at + length (xs ++ (x ∷ [])) ≡ suc k = omega (arith, length-append xs (x ∷ [])) in
    ap (λ (front : List ℕ). front ++ xs ++ drop k (set out k x)) (take-set-le at out k x (omega arith))
    ∙ ap (λ (back : List ℕ). take at out ++ xs ++ back)
    (ap (λ (j : ℕ). drop k (set out j x)) (sym (add-zero k)) ∙ drop-set-add k out 0 x ∙ ap (λ (back : List ℕ). set back 0 x) (drop-cons out k 0 h))
    ∙ sym (append_snoc (take at out ++ xs) x (drop (suc k) out))
    ∙ ap (λ (front : List ℕ). front ++ drop (suc k) out) (append_assoc (take at out) xs (x ∷ []))
    ∙ ap (λ (j : ℕ). take at out ++ (xs ++ (x ∷ [])) ++ drop j out) (sym e)

-- the loop that writes digits, the last first: what is left to write comes to the whole number
pub record Writing (before : List ℕ) (at width n : ℕ) (out : List ℕ) (rest left : ℕ) : Type 0 where
  pub within : left ≤ width
  pub kept : length out ≡ length before
  pub same : write out at (digits left rest) ≡ write before at (digits width n)

pub digit_put : (before : List ℕ) (at width n : ℕ) (out : List ℕ) (rest left : ℕ) → at + width ≤ length before → Writing before at width n out rest left → 0 < left
    → {d : ℕ} → d ≡ glyph (rest % 16) → Writing before at width n (set out (at + (left - 1)) d) (rest / 16) (left - 1)
digit_put before at width n out rest left room w h {d} e =
    let kept : length out ≡ length before = w.kept in
    let within : left ≤ width = w.within in
    let fewer : List ℕ = digits (left - 1) (rest / 16) in
    let l : length fewer ≡ left - 1 = digits_length (left - 1) (rest / 16) in
    let s : suc (left - 1) ≡ left = omega arith in
    record {
      within = omega arith;
      kept = length-set out (at + (left - 1)) d ∙ kept;
      same =
          ap (λ (k : ℕ). write (set out (at + k) d) at fewer) (sym l)
          ∙ write_behind out at fewer d (omega arith)
          ∙ ap (λ (g : ℕ). write out at (fewer ++ (g ∷ []))) e
          ∙ ap (λ (k : ℕ). write out at (digits k rest)) s
          ∙ w.same;
    }

pub digits_put : (before : List ℕ) (at width n : ℕ) (out : List ℕ) (rest left : ℕ) → Writing before at width n out rest left → left ≤ 0
    → out ≡ write before at (digits width n)
digits_put before at width n out rest left w h =
    let z : left ≡ 0 = omega arith in
    sym (write_nothing out at) ∙ ap (λ (k : ℕ). write out at (digits k rest)) (sym z) ∙ w.same

-- digits, and one byte stored behind them
pub word_put : (before : List ℕ) (at width n after : ℕ) {out : List ℕ} {end : ℕ} → at + width + 1 ≤ length before → end ≡ at + width → out ≡ write before at (digits width n)
    → set out end after ≡ write before at (digits width n ++ (after ∷ []))
word_put before at width n after {out} {end} room e o =
    let word : List ℕ = digits width n in
    let l : length word ≡ width = digits_length width n in
    let k : end ≡ at + length word = omega arith in
    ap (λ (i : ℕ). set out i after) k
    ∙ ap (λ (t : List ℕ). set t (at + length word) after) o
    ∙ sym (write_sets (write before at word) (at + length word) (after ∷ []) (omega (arith, write_length before at word (omega arith))))
    ∙ write_append before at word (after ∷ []) (omega arith)
