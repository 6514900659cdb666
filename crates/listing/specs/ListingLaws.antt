-- Theorems of the listing: digits that fit their width say the number, the listing is its lines one after the other, a refusal is its header alone, and one outcome meets a contract. Assumes nothing.
-- Why the digits say the number: the last is what division by 16 leaves, and the others are those of the quotient, which fits one digit less.
use Rattle.std.specs.Prelude.{◌≡◌, refl, Bool, true, false, List, [], ◌∷◌, ◌++◌, ℕ, zero, suc, ◌+◌, ◌-◌, ◌*◌, ◌/◌, ◌%◌, ◌^◌, ◌≤◌, ◌<◌, eqb, leb, ltb, length, take, drop, Option, Some, None, is_some, unwrap_or}
use Rattle.std.proofs.Common.{sym, ap, subst, ◌∙◌, append_assoc, append-nil, pow-suc, mod-lt, div-lt_iff_lt-mul, arith, length-append, take_at, length-take-le, lt-ltb, le-ltb, ltb-true, ltb-false, le-leb, leb-true, ne_eqb}
use mathlib.Core.Bool.{true≢false}
use Rattle.std.proofs.Math.Nat.{div-add-mod}
use Rattle.std.proofs.lemmas.Bool.{lt-leb}
use Rattle.tables.specs.Choose.{pick}
use Rattle.listing.specs.declared.Header.{Header}
use Rattle.listing.specs.Digits.{glyph, digits}
use Rattle.listing.specs.Lines.{header_line, type_word, node_line, key_line}
use Rattle.listing.specs.Listing.{lines_from, listing, line_at}
use Rattle.listing.specs.Output.{write, Put, put, puts}

-- what a digit stands for, and digits after a number that was read before them
abbrev pub glyph_value : ℕ → ℕ
glyph_value g = pick (ltb g 58) (g - 48) (g - 87)

abbrev pub value_from : ℕ → List ℕ → ℕ
value_from before [] = before
value_from before (g ∷ glyphs) = value_from (16 * before + glyph_value g) glyphs

glyph_says : (d : ℕ) → d < 16 → glyph_value (glyph d) ≡ d
glyph_says d h = here (ltb d 10) refl
  where
    here : (t : Bool) → ltb d 10 ≡ t → glyph_value (pick t (48 + d) (87 + d)) ≡ d
    here true e = simp (lt-ltb (48 + d) 58 (omega (arith, ltb-true d 10 e))) (omega arith)
    here false e = simp (le-ltb (87 + d) 58 (omega (arith, ltb-false d 10 e))) (omega arith)

last_digit : (before : ℕ) (glyphs : List ℕ) (g : ℕ) → value_from before (glyphs ++ (g ∷ [])) ≡ 16 * value_from before glyphs + glyph_value g
last_digit before [] g = refl
last_digit before (x ∷ glyphs) g = last_digit (16 * before + glyph_value x) glyphs g

-- THEOREM, over the width: the digits of a number that fits them say the number
pub digits_say_the_number : (width n : ℕ) → n < 16 ^ width → value_from 0 (digits width n) ≡ n
digits_say_the_number zero n h = omega (arith, h)
digits_say_the_number (suc width) n h =
    let fits : n / 16 < 16 ^ width = (div-lt_iff_lt-mul {k = 16} (omega arith)).1 (subst (λ (k : ℕ). n < k) (pow-suc 16 width) h) in
    last_digit 0 (digits width (n / 16)) (glyph (n % 16))
    ∙ ap (λ (k : ℕ). 16 * k + glyph_value (glyph (n % 16))) (digits_say_the_number width (n / 16) fits)
    ∙ ap (λ (k : ℕ). 16 * (n / 16) + k) (glyph_says (n % 16) (mod-lt n (omega arith)))
    ∙ div-add-mod n 16

-- so two numbers that fit are told apart
pub digits_distinct : (width m n : ℕ) → m < 16 ^ width → n < 16 ^ width → digits width m ≡ digits width n → m ≡ n
digits_distinct width m n p q e = sym (digits_say_the_number width m p) ∙ ap (value_from 0) e ∙ digits_say_the_number width n q

-- a run of lines depends on these lines alone
lines_same : (f g : ℕ → List ℕ) (i j n : ℕ) → ((k : ℕ) → k < n → f (i + k) ≡ g (j + k)) → lines_from f i n ≡ lines_from g j n
lines_same f g i j zero e = refl
lines_same f g i j (suc n) e =
    let a : i + 0 ≡ i = omega arith in
    let b : j + 0 ≡ j = omega arith in
    let first : f i ≡ g j = ap f (sym a) ∙ e 0 (omega arith) ∙ ap g b in
    let rest : lines_from f (suc i) n ≡ lines_from g (suc j) n =
    lines_same f g (suc i) (suc j) n
    (λ k h.
    let c : suc i + k ≡ i + suc k = omega arith in
    let d : j + suc k ≡ suc j + k = omega arith in
    ap f c ∙ e (suc k) (omega arith) ∙ ap g d) in
    ap (λ (l : List ℕ). l ++ lines_from f (suc i) n) first ∙ ap (λ (l : List ℕ). g j ++ l) rest

lines_more : (f : ℕ → List ℕ) (i m n : ℕ) → lines_from f i (m + n) ≡ lines_from f i m ++ lines_from f (i + m) n
lines_more f i zero n =
    let a : 0 + n ≡ n = omega arith in
    let b : i ≡ i + 0 = omega arith in
    ap (lines_from f i) a ∙ ap (λ (j : ℕ). lines_from f j n) b
lines_more f i (suc m) n =
    let a : suc m + n ≡ suc (m + n) = omega arith in
    let b : suc i + m ≡ i + suc m = omega arith in
    ap (lines_from f i) a
    ∙ ap (λ (l : List ℕ). f i ++ l) (lines_more f (suc i) m n)
    ∙ ap (λ (j : ℕ). f i ++ (lines_from f (suc i) m ++ lines_from f j n)) b
    ∙ sym (append_assoc (f i) (lines_from f (suc i) m) (lines_from f (i + suc m) n))

-- THEOREM: a listing is its lines 0, 1 and so on, one after the other
pub listing_is_its_lines : (h : Header) (nodes keys : List ℕ) → lines_from (line_at h nodes keys) 0 (suc (h.nodes + h.keys)) ≡ listing h nodes keys
unfolding line_at
listing_is_its_lines h nodes keys =
    ap (λ (l : List ℕ). header_line h ++ l)
    (lines_more (line_at h nodes keys) 1 h.nodes h.keys
    ∙ ap (λ (l : List ℕ). l ++ lines_from (line_at h nodes keys) (1 + h.nodes) h.keys)
    (lines_same (line_at h nodes keys) (node_line nodes) 1 0 h.nodes
    (λ k l.
    let a : 1 + k - 1 ≡ 0 + k = omega arith in
    simp (ne_eqb (1 + k) 0 (λ z. omega arith), le-leb (1 + k) h.nodes (omega arith)) (ap (node_line nodes) a)))
    ∙ ap (λ (l : List ℕ). lines_from (node_line nodes) 0 h.nodes ++ l)
    (lines_same (line_at h nodes keys) (key_line keys) (1 + h.nodes) 0 h.keys
    (λ k l.
    let a : 1 + h.nodes + k - 1 - h.nodes ≡ 0 + k = omega arith in
    simp (ne_eqb (1 + h.nodes + k) 0 (λ z. omega arith), lt-leb (1 + h.nodes + k) h.nodes (omega arith)) (ap (key_line keys) a))))
    ∙ sym (append_assoc (header_line h) (lines_from (node_line nodes) 0 h.nodes) (lines_from (key_line keys) 0 h.keys))

-- a refusal, which has no nodes and no keys, is its header alone
pub refusal_is_its_header : (h : Header) (nodes keys : List ℕ) → h.nodes ≡ 0 → h.keys ≡ 0 → listing h nodes keys ≡ header_line h
refusal_is_its_header h nodes keys p q = simp (p, q, append-nil)

-- any function here: two outcomes that meet the contract are the same
pub one_outcome_of_put : (before : List ℕ) (at : ℕ) (text : List ℕ) {out other : List ℕ} {end otherEnd : Option ℕ} → put out end ≡ puts before at text
    → put other otherEnd ≡ puts before at text → (out ≡ other) × (end ≡ otherEnd)
one_outcome_of_put before at text p q = (ap (λ (r : Put). r.out) (p ∙ sym q), ap (λ (r : Put). r.end) (p ∙ sym q))

-- an end says that the text fitted
pub put_moved : (before : List ℕ) (at : ℕ) (text : List ℕ) {out : List ℕ} {end : ℕ} → put out (Some end) ≡ puts before at text → at + length text ≤ length before
put_moved before at text {out} {end} p = here (leb (at + length text) (length before)) refl (ap (λ (r : Put). is_some r.end) p)
  where
    here : (t : Bool) → leb (at + length text) (length before) ≡ t → true ≡ is_some (pick t (put (write before at text) (Some (at + length text))) (put before None)).end
        → at + length text ≤ length before
    here true e q = leb-true (at + length text) (length before) e
    here false e q = absurd (true≢false q)

-- a text that fits is put behind what stands before it
pub put_fits : (before : List ℕ) (at : ℕ) (text : List ℕ) {out : List ℕ} {end : Option ℕ} → at + length text ≤ length before → put out end ≡ puts before at text
    → (end ≡ Some (at + length text)) × (take (at + length text) out ≡ take at before ++ text)
unfolding write
put_fits before at text {out} {end} h p =
    let f : puts before at text ≡ put (write before at text) (Some (at + length text)) = simp (le-leb (at + length text) (length before) h) in
    let l : length (take at before ++ text) ≡ at + length text = length-append (take at before) text ∙ ap (λ (k : ℕ). k + length text) (length-take-le at before (omega arith)) in (
      ap (λ (r : Put). r.end) (p ∙ f),
      ap (λ (o : List ℕ). take (at + length text) o) (ap (λ (r : Put). r.out) (p ∙ f))
          ∙ take_at (take at before ++ text) (drop (at + length text) before) (at + length text) l,
    )

-- where the text ends lies in the output
pub put_within : (before : List ℕ) (at : ℕ) (text : List ℕ) {out : List ℕ} {end : ℕ} → put out (Some end) ≡ puts before at text → end ≤ length before
put_within before at text {out} {end} p =
    let fits : at + length text ≤ length before = put_moved before at text {out = out} {end = end} p in
    let e : end ≡ at + length text = ap (λ (o : Option ℕ). unwrap_or o 0) (put_fits before at text {out = out} {end = Some end} fits p).0 in
    omega (arith, e, fits)

-- one line more
pub lines_next : (f : ℕ → List ℕ) (k : ℕ) → lines_from f 0 (k + 1) ≡ lines_from f 0 k ++ f k
lines_next f k =
    let z : 0 + k ≡ k = omega arith in
    lines_more f 0 k 1 ∙ ap (λ (j : ℕ). lines_from f 0 k ++ (f j ++ [])) z ∙ ap (λ (l : List ℕ). lines_from f 0 k ++ l) (append-nil (f k))

-- no line has more than 51 bytes
pub line_short : (h : Header) (nodes keys : List ℕ) (k : ℕ) → length (line_at h nodes keys k) ≤ 51
unfolding line_at header_line node_line type_word key_line
line_short h nodes keys k = here (eqb k 0) (leb k h.nodes)
  where
    here : (s t : Bool) → length (pick s (header_line h) (pick t (node_line nodes (k - 1)) (key_line keys (k - 1 - h.nodes)))) ≤ 51
    here true t = omega arith
    here false true = omega arith
    here false false = omega arith
