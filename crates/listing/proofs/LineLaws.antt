-- Lines written word by word, or refused for want of room. Assumes nothing.
-- Why: word after word is written where the last one ended, so that together they are the line.
use mathlib.Core.Path.{◌≡◌, refl, sym, ap, ◌∙◌}
use mathlib.Core.Bool.{Bool, true, false, not}
use mathlib.Core.List.{List, [], ◌∷◌, ◌++◌}
use Rattle.std.specs.Prelude.{Some, None}
use Prim.Native.Nat.{ℕ, ◌+◌, ◌-◌, ◌≤◌, ◌<◌}
use native.Mathlib.Omega.{arith}
use lib.Dec.{leb}
use lib.ListN.{length, get_or, length-append}
use borrow.Author.Tests.{le-leb, lt-leb, leb-true, eq-eqb, ne_eqb, not-true, not-false}
use Rattle.listing.specs.declared.Header.{Header}
use Rattle.listing.specs.Digits.{digits}
use Rattle.listing.specs.Lines.{SPACE, LINE_FEED, header_line, node_field, type_word, node_line, key_line}
use Rattle.listing.specs.Listing.{line_at}
use Rattle.listing.specs.Output.{write, Put, put, puts}
use Rattle.listing.proofs.WriteLaws.{digits_length, word_length, write_append}

-- what `put_digits` and `put_word` promise
abbrev pub PutDigits : List ℕ → ℕ → ℕ → ℕ → List ℕ → ℕ → Type 0
PutDigits before at width n out end = (end ≡ at + width) × (out ≡ write before at (digits width n))

abbrev pub PutWord : List ℕ → ℕ → ℕ → ℕ → ℕ → List ℕ → ℕ → Type 0
PutWord before at width n after out end = (end ≡ at + width + 1) × (out ≡ write before at (digits width n ++ (after ∷ [])))

-- what is known after a text of so many bytes: where it ends, and what the output holds
pub record Written (before : List ℕ) (at size : ℕ) (text out : List ℕ) (end : ℕ) : Type 0 where
  pub sized : length text ≡ size
  pub ends : end ≡ at + size
  pub room : at + size ≤ length before
  pub holds : out ≡ write before at text

pub first_word : (before : List ℕ) (at width n after : ℕ) (out : List ℕ) (end : ℕ) → at + (width + 1) ≤ length before → PutWord before at width n after out end
    → Written before at (width + 1) (digits width n ++ (after ∷ [])) out end
first_word before at width n after out end h p = record { sized = word_length width n after; ends = omega (arith, p.0); room = h; holds = p.1 }

pub first_digits : (before : List ℕ) (at width n : ℕ) (out : List ℕ) (end : ℕ) → at + width ≤ length before → PutDigits before at width n out end
    → Written before at width (digits width n) out end
first_digits before at width n out end h p = record { sized = digits_length width n; ends = p.0; room = h; holds = p.1 }

-- one text more, where the last one ended
pub and_then : (before : List ℕ) (at size : ℕ) (text out : List ℕ) (end more : ℕ) (word next : List ℕ) (nextEnd : ℕ) → Written before at size text out end
    → at + (size + more) ≤ length before → length word ≡ more → nextEnd ≡ end + more → next ≡ write out end word → Written before at (size + more) (text ++ word) next nextEnd
and_then before at size text out end more word next nextEnd w h l e o =
    let s : length text ≡ size = w.sized in
    let k : end ≡ at + size = w.ends in
    let j : end ≡ at + length text = omega arith in
    record {
      sized = length-append text word ∙ omega arith;
      ends = omega arith;
      room = h;
      holds =
          o
          ∙ ap (λ (t : List ℕ). write t end word) w.holds
          ∙ ap (λ (i : ℕ). write (write before at text) i word) j
          ∙ write_append before at text word (omega arith);
    }

pub next_word : (before : List ℕ) (at size : ℕ) (text out : List ℕ) (end width n after : ℕ) (next : List ℕ) (nextEnd : ℕ) → Written before at size text out end
    → at + (size + (width + 1)) ≤ length before → PutWord out end width n after next nextEnd
    → Written before at (size + (width + 1)) (text ++ (digits width n ++ (after ∷ []))) next nextEnd
next_word before at size text out end width n after next nextEnd w h p =
    and_then before at size text out end (width + 1) (digits width n ++ (after ∷ [])) next nextEnd w h (word_length width n after) (omega (arith, p.0)) p.1

pub next_digits : (before : List ℕ) (at size : ℕ) (text out : List ℕ) (end width n : ℕ) (next : List ℕ) (nextEnd : ℕ) → Written before at size text out end
    → at + (size + width) ≤ length before → PutDigits out end width n next nextEnd → Written before at (size + width) (text ++ digits width n) next nextEnd
next_digits before at size text out end width n next nextEnd w h p =
    and_then before at size text out end width (digits width n) next nextEnd w h (digits_length width n) p.0 p.1

-- the two ends of a public function: refused for want of room, and the whole text written
pub refused_for_room : (out : List ℕ) (at : ℕ) (text : List ℕ) (bytes : ℕ) {r : Bool} → length text ≡ bytes → r ≡ leb (at + bytes) (length out) → not r ≡ true
    → put out None ≡ puts out at text
refused_for_room out at text bytes {r} l e n =
    let f : leb (at + length text) (length out) ≡ false = ap (λ (k : ℕ). leb (at + k) (length out)) l ∙ sym e ∙ not-true r n in
    simp f

pub has_room : (out : List ℕ) (at bytes : ℕ) {r : Bool} → r ≡ leb (at + bytes) (length out) → not r ≡ false → at + bytes ≤ length out
has_room out at bytes {r} e n = leb-true (at + bytes) (length out) (sym e ∙ not-false r n)

pub all_written : (before : List ℕ) (at size : ℕ) (text out : List ℕ) (end : ℕ) (whole : List ℕ) → Written before at size text out end → text ≡ whole
    → put out (Some end) ≡ puts before at whole
all_written before at size text out end whole w e =
    let s : length text ≡ size = w.sized in
    let k : end ≡ at + length text = omega (arith, w.ends) in
    let f : leb (at + length text) (length before) ≡ true = le-leb (at + length text) (length before) (omega (arith, w.room)) in
    ap (λ (o : List ℕ). put o (Some end)) w.holds
    ∙ ap (λ (n : ℕ). put (write before at text) (Some n)) k
    ∙ fitting f
    ∙ ap (λ (t : List ℕ). puts before at t) e
  where
    fitting : leb (at + length text) (length before) ≡ true → put (write before at text) (Some (at + length text)) ≡ puts before at text
    fitting f = simp f

pub header_length : (h : Header) → length (header_line h) ≡ 51
unfolding header_line
header_length h = refl

pub header_written : (before : List ℕ) (at : ℕ) (h : Header) (o₁ o₂ o₃ o₄ o₅ o₆ o₇ : List ℕ) (e₁ e₂ e₃ e₄ e₅ e₆ e₇ : ℕ) → at + 51 ≤ length before
    → PutWord before at 2 h.number SPACE o₁ e₁
    → PutWord o₁ e₁ 2 h.reason SPACE o₂ e₂
    → PutWord o₂ e₂ 8 h.place SPACE o₃ e₃
    → PutWord o₃ e₃ 8 h.tokens SPACE o₄ e₄
    → PutWord o₄ e₄ 8 h.steps SPACE o₅ e₅
    → PutWord o₅ e₅ 8 h.nodes SPACE o₆ e₆
    → PutWord o₆ e₆ 8 h.keys LINE_FEED o₇ e₇
    → put o₇ (Some e₇) ≡ puts before at (header_line h)
unfolding header_line
header_written before at h o₁ o₂ o₃ o₄ o₅ o₆ o₇ e₁ e₂ e₃ e₄ e₅ e₆ e₇ room p₁ p₂ p₃ p₄ p₅ p₆ p₇ =
    let w₁ : _ = first_word before at 2 h.number SPACE o₁ e₁ (omega arith) p₁ in
    let w₂ : _ = next_word before at 3 _ o₁ e₁ 2 h.reason SPACE o₂ e₂ w₁ (omega arith) p₂ in
    let w₃ : _ = next_word before at 6 _ o₂ e₂ 8 h.place SPACE o₃ e₃ w₂ (omega arith) p₃ in
    let w₄ : _ = next_word before at 15 _ o₃ e₃ 8 h.tokens SPACE o₄ e₄ w₃ (omega arith) p₄ in
    let w₅ : _ = next_word before at 24 _ o₄ e₄ 8 h.steps SPACE o₅ e₅ w₄ (omega arith) p₅ in
    let w₆ : _ = next_word before at 33 _ o₅ e₅ 8 h.nodes SPACE o₆ e₆ w₅ (omega arith) p₆ in
    let w₇ : _ = next_word before at 42 _ o₆ e₆ 8 h.keys LINE_FEED o₇ e₇ w₆ (omega arith) p₇ in
    all_written before at 51 _ o₇ e₇ (header_line h) w₇ refl

-- `put_type`
pub type_written : (before : List ℕ) (at : ℕ) (nodes : List ℕ) (i : ℕ) (o₁ o₂ o₃ o₄ : List ℕ) (e₁ e₂ e₃ e₄ n₁ n₂ n₃ n₄ : ℕ) → at + 5 ≤ length before
    → n₁ ≡ node_field nodes i 5 → n₂ ≡ node_field nodes i 6 → n₃ ≡ node_field nodes i 7 → n₄ ≡ node_field nodes i 8
    → PutDigits before at 1 n₁ o₁ e₁
    → PutDigits o₁ e₁ 1 n₂ o₂ e₂
    → PutDigits o₂ e₂ 1 n₃ o₃ e₃
    → PutWord o₃ e₃ 1 n₄ LINE_FEED o₄ e₄
    → (e₄ ≡ at + 5) × (o₄ ≡ write before at (type_word nodes i ++ (LINE_FEED ∷ [])))
unfolding type_word
type_written before at nodes i o₁ o₂ o₃ o₄ e₁ e₂ e₃ e₄ n₁ n₂ n₃ n₄ room q₁ q₂ q₃ q₄ p₁ p₂ p₃ p₄ =
    let w₁ : _ = first_digits before at 1 n₁ o₁ e₁ (omega arith) p₁ in
    let w₂ : _ = next_digits before at 1 _ o₁ e₁ 1 n₂ o₂ e₂ w₁ (omega arith) p₂ in
    let w₃ : _ = next_digits before at 2 _ o₂ e₂ 1 n₃ o₃ e₃ w₂ (omega arith) p₃ in
    let w₄ : _ = next_word before at 3 _ o₃ e₃ 1 n₄ LINE_FEED o₄ e₄ w₃ (omega arith) p₄ in
    (w₄.ends, w₄.holds ∙ simp (q₁, q₂, q₃, q₄))

pub node_length : (nodes : List ℕ) (i : ℕ) → length (node_line nodes i) ≡ 44
unfolding node_line type_word
node_length nodes i = refl

type_length : (nodes : List ℕ) (i : ℕ) → length (type_word nodes i ++ (LINE_FEED ∷ [])) ≡ 5
unfolding type_word
type_length nodes i = refl

pub node_written : (before : List ℕ) (at : ℕ) (nodes : List ℕ) (i : ℕ) (o₁ o₂ o₃ o₄ o₅ o₆ : List ℕ) (e₁ e₂ e₃ e₄ e₅ e₆ n₁ n₂ n₃ n₄ n₅ : ℕ) → at + 44 ≤ length before
    → n₁ ≡ node_field nodes i 0 → n₂ ≡ node_field nodes i 1 → n₃ ≡ node_field nodes i 2 → n₄ ≡ node_field nodes i 3 → n₅ ≡ node_field nodes i 4
    → PutWord before at 2 n₁ SPACE o₁ e₁
    → PutWord o₁ e₁ 8 n₂ SPACE o₂ e₂
    → PutWord o₂ e₂ 8 n₃ SPACE o₃ e₃
    → PutWord o₃ e₃ 8 n₄ SPACE o₄ e₄
    → PutWord o₄ e₄ 8 n₅ SPACE o₅ e₅
    → (e₆ ≡ e₅ + 5) × (o₆ ≡ write o₅ e₅ (type_word nodes i ++ (LINE_FEED ∷ [])))
    → put o₆ (Some e₆) ≡ puts before at (node_line nodes i)
unfolding node_line
node_written before at nodes i o₁ o₂ o₃ o₄ o₅ o₆ e₁ e₂ e₃ e₄ e₅ e₆ n₁ n₂ n₃ n₄ n₅ room q₁ q₂ q₃ q₄ q₅ p₁ p₂ p₃ p₄ p₅ p₆ =
    let w₁ : _ = first_word before at 2 n₁ SPACE o₁ e₁ (omega arith) p₁ in
    let w₂ : _ = next_word before at 3 _ o₁ e₁ 8 n₂ SPACE o₂ e₂ w₁ (omega arith) p₂ in
    let w₃ : _ = next_word before at 12 _ o₂ e₂ 8 n₃ SPACE o₃ e₃ w₂ (omega arith) p₃ in
    let w₄ : _ = next_word before at 21 _ o₃ e₃ 8 n₄ SPACE o₄ e₄ w₃ (omega arith) p₄ in
    let w₅ : _ = next_word before at 30 _ o₄ e₄ 8 n₅ SPACE o₅ e₅ w₄ (omega arith) p₅ in
    let w₆ : _ = and_then before at 39 _ o₅ e₅ 5 (type_word nodes i ++ (LINE_FEED ∷ [])) o₆ e₆ w₅ (omega arith) (type_length nodes i) p₆.0 p₆.1 in
    all_written before at 44 _ o₆ e₆ (node_line nodes i) w₆ (simp (q₁, q₂, q₃, q₄, q₅))

pub key_length_lem : (keys : List ℕ) (i : ℕ) → length (key_line keys i) ≡ 9
unfolding key_line
key_length_lem keys i = refl

pub key_written : (before : List ℕ) (at : ℕ) (keys : List ℕ) (i : ℕ) (out : List ℕ) (end n : ℕ) → at + 9 ≤ length before → n ≡ get_or keys i 0
    → PutWord before at 8 n LINE_FEED out end → put out (Some end) ≡ puts before at (key_line keys i)
unfolding key_line
key_written before at keys i out end n room q p =
    all_written before at 9 _ out end (key_line keys i) (first_word before at 8 n LINE_FEED out end room p) (simp q)

-- which line it is
pub line_is_header : (h : Header) (nodes keys : List ℕ) (k : ℕ) → k ≡ 0 → header_line h ≡ line_at h nodes keys k
unfolding line_at
line_is_header h nodes keys k e = simp (eq-eqb k 0 e)

pub line_is_node : (h : Header) (nodes keys : List ℕ) (k : ℕ) {count : ℕ} → count ≡ h.nodes → (k ≡ 0 → ⊥) → k ≤ count → node_line nodes (k - 1) ≡ line_at h nodes keys k
unfolding line_at
line_is_node h nodes keys k e n l = simp (ne_eqb k 0 n, le-leb k h.nodes (omega arith))

pub line_is_key : (h : Header) (nodes keys : List ℕ) (k : ℕ) {count : ℕ} → count ≡ h.nodes → (k ≡ 0 → ⊥) → count < k
    → key_line keys (k - 1 - count) ≡ line_at h nodes keys k
unfolding line_at
line_is_key h nodes keys k e n l = simp (ne_eqb k 0 n, lt-leb k h.nodes (omega arith), e)

pub line_put : (before : List ℕ) (at : ℕ) {text whole : List ℕ} {p : Put} → text ≡ whole → p ≡ puts before at text → p ≡ puts before at whole
line_put before at e p = p ∙ ap (λ (t : List ℕ). puts before at t) e
