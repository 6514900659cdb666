-- Laying out a listing line by line: what is in the output and what is left of the listing stay the same text together. Assumes nothing.
use mathlib.Core.Path.{◌≡◌, refl, sym, ap, subst, ◌∙◌}
use Rattle.std.specs.Prelude.{Option, Some, None, is_some, unwrap_or}
use mathlib.Core.Bool.{Bool, true, false, true≢false}
use mathlib.Core.List.{List, [], ◌++◌, append_assoc}
use Prim.Native.Nat.{ℕ, suc, ◌+◌, ◌-◌, ◌≤◌, ◌<◌}
use native.Mathlib.Omega.{arith}
use lib.Dec.{leb}
use lib.ListN.{length, take}
use borrow.Author.Tests.{leb-false}
use Rattle.tables.specs.Choose.{pick}
use Rattle.listing.specs.declared.Header.{Header}
use Rattle.listing.specs.Output.{Put, write, put, puts}
use Rattle.listing.specs.Listing.{lines_from, listing, line_at}
use Rattle.listing.specs.ListingLaws.{put_fits, put_moved, line_short, listing_is_its_lines}
use Rattle.clerk.specs.declared.Hand.{Hand}
use Rattle.clerk.specs.Owed.{line_count, rest_of, laid}

-- so far: what is laid out and what is left are the text that was to be laid out
pub record Laying (h : Header) (nodes keys text out : List ℕ) (next end : ℕ) : Type 0 where
  pub small : end ≤ 8192
  pub whole : take end out ++ rest_of h next nodes keys ≡ text

-- nothing is left behind the last line
pub none_left : (h : Header) (nodes keys : List ℕ) (next : ℕ) → line_count h ≤ next → rest_of h next nodes keys ≡ []
none_left h nodes keys next l =
    let z : line_count h - next ≡ 0 = omega arith in
    ap (lines_from (line_at h nodes keys) next) z

-- from its first line on, it is the listing
pub all_left : (h : Header) (nodes keys : List ℕ) → rest_of h 0 nodes keys ≡ listing h nodes keys
all_left h nodes keys =
    let z : line_count h - 0 ≡ line_count h = omega arith in
    ap (lines_from (line_at h nodes keys) 0) z ∙ listing_is_its_lines h nodes keys

first_left : (h : Header) (nodes keys : List ℕ) (next : ℕ) → next < line_count h → rest_of h next nodes keys ≡ line_at h nodes keys next ++ rest_of h (next + 1) nodes keys
first_left h nodes keys next l =
    let s : line_count h - next ≡ suc (line_count h - (next + 1)) = omega arith in
    let o : suc next ≡ next + 1 = omega arith in
    ap (lines_from (line_at h nodes keys) next) s ∙ ap (λ (k : ℕ). line_at h nodes keys next ++ lines_from (line_at h nodes keys) k (line_count h - (next + 1))) o

-- a line fitted
pub line_laid : (h : Header) (nodes keys text out : List ℕ) (next end : ℕ) (after : List ℕ) (more lines : ℕ) → Laying h nodes keys text out next end → 8192 ≡ length out
    → lines ≡ line_count h → next < lines → put after (Some more) ≡ puts out end (line_at h nodes keys next) → Laying h nodes keys text after (next + 1) more
line_laid h nodes keys text out next end after more lines r l c n p =
    let line : List ℕ = line_at h nodes keys next in
    let fits : end + length line ≤ length out = put_moved out end line {out = after} {end = more} p in
    let q : (Some more ≡ Some (end + length line)) × (take (end + length line) after ≡ take end out ++ line) = put_fits out end line {out = after} {end = Some more} fits p in
    let e : more ≡ end + length line = ap (λ (o : Option ℕ). unwrap_or o 0) q.0 in
    record {
      small = omega (arith, e);
      whole =
          ap (λ (k : ℕ). take k after ++ rest_of h (next + 1) nodes keys) e
          ∙ ap (λ (front : List ℕ). front ++ rest_of h (next + 1) nodes keys) q.1
          ∙ append_assoc (take end out) line (rest_of h (next + 1) nodes keys)
          ∙ ap (λ (rest : List ℕ). take end out ++ rest) (sym (first_left h nodes keys next (omega arith)))
          ∙ r.whole;
    }

-- one that had no room changed nothing
line_refused : (out : List ℕ) (at : ℕ) (text : List ℕ) {after : List ℕ} → put after None ≡ puts out at text → (length out < at + length text) × (after ≡ out)
line_refused out at text {after} p = here (leb (at + length text) (length out)) refl p
  where
    here : (t : Bool) → leb (at + length text) (length out) ≡ t → put after None ≡ pick t (put (write out at text) (Some (at + length text))) (put out None)
        → (length out < at + length text) × (after ≡ out)
    here true b q = absurd (true≢false (sym (ap (λ (r : Put). is_some r.end) q)))
    here false b q = (leb-false (at + length text) (length out) b, ap (λ (r : Put). r.out) q)

-- the output is full
pub full : (h : Header) (nodes keys text out : List ℕ) (next end : ℕ) (after : List ℕ) → Laying h nodes keys text out next end → 8192 ≡ length out
    → put after None ≡ puts out end (line_at h nodes keys next)
    → (end ≤ 8192) × (end ≡ 0 → line_count h ≤ next) × (take end after ++ rest_of h next nodes keys ≡ text)
full h nodes keys text out next end after r l p =
    let q : (length out < end + length (line_at h nodes keys next)) × (after ≡ out) = line_refused out end (line_at h nodes keys next) p in
    (r.small, λ z. absurd (omega (arith, q.0, line_short h nodes keys next)), ap (λ (o : List ℕ). take end o ++ rest_of h next nodes keys) q.1 ∙ r.whole)

-- all lines are laid out
pub whole : (h : Header) (nodes keys text out : List ℕ) (next end lines : ℕ) → Laying h nodes keys text out next end → lines ≡ line_count h → lines ≤ next
    → (end ≤ 8192) × (end ≡ 0 → line_count h ≤ next) × (take end out ++ rest_of h next nodes keys ≡ text)
whole h nodes keys text out next end lines r c n = (r.small, λ z. omega arith, r.whole)

-- the hand that is answered
pub handed : (hand : Hand) (nodes keys text out : List ℕ) (next end : ℕ) (r : Hand) → r ≡ laid hand next end
    → (end ≤ 8192) × (end ≡ 0 → line_count hand.header ≤ next) × (take end out ++ rest_of hand.header next nodes keys ≡ text)
    → (r ≡ laid hand r.next r.used)
    × (r.used ≤ 8192)
    × (r.used ≡ 0 → line_count hand.header ≤ r.next)
    × (take r.used out ++ rest_of hand.header r.next nodes keys ≡ text)
handed hand nodes keys text out next end r e f =
    subst
    (λ (x : Hand).
    (x ≡ laid hand x.next x.used)
    × (x.used ≤ 8192)
    × (x.used ≡ 0 → line_count hand.header ≤ x.next)
    × (take x.used out ++ rest_of hand.header x.next nodes keys ≡ text))
    (sym e)
    (refl, f.0, f.1, f.2)
