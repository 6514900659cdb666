-- The loop that feeds a line: what is still to feed at a position comes to what was to feed from the start. Assumes nothing.
use mathlib.Core.Path.{◌≡◌, sym, ap, ◌∙◌}
use mathlib.Core.List.{List, [], ◌∷◌}
use Prim.Native.Nat.{ℕ, suc, ◌+◌, ◌≤◌, ◌<◌}
use native.Mathlib.Numerals.{add-one}
use native.Mathlib.Omega.{arith}
use lib.ListN.{length, drop, get_or, drop_of_length-le}
use lib.Seq.{drop-cons}
use borrow.Author.Tests.{eq-eqb, ne_eqb}
use Rattle.hex_line.specs.Feeding.{Fed, step, feed_all, of_line, stopped, line_fed}

-- at the end, nothing more is fed
pub at_end : (input : List ℕ) (at : ℕ) (f : Fed) → length input ≤ at → stopped f at ≡ line_fed input at f
unfolding line_fed
at_end input at f h =
    let d : drop at input ≡ [] = drop_of_length-le input h in
    let z : at ≡ at + 0 = omega arith in
    simp d (ap (stopped f) z)

-- the byte at a position, and the rest
input_cons : (input : List ℕ) (at : ℕ) → at < length input → drop at input ≡ get_or input at 0 ∷ drop (at + 1) input
input_cons input at h = drop-cons input at 0 h ∙ ap (λ (k : ℕ). get_or input at 0 ∷ drop k input) (sym (add-one at))

-- at a line feed, nothing more is fed
pub at_line_feed : (input : List ℕ) (at : ℕ) (f : Fed) → at < length input → get_or input at 0 ≡ 10 → stopped f at ≡ line_fed input at f
unfolding line_fed
at_line_feed input at f h b =
    let z : at ≡ at + 0 = omega arith in
    simp (input_cons input at h, eq-eqb (get_or input at 0) 10 b) (ap (stopped f) z)

-- any other byte is fed, and the line goes on behind it
pub goes_on : (input : List ℕ) (at : ℕ) (f : Fed) → at < length input → (get_or input at 0 ≡ 10 → ⊥) → line_fed input at f ≡ line_fed input (at + 1) (step (get_or input at 0) f)
unfolding line_fed
goes_on input at f h b =
    let rest : List ℕ = of_line (drop (at + 1) input) in
    let n : at + suc (length rest) ≡ at + 1 + length rest = omega arith in
    simp (input_cons input at h, ne_eqb (get_or input at 0) 10 b) (ap (stopped (feed_all rest (step (get_or input at 0) f))) n)
