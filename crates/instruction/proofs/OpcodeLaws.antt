-- Looking an opcode up, where it is one of the rows and where it is none. Assumes nothing.
-- Why: the rows stand in the code's order, and a `match` leaves for its last cases that no row's byte is the one looked up.
use mathlib.Core.Path.{◌≡◌, refl, sym, ap, ◌∙◌}
use mathlib.Core.Bool.{Bool, true, false, true≢false}
use mathlib.Core.List.{List, [], ◌∷◌}
use Prim.Native.Nat.{ℕ, ◌≤◌, ◌<◌, ◌-◌}
use native.Mathlib.Omega.{arith}
use lib.Dec.{eqb, leb}
use borrow.Author.Tests.{ne_eqb, le-leb, lt-leb, leb-true}
use Rattle.tables.specs.Choose.{pick}
use Rattle.tables.proofs.BoolLaws.{picked_both}
use Rattle.instruction.specs.declared.Op.{Op}
use Rattle.instruction.specs.declared.Op.TheVariants.{Push, Sized, Num, One, Fused, Verify, Unlisted}
use Rattle.instruction.specs.Opcode.{Row, rows, look, op_of, ranged}

-- a byte that is a row's
pub listed : {b k : ℕ} → b ≡ k → op_of k ≡ op_of b
listed e = sym (ap op_of e)

-- b is none of the rows' bytes, as a `match` leaves it: the last row's fact outermost
abbrev pub Rest : ℕ → Type 0 → List Row → Type 0
Rest b A [] = A
Rest b A (r ∷ rs) = Rest b (A × (b ≡ r.byte → ⊥)) rs

missed : (b : ℕ) (o : Op) (A : Type 0) (rs : List Row) → Rest b A rs → A × (look b rs o ≡ o)
missed b o A [] x = (x, refl)
missed b o A (r ∷ rs) x =
    let m : (A × (b ≡ r.byte → ⊥)) × (look b rs o ≡ o) = missed b o (A × (b ≡ r.byte → ⊥)) rs x in
    (m.0.0, simp (ne_eqb b r.byte m.0.1) m.1)

pub not_listed : (b : ℕ) → Rest b (Unit {0}) rows → ranged b ≡ op_of b
not_listed b x = sym (missed b (ranged b) (Unit {0}) rows x).1

pub is_push_lem : (b : ℕ) {n : ℕ} → n ≡ b → b ≤ 0x4b → Push n ≡ ranged b
unfolding ranged
is_push_lem b e h = simp (lt-leb 0x51 b (omega arith), le-leb b 0x4b h, e)

pub is_num_lem : (b : ℕ) {n : ℕ} → n ≡ b - 0x50 → 0x51 ≤ b → b ≤ 0x60 → Num n ≡ ranged b
unfolding ranged
is_num_lem b e l h = simp (le-leb 0x51 b l, le-leb b 0x60 h, e)

pub is_between : (b : ℕ) → 0x4b < b → b < 0x51 → Unlisted ≡ ranged b
unfolding ranged
is_between b l h = simp (lt-leb 0x51 b h, lt-leb b 0x4b l)

pub is_above : (b : ℕ) → 0x60 < b → Unlisted ≡ ranged b
unfolding ranged
is_above b l = simp (le-leb 0x51 b (omega arith), lt-leb b 0x60 l)

-- a length stands in at most four bytes, and is 76 at the least
abbrev narrow : Op → Bool
narrow (Push n) = true
narrow (Sized w least) = pick (leb w 4) (leb 76 least) false
narrow (Num n) = true
narrow (One c) = true
narrow (Fused c) = true
narrow Verify = true
narrow Unlisted = true

abbrev all_narrow : List Row → Bool
all_narrow [] = true
all_narrow (r ∷ rs) = pick (narrow r.asks) (all_narrow rs) false

narrow_pick : (n c : Bool) (o p : Op) (rest : Bool) → narrow o ≡ n → pick n rest false ≡ true → (rest ≡ true → narrow p ≡ true) → narrow (pick c o p) ≡ true
narrow_pick true true o p rest e h k = e
narrow_pick true false o p rest e h k = k h
narrow_pick false c o p rest e h k = absurd (true≢false (sym h))

narrow_row : (b : ℕ) (o : Op) (rs : List Row) → all_narrow rs ≡ true → narrow o ≡ true → narrow (look b rs o) ≡ true
narrow_row b o [] h k = k
narrow_row b o (r ∷ rs) h k = narrow_pick (narrow r.asks) (eqb b r.byte) r.asks (look b rs o) (all_narrow rs) refl h (λ g. narrow_row b o rs g k)

narrow_ranged : (b : ℕ) → narrow (ranged b) ≡ true
unfolding ranged
narrow_ranged b = here (leb 0x51 b) (leb b 0x60) (leb b 0x4b)
  where
    here : (p q r : Bool) → narrow (pick p (pick q (Num (b - 0x50)) Unlisted) (pick r (Push b) Unlisted)) ≡ true
    here true true r = refl
    here true false r = refl
    here false q true = refl
    here false q false = refl

pub width_narrow : (b w least : ℕ) {o : Op} → o ≡ op_of b → o ≡ Sized w least → (w ≤ 4) × (76 ≤ least)
width_narrow b w least e p =
    let t : (leb w 4 ≡ true) × (leb 76 least ≡ true) = picked_both (leb w 4) (leb 76 least) (sym (ap narrow (sym e ∙ p)) ∙ narrow_row b (ranged b) rows refl (narrow_ranged b)) in
    (leb-true w 4 t.0, leb-true 76 least t.1)
