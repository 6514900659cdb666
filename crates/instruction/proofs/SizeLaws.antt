-- An instruction has at least one byte, and no more than are left. Assumes nothing.
use mathlib.Core.Path.{◌≡◌, refl, sym, subst}
use mathlib.Core.Bool.{Bool, true, false}
use mathlib.Core.List.{List}
use Prim.Native.Nat.{ℕ, ◌+◌, ◌-◌, ◌≤◌, ◌<◌}
use native.Mathlib.Omega.{arith}
use borrow.Author.Tests.{leb-true}
use lib.ListN.{length, take, drop, get_or, length-drop}
use lib.Dec.{leb, eqb, ltb}
use Rattle.tables.specs.Choose.{pick}
use Rattle.instruction.specs.declared.Op.{Op}
use Rattle.instruction.specs.Error.{Lexing, Number}
use Rattle.instruction.specs.declared.Lexed.TheVariants.{One, Two}
use Rattle.std.specs.Prelude.{Ok, Err}
use Rattle.instruction.specs.Opcode.{op_of}
use Rattle.instruction.specs.Number.{little_endian, number_of}
use Rattle.instruction.specs.Push.{has_opcode, push_of, pushed, numbered, sized_of}
use Rattle.instruction.specs.Instruction.{instruction_of, given, verify_refused}

-- what holds of either choice holds of the choice
pub either : (P : Lexing → Type 0) (b : Bool) (x y : Lexing) → (b ≡ true → P x) → (b ≡ false → P y) → P (pick b x y)
either P true x y p q = p refl
either P false x y p q = q refl

abbrev pub Fits : ℕ → Lexing → Type 0
Fits m (Ok (One c n v)) = (1 ≤ n) × (n ≤ m)
Fits m (Ok (Two c n)) = (1 ≤ n) × (n ≤ m)
Fits m (Err k) = Unit {0}

numbered_fits : (m all : ℕ) (v : Number) → 1 ≤ all → all ≤ m → Fits m (numbered v all)
numbered_fits m all (Ok v) l h = (l, h)
numbered_fits m all (Err e) l h = tt

pushed_fits : (m : ℕ) (d : List ℕ) (n all : ℕ) → 1 ≤ all → all ≤ m → Fits m (pushed d n all)
unfolding pushed
pushed_fits m d n all l h =
    either (Fits m) (eqb n 20) _ _ (λ _. (l, h))
    (λ _. either (Fits m) (eqb n 32) _ _ (λ _. (l, h))
    (λ _. either (Fits m) (eqb n 33) _ _ (λ _. (l, h))
    (λ _. either (Fits m) (eqb n 65) _ _ (λ _. (l, h))
    (λ _. either (Fits m) (leb n 4) _ _ (λ _. numbered_fits m all (number_of d) l h) (λ _. tt)))))

push_fits : (rest : List ℕ) (head n : ℕ) → 1 ≤ head → Fits (length rest) (push_of rest head n)
unfolding push_of
push_fits rest head n l =
    either (Fits (length rest)) (has_opcode rest head n) _ _ (λ _. tt)
    (λ _. either (Fits (length rest)) (leb (head + n) (length rest)) _ _
    (λ e. pushed_fits (length rest) _ n (head + n) (omega arith) (leb-true (head + n) (length rest) e))
    (λ _. tt))

sized_fits : (rest : List ℕ) (w least : ℕ) → Fits (length rest) (sized_of rest w least)
unfolding sized_of
sized_fits rest w least =
    either (Fits (length rest)) (leb (1 + w) (length rest)) _ _
    (λ _. either (Fits (length rest)) (ltb (little_endian (take w (drop 1 rest))) least) _ _ (λ _. tt) (λ _. push_fits rest (1 + w) _ (omega arith)))
    (λ _. tt)

given_fits : (rest : List ℕ) (last : ℕ) (o : Op) → 1 ≤ length rest → Fits (length rest) (given o rest last)
given_fits rest last (Op.Push n) l = push_fits rest 1 n (omega arith)
given_fits rest last (Op.Sized w least) l = sized_fits rest w least
given_fits rest last (Op.Num n) l = (omega arith, l)
given_fits rest last (Op.One c) l = (omega arith, l)
given_fits rest last (Op.Fused c) l = (omega arith, l)
given_fits rest last Op.Verify l = either (Fits (length rest)) (verify_refused last) _ _ (λ _. tt) (λ _. (omega arith, l))
given_fits rest last Op.Unlisted l = tt

pub instruction_fits : (rest : List ℕ) (last : ℕ) → 1 ≤ length rest → Fits (length rest) (instruction_of rest last)
unfolding instruction_of
instruction_fits rest last h = given_fits rest last (op_of (get_or rest 0 0)) h

-- the same, at a place of the whole script
module _ (s : List ℕ) (at last : ℕ) (h : at < length s) {x : Lexing} (e : x ≡ instruction_of (drop at s) last) where
  placed_fits : Fits (length s - at) x
  placed_fits =
      subst (Fits (length s - at)) (sym e)
      (subst (λ (m : ℕ). Fits m (instruction_of (drop at s) last)) (length-drop at s) (instruction_fits (drop at s) last (omega (arith, length-drop at s))))

  pub one_fits : (c v n : ℕ) → x ≡ Ok (One c n v) → (1 ≤ n) × (n ≤ length s - at)
  one_fits c v n p = subst (Fits (length s - at)) p placed_fits

  pub two_fits : (c n : ℕ) → x ≡ Ok (Two c n) → (1 ≤ n) × (n ≤ length s - at)
  two_fits c n p = subst (Fits (length s - at)) p placed_fits
