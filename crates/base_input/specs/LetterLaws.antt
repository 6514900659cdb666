-- What the input rules are in BIP 379's letters z, o and n: the columns of its type table, one letter at a time. Assumes nothing.
use Rattle.std.specs.Prelude.{◌≡◌, refl, Bool, true, false, ◌&&◌, ◌||◌}
use Rattle.std.proofs.Common.{sym}
use Rattle.std.proofs.Math.Bool.{and-false, and-true, or-false}
use Rattle.tables.specs.Choose.{pick}
use Rattle.tables.proofs.BoolLaws.{left_true}
use Rattle.base_input.specs.declared.Input.{Input}
use Rattle.base_input.specs.declared.Input.TheVariants.{Zero, One, Any, OneNonZero, AnyNonZero}
use Rattle.base_input.specs.Tests.{is_zero, takes_one, top_non_zero}
use Rattle.base_input.specs.Inputs.{and_input, count_only, or_else_input, or_input, either_input, and_or_input}

-- z, o and n of an input
pub record InputLetters : Type 0 where
  pub z : Bool
  pub o : Bool
  pub n : Bool

abbrev pub zon : Bool → Bool → Bool → InputLetters
zon z o n = record { z = z; o = o; n = n }

abbrev pub input_letters : Input → InputLetters
input_letters i = zon (is_zero i) (takes_one i) (top_non_zero i)

-- and_v, and_b: "z=zXzY; o=zXoY or zYoX; n=nX or zXnY"
pub and_letters : (i j : Input) → input_letters (and_input i j) ≡ zon (is_zero i && is_zero j) ((is_zero i && takes_one j) || (is_zero j && takes_one i)) (top_non_zero i || (is_zero i && top_non_zero j))
and_letters Zero Zero = refl
and_letters Zero One = refl
and_letters Zero Any = refl
and_letters Zero OneNonZero = refl
and_letters Zero AnyNonZero = refl
and_letters One Zero = refl
and_letters One One = refl
and_letters One Any = refl
and_letters One OneNonZero = refl
and_letters One AnyNonZero = refl
and_letters Any Zero = refl
and_letters Any One = refl
and_letters Any Any = refl
and_letters Any OneNonZero = refl
and_letters Any AnyNonZero = refl
and_letters OneNonZero Zero = refl
and_letters OneNonZero One = refl
and_letters OneNonZero Any = refl
and_letters OneNonZero OneNonZero = refl
and_letters OneNonZero AnyNonZero = refl
and_letters AnyNonZero Zero = refl
and_letters AnyNonZero One = refl
and_letters AnyNonZero Any = refl
and_letters AnyNonZero OneNonZero = refl
and_letters AnyNonZero AnyNonZero = refl

-- or_b: "z=zXzZ; o=zXoZ or zZoX"
pub or_letters : (i j : Input) → input_letters (or_input i j) ≡ zon (is_zero i && is_zero j) ((is_zero i && takes_one j) || (is_zero j && takes_one i)) false
or_letters Zero Zero = refl
or_letters Zero One = refl
or_letters Zero Any = refl
or_letters Zero OneNonZero = refl
or_letters Zero AnyNonZero = refl
or_letters One Zero = refl
or_letters One One = refl
or_letters One Any = refl
or_letters One OneNonZero = refl
or_letters One AnyNonZero = refl
or_letters Any Zero = refl
or_letters Any One = refl
or_letters Any Any = refl
or_letters Any OneNonZero = refl
or_letters Any AnyNonZero = refl
or_letters OneNonZero Zero = refl
or_letters OneNonZero One = refl
or_letters OneNonZero Any = refl
or_letters OneNonZero OneNonZero = refl
or_letters OneNonZero AnyNonZero = refl
or_letters AnyNonZero Zero = refl
or_letters AnyNonZero One = refl
or_letters AnyNonZero Any = refl
or_letters AnyNonZero OneNonZero = refl
or_letters AnyNonZero AnyNonZero = refl

-- or_d, or_c: "z=zXzZ; o=oXzZ"
pub or_else_letters : (i j : Input) → input_letters (or_else_input i j) ≡ zon (is_zero i && is_zero j) (takes_one i && is_zero j) false
or_else_letters Zero Zero = refl
or_else_letters Zero One = refl
or_else_letters Zero Any = refl
or_else_letters Zero OneNonZero = refl
or_else_letters Zero AnyNonZero = refl
or_else_letters One Zero = refl
or_else_letters One One = refl
or_else_letters One Any = refl
or_else_letters One OneNonZero = refl
or_else_letters One AnyNonZero = refl
or_else_letters Any Zero = refl
or_else_letters Any One = refl
or_else_letters Any Any = refl
or_else_letters Any OneNonZero = refl
or_else_letters Any AnyNonZero = refl
or_else_letters OneNonZero Zero = refl
or_else_letters OneNonZero One = refl
or_else_letters OneNonZero Any = refl
or_else_letters OneNonZero OneNonZero = refl
or_else_letters OneNonZero AnyNonZero = refl
or_else_letters AnyNonZero Zero = refl
or_else_letters AnyNonZero One = refl
or_else_letters AnyNonZero Any = refl
or_else_letters AnyNonZero OneNonZero = refl
or_else_letters AnyNonZero AnyNonZero = refl

-- a choice of One or Any
one_or_any : (t : Bool) → input_letters (pick t One Any) ≡ zon false t false
one_or_any true = refl
one_or_any false = refl

-- or_i: "o=zXzZ"
pub either_letters : (i j : Input) → input_letters (either_input i j) ≡ zon false (is_zero i && is_zero j) false
either_letters i j = one_or_any (is_zero i && is_zero j)

-- andor: "z=zXzYzZ; o=zXoYoZ or oXzYzZ"

count_letters : (i : Input) → input_letters (count_only i) ≡ zon (is_zero i) (takes_one i) false
count_letters Zero = refl
count_letters One = refl
count_letters Any = refl
count_letters OneNonZero = refl
count_letters AnyNonZero = refl

zero_takes_none : (j : Input) → is_zero j ≡ true → takes_one j ≡ false
zero_takes_none Zero h = refl
zero_takes_none One h = sym h
zero_takes_none Any h = refl
zero_takes_none OneNonZero h = sym h
zero_takes_none AnyNonZero h = refl

-- by whether both others are Zero
by_both : (i j k : Input) (q : Bool) → (is_zero j && is_zero k) ≡ q → input_letters (pick q (count_only i) (pick (is_zero i && (takes_one j && takes_one k)) One Any)) ≡ zon (is_zero i && q) ((is_zero i && (takes_one j && takes_one k)) || (takes_one i && q)) false
by_both i j k true h = rw (zero_takes_none j (left_true (is_zero j) (is_zero k) h), and-false (is_zero i), and-true (is_zero i), and-true (takes_one i)) (count_letters i)
by_both i j k false h = rw (and-false (is_zero i), and-false (takes_one i), or-false (is_zero i && (takes_one j && takes_one k))) (one_or_any (is_zero i && (takes_one j && takes_one k)))

pub and_or_letters : (i j k : Input) → input_letters (and_or_input i j k) ≡ zon (is_zero i && (is_zero j && is_zero k)) ((is_zero i && (takes_one j && takes_one k)) || (takes_one i && (is_zero j && is_zero k))) false
and_or_letters i j k = by_both i j k (is_zero j && is_zero k) refl
