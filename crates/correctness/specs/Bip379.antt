-- BIP 379's type table, section "Correctness types", in its letters: z takes no item, o exactly one, n a top item that isn't zero, d can be dissatisfied, u leaves exactly 1.
use Rattle.std.specs.Prelude.{Bool, true, false, ◌&&◌, ◌||◌, not, List, [], ◌∷◌}
use Rattle.std.proofs.Math.Option.{Option, none, some}
use Rattle.base_input.specs.declared.Base.{Base}
use Rattle.base_input.specs.declared.Base.TheVariants.{B, K, «V», W}
use Rattle.correctness.specs.declared.Correctness.{Correctness}
use Rattle.base_input.specs.Tests.{is_b, is_k, is_v, is_w, equal_bkv, is_zero, takes_one, top_non_zero}
use Rattle.correctness.specs.declared.Leaf.{Leaf}
use Rattle.correctness.specs.declared.Leaf.TheVariants as leaf

-- a base with its letters
pub record Letters : Type 0 where
  pub base : Base
  pub z : Bool
  pub o : Bool
  pub n : Bool
  pub d : Bool
  pub u : Bool

-- base, z, o, n, d, u
abbrev pub row : Base → Bool → Bool → Bool → Bool → Bool → Letters
row b z o n d u = record { base = b; z = z; o = o; n = n; d = d; u = u }

-- a letter that the row doesn't have
abbrev pub without : Bool
without = false

-- a letter that the row has
abbrev pub with_it : Bool
with_it = true

-- the column "requires", and the type where it holds
abbrev pub requiring : Bool → Letters → Option Letters
requiring true t = some t
requiring false t = none

-- Leaves

abbrev pub leaf_row : Leaf → Letters
leaf_row leaf.False = row B with_it without without with_it with_it
leaf_row leaf.True = row B with_it without without without with_it
leaf_row leaf.PkK = row K without with_it with_it with_it with_it
leaf_row leaf.RawPkH = row K without without with_it with_it with_it
leaf_row leaf.Time = row B with_it without without without without
leaf_row leaf.Hash = row B without with_it with_it with_it with_it
leaf_row leaf.Multi = row B without without with_it with_it with_it
leaf_row leaf.MultiA = row B without without without with_it with_it

-- Combinations

abbrev pub andor_row : Letters → Letters → Letters → Option Letters
andor_row x y z =
    requiring ((is_b x.base && (x.d && x.u)) && equal_bkv y.base z.base)
    (row y.base
    (x.z && (y.z && z.z))
    ((x.z && (y.o && z.o)) || (x.o && (y.z && z.z)))
    without
    z.d
    (y.u && z.u))

abbrev pub and_v_row : Letters → Letters → Option Letters
and_v_row x y =
    requiring (is_v x.base && not (is_w y.base))
    (row y.base
    (x.z && y.z)
    ((x.z && y.o) || (y.z && x.o))
    (x.n || (x.z && y.n))
    without
    y.u)

abbrev pub and_b_row : Letters → Letters → Option Letters
and_b_row x y =
    requiring (is_b x.base && is_w y.base)
    (row B
    (x.z && y.z)
    ((x.z && y.o) || (y.z && x.o))
    (x.n || (x.z && y.n))
    (x.d && y.d)
    with_it)

abbrev pub or_b_row : Letters → Letters → Option Letters
or_b_row x z =
    requiring ((is_b x.base && x.d) && (is_w z.base && z.d))
    (row B
    (x.z && z.z)
    ((x.z && z.o) || (z.z && x.o))
    without
    with_it
    with_it)

abbrev pub or_c_row : Letters → Letters → Option Letters
or_c_row x z =
    requiring ((is_b x.base && (x.d && x.u)) && is_v z.base)
    (row «V» (x.z && z.z) (x.o && z.z) without without without)

abbrev pub or_d_row : Letters → Letters → Option Letters
or_d_row x z =
    requiring ((is_b x.base && (x.d && x.u)) && is_b z.base)
    (row B (x.z && z.z) (x.o && z.z) without z.d z.u)

abbrev pub or_i_row : Letters → Letters → Option Letters
or_i_row x z =
    requiring (equal_bkv x.base z.base)
    (row x.base without (x.z && z.z) without (x.d || z.d) (x.u && z.u))

-- thresh

-- "all z"
abbrev pub all_z : List Letters → Bool
all_z [] = true
all_z (x ∷ xs) = x.z && all_z xs

-- "all z but one that is o"
abbrev pub all_z_but_one_o : List Letters → Bool
all_z_but_one_o [] = false
all_z_but_one_o (x ∷ xs) = (x.o && all_z xs) || (x.z && all_z_but_one_o xs)

-- "each other is Wdu"
abbrev pub all_wdu : List Letters → Bool
all_wdu [] = true
all_wdu (x ∷ xs) = (is_w x.base && (x.d && x.u)) && all_wdu xs

abbrev pub threshold_row : Letters → List Letters → Option Letters
threshold_row x xs =
    requiring ((is_b x.base && (x.d && x.u)) && all_wdu xs)
    (row B (all_z (x ∷ xs)) (all_z_but_one_o (x ∷ xs)) without with_it with_it)

-- Wrappers

abbrev pub a_row : Letters → Option Letters
a_row x = requiring (is_b x.base) (row W without without without x.d x.u)

abbrev pub s_row : Letters → Option Letters
s_row x = requiring (is_b x.base && x.o) (row W without without without x.d x.u)

abbrev pub c_row : Letters → Option Letters
c_row x = requiring (is_k x.base) (row B without x.o x.n x.d with_it)

-- u "in tapscript only"
abbrev pub d_row : Bool → Letters → Option Letters
d_row tapscript x = requiring (is_v x.base && x.z) (row B without with_it with_it with_it tapscript)

abbrev pub v_row : Letters → Option Letters
v_row x = requiring (is_b x.base) (row «V» x.z x.o x.n without without)

abbrev pub j_row : Letters → Option Letters
j_row x = requiring (is_b x.base && x.n) (row B without x.o with_it with_it x.u)

abbrev pub n_row : Letters → Option Letters
n_row x = requiring (is_b x.base) (row B x.z x.o x.n x.d with_it)

-- The letters of a type: "Zero is z, One is o, OneNonZero is o and n, AnyNonZero is n, Any is none"
abbrev pub letters : Correctness → Letters
letters c = row c.base (is_zero c.input) (takes_one c.input) (top_non_zero c.input) c.dissatisfiable c.unit

abbrev pub letters_given : Option Correctness → Option Letters
letters_given none = none
letters_given (some c) = some (letters c)
