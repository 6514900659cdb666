-- Each rule of correctness.rs gives a type exactly when BIP 379's row does, and it is the row's. A child of c: must be sound (a K is never Zero).
-- The one exception is d: in tapscript, where BIP 379 gives u and the crate doesn't. Assumes nothing.
use Rattle.std.specs.Prelude.{◌≡◌, refl, Bool, true, false, ◌&&◌, ◌||◌, not, List, [], ◌∷◌, map, ℕ, suc, ◌+◌, eqb}
use Rattle.std.proofs.Common.{sym, ap, ◌∙◌, add-one, arith, ne_eqb}
use Rattle.std.proofs.Math.Bool.{and-false, and-true, or-false}
use Rattle.std.proofs.Math.Option.{Option, none, some}
use Rattle.tables.specs.Choose.{pick}
use Rattle.base_input.specs.declared.Base.{Base}
use Rattle.base_input.specs.declared.Base.TheVariants.{B, «V»}
use Rattle.base_input.specs.declared.Input.{Input}
use Rattle.base_input.specs.declared.Input.TheVariants.{Zero, One, Any, OneNonZero, AnyNonZero}
use Rattle.base_input.specs.Tests.{is_b, is_k, is_v, is_w, equal_bkv, is_zero, takes_one, top_non_zero}
use Rattle.base_input.specs.Inputs.{and_input, or_else_input, or_input, either_input, and_or_input}
use Rattle.base_input.specs.LetterLaws.{InputLetters, input_letters, and_letters, or_letters, or_else_letters, either_letters, and_or_letters}
use Rattle.correctness.specs.declared.Correctness.{Correctness}
use Rattle.correctness.specs.declared.ErrorKind.{ErrorKind}
use Rattle.correctness.specs.declared.ErrorKind.TheVariants.{ThresholdBase, ThresholdNonUnit, ThresholdDissat}
use Rattle.correctness.specs.declared.Leaf.{Leaf}
use Rattle.correctness.specs.declared.Leaf.TheVariants as leaf
use Rattle.correctness.specs.Typed.{Typed}
use Rattle.std.specs.Prelude.{Ok}
use Rattle.correctness.specs.Rules.{check, made, is, given, onward, leaf_type, cast_alt, cast_swap, cast_check, cast_dupif, cast_verify, cast_nonzero, cast_zeronotequal, and_b, and_v, or_b, or_d, or_c, or_i, and_or, threshold_child, threshold_from, threshold}
use Rattle.correctness.specs.Sanity.{Sound}
use Rattle.correctness.specs.Bip379.{Letters, row, requiring, leaf_row, andor_row, and_v_row, and_b_row, or_b_row, or_c_row, or_d_row, or_i_row, all_z, all_z_but_one_o, all_wdu, threshold_row, a_row, s_row, c_row, d_row, v_row, j_row, n_row, letters, letters_given}
use Rattle.correctness.proofs.SanityLaws.{k_never_zero}

-- An answer in letters
abbrev answered : Typed → Option Letters
answered t = letters_given (given t)

-- Checks are the column "requires"

once : (a : Bool) (e : ErrorKind) (t : Correctness) → answered (check a e (Ok t)) ≡ requiring a (letters t)
once true e t = refl
once false e t = refl

twice : (a b : Bool) (e f : ErrorKind) (t : Correctness) → answered (check a e (check b f (Ok t))) ≡ requiring (a && b) (letters t)
twice true b e f t = once b f t
twice false b e f t = refl

-- the same with the tests grouped as the table has them, and the type in the table's letters
once_row : (a : Bool) (e : ErrorKind) (t : Correctness) {l : Letters} → letters t ≡ l → answered (check a e (Ok t)) ≡ requiring a l
once_row a e t h = once a e t ∙ ap (requiring a) h

thrice : (a b c : Bool) (e f g : ErrorKind) (t : Correctness) → answered (check a e (check b f (check c g (Ok t)))) ≡ requiring (a && (b && c)) (letters t)
thrice true b c e f g t = twice b c f g t
thrice false b c e f g t = refl

-- a type in letters, from the letters of its input
lettered : (b : Base) (i : Input) (d u : Bool) {l : InputLetters} → input_letters i ≡ l → letters (made b i d u) ≡ row b l.z l.o l.n d u
lettered b i d u e = ap (λ (l : InputLetters). row b l.z l.o l.n d u) e

thrice_row : (a b c q : Bool) (e f g : ErrorKind) (t : Correctness) {l : Letters} → (a && (b && c)) ≡ q → letters t ≡ l → answered (check a e (check b f (check c g (Ok t)))) ≡ requiring q l
thrice_row a b c q e f g t {l} h k = thrice a b c e f g t ∙ ap (λ (x : Bool). requiring x (letters t)) h ∙ ap (requiring q) k

-- The table groups the tests otherwise than the rules do

-- x's d, then u, then both bases
first_du : (d u b c : Bool) → (d && (u && (b && c))) ≡ ((b && (d && u)) && c)
first_du true true true c = refl
first_du true true false c = refl
first_du true false true c = refl
first_du true false false c = refl
first_du false u true c = refl
first_du false u false c = refl

-- x's d, then z's, then both bases
both_d : (d e b c : Bool) → (d && (e && (b && c))) ≡ ((b && d) && (c && e))
both_d true true true c = sym (and-true c)
both_d true true false c = refl
both_d true false true c = sym (and-false c)
both_d true false false c = refl
both_d false e true c = refl
both_d false e false c = refl

-- Leaves

pub leaf_agrees : (l : Leaf) → letters (leaf_type l) ≡ leaf_row l
leaf_agrees leaf.True = refl
leaf_agrees leaf.False = refl
leaf_agrees leaf.PkK = refl
leaf_agrees leaf.RawPkH = refl
leaf_agrees leaf.Time = refl
leaf_agrees leaf.Hash = refl
leaf_agrees leaf.Multi = refl
leaf_agrees leaf.MultiA = refl

-- Wrappers

pub alt_agrees : (x : Correctness) → letters_given (given (cast_alt x)) ≡ a_row (letters x)
unfolding cast_alt
alt_agrees x = once (is_b x.base) _ _

pub swap_agrees : (x : Correctness) → letters_given (given (cast_swap x)) ≡ s_row (letters x)
unfolding cast_swap
swap_agrees x = twice (is_b x.base) (takes_one x.input) _ _ _

-- where X is K, it isn't z
check_by_test : (t : Bool) (e : ErrorKind) (i : Input) (d : Bool) → (t ≡ true → is_zero i ≡ false) → answered (check t e (is B i d true)) ≡ requiring t (row B false (takes_one i) (top_non_zero i) d true)
check_by_test true e i d h = ap (λ (z : Bool). some (row B z (takes_one i) (top_non_zero i) d true)) (h refl)
check_by_test false e i d h = refl

pub check_agrees : (x : Correctness) → Sound x → letters_given (given (cast_check x)) ≡ c_row (letters x)
unfolding cast_check
check_agrees x s = check_by_test (is_k x.base) _ x.input x.dissatisfiable (λ h. k_never_zero x h s)

-- segwit
pub dupif_agrees : (x : Correctness) → letters_given (given (cast_dupif x)) ≡ d_row false (letters x)
unfolding cast_dupif
dupif_agrees x = twice (is_v x.base) (is_zero x.input) _ _ _

-- u set, the rest as it is
abbrev pub with_u : Option Letters → Option Letters
with_u none = none
with_u (some l) = some (row l.base l.z l.o l.n l.d true)

dupif_by_test : (t : Bool) → requiring t (row B false true true true true) ≡ with_u (requiring t (row B false true true true false))
dupif_by_test true = refl
dupif_by_test false = refl

-- tapscript: the exception. BIP 379's row is ours with u
pub dupif_in_tapscript : (x : Correctness) → d_row true (letters x) ≡ with_u (letters_given (given (cast_dupif x)))
dupif_in_tapscript x = dupif_by_test (is_v x.base && is_zero x.input) ∙ ap with_u (sym (dupif_agrees x))

pub verify_agrees : (x : Correctness) → letters_given (given (cast_verify x)) ≡ v_row (letters x)
unfolding cast_verify
verify_agrees x = once (is_b x.base) _ _

-- the test on the input first: where it is n, it isn't z
nonzero_by_input : (i : Input) (b u : Bool) (e f : ErrorKind) → answered (check (top_non_zero i) e (check b f (is B i true u))) ≡ requiring (b && top_non_zero i) (row B false (takes_one i) true true u)
nonzero_by_input Zero true u e f = refl
nonzero_by_input Zero false u e f = refl
nonzero_by_input One true u e f = refl
nonzero_by_input One false u e f = refl
nonzero_by_input Any true u e f = refl
nonzero_by_input Any false u e f = refl
nonzero_by_input OneNonZero true u e f = refl
nonzero_by_input OneNonZero false u e f = refl
nonzero_by_input AnyNonZero true u e f = refl
nonzero_by_input AnyNonZero false u e f = refl

pub nonzero_agrees : (x : Correctness) → letters_given (given (cast_nonzero x)) ≡ j_row (letters x)
unfolding cast_nonzero
nonzero_agrees x = nonzero_by_input x.input (is_b x.base) x.unit _ _

pub zeronotequal_agrees : (x : Correctness) → letters_given (given (cast_zeronotequal x)) ≡ n_row (letters x)
unfolding cast_zeronotequal
zeronotequal_agrees x = once (is_b x.base) _ _

-- Combinations

pub and_v_agrees : (x y : Correctness) → letters_given (given (and_v x y)) ≡ and_v_row (letters x) (letters y)
unfolding and_v
and_v_agrees x y =
    once_row (is_v x.base && not (is_w y.base)) _ _
    (lettered y.base (and_input x.input y.input) false y.unit (and_letters x.input y.input))

pub and_b_agrees : (x y : Correctness) → letters_given (given (and_b x y)) ≡ and_b_row (letters x) (letters y)
unfolding and_b
and_b_agrees x y =
    once_row (is_b x.base && is_w y.base) _ _
    (lettered B (and_input x.input y.input) (x.dissatisfiable && y.dissatisfiable) true (and_letters x.input y.input))

pub or_b_agrees : (x z : Correctness) → letters_given (given (or_b x z)) ≡ or_b_row (letters x) (letters z)
unfolding or_b
or_b_agrees x z =
    thrice_row x.dissatisfiable z.dissatisfiable (is_b x.base && is_w z.base) _ _ _ _ _
    (both_d x.dissatisfiable z.dissatisfiable (is_b x.base) (is_w z.base))
    (lettered B (or_input x.input z.input) true true (or_letters x.input z.input))

pub or_d_agrees : (x z : Correctness) → letters_given (given (or_d x z)) ≡ or_d_row (letters x) (letters z)
unfolding or_d
or_d_agrees x z =
    thrice_row x.dissatisfiable x.unit (is_b x.base && is_b z.base) _ _ _ _ _
    (first_du x.dissatisfiable x.unit (is_b x.base) (is_b z.base))
    (lettered B (or_else_input x.input z.input) z.dissatisfiable z.unit (or_else_letters x.input z.input))

pub or_c_agrees : (x z : Correctness) → letters_given (given (or_c x z)) ≡ or_c_row (letters x) (letters z)
unfolding or_c
or_c_agrees x z =
    thrice_row x.dissatisfiable x.unit (is_b x.base && is_v z.base) _ _ _ _ _
    (first_du x.dissatisfiable x.unit (is_b x.base) (is_v z.base))
    (lettered «V» (or_else_input x.input z.input) false false (or_else_letters x.input z.input))

pub or_i_agrees : (x z : Correctness) → letters_given (given (or_i x z)) ≡ or_i_row (letters x) (letters z)
unfolding or_i
or_i_agrees x z =
    once_row (equal_bkv x.base z.base) _ _
    (lettered x.base (either_input x.input z.input) (x.dissatisfiable || z.dissatisfiable) (x.unit && z.unit) (either_letters x.input z.input))

pub and_or_agrees : (x y z : Correctness) → letters_given (given (and_or x y z)) ≡ andor_row (letters x) (letters y) (letters z)
unfolding and_or
and_or_agrees x y z =
    thrice_row x.dissatisfiable x.unit (is_b x.base && equal_bkv y.base z.base) _ _ _ _ _
    (first_du x.dissatisfiable x.unit (is_b x.base) (equal_bkv y.base z.base))
    (lettered y.base (and_or_input x.input y.input z.input) z.dissatisfiable (y.unit && z.unit) (and_or_letters x.input y.input z.input))

-- The threshold, child by child: the letters of the children before stand in the input so far

so_far : Input → Correctness
so_far j = made B j true true

-- the row of a thresh after children whose input is j, with "all z" and "all z but one that is o" of those still to come
abbrev after : Input → Bool → Bool → Letters
after j z o = row B (is_zero j && z) ((takes_one j && z) || (is_zero j && o)) false true true

one_more : (j i : Input) (z o : Bool) → after (or_input j i) z o ≡ after j (is_zero i && z) ((takes_one i && z) || (is_zero i && o))
one_more Zero Zero z o = refl
one_more Zero One z o = refl
one_more Zero Any z o = refl
one_more Zero OneNonZero z o = refl
one_more Zero AnyNonZero z o = refl
one_more One Zero z o = refl
one_more One One z o = refl
one_more One Any z o = refl
one_more One OneNonZero z o = refl
one_more One AnyNonZero z o = refl
one_more Any Zero z o = refl
one_more Any One z o = refl
one_more Any Any z o = refl
one_more Any OneNonZero z o = refl
one_more Any AnyNonZero z o = refl
one_more OneNonZero Zero z o = refl
one_more OneNonZero One z o = refl
one_more OneNonZero Any z o = refl
one_more OneNonZero OneNonZero z o = refl
one_more OneNonZero AnyNonZero z o = refl
one_more AnyNonZero Zero z o = refl
one_more AnyNonZero One z o = refl
one_more AnyNonZero Any z o = refl
one_more AnyNonZero OneNonZero z o = refl
one_more AnyNonZero AnyNonZero z o = refl

none_more : (j : Input) → top_non_zero j ≡ false → letters (so_far j) ≡ after j true false
unfolding so_far
none_more j h = rw (h, and-true (is_zero j), and-true (takes_one j), and-false (is_zero j), or-false (takes_one j))

-- a child that passes its three tests hands on; one that fails ends
child : (a b c : Bool) (e f g : ErrorKind) (t : Correctness) (rule : Correctness → Typed) (r : Bool) (l : Letters) → answered (rule t) ≡ requiring r l
    → answered (onward (check a e (check b f (check c g (Ok t)))) rule) ≡ requiring ((a && (c && b)) && r) l
child true true true e f g t rule r l h = h
child true true false e f g t rule r l h = refl
child true false true e f g t rule r l h = refl
child true false false e f g t rule r l h = refl
child false b c e f g t rule r l h = refl

-- every child after the first is tested to be a W
later : (i : ℕ) (b : Base) → pick (eqb (suc i) 0) (is_b b) (is_w b) ≡ is_w b
later i b = ap (λ (t : Bool). pick t (is_b b) (is_w b)) (ne_eqb (suc i) 0 (λ e. omega arith))

others : (i : ℕ) (j : Input) (cs : List Correctness) → top_non_zero j ≡ false
    → answered (threshold_from (suc i) (so_far j) cs) ≡ requiring (all_wdu (map letters cs)) (after j (all_z (map letters cs)) (all_z_but_one_o (map letters cs)))
unfolding threshold_child so_far
others i j [] h = ap some (none_more j h)
others i j (c ∷ cs) h =
    let k = or_input j c.input in
    ap (λ (t : Bool). answered (onward (check t ThresholdBase (check c.unit ThresholdNonUnit (check c.dissatisfiable ThresholdDissat (Ok (so_far k))))) (λ next. threshold_from (suc i + 1) next cs))) (later i c.base)
    ∙ child (is_w c.base) c.unit c.dissatisfiable _ _ _ (so_far k) (λ next. threshold_from (suc i + 1) next cs) (all_wdu (map letters cs)) _
    (ap (λ (n : ℕ). answered (threshold_from n (so_far k) cs)) (add-one (suc i))
    ∙ others (suc i) k cs (ap (λ (l : InputLetters). l.n) (or_letters j c.input))
    ∙ ap (requiring (all_wdu (map letters cs))) (one_more j c.input (all_z (map letters cs)) (all_z_but_one_o (map letters cs))))

pub threshold_agrees : (x : Correctness) (xs : List Correctness) → letters_given (given (threshold (x ∷ xs))) ≡ threshold_row (letters x) (map letters xs)
unfolding threshold threshold_child so_far
threshold_agrees x xs =
    let k = or_input Zero x.input in
    child (is_b x.base) x.unit x.dissatisfiable _ _ _ (so_far k) (λ next. threshold_from 1 next xs) (all_wdu (map letters xs)) _
    (others 0 k xs (ap (λ (l : InputLetters). l.n) (or_letters Zero x.input))
    ∙ ap (requiring (all_wdu (map letters xs))) (one_more Zero x.input (all_z (map letters xs)) (all_z_but_one_o (map letters xs))))
