-- The laws of the type rules that the theorems about reading stand on. Only this file opens a rule, for 1 and 2; 3 to 5 are laws of `correctness`. A changed rule that keeps these laws leaves the theorems standing.
-- 1. Which children and results are W: of a wrapper, a combination, and_or and a thresh (`wrapper_bases`, `combination_bases`, `and_or_bases`, `threshold_bases`, `leaf_base`).
-- 2. The first child of or_b, or_d, or_c, and_or and thresh is dissatisfiable (`first_dissatisfiable_lem`, `and_or_dissatisfiable`, `threshold_bases`).
-- 3. An and_v is never dissatisfiable (`and_v_not_dissatisfiable` of correctness/specs/AndVLaws.antt, cited as it is).
-- 4. and_v is associative where it is typed (`and_v_associative`).
-- 5. c:, v:, n: and and_b's first child commute with an and_v before them, and the type stays the same (`wrapper_floats`, `and_b_floats`).
use Rattle.std.specs.Prelude.{◌≡◌, refl, Bool, true, false, ◌&&◌, not, List, [], ◌∷◌, ℕ, ◌+◌, ◌≤◌, eqb, leb}
use Rattle.std.proofs.Common.{sym, ap, ◌∙◌, true≢false, arith, ne_eqb, leb-true}
use Rattle.std.proofs.Math.Option.{some}
use Rattle.base_input.specs.declared.Base.{Base}
use Rattle.base_input.specs.declared.Base.TheVariants.{B, K, «V», W}
use Rattle.base_input.specs.declared.Input.{Input}
use Rattle.correctness.specs.declared.Correctness.{Correctness}
use Rattle.correctness.specs.declared.ErrorKind.{ErrorKind}
use Rattle.correctness.specs.Typed.{Typed}
use Rattle.std.specs.Prelude.{Ok, Err}
use Rattle.base_input.specs.Tests.{is_b, is_k, is_v, is_w, equal_bkv, is_zero, takes_one, top_non_zero}
use Rattle.correctness.specs.AndVLaws as laws
use Rattle.correctness.specs.Rules.{check, is, given, onward, cast_alt, cast_swap, cast_check, cast_dupif, cast_verify, cast_nonzero, cast_zeronotequal, and_b, and_v, or_b, or_d, or_c, or_i, and_or, threshold_child, threshold_from, threshold, no_children, leaf_type}
use Rattle.tables.specs.Choose.{pick}
use Rattle.tables.proofs.BoolLaws.{left_true, right_true}
use Rattle.standard.specs.Tree as tree
use Rattle.standard.specs.Tree.{Wrapper, Combination, Leaf}
use Rattle.standard.specs.Allowed.{within}
use Rattle.standard.specs.RowForm.{floats}
use Rattle.standard.specs.Types.{wrapper_rule, combination_rule, typed_leaf}

-- tests and answers taken apart

pub within_range : (least n most : ℕ) → within least n most ≡ true → (least ≤ n) × (n ≤ most)
within_range least n most e = (leb-true least n (left_true (leb least n) (leb n most) e), leb-true n most (right_true (leb least n) (leb n most) e))

refused_not : {A : Type 0} (x : ErrorKind) (r : Correctness) → Err x ≡ Ok r → A
refused_not x r e = let z : ◌≡◌ {A = ℕ} 0 1 = cc in let b : ⊥ = omega arith in absurd b

pub checked : (b : Bool) (x : ErrorKind) (o : Typed) (r : Correctness) → check b x o ≡ Ok r → (b ≡ true) × (o ≡ Ok r)
checked true x o r e = (refl, e)
checked false x o r e = refused_not x r e

pub onward_is : (o : Typed) (f : Correctness → Typed) (r : Correctness) → onward o f ≡ Ok r → (c : Correctness) × (o ≡ Ok c) × (f c ≡ Ok r)
onward_is (Ok c) f r e = (c, refl, e)
onward_is (Err x) f r e = refused_not x r e

abbrev correct : Base → Input → Bool → Bool → Correctness
correct b i d u = record { base = b; input = i; dissatisfiable = d; unit = u }

made : (b : Base) (i : Input) (d u : Bool) (r : Correctness) → is b i d u ≡ Ok r → r ≡ correct b i d u
made b i d u r e = cc

made_base : (b : Base) (i : Input) (d u : Bool) (r : Correctness) → is b i d u ≡ Ok r → is_w r.base ≡ is_w b
made_base b i d u r e = rw (made b i d u r e)

b_not_w : (b : Base) → is_b b ≡ true → is_w b ≡ false
b_not_w B e = refl
b_not_w K e = refl
b_not_w «V» e = refl
b_not_w W e = sym e

k_not_w : (b : Base) → is_k b ≡ true → is_w b ≡ false
k_not_w B e = refl
k_not_w K e = refl
k_not_w «V» e = refl
k_not_w W e = sym e

v_not_w : (b : Base) → is_v b ≡ true → is_w b ≡ false
v_not_w B e = refl
v_not_w K e = refl
v_not_w «V» e = refl
v_not_w W e = sym e

not_not_w : (b : Base) → not (is_w b) ≡ true → is_w b ≡ false
not_not_w B e = refl
not_not_w K e = refl
not_not_w «V» e = refl
not_not_w W e = sym e

equal_not_w : (a b : Base) → equal_bkv a b ≡ true → (is_w a ≡ false) × (is_w b ≡ false)
equal_not_w B b e = (refl, b_not_w b e)
equal_not_w K b e = (refl, k_not_w b e)
equal_not_w «V» b e = (refl, v_not_w b e)
equal_not_w W b e = absurd (true≢false (sym e))

-- 1. Which are W

-- a: and s: give a W
abbrev pub gives_w : Wrapper → Bool
gives_w tree.alt = true
gives_w tree.swap = true
gives_w tree.check = false
gives_w tree.dupIf = false
gives_w tree.verify = false
gives_w tree.nonZero = false
gives_w tree.zeroNotEqual = false

-- and_b and or_b take a W as their second child
abbrev pub takes_w : Combination → Bool
takes_w tree.and_v = false
takes_w tree.and_b = true
takes_w tree.or_b = true
takes_w tree.or_d = false
takes_w tree.or_c = false
takes_w tree.or_i = false

pub wrapper_bases : (segwit : Bool) (w : Wrapper) (c r : Correctness) → wrapper_rule segwit w c ≡ Ok r → (is_w c.base ≡ false) × (is_w r.base ≡ gives_w w)
unfolding cast_alt cast_swap cast_check cast_dupif cast_verify cast_nonzero cast_zeronotequal
wrapper_bases segwit tree.alt c r e = let h = checked (is_b c.base) _ _ r e in (b_not_w c.base h.0, made_base _ _ _ _ r h.1)
wrapper_bases segwit tree.swap c r e =
    let h = checked (is_b c.base) _ _ r e in
    let g = checked (takes_one c.input) _ _ r h.1 in
    (b_not_w c.base h.0, made_base _ _ _ _ r g.1)
wrapper_bases segwit tree.check c r e = let h = checked (is_k c.base) _ _ r e in (k_not_w c.base h.0, made_base _ _ _ _ r h.1)
wrapper_bases segwit tree.dupIf c r e =
    let h = checked (is_v c.base) _ _ r e in
    let g = checked (is_zero c.input) _ _ r h.1 in
    (v_not_w c.base h.0, made_base _ _ _ _ r g.1)
wrapper_bases segwit tree.verify c r e = let h = checked (is_b c.base) _ _ r e in (b_not_w c.base h.0, made_base _ _ _ _ r h.1)
wrapper_bases segwit tree.nonZero c r e =
    let h = checked (top_non_zero c.input) _ _ r e in
    let g = checked (is_b c.base) _ _ r h.1 in
    (b_not_w c.base g.0, made_base _ _ _ _ r g.1)
wrapper_bases segwit tree.zeroNotEqual c r e = let h = checked (is_b c.base) _ _ r e in (b_not_w c.base h.0, made_base _ _ _ _ r h.1)

pub combination_bases : (k : Combination) (a b r : Correctness) → combination_rule k a b ≡ Ok r → (is_w a.base ≡ false) × ((is_w b.base ≡ takes_w k) × (is_w r.base ≡ false))
unfolding and_b and_v or_b or_d or_c or_i
combination_bases tree.and_v a b r e =
    let h = checked (is_v a.base && not (is_w b.base)) _ _ r e in
    let w = not_not_w b.base (right_true (is_v a.base) _ h.0) in
    (v_not_w a.base (left_true (is_v a.base) _ h.0), (w, made_base _ _ _ _ r h.1 ∙ w))
combination_bases tree.and_b a b r e =
    let h = checked (is_b a.base && is_w b.base) _ _ r e in
    (b_not_w a.base (left_true (is_b a.base) _ h.0), (right_true (is_b a.base) _ h.0, made_base _ _ _ _ r h.1))
combination_bases tree.or_b a b r e =
    let f = checked a.dissatisfiable _ _ r e in
    let g = checked b.dissatisfiable _ _ r f.1 in
    let h = checked (is_b a.base && is_w b.base) _ _ r g.1 in
    (b_not_w a.base (left_true (is_b a.base) _ h.0), (right_true (is_b a.base) _ h.0, made_base _ _ _ _ r h.1))
combination_bases tree.or_d a b r e =
    let f = checked a.dissatisfiable _ _ r e in
    let g = checked a.unit _ _ r f.1 in
    let h = checked (is_b a.base && is_b b.base) _ _ r g.1 in
    (b_not_w a.base (left_true (is_b a.base) _ h.0), (b_not_w b.base (right_true (is_b a.base) _ h.0), made_base _ _ _ _ r h.1))
combination_bases tree.or_c a b r e =
    let f = checked a.dissatisfiable _ _ r e in
    let g = checked a.unit _ _ r f.1 in
    let h = checked (is_b a.base && is_v b.base) _ _ r g.1 in
    (b_not_w a.base (left_true (is_b a.base) _ h.0), (v_not_w b.base (right_true (is_b a.base) _ h.0), made_base _ _ _ _ r h.1))
combination_bases tree.or_i a b r e =
    let h = checked (equal_bkv a.base b.base) _ _ r e in
    let w = equal_not_w a.base b.base h.0 in
    (w.0, (w.1, made_base _ _ _ _ r h.1 ∙ w.0))

pub and_or_bases : (a b c r : Correctness) → and_or a b c ≡ Ok r → (is_w a.base ≡ false) × ((is_w b.base ≡ false) × ((is_w c.base ≡ false) × (is_w r.base ≡ false)))
unfolding and_or
and_or_bases a b c r e =
    let f = checked a.dissatisfiable _ _ r e in
    let g = checked a.unit _ _ r f.1 in
    let h = checked (is_b a.base && equal_bkv b.base c.base) _ _ r g.1 in
    let w = equal_not_w b.base c.base (right_true (is_b a.base) _ h.0) in
    (b_not_w a.base (left_true (is_b a.base) _ h.0), (w.0, (w.1, made_base _ _ _ _ r h.1 ∙ w.0)))

-- each of these is W
abbrev pub AllW : List Correctness → Type 0
AllW [] = Unit {0}
AllW (c ∷ cs) = (is_w c.base ≡ true) × AllW cs

next_child : (i : ℕ) → eqb (i + 1) 0 ≡ false
next_child i = ne_eqb (i + 1) 0 (λ e. let e' : i + 1 ≡ 0 = e in omega arith)

further_child : (i : ℕ) (so_far c r : Correctness) → eqb i 0 ≡ false → threshold_child i so_far c ≡ Ok r → (is_w c.base ≡ true) × (is_w r.base ≡ false)
unfolding threshold_child
further_child i so_far c r n e =
    let f = checked (pick (eqb i 0) (is_b c.base) (is_w c.base)) _ _ r e in
    let g = checked c.unit _ _ r f.1 in
    let h = checked c.dissatisfiable _ _ r g.1 in
    (rw n at f.0, made_base _ _ _ _ r h.1)

first_child : (so_far c r : Correctness) → threshold_child 0 so_far c ≡ Ok r → (is_w c.base ≡ false) × ((c.dissatisfiable ≡ true) × (is_w r.base ≡ false))
unfolding threshold_child
first_child so_far c r e =
    let f = checked (is_b c.base) _ _ r e in
    let g = checked c.unit _ _ r f.1 in
    let h = checked c.dissatisfiable _ _ r g.1 in
    (b_not_w c.base f.0, (h.0, made_base _ _ _ _ r h.1))

further_children : (i : ℕ) (so_far : Correctness) (cs : List Correctness) (r : Correctness) → eqb i 0 ≡ false → is_w so_far.base ≡ false → threshold_from i so_far cs ≡ Ok r → AllW cs × (is_w r.base ≡ false)
further_children i so_far [] r n w e = let q : so_far ≡ r = cc in (tt, rw q at w)
further_children i so_far (c ∷ cs) r n w e =
    let h = onward_is (threshold_child i so_far c) (λ next. threshold_from (i + 1) next cs) r e in
    let f = further_child i so_far c h.0 n h.1 in
    let g = further_children (i + 1) h.0 cs r (next_child i) f.1 h.2 in
    ((f.0, g.0), g.1)

-- a thresh's first child is no W and dissatisfiable (2.), each other is W, and the thresh is none
pub threshold_bases : (c : Correctness) (cs : List Correctness) (r : Correctness) → threshold (c ∷ cs) ≡ Ok r → (is_w c.base ≡ false) × ((c.dissatisfiable ≡ true) × (AllW cs × (is_w r.base ≡ false)))
unfolding threshold
threshold_bases c cs r e =
    let h = onward_is (threshold_child 0 no_children c) (λ next. threshold_from (0 + 1) next cs) r e in
    let f = first_child no_children c h.0 h.1 in
    let g = further_children (0 + 1) h.0 cs r refl f.1.1 h.2 in
    (f.0, (f.1.0, (g.0, g.1)))

pub leaf_base : (l : Leaf) → is_w (leaf_type (typed_leaf l)).base ≡ false
leaf_base tree.True = refl
leaf_base tree.False = refl
leaf_base (tree.PkK k) = refl
leaf_base (tree.RawPkH d) = refl
leaf_base (tree.After n) = refl
leaf_base (tree.Older n) = refl
leaf_base (tree.HashLock h d) = refl
leaf_base (tree.Multi k ks) = refl
leaf_base (tree.MultiA k d ds) = refl

-- 2. The first child is dissatisfiable

abbrev pub first_dissatisfiable : Combination → Bool
first_dissatisfiable tree.and_v = false
first_dissatisfiable tree.and_b = false
first_dissatisfiable tree.or_b = true
first_dissatisfiable tree.or_d = true
first_dissatisfiable tree.or_c = true
first_dissatisfiable tree.or_i = false

pub first_dissatisfiable_lem : (k : Combination) (a b r : Correctness) → combination_rule k a b ≡ Ok r → first_dissatisfiable k ≡ true → a.dissatisfiable ≡ true
unfolding or_b or_d or_c
first_dissatisfiable_lem tree.and_v a b r e h = absurd (true≢false (sym h))
first_dissatisfiable_lem tree.and_b a b r e h = absurd (true≢false (sym h))
first_dissatisfiable_lem tree.or_b a b r e h = (checked a.dissatisfiable _ _ r e).0
first_dissatisfiable_lem tree.or_d a b r e h = (checked a.dissatisfiable _ _ r e).0
first_dissatisfiable_lem tree.or_c a b r e h = (checked a.dissatisfiable _ _ r e).0
first_dissatisfiable_lem tree.or_i a b r e h = absurd (true≢false (sym h))

pub and_or_dissatisfiable : (a b c r : Correctness) → and_or a b c ≡ Ok r → a.dissatisfiable ≡ true
unfolding and_or
and_or_dissatisfiable a b c r e = (checked a.dissatisfiable _ _ r e).0

-- 4. and_v is associative: a law of `correctness`, read from the right-nested chain to the left-nested one

given_is : (o : Typed) (r : Correctness) → given o ≡ some r → o ≡ Ok r
given_is (Ok c) r e = let h : c ≡ r = cc in ap (λ (x : Correctness). Ok x) h
given_is (Err x) r e = let z : ◌≡◌ {A = ℕ} 0 1 = cc in let b : ⊥ = omega arith in absurd b

given_onward : (o : Typed) (f : Correctness → Typed) (r : Correctness) → given (onward o f) ≡ some r → (c : Correctness) × (o ≡ Ok c) × (f c ≡ Ok r)
given_onward (Ok c) f r e = (c, refl, given_is (f c) r e)
given_onward (Err x) f r e = let z : ◌≡◌ {A = ℕ} 0 1 = cc in let b : ⊥ = omega arith in absurd b

-- a type that is given one way is given the other way
commuted : (o q : Typed) (f g : Correctness → Typed) → given (onward o f) ≡ given (onward q g) → (y r : Correctness) → q ≡ Ok y → g y ≡ Ok r → (w : Correctness) × (o ≡ Ok w) × (f w ≡ Ok r)
commuted o q f g law y r e h = given_onward o f r (law ∙ rw (e, h))

pub and_v_associative : (a v x y r : Correctness) → and_v v x ≡ Ok y → and_v a y ≡ Ok r → (w : Correctness) × (and_v a v ≡ Ok w) × (and_v w x ≡ Ok r)
and_v_associative a v x y r e f = commuted (and_v a v) (and_v v x) (λ w. and_v w x) (λ z. and_v a z) (laws.and_v_associates a v x) y r e f

-- 5. What an and_v floats out of, with the same type: laws of `correctness`

-- c:, v: and n:
pub wrapper_floats : (segwit : Bool) (w : Wrapper) → floats w ≡ true → (v x y r : Correctness) → and_v v x ≡ Ok y → wrapper_rule segwit w y ≡ Ok r
    → (z : Correctness) × (wrapper_rule segwit w x ≡ Ok z) × (and_v v z ≡ Ok r)
wrapper_floats segwit tree.alt n v x y r e f = absurd (true≢false (sym n))
wrapper_floats segwit tree.swap n v x y r e f = absurd (true≢false (sym n))
wrapper_floats segwit tree.check n v x y r e f = commuted (cast_check x) (and_v v x) (λ z. and_v v z) cast_check (sym (laws.and_v_commutes cast_check laws.check_keeps v x)) y r e f
wrapper_floats segwit tree.dupIf n v x y r e f = absurd (true≢false (sym n))
wrapper_floats segwit tree.verify n v x y r e f = commuted (cast_verify x) (and_v v x) (λ z. and_v v z) cast_verify (sym (laws.and_v_commutes cast_verify laws.verify_keeps v x)) y r e f
wrapper_floats segwit tree.nonZero n v x y r e f = absurd (true≢false (sym n))
wrapper_floats segwit tree.zeroNotEqual n v x y r e f = commuted (cast_zeronotequal x) (and_v v x) (λ z. and_v v z) cast_zeronotequal (sym (laws.and_v_commutes cast_zeronotequal laws.zeronotequal_keeps v x)) y r e f

pub and_b_floats : (v x y b r : Correctness) → and_v v x ≡ Ok y → and_b y b ≡ Ok r → (z : Correctness) × (and_b x b ≡ Ok z) × (and_v v z ≡ Ok r)
and_b_floats v x y b r e f = commuted (and_b x b) (and_v v x) (λ z. and_v v z) (λ z. and_b z b) (sym (laws.and_b_commutes v x b)) y r e f
