-- The sanity checks of correctness.rs hold of each leaf's type, and each rule keeps them. Assumes nothing.
use Rattle.std.specs.Prelude.{◌≡◌, refl, Bool, true, false, ◌&&◌, not, List, [], ◌∷◌, ℕ, ◌+◌, eqb}
use Rattle.std.proofs.Common.{true≢false}
use Rattle.std.proofs.lemmas.Bool.{false≢true, not-true}
use Rattle.tables.specs.Choose.{pick}
use Rattle.tables.proofs.BoolLaws.{left_true, right_true}
use Rattle.base_input.specs.declared.Base.{Base}
use Rattle.base_input.specs.declared.Base.TheVariants.{B, K, «V», W}
use Rattle.base_input.specs.declared.Input.{Input}
use Rattle.base_input.specs.declared.Input.TheVariants.{One, Any}
use Rattle.base_input.specs.Tests.{is_b, is_k, is_v, is_w, equal_bkv, is_zero, takes_one, top_non_zero}
use Rattle.base_input.specs.Inputs.{and_input, either_input, and_or_input}
use Rattle.base_input.specs.InputLaws.{and_zero_right}
use Rattle.correctness.specs.declared.Correctness.{Correctness}
use Rattle.correctness.specs.declared.ErrorKind.{ErrorKind}
use Rattle.correctness.specs.declared.Leaf.{Leaf}
use Rattle.correctness.specs.declared.Leaf.TheVariants as leaf
use Rattle.correctness.specs.Typed.{Typed}
use Rattle.std.specs.Prelude.{Ok, Err}
use Rattle.correctness.specs.Rules.{check, made, is, onward, leaf_type, cast_alt, cast_swap, cast_check, cast_dupif, cast_verify, cast_nonzero, cast_zeronotequal, cast_true, cast_or_i_false, and_b, and_v, or_b, or_d, or_c, or_i, and_or, no_children, threshold_child, threshold_from, threshold}
use Rattle.correctness.specs.Sanity.{sane, Sound, SoundAnswer}

-- Leaves

pub leaf_sound : (l : Leaf) → Sound (leaf_type l)
leaf_sound leaf.True = refl
leaf_sound leaf.False = refl
leaf_sound leaf.PkK = refl
leaf_sound leaf.RawPkH = refl
leaf_sound leaf.Time = refl
leaf_sound leaf.Hash = refl
leaf_sound leaf.Multi = refl
leaf_sound leaf.MultiA = refl

-- Whatever a check lets through

checked : (b : Bool) (e : ErrorKind) (t : Typed) → (b ≡ true → SoundAnswer t) → SoundAnswer (check b e t)
checked true e t s = s refl
checked false e t s = tt

always : (b : Bool) (e : ErrorKind) (t : Typed) → SoundAnswer t → SoundAnswer (check b e t)
always b e t s = checked b e t (λ h. s)

-- Casts

pub alt_sound : (c : Correctness) → SoundAnswer (cast_alt c)
unfolding cast_alt
alt_sound c = always (is_b c.base) _ _ refl

pub swap_sound : (c : Correctness) → SoundAnswer (cast_swap c)
unfolding cast_swap
swap_sound c = always (is_b c.base) _ _ (always (takes_one c.input) _ _ refl)

pub check_sound : (c : Correctness) → SoundAnswer (cast_check c)
unfolding cast_check
check_sound c = always (is_k c.base) _ _ refl

pub dupif_sound : (c : Correctness) → SoundAnswer (cast_dupif c)
unfolding cast_dupif
dupif_sound c = always (is_v c.base) _ _ (always (is_zero c.input) _ _ refl)

pub verify_sound : (c : Correctness) → SoundAnswer (cast_verify c)
unfolding cast_verify
verify_sound c = always (is_b c.base) _ _ refl

pub nonzero_sound : (c : Correctness) → SoundAnswer (cast_nonzero c)
unfolding cast_nonzero
nonzero_sound c = always (top_non_zero c.input) _ _ (always (is_b c.base) _ _ refl)

pub zeronotequal_sound : (c : Correctness) → SoundAnswer (cast_zeronotequal c)
unfolding cast_zeronotequal
zeronotequal_sound c = always (is_b c.base) _ _ refl

pub true_sound : (c : Correctness) → SoundAnswer (cast_true c)
unfolding cast_true
true_sound c = always (is_v c.base) _ _ refl

pub or_i_false_sound : (c : Correctness) → SoundAnswer (cast_or_i_false c)
unfolding cast_or_i_false
or_i_false_sound c = always (is_b c.base) _ _ refl

-- Combinations

pub and_b_sound : (x y : Correctness) → SoundAnswer (and_b x y)
unfolding and_b
and_b_sound x y = always (is_b x.base && is_w y.base) _ _ refl

pub or_b_sound : (x z : Correctness) → SoundAnswer (or_b x z)
unfolding or_b
or_b_sound x z = always x.dissatisfiable _ _ (always z.dissatisfiable _ _ (always (is_b x.base && is_w z.base) _ _ refl))

pub or_d_sound : (x z : Correctness) → SoundAnswer (or_d x z)
unfolding or_d
or_d_sound x z = always x.dissatisfiable _ _ (always x.unit _ _ (always (is_b x.base && is_b z.base) _ _ refl))

pub or_c_sound : (x z : Correctness) → SoundAnswer (or_c x z)
unfolding or_c
or_c_sound x z = always x.dissatisfiable _ _ (always x.unit _ _ (always (is_b x.base && is_v z.base) _ _ refl))

-- the input of a K is not Zero, and it is unit
k_parts : (i : Input) (d u : Bool) → Sound (made K i d u) → (u ≡ true) × (is_zero i ≡ false)
k_parts i d u s = (left_true u _ s, not-true (is_zero i) (right_true u _ s))

pub k_never_zero : (c : Correctness) → is_k c.base ≡ true → Sound c → is_zero c.input ≡ false
k_never_zero c = by_base c.base
  where
    by_base : (b : Base) → is_k b ≡ true → sane b c.input c.dissatisfiable c.unit ≡ true → is_zero c.input ≡ false
    by_base B h s = absurd (false≢true h)
    by_base K h s = not-true (is_zero c.input) (right_true c.unit _ s)
    by_base «V» h s = absurd (false≢true h)
    by_base W h s = absurd (false≢true h)

and_v_by_base : (t : Bool) (e : ErrorKind) (i j : Input) (d u : Bool) (b : Base) → (t ≡ true → is_w b ≡ false) → Sound (made b j d u) → SoundAnswer (check t e (is b (and_input i j) false u))
and_v_by_base t e i j d u B w s = always t e _ refl
and_v_by_base t e i j d u K w s = let h = k_parts j d u s in always t e _ (rw (h.0, and_zero_right i j h.1))
and_v_by_base t e i j d u «V» w s = let h : not u ≡ true = left_true (not u) _ s in always t e _ (rw h)
and_v_by_base t e i j d u W w s = checked t e _ (λ h. absurd (true≢false (w h)))

pub and_v_sound : (x y : Correctness) → Sound y → SoundAnswer (and_v x y)
unfolding and_v
and_v_sound x y s =
    and_v_by_base (is_v x.base && not (is_w y.base)) _ x.input y.input y.dissatisfiable y.unit y.base
    (λ h. not-true (is_w y.base) (right_true (is_v x.base) _ h)) s

one_or_any_not_zero : (t : Bool) → is_zero (pick t One Any) ≡ false
one_or_any_not_zero true = refl
one_or_any_not_zero false = refl

either_not_zero : (i j : Input) → is_zero (either_input i j) ≡ false
either_not_zero i j = one_or_any_not_zero (is_zero i && is_zero j)

or_i_by_bases : (i j : Input) (d e u v : Bool) (a b : Base) → Sound (made a i d u) → Sound (made b j e v) → SoundAnswer (or_i (made a i d u) (made b j e v))
unfolding or_i
or_i_by_bases i j d e u v B b s t = always (is_b b) _ _ refl
or_i_by_bases i j d e u v K K s t = let h = k_parts i d u s in let k = k_parts j e v t in rw (h.0, k.0, either_not_zero i j)
or_i_by_bases i j d e u v K B s t = tt
or_i_by_bases i j d e u v K «V» s t = tt
or_i_by_bases i j d e u v K W s t = tt
or_i_by_bases i j d e u v «V» «V» s t =
    let a : u ≡ false = not-true u (left_true (not u) _ s) in
    let b : d ≡ false = not-true d (right_true (not u) _ s) in
    let c : e ≡ false = not-true e (right_true (not v) _ t) in
    rw (a, b, c)
or_i_by_bases i j d e u v «V» B s t = tt
or_i_by_bases i j d e u v «V» K s t = tt
or_i_by_bases i j d e u v «V» W s t = tt
or_i_by_bases i j d e u v W b s t = tt

pub or_i_sound : (x z : Correctness) → Sound x → Sound z → SoundAnswer (or_i x z)
or_i_sound x z s t = or_i_by_bases x.input z.input x.dissatisfiable z.dissatisfiable x.unit z.unit x.base z.base s t

and_or_not_zero : (i j k : Input) → is_zero j ≡ false → is_zero (and_or_input i j k) ≡ false
and_or_not_zero i j k h = rw h (one_or_any_not_zero (is_zero i && (takes_one j && takes_one k)))

-- and_or of a first child that passed its tests
and_or_by_bases : (t : Bool) (f : ErrorKind) (i j k : Input) (d e u v : Bool) (a b : Base) → (t ≡ true → equal_bkv a b ≡ true) → Sound (made a j d u) → Sound (made b k e v) → SoundAnswer (check t f (is a (and_or_input i j k) e (u && v)))
and_or_by_bases t f i j k d e u v B b w s r = always t f _ refl
and_or_by_bases t f i j k d e u v K K w s r = let h = k_parts j d u s in let g = k_parts k e v r in always t f _ (rw (h.0, g.0, and_or_not_zero i j k h.1))
and_or_by_bases t f i j k d e u v K B w s r = checked t f _ (λ h. absurd (false≢true (w h)))
and_or_by_bases t f i j k d e u v K «V» w s r = checked t f _ (λ h. absurd (false≢true (w h)))
and_or_by_bases t f i j k d e u v K W w s r = checked t f _ (λ h. absurd (false≢true (w h)))
and_or_by_bases t f i j k d e u v «V» «V» w s r =
    let a : u ≡ false = not-true u (left_true (not u) _ s) in
    let c : e ≡ false = not-true e (right_true (not v) _ r) in
    always t f _ (rw (a, c))
and_or_by_bases t f i j k d e u v «V» B w s r = checked t f _ (λ h. absurd (false≢true (w h)))
and_or_by_bases t f i j k d e u v «V» K w s r = checked t f _ (λ h. absurd (false≢true (w h)))
and_or_by_bases t f i j k d e u v «V» W w s r = checked t f _ (λ h. absurd (false≢true (w h)))
and_or_by_bases t f i j k d e u v W b w s r = checked t f _ (λ h. absurd (false≢true (w h)))

pub and_or_sound : (x y z : Correctness) → Sound y → Sound z → SoundAnswer (and_or x y z)
unfolding and_or
and_or_sound x y z s r =
    always x.dissatisfiable _ _ (always x.unit _ _
    (and_or_by_bases (is_b x.base && equal_bkv y.base z.base) _ x.input y.input z.input y.dissatisfiable z.dissatisfiable y.unit z.unit y.base z.base
    (λ h. right_true (is_b x.base) _ h) s r))

-- The threshold

pub threshold_child_sound : (i : ℕ) (earlier child : Correctness) → SoundAnswer (threshold_child i earlier child)
unfolding threshold_child
threshold_child_sound i earlier child =
    always (pick (eqb i 0) (is_b child.base) (is_w child.base)) _ _ (always child.unit _ _ (always child.dissatisfiable _ _ refl))

next : (t : Typed) (rule : Correctness → Typed) → SoundAnswer t → ((n : Correctness) → Sound n → SoundAnswer (rule n)) → SoundAnswer (onward t rule)
next (Ok n) rule h k = k n h
next (Err e) rule h k = tt

from_sound : (i : ℕ) (earlier : Correctness) (cs : List Correctness) → Sound earlier → SoundAnswer (threshold_from i earlier cs)
from_sound i earlier [] s = s
from_sound i earlier (c ∷ cs) s = next (threshold_child i earlier c) (λ n. threshold_from (i + 1) n cs) (threshold_child_sound i earlier c) (λ n h. from_sound (i + 1) n cs h)

pub threshold_sound : (cs : List Correctness) → SoundAnswer (threshold cs)
unfolding threshold
threshold_sound cs = from_sound 0 no_children cs refl
