-- Laws of and_v. A chain of them has one type however it is nested; c:, n:, v: and and_b's left side commute with it; it is never dissatisfiable.
-- "given" is the type where there is one: so an equation of two given types says the same type, or refused both ways. Assumes nothing.
use Rattle.std.specs.Prelude.{◌≡◌, Bool, ◌&&◌, ℕ}
use Rattle.std.proofs.Math.Path.{refl, fun_ext}
use Rattle.std.proofs.Common.{sym, ap, ◌∙◌, arith}
use Rattle.std.proofs.Math.Bool.{true, false, not}
use Rattle.std.proofs.Math.Option.{none}
use Rattle.base_input.specs.declared.Base.{Base}
use Rattle.base_input.specs.declared.Base.TheVariants.{B, K, «V», W}
use Rattle.base_input.specs.declared.Input.{Input}
use Rattle.base_input.specs.Tests.{is_b, is_k, is_v, is_w}
use Rattle.base_input.specs.Inputs.{and_input}
use Rattle.base_input.specs.InputLaws.{and_associates}
use Rattle.correctness.specs.declared.Correctness.{Correctness}
use Rattle.correctness.specs.declared.ErrorKind.{ErrorKind}
use Rattle.correctness.specs.declared.ErrorKind.TheVariants.{ChildBase1}
use Rattle.correctness.specs.Typed.{Typed}
use Rattle.std.specs.Prelude.{Ok, Err}
use Rattle.correctness.specs.Rules.{check, made, is, given, onward, and_v, and_b, cast_check, cast_verify, cast_zeronotequal}

-- a check whose sequel always refuses gives no type
refused_after : (b : Bool) (e f : ErrorKind) (t : Correctness) → none ≡ given (onward (check b e (Ok t)) (λ y. Err f))
refused_after true e f t = refl
refused_after false e f t = refl

-- Chains

same_input : (b : Base) (i j : Input) (u : Bool) → i ≡ j → given (is b i false u) ≡ given (is b j false u)
same_input b i j u e = ap (λ (x : Input). given (is b x false u)) e

module _ (i j k : Input) (d e f u v w : Bool) where
  chain : (a b c : Base) → given (onward (and_v (made a i d u) (made b j e v)) (λ x. and_v x (made c k f w))) ≡ given (onward (and_v (made b j e v) (made c k f w)) (λ y. and_v (made a i d u) y))
  unfolding and_v
  chain B b c = refused_after (is_v b && not (is_w c)) _ _ _
  chain K b c = refused_after (is_v b && not (is_w c)) _ _ _
  chain W b c = refused_after (is_v b && not (is_w c)) _ _ _
  chain «V» B c = refl
  chain «V» K c = refl
  chain «V» W c = refl
  chain «V» «V» B = same_input B _ _ w (and_associates i j k)
  chain «V» «V» K = same_input K _ _ w (and_associates i j k)
  chain «V» «V» «V» = same_input «V» _ _ w (and_associates i j k)
  chain «V» «V» W = refl

pub and_v_associates : (a b c : Correctness) → given (onward (and_v a b) (λ x. and_v x c)) ≡ given (onward (and_v b c) (λ y. and_v a y))
and_v_associates a b c =
    chain a.input b.input c.input a.dissatisfiable b.dissatisfiable c.dissatisfiable a.unit b.unit c.unit a.base b.base c.base

-- Casts that keep the input: they test the base alone, refuse a W, give no W, and make nothing dissatisfiable that wasn't

pub record Keeping (cast : Correctness → Typed) : Type 0 where
  pub test : Base → Bool
  pub result : Base
  pub dissat : Bool → Bool
  pub leaves : Bool
  pub rule : (c : Correctness) → cast c ≡ check (test c.base) ChildBase1 (is result c.input (dissat c.dissatisfiable) leaves)
  pub no_w : test W ≡ false
  pub gives_no_w : is_w result ≡ false
  pub stays : dissat false ≡ false

pub check_keeps : Keeping cast_check
unfolding cast_check
check_keeps =
    record { test = is_k; result = B; dissat = λ d. d; leaves = true; rule = λ c. refl; no_w = refl; gives_no_w = refl; stays = refl }

pub zeronotequal_keeps : Keeping cast_zeronotequal
unfolding cast_zeronotequal
zeronotequal_keeps =
    record { test = is_b; result = B; dissat = λ d. d; leaves = true; rule = λ c. refl; no_w = refl; gives_no_w = refl; stays = refl }

pub verify_keeps : Keeping cast_verify
unfolding cast_verify
verify_keeps =
    record { test = is_b; result = «V»; dissat = λ d. false; leaves = false; rule = λ c. refl; no_w = refl; gives_no_w = refl; stays = refl }

module _ (cast : Correctness → Typed) (keeps : Keeping cast) where
  plain : Correctness → Typed
  plain c = check (keeps.test c.base) ChildBase1 (is keeps.result c.input (keeps.dissat c.dissatisfiable) keeps.leaves)

  -- the cast refuses, or gives its type, before the and_v and after it
  tested : (i j : Input) (d e u v : Bool) (b : Base) (t : Bool) → is_w b ≡ false
      → given (check t ChildBase1 (is keeps.result (and_input i j) (keeps.dissat false) keeps.leaves))
      ≡ given (onward (check t ChildBase1 (is keeps.result j (keeps.dissat e) keeps.leaves)) (λ y. and_v (made «V» i d u) y))
  unfolding and_v
  tested i j d e u v b true h = rw (keeps.gives_no_w, keeps.stays)
  tested i j d e u v b false h = refl

  by_bases : (i j : Input) (d e u v : Bool) (a b : Base)
      → given (onward (and_v (made a i d u) (made b j e v)) plain) ≡ given (onward (plain (made b j e v)) (λ y. and_v (made a i d u) y))
  unfolding and_v plain
  by_bases i j d e u v B b = refused_after (keeps.test b) _ _ _
  by_bases i j d e u v K b = refused_after (keeps.test b) _ _ _
  by_bases i j d e u v W b = refused_after (keeps.test b) _ _ _
  by_bases i j d e u v «V» B = tested i j d e u v B (keeps.test B) refl
  by_bases i j d e u v «V» K = tested i j d e u v K (keeps.test K) refl
  by_bases i j d e u v «V» «V» = tested i j d e u v «V» (keeps.test «V») refl
  by_bases i j d e u v «V» W = rw keeps.no_w

  -- such a cast of an and_v is the and_v of the cast right side
  pub and_v_commutes : (a b : Correctness) → given (onward (and_v a b) cast) ≡ given (onward (cast b) (λ y. and_v a y))
  unfolding plain
  and_v_commutes a b =
      let same : cast ≡ plain = fun_ext (λ c. keeps.rule c) in
      rw same (by_bases a.input b.input a.dissatisfiable b.dissatisfiable a.unit b.unit a.base b.base)

-- and_b's left side

module _ (i j k : Input) (d e f u v w : Bool) where
  beside : (a b c : Base)
      → given (onward (and_v (made a i d u) (made b j e v)) (λ x. and_b x (made c k f w))) ≡ given (onward (and_b (made b j e v) (made c k f w)) (λ y. and_v (made a i d u) y))
  unfolding and_v and_b
  beside B b c = refused_after (is_b b && is_w c) _ _ _
  beside K b c = refused_after (is_b b && is_w c) _ _ _
  beside W b c = refused_after (is_b b && is_w c) _ _ _
  beside «V» K c = refl
  beside «V» «V» c = refl
  beside «V» W c = refl
  beside «V» B B = refl
  beside «V» B K = refl
  beside «V» B «V» = refl
  beside «V» B W = same_input B _ _ true (and_associates i j k)

pub and_b_commutes : (a b c : Correctness) → given (onward (and_v a b) (λ x. and_b x c)) ≡ given (onward (and_b b c) (λ y. and_v a y))
and_b_commutes a b c =
    beside a.input b.input c.input a.dissatisfiable b.dissatisfiable c.dissatisfiable a.unit b.unit c.unit a.base b.base c.base

-- Never dissatisfiable

never : (e : ErrorKind) (t : Correctness) → Err e ≡ Ok t → ⊥
never e t h = let z : ◌≡◌ {A = ℕ} 0 1 = cc in omega arith

-- a check that gave a type was passed
pub passed : (b : Bool) (e : ErrorKind) (s t : Correctness) → check b e (Ok s) ≡ Ok t → (b ≡ true) × (s ≡ t)
passed true e s t h = (refl, cc)
passed false e s t h = absurd (never e t h)

pub and_v_not_dissatisfiable : (a b t : Correctness) → and_v a b ≡ Ok t → t.dissatisfiable ≡ false
unfolding and_v
and_v_not_dissatisfiable a b t h =
    let e = (passed (is_v a.base && not (is_w b.base)) _ (made b.base (and_input a.input b.input) false b.unit) t h).1 in
    sym (ap (λ (c : Correctness). c.dissatisfiable) e)

-- c:, n: and v: over a child that isn't dissatisfiable
pub keeping_not_dissatisfiable : (cast : Correctness → Typed) (keeps : Keeping cast) (c t : Correctness) → cast c ≡ Ok t → c.dissatisfiable ≡ false → t.dissatisfiable ≡ false
keeping_not_dissatisfiable cast keeps c t h lacks =
    let e = (passed (keeps.test c.base) _ (made keeps.result c.input (keeps.dissat c.dissatisfiable) keeps.leaves) t (sym (keeps.rule c) ∙ h)).1 in
    sym (ap (λ (x : Correctness). x.dissatisfiable) e) ∙ ap keeps.dissat lacks ∙ keeps.stays

-- and_b with such a left child
pub and_b_not_dissatisfiable : (a b t : Correctness) → and_b a b ≡ Ok t → a.dissatisfiable ≡ false → t.dissatisfiable ≡ false
unfolding and_b
and_b_not_dissatisfiable a b t h lacks =
    let e = (passed (is_b a.base && is_w b.base) _ (made B (and_input a.input b.input) (a.dissatisfiable && b.dissatisfiable) true) t h).1 in
    sym (ap (λ (x : Correctness). x.dissatisfiable) e) ∙ ap (λ (d : Bool). d && b.dissatisfiable) lacks
