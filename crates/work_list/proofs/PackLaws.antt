-- An entry as a number, and back: the arms of `unpack`, and that a packed entry is unpacked to itself. Assumes nothing.
-- Why: the place in NonTerm's order is below 32, k below 2^32 and n takes what is above, so that each is found again by division.
use mathlib.Core.Path.{◌≡◌, refl, sym, ap, ◌∙◌}
use mathlib.Core.List.{[], ◌∷◌}
use Prim.Native.Nat.{ℕ, zero, suc, ◌+◌, ◌-◌, ◌*◌, ◌%◌, ◌≤◌}
use native.Mathlib.Omega.{arith}
use lib.ListN.{get_or}
use lib.Seq.{get_or-drop}
use Rattle.row.specs.declared.NonTerm.{NonTerm}
use Rattle.row.specs.declared.NonTerm.TheVariants.{Expression, WExpression, Swap, MaybeAndV, Alt, Check, DupIf, Verify, NonZero, ZeroNotEqual, AndV, AndB, Tern, OrB, OrD, OrC, ThreshW, ThreshE, EndIf, EndIfNotIf, EndIfElse}
use Rattle.work_list.specs.Work.{packed, Small, k_of, n_of, in_order, unpacked}

-- Unpacking

module _ (number : ℕ) where
  -- an arm with a key: the entry that stands there in NonTerm's order
  pub unpacks : (place : ℕ) → number % 32 ≡ place → get_or (in_order (k_of number) (n_of number)) place EndIfElse ≡ unpacked number
  unfolding unpacked
  unpacks place h = ap (λ (p : ℕ). get_or (in_order (k_of number) (n_of number)) p EndIfElse) (sym h)

  pub unpacks_w : (k n : ℕ) → number % 32 ≡ 16 → k ≡ k_of number → n ≡ n_of number → ThreshW k n ≡ unpacked number
  unpacks_w k n h a b = ap (λ (x : ℕ). ThreshW x n) a ∙ ap (ThreshW (k_of number)) b ∙ unpacks 16 h

  pub unpacks_e : (k n : ℕ) → number % 32 ≡ 17 → k ≡ k_of number → n ≡ n_of number → ThreshE k n ≡ unpacked number
  unpacks_e k n h a b = ap (λ (x : ℕ). ThreshE x n) a ∙ ap (ThreshE (k_of number)) b ∙ unpacks 17 h

-- what the last arm of a `match` knows whose keys are 0, 1 and so on
abbrev pub NoneBelow : ℕ → ℕ → Type 0
NoneBelow place zero = Unit {0}
NoneBelow place (suc key) = NoneBelow place key × (place ≡ key → ⊥)

at_least : (place keys : ℕ) → NoneBelow place keys → keys ≤ place
at_least place zero h = omega arith
at_least place (suc key) h =
    let l : key ≤ place = at_least place key h.0 in
    let o : place ≡ key → ⊥ = h.1 in
    omega arith

one_left : (m : ℕ) → EndIfElse ≡ get_or (EndIfElse ∷ []) m EndIfElse
one_left zero = refl
one_left (suc m) = refl

last : (k n place : ℕ) → 20 ≤ place → EndIfElse ≡ get_or (in_order k n) place EndIfElse
last k n place h =
    let e : 20 + (place - 20) ≡ place = omega arith in
    one_left (place - 20) ∙ get_or-drop 20 (in_order k n) (place - 20) EndIfElse ∙ ap (λ (p : ℕ). get_or (in_order k n) p EndIfElse) e

pub unpacks_last : (number : ℕ) → NoneBelow (number % 32) 20 → EndIfElse ≡ unpacked number
unfolding unpacked
unpacks_last number h = last (k_of number) (n_of number) (number % 32) (at_least (number % 32) 20 h)

-- There and back

pub unpacked_packed : (e : NonTerm) → Small e → unpacked (packed e) ≡ e
unfolding unpacked
unpacked_packed Expression s = refl
unpacked_packed WExpression s = refl
unpacked_packed Swap s = refl
unpacked_packed MaybeAndV s = refl
unpacked_packed Alt s = refl
unpacked_packed Check s = refl
unpacked_packed DupIf s = refl
unpacked_packed Verify s = refl
unpacked_packed NonZero s = refl
unpacked_packed ZeroNotEqual s = refl
unpacked_packed AndV s = refl
unpacked_packed AndB s = refl
unpacked_packed Tern s = refl
unpacked_packed OrB s = refl
unpacked_packed OrD s = refl
unpacked_packed OrC s = refl
unpacked_packed (ThreshW k n) s =
    sym (unpacks_w (16 + 32 * k + 137438953472 * n) k n (omega arith) (omega (arith, s.0, s.1)) (omega (arith, s.0, s.1)))
unpacked_packed (ThreshE k n) s =
    sym (unpacks_e (17 + 32 * k + 137438953472 * n) k n (omega arith) (omega (arith, s.0, s.1)) (omega (arith, s.0, s.1)))
unpacked_packed EndIf s = refl
unpacked_packed EndIfNotIf s = refl
unpacked_packed EndIfElse s = refl
