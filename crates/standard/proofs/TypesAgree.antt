-- Theorem: on every tree, document 01's type is BIP 379's, letter for letter, and where one gives none so does the other (`types_agree_in_segwit`, `types_agree_in_tapscript`). The exception is d: in tapscript, where BIP 379 adds u and 01 does not (`dup_if_in_tapscript`). Every type is sound (`type_sound`).
-- Why: each rule agrees with its row on sound children, and every rule gives a sound type: laws of `correctness`.
use Rattle.std.specs.Prelude.{◌≡◌, refl, Bool, true, false, ◌&&◌, ◌||◌, not, List, map}
use Rattle.std.proofs.Common.{sym, ap, ◌∙◌, true≢false}
use Rattle.std.proofs.Math.Option.{Option, none, some}
use Rattle.correctness.specs.declared.Correctness.{Correctness}
use Rattle.correctness.specs.Typed.{Typed}
use Rattle.std.specs.Prelude.{Ok, Err}
use Rattle.correctness.specs.Rules as rules
use Rattle.correctness.specs.Rules.{given, onward}
use Rattle.correctness.specs.Sanity.{Sound, SoundAnswer}
use Rattle.correctness.proofs.SanityLaws.{leaf_sound, alt_sound, swap_sound, check_sound, dupif_sound, verify_sound, nonzero_sound, zeronotequal_sound, and_b_sound, or_b_sound, or_d_sound, or_c_sound, and_v_sound, or_i_sound, and_or_sound, threshold_sound}
use Rattle.correctness.specs.Bip379.{Letters, letters, andor_row, threshold_row}
use Rattle.correctness.proofs.Bip379Laws.{leaf_agrees, alt_agrees, swap_agrees, check_agrees, dupif_agrees, dupif_in_tapscript, with_u, verify_agrees, nonzero_agrees, zeronotequal_agrees, and_v_agrees, and_b_agrees, or_b_agrees, or_d_agrees, or_c_agrees, or_i_agrees, and_or_agrees, threshold_agrees}
use Rattle.tables.proofs.BoolLaws.{left_true, right_true}
use Rattle.standard.specs.Tree.{Wrapper, alt, swap, check, dupIf, verify, nonZero, zeroNotEqual, Combination, and_v, and_b, or_b, or_d, or_c, or_i, Tree, Trees, leaf, wrap, join, and_or, thresh, nil, ◌⊳◌}
use Rattle.standard.specs.Types.{typed_leaf, wrapper_rule, combination_rule, AllTyped, all, not_all, and_then, ruled, type_of, types_of, bip_wrapper, bip_combination, having, having_both, bip_type, bip_types}
use Rattle.standard.specs.Statements.{letters_of, is_dup_if, follows, all_follow}

mutual
  segwit_follows : (t : Tree) → follows true t ≡ true
  segwit_follows (leaf l) = refl
  segwit_follows (wrap w x) = segwit_follows x
  segwit_follows (join c x y) = rw (segwit_follows x, segwit_follows y)
  segwit_follows (and_or x y z) = rw (segwit_follows x, segwit_follows y, segwit_follows z)
  segwit_follows (thresh k x xs) = rw (segwit_follows x, segwit_all_follow xs)

  segwit_all_follow : (ts : Trees) → all_follow true ts ≡ true
  segwit_all_follow nil = refl
  segwit_all_follow (t ⊳ ts) = rw (segwit_follows t, segwit_all_follow ts)

-- Sound types

wrapper_sound : (segwit : Bool) (w : Wrapper) (c : Correctness) → SoundAnswer (wrapper_rule segwit w c)
wrapper_sound segwit alt c = alt_sound c
wrapper_sound segwit swap c = swap_sound c
wrapper_sound segwit check c = check_sound c
wrapper_sound segwit dupIf c = dupif_sound c
wrapper_sound segwit verify c = verify_sound c
wrapper_sound segwit nonZero c = nonzero_sound c
wrapper_sound segwit zeroNotEqual c = zeronotequal_sound c

combination_sound : (k : Combination) (a b : Correctness) → Sound a → Sound b → SoundAnswer (combination_rule k a b)
combination_sound and_v a b p q = and_v_sound a b q
combination_sound and_b a b p q = and_b_sound a b
combination_sound or_b a b p q = or_b_sound a b
combination_sound or_d a b p q = or_d_sound a b
combination_sound or_c a b p q = or_c_sound a b
combination_sound or_i a b p q = or_i_sound a b p q

one_sound : (segwit : Bool) (w : Wrapper) (o : Typed) → SoundAnswer (onward o (wrapper_rule segwit w))
one_sound segwit w (Ok c) = wrapper_sound segwit w c
one_sound segwit w (Err e) = tt

two_sound : (k : Combination) (o q : Typed) → SoundAnswer o → SoundAnswer q → SoundAnswer (onward o (λ a. onward q (λ b. combination_rule k a b)))
two_sound k (Ok a) (Ok b) p s = combination_sound k a b p s
two_sound k (Ok a) (Err e) p s = tt
two_sound k (Err e) q p s = tt

three_sound : (o q s : Typed) → SoundAnswer q → SoundAnswer s → SoundAnswer (onward o (λ a. onward q (λ b. onward s (λ c. rules.and_or a b c))))
three_sound (Ok a) (Ok b) (Ok c) p r = and_or_sound a b c p r
three_sound (Ok a) (Ok b) (Err e) p r = tt
three_sound (Ok a) (Err e) s p r = tt
three_sound (Err e) q s p r = tt

many_sound : (q : AllTyped) → SoundAnswer (ruled q rules.threshold)
many_sound (all cs) = threshold_sound cs
many_sound (not_all e) = tt

-- the type of a tree keeps the sanity checks of correctness.rs
pub type_sound : (segwit : Bool) (t : Tree) → SoundAnswer (type_of segwit t)
type_sound segwit (leaf l) = leaf_sound (typed_leaf l)
type_sound segwit (wrap w x) = one_sound segwit w (type_of segwit x)
type_sound segwit (join c x y) = two_sound c (type_of segwit x) (type_of segwit y) (type_sound segwit x) (type_sound segwit y)
type_sound segwit (and_or x y z) = three_sound (type_of segwit x) (type_of segwit y) (type_of segwit z) (type_sound segwit y) (type_sound segwit z)
type_sound segwit (thresh k x xs) = many_sound (and_then (type_of segwit x) (types_of segwit xs))

-- Rule and row

dup_if_agrees : (segwit : Bool) → (segwit || false) ≡ true → (c : Correctness) → letters_of (rules.cast_dupif c) ≡ bip_wrapper segwit dupIf (letters c)
dup_if_agrees true e c = dupif_agrees c
dup_if_agrees false e c = absurd (true≢false (sym e))

wrapper_agrees : (segwit : Bool) (w : Wrapper) → (segwit || not (is_dup_if w)) ≡ true → (c : Correctness) → Sound c → letters_of (wrapper_rule segwit w c) ≡ bip_wrapper segwit w (letters c)
wrapper_agrees segwit alt g c s = alt_agrees c
wrapper_agrees segwit swap g c s = swap_agrees c
wrapper_agrees segwit check g c s = check_agrees c s
wrapper_agrees segwit dupIf g c s = dup_if_agrees segwit g c
wrapper_agrees segwit verify g c s = verify_agrees c
wrapper_agrees segwit nonZero g c s = nonzero_agrees c
wrapper_agrees segwit zeroNotEqual g c s = zeronotequal_agrees c

combination_agrees : (k : Combination) (a b : Correctness) → letters_of (combination_rule k a b) ≡ bip_combination k (letters a) (letters b)
combination_agrees and_v a b = and_v_agrees a b
combination_agrees and_b a b = and_b_agrees a b
combination_agrees or_b a b = or_b_agrees a b
combination_agrees or_d a b = or_d_agrees a b
combination_agrees or_c a b = or_c_agrees a b
combination_agrees or_i a b = or_i_agrees a b

one_agrees : (segwit : Bool) (w : Wrapper) → (segwit || not (is_dup_if w)) ≡ true → (o : Typed) → SoundAnswer o → letters_of (onward o (wrapper_rule segwit w)) ≡ having (letters_of o) (bip_wrapper segwit w)
one_agrees segwit w g (Ok c) s = wrapper_agrees segwit w g c s
one_agrees segwit w g (Err e) s = refl

two_agrees : (k : Combination) (o q : Typed) → letters_of (onward o (λ a. onward q (λ b. combination_rule k a b))) ≡ having (letters_of o) (λ a. having (letters_of q) (λ b. bip_combination k a b))
two_agrees k (Ok a) (Ok b) = combination_agrees k a b
two_agrees k (Ok a) (Err e) = refl
two_agrees k (Err e) q = refl

three_agrees : (o q s : Typed) → letters_of (onward o (λ a. onward q (λ b. onward s (λ c. rules.and_or a b c)))) ≡ having (letters_of o) (λ a. having (letters_of q) (λ b. having (letters_of s) (λ c. andor_row a b c)))
three_agrees (Ok a) (Ok b) (Ok c) = and_or_agrees a b c
three_agrees (Ok a) (Ok b) (Err e) = refl
three_agrees (Ok a) (Err e) s = refl
three_agrees (Err e) q s = refl

abbrev all_letters : AllTyped → Option (List Letters)
all_letters (all cs) = some (map letters cs)
all_letters (not_all e) = none

many_agree : (o : Typed) (q : AllTyped) → letters_of (ruled (and_then o q) rules.threshold) ≡ having (letters_of o) (λ a. having (all_letters q) (λ others. threshold_row a others))
many_agree (Ok a) (all cs) = threshold_agrees a cs
many_agree (Ok a) (not_all e) = refl
many_agree (Err e) q = refl

next_agrees : (o : Typed) (q : AllTyped) → all_letters (and_then o q) ≡ having_both (letters_of o) (all_letters q)
next_agrees (Ok a) (all cs) = refl
next_agrees (Ok a) (not_all e) = refl
next_agrees (Err e) q = refl

mutual
  -- 01's type is BIP 379's wherever 01 follows it
  pub types_agree : (segwit : Bool) (t : Tree) → follows segwit t ≡ true → letters_of (type_of segwit t) ≡ bip_type segwit t
  types_agree segwit (leaf l) g = ap (λ (x : Letters). some x) (leaf_agrees (typed_leaf l))
  types_agree segwit (wrap w x) g =
      let h = types_agree segwit x (right_true (segwit || not (is_dup_if w)) (follows segwit x) g) in
      one_agrees segwit w (left_true (segwit || not (is_dup_if w)) (follows segwit x) g) (type_of segwit x) (type_sound segwit x) ∙ ap (λ (b : Option Letters). having b (bip_wrapper segwit w)) h
  types_agree segwit (join c x y) g =
      let hx = types_agree segwit x (left_true (follows segwit x) (follows segwit y) g) in
      let hy = types_agree segwit y (right_true (follows segwit x) (follows segwit y) g) in
      two_agrees c (type_of segwit x) (type_of segwit y) ∙ simp (hx, hy)
  types_agree segwit (and_or x y z) g =
      let g' = right_true (follows segwit x) (follows segwit y && follows segwit z) g in
      let hx = types_agree segwit x (left_true (follows segwit x) (follows segwit y && follows segwit z) g) in
      let hy = types_agree segwit y (left_true (follows segwit y) (follows segwit z) g') in
      let hz = types_agree segwit z (right_true (follows segwit y) (follows segwit z) g') in
      three_agrees (type_of segwit x) (type_of segwit y) (type_of segwit z) ∙ simp (hx, hy, hz)
  types_agree segwit (thresh k x xs) g =
      let hx = types_agree segwit x (left_true (follows segwit x) (all_follow segwit xs) g) in
      let hs = all_agree segwit xs (right_true (follows segwit x) (all_follow segwit xs) g) in
      many_agree (type_of segwit x) (types_of segwit xs) ∙ simp (hx, hs)

  all_agree : (segwit : Bool) (ts : Trees) → all_follow segwit ts ≡ true → all_letters (types_of segwit ts) ≡ bip_types segwit ts
  all_agree segwit nil g = refl
  all_agree segwit (t ⊳ ts) g =
      let h = types_agree segwit t (left_true (follows segwit t) (all_follow segwit ts) g) in
      let hs = all_agree segwit ts (right_true (follows segwit t) (all_follow segwit ts) g) in
      next_agrees (type_of segwit t) (types_of segwit ts) ∙ simp (h, hs)

-- on every tree of a segwit script
pub types_agree_in_segwit : (t : Tree) → letters_of (type_of true t) ≡ bip_type true t
types_agree_in_segwit t = types_agree true t (segwit_follows t)

-- on every tree of a tapscript without d:
pub types_agree_in_tapscript : (t : Tree) → follows false t ≡ true → letters_of (type_of false t) ≡ bip_type false t
types_agree_in_tapscript t g = types_agree false t g

-- at a d: in tapscript BIP 379 adds u, and nothing else differs
pub dup_if_in_tapscript : (x : Tree) → follows false x ≡ true → bip_type false (wrap dupIf x) ≡ with_u (letters_of (type_of false (wrap dupIf x)))
dup_if_in_tapscript x g = rw (← types_agree false x g) (of (type_of false x))
  where
    of : (o : Typed) → having (letters_of o) (bip_wrapper false dupIf) ≡ with_u (letters_of (onward o rules.cast_dupif))
    of (Ok c) = dupif_in_tapscript c
    of (Err e) = refl
