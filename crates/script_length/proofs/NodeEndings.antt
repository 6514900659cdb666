-- What is read off the nodes about a tree's ending is the tree's own: whether its script ends in an opcode that has a verifying form. Assumes nothing.
-- Why: the first child of a node stands right behind it, the second behind as many nodes more as the first one's size says, and this is known of every tree of the stack, not of the newest alone.
use mathlib.Core.Path.{◌≡◌, refl, ap, ◌∙◌, subst}
use mathlib.Core.Bool.{Bool, true, false}
use mathlib.Core.List.{List, [], ◌∷◌}
use mathlib.Core.Option.{Option, none, some}
use Prim.Native.Nat.{ℕ, zero, suc, ◌+◌}
use native.Mathlib.Omega.{arith}
use Rattle.lex.specs.Token.{Data}
use Rattle.standard.specs.Tree.{Wrapper, alt, swap, check, dupIf, verify, nonZero, zeroNotEqual, Combination, and_v, and_b, or_b, or_d, or_c, or_i, Trees, thresh, nil, ◌⊳◌, ◌⊕◌, size, sizes}
use Rattle.standard.specs.Table.{Node, Terminal, noTerminal, isTrue, isFalse, isPkK, isRawPkH, isAfter, isOlder, is_hash, is_wrapper, is_combination, isAndOr, isThresh, isMulti, isMultiA, terminal_of, datas_at, take_trees, multi_a_of, wrap_top, join_top, and_or_top, thresh_top, add_terminal}
use Rattle.forest.specs.Forest.{children}
use Rattle.encoding.specs.Form.{keys_named}
use Rattle.encoding.proofs.Passed.{made_of, size_of_children}
use Rattle.encoding.proofs.Stands.{Stands, empty, more}
use Rattle.script_length.specs.declared.Ending.{Ending}
use Rattle.script_length.specs.Length.{wrapper_ending, combination_ending, ending_of, newest_size, ends_by, ends_from}
use Rattle.script_length.proofs.SpelledLength.{tree_ends}

-- the endings of all trees of a stack, whose nodes stand behind so many others
abbrev pub AllEnd : ℕ → List Node → Trees → Type 0
AllEnd skip ns nil = Unit {0}
AllEnd skip ns (t ⊳ ts) = (ends_from skip ns ≡ tree_ends t) × AllEnd (skip + size t) ns ts

one_more : (skip : ℕ) (n : Node) (ns : List Node) (ts : Trees) → AllEnd skip ns ts → AllEnd (suc skip) (n ∷ ns) ts
one_more skip n ns nil h = tt
one_more skip n ns (t ⊳ ts) h =
    let e : suc (skip + size t) ≡ suc skip + size t = omega arith in
    (h.0, subst (λ (k : ℕ). AllEnd k (n ∷ ns) ts) e (one_more (skip + size t) n ns ts h.1))

behind_first : (us vs : Trees) (skip : ℕ) (ns : List Node) → AllEnd skip ns (◌⊕◌ us vs) → AllEnd (skip + sizes us) ns vs
behind_first nil vs skip ns h = let e : skip ≡ skip + 0 = omega arith in subst (λ (k : ℕ). AllEnd k ns vs) e h
behind_first (u ⊳ us) vs skip ns h =
    let e : skip + size u + sizes us ≡ skip + (size u + sizes us) = omega arith in
    subst (λ (k : ℕ). AllEnd k ns vs) e (behind_first us vs (skip + size u) ns h.1)

-- the newest tree ends so
abbrev NewestEndsSo : Bool → Option Trees → Type 0
NewestEndsSo b none = Unit {0}
NewestEndsSo b (some nil) = Unit {0}
NewestEndsSo b (some (t ⊳ ts)) = b ≡ tree_ends t

-- the newest node's size is its tree's
abbrev NewestSized : List Node → Trees → Type 0
NewestSized ns nil = Unit {0}
NewestSized ns (t ⊳ ts) = newest_size ns ≡ size t

abbrev ends_as : Ending → List Node → Bool
ends_as ending ns = ends_by ending (λ skip. ends_from skip ns) (newest_size ns)

wrapper_ends_lem : (w : Wrapper) (ns : List Node) (ts : Trees) → AllEnd 0 ns ts → NewestEndsSo (ends_as (wrapper_ending w) ns) (wrap_top w ts)
wrapper_ends_lem w ns nil h = tt
wrapper_ends_lem alt ns (x ⊳ ts) h = refl
wrapper_ends_lem swap ns (x ⊳ ts) h = h.0
wrapper_ends_lem check ns (x ⊳ ts) h = refl
wrapper_ends_lem dupIf ns (x ⊳ ts) h = refl
wrapper_ends_lem verify ns (x ⊳ ts) h = refl
wrapper_ends_lem nonZero ns (x ⊳ ts) h = refl
wrapper_ends_lem zeroNotEqual ns (x ⊳ ts) h = refl

combination_ends_lem : (c : Combination) (ns : List Node) (ts : Trees) → AllEnd 0 ns ts → NewestSized ns ts → NewestEndsSo (ends_as (combination_ending c) ns) (join_top c ts)
combination_ends_lem c ns nil h s = tt
combination_ends_lem c ns (x ⊳ nil) h s = tt
combination_ends_lem and_v ns (x ⊳ (y ⊳ ts)) h s = let e : newest_size ns ≡ 0 + size x = omega (arith, s) in ap (λ (k : ℕ). ends_from k ns) e ∙ h.1.0
combination_ends_lem and_b ns (x ⊳ (y ⊳ ts)) h s = refl
combination_ends_lem or_b ns (x ⊳ (y ⊳ ts)) h s = refl
combination_ends_lem or_d ns (x ⊳ (y ⊳ ts)) h s = refl
combination_ends_lem or_c ns (x ⊳ (y ⊳ ts)) h s = refl
combination_ends_lem or_i ns (x ⊳ (y ⊳ ts)) h s = refl

and_or_ends : (ts : Trees) → NewestEndsSo false (and_or_top ts)
and_or_ends nil = tt
and_or_ends (x ⊳ nil) = tt
and_or_ends (x ⊳ (z ⊳ nil)) = tt
and_or_ends (x ⊳ (z ⊳ (y ⊳ ts))) = refl

taken_ends : (n : ℕ) (ts : Trees) (next : Trees → Trees → Option Trees) → ((taken rest : Trees) → NewestEndsSo true (next taken rest)) → NewestEndsSo true (take_trees n ts none next)
taken_ends zero ts next h = h nil ts
taken_ends (suc n) nil next h = tt
taken_ends (suc n) (t ⊳ ts) next h = taken_ends n ts (λ taken rest. next (t ⊳ taken) rest) (λ taken rest. h (t ⊳ taken) rest)

thresh_ends : (k n : ℕ) (ts : Trees) → NewestEndsSo true (thresh_top k n ts)
thresh_ends k n nil = tt
thresh_ends k zero (x ⊳ ts) = tt
thresh_ends k (suc n) (x ⊳ ts) = taken_ends n ts (λ xs rest. some (thresh k x xs ⊳ rest)) (λ taken rest. refl)

multi_a_ends : (k : ℕ) (ds : List Data) (ts : Trees) → NewestEndsSo true (multi_a_of k ds ts)
multi_a_ends k [] ts = tt
multi_a_ends k (d ∷ ds) ts = refl

module _ (segwit : Bool) (material keys : List ℕ) where
  terminal_ends : (kind : Terminal) (n : Node) (ns : List Node) (ts : Trees) → AllEnd 0 ns ts → NewestSized ns ts → NewestEndsSo (ends_as (ending_of kind) ns) (add_terminal segwit material keys kind n ts)
  terminal_ends noTerminal n ns ts h s = tt
  terminal_ends isTrue n ns ts h s = refl
  terminal_ends isFalse n ns ts h s = refl
  terminal_ends isPkK n ns ts h s = refl
  terminal_ends isRawPkH n ns ts h s = refl
  terminal_ends isAfter n ns ts h s = refl
  terminal_ends isOlder n ns ts h s = refl
  terminal_ends (is_hash x) n ns ts h s = refl
  terminal_ends (is_wrapper w) n ns ts h s = wrapper_ends_lem w ns ts h
  terminal_ends (is_combination c) n ns ts h s = combination_ends_lem c ns ts h s
  terminal_ends isAndOr n ns ts h s = and_or_ends ts
  terminal_ends isThresh n ns ts h s = thresh_ends n.number n.count ts
  terminal_ends isMulti n ns ts h s = refl
  terminal_ends isMultiA n ns ts h s = multi_a_ends n.number (datas_at material (keys_named n keys)) ts

  newest_sized : {ns : List Node} {ts : Trees} → Stands segwit material keys ns ts → NewestSized ns ts
  newest_sized empty = tt
  newest_sized (more s p) = p.sized

  -- what the nodes say of each tree's ending
  pub stands_end : {ns : List Node} {ts : Trees} → Stands segwit material keys ns ts → AllEnd 0 ns ts
  stands_end empty = tt
  stands_end (more {n} {ns} {ts} {us} {t} s p) =
      let h : AllEnd 0 ns ts = stands_end s in
      let here : ends_from 0 (n ∷ ns) ≡ tree_ends t = subst (λ (o : Option Trees). NewestEndsSo (ends_from 0 (n ∷ ns)) o) p.makes (terminal_ends (terminal_of n.kind) n ns ts h (newest_sized s)) in
      let behind : AllEnd (0 + sizes (children t)) ns us = behind_first (children t) us 0 ns (subst (λ (x : Trees). AllEnd 0 ns x) (made_of segwit material keys n ts us t p.makes) h) in
      let e : suc (0 + sizes (children t)) ≡ 0 + size t = omega (arith, size_of_children t) in
      (here, subst (λ (k : ℕ). AllEnd k (n ∷ ns) us) e (one_more (0 + sizes (children t)) n ns us behind))
