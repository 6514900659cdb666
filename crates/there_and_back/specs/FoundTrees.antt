-- A tree that the encoder's checks found is allowed, and its keys and hashes lie within the material. Assumes nothing.
-- Why: each node's places and values have been tested, and its children's before.
use Rattle.std.specs.Prelude.{◌≡◌, Bool, ◌&&◌, List, [], ◌∷◌, ℕ, zero, suc, ◌+◌, ◌≤◌, drop}
use Rattle.std.proofs.Math.Path.{refl, ap, subst}
use Rattle.std.proofs.Common.{◌∙◌, arith, length-drop, length-take-le}
use Rattle.std.proofs.Math.Bool.{true, false}
use Rattle.std.proofs.Math.Option.{Option, none, some}
use borrow.Author.Tests.{leb-true}
use Rattle.std.proofs.Math.Dec.{leb}
use Rattle.std.proofs.Math.ListN.{length}
use Rattle.lex.specs.Token.{Data, data_at, data_length}
use Rattle.tables.specs.Choose.{pick}
use Rattle.tables.proofs.BoolLaws.{left_true, right_true, both_true}
use Rattle.standard.specs.Tree.{key, sha256, hash256, ripemd160, hash160, True, False, PkK, RawPkH, After, Older, HashLock, Multi, MultiA, Wrapper, Combination, Tree, Trees, leaf, wrap, join, and_or, thresh, nil, ◌⊳◌, many}
use Rattle.standard.specs.Allowed.{within, key_form, all_multi_keys, all_multi_a_keys, locktime, multi_count, multi_a_threshold, allowed, all_allowed}
use Rattle.standard.specs.Table.{Node, Terminal, noTerminal, isTrue, isFalse, isPkK, isRawPkH, isAfter, isOlder, is_hash, is_wrapper, is_combination, isAndOr, isThresh, isMulti, isMultiA, terminal_of, take_trees, key_code, key_length, keys_at, datas_at, multi_a_of, wrap_top, join_top, and_or_top, thresh_top, add_terminal}
use Rattle.standard.proofs.TableLaws.{keys_at_length, datas_at_length}
use Rattle.there_and_back.specs.Ranged.{DataIn, KeysIn, DatasIn, TreeIn, TreesIn}
use Rattle.encoding.specs.Form.{shape, shape_of, keys_named, all_within, formed_as, well_formed}
use Rattle.encoding.specs.FormLaws.{in_range_lem, keys_range}
use Rattle.encoding.specs.Values.{value_refusal_of, value_refusal}
use Rattle.encoding.proofs.Stands.{Stands, empty, more}

-- a test that refuses otherwise has passed
not_refusing : (b : Bool) (n : ℕ) → pick b 0 (suc n) ≡ 0 → b ≡ true
not_refusing true n e = refl
not_refusing false n e = let no : ⊥ = omega arith in absurd no

-- two tests, each with its own number
neither_refusing : (a b : Bool) (n m : ℕ) → pick a (pick b 0 (suc n)) (suc m) ≡ 0 → (a ≡ true) × (b ≡ true)
neither_refusing true b n m e = (refl, not_refusing b n e)
neither_refusing false b n m e = let no : ⊥ = omega arith in absurd no

-- as many keys as the node counts
pub named_length : (n : Node) (keys : List ℕ) → n.place + n.count ≤ length keys → length (keys_named n keys) ≡ n.count
named_length n keys h = length-take-le n.count (drop n.place keys) (omega (arith, length-drop n.place keys))

-- What is shown of each tree, and of each tree of a stack
abbrev Good : Bool → List ℕ → Tree → Type 0
Good segwit material t = (allowed segwit t ≡ true) × TreeIn material t

abbrev AllGood : Bool → List ℕ → Trees → Type 0
AllGood segwit material ts = (all_allowed segwit ts ≡ true) × TreesIn material ts

good_more : (segwit : Bool) (material : List ℕ) (t : Tree) (ts : Trees) → Good segwit material t → AllGood segwit material ts → AllGood segwit material (t ⊳ ts)
good_more segwit material t ts g h = (both_true g.0 h.0, (g.1, h.1))

good_first : (segwit : Bool) (material : List ℕ) (t : Tree) (ts : Trees) → AllGood segwit material (t ⊳ ts) → Good segwit material t
good_first segwit material t ts h = (left_true (allowed segwit t) (all_allowed segwit ts) h.0, h.1.0)

good_rest : (segwit : Bool) (material : List ℕ) (t : Tree) (ts : Trees) → AllGood segwit material (t ⊳ ts) → AllGood segwit material ts
good_rest segwit material t ts h = (right_true (allowed segwit t) (all_allowed segwit ts) h.0, h.1.1)

-- every tree of a stack, if there is one
abbrev GoodTrees : Bool → List ℕ → Option Trees → Type 0
GoodTrees segwit material none = Unit {0}
GoodTrees segwit material (some ts) = AllGood segwit material ts

wrapped_good : (segwit : Bool) (material : List ℕ) (w : Wrapper) (ts : Trees) → AllGood segwit material ts → GoodTrees segwit material (wrap_top w ts)
wrapped_good segwit material w nil g = tt
wrapped_good segwit material w (x ⊳ ts) g = good_more segwit material (wrap w x) ts (good_first segwit material x ts g) (good_rest segwit material x ts g)

joined_good : (segwit : Bool) (material : List ℕ) (c : Combination) (ts : Trees) → AllGood segwit material ts → GoodTrees segwit material (join_top c ts)
joined_good segwit material c nil g = tt
joined_good segwit material c (x ⊳ nil) g = tt
joined_good segwit material c (x ⊳ (y ⊳ ts)) g =
    let a = good_first segwit material x (y ⊳ ts) g in
    let h = good_rest segwit material x (y ⊳ ts) g in
    let b = good_first segwit material y ts h in
    good_more segwit material (join c x y) ts (both_true a.0 b.0, (a.1, b.1)) (good_rest segwit material y ts h)

and_or_good : (segwit : Bool) (material : List ℕ) (ts : Trees) → AllGood segwit material ts → GoodTrees segwit material (and_or_top ts)
and_or_good segwit material nil g = tt
and_or_good segwit material (x ⊳ nil) g = tt
and_or_good segwit material (x ⊳ (z ⊳ nil)) g = tt
and_or_good segwit material (x ⊳ (z ⊳ (y ⊳ ts))) g =
    let a = good_first segwit material x (z ⊳ (y ⊳ ts)) g in
    let h = good_rest segwit material x (z ⊳ (y ⊳ ts)) g in
    let c = good_first segwit material z (y ⊳ ts) h in
    let k = good_rest segwit material z (y ⊳ ts) h in
    let b = good_first segwit material y ts k in
    good_more segwit material (and_or x y z) ts (both_true a.0 (both_true b.0 c.0), (a.1, (b.1, c.1))) (good_rest segwit material y ts k)

-- so many trees taken off a stack, and the rest
taken_good : (segwit : Bool) (material : List ℕ) (n : ℕ) (ts : Trees) (next : Trees → Trees → Option Trees) → AllGood segwit material ts
    → ((taken rest : Trees) → many taken ≡ n → AllGood segwit material taken → AllGood segwit material rest → GoodTrees segwit material (next taken rest))
    → GoodTrees segwit material (take_trees n ts none next)
taken_good segwit material zero ts next g h = h nil ts refl (refl, tt) g
taken_good segwit material (suc n) nil next g h = tt
taken_good segwit material (suc n) (t ⊳ ts) next g h =
    taken_good segwit material n ts (λ taken rest. next (t ⊳ taken) rest) (good_rest segwit material t ts g)
    (λ taken rest e a b. h (t ⊳ taken) rest (ap suc e) (good_more segwit material t taken (good_first segwit material t ts g) a) b)

thresh_good : (segwit : Bool) (material : List ℕ) (k n : ℕ) (ts : Trees) → within 1 k n ≡ true → AllGood segwit material ts → GoodTrees segwit material (thresh_top k n ts)
thresh_good segwit material k n nil w g = tt
thresh_good segwit material k zero (x ⊳ ts) w g = tt
thresh_good segwit material k (suc n) (x ⊳ ts) w g =
    let a = good_first segwit material x ts g in
    taken_good segwit material n ts (λ xs rest. some (thresh k x xs ⊳ rest)) (good_rest segwit material x ts g)
    (λ taken rest e b c.
    let v : within 1 k (suc (many taken)) ≡ true = ap (λ (j : ℕ). within 1 k (suc j)) e ∙ w in
    good_more segwit material (thresh k x taken) rest (both_true v (both_true a.0 b.0), (a.1, b.1)) c)

-- keys and hashes that lie within the material
key_in : (segwit : Bool) (material : List ℕ) (p : ℕ) → leb (p + key_length segwit) (length material) ≡ true → DataIn material (key_code segwit) (data_at material p (key_length segwit))
unfolding data_length
key_in true material p h = (refl, leb-true (p + 33) (length material) h)
key_in false material p h = (refl, leb-true (p + 32) (length material) h)

keys_in : (material ps : List ℕ) → all_within 33 (length material) ps ≡ true → KeysIn material (keys_at material ps)
unfolding data_length
keys_in material [] h = tt
keys_in material (p ∷ ps) h =
    ((refl, leb-true (p + 33) (length material) (left_true (leb (p + 33) (length material)) _ h)), keys_in material ps (right_true (leb (p + 33) (length material)) _ h))

datas_in : (material ps : List ℕ) → all_within 32 (length material) ps ≡ true → DatasIn material (datas_at material ps)
unfolding data_length
datas_in material [] h = tt
datas_in material (p ∷ ps) h =
    ((refl, leb-true (p + 32) (length material) (left_true (leb (p + 32) (length material)) _ h)), datas_in material ps (right_true (leb (p + 32) (length material)) _ h))

multi_a_good : (segwit : Bool) (material : List ℕ) (k : ℕ) (ds : List Data) (ts : Trees) → all_multi_a_keys segwit ds ≡ true
    → (multi_a_threshold k && (leb k (length ds) && leb (length ds) 999)) ≡ true → DatasIn material ds → AllGood segwit material ts → GoodTrees segwit material (multi_a_of k ds ts)
multi_a_good segwit material k [] ts a b e g = tt
multi_a_good segwit material k (d ∷ ds) ts a b e g =
    good_more segwit material (leaf (MultiA k d ds)) ts
    (both_true (left_true (multi_a_threshold k) _ b) (both_true a (right_true (multi_a_threshold k) _ b)), e) g

module _ (segwit : Bool) (material keys : List ℕ) where
  -- a node's tree
  terminal_good : (kind : Terminal) (n : Node) (ts : Trees) → formed_as (length material) keys (shape_of segwit kind) n ts ≡ true → value_refusal_of segwit material keys kind n ≡ 0
      → AllGood segwit material ts → GoodTrees segwit material (add_terminal segwit material keys kind n ts)
  unfolding data_length
  terminal_good noTerminal n ts f v g = tt
  terminal_good isTrue n ts f v g = good_more segwit material (leaf True) ts (refl, tt) g
  terminal_good isFalse n ts f v g = good_more segwit material (leaf False) ts (refl, tt) g
  terminal_good isPkK n ts f v g =
      good_more segwit material (leaf (PkK (key (key_code segwit) (data_at material n.place (key_length segwit))))) ts
      (not_refusing (key_form segwit (key (key_code segwit) (data_at material n.place (key_length segwit)))) 10 v, key_in segwit material n.place (in_range_lem (length material) keys (shape false false (key_length segwit) 0 0) n ts f)) g
  terminal_good isRawPkH n ts f v g =
      good_more segwit material (leaf (RawPkH (data_at material n.place 20))) ts (refl, (refl, leb-true (n.place + 20) (length material) (in_range_lem (length material) keys (shape false false 20 0 0) n ts f))) g
  terminal_good isAfter n ts f v g = good_more segwit material (leaf (After n.number)) ts (not_refusing (locktime n.number) 11 v, tt) g
  terminal_good isOlder n ts f v g = good_more segwit material (leaf (Older n.number)) ts (not_refusing (locktime n.number) 11 v, tt) g
  terminal_good (is_hash sha256) n ts f v g =
      good_more segwit material (leaf (HashLock sha256 (data_at material n.place 32))) ts (refl, (refl, leb-true (n.place + 32) (length material) (in_range_lem (length material) keys (shape false false 32 0 0) n ts f))) g
  terminal_good (is_hash hash256) n ts f v g =
      good_more segwit material (leaf (HashLock hash256 (data_at material n.place 32))) ts (refl, (refl, leb-true (n.place + 32) (length material) (in_range_lem (length material) keys (shape false false 32 0 0) n ts f))) g
  terminal_good (is_hash ripemd160) n ts f v g =
      good_more segwit material (leaf (HashLock ripemd160 (data_at material n.place 20))) ts (refl, (refl, leb-true (n.place + 20) (length material) (in_range_lem (length material) keys (shape false false 20 0 0) n ts f))) g
  terminal_good (is_hash hash160) n ts f v g =
      good_more segwit material (leaf (HashLock hash160 (data_at material n.place 20))) ts (refl, (refl, leb-true (n.place + 20) (length material) (in_range_lem (length material) keys (shape false false 20 0 0) n ts f))) g
  terminal_good (is_wrapper w) n ts f v g = wrapped_good segwit material w ts g
  terminal_good (is_combination c) n ts f v g = joined_good segwit material c ts g
  terminal_good isAndOr n ts f v g = and_or_good segwit material ts g
  terminal_good isThresh n ts f v g = thresh_good segwit material n.number n.count ts (not_refusing (within 1 n.number n.count) 12 v) g
  terminal_good isMulti n ts f v g =
      let ks = keys_at material (keys_named n keys) in
      let r = keys_range (length material) keys 33 n ts refl f in
      let l : length ks ≡ n.count = keys_at_length material (keys_named n keys) ∙ named_length n keys r.0 in
      let p = neither_refusing (all_multi_keys segwit ks) (multi_count n.count && within 1 n.number n.count) 12 10 v in
      let q : (multi_count (length ks) && within 1 n.number (length ks)) ≡ true = ap (λ (j : ℕ). multi_count j && within 1 n.number j) l ∙ p.1 in
      good_more segwit material (leaf (Multi n.number ks)) ts
      (both_true (left_true (multi_count (length ks)) _ q) (both_true p.0 (right_true (multi_count (length ks)) _ q)), keys_in material (keys_named n keys) r.1) g
  terminal_good isMultiA n ts f v g =
      let ds = datas_at material (keys_named n keys) in
      let r = keys_range (length material) keys 32 n ts refl f in
      let l : length ds ≡ n.count = datas_at_length material (keys_named n keys) ∙ named_length n keys r.0 in
      let p = neither_refusing (all_multi_a_keys segwit ds) (multi_a_threshold n.number && (leb n.number n.count && leb n.count 999)) 12 10 v in
      let q : (multi_a_threshold n.number && (leb n.number (length ds) && leb (length ds) 999)) ≡ true =
      ap (λ (j : ℕ). multi_a_threshold n.number && (leb n.number j && leb j 999)) l ∙ p.1 in
      multi_a_good segwit material n.number ds ts p.0 q (datas_in material (keys_named n keys) r.1) g

  -- every tree that stands
  pub stands_good : {ns : List Node} {ts : Trees} → Stands segwit material keys ns ts → (all_allowed segwit ts ≡ true) × TreesIn material ts
  unfolding well_formed value_refusal
  stands_good empty = (refl, tt)
  stands_good (more {n} {ns} {ts} {us} {t} s p) =
      subst (λ (o : Option Trees). GoodTrees segwit material o) p.makes (terminal_good (terminal_of n.kind) n ts p.formed p.valued (stands_good s))
