-- The keys and hashes of a tree that is written with a script's tokens lie within the script. Assumes nothing.
-- Why: each push has as many bytes as its code says, and these are the script's at its place.
use Rattle.std.specs.Prelude.{◌≡◌, Bool, true, false, ℕ, ◌≤◌, eqb, length, take, drop}
use Rattle.std.proofs.Common.{sym, ap, ◌∙◌, arith, length-drop, length-append}
use mathlib.Core.List.{List, [], ◌∷◌, ◌++◌}
use Rattle.lex.specs.Token.{Data, data_length, Lexeme, op, num, push, HASH20, BYTES32}
use Rattle.tables.specs.Choose.{pick}
use Rattle.tables.specs.Tables.{flat}
use Rattle.tables.proofs.ListLaws.{take_whole}
use Rattle.spelling.specs.Lexemes.{Formed, AllFormed, ButForNumEqualVerify, none, same, apart, Spells}
use Rattle.spelling.specs.Spell.{spell}
use Rattle.standard.specs.Tree.{Key, key, Leaf, True, False, PkK, RawPkH, After, Older, HashLock, Multi, MultiA, Wrapper, alt, swap, check, dupIf, verify, nonZero, zeroNotEqual, Combination, and_v, and_b, or_b, or_d, or_c, or_i, Tree, Trees, leaf, wrap, join, and_or, thresh, nil, ◌⊳◌}
use Rattle.standard.specs.Written.{hash_push, keys_before, added_keys_before, leaf_before, opening, closing, first, between, last, tree_before, added_trees_before, written}
use Rattle.standard.specs.Table.{DataOf, KeysOf, DatasOf, LeafOf, TreeOf, TreesOf}
use Rattle.there_and_back.specs.Ranged.{DataIn, KeysIn, DatasIn, LeafIn, TreeIn, TreesIn}

data_length_some : (c : ℕ) → 1 ≤ data_length c
unfolding data_length
data_length_some c = by (eqb c 29) (eqb c 30) (eqb c 31)
  where
    by : (x y z : Bool) → 1 ≤ pick x 20 (pick y 32 (pick z 33 65))
    by true y z = omega arith
    by false true z = omega arith
    by false false true = omega arith
    by false false false = omega arith

-- what stands behind opcodes is formed if all is
behind_opening : (w : Wrapper) (ls : List Lexeme) → AllFormed (opening w ++ ls) → AllFormed ls
behind_opening alt ls f = f.1
behind_opening swap ls f = f.1
behind_opening check ls f = f
behind_opening dupIf ls f = f.1.1
behind_opening verify ls f = f
behind_opening nonZero ls f = f.1.1.1
behind_opening zeroNotEqual ls f = f

behind_closing : (w : Wrapper) (ls : List Lexeme) → AllFormed (closing w ++ ls) → AllFormed ls
behind_closing alt ls f = f.1
behind_closing swap ls f = f
behind_closing check ls f = f.1
behind_closing dupIf ls f = f.1
behind_closing verify ls f = f.1
behind_closing nonZero ls f = f.1
behind_closing zeroNotEqual ls f = f.1

behind_first : (c : Combination) (ls : List Lexeme) → AllFormed (first c ++ ls) → AllFormed ls
behind_first and_v ls f = f
behind_first and_b ls f = f
behind_first or_b ls f = f
behind_first or_d ls f = f
behind_first or_c ls f = f
behind_first or_i ls f = f.1

behind_between : (c : Combination) (ls : List Lexeme) → AllFormed (between c ++ ls) → AllFormed ls
behind_between and_v ls f = f
behind_between and_b ls f = f
behind_between or_b ls f = f
behind_between or_d ls f = f.1.1
behind_between or_c ls f = f.1
behind_between or_i ls f = f.1

behind_last : (c : Combination) (ls : List Lexeme) → AllFormed (last c ++ ls) → AllFormed ls
behind_last and_v ls f = f
behind_last and_b ls f = f.1
behind_last or_b ls f = f.1
behind_last or_d ls f = f.1
behind_last or_c ls f = f.1
behind_last or_i ls f = f.1

module _ (script : List ℕ) where
  push_in : (code : ℕ) (d : Data) → Formed (push code d) → DataOf script code d → DataIn script code d
  push_in code d f e =
      let part : length (take (data_length code) (drop d.place script)) ≡ data_length code = ap (λ (x : Data). length x.bytes) (sym e) ∙ f.2 in
      let r : data_length code ≤ length (drop d.place script) = take_whole (data_length code) (drop d.place script) part in
      (e, omega (arith, length-drop d.place script, data_length_some code))

  keys_in : (ks : List Key) (rest : List Lexeme) → AllFormed (keys_before ks rest) → KeysOf script ks → KeysIn script ks × AllFormed rest
  keys_in [] rest f e = (tt, f)
  keys_in (key code d ∷ ks) rest f e = let r = keys_in ks rest f.1 e.1 in ((push_in code d f.0 e.0, r.0), r.1)

  datas_in : (ds : List Data) (rest : List Lexeme) → AllFormed (added_keys_before ds rest) → DatasOf script ds → DatasIn script ds × AllFormed rest
  datas_in [] rest f e = (tt, f)
  datas_in (d ∷ ds) rest f e = let r = datas_in ds rest f.1.1 e.1 in ((push_in BYTES32 d f.0 e.0, r.0), r.1)

  leaf_in : (l : Leaf) (rest : List Lexeme) → AllFormed (leaf_before l rest) → LeafOf script l → LeafIn script l × AllFormed rest
  leaf_in True rest f e = (tt, f.1)
  leaf_in False rest f e = (tt, f.1)
  leaf_in (PkK (key code d)) rest f e = (push_in code d f.0 e, f.1)
  leaf_in (RawPkH d) rest f e = (push_in HASH20 d f.1.1.0 e, f.1.1.1.1.1)
  leaf_in (After n) rest f e = (tt, f.1.1)
  leaf_in (Older n) rest f e = (tt, f.1.1)
  leaf_in (HashLock h d) rest f e = (push_in (hash_push h) d f.1.1.1.1.1.0 e, f.1.1.1.1.1.1.1)
  leaf_in (Multi k ks) rest f e = let r = keys_in ks (num (length ks) ∷ op 8 ∷ rest) f.1 e in (r.0, r.1.1.1)
  leaf_in (MultiA k d ds) rest f e =
      let r = datas_in ds (num k ∷ op 5 ∷ rest) f.1.1 e.1 in ((push_in BYTES32 d f.0 e.0, r.0), r.1.1.1)

  mutual
    tree_in_lem : (t : Tree) (rest : List Lexeme) → AllFormed (tree_before t rest) → TreeOf script t → TreeIn script t × AllFormed rest
    tree_in_lem (leaf l) rest f e = leaf_in l rest f e
    tree_in_lem (wrap w x) rest f e = let r = tree_in_lem x (closing w ++ rest) (behind_opening w (tree_before x (closing w ++ rest)) f) e in (r.0, behind_closing w rest r.1)
    tree_in_lem (join c x y) rest f e =
        let r = tree_in_lem x (between c ++ tree_before y (last c ++ rest)) (behind_first c (tree_before x (between c ++ tree_before y (last c ++ rest))) f) e.0 in
        let s = tree_in_lem y (last c ++ rest) (behind_between c (tree_before y (last c ++ rest)) r.1) e.1 in
        ((r.0, s.0), behind_last c rest s.1)
    tree_in_lem (and_or x y z) rest f e =
        let r = tree_in_lem x (op 17 ∷ tree_before z (op 18 ∷ tree_before y (op 19 ∷ rest))) f e.0 in
        let s = tree_in_lem z (op 18 ∷ tree_before y (op 19 ∷ rest)) r.1.1 e.1.1 in
        let u = tree_in_lem y (op 19 ∷ rest) s.1.1 e.1.0 in
        ((r.0, (u.0, s.0)), u.1.1)
    tree_in_lem (thresh k x xs) rest f e =
        let r = tree_in_lem x (added_trees_before xs (num k ∷ op 4 ∷ rest)) f e.0 in
        let s = trees_in xs (num k ∷ op 4 ∷ rest) r.1 e.1 in
        ((r.0, s.0), s.1.1.1)

    trees_in : (ts : Trees) (rest : List Lexeme) → AllFormed (added_trees_before ts rest) → TreesOf script ts → TreesIn script ts × AllFormed rest
    trees_in nil rest f e = (tt, f)
    trees_in (t ⊳ ts) rest f e =
        let r = tree_in_lem t (op 3 ∷ added_trees_before ts rest) f e.0 in
        let s = trees_in ts rest r.1.1 e.1 in
        ((r.0, s.0), s.1)

  pub tree_within : (t : Tree) → AllFormed (written t) → TreeOf script t → TreeIn script t
  unfolding written
  tree_within t f e = (tree_in_lem t [] f e).0

-- The canonical spelling is the shortest: NUMEQUAL VERIFY as two instructions is one byte longer
but_for_longer : {a b : List (List ℕ)} → ButForNumEqualVerify a b → length (flat a) ≤ length (flat b)
but_for_longer none = omega arith
but_for_longer (same {instruction} {rest} {written} s) = omega (arith, length-append instruction (flat rest), length-append instruction (flat written), but_for_longer s)
but_for_longer (apart {rest} {written} s) = omega (arith, but_for_longer s)

pub spelling_shortest : (ls : List Lexeme) (bytes : List ℕ) → Spells ls bytes → length (spell ls) ≤ length bytes
unfolding spell
spelling_shortest ls bytes s = let l : length bytes ≡ length (flat s.written) = ap length s.same_bytes in omega (arith, but_for_longer s.but_for)
