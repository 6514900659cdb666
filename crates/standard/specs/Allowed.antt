-- The values that a tree may hold: document 01, "Tokens to tree" (key form, locktimes, thresholds). `segwit` is the script kind: yes for 0, no for 1, tapscript.
use Rattle.std.specs.Prelude.{Bool, true, false, ◌&&◌, ◌||◌, List, [], ◌∷◌, ℕ, suc, eqb, leb, length, get_or}
use Rattle.lex.specs.Token.{Data, BYTES32, BYTES33}
use Rattle.tables.specs.Choose.{pick}
use Rattle.standard.specs.Tree.{Key, key, Leaf, True, False, PkK, RawPkH, After, Older, HashLock, Multi, MultiA, Tree, Trees, leaf, wrap, join, and_or, thresh, nil, ◌⊳◌, many}

-- from least to most
abbrev pub within : ℕ → ℕ → ℕ → Bool
within least n most = leb least n && leb n most

-- "Key form: segwit 33 bytes starting 02 or 03; tapscript any 32 bytes"
abbrev pub key_form : Bool → Key → Bool
key_form true (key code d) = eqb code BYTES33 && (eqb (get_or d.bytes 0 0) 2 || eqb (get_or d.bytes 0 0) 3)
key_form false (key code d) = eqb code BYTES32

-- "A multi in tapscript and a multi_a in segwit have no allowed key"
abbrev pub multi_key : Bool → Key → Bool
multi_key segwit k = segwit && key_form segwit k

abbrev pub multi_a_key : Bool → Data → Bool
multi_a_key true d = false
multi_a_key false d = true

abbrev pub all_multi_keys : Bool → List Key → Bool
all_multi_keys segwit [] = true
all_multi_keys segwit (k ∷ ks) = multi_key segwit k && all_multi_keys segwit ks

abbrev pub all_multi_a_keys : Bool → List Data → Bool
all_multi_a_keys segwit [] = true
all_multi_a_keys segwit (d ∷ ds) = multi_a_key segwit d && all_multi_a_keys segwit ds

-- "Locktimes 1 to 2,147,483,647"
abbrev pub locktime : ℕ → Bool
locktime n = within 1 n 2147483647

-- "Multi 1 ≤ n ≤ 20, tested before its keys; then 1 ≤ k ≤ n"
abbrev pub multi_count : ℕ → Bool
multi_count n = within 1 n 20

-- "Multi_a's k is tested to be 1 to 999 before its keys; ... then k ≤ n ≤ 999"
abbrev pub multi_a_threshold : ℕ → Bool
multi_a_threshold k = within 1 k 999

abbrev pub allowed_leaf : Bool → Leaf → Bool
allowed_leaf segwit True = true
allowed_leaf segwit False = true
allowed_leaf segwit (PkK k) = key_form segwit k
allowed_leaf segwit (RawPkH d) = true
allowed_leaf segwit (After n) = locktime n
allowed_leaf segwit (Older n) = locktime n
allowed_leaf segwit (HashLock h d) = true
allowed_leaf segwit (Multi k ks) = multi_count (length ks) && (all_multi_keys segwit ks && within 1 k (length ks))
allowed_leaf segwit (MultiA k d ds) = multi_a_threshold k && (all_multi_a_keys segwit (d ∷ ds) && (leb k (suc (length ds)) && leb (suc (length ds)) 999))

-- the number of the refusal of a leaf that isn't allowed: "after the early 13 on a multi's n or multi_a's k: 11, 12, 13"
abbrev pub leaf_refusal : Bool → Leaf → ℕ
leaf_refusal segwit True = 0
leaf_refusal segwit False = 0
leaf_refusal segwit (PkK k) = 11
leaf_refusal segwit (RawPkH d) = 0
leaf_refusal segwit (After n) = 12
leaf_refusal segwit (Older n) = 12
leaf_refusal segwit (HashLock h d) = 0
leaf_refusal segwit (Multi k ks) = pick (multi_count (length ks)) (pick (all_multi_keys segwit ks) 13 11) 13
leaf_refusal segwit (MultiA k d ds) = pick (multi_a_threshold k) (pick (all_multi_a_keys segwit (d ∷ ds)) 13 11) 13

-- "Thresh 1 ≤ k ≤ n"
abbrev pub thresh_allowed : ℕ → Tree → Trees → Bool
thresh_allowed k x xs = within 1 k (suc (many xs))

-- every node's values are allowed
abbrev mutual
  pub allowed : Bool → Tree → Bool
  allowed segwit (leaf l) = allowed_leaf segwit l
  allowed segwit (wrap w x) = allowed segwit x
  allowed segwit (join c x y) = allowed segwit x && allowed segwit y
  allowed segwit (and_or x y z) = allowed segwit x && (allowed segwit y && allowed segwit z)
  allowed segwit (thresh k x xs) = thresh_allowed k x xs && (allowed segwit x && all_allowed segwit xs)

  pub all_allowed : Bool → Trees → Bool
  all_allowed segwit nil = true
  all_allowed segwit (t ⊳ ts) = allowed segwit t && all_allowed segwit ts
