-- For the proof: a step on lists does what the step on trees does, and what it needs of the tables is there. The nodes and keys are those of the finished trees (crate `forest`); that a row finds enough of them is `Good` of crate `standard`. Assumes nothing.
use Rattle.std.specs.Prelude.{◌≡◌, refl, Bool, true, false, List, ◌∷◌, ◌++◌, ◌⊎◌, ℕ, zero, suc, leb, length}
use Rattle.std.proofs.Common.{ap, append-nil, ⊎_elim, inl, inr}
use Rattle.std.proofs.lemmas.Bool.{false≢true}
use Rattle.tables.specs.Choose.{pick}
use Rattle.lex.specs.Token.{Lexeme}
use Rattle.standard.specs.Tree as tree
use Rattle.standard.specs.Tree.{Leaf, Tree, Trees, leaf, wrap, join, and_or, thresh, nil, ◌⊳◌, many, ◌⊕◌, sizes, key_counts}
use Rattle.standard.specs.Allowed.{within, allowed_leaf, leaf_refusal}
use Rattle.standard.specs.Table.{Node, leaf_kind, wrapper_kind, combination_kind, leaf_offsets, take_trees}
use Rattle.standard.specs.Rows.{NonTerm, Asks, noneLeft, reduces3, refuses, enters, makes, reduces1, reduces2, reduces_many, Found, found, row_of}
use Rattle.standard.specs.Machine as machine
use Rattle.standard.specs.Machine.{State, refusal, Limits, finish, step}
use Rattle.standard.proofs.Sound.{Good, take_all}
use Rattle.standard.proofs.TableLaws.{leaf_keys_length}
use Rattle.standard.proofs.Complete.{leaf_passes}
use Rattle.row.specs.Request.{Request, asked, reading_asked, leaf_asked}
use Rattle.judge.specs.Nodes.{Making, new_leaf, reduce_one, reduce_two, reduce_three, reduce_many}
use Rattle.judge.specs.Nodes as judging
use Rattle.forest.specs.Forest.{Forest, Agrees}
use Rattle.forest.proofs.ForestLaws.{nodes_counted, keys_counted, leaf_made, leaf_refused, thresh_refused, wrap_agrees, join_agrees, and_or_agrees, thresh_agrees}
use Rattle.lists.specs.Lists.{Lists, Next, goes, stops, fitting, goes_on, made, perform, performed, step_by}

-- the same work list and tokens, and the nodes and keys of the finished trees
pub record Same (segwit : Bool) (l : Lists) (s : State) : Type 0 where
  pub work : l.work ≡ s.work
  pub left : l.left ≡ s.left
  pub forest : Forest segwit l.nodes l.keys s.done

abbrev pub Tied : Bool → Next → machine.Next → Type 0
Tied segwit (goes l) (machine.goes s) = Same segwit l s
Tied segwit (goes l) (machine.stops r) = ⊥
Tied segwit (stops q) (machine.goes s) = ⊥
Tied segwit (stops q) (machine.stops r) = q ≡ r

-- too few trees would be refused by no number of 01
pub few : {A : Type 0} → within 9 0 14 ≡ true → A
few e = absurd (false≢true e)

-- the first n trees of the stack, or it has fewer
pub taken : {A : Type 0} (n : ℕ) (ts : Trees) (none : A) (onward : Trees → Trees → A)
    → ((xs : Trees) × (rest : Trees) × (many xs ≡ n) × (ts ≡ ◌⊕◌ xs rest)) ⊎ (take_trees n ts none onward ≡ none)
taken zero ts none onward = inl (nil, ts, refl, refl)
taken (suc n) nil none onward = inr refl
taken (suc n) (t ⊳ ts) none onward =
    ⊎_elim (λ h. inl (t ⊳ h.0, h.1, ap suc h.2, ap (λ (l : Trees). t ⊳ l) h.3)) (λ e. inr e) (taken n ts none (λ xs rest. onward (t ⊳ xs) rest))

module _ (segwit : Bool) (limits : Limits) where
  -- what fits on lists fits on trees
  picked : (a b c : Bool) (l : Lists) (s : State) → Same segwit l s
      → Tied segwit (pick a (pick b (pick c (goes l) (stops (refusal 17 0 l.left))) (stops (refusal 15 0 l.left))) (stops (refusal 16 0 l.left)))
      (pick a (pick b (pick c (machine.goes s) (machine.stops (refusal 17 0 s.left))) (machine.stops (refusal 15 0 s.left))) (machine.stops (refusal 16 0 s.left)))
  picked true true true l s h = h
  picked true true false l s h = ap (refusal 17 0) h.left
  picked true false c l s h = ap (refusal 15 0) h.left
  picked false b c l s h = ap (refusal 16 0) h.left

  fitted : (l : Lists) (s : State) → Same segwit l s → Tied segwit (fitting limits l) (machine.fitting limits (machine.goes s))
  fitted l s h =
      let k : length l.keys ≡ key_counts s.done = keys_counted segwit h.forest in
      let n : length l.nodes ≡ sizes s.done = nodes_counted segwit h.forest in
      let w : length l.work ≡ length s.work = ap length h.work in
      rw (k, n, w) (picked (leb (key_counts s.done) limits.keys) (leb (sizes s.done) limits.nodes) (leb (length s.work) limits.work) l s h)

  module _ (work : List NonTerm) (left : List Lexeme) (nodes : List Node) (keys : List ℕ) where
    went : (work' : List NonTerm) (nodes' : List Node) (keys' : List ℕ) (done : Trees) → Forest segwit nodes' keys' done
        → Tied segwit (goes_on limits work left nodes keys work' nodes' keys') (machine.fitting limits (machine.goes_on work' left done))
    went work' nodes' keys' done f =
        fitted (record { work = work'; left = left; nodes = nodes'; keys = keys' }) (record { work = work'; left = left; done = done }) (record { work = refl; left = refl; forest = f })

    -- a node that a reduction made, or didn't
    made_tied : (t : Tree) (m : Making) (done : Trees) → Agrees segwit nodes keys done t m
        → Tied segwit (made limits work left nodes keys m) (machine.fitting limits (finish segwit t work left done))
    made_tied t (judging.makes n) done h = rw h.0 (went work (n ∷ nodes) keys (t ⊳ done) h.1)
    made_tied t (judging.refuses reason) done h = rw h refl

    -- a leaf's node and keys, as lists have them
    leaf_tied : (es : List NonTerm) (l : Leaf) (done : Trees) → Forest segwit nodes keys done
        → Tied segwit (perform limits work left nodes keys (leaf_asked l es)) (machine.fitting limits (machine.goes_on (es ++ work) left (leaf l ⊳ done)))
    leaf_tied es tree.True done f = went (es ++ work) _ keys (leaf tree.True ⊳ done) (rw append-nil at (leaf_made segwit tree.True done f))
    leaf_tied es tree.False done f = went (es ++ work) _ keys (leaf tree.False ⊳ done) (rw append-nil at (leaf_made segwit tree.False done f))
    leaf_tied es (tree.PkK k) done f = went (es ++ work) _ keys (leaf (tree.PkK k) ⊳ done) (rw append-nil at (leaf_made segwit (tree.PkK k) done f))
    leaf_tied es (tree.RawPkH d) done f = went (es ++ work) _ keys (leaf (tree.RawPkH d) ⊳ done) (rw append-nil at (leaf_made segwit (tree.RawPkH d) done f))
    leaf_tied es (tree.After n) done f = went (es ++ work) _ keys (leaf (tree.After n) ⊳ done) (rw append-nil at (leaf_made segwit (tree.After n) done f))
    leaf_tied es (tree.Older n) done f = went (es ++ work) _ keys (leaf (tree.Older n) ⊳ done) (rw append-nil at (leaf_made segwit (tree.Older n) done f))
    leaf_tied es (tree.HashLock h d) done f = went (es ++ work) _ keys (leaf (tree.HashLock h d) ⊳ done) (rw append-nil at (leaf_made segwit (tree.HashLock h d) done f))
    leaf_tied es (tree.Multi k ks) done f =
        went (es ++ work) (new_leaf (leaf_kind (tree.Multi k ks)) k (length (leaf_offsets (tree.Multi k ks))) (length keys) ∷ nodes) (keys ++ leaf_offsets (tree.Multi k ks)) (leaf (tree.Multi k ks) ⊳ done) (rw (leaf_keys_length (tree.Multi k ks)) (leaf_made segwit (tree.Multi k ks) done f))
    leaf_tied es (tree.MultiA k d ds) done f =
        went (es ++ work) (new_leaf (leaf_kind (tree.MultiA k d ds)) k (length (leaf_offsets (tree.MultiA k d ds))) (length keys) ∷ nodes) (keys ++ leaf_offsets (tree.MultiA k d ds)) (leaf (tree.MultiA k d ds) ⊳ done) (rw (leaf_keys_length (tree.MultiA k d ds)) (leaf_made segwit (tree.MultiA k d ds) done f))

    module _ (tokens : List Lexeme) where
      thresh_tied : (k : ℕ) (x : Tree) (xs rest : Trees) (b : Bool) → within 1 k (suc (many xs)) ≡ b → Forest segwit nodes keys (x ⊳ (◌⊕◌ xs rest))
          → Tied segwit (perform limits work left nodes keys (pick b (Rattle.row.specs.Request.many_children k (suc (many xs))) (Rattle.row.specs.Request.refused 13))) (machine.fitting limits (finish segwit (thresh k x xs) work left rest))
      thresh_tied k x xs rest true e f = made_tied (thresh k x xs) (reduce_many k (suc (many xs)) nodes) rest (thresh_agrees segwit k x xs rest e f)
      thresh_tied k x xs rest false e f = rw (thresh_refused segwit k x xs e) refl

      many_tied : (k n : ℕ) (done : Trees) → Forest segwit nodes keys done → Good segwit tokens (machine.finish_many segwit k n work left done)
          → Tied segwit (perform limits work left nodes keys (asked segwit (reduces_many k n))) (machine.fitting limits (machine.finish_many segwit k n work left done))
      many_tied k n nil f g = few g
      many_tied k zero (x ⊳ done) f g = few g
      many_tied k (suc n) (x ⊳ done) f g =
          ⊎_elim
          (λ h.
          let e : take_trees n done (machine.stops machine.never) (λ xs rest. finish segwit (thresh k x xs) work left rest) ≡ finish segwit (thresh k x h.0) work left h.1
          = rw (h.3, ← h.2) (take_all h.0 h.1 (machine.stops machine.never) (λ xs rest. finish segwit (thresh k x xs) work left rest)) in
          let f' : Forest segwit nodes keys (x ⊳ (◌⊕◌ h.0 h.1)) = rw h.3 at f in
          rw (e, ← h.2) (thresh_tied k x h.0 h.1 (within 1 k (suc (many h.0))) refl f'))
          (λ e. few (rw e at g))
          (taken n done (machine.stops machine.never) (λ xs rest. finish segwit (thresh k x xs) work left rest))

      leaf_made_tied : (es : List NonTerm) (l : Leaf) (b : Bool) (done : Trees) → allowed_leaf segwit l ≡ b → Forest segwit nodes keys done
          → Tied segwit (perform limits work left nodes keys (pick b (leaf_asked l es) (Rattle.row.specs.Request.refused (leaf_refusal segwit l)))) (machine.fitting limits (finish segwit (leaf l) (es ++ work) left done))
      leaf_made_tied es l true done e f = rw (leaf_passes segwit l e) (leaf_tied es l done f)
      leaf_made_tied es l false done e f = rw (leaf_refused segwit l e) refl

      -- what a row asks for, carried out on lists and on trees
      asked_tied : (asks : Asks) (done : Trees) → Forest segwit nodes keys done → Good segwit tokens (machine.perform segwit (found asks left) work done)
          → Tied segwit (perform limits work left nodes keys (asked segwit asks)) (machine.fitting limits (machine.perform segwit (found asks left) work done))
      asked_tied noneLeft done f g = refl
      asked_tied (refuses n) done f g = refl
      asked_tied (enters es) done f g = went (es ++ work) nodes keys done f
      asked_tied (makes l es) done f g = leaf_made_tied es l (allowed_leaf segwit l) done refl f
      asked_tied (reduces1 w) nil f g = few g
      asked_tied (reduces1 w) (x ⊳ done) f g = made_tied (wrap w x) (reduce_one (wrapper_kind w) nodes) done (wrap_agrees segwit w x done f)
      asked_tied (reduces2 c) nil f g = few g
      asked_tied (reduces2 c) (x ⊳ nil) f g = few g
      asked_tied (reduces2 c) (x ⊳ (y ⊳ done)) f g = made_tied (join c x y) (reduce_two (combination_kind c) nodes) done (join_agrees segwit c x y done f)
      asked_tied reduces3 nil f g = few g
      asked_tied reduces3 (x ⊳ nil) f g = few g
      asked_tied reduces3 (x ⊳ (z ⊳ nil)) f g = few g
      asked_tied reduces3 (x ⊳ (z ⊳ (y ⊳ done))) f g = made_tied (and_or x y z) (reduce_three nodes) done (and_or_agrees segwit x y z done f)
      asked_tied (reduces_many k n) done f g = many_tied k n done f g

  row_tied : (tokens : List Lexeme) (row : Found) (work : List NonTerm) (nodes : List Node) (keys : List ℕ) (done : Trees) → Forest segwit nodes keys done → Good segwit tokens (machine.perform segwit row work done)
      → Tied segwit (performed limits (reading_asked segwit row) work nodes keys) (machine.fitting limits (machine.perform segwit row work done))
  row_tied tokens (found asks left) work nodes keys done f g = asked_tied work left nodes keys tokens asks done f g

  -- a step on lists does what the step on trees does
  pub step_tied : (tokens : List Lexeme) (entry : NonTerm) (work : List NonTerm) (left : List Lexeme) (nodes : List Node) (keys : List ℕ) (done : Trees) → Forest segwit nodes keys done → Good segwit tokens (step segwit (entry ∷ work) left done)
      → Tied segwit (step_by segwit limits entry work left nodes keys) (machine.fitting limits (step segwit (entry ∷ work) left done))
  unfolding step_by
  step_tied tokens entry work left nodes keys done f g = row_tied tokens (row_of segwit entry left) work nodes keys done f g
