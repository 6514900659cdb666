-- For the proof: what carrying a row out needs of the tables is there, where the nodes are those of the finished trees and the state is good. Assumes nothing.
use Rattle.std.specs.Prelude.{Bool, true, false, List, ◌∷◌, ℕ, zero, suc, ◌+◌, ◌*◌, ◌≤◌, ◌<◌, length}
use Rattle.std.proofs.Common.{ap, ⊎_elim, arith}
use Rattle.tables.specs.Choose.{pick}
use Rattle.tables.specs.Tables.{newest}
use Rattle.lex.specs.Token.{Lexeme}
use Rattle.standard.specs.Tree as tree
use Rattle.standard.specs.Tree.{Leaf, Trees, thresh, nil, ◌⊳◌, many, ◌⊕◌, sizes}
use Rattle.standard.specs.Allowed.{within, allowed_leaf, leaf_refusal}
use Rattle.standard.specs.Rows.{NonTerm, Expression, WExpression, MaybeAndV, AndV, Alt, Swap, EndIf, EndIfNotIf, EndIfElse, Tern, Reduce1, Reduce2, ThreshW, ThreshE, Asks, noneLeft, reduces3, refuses, enters, makes, reduces1, reduces2, reduces_many, Found, found, row_of}
use Rattle.standard.specs.Machine as machine
use Rattle.standard.specs.Machine.{finish, step}
use Rattle.standard.proofs.Sound.{Good}
use Rattle.standard.proofs.TreeLaws.{many_sizes, many_append}
use Rattle.row.specs.Request.{Request, refused, many_children, asked, reading_asked, leaf_asked}
use Rattle.judge.specs.NodeTable.{node_at, Finished}
use Rattle.forest.specs.Forest.{Forest}
use Rattle.forest.proofs.TableLaws.{finished}
use Rattle.lists.specs.Small.{SmallLexemes, SmallK}
use Rattle.lists.specs.SmallLaws.{SmallAsks, SmallFound, Countable, row_small}
use Rattle.lists.specs.Ready.{most_counted, Ready, ReadyReading}
use Rattle.lists.proofs.StepLaws.{few, taken}

-- a thresh has counted no more children than there are finished trees
pub countable : (segwit : Bool) (tokens : List Lexeme) (entry : NonTerm) (work : List NonTerm) (left : List Lexeme) (done : Trees)
    → Good segwit tokens (machine.goes_on (entry ∷ work) left done) → suc (sizes done) < most_counted → SmallK entry → Countable most_counted entry
countable segwit tokens Expression work left done g h k = tt
countable segwit tokens WExpression work left done g h k = tt
countable segwit tokens MaybeAndV work left done g h k = tt
countable segwit tokens AndV work left done g h k = tt
countable segwit tokens Alt work left done g h k = tt
countable segwit tokens Swap work left done g h k = tt
countable segwit tokens EndIf work left done g h k = tt
countable segwit tokens EndIfNotIf work left done g h k = tt
countable segwit tokens EndIfElse work left done g h k = tt
countable segwit tokens Tern work left done g h k = tt
countable segwit tokens (Reduce1 w) work left done g h k = tt
countable segwit tokens (Reduce2 c) work left done g h k = tt
countable segwit tokens (ThreshW j n) work left done g h k =
    let p = g.1 in
    let e : many (◌⊕◌ p.0 p.1) ≤ sizes done = rw (← p.3) (many_sizes done) in
    (k, omega (arith, p.4, many_append p.0 p.1, e))
countable segwit tokens (ThreshE j n) work left done g h k = tt

module _ (segwit : Bool) (m : ℕ) (table keys : List ℕ) (inside : 9 * m ≤ length table) (few_nodes : m + 1 < 4294967296) where
  there : (k : ℕ) (done : Trees) → Forest segwit (newest (node_at table) m) keys done → k ≤ many done → Finished k m table
  there k done f h = finished segwit k m table done f h inside few_nodes

  picked : (b : Bool) (x y : Request) → Ready m table x → Ready m table y → Ready m table (pick b x y)
  picked true x y h g = h
  picked false x y h g = g

  leaf_ready : (l : Leaf) (es : List NonTerm) → Ready m table (leaf_asked l es)
  leaf_ready tree.True es = tt
  leaf_ready tree.False es = tt
  leaf_ready (tree.PkK k) es = tt
  leaf_ready (tree.RawPkH d) es = tt
  leaf_ready (tree.After n) es = tt
  leaf_ready (tree.Older n) es = tt
  leaf_ready (tree.HashLock h d) es = tt
  leaf_ready (tree.Multi k ks) es = tt
  leaf_ready (tree.MultiA k d ds) es = tt

  module _ (tokens : List Lexeme) (work : List NonTerm) (left : List Lexeme) where
    many_ready : (k n : ℕ) (done : Trees) → Forest segwit (newest (node_at table) m) keys done → Good segwit tokens (machine.finish_many segwit k n work left done) → Finished n m table
    many_ready k n nil f g = few g
    many_ready k zero (x ⊳ done) f g = few g
    many_ready k (suc n) (x ⊳ done) f g =
        ⊎_elim
        (λ h. there (suc n) (x ⊳ done) f (omega (arith, ap many h.3, h.2, many_append h.0 h.1)))
        (λ e. few (rw e at g))
        (taken n done (machine.stops machine.never) (λ xs rest. finish segwit (thresh k x xs) work left rest))

    asked_ready : (asks : Asks) (done : Trees) → SmallAsks most_counted asks → Forest segwit (newest (node_at table) m) keys done → Good segwit tokens (machine.perform segwit (found asks left) work done) → Ready m table (asked segwit asks)
    asked_ready noneLeft done s f g = tt
    asked_ready (refuses n) done s f g = tt
    asked_ready (enters es) done s f g = s
    asked_ready (makes l es) done s f g = picked (allowed_leaf segwit l) (leaf_asked l es) (refused (leaf_refusal segwit l)) (leaf_ready l es) tt
    asked_ready (reduces1 w) nil s f g = few g
    asked_ready (reduces1 w) (x ⊳ done) s f g = there 1 (x ⊳ done) f (omega arith)
    asked_ready (reduces2 c) nil s f g = few g
    asked_ready (reduces2 c) (x ⊳ nil) s f g = few g
    asked_ready (reduces2 c) (x ⊳ (y ⊳ done)) s f g = there 2 (x ⊳ (y ⊳ done)) f (omega arith)
    asked_ready reduces3 nil s f g = few g
    asked_ready reduces3 (x ⊳ nil) s f g = few g
    asked_ready reduces3 (x ⊳ (z ⊳ nil)) s f g = few g
    asked_ready reduces3 (x ⊳ (z ⊳ (y ⊳ done))) s f g = there 3 (x ⊳ (z ⊳ (y ⊳ done))) f (omega arith)
    asked_ready (reduces_many k n) done s f g = picked (within 1 k n) (many_children k n) (refused 13) (many_ready k n done f g) tt

  row_ready : (tokens : List Lexeme) (row : Found) (work : List NonTerm) (done : Trees) → SmallFound most_counted row → Forest segwit (newest (node_at table) m) keys done → Good segwit tokens (machine.perform segwit row work done)
      → ReadyReading m table (reading_asked segwit row)
  row_ready tokens (found asks left) work done s f g = asked_ready tokens work left asks done s f g

  -- what a step needs is there
  pub step_ready : (tokens : List Lexeme) (entry : NonTerm) (work : List NonTerm) (left : List Lexeme) (done : Trees)
      → Countable most_counted entry → SmallLexemes left → Forest segwit (newest (node_at table) m) keys done → Good segwit tokens (step segwit (entry ∷ work) left done)
      → ReadyReading m table (reading_asked segwit (row_of segwit entry left))
  step_ready tokens entry work left done c s f g = row_ready tokens (row_of segwit entry left) work done (row_small segwit most_counted (omega arith) entry left c s) f g
