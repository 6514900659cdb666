-- Runs of the rows without table limits: a device of the proofs. With ample tables the machine of document 01 does just this (see Room).
use Rattle.std.specs.Prelude.{◌≡◌, refl, Bool, List, [], ◌∷◌, ℕ, zero, suc}
use Rattle.std.proofs.Common.{sym, ap, arith}
use Rattle.lex.specs.Token.{Lexeme}
use Rattle.standard.specs.Tree.{Tree, Trees, nil, ◌⊳◌}
use Rattle.standard.specs.Types.{passes, judge}
use Rattle.standard.specs.Rows.{NonTerm, Expression, MaybeAndV}
use Rattle.standard.specs.Machine.{State, Refusal, Next, goes, stops, goes_on, finish, step}

unfoldable pub begin : List Lexeme → Next
begin left = goes_on (Expression ∷ MaybeAndV ∷ []) left nil

module _ (segwit : Bool) where
  abbrev pub step_from : State → Next
  step_from s = step segwit s.work s.left s.done

  -- n entries taken
  abbrev pub run : ℕ → Next → Next
  run zero next = next
  run (suc n) (stops r) = stops r
  run (suc n) (goes s) = run n (step_from s)

  abbrev pub Reach : Next → Next → Type 0
  Reach a b = (n : ℕ) × (run n a ≡ b)

  pub at_once : {a : Next} → Reach a a
  at_once = (0, refl)

  pub later : {work : List NonTerm} {left : List Lexeme} {done : Trees} {b : Next} → Reach (step segwit work left done) b → Reach (goes_on work left done) b
  later p = (suc p.0, p.1)

  both : (m : ℕ) (a : Next) {b c : Next} → run m a ≡ b → Reach b c → Reach a c
  both zero a e p = rw e p
  both (suc m) (stops r) e p = rw e p
  both (suc m) (goes s) e p = let q = both m (step_from s) e p in (suc q.0, q.1)

  pub then : {a b c : Next} → Reach a b → Reach b c → Reach a c
  then {a} p q = both p.0 a p.1 q

  -- a tree that passes is made
  pub made : {work : List NonTerm} {left : List Lexeme} {done : Trees} {b : Next} (t : Tree) → judge segwit t ≡ passes → Reach (goes_on work left (t ⊳ done)) b → Reach (finish segwit t work left done) b
  made t e p = rw e p

  -- a run that has ended in a tree ends in no other: a state without work steps to a refusal
  stopped : (n : ℕ) (r : Refusal) (s : State) → run n (stops r) ≡ goes s → ⊥
  stopped zero r s e = let z : ◌≡◌ {A = ℕ} 0 1 = cc in omega arith
  stopped (suc n) r s e = let z : ◌≡◌ {A = ℕ} 0 1 = cc in omega arith

  pub ended : (n : ℕ) (left : List Lexeme) (done : Trees) (s : State) → run n (goes_on [] left done) ≡ goes s → goes_on [] left done ≡ goes s
  ended zero left done s e = e
  ended (suc n) left done s e = absurd (stopped n _ s e)

  abbrev done_in : Next → Trees
  done_in (goes s) = s.done
  done_in (stops r) = nil

  first_tree : (u v : Tree) → u ⊳ nil ≡ v ⊳ nil → u ≡ v
  first_tree u v e = cc

  one_tree : (u v : Tree) → goes_on [] [] (u ⊳ nil) ≡ goes_on [] [] (v ⊳ nil) → u ≡ v
  one_tree u v e = first_tree u v (ap done_in e)

  -- so two runs from one state that end in a tree end in the same one
  pub one_end : (m n : ℕ) (a : Next) (u v : Tree) → run m a ≡ goes_on [] [] (u ⊳ nil) → run n a ≡ goes_on [] [] (v ⊳ nil) → u ≡ v
  one_end zero n a u v e f = let g : run n (goes_on [] [] (u ⊳ nil)) ≡ goes_on [] [] (v ⊳ nil) = rw e at f in one_tree u v (ended n [] (u ⊳ nil) _ g)
  one_end (suc m) zero a u v e f = let g : run (suc m) (goes_on [] [] (v ⊳ nil)) ≡ goes_on [] [] (u ⊳ nil) = rw f at e in sym (one_tree v u (ended (suc m) [] (v ⊳ nil) _ g))
  one_end (suc m) (suc n) (stops r) u v e f = absurd (stopped (suc m) r _ e)
  one_end (suc m) (suc n) (goes s) u v e f = one_end m n (step_from s) u v e f
