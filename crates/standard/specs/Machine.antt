-- A run of the rows (document 01, "Tokens to tree" and "When the desk says no", numbers 9 to 19): one step takes one entry off the work list and carries its row out on the finished trees; then what was made must fit into the tables.
use Rattle.std.specs.Prelude.{Bool, ℕ, zero, suc, ◌+◌, ◌*◌, leb, length}
use mathlib.Core.List.{List, [], ◌∷◌, ◌++◌, reverse_aux}
use Rattle.correctness.specs.Typed.{Typed}
use Rattle.std.specs.Prelude.{Ok, Err}
use Rattle.base_input.specs.Tests.{is_b}
use Rattle.lex.specs.Token.{Lexeme}
use Rattle.tables.specs.Choose.{pick}
use Rattle.standard.specs.Tree.{Wrapper, Combination, Tree, Trees, leaf, wrap, join, and_or, thresh, nil, ◌⊳◌, sizes, key_counts}
use Rattle.standard.specs.Types.{type_of, Judged, passes, fails, judge}
use Rattle.standard.specs.Table.{take_trees}
use Rattle.standard.specs.Rows.{NonTerm, Expression, MaybeAndV, noneLeft, reduces3, refuses, enters, makes, reduces1, reduces2, reduces_many, Found, found, row_of}

-- work list, the next entry first; tokens left, the next one first; finished trees, the newest first
pub record State : Type 0 where
  pub work : List NonTerm
  pub left : List Lexeme
  pub done : Trees

-- number, reason, and how many tokens stand before the one that it is about: "that token" (10), "last token taken" (11 to 17) and "the next token" (18). 9 and 19 are about none
pub record Refusal : Type 0 where
  pub number : ℕ
  pub reason : ℕ
  pub before : ℕ

pub data Next : Type 0 where
  goes : State → Next
  stops : Refusal → Next

abbrev pub goes_on : List NonTerm → List Lexeme → Trees → Next
goes_on work left done = goes (record { work = work; left = left; done = done })

-- a token put back isn't taken, so the last token taken stands behind all that are left
abbrev pub refusal : ℕ → ℕ → List Lexeme → Refusal
refusal number reason left = record { number = number; reason = reason; before = length left }

-- too few finished trees, or a run without an end: never given
abbrev pub never : Refusal
never = refusal 0 0 []

-- a node is made on top of the finished trees if it passes
abbrev pub admit : Judged → List NonTerm → List Lexeme → Trees → Next
admit passes work left done = goes_on work left done
admit (fails number reason) work left done = stops (refusal number reason left)

module _ (segwit : Bool) where
  abbrev pub finish : Tree → List NonTerm → List Lexeme → Trees → Next
  finish t work left done = admit (judge segwit t) work left (t ⊳ done)

  -- "A node takes its children from the finished subtrees, the newest being the first in script order; and_or's script order is X, Z, Y"
  abbrev pub finish1 : Wrapper → List NonTerm → List Lexeme → Trees → Next
  finish1 w work left nil = stops never
  finish1 w work left (x ⊳ done) = finish (wrap w x) work left done

  abbrev pub finish2 : Combination → List NonTerm → List Lexeme → Trees → Next
  finish2 c work left nil = stops never
  finish2 c work left (x ⊳ nil) = stops never
  finish2 c work left (x ⊳ (y ⊳ done)) = finish (join c x y) work left done

  abbrev pub finish3 : List NonTerm → List Lexeme → Trees → Next
  finish3 work left nil = stops never
  finish3 work left (x ⊳ nil) = stops never
  finish3 work left (x ⊳ (z ⊳ nil)) = stops never
  finish3 work left (x ⊳ (z ⊳ (y ⊳ done))) = finish (and_or x y z) work left done

  abbrev pub finish_many : ℕ → ℕ → List NonTerm → List Lexeme → Trees → Next
  finish_many k n work left nil = stops never
  finish_many k zero work left (x ⊳ done) = stops never
  finish_many k (suc n) work left (x ⊳ done) = take_trees n done (stops never) (λ xs rest. finish (thresh k x xs) work left rest)

  -- what a row asks for, carried out
  abbrev pub perform : Found → List NonTerm → Trees → Next
  perform (found noneLeft left) work done = stops (refusal 9 0 left)
  perform (found (refuses n) left) work done = stops (refusal n 0 left)
  perform (found (enters entries) left) work done = goes_on (entries ++ work) left done
  perform (found (makes l entries) left) work done = finish (leaf l) (entries ++ work) left done
  perform (found (reduces1 w) left) work done = finish1 w work left done
  perform (found (reduces2 c) left) work done = finish2 c work left done
  perform (found reduces3 left) work done = finish3 work left done
  perform (found (reduces_many k n) left) work done = finish_many k n work left done

  -- one entry taken off
  abbrev pub step : List NonTerm → List Lexeme → Trees → Next
  step [] left done = stops never
  step (entry ∷ work) left done = perform (row_of segwit entry left) work done

-- how many nodes, keys and work entries the lent tables hold
pub record Limits : Type 0 where
  pub nodes : ℕ
  pub keys : ℕ
  pub work : ℕ

-- "no room for a node, a multi's keys, the work entries of a row": 16, then 15, then 17. The entry is off the list before its row's entries are counted
abbrev pub fitting : Limits → Next → Next
fitting limits (stops r) = stops r
fitting limits (goes s) =
    pick (leb (key_counts s.done) limits.keys)
    (pick (leb (sizes s.done) limits.nodes)
    (pick (leb (length s.work) limits.work)
    (goes s)
    (stops (refusal 17 0 s.left)))
    (stops (refusal 15 0 s.left)))
    (stops (refusal 16 0 s.left))

module _ (segwit : Bool) (limits : Limits) where
  abbrev pub step_within : State → Next
  step_within s = fitting limits (step segwit s.work s.left s.done)

  -- "The work list starts as MaybeAndV, Expression": Expression is taken first
  abbrev pub start : List Lexeme → Next
  start left = fitting limits (goes_on (Expression ∷ MaybeAndV ∷ []) left nil)

  -- the state after n entries have been taken, its work list with it
  abbrev pub after : ℕ → Next → Next
  after zero next = next
  after (suc n) (stops r) = stops r
  after (suc n) (goes s) = after n (step_within s)

-- How a run ends
pub data Verdict : Type 0 where
  accepted : Tree → Verdict
  refused : Refusal → Verdict

-- "One step is one entry taken off the work list, the refusing one included"
pub record Run : Type 0 where
  pub steps : ℕ
  pub verdict : Verdict

abbrev pub ends : ℕ → Verdict → Run
ends steps verdict = record { steps = steps; verdict = verdict }

-- "top base is not B": 19
abbrev pub top_is : Tree → Typed → Verdict
top_is t (Ok c) = pick (is_b c.base) (accepted t) (refused (refusal 19 0 []))
top_is t (Err e) = refused never

-- the work list is empty: "tokens left over" is 18, at the next token
abbrev pub closes : Bool → List Lexeme → Trees → Verdict
closes segwit (t ∷ left) done = refused (refusal 18 0 left)
closes segwit [] nil = refused never
closes segwit [] (t ⊳ nil) = top_is t (type_of segwit t)
closes segwit [] (t ⊳ (u ⊳ done)) = refused never

abbrev pub when_empty : List NonTerm → Run → Run → Run
when_empty [] now later = now
when_empty (entry ∷ work) now later = later

-- entries are taken off until one refuses or none is left. `most` bounds how many: it is never reached
abbrev pub carry_on : Bool → Limits → ℕ → ℕ → Next → Run
carry_on segwit limits zero steps (stops r) = ends steps (refused r)
carry_on segwit limits zero steps (goes s) = ends steps (refused never)
carry_on segwit limits (suc most) steps (stops r) = ends steps (refused r)
carry_on segwit limits (suc most) steps (goes s) =
    when_empty s.work (ends steps (closes segwit s.left s.done)) (carry_on segwit limits most (suc steps) (step_within segwit limits s))

-- a script's lexemes, in script order, read to the end
unfoldable pub decode : Bool → Limits → List Lexeme → Run
decode segwit limits lexemes = carry_on segwit limits (8 * length lexemes + 2) 0 (start segwit limits (reverse_aux lexemes []))
