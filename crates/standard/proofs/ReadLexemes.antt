-- Theorems about reading a script's lexemes. Any limits: what is accepted is written with exactly those lexemes (`accepted_is_written`); the steps are the entries taken, at most eight a token and two (`steps_at_most`, `steps_are_entries_taken`); a row never finds too few trees (`never_empty`); the room that a run takes goes by its tokens (`room_by_tokens`). Ample limits: accepted exactly when some well-typed, allowed tree of base B is written with the lexemes (`exactly`), and no table refuses (`ample_never_refuses`). What is found has the form that the rows build (`accepted_has_row_form`), so its and_v chains are nested to the left (`chains_left`), and the type of every other such tree (`one_type`); it is that tree exactly where that has the form (`that_tree_exactly`, whatever the places `same_tree_exactly`; `row_form_is_accepted`, `written_is_read`).
use Rattle.std.specs.Prelude.{◌≡◌, refl, Bool, true, false, ◌||◌, ◌↔◌}
use Rattle.std.proofs.Common.{sym, ap, ◌∙◌}
use mathlib.Core.List.{List, [], reverse_aux}
use Prim.Native.Nat.{ℕ, zero, suc, ◌+◌, ◌*◌, ◌≤◌, ◌<◌}
use native.Mathlib.Omega.{arith}
use Rattle.std.proofs.Math.ListN.{length}
use Rattle.base_input.specs.declared.Base.TheVariants as base
use Rattle.correctness.specs.declared.Correctness.{Correctness}
use Rattle.std.specs.Prelude.{Ok}
use Rattle.base_input.specs.Tests.{is_w}
use Rattle.base_input.specs.TestLaws.{only_b}
use Rattle.lex.specs.Token.{Lexeme}
use Rattle.tables.proofs.BoolLaws.{left_true}
use Rattle.standard.specs.Tree.{Tree, nil, ◌⊳◌, SameTree, sizes, key_counts, left_nested}
use Rattle.standard.specs.Written.{written}
use Rattle.standard.specs.RowForm.{floated_out, row_form}
use Rattle.standard.specs.Allowed.{within, allowed}
use Rattle.standard.specs.Types.{type_of, WellTypedB}
use Rattle.standard.specs.Machine.{State, Limits, Refusal, goes, goes_on, start, after, accepted, refused, Run, top_is, carry_on, decode}
use Rattle.standard.specs.Statements.{bares, Ample, WrittenWith, Accepts}
use Rattle.standard.proofs.Runs.{begin, run, one_end}
use Rattle.standard.proofs.Complete.{complete_form}
use Rattle.standard.proofs.PlaceLaws.{bare_type, bare_allowed, replaced}
use Rattle.standard.proofs.FormLaws.{same_row_form}
use Rattle.standard.proofs.Bound.{pushes, Bounded, work_le}
use Rattle.standard.proofs.Carried.{Ends, EndsAmple, Working, Ended, decode_ends, decode_bounded, decode_more, decode_steps, decode_counts, decode_ample, decode_complete, accepted_run}

module _ (segwit : Bool) where
  -- What is accepted is a tree of base B, well typed and allowed, written with exactly those lexemes
  pub accepted_is_written : (limits : Limits) (lexemes : List Lexeme) (t : Tree) → Accepts segwit limits lexemes t → WrittenWith segwit lexemes t
  accepted_is_written limits lexemes t e =
      let h : Ends segwit lexemes (accepted t) = rw e at (decode_ends segwit limits lexemes) in
      (h.0, (h.1.0.0, (h.1.1.0, h.1.1.1, only_b h.1.1.0.base h.1.1.2)))

  top_accepted : (u : Tree) (c : Correctness) → type_of segwit u ≡ Ok c → c.base ≡ base.B → top_is u (type_of segwit u) ≡ accepted u
  top_accepted u c e b = rw (e, b)

  -- the tree that a written tree's lexemes are read to
  found : (limits : Limits) (lexemes : List Lexeme) → Ample limits (length lexemes) (pushes lexemes) → (t : Tree) → WrittenWith segwit lexemes t → (u : Tree) × Accepts segwit limits lexemes u
  found limits lexemes h t w =
      let c = w.1.1.0 in
      let b : is_w c.base ≡ false = rw w.1.1.2 in
      let k = complete_form segwit t c w.1.0 w.1.1.1 b in
      let r : run segwit k.4.0 (begin (reverse_aux lexemes [])) ≡ goes_on [] [] (k.0 ⊳ nil) = rw w.0 at k.4.1 in
      (k.0, ap (λ (r : Run). r.verdict) (decode_complete segwit limits lexemes h k.4.0 k.0 r (top_accepted k.0 c k.1 w.1.1.2)))

  -- With ample tables, lexemes are accepted exactly when some tree of base B, well typed and allowed, is written with them
  pub exactly : (limits : Limits) (lexemes : List Lexeme) → Ample limits (length lexemes) (pushes lexemes)
      → ((t : Tree) × Accepts segwit limits lexemes t) ↔ ((t : Tree) × WrittenWith segwit lexemes t)
  exactly limits lexemes h =
      ((λ a. (a.0, accepted_is_written limits lexemes a.0 a.1)), (λ w. found limits lexemes h w.0 w.1))

  -- Whatever the tables, what is found has the same tree
  pub one_tree : (limits other : Limits) (lexemes : List Lexeme) (t u : Tree) → Accepts segwit limits lexemes t → Accepts segwit other lexemes u → t ≡ u
  one_tree limits other lexemes t u a b =
      let p = accepted_run segwit limits lexemes t a in
      let q = accepted_run segwit other lexemes u b in
      one_end segwit p.0 q.0 (begin (reverse_aux lexemes [])) t u p.1 q.1

  -- it is of the same type, has the rows' form, and is the written tree if that has it, whatever the tables that held it
  found_is : (limits : Limits) (lexemes : List Lexeme) (t u : Tree) → Accepts segwit limits lexemes t → WrittenWith segwit lexemes u → (type_of segwit t ≡ type_of segwit u) × (row_form t ≡ true) × (row_form u ≡ true → t ≡ u)
  found_is limits lexemes t u a w =
      let c = w.1.1.0 in
      let b : is_w c.base ≡ false = rw w.1.1.2 in
      let k = complete_form segwit u c w.1.0 w.1.1.1 b in
      let r : run segwit k.4.0 (begin (reverse_aux lexemes [])) ≡ goes_on [] [] (k.0 ⊳ nil) = rw w.0 at k.4.1 in
      let p = accepted_run segwit limits lexemes t a in
      let e : t ≡ k.0 = one_end segwit p.0 k.4.0 (begin (reverse_aux lexemes [])) t k.0 p.1 r in
      (rw e (k.1 ∙ sym w.1.1.1), rw e k.2, λ f. e ∙ k.3 f)

  -- What is found has the form that the rows build
  pub accepted_has_row_form : (limits : Limits) (lexemes : List Lexeme) (t : Tree) → Accepts segwit limits lexemes t → row_form t ≡ true
  accepted_has_row_form limits lexemes t a = (found_is limits lexemes t t a (accepted_is_written limits lexemes t a)).1

  -- so its and_v chains are nested to the left
  pub chains_left : (limits : Limits) (lexemes : List Lexeme) (t : Tree) → Accepts segwit limits lexemes t → left_nested t ≡ true
  chains_left limits lexemes t a = left_true (left_nested t) (floated_out t) (accepted_has_row_form limits lexemes t a)

  -- and its type is that of every other well-typed, allowed tree with those lexemes
  pub one_type : (limits : Limits) (lexemes : List Lexeme) (t u : Tree) → Accepts segwit limits lexemes t → WrittenWith segwit lexemes u → type_of segwit t ≡ type_of segwit u
  one_type limits lexemes t u a w = (found_is limits lexemes t u a w).0

  -- It is such a tree exactly where that tree has the rows' form
  pub that_tree_exactly : (limits : Limits) (lexemes : List Lexeme) (t u : Tree) → Accepts segwit limits lexemes t → WrittenWith segwit lexemes u → (t ≡ u) ↔ (row_form u ≡ true)
  that_tree_exactly limits lexemes t u a w = ((λ e. rw (← e) (accepted_has_row_form limits lexemes t a)), (found_is limits lexemes t u a w).2)

  -- With ample tables, a tree of the rows' form is read from its lexemes, and no other
  pub row_form_is_accepted : (limits : Limits) (lexemes : List Lexeme) → Ample limits (length lexemes) (pushes lexemes) → (t : Tree) → WrittenWith segwit lexemes t → row_form t ≡ true → Accepts segwit limits lexemes t
  row_form_is_accepted limits lexemes h t w f =
      let u = found limits lexemes h t w in
      let e : u.0 ≡ t = (that_tree_exactly limits lexemes u.0 t u.1 w).1 f in
      rw (← e) u.1

  -- With ample tables, the lexemes of a tree of base B, well typed and allowed, are read to a tree with the same lexemes and the same type, which is the same one exactly where the given one has the rows' form
  pub written_is_read : (limits : Limits) (t : Tree) → Ample limits (length (written t)) (pushes (written t)) → allowed segwit t ≡ true → WellTypedB segwit t
      → (u : Tree) × Accepts segwit limits (written t) u × (written u ≡ written t) × (type_of segwit u ≡ type_of segwit t) × ((u ≡ t) ↔ (row_form t ≡ true))
  written_is_read limits t h g b =
      let u = found limits (written t) h t (refl, (g, b)) in
      (u.0, u.1, (accepted_is_written limits (written t) u.0 u.1).0, one_type limits (written t) u.0 t u.1 (refl, (g, b)), that_tree_exactly limits (written t) u.0 t u.1 (refl, (g, b)))

  -- a tree that is written with lexemes but for their places is, with other places, written with the very lexemes
  pub written_elsewhere : (lexemes : List Lexeme) (t : Tree) → bares (written t) ≡ bares lexemes → allowed segwit t ≡ true → WellTypedB segwit t → (u : Tree) × WrittenWith segwit lexemes u × (type_of segwit u ≡ type_of segwit t) × SameTree u t
  written_elsewhere lexemes t e g b =
      let u = replaced t lexemes e in
      let ty : type_of segwit u.0 ≡ type_of segwit t = sym (bare_type segwit u.0) ∙ ap (type_of segwit) u.2 ∙ bare_type segwit t in
      let al : allowed segwit u.0 ≡ allowed segwit t = sym (bare_allowed segwit u.0) ∙ ap (allowed segwit) u.2 ∙ bare_allowed segwit t in
      (u.0, (u.1, (al ∙ g, (b.0, ty ∙ b.1, b.2))), ty, u.2)

  -- Whatever the places: what is found is the same tree as one that is written with those lexemes exactly where that one has the rows' form
  pub same_tree_exactly : (limits : Limits) (lexemes : List Lexeme) (t u : Tree) → Accepts segwit limits lexemes t → bares (written u) ≡ bares lexemes → allowed segwit u ≡ true → WellTypedB segwit u
      → SameTree t u ↔ (row_form u ≡ true)
  same_tree_exactly limits lexemes t u a e g b =
      let v = written_elsewhere lexemes u e g b in
      ((λ s. sym (same_row_form t u s) ∙ accepted_has_row_form limits lexemes t a), (λ f. let i : t ≡ v.0 = (that_tree_exactly limits lexemes t v.0 a v.1).1 (same_row_form v.0 u v.3 ∙ f) in rw i v.3))

  -- At most eight steps a token and two
  pub steps_at_most : (limits : Limits) (lexemes : List Lexeme) → (decode segwit limits lexemes).steps ≤ 8 * length lexemes + 2
  steps_at_most limits lexemes = decode_steps segwit limits lexemes

  -- The steps are the entries taken: before each there is an entry on the work list, and after the last the run has ended in the verdict
  pub steps_are_entries_taken : (limits : Limits) (lexemes : List Lexeme)
      → let r = decode segwit limits lexemes in let first = start segwit limits (reverse_aux lexemes []) in
      Ended segwit limits (after segwit limits r.steps first) r.verdict × ((i : ℕ) → i < r.steps → Working segwit limits (after segwit limits i first))
  steps_are_entries_taken limits lexemes =
      let c = decode_counts segwit limits lexemes in
      let e : (decode segwit limits lexemes).steps ≡ c.0 = omega (arith, c.1) in
      (rw e c.2.0, λ i h. c.2.1 i (omega arith))

  -- In every state of a run over t tokens, the work list has at most 8t + 2 entries, the finished trees have at most 2t nodes, and no more keys than there are pushes
  pub room_by_tokens : (limits : Limits) (lexemes : List Lexeme) (m : ℕ) (s : State) → after segwit limits m (start segwit limits (reverse_aux lexemes [])) ≡ goes s
      → (length s.work ≤ 8 * length lexemes + 2) × (sizes s.done ≤ 2 * length lexemes) × (key_counts s.done ≤ pushes lexemes)
  room_by_tokens limits lexemes m s e =
      let b : Bounded (length lexemes) (pushes lexemes) (0 + m) (goes s) = rw e at (decode_bounded segwit limits lexemes m) in
      (omega (arith, b.0, work_le s.work s.left), omega (arith, b.1), omega (arith, b.2))

  -- A row never finds too few finished trees, and the run always ends: every refusal has a number from 9 to 19
  pub never_empty : (limits : Limits) (lexemes : List Lexeme) (r : Refusal) → (decode segwit limits lexemes).verdict ≡ refused r → within 9 r.number 19 ≡ true
  never_empty limits lexemes r e = let h : Ends segwit lexemes (refused r) = rw e at (decode_ends segwit limits lexemes) in h

  -- With ample tables 15, 16 and 17 are never given: t tokens want 8t + 2 work entries, 2t nodes, and a key for each push
  pub ample_never_refuses : (limits : Limits) (lexemes : List Lexeme) → Ample limits (length lexemes) (pushes lexemes) → (r : Refusal) → (decode segwit limits lexemes).verdict ≡ refused r
      → (within 9 r.number 14 || within 18 r.number 19) ≡ true
  ample_never_refuses limits lexemes h r e = let g : EndsAmple segwit limits (refused r) = rw e at (decode_ample segwit limits lexemes h) in g

  -- A higher bound on the run changes nothing
  pub more_changes_nothing : (limits : Limits) (lexemes : List Lexeme) (extra : ℕ) → carry_on segwit limits (extra + (8 * length lexemes + 2)) 0 (start segwit limits (reverse_aux lexemes [])) ≡ decode segwit limits lexemes
  unfolding decode
  more_changes_nothing limits lexemes zero = let z : 0 + (8 * length lexemes + 2) ≡ 8 * length lexemes + 2 = omega arith in rw z
  more_changes_nothing limits lexemes (suc extra) =
      let z : suc extra + (8 * length lexemes + 2) ≡ suc (extra + (8 * length lexemes + 2)) = omega arith in
      rw z (decode_more segwit limits lexemes (extra + (8 * length lexemes + 2)) (omega arith) ∙ more_changes_nothing limits lexemes extra)
