-- The theorems of reading, over the bytes of a script and the whole outcome of the reader.
-- Exactly: with ample tables a script is accepted exactly when its kind is 0 or 1, it lexes, and some tree of base B, well typed and allowed, is written with its tokens, compared by code, number and pushed bytes (`accepted_exactly`).
-- Written: whatever the tables, what is handed out is such a tree, written with exactly those tokens, in tables that hold it (`accepted_is_handed_out`), and it can be read back off them (`handed_out_reads_back`). It has the form that the rows build (`handed_out_row_form`), so its and_v chains are nested to the left (`handed_out_chains`). Every other such tree has its type (`handed_out_type`), and is the same tree exactly where it has that form (`handed_out_same_tree`).
-- Room: with 01's ample sizes, or those by tokens, 8, 15, 16 and 17 are never given (`ample_never_refuses`). Steps: at most eight a token and two (`steps_by_tokens`). A refusal leaves zeros (`refusal_clears`).
-- One outcome: whatever the tables, an accepted script has the same tokens and tree (`one_tokens`, `one_tree_whatever_the_tables`).
-- One tree: two accepted scripts of one kind with the same tree have the same tokens, whatever their places (`same_tree_same_tokens`).
use Rattle.std.specs.Prelude.{◌≡◌, Bool, true, false, ◌||◌, ◌↔◌, ℕ, ◌+◌, ◌*◌, ◌≤◌, eqb, leb}
use Rattle.std.proofs.Math.Path.{refl}
use Rattle.std.proofs.Common.{sym, ap, ◌∙◌, true≢false, arith, leb-true, le-leb, ne_eqb}
use mathlib.Core.List.{List, map}
use Rattle.std.proofs.Math.Option.{some}
use Rattle.std.proofs.lemmas.Bool.{lt-leb}
use Rattle.std.proofs.Math.ListN.{length}
use Rattle.std.proofs.lemmas.List.{length-map}
use Rattle.lex.specs.Token.{Bytes, Token, Lexeme, lexeme}
use Rattle.lex.specs.Script as lex
use Rattle.lex.specs.Script.{lex_of}
use Rattle.lex.proofs.Theorems.{tokens_at_most_twice, same_tokens_in_any_room, ample_room_suffices, eight_never_with_ample_room, same_tokens}
use Rattle.tables.specs.Choose.{pick}
use Rattle.tables.specs.Tables.{zeros}
use Rattle.standard.specs.Tree.{Tree, nil, ◌⊳◌, SameTree, left_nested}
use Rattle.standard.specs.RowForm.{row_form}
use Rattle.standard.specs.Allowed.{within}
use Rattle.standard.specs.Types.{type_of}
use Rattle.standard.specs.Table.{node_table, key_table, tree_of}
use Rattle.standard.specs.Machine.{Verdict, accepted, refused, Run, ends, decode}
use Rattle.standard.specs.Outcome.{Lengths, token_room, limits_of, Outcome, refusing, judged, lexed, outcome_of, ample_for}
use Rattle.standard.specs.Statements.{Ample, WrittenWith, Accepts, bares, AmpleLengths, NoRoomRefusal, WrittenWithTokens, HandedOut}
use Rattle.standard.proofs.Bound.{pushes, pushes_le}
use Rattle.standard.proofs.ReadLexemes.{accepted_is_written, exactly, steps_at_most, never_empty}
use Rattle.standard.proofs.ReadLexemes as reads
use Rattle.standard.proofs.RuleLaws.{within_range}
use Rattle.standard.proofs.TableLaws.{read_back}
use Rattle.standard.proofs.PlaceLaws.{same_tree_same_lexemes}
use Rattle.standard.proofs.ScriptLaws.{lexing_numbers, pushes_at_most_bytes, tree_of_script}

pub ample_lengths : (b : ℕ) → AmpleLengths b (ample_for b)
ample_lengths b = (omega arith, omega arith, omega arith, omega arith)

-- an impossible number
no_zero : {A : Type 0} (n : ℕ) → within 9 n 19 ≡ true → n ≡ 0 → A
no_zero n w e = let z : within 9 0 19 ≡ true = rw e at w in absurd (true≢false (sym z))

low_number : (n : ℕ) → n ≤ 8 → (n ≡ 8 → ⊥) → NoRoomRefusal n
low_number n h f = rw (lt-leb 15 n (omega arith), ne_eqb n 8 f)

row_number : (n : ℕ) → (within 9 n 14 || within 18 n 19) ≡ true → NoRoomRefusal n
row_number n e = by (within 9 n 14) refl e
  where
    by : (b : Bool) → within 9 n 14 ≡ b → (b || within 18 n 19) ≡ true → NoRoomRefusal n
    by true f g = let r = within_range 9 n 14 f in rw (lt-leb 15 n (omega arith), ne_eqb n 8 (λ q. let z : n ≡ 8 = q in omega arith))
    by false f g = let r = within_range 18 n 19 g in rw (le-leb 15 n (omega arith), lt-leb n 17 (omega arith), ne_eqb n 8 (λ q. let z : n ≡ 8 = q in omega arith))

-- Cases of an outcome

module _ (kind : ℕ) (script : List ℕ) (lengths : Lengths) where
  abbrev segwit : Bool
  segwit = eqb kind 0

  abbrev lexemes_of : List Token → List Lexeme
  lexemes_of tokens = map (lexeme script) tokens

  abbrev run_of : List Token → Run
  run_of tokens = decode segwit (limits_of lengths) (lexemes_of tokens)

  -- the outcome, where the kind is known and the script lexes
  opened : (tokens : List Token) → kind ≤ 1 → lex_of (token_room lengths) script ≡ lex.tokens tokens → outcome_of kind script lengths ≡ judged segwit lengths tokens (run_of tokens).steps (run_of tokens).verdict
  unfolding outcome_of
  opened tokens k e = rw (le-leb kind 1 k, e)

  abbrev Handed : Outcome → Type 0
  Handed o = (o.answer.number ≡ 0) → outcome_of kind script lengths ≡ o → HandedOut kind script lengths

  judged_handed : (tokens : List Token) → kind ≤ 1 → lex_of (token_room lengths) script ≡ lex.tokens tokens → (v : Verdict) → (run_of tokens).verdict ≡ v → Handed (judged segwit lengths tokens (run_of tokens).steps v)
  judged_handed tokens k e (accepted t) f n o =
      let w = accepted_is_written segwit (limits_of lengths) (lexemes_of tokens) t f in
      record {
        known_kind = k;
        tokens = tokens;
        lexes = e;
        tree = t;
        written_with = w.0;
        allowed_values = w.1.0;
        well_typed = w.1.1;
        of_script = tree_of_script script tokens t w.0;
        steps = (run_of tokens).steps;
        reads = ap (ends (run_of tokens).steps) f;
        outcome = o;
      }
  judged_handed tokens k e (refused r) f n o = no_zero r.number (never_empty segwit (limits_of lengths) (lexemes_of tokens) r f) n

  lexed_handed : Bytes script → kind ≤ 1 → (x : lex.Outcome) → lex_of (token_room lengths) script ≡ x → Handed (lexed segwit lengths script x)
  lexed_handed b k (lex.tokens tokens) e n o = judged_handed tokens k e (run_of tokens).verdict refl n o
  lexed_handed b k (lex.refused x p) e n o = let h = lexing_numbers (token_room lengths) script x p b e in let z : ⊥ = omega (arith, h.0) in absurd z

  kind_handed : Bytes script → (c : Bool) → leb kind 1 ≡ c → Handed (pick c (lexed segwit lengths script (lex_of (token_room lengths) script)) (refusing lengths 20 0 0 0 0))
  kind_handed b true e n o = lexed_handed b (leb-true kind 1 e) (lex_of (token_room lengths) script) refl n o
  kind_handed b false e n o = let z : ⊥ = omega arith in absurd z

  -- Whatever the tables: what is accepted is a tree of base B, well typed and allowed, written with exactly the script's tokens, in tables that hold it
  pub accepted_is_handed_out : Bytes script → (outcome_of kind script lengths).answer.number ≡ 0 → HandedOut kind script lengths
  unfolding outcome_of
  accepted_is_handed_out b n = kind_handed b (leb kind 1) refl n refl

  -- and it can be read back off its node table, its key table and the script
  pub handed_out_reads_back : (h : HandedOut kind script lengths) → tree_of segwit script (key_table (h.tree ⊳ nil)) (node_table segwit (h.tree ⊳ nil)) ≡ some h.tree
  handed_out_reads_back h = read_back segwit script h.tree h.allowed_values h.of_script

  -- a tree that is written with the tokens, whatever their places, gives one that is written with the very lexemes
  replaced_tree : (tokens : List Token) (t : Tree) → WrittenWithTokens segwit script tokens t → (u : Tree) × WrittenWith segwit (lexemes_of tokens) u × (type_of segwit u ≡ type_of segwit t)
  replaced_tree tokens t w = let u = reads.written_elsewhere segwit (lexemes_of tokens) t w.0 w.1.0 w.1.1 in (u.0, u.1, u.2)

  accepts : (h : HandedOut kind script lengths) → Accepts segwit (limits_of lengths) (lexemes_of h.tokens) h.tree
  accepts h = ap (λ (r : Run). r.verdict) h.reads

  -- it has the form that the rows build
  pub handed_out_row_form : (h : HandedOut kind script lengths) → row_form h.tree ≡ true
  handed_out_row_form h = reads.accepted_has_row_form segwit (limits_of lengths) (lexemes_of h.tokens) h.tree (accepts h)

  -- so its and_v chains are nested to the left
  pub handed_out_chains : (h : HandedOut kind script lengths) → left_nested h.tree ≡ true
  handed_out_chains h = reads.chains_left segwit (limits_of lengths) (lexemes_of h.tokens) h.tree (accepts h)

  -- and its type is that of every other tree of base B, well typed and allowed, that is written with the tokens
  pub handed_out_type : (h : HandedOut kind script lengths) (t : Tree) → WrittenWithTokens segwit script h.tokens t → type_of segwit h.tree ≡ type_of segwit t
  handed_out_type h t w = let u = replaced_tree h.tokens t w in reads.one_type segwit (limits_of lengths) (lexemes_of h.tokens) h.tree u.0 (accepts h) u.1 ∙ u.2

  -- it is the same tree exactly where that other one has the form that the rows build
  pub handed_out_same_tree : (h : HandedOut kind script lengths) (t : Tree) → WrittenWithTokens segwit script h.tokens t → SameTree h.tree t ↔ (row_form t ≡ true)
  handed_out_same_tree h t w = reads.same_tree_exactly segwit (limits_of lengths) (lexemes_of h.tokens) h.tree t (accepts h) w.0 w.1.0 w.1.1

  -- sizes that are ample by bytes are ample for the tokens
  ample_of : AmpleLengths (length script) lengths → (room : ℕ) (tokens : List Token) → lex_of room script ≡ lex.tokens tokens → Ample (limits_of lengths) (length (lexemes_of tokens)) (pushes (lexemes_of tokens))
  ample_of a room tokens e =
      let l : length (lexemes_of tokens) ≡ length tokens = length-map tokens (lexeme script) in
      let t = tokens_at_most_twice room script tokens e in
      let p = pushes_at_most_bytes room script tokens e in
      (omega arith, omega arith, omega arith)

  -- an accepted verdict gives number 0
  accepted_number : (tokens : List Token) (t : Tree) → kind ≤ 1 → lex_of (token_room lengths) script ≡ lex.tokens tokens → (run_of tokens).verdict ≡ accepted t → (outcome_of kind script lengths).answer.number ≡ 0
  accepted_number tokens t k e f = rw (opened tokens k e, f)

  -- Exactly: with ample tables a script is accepted exactly when its kind is 0 or 1, it lexes, and some tree of base B, well typed and allowed, is written with its tokens
  pub accepted_exactly : Bytes script → AmpleLengths (length script) lengths
      → ((outcome_of kind script lengths).answer.number ≡ 0) ↔ ((kind ≤ 1) × ((tokens : List Token) × (lex_of (2 * length script) script ≡ lex.tokens tokens) × ((t : Tree) × WrittenWithTokens segwit script tokens t)))
  accepted_exactly b a = (to, from)
    where
      same_room : lex_of (token_room lengths) script ≡ lex_of (2 * length script) script
      same_room = ample_room_suffices (token_room lengths) script a.0

      to : (outcome_of kind script lengths).answer.number ≡ 0 → (kind ≤ 1) × ((tokens : List Token) × (lex_of (2 * length script) script ≡ lex.tokens tokens) × ((t : Tree) × WrittenWithTokens segwit script tokens t))
      to n = let h = accepted_is_handed_out b n in (h.known_kind, (h.tokens, sym same_room ∙ h.lexes, (h.tree, (ap bares h.written_with, (h.allowed_values, h.well_typed)))))

      from : (kind ≤ 1) × ((tokens : List Token) × (lex_of (2 * length script) script ≡ lex.tokens tokens) × ((t : Tree) × WrittenWithTokens segwit script tokens t)) → (outcome_of kind script lengths).answer.number ≡ 0
      from (k, (tokens, e, (t, w))) =
          let lexes = same_room ∙ e in
          let u = replaced_tree tokens t w in
          let acc = (exactly segwit (limits_of lengths) (lexemes_of tokens) (ample_of a (token_room lengths) tokens lexes)).1 (u.0, u.1) in
          accepted_number tokens acc.0 k lexes acc.1

  -- Room

  -- with room for the tokens, and limits that are ample for them, the refusal's number is none of 8, 15, 16, 17
  room_enough : ((p : ℕ) → lex_of (token_room lengths) script ≡ lex.refused 8 p → ⊥)
      → ((tokens : List Token) → lex_of (token_room lengths) script ≡ lex.tokens tokens → Ample (limits_of lengths) (length (lexemes_of tokens)) (pushes (lexemes_of tokens)))
      → Bytes script → NoRoomRefusal (outcome_of kind script lengths).answer.number
  unfolding outcome_of
  room_enough eight ample b = by_kind (leb kind 1)
    where
      by_verdict : (tokens : List Token) → lex_of (token_room lengths) script ≡ lex.tokens tokens → (v : Verdict) → (run_of tokens).verdict ≡ v → NoRoomRefusal (judged segwit lengths tokens (run_of tokens).steps v).answer.number
      by_verdict tokens e (accepted t) f = refl
      by_verdict tokens e (refused r) f = row_number r.number (reads.ample_never_refuses segwit (limits_of lengths) (lexemes_of tokens) (ample tokens e) r f)

      by_lexing : (x : lex.Outcome) → lex_of (token_room lengths) script ≡ x → NoRoomRefusal (lexed segwit lengths script x).answer.number
      by_lexing (lex.tokens tokens) e = by_verdict tokens e (run_of tokens).verdict refl
      by_lexing (lex.refused k p) e =
          low_number k (lexing_numbers (token_room lengths) script k p b e).1 (λ q. eight p (e ∙ ap (λ (n : ℕ). lex.refused n p) q))

      by_kind : (c : Bool) → NoRoomRefusal (pick c (lexed segwit lengths script (lex_of (token_room lengths) script)) (refusing lengths 20 0 0 0 0)).answer.number
      by_kind true = by_lexing (lex_of (token_room lengths) script) refl
      by_kind false = refl

  -- By bytes: with what document 01 calls ample, 8, 15, 16 and 17 are never given
  pub ample_never_refuses : Bytes script → AmpleLengths (length script) lengths → NoRoomRefusal (outcome_of kind script lengths).answer.number
  ample_never_refuses b a = room_enough (λ p e. eight_never_with_ample_room script b (token_room lengths) p a.0 e) (λ tokens e. ample_of a (token_room lengths) tokens e) b

  -- By tokens: with room for t tokens, 2t nodes, t keys and 8t + 2 work entries, for a script of t tokens
  pub ample_by_tokens : Bytes script → (room : ℕ) (tokens : List Token) → lex_of room script ≡ lex.tokens tokens
      → length tokens ≤ token_room lengths → 2 * length tokens ≤ (limits_of lengths).nodes → length tokens ≤ (limits_of lengths).keys → 8 * length tokens + 2 ≤ (limits_of lengths).work
      → NoRoomRefusal (outcome_of kind script lengths).answer.number
  ample_by_tokens b room tokens e ht hn hk hw = room_enough
      (λ p f. let z : ◌≡◌ {A = ℕ} 0 1 = tokens_or_refused tokens 8 p (sym same ∙ f) in omega arith)
      (λ others f. let q : tokens ≡ others = same_tokens (sym same ∙ f) in rw (← q) ample_here) b
    where
      same : lex_of (token_room lengths) script ≡ lex.tokens tokens
      same = same_tokens_in_any_room room (token_room lengths) script tokens e ht

      tokens_or_refused : (ts : List Token) (k p : ℕ) → lex.tokens ts ≡ lex.refused k p → ◌≡◌ {A = ℕ} 0 1
      tokens_or_refused ts k p f = cc

      ample_here : Ample (limits_of lengths) (length (lexemes_of tokens)) (pushes (lexemes_of tokens))
      ample_here =
          let l : length (lexemes_of tokens) ≡ length tokens = length-map tokens (lexeme script) in
          let p = pushes_le (lexemes_of tokens) in
          (omega arith, omega arith, omega arith)

  -- Steps: at most eight a token and two
  abbrev pub Few : Outcome → Type 0
  Few o = o.answer.steps ≤ 8 * o.answer.tokens + 2

  pub steps_by_tokens : Few (outcome_of kind script lengths)
  unfolding outcome_of
  steps_by_tokens = by_kind (leb kind 1)
    where
      by_verdict : (tokens : List Token) (v : Verdict) → (run_of tokens).steps ≤ 8 * length tokens + 2 → Few (judged segwit lengths tokens (run_of tokens).steps v)
      by_verdict tokens (accepted t) h = h
      by_verdict tokens (refused r) h = h

      by_lexing : (x : lex.Outcome) → Few (lexed segwit lengths script x)
      by_lexing (lex.tokens tokens) =
          let l : length (lexemes_of tokens) ≡ length tokens = length-map tokens (lexeme script) in
          by_verdict tokens (run_of tokens).verdict (omega (arith, steps_at_most segwit (limits_of lengths) (lexemes_of tokens)))
      by_lexing (lex.refused k p) = omega arith

      by_kind : (c : Bool) → Few (pick c (lexed segwit lengths script (lex_of (token_room lengths) script)) (refusing lengths 20 0 0 0 0))
      by_kind true = by_lexing (lex_of (token_room lengths) script)
      by_kind false = omega arith

  -- "After a refusal all lent tables are zero throughout"; nodes and keys are 0
  abbrev pub Cleared : Outcome → Type 0
  Cleared o = (o.tokens ≡ zeros lengths.tokens) × (o.nodes ≡ zeros lengths.nodes) × (o.keys ≡ zeros lengths.keys) × (o.work ≡ zeros lengths.work) × (o.answer.nodes ≡ 0) × (o.answer.keys ≡ 0)

  pub refusal_clears : ((outcome_of kind script lengths).answer.number ≡ 0 → ⊥) → Cleared (outcome_of kind script lengths)
  unfolding outcome_of
  refusal_clears n = by_kind (leb kind 1) n
    where
      by_verdict : (tokens : List Token) (v : Verdict) → ((judged segwit lengths tokens (run_of tokens).steps v).answer.number ≡ 0 → ⊥) → Cleared (judged segwit lengths tokens (run_of tokens).steps v)
      by_verdict tokens (accepted t) h = absurd (h refl)
      by_verdict tokens (refused r) h = (refl, refl, refl, refl, refl, refl)

      by_lexing : (x : lex.Outcome) → ((lexed segwit lengths script x).answer.number ≡ 0 → ⊥) → Cleared (lexed segwit lengths script x)
      by_lexing (lex.tokens tokens) h = by_verdict tokens (run_of tokens).verdict h
      by_lexing (lex.refused k p) h = (refl, refl, refl, refl, refl, refl)

      by_kind : (c : Bool) → ((pick c (lexed segwit lengths script (lex_of (token_room lengths) script)) (refusing lengths 20 0 0 0 0)).answer.number ≡ 0 → ⊥) → Cleared (pick c (lexed segwit lengths script (lex_of (token_room lengths) script)) (refusing lengths 20 0 0 0 0))
      by_kind true h = by_lexing (lex_of (token_room lengths) script) h
      by_kind false h = (refl, refl, refl, refl, refl, refl)

-- One outcome: whatever the tables, a script that is accepted has the same tokens and the same tree
module _ (kind : ℕ) (script : List ℕ) (lengths other : Lengths) (h : HandedOut kind script lengths) (g : HandedOut kind script other) where
  pub one_tokens : h.tokens ≡ g.tokens
  one_tokens =
      let room = length h.tokens + length g.tokens in
      let a = same_tokens_in_any_room (token_room lengths) room script h.tokens h.lexes (omega arith) in
      let b = same_tokens_in_any_room (token_room other) room script g.tokens g.lexes (omega arith) in
      same_tokens (sym a ∙ b)

  pub one_tree_whatever_the_tables : h.tree ≡ g.tree
  one_tree_whatever_the_tables =
      let p : Accepts (eqb kind 0) (limits_of lengths) (map (lexeme script) h.tokens) h.tree = accepts kind script lengths h in
      let q : Accepts (eqb kind 0) (limits_of other) (map (lexeme script) h.tokens) g.tree = rw one_tokens (accepts kind script other g) in
      reads.one_tree (eqb kind 0) (limits_of lengths) (limits_of other) (map (lexeme script) h.tokens) h.tree g.tree p q

-- One tree, the same tokens: two accepted scripts of one kind with the same tree have the same tokens, whatever their places
pub same_tree_same_tokens : (kind : ℕ) (script other : List ℕ) (lengths room : Lengths) (h : HandedOut kind script lengths) (g : HandedOut kind other room)
    → SameTree h.tree g.tree → bares (map (lexeme script) h.tokens) ≡ bares (map (lexeme other) g.tokens)
same_tree_same_tokens kind script other lengths room h g e = ap bares (sym h.written_with) ∙ same_tree_same_lexemes h.tree g.tree e ∙ ap bares g.written_with
