-- What `read` leaves behind: the tables wiped after a refusal, the place of a refusal's token, and the run's end as the whole outcome. Assumes nothing.
use Rattle.std.proofs.Common.{Ok, Err}
use mathlib.Core.Path.{◌≡◌, refl, sym, ap, subst, ◌∙◌}
use mathlib.Core.Bool.{Bool, true, false}
use mathlib.Core.List.{List, [], ◌∷◌, ◌++◌, map, reverse_aux, reverse-reverse}
use Prim.Native.Nat.{ℕ, zero, suc, ◌+◌, ◌-◌, ◌*◌, ◌/◌, ◌≤◌, ◌<◌}
use native.Mathlib.Omega.{arith}
use lib.Dec.{eqb, leb}
use lib.ListN.{length, get_or, take, drop, length-take, length-append, length-map, length-replicate, get_or-eq_default}
use borrow.Author.Tests.{le-leb, lt-leb, leb-true}
use Rattle.tables.specs.Choose.{pick}
use Rattle.tables.specs.Tables.{zeros, flat}
use Rattle.tables.proofs.FlatLaws.{flat_length, strided_map}
use Rattle.tables.proofs.PutLaws.{zeros_cell}
use Rattle.instruction.specs.Code.{Bytes}
use Rattle.std.specs.Prelude.{Ok, Err}
use Rattle.lex.specs.Token.{Token, Lexeme, lexeme}
use Rattle.lex.specs.Script.{refusal, script_limit, lex_of, answer_of, numbers, table_of, Lexes}
use Rattle.lex.specs.Script as lex
use Rattle.lex.proofs.ScanLaws.{limit_passed}
use Rattle.lex.proofs.Theorems.{tokens_at_most_twice, cells_low, answered_tokens, answered_refused}
use Rattle.standard.specs.Tree.{nil, ◌⊳◌}
use Rattle.standard.specs.Table.{node_table, key_table}
use Rattle.standard.specs.Machine.{Refusal, Verdict, accepted, refused, Run, decode}
use Rattle.standard.specs.Outcome as outcome
use Rattle.standard.specs.Outcome.{Lengths, Outcome, outcome_of, refusing, place_at, place_of, judged, lexed}
use Rattle.row.specs.Tokens.{InTable, lexemes_left}
use Rattle.row.proofs.StartLaws.{all_left, place_cell}
use Rattle.node_store.specs.Stored.{nodes_in, keys_in}
use Rattle.perform.specs.View.{room_of, Behind}
use Rattle.decode.specs.declared.Answer.{Answer}
use Rattle.run.specs.declared.Ran.{Ran}
use Rattle.run.specs.declared.Halted.{Halted}
use Rattle.run.specs.Runs.{Refuses, Ends, Runs}
use Rattle.decode.specs.Read as read
use Rattle.decode.specs.Read.{lengths_of, outcome_at, refused_answer, place_in}
use Rattle.run.proofs.EndLaws.{all_zeros, behind_tail}

-- Wiping

pub zeros_are_behind : (t : List ℕ) (n : ℕ) → t ≡ zeros (length t) → Behind t n
zeros_are_behind t n e i b = ap (λ (l : List ℕ). get_or l i 0) e ∙ zeros_cell (length t) i

beyond : (front : List ℕ) (m i : ℕ) → length front ≤ i → get_or (front ++ zeros m) i 0 ≡ 0
beyond [] m i h = zeros_cell m i
beyond (x ∷ front) m zero h = let b : ⊥ = omega arith in absurd b
beyond (x ∷ front) m (suc i) h = beyond front m i (omega arith)

-- Places

none_there : (ts : List Token) (i : ℕ) → length ts ≤ i → place_at ts i ≡ 0
none_there [] i h = refl
none_there (t ∷ ts) zero h = let x : ⊥ = omega arith in absurd x
none_there (t ∷ ts) (suc i) h = none_there ts i (omega arith)

-- A script that lexed

limit_small : script_limit ≤ 16777216
unfolding script_limit
limit_small = omega arith

within_limit : (room : ℕ) (script : List ℕ) (ts : List Token) → lex_of room script ≡ lex.tokens ts → length script ≤ script_limit
within_limit room script ts e = by_test (leb (length script) script_limit) refl
  where
    by_test : (b : Bool) → leb (length script) script_limit ≡ b → length script ≤ script_limit
    by_test true h = leb-true (length script) script_limit h
    by_test false h = let n : lex.tokens ts ≡ lex.refused 1 0 = sym e ∙ limit_passed room script h in let z : ◌≡◌ {A = ℕ} 0 1 = cc in let x : ⊥ = omega arith in absurd x

module _ (script tokens : List ℕ) (count : ℕ) (lexes : Lexes script (length tokens) (Ok count) tokens) where
  ts : List Token
  ts = (answered_tokens (length tokens / 3) count script lexes.0).0

  lexed_to : lex_of (length tokens / 3) script ≡ lex.tokens ts
  unfolding ts
  lexed_to = (answered_tokens (length tokens / 3) count script lexes.0).1

  counted : length ts ≡ count
  unfolding ts
  counted = (answered_tokens (length tokens / 3) count script lexes.0).2

  -- the token table
  table_is : tokens ≡ flat (map numbers ts) ++ zeros (length tokens - 3 * length ts)
  table_is = lexes.1 ∙ ap (table_of (length tokens)) lexed_to

  flat_tokens : length (flat (map numbers ts)) ≡ 3 * length ts
  flat_tokens = flat_length 3 (map numbers ts) (strided_map 3 numbers (λ t. refl) ts) ∙ ap (λ (n : ℕ). 3 * n) (length-map ts numbers)

  pub tokens_inside : 3 * count ≤ length tokens
  tokens_inside =
      let e : length tokens ≡ length (flat (map numbers ts)) + length (zeros (length tokens - 3 * length ts)) = ap length table_is ∙ length-append (flat (map numbers ts)) (zeros (length tokens - 3 * length ts)) in
      omega (arith, counted, flat_tokens, e, length-replicate {A = ℕ} (length tokens - 3 * length ts) 0)

  pub tokens_few : count ≤ 33554432
  tokens_few = omega (arith, counted, tokens_at_most_twice (length tokens / 3) script ts lexed_to, within_limit (length tokens / 3) script ts lexed_to, limit_small)

  pub tokens_behind : Behind tokens (3 * count)
  tokens_behind i b =
      ap (λ (t : List ℕ). get_or t i 0) table_is ∙ beyond (flat (map numbers ts)) (length tokens - 3 * length ts) i (omega (arith, counted, flat_tokens))

  pub in_table : Bytes script → InTable tokens count
  in_table bytes =
      record {
        inside = tokens_inside;
        low = λ i. subst (λ (t : List ℕ). get_or t i 0 < 2147483648) (sym lexes.1) (cells_low (length tokens) (length tokens / 3) i script bytes);
        few = omega (arith, tokens_few);
      }

  -- the run reads the script's lexemes
  lexemes_are : reverse_aux (lexemes_left script tokens count) [] ≡ map (lexeme script) ts
  lexemes_are =
      ap (λ (t : List ℕ). reverse_aux (lexemes_left script t count) []) table_is
      ∙ ap (λ (n : ℕ). reverse_aux (lexemes_left script (flat (map numbers ts) ++ zeros (length tokens - 3 * length ts)) n) []) (sym counted)
      ∙ ap (λ (l : List Lexeme). reverse_aux l []) (all_left script (zeros (length tokens - 3 * length ts)) ts)
      ∙ reverse-reverse (map (lexeme script) ts)

  -- the place of a refusal's token
  place_is : (number left : ℕ) → place_in tokens count number left ≡ pick (eqb number 9) 0 (pick (eqb number 19) 0 (place_at ts left))
  place_is number left = ap (λ (p : ℕ). pick (eqb number 9) 0 (pick (eqb number 19) 0 p)) (by_test (leb count left) refl)
    where
      by_test : (b : Bool) → leb count left ≡ b → pick b 0 (get_or tokens (3 * left + 2) 0) ≡ place_at ts left
      by_test true h = sym (none_there ts left (omega (arith, counted, leb-true count left h)))
      by_test false h = ap (λ (t : List ℕ). get_or t (3 * left + 2) 0) table_is ∙ place_cell ts (length tokens - 3 * length ts) left

  module _ (segwit : Bool) (nodes keys work : List ℕ) where
    abbrev lengths : Lengths
    lengths = lengths_of tokens nodes keys work

    abbrev run : Run
    run = decode segwit (room_of nodes keys work) (reverse_aux (lexemes_left script tokens count) [])

    lexed_is : lexed segwit lengths script (lex_of (length tokens / 3) script) ≡ judged segwit lengths ts run.steps run.verdict
    lexed_is =
        ap (lexed segwit lengths script) lexed_to
        ∙ ap (λ (l : List Lexeme). let r = decode segwit (room_of nodes keys work) l in judged segwit lengths ts r.steps r.verdict) (sym lexemes_are)

    module _ (nodes' keys' : List ℕ) (same_nodes : length nodes' ≡ length nodes) (same_keys : length keys' ≡ length keys) where
      -- accepted
      accepted_by : (v : Verdict) (steps : ℕ) (ran : Ran) → Ends segwit v steps nodes' keys' (Ok ran) → (work' : List ℕ) → work' ≡ zeros (length work)
          → outcome_at (record { number = 0; reason = 0; place = 0; tokens = count; steps = ran.steps; nodes = ran.nodes; keys = ran.keys }) tokens nodes' keys' work' ≡ judged segwit lengths ts steps v
      accepted_by (refused r) steps ran h work' w = absurd h
      accepted_by (accepted t) steps ran h work' w =
          rw h.answers (
          ap (λ (n : ℕ). record { answer = record { number = 0; reason = 0; place = 0; tokens = n; steps = steps; nodes = length (node_table segwit (t ⊳ nil)); keys = length (key_table (t ⊳ nil)) }; tokens = tokens; nodes = nodes'; keys = keys'; work = work' }) (sym counted)
          ∙ ap (λ (l : List ℕ). record { answer = record { number = 0; reason = 0; place = 0; tokens = length ts; steps = steps; nodes = length (node_table segwit (t ⊳ nil)); keys = length (key_table (t ⊳ nil)) }; tokens = l; nodes = nodes'; keys = keys'; work = work' }) table_is
          ∙ ap (λ (l : List ℕ). record { answer = record { number = 0; reason = 0; place = 0; tokens = length ts; steps = steps; nodes = length (node_table segwit (t ⊳ nil)); keys = length (key_table (t ⊳ nil)) }; tokens = flat (map numbers ts) ++ zeros (length tokens - 3 * length ts); nodes = l; keys = keys'; work = work' }) (h.nodes_are ∙ ap (λ (n : ℕ). nodes_in n (node_table segwit (t ⊳ nil))) same_nodes)
          ∙ ap (λ (l : List ℕ). record { answer = record { number = 0; reason = 0; place = 0; tokens = length ts; steps = steps; nodes = length (node_table segwit (t ⊳ nil)); keys = length (key_table (t ⊳ nil)) }; tokens = flat (map numbers ts) ++ zeros (length tokens - 3 * length ts); nodes = nodes_in (length nodes) (node_table segwit (t ⊳ nil)); keys = l; work = work' }) (h.keys_are ∙ ap (λ (n : ℕ). keys_in n (key_table (t ⊳ nil))) same_keys)
          ∙ ap (λ (l : List ℕ). record { answer = record { number = 0; reason = 0; place = 0; tokens = length ts; steps = steps; nodes = length (node_table segwit (t ⊳ nil)); keys = length (key_table (t ⊳ nil)) }; tokens = flat (map numbers ts) ++ zeros (length tokens - 3 * length ts); nodes = nodes_in (length nodes) (node_table segwit (t ⊳ nil)); keys = keys_in (length keys) (key_table (t ⊳ nil)); work = l }) w)

      pub accepts : (ran : Ran) → Runs segwit run nodes' keys' (Ok ran) → (work' : List ℕ) → work' ≡ zeros (length work)
          → outcome_at (record { number = 0; reason = 0; place = 0; tokens = count; steps = ran.steps; nodes = ran.nodes; keys = ran.keys }) tokens nodes' keys' work' ≡ lexed segwit lengths script (lex_of (length tokens / 3) script)
      accepts ran h work' w = accepted_by run.verdict run.steps ran h work' w ∙ sym lexed_is

      -- refused
      module _ (halted : Halted) where
        refusal_is : (q : Refusal) (steps : ℕ) → Refuses q steps nodes' keys' halted
            → refused_answer halted.stop.number halted.stop.reason (place_in tokens count halted.stop.number halted.stop.left) count halted.ran.steps ≡ refused_answer q.number q.reason (place_of ts q) (length ts) steps
        refusal_is q steps h =
            ap (λ (p : ℕ). refused_answer halted.stop.number halted.stop.reason p count halted.ran.steps) (place_is halted.stop.number halted.stop.left)
            ∙ ap (λ (n : ℕ). refused_answer n halted.stop.reason (pick (eqb n 9) 0 (pick (eqb n 19) 0 (place_at ts halted.stop.left))) count halted.ran.steps) h.number_is
            ∙ ap (λ (n : ℕ). refused_answer q.number n (pick (eqb q.number 9) 0 (pick (eqb q.number 19) 0 (place_at ts halted.stop.left))) count halted.ran.steps) h.reason_is
            ∙ ap (λ (n : ℕ). refused_answer q.number q.reason (pick (eqb q.number 9) 0 (pick (eqb q.number 19) 0 (place_at ts n))) count halted.ran.steps) h.left_is
            ∙ ap (λ (n : ℕ). refused_answer q.number q.reason (place_of ts q) n halted.ran.steps) (sym counted)
            ∙ ap (λ (n : ℕ). refused_answer q.number q.reason (place_of ts q) (length ts) n) h.steps_are

        refused_by : (v : Verdict) (steps : ℕ) → Ends segwit v steps nodes' keys' (Err halted)
            → record { answer = refused_answer halted.stop.number halted.stop.reason (place_in tokens count halted.stop.number halted.stop.left) count halted.ran.steps; tokens = zeros (length tokens); nodes = zeros (length nodes); keys = zeros (length keys); work = zeros (length work) }
            ≡ judged segwit lengths ts steps v
        refused_by (accepted t) steps h = absurd h
        refused_by (refused q) steps h =
            ap (λ (a : outcome.Answer). record { answer = a; tokens = zeros (length tokens); nodes = zeros (length nodes); keys = zeros (length keys); work = zeros (length work) }) (refusal_is q steps h)

        pub refuses : Runs segwit run nodes' keys' (Err halted) → (r : Answer) (place : ℕ) (t' n' k' w' : List ℕ) → read.answer_of r ≡ refused_answer halted.stop.number halted.stop.reason place count halted.ran.steps → place ≡ place_in tokens count halted.stop.number halted.stop.left
            → t' ≡ zeros (length tokens) → n' ≡ zeros (length nodes) → k' ≡ zeros (length keys) → w' ≡ zeros (length work) → outcome_at r t' n' k' w' ≡ lexed segwit lengths script (lex_of (length tokens / 3) script)
        refuses e r place t' n' k' w' a p t n k w =
            ap (λ (x : outcome.Answer). record { answer = x; tokens = t'; nodes = n'; keys = k'; work = w' }) (a ∙ ap (λ (i : ℕ). refused_answer halted.stop.number halted.stop.reason i count halted.ran.steps) p)
            ∙ rw (t, n, k, w) (refused_by run.verdict run.steps e ∙ sym lexed_is)

        -- what the tables hold that have to be wiped
        ended_behind : (v : Verdict) (steps : ℕ) → Ends segwit v steps nodes' keys' (Err halted) → ((9 * halted.ran.nodes ≤ length nodes') × Behind nodes' (9 * halted.ran.nodes)) × ((halted.ran.keys ≤ length keys') × Behind keys' halted.ran.keys)
        ended_behind (accepted t) steps h = absurd h
        ended_behind (refused q) steps h = ((h.the_nodes_in, h.nodes_behind), (h.keys_in, h.keys_behind))

        pub to_wipe : Runs segwit run nodes' keys' (Err halted) → ((9 * halted.ran.nodes ≤ length nodes') × Behind nodes' (9 * halted.ran.nodes)) × ((halted.ran.keys ≤ length keys') × Behind keys' halted.ran.keys)
        to_wipe e = ended_behind run.verdict run.steps e

-- The whole reader

module _ (kind : ℕ) (script tokens nodes keys work : List ℕ) where
  abbrev whole : Lengths
  whole = lengths_of tokens nodes keys work

  -- a refusal whose tables are clear
  cleared : (r : Answer) (number place : ℕ) (t' n' k' w' : List ℕ) → read.answer_of r ≡ refused_answer number 0 place 0 0 → t' ≡ zeros (length tokens) → n' ≡ zeros (length nodes) → k' ≡ zeros (length keys) → w' ≡ zeros (length work)
      → outcome_at r t' n' k' w' ≡ refusing whole number 0 place 0 0
  cleared r number place t' n' k' w' a t n k w = rw (a, t, n, k, w) refl

  pub unknown_kind : 1 < kind → (r : Answer) (t' n' k' w' : List ℕ) → read.answer_of r ≡ refused_answer 20 0 0 0 0 → t' ≡ zeros (length tokens) → n' ≡ zeros (length nodes) → k' ≡ zeros (length keys) → w' ≡ zeros (length work)
      → outcome_at r t' n' k' w' ≡ outcome_of kind script whole
  unfolding outcome_of
  unknown_kind h r t' n' k' w' a t n k w = cleared r 20 0 t' n' k' w' a t n k w ∙ rw (lt-leb kind 1 h) refl

  known_kind : kind ≤ 1 → outcome_of kind script whole ≡ lexed (eqb kind 0) whole script (lex_of (length tokens / 3) script)
  unfolding outcome_of
  known_kind h = rw (le-leb kind 1 h) refl

  pub not_lexed : kind ≤ 1 → (number place : ℕ) (r : Answer) (t' n' k' w' : List ℕ) → Lexes script (length tokens) (Err (refusal number place)) t' → read.answer_of r ≡ refused_answer number 0 place 0 0 → n' ≡ zeros (length nodes) → k' ≡ zeros (length keys) → w' ≡ zeros (length work)
      → outcome_at r t' n' k' w' ≡ outcome_of kind script whole
  not_lexed h number place r t' n' k' w' l a n k w =
      let e : lex_of (length tokens / 3) script ≡ lex.refused number place = answered_refused (length tokens / 3) number place script l.0 in
      cleared r number place t' n' k' w' a (l.1 ∙ ap (table_of (length tokens)) e) n k w ∙ sym (known_kind h ∙ ap (lexed (eqb kind 0) whole script) e)

  -- decoded from tables of the same lengths
  pub read_on_lem : kind ≤ 1 → (o : Outcome) (t' n' k' w' : List ℕ) → length t' ≡ length tokens → length n' ≡ length nodes → length k' ≡ length keys → length w' ≡ length work
      → o ≡ lexed (eqb kind 0) (lengths_of t' n' k' w') script (lex_of (length t' / 3) script) → o ≡ outcome_of kind script whole
  read_on_lem h o t' n' k' w' t n k w e = rw (t, n, k, w) at e ∙ sym (known_kind h)

pub lexes_not : (script t t' : List ℕ) (number place : ℕ) {a : lex.Answer} → Lexes script (length t) a t' → a ≡ Err (refusal number place) → Lexes script (length t) (Err (refusal number place)) t'
lexes_not script t t' number place h e = rw (← e) h
