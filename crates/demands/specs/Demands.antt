-- The demands in their own words, as theorems over calls of the public entries `decode::read` and `encode::encode`. A call is what was lent and what came back, tied by the entry's contract and by nothing else. Every proof here cites the layers below.
use Rattle.std.specs.Prelude.{◌≡◌, true, List, [], ◌∷◌, ◌++◌, map, ◌↔◌, ℕ, ◌+◌, ◌*◌, ◌≤◌, ◌<◌, eqb, length, drop, get_or}
use Rattle.std.proofs.Common.{sym, ap, ◌∙◌, arith}
use Rattle.std.proofs.Math.Option.{some}
use borrow.Author.Tests.{le-leb, lt-leb}
use Rattle.lex.specs.Token.{Bytes, Token, lexeme}
use Rattle.lex.specs.Script as lex
use Rattle.lex.specs.Script.{script_limit, lex_of}
use Rattle.spelling.specs.Spell.{spell}
use Rattle.tables.specs.Tables.{zeros, flat}
use Rattle.standard.specs.Tree.{Tree, nil, ◌⊳◌, SameTree}
use Rattle.standard.specs.Written.{written}
use Rattle.standard.specs.Types.{type_of, bip_type}
use Rattle.standard.specs.Table.{node_table, key_table, cells, tree_of}
use Rattle.standard.specs.Machine.{Refusal, refused, ends, decode}
use Rattle.standard.specs.Outcome.{Lengths, Outcome, token_room, limits_of, place_of, refusing, accepting, outcome_of, ample_for}
use Rattle.standard.specs.Examples.{Told, no, twelve_told}
use Rattle.standard.specs.RowForm.{row_form}
use Rattle.standard.specs.Statements.{bares, letters_of, AmpleLengths, WrittenWithTokens, HandedOut}
use Rattle.standard.proofs.TypesAgree.{types_agree_in_segwit}
use Rattle.standard.proofs.Demand3.{accepted_is_handed_out, handed_out_reads_back, accepted_exactly, steps_by_tokens, refusal_clears}
use Rattle.one_script.specs.OneScript.{same_tree_same_segwit_script}
use Rattle.decode.specs.declared.Answer.{Answer}
use Rattle.decode.specs.Read.{outcome_at}
use Rattle.decode.specs.ReadTheorems.{read_outcome_unique}
use Rattle.encoding.specs.Encoding as encoding
use Rattle.encoding.specs.Encoding.{node_count, encoding_of}
use Rattle.encode.specs.declared.Encoded.{Encoded}
use Rattle.encode.specs.Encode as encode
use Rattle.encode.specs.EncodeTheorems.{encode_outcome_unique}
use Rattle.there_and_back.specs.ThereAndBack.{Written, accepted_is_written, written_is_accepted, written_is_read, read_is_written, read_is_written_in_segwit}

-- A call of `decode::read`: the answer, and the four lent tables at exit, as its contract has them
pub record ReadCall (kind : ℕ) (script : List ℕ) (lengths : Lengths) : Type 0 where
  pub answer : Answer
  pub tokens : List ℕ
  pub nodes : List ℕ
  pub keys : List ℕ
  pub work : List ℕ
  pub meets : outcome_at answer tokens nodes keys work ≡ outcome_of kind script lengths

-- A call of `encode::encode`: the answer, the output and the work table at exit; `before` is what the output held
pub record EncodeCall (kind : ℕ) (nodes keys material : List ℕ) (room : ℕ) (before : List ℕ) : Type 0 where
  pub answer : Encoded
  pub output : List ℕ
  pub work : List ℕ
  pub meets : encode.outcome_at answer output work ≡ encoding_of kind nodes keys material room before

-- "any two outcomes that satisfy it are proved identical": a contract that says what the answer is, or what a table holds at exit, by an equation is met by one value
pub an_equation_settles : {A : Type 0} {value other settled : A} → value ≡ settled → other ≡ settled → value ≡ other
an_equation_settles p q = p ∙ sym q

-- Demand 1

-- "what it held before never changes the answer": two calls that agree on kind, script and table lengths agree on everything
pub two_reads_agree : (kind : ℕ) (script : List ℕ) (lengths : Lengths) (a b : ReadCall kind script lengths)
    → (a.answer ≡ b.answer) × (a.tokens ≡ b.tokens) × (a.nodes ≡ b.nodes) × (a.keys ≡ b.keys) × (a.work ≡ b.work)
two_reads_agree kind script lengths a b =
    read_outcome_unique kind script lengths a.answer b.answer a.tokens a.nodes a.keys a.work b.tokens b.nodes b.keys b.work a.meets b.meets

module _ (kind : ℕ) (script : List ℕ) (lengths : Lengths) (call : ReadCall kind script lengths) where
  -- an outcome that the contract comes to is what the call left
  came_to : {o : Outcome} → outcome_of kind script lengths ≡ o → outcome_at call.answer call.tokens call.nodes call.keys call.work ≡ o
  came_to e = call.meets ∙ e

  number_is : call.answer.number ≡ (outcome_of kind script lengths).answer.number
  number_is = ap (λ (o : Outcome). o.answer.number) call.meets

  -- "Bad input is refused by 01's numbers, in its order, with the place": 20 first
  pub unknown_kind_is_20 : 1 < kind → outcome_at call.answer call.tokens call.nodes call.keys call.work ≡ refusing lengths 20 0 0 0 0
  unfolding outcome_of
  unknown_kind_is_20 h = came_to (rw (lt-leb kind 1 h))

  -- then 1, for more than 10,000 bytes
  pub too_long_is_1 : kind ≤ 1 → script_limit < length script → outcome_at call.answer call.tokens call.nodes call.keys call.work ≡ refusing lengths 1 0 0 0 0
  unfolding outcome_of lex_of
  too_long_is_1 k h = came_to (rw (le-leb kind 1 k, lt-leb (length script) script_limit h))

  -- then lexing's 2 to 8, at the start of the instruction
  pub lexing_refuses : kind ≤ 1 → (number place : ℕ) → lex_of (token_room lengths) script ≡ lex.refused number place
      → outcome_at call.answer call.tokens call.nodes call.keys call.work ≡ refusing lengths number 0 place 0 0
  unfolding outcome_of
  lexing_refuses k number place e = came_to (rw (le-leb kind 1 k, e))

  -- then the rows' 9 to 19, at the place of the refusal's token
  pub rows_refuse : kind ≤ 1 → (ts : List Token) → lex_of (token_room lengths) script ≡ lex.tokens ts → (steps : ℕ) (r : Refusal) → decode (eqb kind 0) (limits_of lengths) (map (lexeme script) ts) ≡ ends steps (refused r)
      → outcome_at call.answer call.tokens call.nodes call.keys call.work ≡ refusing lengths r.number r.reason (place_of ts r) (length ts) steps
  unfolding outcome_of
  rows_refuse k ts e steps r d = came_to (rw (le-leb kind 1 k, e, d))

  -- "After a call each lent table holds exactly what 01 says": zeros after a refusal
  pub refused_leaves_zeros : (call.answer.number ≡ 0 → ⊥)
      → (call.tokens ≡ zeros lengths.tokens) × (call.nodes ≡ zeros lengths.nodes) × (call.keys ≡ zeros lengths.keys) × (call.work ≡ zeros lengths.work)
  refused_leaves_zeros refused-it =
      let c = refusal_clears kind script lengths (λ z. refused-it (number_is ∙ z)) in
      (ap (λ (o : Outcome). o.tokens) call.meets ∙ c.0, ap (λ (o : Outcome). o.nodes) call.meets ∙ c.1, ap (λ (o : Outcome). o.keys) call.meets ∙ c.2, ap (λ (o : Outcome). o.work) call.meets ∙ c.3)

  module _ (bytes : Bytes script) where
    -- what an accepting call hands out
    pub handed_out : call.answer.number ≡ 0 → HandedOut kind script lengths
    handed_out z = accepted_is_handed_out kind script lengths bytes (sym number_is ∙ z)

    -- and the tokens, nodes and keys at the front of the tables after acceptance, zeros behind
    pub accepted_fills_the_front : (z : call.answer.number ≡ 0)
        → outcome_at call.answer call.tokens call.nodes call.keys call.work
        ≡ accepting lengths (handed_out z).tokens (handed_out z).steps (node_table (eqb kind 0) ((handed_out z).tree ⊳ nil)) (key_table ((handed_out z).tree ⊳ nil))
    accepted_fills_the_front z = came_to (handed_out z).outcome

    -- Demand 2, the proved part

    -- tree: written with the script's tokens by BIP 379's table, and read back off the tables
    pub tree_is_written : (z : call.answer.number ≡ 0) → written (handed_out z).tree ≡ map (lexeme script) (handed_out z).tokens
    tree_is_written z = (handed_out z).written_with

    pub tree_reads_back : (z : call.answer.number ≡ 0)
        → tree_of (eqb kind 0) script (key_table ((handed_out z).tree ⊳ nil)) (node_table (eqb kind 0) ((handed_out z).tree ⊳ nil)) ≡ some (handed_out z).tree
    tree_reads_back z = handed_out_reads_back kind script lengths (handed_out z)

    -- the step count is that of a run of the rows
    pub steps_are_the_rows : (z : call.answer.number ≡ 0) → call.answer.steps ≡ (decode (eqb kind 0) (limits_of lengths) (map (lexeme script) (handed_out z).tokens)).steps
    steps_are_the_rows z = ap (λ (o : Outcome). o.answer.steps) (accepted_fills_the_front z) ∙ sym (ap (λ r. r.steps) (handed_out z).reads)

    -- Demand 3

    -- "With ample tables, a script that lexes is refused exactly when no well-typed, allowed tree of base B is written with its tokens"
    pub accepted_exactly_when_written : AmpleLengths (length script) lengths
        → (call.answer.number ≡ 0) ↔ ((kind ≤ 1) × ((ts : List Token) × (lex_of (2 * length script) script ≡ lex.tokens ts) × ((t : Tree) × WrittenWithTokens (eqb kind 0) script ts t)))
    accepted_exactly_when_written ample =
        let e = accepted_exactly kind script lengths bytes ample in
        ((λ z. e.0 (sym number_is ∙ z)), (λ w. number_is ∙ e.1 w))

  -- "at most eight steps a token and two"
  pub few_steps : call.answer.steps ≤ 8 * call.answer.tokens + 2
  few_steps =
      let s : call.answer.steps ≡ (outcome_of kind script lengths).answer.steps = ap (λ (o : Outcome). o.answer.steps) call.meets in
      let t : call.answer.tokens ≡ (outcome_of kind script lengths).answer.tokens = ap (λ (o : Outcome). o.answer.tokens) call.meets in
      let f : (outcome_of kind script lengths).answer.steps ≤ 8 * (outcome_of kind script lengths).answer.tokens + 2 = steps_by_tokens kind script lengths in
      rw (s, t) f

-- types: in segwit BIP 379's, letter for letter; in tapscript but for d: (standard/proofs/TypesAgree.antt)
pub types_are_bip379s : (t : Tree) → letters_of (type_of true t) ≡ bip_type true t
types_are_bip379s t = types_agree_in_segwit t

-- "so same tree, same bytes (but for NUMEQUAL VERIFY)"
pub same_tree_one_script : (script other : List ℕ) (lengths room : Lengths) (y : Bytes script) (w : Bytes other) (a : ReadCall 0 script lengths) (b : ReadCall 0 other room)
    → (p : a.answer.number ≡ 0) (q : b.answer.number ≡ 0) → SameTree (handed_out 0 script lengths a y p).tree (handed_out 0 other room b w q).tree → script ≡ other
same_tree_one_script script other lengths room y w a b p q e = same_tree_same_segwit_script script other lengths room y w (handed_out 0 script lengths a y p) (handed_out 0 other room b w q) e

-- The encoder, there and back

pub two_encodings_agree : (kind : ℕ) (nodes keys material : List ℕ) (room : ℕ) (before : List ℕ) (a b : EncodeCall kind nodes keys material room before) → (a.answer ≡ b.answer) × (a.output ≡ b.output) × (a.work ≡ b.work)
two_encodings_agree kind nodes keys material room before a b =
    encode_outcome_unique kind nodes keys material room before a.answer b.answer a.output b.output a.work b.work a.meets b.meets

module _ (kind : ℕ) (nodes keys material : List ℕ) (room : ℕ) (before : List ℕ) (call : EncodeCall kind nodes keys material room before) (accepted : call.answer.number ≡ 0) where
  -- what an accepting call wrote
  pub what_was_written : Written kind nodes keys material room before
  what_was_written = accepted_is_written kind nodes keys material room before (sym (ap (λ (o : encoding.Outcome). o.answer.number) call.meets) ∙ accepted)

  -- canonical bytes at the front, the rest of the output as it was
  pub canonical_at_the_front : call.output ≡ spell (written what_was_written.tree) ++ drop (length (spell (written what_was_written.tree))) before
  canonical_at_the_front = ap (λ (o : encoding.Outcome). o.output) (call.meets ∙ what_was_written.outcome)

  -- with ample tables every call of the reader accepts these bytes, and its tree has the same type and tokens; it is the same tree exactly where the given one has the form that the rows build
  pub encoded_is_read : Bytes material → (lengths : Lengths) → AmpleLengths (length (spell (written what_was_written.tree))) lengths → (r : ReadCall kind (spell (written what_was_written.tree)) lengths)
      → (r.answer.number ≡ 0)
      × ((h : HandedOut kind (spell (written what_was_written.tree)) lengths)
      × (type_of (eqb kind 0) h.tree ≡ type_of (eqb kind 0) what_was_written.tree) × (bares (written h.tree) ≡ bares (written what_was_written.tree)) × (SameTree h.tree what_was_written.tree ↔ (row_form what_was_written.tree ≡ true)))
  encoded_is_read bytes lengths ample r =
      let w = what_was_written in
      (number_is kind (spell (written w.tree)) lengths r ∙ written_is_accepted kind nodes keys material room before bytes w lengths ample, written_is_read kind nodes keys material room before bytes w lengths ample)

-- Encoding what the reader found, in kind 0: the script comes back
pub script_comes_back : (script : List ℕ) (lengths : Lengths) (bytes : Bytes script) (r : ReadCall 0 script lengths) (z : r.answer.number ≡ 0)
    → (room : ℕ) (before : List ℕ) → 8 * node_count (flat (map cells (node_table true ((handed_out 0 script lengths r bytes z).tree ⊳ nil)))) + 2 ≤ room → length script ≤ length before
    → (call : EncodeCall 0 (flat (map cells (node_table true ((handed_out 0 script lengths r bytes z).tree ⊳ nil)))) (key_table ((handed_out 0 script lengths r bytes z).tree ⊳ nil)) script room before)
    → (call.answer.number ≡ 0) × (call.output ≡ script ++ drop (length script) before)
script_comes_back script lengths bytes r z room before enough fits call =
    let h = handed_out 0 script lengths r bytes z in
    let w = read_is_written 0 script lengths bytes h room before enough fits in
    let same : spell (written h.tree) ≡ script = read_is_written_in_segwit script lengths bytes h in (
      ap (λ (o : encoding.Outcome). o.answer.number) (call.meets ∙ w.0),
      ap (λ (o : encoding.Outcome). o.output) (call.meets ∙ w.0) ∙ ap (λ (b : List ℕ). b ++ drop (length b) before) same,
    )

-- Pinned down: four programs that are no such reader. A program is a function from what it is given to what it leaves

abbrev Program : Type 0
Program = (kind : ℕ) (script : List ℕ) (lengths : Lengths) → Outcome

abbrev Meets : Program → Type 0
Meets program = (kind : ℕ) (script : List ℕ) (lengths : Lengths) → program kind script lengths ≡ outcome_of kind script lengths

abbrev told_at : ℕ → List Told → Told
told_at i l = get_or l i (no 0 0 0 0 0)

-- "A reader that refuses everything fails demand 3's 'exactly when'": `51` is accepted
pub refusing_everything_fails : (program : Program) → Meets program → ((kind : ℕ) (script : List ℕ) (lengths : Lengths) → (program kind script lengths).answer.number ≡ 0 → ⊥) → ⊥
refusing_everything_fails program meets refuses =
    refuses 0 (0x51 ∷ []) (ample_for 1) (ap (λ (o : Outcome). o.answer.number) (meets 0 (0x51 ∷ []) (ample_for 1)) ∙ ap (λ (l : List Told). (told_at 1 l).number) twelve_told)

-- "One that always hands out the tree of `51` fails": `516951` has four nodes
pub always_51_fails : (program : Program) → Meets program → ((kind : ℕ) (script : List ℕ) (lengths : Lengths) → (program kind script lengths).answer.number ≡ 0 → (program kind script lengths).answer.nodes ≡ 1) → ⊥
always_51_fails program meets one-node =
    let script : List ℕ = 0x51 ∷ 0x69 ∷ 0x51 ∷ [] in
    let accepted : (program 0 script (ample_for 3)).answer.number ≡ 0 = ap (λ (o : Outcome). o.answer.number) (meets 0 script (ample_for 3)) ∙ ap (λ (l : List Told). (told_at 2 l).number) twelve_told in
    let four : (program 0 script (ample_for 3)).answer.nodes ≡ 4 = ap (λ (o : Outcome). o.answer.nodes) (meets 0 script (ample_for 3)) ∙ ap (λ (l : List Told). (told_at 2 l).nodes) twelve_told in
    let one : (program 0 script (ample_for 3)).answer.nodes ≡ 1 = one-node 0 script (ample_for 3) accepted in
    omega arith

-- "One that does nothing leaves old table contents": a table that held 1 is zero afterwards
pub doing_nothing_fails : (call : ReadCall 2 [] (record { tokens = 1; nodes = 0; keys = 0; work = 0 })) → call.tokens ≡ 1 ∷ [] → ⊥
doing_nothing_fails call kept =
    let cleared : call.tokens ≡ 0 ∷ [] = ap (λ (o : Outcome). o.tokens) (unknown_kind_is_20 2 [] (record { tokens = 1; nodes = 0; keys = 0; work = 0 }) call (omega arith)) in
    let z : ◌≡◌ {A = ℕ} 0 1 = ap (λ (l : List ℕ). get_or l 0 0) (sym cleared ∙ kept) in
    omega arith

-- "One that .. invents its step count, fails demand 2": the count is that of the run of the rows, and no other
pub inventing_steps_fails : (kind : ℕ) (script : List ℕ) (lengths : Lengths) (call : ReadCall kind script lengths) → (call.answer.steps ≡ (outcome_of kind script lengths).answer.steps → ⊥) → ⊥
inventing_steps_fails kind script lengths call other = other (ap (λ (o : Outcome). o.answer.steps) call.meets)
