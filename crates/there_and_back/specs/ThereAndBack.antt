-- The theorems of writing, over the whole outcome of the encoder.
-- Written: what is accepted is a tree of base B, well typed and allowed, whose keys and hashes lie within the material, and the output begins with its canonical bytes (`accepted_is_written`). The bytes lex to the tree's written form (`written_lexes`).
-- Read: with ample tables the reader accepts them, and finds a tree with the same type and the same tokens; it is the same tree exactly where the given one has the form that the rows build (`written_is_read`).
-- Back: over the tables that the reader hands out the encoder finds the very tree, and writes the script again, but for NUMEQUAL VERIFY; in kind 0 without exception (`read_is_written`, `read_is_written_in_segwit`).
-- Fixed: node table, key table and material fix the bytes (`table_fixes_bytes`).
use Rattle.std.specs.Prelude.{◌≡◌, Bool, true, false, List, map, ◌↔◌, ℕ, ◌+◌, ◌*◌, ◌≤◌, eqb, leb}
use Rattle.std.proofs.Math.Path.{refl}
use Rattle.std.proofs.Common.{sym, ap, ◌∙◌, subst, arith}
use borrow.Author.Tests.{leb-true, le-leb}
use Rattle.std.proofs.Math.ListN.{length}
use Rattle.lex.specs.Token.{Bytes, Token, lexeme}
use Rattle.lex.specs.Script as lex
use Rattle.lex.specs.Script.{script_limit, lex_of}
use Rattle.lex.proofs.Theorems.{ample_room_suffices, same_tokens}
use Rattle.lex.proofs.Derivation.{derived}
use Rattle.spelling.specs.Spell.{spell}
use Rattle.spelling.specs.Lexemes.{AllFormed, lexemes, Spells}
use Rattle.spelling.proofs.SpellingLexes.{spelled_lexes}
use Rattle.spelling.proofs.ScriptSpelling.{lexed_is_spelled, bytes_are_the_spelling}
use Rattle.tables.specs.Choose.{pick}
use Rattle.tables.specs.Tables.{flat}
use Rattle.tables.proofs.BoolLaws.{left_true}
use Rattle.standard.specs.Tree.{Tree, nil, ◌⊳◌, SameTree}
use Rattle.standard.specs.Written.{written}
use Rattle.standard.specs.Allowed.{allowed}
use Rattle.standard.specs.Types.{type_of, WellTypedB}
use Rattle.standard.specs.Table.{node_table, key_table, cells}
use Rattle.standard.specs.RowForm.{row_form}
use Rattle.standard.specs.Outcome.{Lengths, token_room, outcome_of}
use Rattle.standard.specs.Statements.{bares, AmpleLengths, WrittenWithTokens, HandedOut}
use Rattle.standard.proofs.Demand3.{accepted_exactly, accepted_is_handed_out, handed_out_type, handed_out_same_tree}
use Rattle.one_script.specs.SegwitSpelling.{segwit_free, free_spelling}
use Rattle.encoding.specs.Checks.{Found, found, refused}
use Rattle.encoding.specs.Encoding.{Outcome, writing, refusing, written_within, node_count, tree_in, encoded, encoding_of}
use Rattle.encoding.proofs.FoundLaws.{found_holding}
use Rattle.there_and_back.specs.Ranged.{TreeIn}
use Rattle.there_and_back.specs.FoundTrees.{stands_good}
use Rattle.there_and_back.specs.FormedLexemes.{written_formed}
use Rattle.there_and_back.specs.SpelledBytes.{spell_is_bytes, spell_length, size_by_bytes}
use Rattle.there_and_back.specs.ReadTables.{reads_back}
use Rattle.there_and_back.specs.ReadTrees.{tree_within, spelling_shortest}
use Rattle.there_and_back.specs.Numbers.{FoundNumbered, tree_numbered}

-- What is written: a tree that the node table holds, in canonical bytes
pub record Written (kind : ℕ) (nodes keys material : List ℕ) (work : ℕ) (output : List ℕ) : Type 0 where
  pub known_kind : kind ≤ 1
  pub tree : Tree
  pub holds : tree_in (eqb kind 0) nodes keys material ≡ found tree
  pub allowed_values : allowed (eqb kind 0) tree ≡ true
  pub well_typed : WellTypedB (eqb kind 0) tree
  pub within_material : TreeIn material tree
  pub short : length (spell (written tree)) ≤ script_limit
  pub enough : 8 * node_count nodes + 2 ≤ work
  pub room : length (spell (written tree)) ≤ length output
  pub outcome : encoding_of kind nodes keys material work output ≡ writing output work (spell (written tree))

module _ (kind : ℕ) (nodes keys material : List ℕ) (work : ℕ) (output : List ℕ) where
  abbrev segwit : Bool
  segwit = eqb kind 0

  abbrev Wrote : Outcome → Type 0
  Wrote o = o.answer.number ≡ 0 → encoding_of kind nodes keys material work output ≡ o → Written kind nodes keys material work output

  refused_wrote : (number reason : ℕ) → 1 ≤ number → Wrote (refusing output work number reason)
  refused_wrote number reason some n e = let no : ⊥ = omega arith in absurd no

  tree_wrote : kind ≤ 1 → (t : Tree) → tree_in segwit nodes keys material ≡ found t → Wrote (written_within (node_count nodes) work output (spell (written t)))
  tree_wrote k t f = by_length (leb (length (spell (written t))) script_limit) refl (leb (8 * node_count nodes + 2) work) refl (leb (length (spell (written t))) (length output)) refl
    where
      by_length : (a : Bool) → leb (length (spell (written t))) script_limit ≡ a → (b : Bool) → leb (8 * node_count nodes + 2) work ≡ b → (c : Bool) → leb (length (spell (written t))) (length output) ≡ c
          → Wrote (pick a (pick b (pick c (writing output work (spell (written t))) (refusing output work 22 0)) (refusing output work 17 0)) (refusing output work 1 0))
      by_length false x b v c y = refused_wrote 1 0 (omega arith)
      by_length true x false v c y = refused_wrote 17 0 (omega arith)
      by_length true x true v false y = refused_wrote 22 0 (omega arith)
      by_length true x true v true y = λ n e.
          let h = found_holding segwit nodes keys material t f in
          let g = stands_good segwit material keys h.stands in
          record {
            known_kind = k;
            tree = t;
            holds = f;
            allowed_values = left_true (allowed segwit t) true g.0;
            well_typed = h.well_typed;
            within_material = g.1.0;
            short = leb-true (length (spell (written t))) script_limit x;
            enough = leb-true (8 * node_count nodes + 2) work v;
            room = leb-true (length (spell (written t))) (length output) y;
            outcome = e;
          }

  found_wrote : kind ≤ 1 → (o : Found) → tree_in segwit nodes keys material ≡ o → FoundNumbered o → Wrote (encoded (node_count nodes) work output o)
  found_wrote k (found t) f s = tree_wrote k t f
  found_wrote k (refused number reason) f s = refused_wrote number reason s

  kind_wrote : (b : Bool) → leb kind 1 ≡ b → Wrote (pick b (encoded (node_count nodes) work output (tree_in segwit nodes keys material)) (refusing output work 20 0))
  kind_wrote true e = found_wrote (leb-true kind 1 e) (tree_in segwit nodes keys material) refl (tree_numbered segwit material keys nodes)
  kind_wrote false e = refused_wrote 20 0 (omega arith)

  -- What is accepted is a tree of base B, well typed and allowed, and its canonical bytes are written
  pub accepted_is_written : (encoding_of kind nodes keys material work output).answer.number ≡ 0 → Written kind nodes keys material work output
  unfolding encoding_of
  accepted_is_written n = kind_wrote (leb kind 1) refl n refl

  module _ (bytes : Bytes material) (w : Written kind nodes keys material work output) where
    abbrev script : List ℕ
    script = spell (written w.tree)

    formed : AllFormed (written w.tree)
    unfolding script_limit
    formed = written_formed material bytes segwit w.tree w.allowed_values w.within_material (omega (arith, size_by_bytes w.tree, w.short))

    -- What is written are bytes, and they lex to the written form of the tree
    pub written_is_bytes : Bytes script
    written_is_bytes = spell_is_bytes (written w.tree) formed

    pub written_lexes : (tokens : List Token) × (lex_of (2 * length script) script ≡ lex.tokens tokens) × (bares (map (lexeme script) tokens) ≡ bares (written w.tree))
    written_lexes = spelled_lexes (2 * length script) (written w.tree) formed w.short (spell_length (written w.tree))

    -- With ample tables the reader accepts what is written
    pub written_is_accepted : (lengths : Lengths) → AmpleLengths (length script) lengths → (outcome_of kind script lengths).answer.number ≡ 0
    written_is_accepted lengths ample =
        let l = written_lexes in
        (accepted_exactly kind script lengths written_is_bytes ample).1 (w.known_kind, (l.0, l.1, (w.tree, (sym l.2, (w.allowed_values, w.well_typed)))))

    -- and the tree that it finds has the same type and the same tokens; it is the same tree exactly where the given one has the form that the rows build
    pub written_is_read : (lengths : Lengths) → AmpleLengths (length script) lengths
        → (h : HandedOut kind script lengths) × (type_of segwit h.tree ≡ type_of segwit w.tree) × (bares (written h.tree) ≡ bares (written w.tree)) × (SameTree h.tree w.tree ↔ (row_form w.tree ≡ true))
    written_is_read lengths ample =
        let h : HandedOut kind script lengths = accepted_is_handed_out kind script lengths written_is_bytes (written_is_accepted lengths ample) in
        let l = written_lexes in
        let same : h.tokens ≡ l.0 = same_tokens (sym h.lexes ∙ ample_room_suffices (token_room lengths) script ample.0 ∙ l.1) in
        let lexemes-same : bares (written w.tree) ≡ bares (map (lexeme script) h.tokens) = sym l.2 ∙ ap (λ (ts : List Token). bares (map (lexeme script) ts)) (sym same) in
        let other : WrittenWithTokens segwit script h.tokens w.tree = (lexemes-same, (w.allowed_values, w.well_typed)) in
        (h, handed_out_type kind script lengths h w.tree other, ap bares h.written_with ∙ sym lexemes-same, handed_out_same_tree kind script lengths h w.tree other)

-- Back: what the reader handed out, encoded

module _ (kind : ℕ) (script : List ℕ) (lengths : Lengths) (bytes : Bytes script) (h : HandedOut kind script lengths) where
  abbrev nodes_read : List ℕ
  nodes_read = flat (map cells (node_table (eqb kind 0) (h.tree ⊳ nil)))

  abbrev keys_read : List ℕ
  keys_read = key_table (h.tree ⊳ nil)

  spelled : Spells (lexemes script h.tokens) script × AllFormed (lexemes script h.tokens)
  spelled = lexed_is_spelled (token_room lengths) script h.tokens bytes h.lexes

  -- the encoder finds the very tree
  pub read_is_found : tree_in (eqb kind 0) nodes_read keys_read script ≡ found h.tree
  read_is_found =
      reads_back (eqb kind 0) script h.tree h.allowed_values (tree_within script h.tree (subst AllFormed (sym h.written_with) spelled.1) h.of_script) h.well_typed

  -- the script is its canonical bytes, but for NUMEQUAL VERIFY
  pub read_is_spelled : Spells (written h.tree) script
  read_is_spelled = subst (λ ls. Spells ls script) (sym h.written_with) spelled.0

  -- Encoding what the reader found writes the tree's canonical bytes, where work table and output have room; the script itself is these bytes, but for NUMEQUAL VERIFY
  pub read_is_written : (work : ℕ) (output : List ℕ) → 8 * node_count nodes_read + 2 ≤ work → length script ≤ length output
      → (encoding_of kind nodes_read keys_read script work output ≡ writing output work (spell (written h.tree))) × Spells (written h.tree) script
  unfolding encoding_of
  read_is_written work output enough fits =
      let shorter : length (spell (written h.tree)) ≤ length script = spelling_shortest (written h.tree) script read_is_spelled in
      let limited : length script ≤ script_limit = (derived (token_room lengths) script h.tokens h.lexes).0 in (
        rw (le-leb kind 1 h.known_kind, read_is_found, le-leb (length (spell (written h.tree))) script_limit (omega arith), le-leb (8 * node_count nodes_read + 2) work enough, le-leb (length (spell (written h.tree))) (length output) (omega arith)),
        read_is_spelled,
      )

-- In kind 0 the script itself comes back
pub read_is_written_in_segwit : (script : List ℕ) (lengths : Lengths) → Bytes script → (h : HandedOut 0 script lengths) → spell (written h.tree) ≡ script
read_is_written_in_segwit script lengths bytes h =
    let s = spelled 0 script lengths bytes h in
    let f : AllFormed (written h.tree) = subst AllFormed (sym h.written_with) s.1 in
    sym (bytes_are_the_spelling (written h.tree) script (read_is_spelled 0 script lengths bytes h) (free_spelling (written h.tree) f (segwit_free h.tree h.allowed_values)))

-- An accepted node table, its key table and the material fix the bytes, whatever work table and output
pub table_fixes_bytes : (kind : ℕ) (nodes keys material : List ℕ) (work other : ℕ) (output another : List ℕ) (w : Written kind nodes keys material work output) (v : Written kind nodes keys material other another)
    → spell (written w.tree) ≡ spell (written v.tree)
table_fixes_bytes kind nodes keys material work other output another w v = ap (λ (t : Tree). spell (written t)) (same (sym w.holds ∙ v.holds))
  where
    same : {t u : Tree} → found t ≡ found u → t ≡ u
    same e = cc
