-- Two accepted scripts of one kind with the same tree are the same bytes, but for the one spelling that tokens don't fix: NUMEQUAL and VERIFY where NUMEQUALVERIFY may stand. In kind 0 that spelling never occurs.
-- Why: the same tree is written with the same lexemes whatever their places, and a script is the spelling of its lexemes.
use Rattle.std.specs.Prelude.{◌≡◌, true, List, ℕ}
use Rattle.lex.specs.Token.{Bytes}
use Rattle.spelling.specs.Spell.{spelling}
use Rattle.spelling.specs.Lexemes.{lexemes, Spells, NoNumEqualVerify}
use Rattle.spelling.proofs.ScriptSpelling.{lexed_is_spelled, same_lexemes_same_bytes, same_lexemes_same_script}
use Rattle.standard.specs.Tree.{SameTree}
use Rattle.standard.specs.Outcome.{Lengths, token_room}
use Rattle.standard.specs.Statements.{HandedOut}
use Rattle.standard.proofs.Demand3.{same_tree_same_tokens}
use Rattle.one_script.specs.SegwitSpelling.{free, segwit_free, free_spelling}

module _ (kind : ℕ) (script other : List ℕ) (lengths otherLengths : Lengths) (bytes : Bytes script) (otherBytes : Bytes other) (h : HandedOut kind script lengths) (g : HandedOut kind other otherLengths) where
  -- both are the spelling of the same lexemes, each but for NUMEQUAL VERIFY
  pub same_tree_same_bytes : SameTree h.tree g.tree → Spells (lexemes script h.tokens) script × Spells (lexemes script h.tokens) other
  same_tree_same_bytes e =
      same_lexemes_same_bytes (token_room lengths) (token_room otherLengths) script other h.tokens g.tokens bytes otherBytes h.lexes g.lexes (same_tree_same_tokens kind script other lengths otherLengths h g e)

  -- and the very same bytes where no NUMEQUALVERIFY is spelled
  pub same_tree_same_script : SameTree h.tree g.tree → NoNumEqualVerify (spelling (lexemes script h.tokens)) → script ≡ other
  same_tree_same_script e n =
      same_lexemes_same_script (token_room lengths) (token_room otherLengths) script other h.tokens g.tokens bytes otherBytes h.lexes g.lexes (same_tree_same_tokens kind script other lengths otherLengths h g e) n

-- In kind 0 there is no exception: two accepted scripts with the same tree are the same bytes
pub same_tree_same_segwit_script : (script other : List ℕ) (lengths otherLengths : Lengths) → Bytes script → Bytes other → (h : HandedOut 0 script lengths) (g : HandedOut 0 other otherLengths)
    → SameTree h.tree g.tree → script ≡ other
same_tree_same_segwit_script script other lengths otherLengths bytes otherBytes h g e =
    let f : free (lexemes script h.tokens) ≡ true = rw h.written_with at (segwit_free h.tree h.allowed_values) in
    same_tree_same_script 0 script other lengths otherLengths bytes otherBytes h g e
    (free_spelling (lexemes script h.tokens) (lexed_is_spelled (token_room lengths) script h.tokens bytes h.lexes).1 f)
