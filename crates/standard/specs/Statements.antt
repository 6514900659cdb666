-- What the theorems of proofs/ speak of, beside the definitions of the other files: room that is ample (document 01, "When the desk says no"), a tree that is written with tokens, what is accepted and what is handed out, the refusals for want of room, and where 01's types follow BIP 379's.
use Rattle.std.specs.Prelude.{◌≡◌, Bool, true, false, ◌&&◌, ◌||◌, not, List, map, ℕ, ◌+◌, ◌*◌, ◌≤◌, eqb}
use Rattle.std.proofs.Math.Option.{Option}
use Rattle.correctness.specs.Typed.{Typed}
use Rattle.correctness.specs.Rules.{given}
use Rattle.correctness.specs.Bip379.{Letters, letters_given}
use Rattle.lex.specs.Token.{Token, Lexeme, lexeme, bare}
use Rattle.lex.specs.Script as lex
use Rattle.lex.specs.Script.{lex_of}
use Rattle.standard.specs.Tree.{Wrapper, alt, swap, check, dupIf, verify, nonZero, zeroNotEqual, Tree, Trees, leaf, wrap, join, and_or, thresh, nil, ◌⊳◌}
use Rattle.standard.specs.Written.{written}
use Rattle.standard.specs.Allowed.{within, allowed}
use Rattle.standard.specs.Types.{WellTypedB}
use Rattle.standard.specs.Table.{node_table, key_table, TreeOf}
use Rattle.standard.specs.Machine.{Limits, accepted, ends, decode}
use Rattle.standard.specs.Outcome.{Lengths, token_room, limits_of, accepting, outcome_of}

-- Room

-- Ample for t tokens with d pushes
abbrev pub Ample : Limits → ℕ → ℕ → Type 0
Ample limits t d = (8 * t + 2 ≤ limits.work) × (2 * t ≤ limits.nodes) × (d ≤ limits.keys)

-- What is ample: document 01's "2b tokens, 4b nodes, b keys, 16b + 2 work entries", for b bytes
abbrev pub AmpleLengths : ℕ → Lengths → Type 0
AmpleLengths b lengths = (2 * b ≤ token_room lengths) × (4 * b ≤ (limits_of lengths).nodes) × (b ≤ (limits_of lengths).keys) × (16 * b + 2 ≤ (limits_of lengths).work)

-- none of 8, 15, 16, 17
abbrev pub NoRoomRefusal : ℕ → Type 0
NoRoomRefusal n = (within 15 n 17 || eqb n 8) ≡ false

-- Lexemes without their places
abbrev pub bares : List Lexeme → List Lexeme
bares l = map bare l

-- Written and accepted

-- a tree of base B, well typed and allowed, that is written with these lexemes
abbrev pub WrittenWith : Bool → List Lexeme → Tree → Type 0
WrittenWith segwit lexemes t = (written t ≡ lexemes) × ((allowed segwit t ≡ true) × WellTypedB segwit t)

abbrev pub Accepts : Bool → Limits → List Lexeme → Tree → Type 0
Accepts segwit limits lexemes t = (decode segwit limits lexemes).verdict ≡ accepted t

-- A tree of base B, well typed and allowed, written with these tokens of the script: "tokens are compared there by code, number and pushed bytes, whatever their places"
abbrev pub WrittenWithTokens : Bool → List ℕ → List Token → Tree → Type 0
WrittenWithTokens segwit script tokens t = (bares (written t) ≡ bares (map (lexeme script) tokens)) × ((allowed segwit t ≡ true) × WellTypedB segwit t)

-- What is handed out: the tables hold a tree that is written with exactly the script's tokens
pub record HandedOut (kind : ℕ) (script : List ℕ) (lengths : Lengths) : Type 0 where
  pub known_kind : kind ≤ 1
  pub tokens : List Token
  pub lexes : lex_of (token_room lengths) script ≡ lex.tokens tokens
  pub tree : Tree
  pub written_with : written tree ≡ map (lexeme script) tokens
  pub allowed_values : allowed (eqb kind 0) tree ≡ true
  pub well_typed : WellTypedB (eqb kind 0) tree
  pub of_script : TreeOf script tree
  pub steps : ℕ
  pub reads : decode (eqb kind 0) (limits_of lengths) (map (lexeme script) tokens) ≡ ends steps (accepted tree)
  pub outcome : outcome_of kind script lengths ≡ accepting lengths tokens steps (node_table (eqb kind 0) (tree ⊳ nil)) (key_table (tree ⊳ nil))

-- Types

-- 01's type in BIP 379's letters
abbrev pub letters_of : Typed → Option Letters
letters_of o = letters_given (given o)

-- where 01 follows BIP 379: anywhere but at a d: in tapscript
abbrev pub is_dup_if : Wrapper → Bool
is_dup_if alt = false
is_dup_if swap = false
is_dup_if check = false
is_dup_if dupIf = true
is_dup_if verify = false
is_dup_if nonZero = false
is_dup_if zeroNotEqual = false

abbrev mutual
  pub follows : Bool → Tree → Bool
  follows segwit (leaf l) = true
  follows segwit (wrap w x) = (segwit || not (is_dup_if w)) && follows segwit x
  follows segwit (join c x y) = follows segwit x && follows segwit y
  follows segwit (and_or x y z) = follows segwit x && (follows segwit y && follows segwit z)
  follows segwit (thresh k x xs) = follows segwit x && all_follow segwit xs

  pub all_follow : Bool → Trees → Bool
  all_follow segwit nil = true
  all_follow segwit (t ⊳ ts) = follows segwit t && all_follow segwit ts
