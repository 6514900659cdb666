-- What `room` answers is enough (crate lex, Room): in tables of just those sizes the reader finds what it finds in document 01's ample ones, the same answer and the same tokens, nodes and keys at the front (`room_reads_as_ample`), and 8, 15, 16 and 17 are never given (`room_never_refuses`). What `room` refuses, the reader refuses with the same number at the same place (`room_refuses_as_read`).
-- Why: limits that are ample never act, so two runs under such limits are one run (`decode_same` of Carried).
use Rattle.std.specs.Prelude.{◌≡◌, Bool, List, map, ℕ, ◌*◌, ◌≤◌, eqb, leb, length}
use Rattle.std.proofs.Math.Path.{refl, ap}
use Rattle.std.proofs.Common.{◌∙◌, arith, le-leb}
use Rattle.std.proofs.Math.Bool.{true, false}
use Rattle.std.proofs.lemmas.List.{length-map}
use Rattle.lex.specs.Token.{Bytes, Token, Lexeme, lexeme}
use Rattle.std.specs.Prelude.{Ok, Err}
use Rattle.lex.specs.declared.Refused.{Refused}
use Rattle.lex.specs.Script as lex
use Rattle.lex.specs.Script.{lex_of}
use Rattle.lex.specs.Script.{refusal}
use Rattle.lex.specs.Room.{Ample as Sized, sizes_for, room_for, room_of}
use Rattle.lex.proofs.Theorems.{tokens_at_most_twice, same_tokens_in_any_room, room_holds_the_tokens}
use Rattle.tables.specs.Choose.{pick}
use Rattle.standard.specs.Machine.{Verdict, accepted, refused, Run, decode}
use Rattle.standard.specs.Outcome.{Lengths, token_room, limits_of, refusing, place_of, judged, decoded, lexed, outcome_of, ample_for}
use Rattle.standard.proofs.Bound.{pushes, pushes_le}
use Rattle.standard.proofs.Carried.{decode_same}
use Rattle.standard.proofs.ScriptLaws.{pushes_at_most_bytes}
use Rattle.standard.proofs.Demand3.{ample_by_tokens}
use Rattle.standard.specs.RoomLaws.{lengths_for, Reading, reads, refuses, laid_out}
use Rattle.standard.specs.Statements.{Ample, NoRoomRefusal}

-- Proofs

verdict_read : List Token → ℕ → Verdict → Reading
verdict_read tokens steps (accepted t) = reads tokens steps t
verdict_read tokens steps (refused r) = refuses r.number r.reason (place_of tokens r) (length tokens) steps

judged_laid : (segwit : Bool) (lengths : Lengths) (tokens : List Token) (steps : ℕ) (v : Verdict) → judged segwit lengths tokens steps v ≡ laid_out segwit lengths (verdict_read tokens steps v)
unfolding verdict_read
judged_laid segwit lengths tokens steps (accepted t) = refl
judged_laid segwit lengths tokens steps (refused r) = refl

module _ (kind : ℕ) (script : List ℕ) (tokens : List Token) where
  abbrev lexemes : List Lexeme
  lexemes = map (lexeme script) tokens

  -- room for the tokens, and limits that are ample for them
  abbrev Enough : Lengths → Type 0
  Enough lengths = (length tokens ≤ token_room lengths) × Ample (limits_of lengths) (length lexemes) (pushes lexemes)

  kind_read : Bool → Run → Reading
  kind_read true run = verdict_read tokens run.steps run.verdict
  kind_read false run = refuses 20 0 0 0 0

  laid : (lengths : Lengths) (run : Run) → lex_of (token_room lengths) script ≡ lex.tokens tokens → decode (eqb kind 0) (limits_of lengths) lexemes ≡ run
      → outcome_of kind script lengths ≡ laid_out (eqb kind 0) lengths (kind_read (leb kind 1) run)
  unfolding outcome_of kind_read
  laid lengths run e d = by (leb kind 1)
    where
      by : (c : Bool) → pick c (lexed (eqb kind 0) lengths script (lex_of (token_room lengths) script)) (refusing lengths 20 0 0 0 0) ≡ laid_out (eqb kind 0) lengths (kind_read c run)
      by true =
          ap (lexed (eqb kind 0) lengths script) e
          ∙ ap (decoded (eqb kind 0) lengths tokens) d
          ∙ judged_laid (eqb kind 0) lengths tokens run.steps run.verdict
      by false = refl

  -- in any two tables that are large enough, one reading
  one_reading : (room : ℕ) → lex_of room script ≡ lex.tokens tokens → (lengths other : Lengths) → Enough lengths → Enough other
      → (x : Reading) × (outcome_of kind script lengths ≡ laid_out (eqb kind 0) lengths x) × (outcome_of kind script other ≡ laid_out (eqb kind 0) other x)
  one_reading room e lengths other h g =
      let run = decode (eqb kind 0) (limits_of lengths) lexemes in
      let p = same_tokens_in_any_room room (token_room lengths) script tokens e h.0 in
      let q = same_tokens_in_any_room room (token_room other) script tokens e g.0 in
      (kind_read (leb kind 1) run, laid lengths run p refl, laid other run q (decode_same (eqb kind 0) (limits_of other) (limits_of lengths) lexemes g.1 h.1))

  enough_by_bytes : (room : ℕ) → lex_of room script ≡ lex.tokens tokens → Enough (ample_for (length script))
  enough_by_bytes room e =
      let l : length lexemes ≡ length tokens = length-map tokens (lexeme script) in
      let t = tokens_at_most_twice room script tokens e in
      let p = pushes_at_most_bytes room script tokens e in
      (omega arith, (omega arith, omega arith, omega arith))

  enough_by_tokens : (t : ℕ) → length tokens ≡ t → Enough (lengths_for t)
  enough_by_tokens t e =
      let l : length lexemes ≡ length tokens = length-map tokens (lexeme script) in
      let p = pushes_le lexemes in
      (omega arith, (omega arith, omega arith, omega arith))

-- THEOREM: in tables of just the sizes that `room` answers, and in 01's ample ones, the reader finds one and the same: the answer, and what fills the front of each table
pub room_reads_as_ample : (kind : ℕ) (script : List ℕ) (t : ℕ) → room_of script ≡ sizes_for t
    → (x : Reading) × (outcome_of kind script (lengths_for t) ≡ laid_out (eqb kind 0) (lengths_for t) x) × (outcome_of kind script (ample_for (length script)) ≡ laid_out (eqb kind 0) (ample_for (length script)) x)
room_reads_as_ample kind script t e =
    let r = room_holds_the_tokens script t e in
    one_reading kind script r.0 t r.1 (lengths_for t) (ample_for (length script)) (enough_by_tokens kind script r.0 t r.2) (enough_by_bytes kind script r.0 t r.1)

-- THEOREM: in those tables 8, 15, 16 and 17 are never given
pub room_never_refuses : (kind : ℕ) (script : List ℕ) (t : ℕ) → Bytes script → room_of script ≡ sizes_for t → NoRoomRefusal (outcome_of kind script (lengths_for t)).answer.number
room_never_refuses kind script t b e =
    let r = room_holds_the_tokens script t e in
    let l : length r.0 ≡ t = r.2 in
    ample_by_tokens kind script (lengths_for t) b t r.0 r.1 (omega arith) (omega arith) (omega arith) (omega arith)

-- the number and place of a refusal of `room`
abbrev numbers_told : Sized → Refused
numbers_told (Ok sizes) = refusal 0 0
numbers_told (Err e) = e

refused_of : (o : lex.Outcome) (number place : ℕ) → room_for o ≡ Err (refusal number place) → o ≡ lex.refused number place
refused_of (lex.tokens ts) number place e = let z : ◌≡◌ {A = ℕ} 0 1 = cc in absurd (omega arith)
refused_of (lex.refused k q) number place e =
    ap (λ (n : ℕ). lex.refused n q) (ap (λ (a : Sized). (numbers_told a).number) e)
    ∙ ap (lex.refused number) (ap (λ (a : Sized). (numbers_told a).place) e)

-- THEOREM: what `room` refuses, the reader refuses with the same number at the same place, once the kind is known
pub room_refuses_as_read : (kind : ℕ) (script : List ℕ) (number place : ℕ) → kind ≤ 1 → room_of script ≡ Err (refusal number place)
    → outcome_of kind script (ample_for (length script)) ≡ refusing (ample_for (length script)) number 0 place 0 0
unfolding outcome_of room_of
room_refuses_as_read kind script number place k e =
    let z : token_room (ample_for (length script)) ≡ 2 * length script = omega arith in
    let f : lex_of (2 * length script) script ≡ lex.refused number place = refused_of (lex_of (2 * length script) script) number place e in
    rw (le-leb kind 1 k, z, f)
