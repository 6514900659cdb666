-- The flat outcome with the records; that the nodes fit both tables; and the flat table whose front alone the decoder is lent. Assumes nothing.
-- Why the nodes fit: the table's length stays, and the nodes' numbers are a part of it.
use mathlib.Core.Path.{◌≡◌, refl, sym, ap, subst, ◌∙◌}
use mathlib.Core.Bool.{Bool, true, false}
use mathlib.Core.List.{List, [], ◌++◌, map, append-nil}
use Prim.Native.Nat.{ℕ, ◌+◌, ◌-◌, ◌*◌, ◌/◌, ◌≤◌, ◌<◌}
use native.Mathlib.Omega.{arith}
use lib.Dec.{eqb, leb}
use lib.ListN.{length, take, drop, length-append, length-map, length-replicate, length-drop, drop_of_length-le}
use lib.Seq.{length-take-le, take_at, drop_at}
use borrow.Author.Tests.{lt-ltb, le-ltb}
use Rattle.tables.specs.Choose.{pick}
use Rattle.tables.specs.Tables.{zeros, flat}
use Rattle.tables.proofs.FlatLaws.{strided_map, flat_length}
use Rattle.lex.specs.Token.{Token, lexeme}
use Rattle.lex.specs.Script as lex
use Rattle.lex.specs.Script.{lex_of}
use Rattle.standard.specs.Tree.{nil, ◌⊳◌}
use Rattle.standard.specs.Table as standard
use Rattle.standard.specs.Table.{cells, node_table, key_table}
use Rattle.standard.specs.Machine.{Verdict, accepted, refused, decode}
use Rattle.standard.specs.Outcome.{Lengths, Outcome, token_room, limits_of, accepting, judged, lexed, outcome_of}
use Rattle.judge.specs.declared.Node.{Node}
use Rattle.decode.specs.declared.Answer.{Answer}
use Rattle.decode.specs.Read.{lengths_of, outcome_at}
use Rattle.node_records.specs.Records.{record_table}
use Rattle.read_records.specs.RecordOutcome.{node_room, within, widened, outcome_within, with_records, record_outcome_at}

-- the records are copied from the flat table, as many as the answer has nodes
pub with_records_lem : (r : Answer) (tokens nodes keys work : List ℕ) (records : List Node) (n m : ℕ) (o : Outcome)
    → outcome_at r tokens nodes keys work ≡ o → n ≡ r.nodes → records ≡ record_table nodes n m → record_outcome_at r tokens nodes records keys work ≡ with_records m o
with_records_lem r tokens nodes keys work records n m o e d g =
    ap (λ (rs : List Node). record_outcome_at r tokens nodes rs keys work) (g ∙ ap (λ (k : ℕ). record_table nodes k m) d) ∙ ap (with_records m) e

-- what `copy_out` asks
pub inside : (count n cells size room : ℕ) → n ≡ count → size ≡ cells → (9 * count ≤ cells) × (count ≤ room) → (9 * n ≤ size) × (n ≤ room)
inside count n cells size room d l h = let a : 9 * count ≤ cells = h.0 in let b : count ≤ room = h.1 in (omega arith, omega arith)

-- the two ways in which `node_room` answers
pub by_records : (cells records : ℕ) → records < cells / 9 → (records ≡ node_room cells records) × ((9 * records ≤ cells) × (records ≤ records))
by_records cells records h = (simp (lt-ltb records (cells / 9) h), (omega (arith, h), omega arith))

pub by_cells : (cells records : ℕ) → cells / 9 ≤ records → (cells / 9 ≡ node_room cells records) × ((9 * (cells / 9) ≤ cells) × (cells / 9 ≤ records))
by_cells cells records h = (simp (le-ltb records (cells / 9) h), (omega arith, h))

-- the nodes of an outcome fit a table that is as long as it was

abbrev Fits : ℕ → Outcome → Type 0
Fits size o = length o.nodes ≡ size → 9 * o.answer.nodes ≤ size

none_fit : (size : ℕ) → 9 * 0 ≤ size
none_fit size = omega arith

fits_accepting : (lengths : Lengths) (tokens : List Token) (steps : ℕ) (nodes : List standard.Node) (keys : List ℕ) → Fits lengths.nodes (accepting lengths tokens steps nodes keys)
fits_accepting lengths tokens steps nodes keys e =
    let c : length (flat (map cells nodes)) ≡ 9 * length (map cells nodes) = flat_length 9 (map cells nodes) (strided_map 9 cells (λ n. refl) nodes) in
    let m : length (map cells nodes) ≡ length nodes = length-map nodes cells in
    let z : length (zeros (lengths.nodes - 9 * length nodes)) ≡ lengths.nodes - 9 * length nodes = length-replicate {A = ℕ} (lengths.nodes - 9 * length nodes) 0 in
    let s : length (flat (map cells nodes) ++ zeros (lengths.nodes - 9 * length nodes)) ≡ length (flat (map cells nodes)) + length (zeros (lengths.nodes - 9 * length nodes)) =
    length-append (flat (map cells nodes)) (zeros (lengths.nodes - 9 * length nodes)) in
    by_numbers (length nodes) (length (map cells nodes)) (length (flat (map cells nodes))) lengths.nodes (c ∙ ap (λ (k : ℕ). 9 * k) m) (sym e ∙ s ∙ ap (λ (k : ℕ). length (flat (map cells nodes)) + k) z)
  where
    by_numbers : (n k f size : ℕ) → f ≡ 9 * n → size ≡ f + (size - 9 * n) → 9 * n ≤ size
    by_numbers n k f size c e = omega (arith, c, e)

fits_judged : (segwit : Bool) (lengths : Lengths) (tokens : List Token) (steps : ℕ) (v : Verdict) → Fits lengths.nodes (judged segwit lengths tokens steps v)
fits_judged segwit lengths tokens steps (accepted t) = fits_accepting lengths tokens steps (node_table segwit (t ⊳ nil)) (key_table (t ⊳ nil))
fits_judged segwit lengths tokens steps (refused r) = λ e. none_fit lengths.nodes

fits_lexed : (segwit : Bool) (lengths : Lengths) (script : List ℕ) (o : lex.Outcome) → Fits lengths.nodes (lexed segwit lengths script o)
fits_lexed segwit lengths script (lex.refused number place) = λ e. none_fit lengths.nodes
fits_lexed segwit lengths script (lex.tokens tokens) =
    fits_judged segwit lengths tokens (decode segwit (limits_of lengths) (map (lexeme script) tokens)).steps (decode segwit (limits_of lengths) (map (lexeme script) tokens)).verdict

fits_pick : (size : ℕ) (b : Bool) (x y : Outcome) → Fits size x → Fits size y → Fits size (pick b x y)
fits_pick size true x y p q = p
fits_pick size false x y p q = q

nodes_fit : (kind : ℕ) (script : List ℕ) (lengths : Lengths) → Fits lengths.nodes (outcome_of kind script lengths)
unfolding outcome_of
nodes_fit kind script lengths = fits_pick lengths.nodes (leb kind 1) _ _ (fits_lexed (eqb kind 0) lengths script (lex_of (token_room lengths) script)) (λ e. none_fit lengths.nodes)

-- `clear_behind`

pub cleared_behind : (t cleared : List ℕ) (n : ℕ) → n ≤ length t → cleared ≡ zeros (length (take (length t - n) (drop n t))) → take n t ++ (cleared ++ drop (length t - n) (drop n t)) ≡ take n t ++ zeros (length t - n)
cleared_behind t cleared n h e =
    let d : length (drop n t) ≡ length t - n = length-drop n t in
    let l : length (take (length t - n) (drop n t)) ≡ length t - n = length-take-le (length t - n) (drop n t) (omega (arith, d)) in
    let short : length (drop n t) ≤ length t - n = omega (arith, d) in
    let none : drop (length t - n) (drop n t) ≡ [] = drop_of_length-le (drop n t) short in
    ap (λ (rest : List ℕ). take n t ++ (cleared ++ rest)) none ∙ ap (λ (rest : List ℕ). take n t ++ rest) (append-nil cleared ∙ e ∙ ap zeros l)

-- `read_within`

module _ (room : ℕ) (table cleared : List ℕ) (enough : 9 * room ≤ length table) (e : cleared ≡ take (9 * room) table ++ zeros (length table - 9 * room)) where
  front_length : length (take (9 * room) table) ≡ 9 * room
  front_length = length-take-le (9 * room) table enough

  pub lent_length : length (take (9 * room) cleared) ≡ 9 * room
  lent_length = ap (λ (l : List ℕ). length (take (9 * room) l)) e ∙ ap length (take_at (take (9 * room) table) (zeros (length table - 9 * room)) (9 * room) front_length) ∙ front_length

  pub zeros_behind : drop (9 * room) cleared ≡ zeros (length table - 9 * room)
  zeros_behind = ap (drop (9 * room)) e ∙ drop_at (take (9 * room) table) (zeros (length table - 9 * room)) (9 * room) front_length

pub within_is : (kind : ℕ) (script tokens table keys work cleared : List ℕ) (records room : ℕ) (r : Answer) (tokens' front keys' work' : List ℕ)
    → (room ≡ node_room (length table) records) × ((9 * room ≤ length table) × (room ≤ records)) → cleared ≡ take (9 * room) table ++ zeros (length table - 9 * room)
    → outcome_at r tokens' front keys' work' ≡ outcome_of kind script (lengths_of tokens (take (9 * room) cleared) keys work) → length front ≡ length (take (9 * room) cleared)
    → (outcome_at r tokens' (front ++ drop (9 * room) cleared) keys' work' ≡ outcome_within kind script (lengths_of tokens table keys work) records) × ((9 * r.nodes ≤ length table) × (r.nodes ≤ records))
unfolding outcome_within
within_is kind script tokens table keys work cleared records room r tokens' front keys' work' fit e o kept =
    let lengths : Lengths = lengths_of tokens table keys work in
    let enough : 9 * room ≤ length table = fit.1.0 in
    let few : room ≤ records = fit.1.1 in
    let l : length (take (9 * room) cleared) ≡ 9 * room = lent_length room table cleared enough e in
    let p : outcome_at r tokens' front keys' work' ≡ outcome_of kind script (within lengths (9 * room)) = o ∙ ap (λ (k : ℕ). outcome_of kind script (within lengths k)) l in
    let fits : 9 * r.nodes ≤ 9 * room = fitted kind script (within lengths (9 * room)) (outcome_at r tokens' front keys' work') p (kept ∙ l) in (
      ap (λ (rest : List ℕ). outcome_at r tokens' (front ++ rest) keys' work') (zeros_behind room table cleared enough e)
          ∙ ap (widened (length table - 9 * room)) p
          ∙ ap (λ (m : ℕ). widened (length table - 9 * m) (outcome_of kind script (within lengths (9 * m)))) fit.0,
      (omega (arith, fits, enough), omega (arith, fits, few)),
    )
  where
    fitted : (kind : ℕ) (script : List ℕ) (lengths : Lengths) (o : Outcome) → o ≡ outcome_of kind script lengths → length o.nodes ≡ lengths.nodes → 9 * o.answer.nodes ≤ lengths.nodes
    fitted kind script lengths o e = subst (Fits lengths.nodes) (sym e) (nodes_fit kind script lengths)
