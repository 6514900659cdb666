-- Eight digits show the low 32 bits of a number, and no table of the program holds 2^32 nodes or keys: so a listing from numbers of 32 bits is the listing. Assumes nothing.
use mathlib.Core.Path.{◌≡◌, refl, sym, ap, subst, ◌∙◌}
use mathlib.Core.Bool.{Bool, true, false}
use mathlib.Core.List.{List, [], ◌∷◌, ◌++◌, map}
use Prim.Native.Nat.{ℕ, suc, ◌-◌, ◌*◌, ◌/◌, ◌%◌, ◌≤◌}
use native.Mathlib.Omega.{arith}
use lib.Dec.{eqb, leb}
use lib.ListN.{length, length-append, length-map}
use Rattle.tables.specs.Choose.{pick}
use Rattle.tables.specs.Tables.{zeros, flat}
use Rattle.tables.proofs.FlatLaws.{flat_length, strided_map}
use Rattle.lex.specs.Script as lex
use Rattle.lex.specs.Script.{lex_of}
use Rattle.lex.specs.Token.{Token, lexeme}
use Rattle.standard.specs.Tree.{nil, ◌⊳◌}
use Rattle.standard.specs.Table.{Node, cells, node_table, key_table}
use Rattle.standard.specs.Machine.{Verdict, accepted, refused, decode}
use Rattle.standard.specs.Outcome as outcome
use Rattle.standard.specs.Outcome.{Lengths, Outcome, accepting, refusing, judged, lexed, limits_of, token_room, outcome_of}
use Rattle.decode.specs.declared.Answer.{Answer}
use Rattle.decode.specs.Read.{answer_of, outcome_at}
use Rattle.listing.specs.Digits.{glyph, digits}
use Rattle.listing.specs.Lines.{line, header_line, node_line, key_line}
use Rattle.listing.specs.Listing.{lines_from, listing}
use Rattle.reply.specs.Program.{header_of, desk_lengths}
use Rattle.reply.specs.Narrow.{narrowed}

-- the last digits, one after the other
one_more : (width m n : ℕ) → digits width (m / 16) ≡ digits width (n / 16) → m % 16 ≡ n % 16 → digits (suc width) m ≡ digits (suc width) n
one_more width m n front last =
    ap (λ (ds : List ℕ). ds ++ (glyph (m % 16) ∷ [])) front ∙ ap (λ (d : ℕ). digits width (n / 16) ++ (glyph d ∷ [])) last

narrow_1 : (n : ℕ) → digits 1 (n % 16) ≡ digits 1 n
narrow_1 n = one_more 0 (n % 16) n refl (omega arith)

narrow_2 : (n : ℕ) → digits 2 (n % 256) ≡ digits 2 n
narrow_2 n =
    let q : (n % 256) / 16 ≡ (n / 16) % 16 = omega arith in
    one_more 1 (n % 256) n (ap (digits 1) q ∙ narrow_1 (n / 16)) (omega arith)

narrow_3 : (n : ℕ) → digits 3 (n % 4096) ≡ digits 3 n
narrow_3 n =
    let q : (n % 4096) / 16 ≡ (n / 16) % 256 = omega arith in
    one_more 2 (n % 4096) n (ap (digits 2) q ∙ narrow_2 (n / 16)) (omega arith)

narrow_4 : (n : ℕ) → digits 4 (n % 65536) ≡ digits 4 n
narrow_4 n =
    let q : (n % 65536) / 16 ≡ (n / 16) % 4096 = omega arith in
    one_more 3 (n % 65536) n (ap (digits 3) q ∙ narrow_3 (n / 16)) (omega arith)

narrow_5 : (n : ℕ) → digits 5 (n % 1048576) ≡ digits 5 n
narrow_5 n =
    let q : (n % 1048576) / 16 ≡ (n / 16) % 65536 = omega arith in
    one_more 4 (n % 1048576) n (ap (digits 4) q ∙ narrow_4 (n / 16)) (omega arith)

narrow_6 : (n : ℕ) → digits 6 (n % 16777216) ≡ digits 6 n
narrow_6 n =
    let q : (n % 16777216) / 16 ≡ (n / 16) % 1048576 = omega arith in
    one_more 5 (n % 16777216) n (ap (digits 5) q ∙ narrow_5 (n / 16)) (omega arith)

narrow_7 : (n : ℕ) → digits 7 (n % 268435456) ≡ digits 7 n
narrow_7 n =
    let q : (n % 268435456) / 16 ≡ (n / 16) % 16777216 = omega arith in
    one_more 6 (n % 268435456) n (ap (digits 6) q ∙ narrow_6 (n / 16)) (omega arith)

narrow_8 : (n : ℕ) → digits 8 (n % 4294967296) ≡ digits 8 n
narrow_8 n =
    let q : (n % 4294967296) / 16 ≡ (n / 16) % 268435456 = omega arith in
    one_more 7 (n % 4294967296) n (ap (digits 7) q ∙ narrow_7 (n / 16)) (omega arith)

-- a header's line with its eight-digit words
abbrev words : ℕ → ℕ → List ℕ → List ℕ → List ℕ → List ℕ → List ℕ → List ℕ
words number reason place tokens steps nodes keys = line (digits 2 number ∷ digits 2 reason ∷ place ∷ tokens ∷ steps ∷ nodes ∷ keys ∷ [])

same_words : (number reason : ℕ) {p t s n k q u v m l : List ℕ} → p ≡ q → t ≡ u → s ≡ v → n ≡ m → k ≡ l → words number reason p t s n k ≡ words number reason q u v m l
same_words number reason {p} {t} {s} {n} {k} {q} {u} {v} {m} {l} a b c d e =
    ap (λ (x : List ℕ). words number reason x t s n k) a
    ∙ ap (λ (x : List ℕ). words number reason q x s n k) b
    ∙ ap (λ (x : List ℕ). words number reason q u x n k) c
    ∙ ap (λ (x : List ℕ). words number reason q u v x k) d
    ∙ ap (λ (x : List ℕ). words number reason q u v m x) e

narrowed_header : (a : Answer) → header_line (narrowed a) ≡ header_line (header_of (answer_of a))
unfolding header_line
narrowed_header a = same_words a.number a.reason (narrow_8 a.place) (narrow_8 a.tokens) (narrow_8 a.steps) (narrow_8 a.nodes) (narrow_8 a.keys)

-- an outcome whose tables have the lengths that were lent counts no more nodes and keys than these hold
abbrev Within : Lengths → Outcome → Type 0
Within lengths o = (length o.nodes ≡ lengths.nodes → o.answer.nodes ≤ lengths.nodes) × (length o.keys ≡ lengths.keys → o.answer.keys ≤ lengths.keys)

refused_within : (lengths : Lengths) (number reason place tokens steps : ℕ) → Within lengths (refusing lengths number reason place tokens steps)
refused_within lengths number reason place tokens steps = (λ e. omega arith, λ e. omega arith)

accepted_within : (lengths : Lengths) (tokens : List Token) (steps : ℕ) (nodes : List Node) (keys : List ℕ) → Within lengths (accepting lengths tokens steps nodes keys)
accepted_within lengths tokens steps nodes keys = (nodes_within, keys_within) where
  flat_nodes : length (flat (map cells nodes)) ≡ 9 * length nodes
  flat_nodes = flat_length 9 (map cells nodes) (strided_map 9 cells (λ n. refl) nodes) ∙ ap (λ (n : ℕ). 9 * n) (length-map nodes cells)

  nodes_within : length (flat (map cells nodes) ++ zeros (lengths.nodes - 9 * length nodes)) ≡ lengths.nodes → length nodes ≤ lengths.nodes
  nodes_within e =
      let l : _ = length-append (flat (map cells nodes)) (zeros (lengths.nodes - 9 * length nodes)) in
      omega (arith, l, flat_nodes, e)

  keys_within : length (keys ++ zeros (lengths.keys - length keys)) ≡ lengths.keys → length keys ≤ lengths.keys
  keys_within e =
      let l : _ = length-append keys (zeros (lengths.keys - length keys)) in
      omega (arith, l, e)

judged_within : (segwit : Bool) (lengths : Lengths) (tokens : List Token) (steps : ℕ) (v : Verdict) → Within lengths (judged segwit lengths tokens steps v)
judged_within segwit lengths tokens steps (accepted t) = accepted_within lengths tokens steps (node_table segwit (t ⊳ nil)) (key_table (t ⊳ nil))
judged_within segwit lengths tokens steps (refused r) = refused_within lengths r.number r.reason (outcome.place_of tokens r) (length tokens) steps

lexed_within : (segwit : Bool) (lengths : Lengths) (script : List ℕ) (o : lex.Outcome) → Within lengths (lexed segwit lengths script o)
lexed_within segwit lengths script (lex.refused number place) = refused_within lengths number 0 place 0 0
lexed_within segwit lengths script (lex.tokens tokens) =
    judged_within segwit lengths tokens (decode segwit (limits_of lengths) (map (lexeme script) tokens)).steps (decode segwit (limits_of lengths) (map (lexeme script) tokens)).verdict

picked_within : (lengths : Lengths) (b : Bool) (x y : Outcome) → Within lengths x → Within lengths y → Within lengths (pick b x y)
picked_within lengths true x y p q = p
picked_within lengths false x y p q = q

outcome_within_lem : (kind : ℕ) (script : List ℕ) (lengths : Lengths) → Within lengths (outcome_of kind script lengths)
unfolding outcome_of
outcome_within_lem kind script lengths =
    picked_within lengths (leb kind 1) _ _
    (lexed_within (eqb kind 0) lengths script (lex_of (token_room lengths) script))
    (refused_within lengths 20 0 0 0 0)

-- so the program's listing is that of the answer
pub narrowed_listing : (kind : ℕ) (script tokens nodes keys work : List ℕ) (a : Answer) → outcome_at a tokens nodes keys work ≡ outcome_of kind script desk_lengths
    → 4608 ≡ length nodes → 128 ≡ length keys → listing (narrowed a) nodes keys ≡ listing (header_of (answer_of a)) nodes keys
narrowed_listing kind script tokens nodes keys work a e n k =
    let w : Within desk_lengths (outcome_of kind script desk_lengths) = outcome_within_lem kind script desk_lengths in
    let few_nodes : a.nodes ≤ 4608 = subst (λ (o : Outcome). length o.nodes ≡ 4608 → o.answer.nodes ≤ 4608) (sym e) w.0 (sym n) in
    let few_keys : a.keys ≤ 128 = subst (λ (o : Outcome). length o.keys ≡ 128 → o.answer.keys ≤ 128) (sym e) w.1 (sym k) in
    let same_nodes : a.nodes % 4294967296 ≡ a.nodes = omega arith in
    let same_keys : a.keys % 4294967296 ≡ a.keys = omega arith in
    ap (λ (front : List ℕ). front ++ lines_from (node_line nodes) 0 (a.nodes % 4294967296) ++ lines_from (key_line keys) 0 (a.keys % 4294967296)) (narrowed_header a)
    ∙ ap (λ (m : ℕ). header_line (header_of (answer_of a)) ++ lines_from (node_line nodes) 0 m ++ lines_from (key_line keys) 0 (a.keys % 4294967296)) same_nodes
    ∙ ap (λ (m : ℕ). header_line (header_of (answer_of a)) ++ lines_from (node_line nodes) 0 a.nodes ++ lines_from (key_line keys) 0 m) same_keys
