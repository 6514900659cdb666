-- Worked examples, computed on the definitions: a script there and back, the four fused forms where they apply, and a case for each refusal.
use Rattle.std.specs.Prelude.{◌≡◌, refl, List, [], ◌∷◌, ◌++◌, ℕ, length}
use Rattle.correctness.specs.Rules.{cast_verify, and_v, threshold_child, threshold}
use Rattle.lex.specs.Script.{script_limit}
use Rattle.spelling.specs.Spell.{has_fused, fused_byte, digits, number_bytes, spell}
use Rattle.tables.specs.Tables.{zeros}
use Rattle.standard.specs.Written.{written}
use Rattle.standard.specs.Table.{terminal_of}
use Rattle.encoding.specs.Form.{well_formed}
use Rattle.encoding.specs.Values.{value_refusal}
use Rattle.encoding.specs.Encoding.{Outcome, refusing, tree_in, encoding_of}

-- the nodes of 1, of 0, and of v:1 and and_v(v:1,1)
abbrev one : List ℕ
one = 1 ∷ 0 ∷ 0 ∷ 0 ∷ 1 ∷ 1 ∷ 1 ∷ 0 ∷ 1 ∷ []

abbrev zero_node : List ℕ
zero_node = 2 ∷ 0 ∷ 0 ∷ 0 ∷ 1 ∷ 1 ∷ 1 ∷ 1 ∷ 1 ∷ []

abbrev verified_one : List ℕ
verified_one = 16 ∷ 0 ∷ 0 ∷ 0 ∷ 2 ∷ 3 ∷ 1 ∷ 0 ∷ 0 ∷ []

abbrev chain : List ℕ
chain = 19 ∷ 0 ∷ 0 ∷ 0 ∷ 4 ∷ 1 ∷ 1 ∷ 0 ∷ 1 ∷ []

-- thresh(1,0), and v: over it
abbrev thresh_one : List ℕ
thresh_one = 26 ∷ 1 ∷ 1 ∷ 0 ∷ 2 ∷ 1 ∷ 1 ∷ 1 ∷ 1 ∷ []

abbrev verified_thresh : List ℕ
verified_thresh = 16 ∷ 0 ∷ 0 ∷ 0 ∷ 3 ∷ 3 ∷ 1 ∷ 0 ∷ 0 ∷ []

abbrev chain_of_thresh : List ℕ
chain_of_thresh = 19 ∷ 0 ∷ 0 ∷ 0 ∷ 5 ∷ 1 ∷ 1 ∷ 0 ∷ 1 ∷ []

-- kind 0, no keys, no material, work for four nodes, an output of four bytes of junk
abbrev encode : List ℕ → Outcome
encode nodes = encoding_of 0 nodes [] [] 34 (9 ∷ 9 ∷ 9 ∷ 9 ∷ [])

abbrev writes : List ℕ → List ℕ → Outcome
writes bytes rest = record { answer = record { number = 0; reason = 0; place = 0; bytes = length bytes }; output = bytes ++ rest; work = zeros 34 }

abbrev refuses : ℕ → ℕ → Outcome
refuses number reason = refusing (9 ∷ 9 ∷ 9 ∷ 9 ∷ []) 34 number reason

-- `51`, and `516951`
written_one : encode one ≡ writes (0x51 ∷ []) (9 ∷ 9 ∷ 9 ∷ [])
unfolding script_limit has_fused fused_byte digits number_bytes spell written terminal_of well_formed value_refusal tree_in encoding_of cast_verify and_v threshold_child threshold
written_one = refl

written_chain : encode (one ++ one ++ verified_one ++ chain) ≡ writes (0x51 ∷ 0x69 ∷ 0x51 ∷ []) (9 ∷ [])
unfolding script_limit has_fused fused_byte digits number_bytes spell written terminal_of well_formed value_refusal tree_in encoding_of cast_verify and_v threshold_child threshold
written_chain = refl

-- EQUAL VERIFY is written as one opcode: `00518851`, for which five nodes need 42 work entries
written_fused : (encoding_of 0 (one ++ zero_node ++ thresh_one ++ verified_thresh ++ chain_of_thresh) [] [] 42 []).answer.number ≡ 22
unfolding script_limit has_fused fused_byte digits number_bytes spell written terminal_of well_formed value_refusal tree_in encoding_of cast_verify and_v threshold_child threshold
written_fused = refl

-- and with an output of its size
written_fused_bytes : (encoding_of 0 (one ++ zero_node ++ thresh_one ++ verified_thresh ++ chain_of_thresh) [] [] 42 (9 ∷ 9 ∷ 9 ∷ 9 ∷ [])).output ≡ 0x00 ∷ 0x51 ∷ 0x88 ∷ 0x51 ∷ []
unfolding script_limit has_fused fused_byte digits number_bytes spell written terminal_of well_formed value_refusal tree_in encoding_of cast_verify and_v threshold_child threshold
written_fused_bytes = refl

-- 17, one work entry less
too_little_work : (encoding_of 0 (one ++ zero_node ++ thresh_one ++ verified_thresh ++ chain_of_thresh) [] [] 41 []).answer.number ≡ 17
unfolding script_limit has_fused fused_byte digits number_bytes spell written terminal_of well_formed value_refusal tree_in encoding_of cast_verify and_v threshold_child threshold
too_little_work = refl

-- 20
unknown_script_kind : encoding_of 2 one [] [] 34 [] ≡ refusing [] 34 20 0
unfolding script_limit has_fused fused_byte digits number_bytes spell written terminal_of well_formed value_refusal tree_in encoding_of cast_verify and_v threshold_child threshold
unknown_script_kind = refl

-- 21: no node, an unknown kind, a zero node behind the tree, a number behind the last node
no_nodes : encode [] ≡ refuses 21 0
unfolding script_limit has_fused fused_byte digits number_bytes spell written terminal_of well_formed value_refusal tree_in encoding_of cast_verify and_v threshold_child threshold
no_nodes = refl

-- a key hash that never occurs
kind_four : encode (4 ∷ 0 ∷ 0 ∷ 0 ∷ 1 ∷ 2 ∷ 5 ∷ 1 ∷ 1 ∷ []) ≡ refuses 21 0
unfolding script_limit has_fused fused_byte digits number_bytes spell written terminal_of well_formed value_refusal tree_in encoding_of cast_verify and_v threshold_child threshold
kind_four = refl

-- a zero node
zero_behind : encode (one ++ zeros 9) ≡ refuses 21 0
unfolding script_limit has_fused fused_byte digits number_bytes spell written terminal_of well_formed value_refusal tree_in encoding_of cast_verify and_v threshold_child threshold
zero_behind = refl

-- a number
number_behind : encode (one ++ zeros 1) ≡ refuses 21 0
unfolding script_limit has_fused fused_byte digits number_bytes spell written terminal_of well_formed value_refusal tree_in encoding_of cast_verify and_v threshold_child threshold
number_behind = refl

-- a wrong size
wrong_size : encode (one ++ (16 ∷ 0 ∷ 0 ∷ 0 ∷ 1 ∷ 3 ∷ 1 ∷ 0 ∷ 0 ∷ [])) ≡ refuses 21 0
unfolding script_limit has_fused fused_byte digits number_bytes spell written terminal_of well_formed value_refusal tree_in encoding_of cast_verify and_v threshold_child threshold
wrong_size = refl

-- an unused number
unused_number : encode (1 ∷ 1 ∷ 0 ∷ 0 ∷ 1 ∷ 1 ∷ 1 ∷ 0 ∷ 1 ∷ []) ≡ refuses 21 0
unfolding script_limit has_fused fused_byte digits number_bytes spell written terminal_of well_formed value_refusal tree_in encoding_of cast_verify and_v threshold_child threshold
unused_number = refl

-- a key beyond the material
key_out_of_range : encode (3 ∷ 0 ∷ 0 ∷ 0 ∷ 1 ∷ 2 ∷ 4 ∷ 1 ∷ 1 ∷ []) ≡ refuses 21 0
unfolding script_limit has_fused fused_byte digits number_bytes spell written terminal_of well_formed value_refusal tree_in encoding_of cast_verify and_v threshold_child threshold
key_out_of_range = refl

-- two trees
two_roots : encode (one ++ one) ≡ refuses 21 0
unfolding script_limit has_fused fused_byte digits number_bytes spell written terminal_of well_formed value_refusal tree_in encoding_of cast_verify and_v threshold_child threshold
two_roots = refl

-- 11: a key of 33 zeros
key_form_lem : (encoding_of 0 (3 ∷ 0 ∷ 0 ∷ 0 ∷ 1 ∷ 2 ∷ 4 ∷ 1 ∷ 1 ∷ []) [] (zeros 33) 34 []).answer.number ≡ 11
unfolding script_limit has_fused fused_byte digits number_bytes spell written terminal_of well_formed value_refusal tree_in encoding_of cast_verify and_v threshold_child threshold
key_form_lem = refl

-- 12
no_locktime : encode (7 ∷ 0 ∷ 0 ∷ 0 ∷ 1 ∷ 1 ∷ 1 ∷ 0 ∷ 0 ∷ []) ≡ refuses 12 0
unfolding script_limit has_fused fused_byte digits number_bytes spell written terminal_of well_formed value_refusal tree_in encoding_of cast_verify and_v threshold_child threshold
no_locktime = refl

-- 13: thresh of 2 of 1
threshold_above : encode (zero_node ++ (26 ∷ 2 ∷ 1 ∷ 0 ∷ 2 ∷ 1 ∷ 1 ∷ 1 ∷ 1 ∷ [])) ≡ refuses 13 0
unfolding script_limit has_fused fused_byte digits number_bytes spell written terminal_of well_formed value_refusal tree_in encoding_of cast_verify and_v threshold_child threshold
threshold_above = refl

-- 13: thresh of none
no_children_lem : encode (26 ∷ 1 ∷ 0 ∷ 0 ∷ 1 ∷ 1 ∷ 1 ∷ 1 ∷ 1 ∷ []) ≡ refuses 13 0
unfolding script_limit has_fused fused_byte digits number_bytes spell written terminal_of well_formed value_refusal tree_in encoding_of cast_verify and_v threshold_child threshold
no_children_lem = refl

-- 14: v: over v:
rule_refuses : encode (one ++ verified_one ++ (16 ∷ 0 ∷ 0 ∷ 0 ∷ 3 ∷ 3 ∷ 1 ∷ 0 ∷ 0 ∷ [])) ≡ refuses 14 1
unfolding script_limit has_fused fused_byte digits number_bytes spell written terminal_of well_formed value_refusal tree_in encoding_of cast_verify and_v threshold_child threshold
rule_refuses = refl

-- 14 reason 13: 1 stored as dissatisfiable
stored_type_differs : encode (1 ∷ 0 ∷ 0 ∷ 0 ∷ 1 ∷ 1 ∷ 1 ∷ 1 ∷ 1 ∷ []) ≡ refuses 14 13
unfolding script_limit has_fused fused_byte digits number_bytes spell written terminal_of well_formed value_refusal tree_in encoding_of cast_verify and_v threshold_child threshold
stored_type_differs = refl

-- 19
top_is_not_b : encode (one ++ verified_one) ≡ refuses 19 0
unfolding script_limit has_fused fused_byte digits number_bytes spell written terminal_of well_formed value_refusal tree_in encoding_of cast_verify and_v threshold_child threshold
top_is_not_b = refl
