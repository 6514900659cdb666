-- Worked examples, computed on the definitions: document 01, "Scripts to try at the counter", the twelve before the bar as one table; a script that would need unit under d:; a refusal by each small table; and the form that the rows build.
use Rattle.std.specs.Prelude.{◌≡◌, refl, true, false, List, [], ◌∷◌, ◌++◌, map, ℕ, zero, suc, ◌+◌, ◌*◌, length, get_or, drop, replicate}
use Rattle.correctness.specs.Rules.{cast_alt, cast_swap, cast_check, cast_dupif, cast_verify, cast_nonzero, cast_zeronotequal, and_b, and_v, or_b, or_d, or_c, or_i, and_or, threshold_child, threshold}
use Rattle.lex.specs.Token.{data_length, lexeme, op, num, NOTIF, ELSE, ENDIF}
use Rattle.instruction.specs.Number.{minimal, number_of}
use Rattle.instruction.specs.Opcode.{ranged}
use Rattle.instruction.specs.Push.{small, pushed, has_opcode, push_of, sized_of}
use Rattle.instruction.specs.Instruction.{verify_refused, instruction_of}
use Rattle.lex.specs.Script.{script_limit, lex_of}
use Rattle.tables.specs.Tables.{zeros}
use Rattle.standard.specs.Tree.{Tree, True, False, leaf, wrap, join}
use Rattle.standard.specs.Tree as tree_of
use Rattle.standard.specs.Written.{written}
use Rattle.standard.specs.RowForm.{row_form}
use Rattle.standard.specs.Machine.{accepted, decode}
use Rattle.standard.specs.Outcome.{Lengths, Outcome, limits_of, outcome_of, ample_for}

-- what is told of a script: the answer's seven numbers, and each node's kind and type (base, input, d, u as four digits)
pub record Told : Type 0 where
  pub number : ℕ
  pub reason : ℕ
  pub place : ℕ
  pub tokens : ℕ
  pub steps : ℕ
  pub nodes : ℕ
  pub keys : ℕ
  pub kinds : List ℕ
  pub types : List ℕ

abbrev pub kinds_in : ℕ → List ℕ → List ℕ
kinds_in zero table = []
kinds_in (suc n) table = get_or table 0 0 ∷ kinds_in n (drop 9 table)

abbrev pub types_in : ℕ → List ℕ → List ℕ
types_in zero table = []
types_in (suc n) table = (1000 * get_or table 5 0 + 100 * get_or table 6 0 + 10 * get_or table 7 0 + get_or table 8 0) ∷ types_in n (drop 9 table)

abbrev pub told_of : Outcome → Told
told_of o =
    record {
      number = o.answer.number;
      reason = o.answer.reason;
      place = o.answer.place;
      tokens = o.answer.tokens;
      steps = o.answer.steps;
      nodes = o.answer.nodes;
      keys = o.answer.keys;
      kinds = kinds_in o.answer.nodes o.nodes;
      types = types_in o.answer.nodes o.nodes;
    }

-- kind 0, ample tables
abbrev pub read : List ℕ → Told
read script = told_of (outcome_of 0 script (ample_for (length script)))

abbrev pub tree : ℕ → ℕ → List ℕ → List ℕ → Told
tree tokens steps kinds types = record { number = 0; reason = 0; place = 0; tokens = tokens; steps = steps; nodes = length kinds; keys = 0; kinds = kinds; types = types }

abbrev pub no : ℕ → ℕ → ℕ → ℕ → ℕ → Told
no number reason place tokens steps = record { number = number; reason = reason; place = place; tokens = tokens; steps = steps; nodes = 0; keys = 0; kinds = []; types = [] }

pub record Example : Type 0 where
  pub script : List ℕ
  pub told : Told

abbrev pub example : List ℕ → Told → Example
example script told = record { script = script; told = told }

-- a tree with its tokens, steps, kinds and types; or a refusal's number, reason, place, tokens and steps
abbrev pub twelve : List Example
twelve =
    example [] (no 9 0 0 0 1)
    ∷ example (0x51 ∷ []) (tree 1 2 (1 ∷ []) (1101 ∷ []))
    ∷ example (0x51 ∷ 0x69 ∷ 0x51 ∷ []) (tree 3 6 (1 ∷ 1 ∷ 16 ∷ 19 ∷ []) (1101 ∷ 1101 ∷ 3100 ∷ 1101 ∷ []))
    ∷ example (0x51 ∷ 0x69 ∷ 0x51 ∷ 0x69 ∷ 0x51 ∷ []) (tree 5 12 (1 ∷ 1 ∷ 16 ∷ 1 ∷ 16 ∷ 19 ∷ 19 ∷ []) (1101 ∷ 1101 ∷ 3100 ∷ 1101 ∷ 3100 ∷ 3100 ∷ 1101 ∷ []))
    ∷ example (0x63 ∷ 0x51 ∷ 0x67 ∷ 0x00 ∷ 0x68 ∷ []) (tree 5 8 (2 ∷ 1 ∷ 25 ∷ []) (1111 ∷ 1101 ∷ 1211 ∷ []))
    ∷ example (0x51 ∷ 0x7c ∷ 0x51 ∷ 0x9b ∷ []) (no 14 3 1 4 5)
    ∷ example (0x00 ∷ 0x51 ∷ 0x87 ∷ []) (tree 3 5 (2 ∷ 26 ∷ []) (1111 ∷ 1111 ∷ []))
    ∷ example (0x00 ∷ 0x52 ∷ 0x87 ∷ []) (no 13 0 0 3 4)
    ∷ example (0x63 ∷ 0x51 ∷ []) (no 18 0 0 2 2)
    ∷ example (0x87 ∷ 0x69 ∷ []) (no 7 0 1 0 0)
    ∷ example (0x00 ∷ 0xb2 ∷ []) (no 12 0 0 2 1)
    ∷ example (0x76 ∷ 0x63 ∷ 0x51 ∷ 0x69 ∷ 0x68 ∷ []) (tree 5 8 (1 ∷ 16 ∷ 15 ∷ []) (1101 ∷ 3100 ∷ 1410 ∷ []))
    ∷ []

pub twelve_told : map (λ (e : Example). read e.script) twelve ≡ map (λ (e : Example). e.told) twelve
unfolding outcome_of decode lex_of script_limit instruction_of verify_refused push_of sized_of pushed has_opcode small minimal number_of ranged lexeme data_length cast_alt cast_swap cast_check cast_dupif cast_verify cast_nonzero cast_zeronotequal and_b and_v or_b or_d or_c or_i and_or threshold_child threshold
twelve_told = refl

-- the kinds that the twelve leave out, in kind 0
abbrev pub hash20 : List ℕ
hash20 = replicate 20 0xaa

abbrev pub hash32 : List ℕ
hash32 = replicate 32 0xbb

abbrev pub key33 : List ℕ
key33 = 0x02 ∷ replicate 32 0xcc

abbrev pub more : List Example
more =
    -- and_v(or_c(0,v:1),1)
    example (0x00 ∷ 0x64 ∷ 0x51 ∷ 0x69 ∷ 0x68 ∷ 0x51 ∷ []) (tree 6 12 (1 ∷ 1 ∷ 16 ∷ 2 ∷ 24 ∷ 19 ∷ []) (1101 ∷ 1101 ∷ 3100 ∷ 1111 ∷ 3100 ∷ 1101 ∷ []))
    -- or_d(0,1)
    ∷ example (0x00 ∷ 0x73 ∷ 0x64 ∷ 0x51 ∷ 0x68 ∷ []) (tree 5 8 (1 ∷ 2 ∷ 23 ∷ []) (1101 ∷ 1111 ∷ 1101 ∷ []))
    -- andor(0,1,0): Y, Z, X
    ∷ example (0x00 ∷ 0x64 ∷ 0x00 ∷ 0x67 ∷ 0x51 ∷ 0x68 ∷ []) (tree 6 10 (1 ∷ 2 ∷ 2 ∷ 21 ∷ []) (1101 ∷ 1111 ∷ 1111 ∷ 1111 ∷ []))
    -- and_b(1,a:1), or_b(0,a:0)
    ∷ example (0x51 ∷ 0x6b ∷ 0x51 ∷ 0x6c ∷ 0x9a ∷ []) (tree 5 8 (1 ∷ 12 ∷ 1 ∷ 20 ∷ []) (1101 ∷ 4301 ∷ 1101 ∷ 1301 ∷ []))
    ∷ example (0x00 ∷ 0x6b ∷ 0x00 ∷ 0x6c ∷ 0x9b ∷ []) (tree 5 8 (2 ∷ 12 ∷ 2 ∷ 22 ∷ []) (1111 ∷ 4311 ∷ 1111 ∷ 1311 ∷ []))
    -- thresh(1,0,a:0,a:0)
    ∷ example (0x00 ∷ 0x6b ∷ 0x00 ∷ 0x6c ∷ 0x93 ∷ 0x6b ∷ 0x00 ∷ 0x6c ∷ 0x93 ∷ 0x51 ∷ 0x87 ∷ []) (tree 11 15 (2 ∷ 12 ∷ 2 ∷ 12 ∷ 2 ∷ 26 ∷ []) (1111 ∷ 4311 ∷ 1111 ∷ 4311 ∷ 1111 ∷ 1311 ∷ []))
    -- n:1
    ∷ example (0x51 ∷ 0x92 ∷ []) (tree 2 4 (1 ∷ 18 ∷ []) (1101 ∷ 1101 ∷ []))
    -- c:pk_k, c: of a raw key hash
    ∷ example (0x21 ∷ (key33 ++ (0xac ∷ []))) (tree 2 4 (3 ∷ 14 ∷ []) (2411 ∷ 1411 ∷ []))
    ∷ example (0x76 ∷ 0xa9 ∷ 0x14 ∷ (hash20 ++ (0x88 ∷ 0xac ∷ []))) (tree 6 4 (5 ∷ 14 ∷ []) (2511 ∷ 1511 ∷ []))
    -- j:c:pk_k
    ∷ example (0x82 ∷ 0x92 ∷ 0x63 ∷ 0x21 ∷ (key33 ++ (0xac ∷ 0x68 ∷ []))) (tree 6 8 (3 ∷ 14 ∷ 17 ∷ []) (2411 ∷ 1411 ∷ 1411 ∷ []))
    -- the four hash locks, and two under v:
    ∷ example (0x82 ∷ 0x01 ∷ 0x20 ∷ 0x88 ∷ 0xa8 ∷ 0x20 ∷ (hash32 ++ (0x87 ∷ []))) (tree 7 2 (8 ∷ []) (1411 ∷ []))
    ∷ example (0x82 ∷ 0x01 ∷ 0x20 ∷ 0x88 ∷ 0xaa ∷ 0x20 ∷ (hash32 ++ (0x87 ∷ []))) (tree 7 2 (9 ∷ []) (1411 ∷ []))
    ∷ example (0x82 ∷ 0x01 ∷ 0x20 ∷ 0x88 ∷ 0xa6 ∷ 0x14 ∷ (hash20 ++ (0x87 ∷ []))) (tree 7 2 (10 ∷ []) (1411 ∷ []))
    ∷ example (0x82 ∷ 0x01 ∷ 0x20 ∷ 0x88 ∷ 0xa9 ∷ 0x14 ∷ (hash20 ++ (0x87 ∷ []))) (tree 7 2 (11 ∷ []) (1411 ∷ []))
    ∷ example (0x82 ∷ 0x01 ∷ 0x20 ∷ 0x88 ∷ 0xa9 ∷ 0x14 ∷ (hash20 ++ (0x88 ∷ 0x51 ∷ []))) (tree 9 5 (1 ∷ 11 ∷ 16 ∷ 19 ∷ []) (1101 ∷ 1411 ∷ 3400 ∷ 1401 ∷ []))
    ∷ example (0x82 ∷ 0x01 ∷ 0x20 ∷ 0x88 ∷ 0xa8 ∷ 0x20 ∷ (hash32 ++ (0x88 ∷ 0x51 ∷ []))) (tree 9 5 (1 ∷ 8 ∷ 16 ∷ 19 ∷ []) (1101 ∷ 1411 ∷ 3400 ∷ 1401 ∷ []))
    -- after(5), older(5)
    ∷ example (0x55 ∷ 0xb1 ∷ []) (tree 2 2 (6 ∷ []) (1100 ∷ []))
    ∷ example (0x55 ∷ 0xb2 ∷ []) (tree 2 2 (7 ∷ []) (1100 ∷ []))
    -- pk_k alone: its base is K
    ∷ example (0x21 ∷ key33) (no 19 0 0 1 2)
    -- a 33-byte key that begins 04, a 65-byte one, a 32-byte one
    ∷ example (0x21 ∷ 0x04 ∷ hash32) (no 11 0 0 1 1)
    ∷ example (0x41 ∷ replicate 65 0x02) (no 11 0 0 1 1)
    ∷ example (0x20 ∷ hash32) (no 11 0 0 1 1)
    -- multi of 0 keys: its n is tested first; multi_a has no allowed key here
    ∷ example (0x00 ∷ 0x00 ∷ 0xae ∷ []) (no 13 0 1 3 1)
    ∷ example (0x20 ∷ (hash32 ++ (0xac ∷ 0x51 ∷ 0x9c ∷ []))) (no 11 0 0 4 1)
    ∷ []

pub more_told : map (λ (e : Example). read e.script) more ≡ map (λ (e : Example). e.told) more
unfolding outcome_of decode lex_of script_limit instruction_of verify_refused push_of sized_of pushed has_opcode small minimal number_of ranged lexeme data_length cast_alt cast_swap cast_check cast_dupif cast_verify cast_nonzero cast_zeronotequal and_b and_v or_b or_d or_c or_i and_or threshold_child threshold
more_told = refl

-- a multi of two keys: their offsets in script order
pub two_of_two : outcome_of 0 (0x52 ∷ 0x21 ∷ (key33 ++ (0x21 ∷ (key33 ++ (0x52 ∷ 0xae ∷ []))))) (record { tokens = 15; nodes = 9; keys = 3; work = 2 }) ≡ record {
  answer = record { number = 0; reason = 0; place = 0; tokens = 5; steps = 2; nodes = 1; keys = 2 };
  tokens = 28 ∷ 2 ∷ 0 ∷ 31 ∷ 0 ∷ 1 ∷ 31 ∷ 0 ∷ 35 ∷ 28 ∷ 2 ∷ 69 ∷ 8 ∷ 0 ∷ 70 ∷ [];
  nodes = 27 ∷ 2 ∷ 2 ∷ 0 ∷ 1 ∷ 1 ∷ 5 ∷ 1 ∷ 1 ∷ [];
  keys = 2 ∷ 36 ∷ 0 ∷ [];
  work = 0 ∷ 0 ∷ [];
}
unfolding outcome_of decode lex_of script_limit instruction_of verify_refused push_of sized_of pushed has_opcode small minimal number_of ranged lexeme data_length cast_alt cast_swap cast_check cast_dupif cast_verify cast_nonzero cast_zeronotequal and_b and_v or_b or_d or_c or_i and_or threshold_child threshold
two_of_two = refl

-- a multi_a of two keys, in kind 1
pub two_of_two_a : outcome_of 1 (0x20 ∷ (hash32 ++ (0xac ∷ 0x20 ∷ (hash32 ++ (0xba ∷ 0x52 ∷ 0x9c ∷ []))))) (record { tokens = 18; nodes = 9; keys = 2; work = 2 }) ≡ record {
  answer = record { number = 0; reason = 0; place = 0; tokens = 6; steps = 2; nodes = 1; keys = 2 };
  tokens = 30 ∷ 0 ∷ 0 ∷ 6 ∷ 0 ∷ 33 ∷ 30 ∷ 0 ∷ 34 ∷ 7 ∷ 0 ∷ 67 ∷ 28 ∷ 2 ∷ 68 ∷ 5 ∷ 0 ∷ 69 ∷ [];
  nodes = 28 ∷ 2 ∷ 2 ∷ 0 ∷ 1 ∷ 1 ∷ 3 ∷ 1 ∷ 1 ∷ [];
  keys = 1 ∷ 35 ∷ [];
  work = 0 ∷ 0 ∷ [];
}
unfolding outcome_of decode lex_of script_limit instruction_of verify_refused push_of sized_of pushed has_opcode small minimal number_of ranged lexeme data_length cast_alt cast_swap cast_check cast_dupif cast_verify cast_nonzero cast_zeronotequal and_b and_v or_b or_d or_c or_i and_or threshold_child threshold
two_of_two_a = refl

-- `766351696873645168` is or_d of d:v:1 and 1: d: gives no unit, in either kind
abbrev pub dup_if_unit : List ℕ
dup_if_unit = 0x76 ∷ 0x63 ∷ 0x51 ∷ 0x69 ∷ 0x68 ∷ 0x73 ∷ 0x64 ∷ 0x51 ∷ 0x68 ∷ []

pub no_unit_in_segwit : told_of (outcome_of 0 dup_if_unit (ample_for 9)) ≡ no 14 8 0 9 13
unfolding outcome_of decode lex_of script_limit instruction_of verify_refused push_of sized_of pushed has_opcode small minimal number_of ranged lexeme data_length cast_alt cast_swap cast_check cast_dupif cast_verify cast_nonzero cast_zeronotequal and_b and_v or_b or_d or_c or_i and_or threshold_child threshold
no_unit_in_segwit = refl

pub no_unit_in_tapscript : told_of (outcome_of 1 dup_if_unit (ample_for 9)) ≡ no 14 8 0 9 13
unfolding outcome_of decode lex_of script_limit instruction_of verify_refused push_of sized_of pushed has_opcode small minimal number_of ranged lexeme data_length cast_alt cast_swap cast_check cast_dupif cast_verify cast_nonzero cast_zeronotequal and_b and_v or_b or_d or_c or_i and_or threshold_child threshold
no_unit_in_tapscript = refl

-- a script kind that is neither 0 nor 1
pub no_such_kind : told_of (outcome_of 2 (0x51 ∷ []) (ample_for 1)) ≡ no 20 0 0 0 0
unfolding outcome_of
no_such_kind = refl

-- tables for so many tokens, nodes, keys and work entries
abbrev pub tables : ℕ → ℕ → ℕ → ℕ → Lengths
tables tokens nodes keys work = record { tokens = 3 * tokens; nodes = 9 * nodes; keys = keys; work = work }

-- the script of document 01's listing
abbrev pub or_of_two : List ℕ
or_of_two = 0x63 ∷ 0x51 ∷ 0x67 ∷ 0x00 ∷ 0x68 ∷ []

-- no room for the last token: 8
pub small_tokens : told_of (outcome_of 0 or_of_two (tables 4 12 5 82)) ≡ no 8 0 4 0 0
unfolding outcome_of decode lex_of script_limit instruction_of verify_refused push_of sized_of pushed has_opcode small minimal number_of ranged lexeme data_length cast_alt cast_swap cast_check cast_dupif cast_verify cast_nonzero cast_zeronotequal and_b and_v or_b or_d or_c or_i and_or threshold_child threshold
small_tokens = refl

-- no room for the third node, or_i, which is made when IF is taken: 15
pub small_nodes : told_of (outcome_of 0 or_of_two (tables 5 2 0 4)) ≡ no 15 0 0 5 7
unfolding outcome_of decode lex_of script_limit instruction_of verify_refused push_of sized_of pushed has_opcode small minimal number_of ranged lexeme data_length cast_alt cast_swap cast_check cast_dupif cast_verify cast_nonzero cast_zeronotequal and_b and_v or_b or_d or_c or_i and_or threshold_child threshold
small_nodes = refl

-- no room for the three entries of ENDIF over MaybeAndV: 17
pub small_work : told_of (outcome_of 0 or_of_two (tables 5 3 0 3)) ≡ no 17 0 4 5 1
unfolding outcome_of decode lex_of script_limit instruction_of verify_refused push_of sized_of pushed has_opcode small minimal number_of ranged lexeme data_length cast_alt cast_swap cast_check cast_dupif cast_verify cast_nonzero cast_zeronotequal and_b and_v or_b or_d or_c or_i and_or threshold_child threshold
small_work = refl

-- no room for the two entries at the start: 17, at place 0
pub small_start : told_of (outcome_of 0 or_of_two (tables 5 3 0 1)) ≡ no 17 0 0 5 0
unfolding outcome_of decode lex_of script_limit instruction_of verify_refused push_of sized_of pushed has_opcode small minimal number_of ranged lexeme data_length cast_alt cast_swap cast_check cast_dupif cast_verify cast_nonzero cast_zeronotequal and_b and_v or_b or_d or_c or_i and_or threshold_child threshold
small_start = refl

-- multi of one key
abbrev pub one_of_one : List ℕ
one_of_one = 0x51 ∷ 0x21 ∷ 0x02 ∷ (replicate 32 0 ++ (0x51 ∷ 0xae ∷ []))

-- no room for its key, nor for its node: 16, at its k
pub small_keys : told_of (outcome_of 0 one_of_one (tables 4 0 0 2)) ≡ no 16 0 0 4 1
unfolding outcome_of decode lex_of script_limit instruction_of verify_refused push_of sized_of pushed has_opcode small minimal number_of ranged lexeme data_length cast_alt cast_swap cast_check cast_dupif cast_verify cast_nonzero cast_zeronotequal and_b and_v or_b or_d or_c or_i and_or threshold_child threshold
small_keys = refl

-- with just enough room everywhere: the node, and the key's offset
pub just_enough : outcome_of 0 one_of_one (tables 4 1 1 2) ≡ record {
  answer = record { number = 0; reason = 0; place = 0; tokens = 4; steps = 2; nodes = 1; keys = 1 };
  tokens = 28 ∷ 1 ∷ 0 ∷ 31 ∷ 0 ∷ 1 ∷ 28 ∷ 1 ∷ 35 ∷ 8 ∷ 0 ∷ 36 ∷ [];
  nodes = 27 ∷ 1 ∷ 1 ∷ 0 ∷ 1 ∷ 1 ∷ 5 ∷ 1 ∷ 1 ∷ [];
  keys = 2 ∷ [];
  work = 0 ∷ 0 ∷ [];
}
unfolding outcome_of decode lex_of script_limit instruction_of verify_refused push_of sized_of pushed has_opcode small minimal number_of ranged lexeme data_length cast_alt cast_swap cast_check cast_dupif cast_verify cast_nonzero cast_zeronotequal and_b and_v or_b or_d or_c or_i and_or threshold_child threshold
just_enough = refl

-- the nodes of document 01's listing, and room for one more
pub listed : (outcome_of 0 or_of_two (tables 5 4 0 4)).nodes ≡
    2 ∷ 0 ∷ 0 ∷ 0 ∷ 1 ∷ 1 ∷ 1 ∷ 1 ∷ 1 ∷ 1 ∷ 0 ∷ 0 ∷ 0 ∷ 1 ∷ 1 ∷ 1 ∷ 0 ∷ 1 ∷ 25 ∷ 0 ∷ 0 ∷ 0 ∷ 3 ∷ 1 ∷ 2 ∷ 1 ∷ 1 ∷ zeros 9
unfolding outcome_of decode lex_of script_limit instruction_of verify_refused push_of sized_of pushed has_opcode small minimal number_of ranged lexeme data_length cast_alt cast_swap cast_check cast_dupif cast_verify cast_nonzero cast_zeronotequal and_b and_v or_b or_d or_c or_i and_or threshold_child threshold
listed = refl

-- the last node of thresh(1,0,a:0,a:0): three children, six nodes
pub thresh_node : drop 45 (outcome_of 0 (0x00 ∷ 0x6b ∷ 0x00 ∷ 0x6c ∷ 0x93 ∷ 0x6b ∷ 0x00 ∷ 0x6c ∷ 0x93 ∷ 0x51 ∷ 0x87 ∷ []) (tables 11 6 0 10)).nodes ≡ 26 ∷ 1 ∷ 3 ∷ 0 ∷ 6 ∷ 1 ∷ 3 ∷ 1 ∷ 1 ∷ []
unfolding outcome_of decode lex_of script_limit instruction_of verify_refused push_of sized_of pushed has_opcode small minimal number_of ranged lexeme data_length cast_alt cast_swap cast_check cast_dupif cast_verify cast_nonzero cast_zeronotequal and_b and_v or_b or_d or_c or_i and_or threshold_child threshold
thresh_node = refl

-- andor(0,1,0) is written 0 NOTIF 0 ELSE 1 ENDIF
pub and_or_written : written (tree_of.and_or (leaf False) (leaf True) (leaf False)) ≡ num 0 ∷ op NOTIF ∷ num 0 ∷ op ELSE ∷ num 1 ∷ op ENDIF ∷ []
unfolding written
and_or_written = refl

-- and_v(v:1,X)
abbrev after_one : Tree → Tree
after_one x = join tree_of.and_v (wrap tree_of.verify (leaf True)) x

-- n:and_v(v:1,1) has not the form that the rows build: its lexemes are read as and_v(v:1,n:1), which has it
pub under_n : row_form (wrap tree_of.zeroNotEqual (after_one (leaf True))) ≡ false
under_n = refl

pub floated_out_of_n : row_form (after_one (wrap tree_of.zeroNotEqual (leaf True))) ≡ true
floated_out_of_n = refl

pub floats_out_of_n : (decode true (limits_of (ample_for 4)) (written (wrap tree_of.zeroNotEqual (after_one (leaf True))))).verdict ≡ accepted (after_one (wrap tree_of.zeroNotEqual (leaf True)))
unfolding written decode cast_alt cast_swap cast_check cast_dupif cast_verify cast_nonzero cast_zeronotequal and_b and_v or_b or_d or_c or_i and_or threshold_child threshold
floats_out_of_n = refl

-- and_v(v:1,and_v(v:1,1)) has it neither; or_i(and_v(v:1,1),0) has it, since IF stands before the and_v
pub nested_to_the_right : row_form (after_one (after_one (leaf True))) ≡ false
nested_to_the_right = refl

pub under_or_i : row_form (join tree_of.or_i (after_one (leaf True)) (leaf False)) ≡ true
under_or_i = refl
