-- The values of a well-formed node: document 01, "When the desk says no", numbers 11, 12 and 13, in the encoder's order "21, 11, 12, 13, 14".
use Rattle.std.specs.Prelude.{Bool, ◌&&◌, List, ℕ, leb}
use Rattle.lex.specs.Token.{data_at}
use Rattle.tables.specs.Choose.{pick}
use Rattle.standard.specs.Tree.{key}
use Rattle.standard.specs.Allowed.{within, key_form, all_multi_keys, all_multi_a_keys, locktime, multi_count, multi_a_threshold}
use Rattle.standard.specs.Table.{Node, Terminal, noTerminal, isTrue, isFalse, isPkK, isRawPkH, isAfter, isOlder, is_hash, is_wrapper, is_combination, isAndOr, isThresh, isMulti, isMultiA, terminal_of, key_code, key_length, keys_at, datas_at}
use Rattle.encoding.specs.Form.{keys_named}

-- the number of the refusal, 0 if there is none
abbrev pub value_refusal_of : Bool → List ℕ → List ℕ → Terminal → Node → ℕ
value_refusal_of segwit material keys noTerminal n = 0
value_refusal_of segwit material keys isTrue n = 0
value_refusal_of segwit material keys isFalse n = 0
value_refusal_of segwit material keys isPkK n = pick (key_form segwit (key (key_code segwit) (data_at material n.place (key_length segwit)))) 0 11
value_refusal_of segwit material keys isRawPkH n = 0
value_refusal_of segwit material keys isAfter n = pick (locktime n.number) 0 12
value_refusal_of segwit material keys isOlder n = pick (locktime n.number) 0 12
value_refusal_of segwit material keys (is_hash h) n = 0
value_refusal_of segwit material keys (is_wrapper w) n = 0
value_refusal_of segwit material keys (is_combination c) n = 0
value_refusal_of segwit material keys isAndOr n = 0
value_refusal_of segwit material keys isThresh n = pick (within 1 n.number n.count) 0 13
value_refusal_of segwit material keys isMulti n =
    pick (all_multi_keys segwit (keys_at material (keys_named n keys))) (pick (multi_count n.count && within 1 n.number n.count) 0 13) 11
value_refusal_of segwit material keys isMultiA n =
    pick (all_multi_a_keys segwit (datas_at material (keys_named n keys))) (pick (multi_a_threshold n.number && (leb n.number n.count && leb n.count 999)) 0 13) 11

unfoldable pub value_refusal : Bool → List ℕ → List ℕ → Node → ℕ
value_refusal segwit material keys n = value_refusal_of segwit material keys (terminal_of n.kind) n
