-- For the proof: what the code's shape of a kind stands for, and the refusals of a node's values kind by kind (document 01, "When the desk says no", numbers 11, 12 and 13).
use Rattle.std.specs.Prelude.{Bool, ◌&&◌, List, ℕ, leb, take, drop, Option, Some, None, Result, Ok, Err}
use Rattle.std.proofs.Math.Option as math
use Rattle.lex.specs.Token.{data_at}
use Rattle.tables.specs.Choose.{pick}
use Rattle.standard.specs.Tree.{Key, key}
use Rattle.standard.specs.Allowed.{within, key_form, all_multi_keys, locktime, multi_count, multi_a_threshold}
use Rattle.standard.specs.Table.{key_code, key_length, keys_at}
use Rattle.encoding.specs.Form.{Shape, shape}
use Rattle.node_shape.specs.declared.Shape as code
use Rattle.node_shape.specs.declared.ValueError.{ValueError}
use Rattle.node_shape.specs.declared.ValueError.TheVariants.{KeyForm, Locktime, Threshold}

abbrev pub shape_held : code.Shape → Shape
shape_held s = shape s.number s.counts s.bytes s.key s.children

abbrev pub shape_told : Option code.Shape → math.Option Shape
shape_told None = math.none
shape_told (Some s) = math.some (shape_held s)

-- the number of each refusal, and 0 where there is none
abbrev pub number_of : ValueError → ℕ
number_of KeyForm = 11
number_of Locktime = 12
number_of Threshold = 13

abbrev pub refusal_told : {A : Type 0} → Result A ValueError → ℕ
refusal_told (Ok a) = 0
refusal_told (Err e) = number_of e

-- the keys that a multi names, from entry `place` of the key table on
abbrev pub multi_keys_at : List ℕ → List ℕ → ℕ → ℕ → List Key
multi_keys_at material keys place count = keys_at material (take count (drop place keys))

abbrev pub key_refusal : Bool → List ℕ → ℕ → ℕ
key_refusal segwit material place = pick (key_form segwit (key (key_code segwit) (data_at material place (key_length segwit)))) 0 11

abbrev pub locktime_refusal : ℕ → ℕ
locktime_refusal n = pick (locktime n) 0 12

abbrev pub thresh_refusal : ℕ → ℕ → ℕ
thresh_refusal k n = pick (within 1 k n) 0 13

abbrev pub multi_refusal : Bool → List ℕ → List ℕ → ℕ → ℕ → ℕ → ℕ
multi_refusal segwit material keys place k n =
    pick (all_multi_keys segwit (multi_keys_at material keys place n)) (pick (multi_count n && within 1 k n) 0 13) 11

-- in segwit no key is allowed
abbrev pub multi_a_refusal : Bool → ℕ → ℕ → ℕ
multi_a_refusal segwit k n = pick (segwit && leb 1 n) 11 (pick (multi_a_threshold k && (leb k n && leb n 999)) 0 13)
