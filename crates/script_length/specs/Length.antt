-- For the proof: how many bytes the script of a node table has, as a sum of what each node adds (document 01, "Encoder": "length over 10,000 is 1"). Nodes stand the newest first, so a node's first child stands right behind it. That this is the length of the spelling of the tree is the theorem of proofs/LengthTheorem.
use Rattle.std.specs.Prelude.{◌≡◌, Bool, true, false, List, [], ◌∷◌, ℕ, zero, suc, ◌+◌, ◌*◌, ◌<◌, leb, length}
use Rattle.lex.specs.Script.{script_limit}
use Rattle.spelling.specs.Spell.{number_bytes}
use Rattle.tables.specs.Choose.{pick}
use Rattle.tables.specs.Tables.{newest}
use Rattle.standard.specs.Tree.{Wrapper, alt, swap, check, dupIf, verify, nonZero, zeroNotEqual, Combination, and_v, and_b, or_b, or_d, or_c, or_i}
use Rattle.standard.specs.Table.{Node, node_at, Terminal, noTerminal, isTrue, isFalse, isPkK, isRawPkH, isAfter, isOlder, is_hash, is_wrapper, is_combination, isAndOr, isThresh, isMulti, isMultiA, terminal_of, hash_length, key_length}
use Rattle.encoding.specs.Encoding.{node_count}
use Rattle.script_length.specs.declared.Ending.{Ending}
use Rattle.script_length.specs.declared.Ending.TheVariants.{Fusible, Plain, OfFirst, OfSecond}

-- What the script of a kind ends in: EQUAL, NUMEQUAL, CHECKSIG and CHECKMULTISIG have a verifying form

abbrev pub wrapper_ending : Wrapper → Ending
wrapper_ending alt = Plain
wrapper_ending swap = OfFirst
wrapper_ending check = Fusible
wrapper_ending dupIf = Plain
wrapper_ending verify = Plain
wrapper_ending nonZero = Plain
wrapper_ending zeroNotEqual = Plain

abbrev pub combination_ending : Combination → Ending
combination_ending and_v = OfSecond
combination_ending and_b = Plain
combination_ending or_b = Plain
combination_ending or_d = Plain
combination_ending or_c = Plain
combination_ending or_i = Plain

abbrev pub ending_of : Terminal → Ending
ending_of noTerminal = Plain
ending_of isTrue = Plain
ending_of isFalse = Plain
ending_of isPkK = Plain
ending_of isRawPkH = Plain
ending_of isAfter = Plain
ending_of isOlder = Plain
ending_of (is_hash h) = Fusible
ending_of (is_wrapper w) = wrapper_ending w
ending_of (is_combination c) = combination_ending c
ending_of isAndOr = Plain
ending_of isThresh = Fusible
ending_of isMulti = Fusible
ending_of isMultiA = Fusible

-- the nodes of the newest tree
abbrev pub newest_size : List Node → ℕ
newest_size [] = 0
newest_size (n ∷ ns) = n.size

-- a node's ending, with that of the tree behind so many nodes under it
abbrev pub ends_by : Ending → (ℕ → Bool) → ℕ → Bool
ends_by Fusible under size = true
ends_by Plain under size = false
ends_by OfFirst under size = under 0
ends_by OfSecond under size = under size

-- whether the script of the tree whose root stands behind so many nodes ends in an opcode that has a verifying form
abbrev pub ends_from : ℕ → List Node → Bool
ends_from skip [] = false
ends_from zero (n ∷ ns) = ends_by (ending_of (terminal_of n.kind)) (λ skip. ends_from skip ns) (newest_size ns)
ends_from (suc skip) (n ∷ ns) = ends_from skip ns

-- and that of the newest tree
unfoldable pub ends_fusible : List Node → Bool
ends_fusible ns = ends_from 0 ns

-- What a node adds to the script, besides its children

-- v:'s VERIFY has no byte of its own behind an opcode that has a verifying form
abbrev pub wrapper_bytes : Wrapper → Bool → ℕ
wrapper_bytes alt fusible = 2
wrapper_bytes swap fusible = 1
wrapper_bytes check fusible = 1
wrapper_bytes dupIf fusible = 3
wrapper_bytes verify fusible = pick fusible 0 1
wrapper_bytes nonZero fusible = 4
wrapper_bytes zeroNotEqual fusible = 1

abbrev pub combination_bytes : Combination → ℕ
combination_bytes and_v = 0
combination_bytes and_b = 1
combination_bytes or_b = 1
combination_bytes or_d = 3
combination_bytes or_c = 2
combination_bytes or_i = 3

-- by its number and count; a thresh has an ADD for each child but the first, and an EQUAL
abbrev pub terminal_bytes : Bool → Terminal → ℕ → ℕ → Bool → ℕ
terminal_bytes segwit noTerminal number count fusible = 0
terminal_bytes segwit isTrue number count fusible = 1
terminal_bytes segwit isFalse number count fusible = 1
terminal_bytes segwit isPkK number count fusible = 1 + key_length segwit
terminal_bytes segwit isRawPkH number count fusible = 24
terminal_bytes segwit isAfter number count fusible = length (number_bytes number) + 1
terminal_bytes segwit isOlder number count fusible = length (number_bytes number) + 1
terminal_bytes segwit (is_hash h) number count fusible = 7 + hash_length h
terminal_bytes segwit (is_wrapper w) number count fusible = wrapper_bytes w fusible
terminal_bytes segwit (is_combination c) number count fusible = combination_bytes c
terminal_bytes segwit isAndOr number count fusible = 3
terminal_bytes segwit isThresh number count fusible = count + length (number_bytes number)
terminal_bytes segwit isMulti number count fusible = length (number_bytes number) + 34 * count + length (number_bytes count) + 1
terminal_bytes segwit isMultiA number count fusible = 34 * count + length (number_bytes number) + 1

-- by the nodes under it
unfoldable pub added_bytes : Bool → Node → List Node → ℕ
added_bytes segwit n under = terminal_bytes segwit (terminal_of n.kind) n.number n.count (ends_fusible under)

-- For the code: it is so many bytes, few enough to be added up in 64 bits, since a count has 32 bits and no key takes more than 34 bytes
abbrev pub Counts : ℕ → ℕ → Type 0
Counts r bytes = (r ≡ bytes) × (r < 274877906944)

-- of all nodes
abbrev pub bytes_of : Bool → List Node → ℕ
bytes_of segwit [] = 0
bytes_of segwit (n ∷ ns) = added_bytes segwit n ns + bytes_of segwit ns

-- a length that is above the limit is told as the limit and one
unfoldable pub capped : ℕ → ℕ
capped n = pick (leb n script_limit) n (script_limit + 1)

-- the length of the script of a whole node table
unfoldable pub length_in : Bool → List ℕ → ℕ
length_in segwit nodes = capped (bytes_of segwit (newest (node_at nodes) (node_count nodes)))
