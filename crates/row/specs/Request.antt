-- For the proof: what a row asks for, on numbers. One request is read off `standard`'s answer (Asks) and off the code's (Row), and the rows' contracts say that the two are the same.
use Rattle.std.specs.Prelude.{Bool, List, [], ◌∷◌, ℕ, zero, suc, ◌+◌, ◌*◌, get_or, Result, Ok, Err}
use Rattle.lex.specs.Token.{Lexeme}
use Rattle.tables.specs.Choose.{pick}
use Rattle.standard.specs.Tree as tree
use Rattle.standard.specs.Tree.{Leaf}
use Rattle.standard.specs.Allowed.{within, allowed_leaf, leaf_refusal}
use Rattle.standard.specs.Table.{leaf_kind, wrapper_kind, combination_kind, key_place, leaf_offsets}
use Rattle.standard.specs.Rows as rows
use Rattle.standard.specs.Rows.{Asks, noneLeft, reduces3, refuses, enters, makes, reduces1, reduces2, reduces_many, under_verify}
use Rattle.row.specs.Tokens.{lexemes_left}
use Rattle.row.specs.declared.NonTerm.{NonTerm}
use Rattle.row.specs.declared.NonTerm.TheVariants as non-term
use Rattle.row.specs.declared.Row.{Row}
use Rattle.row.specs.declared.Row.TheVariants as row
use Rattle.row.specs.declared.Found.{Found}
use Rattle.row.specs.declared.Refused.{Refused}
use Rattle.row.specs.declared.Hash.{Hash}
use Rattle.row.specs.declared.Hash.TheVariants as hash

-- a refusal's number; entries, the first on top; a leaf's kind, number and place, and entries; the kind, k and key offsets of a multi or multi_a, and entries; the kind of a node of one child, of two; and_or; thresh's k and n
pub data Request : Type 0 where
  refused : ℕ → Request
  entries : List rows.NonTerm → Request
  leaf_node : ℕ → ℕ → ℕ → List rows.NonTerm → Request
  keys_node : ℕ → ℕ → List ℕ → List rows.NonTerm → Request
  oneChild twoChildren : ℕ → Request
  three_children : Request
  many_children : ℕ → ℕ → Request

-- a request, and the tokens left after the row
pub data Reading : Type 0 where
  reading : Request → List Lexeme → Reading

-- what `standard` asks for

abbrev pub leaf_asked : Leaf → List rows.NonTerm → Request
leaf_asked tree.True es = leaf_node (leaf_kind tree.True) 0 0 es
leaf_asked tree.False es = leaf_node (leaf_kind tree.False) 0 0 es
leaf_asked (tree.PkK k) es = leaf_node (leaf_kind (tree.PkK k)) 0 (key_place k) es
leaf_asked (tree.RawPkH d) es = leaf_node (leaf_kind (tree.RawPkH d)) 0 d.place es
leaf_asked (tree.After n) es = leaf_node (leaf_kind (tree.After n)) n 0 es
leaf_asked (tree.Older n) es = leaf_node (leaf_kind (tree.Older n)) n 0 es
leaf_asked (tree.HashLock h d) es = leaf_node (leaf_kind (tree.HashLock h d)) 0 d.place es
leaf_asked (tree.Multi k ks) es = keys_node (leaf_kind (tree.Multi k ks)) k (leaf_offsets (tree.Multi k ks)) es
leaf_asked (tree.MultiA k d ds) es = keys_node (leaf_kind (tree.MultiA k d ds)) k (leaf_offsets (tree.MultiA k d ds)) es

-- 9; and 11, 12, 13 of a leaf that isn't allowed, 13 of a thresh that isn't
abbrev pub asked : Bool → Asks → Request
asked segwit noneLeft = refused 9
asked segwit reduces3 = three_children
asked segwit (refuses n) = refused n
asked segwit (enters es) = entries es
asked segwit (makes l es) = pick (allowed_leaf segwit l) (leaf_asked l es) (refused (leaf_refusal segwit l))
asked segwit (reduces1 w) = oneChild (wrapper_kind w)
asked segwit (reduces2 c) = twoChildren (combination_kind c)
asked segwit (reduces_many k n) = pick (within 1 k n) (many_children k n) (refused 13)

abbrev pub reading_asked : Bool → rows.Found → Reading
reading_asked segwit (rows.found asks left) = reading (asked segwit asks) left

-- what the code asks for

abbrev pub entry_of : NonTerm → rows.NonTerm
entry_of non-term.Expression = rows.Expression
entry_of non-term.WExpression = rows.WExpression
entry_of non-term.Swap = rows.Swap
entry_of non-term.MaybeAndV = rows.MaybeAndV
entry_of non-term.Alt = rows.Alt
entry_of non-term.Check = rows.Check
entry_of non-term.DupIf = rows.DupIf
entry_of non-term.Verify = rows.Verify
entry_of non-term.NonZero = rows.NonZero
entry_of non-term.ZeroNotEqual = rows.ZeroNotEqual
entry_of non-term.AndV = rows.AndV
entry_of non-term.AndB = rows.AndB
entry_of non-term.Tern = rows.Tern
entry_of non-term.OrB = rows.OrB
entry_of non-term.OrD = rows.OrD
entry_of non-term.OrC = rows.OrC
entry_of (non-term.ThreshW k n) = rows.ThreshW k n
entry_of (non-term.ThreshE k n) = rows.ThreshE k n
entry_of non-term.EndIf = rows.EndIf
entry_of non-term.EndIfNotIf = rows.EndIfNotIf
entry_of non-term.EndIfElse = rows.EndIfElse

-- the children that a thresh's entry has counted
abbrev pub counted : NonTerm → ℕ
counted non-term.Expression = 0
counted non-term.WExpression = 0
counted non-term.Swap = 0
counted non-term.MaybeAndV = 0
counted non-term.Alt = 0
counted non-term.Check = 0
counted non-term.DupIf = 0
counted non-term.Verify = 0
counted non-term.NonZero = 0
counted non-term.ZeroNotEqual = 0
counted non-term.AndV = 0
counted non-term.AndB = 0
counted non-term.Tern = 0
counted non-term.OrB = 0
counted non-term.OrD = 0
counted non-term.OrC = 0
counted (non-term.ThreshW k n) = n
counted (non-term.ThreshE k n) = n
counted non-term.EndIf = 0
counted non-term.EndIfNotIf = 0
counted non-term.EndIfElse = 0

abbrev pub hash_of : Hash → tree.Hash
hash_of hash.Sha256 = tree.sha256
hash_of hash.Hash256 = tree.hash256
hash_of hash.Ripemd160 = tree.ripemd160
hash_of hash.Hash160 = tree.hash160

-- the offsets of what n tokens push, from the token `first` on, a stride apart
abbrev pub offsets_from : List ℕ → ℕ → ℕ → ℕ → List ℕ
offsets_from table zero first stride = []
offsets_from table (suc n) first stride = (get_or table (3 * first + 2) 0 + 1) ∷ offsets_from table n (first + stride) stride

-- entries are pushed in turn, so the last one is on top
abbrev pub request_of : List ℕ → Row → Request
request_of table row.Enter0 = entries []
request_of table (row.Enter1 a) = entries (entry_of a ∷ [])
request_of table (row.Enter2 a b) = entries (entry_of b ∷ entry_of a ∷ [])
request_of table (row.Enter3 a b c) = entries (entry_of c ∷ entry_of b ∷ entry_of a ∷ [])
request_of table (row.Leaf kind number place verify) = leaf_node kind number place (under_verify verify)
request_of table (row.Keys kind k n first stride) = keys_node kind k (offsets_from table n first stride) []
request_of table (row.Reduce1 kind) = oneChild kind
request_of table (row.Reduce2 kind) = twoChildren kind
request_of table row.Tern = three_children
request_of table (row.Thresh k n) = many_children k n

-- a row's answer and its refusal, with so many tokens left
abbrev pub asked_at : Row → ℕ → Result Found Refused
asked_at asks left = Ok (record { left = left; row = asks })

abbrev pub refused_at : ℕ → ℕ → Result Found Refused
refused_at number left = Err (record { number = number; left = left })

abbrev pub reading_of : List ℕ → List ℕ → Result Found Refused → Reading
reading_of script table (Ok f) = reading (request_of table f.row) (lexemes_left script table f.left)
reading_of script table (Err e) = reading (refused e.number) (lexemes_left script table e.left)
