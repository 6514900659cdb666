-- For the proof: the work list of document 01, "Tokens to tree", in a lent table with one number for each entry.
use Rattle.std.specs.Prelude.{List, [], ◌∷◌, ℕ, ◌+◌, ◌*◌, ◌/◌, ◌%◌, ◌<◌, get_or}
use Rattle.tables.specs.Tables.{newest}
use Rattle.standard.specs.Rows as rows
use Rattle.row.specs.declared.NonTerm.{NonTerm}
use Rattle.row.specs.declared.NonTerm.TheVariants.{Expression, WExpression, Swap, MaybeAndV, Alt, Check, DupIf, Verify, NonZero, ZeroNotEqual, AndV, AndB, Tern, OrB, OrD, OrC, ThreshW, ThreshE, EndIf, EndIfNotIf, EndIfElse}
use Rattle.row.specs.Request.{entry_of}

-- an entry's number: its place in NonTerm's order, and for a thresh 32 times k and 2^37 times n
abbrev pub packed : NonTerm → ℕ
packed Expression = 0
packed WExpression = 1
packed Swap = 2
packed MaybeAndV = 3
packed Alt = 4
packed Check = 5
packed DupIf = 6
packed Verify = 7
packed NonZero = 8
packed ZeroNotEqual = 9
packed AndV = 10
packed AndB = 11
packed Tern = 12
packed OrB = 13
packed OrD = 14
packed OrC = 15
packed (ThreshW k n) = 16 + 32 * k + 137438953472 * n
packed (ThreshE k n) = 17 + 32 * k + 137438953472 * n
packed EndIf = 18
packed EndIfNotIf = 19
packed EndIfElse = 20

-- k and n fit their places: k is below 2^32, and n below 2^27
abbrev pub Small : NonTerm → Type 0
Small Expression = Unit {0}
Small WExpression = Unit {0}
Small Swap = Unit {0}
Small MaybeAndV = Unit {0}
Small Alt = Unit {0}
Small Check = Unit {0}
Small DupIf = Unit {0}
Small Verify = Unit {0}
Small NonZero = Unit {0}
Small ZeroNotEqual = Unit {0}
Small AndV = Unit {0}
Small AndB = Unit {0}
Small Tern = Unit {0}
Small OrB = Unit {0}
Small OrD = Unit {0}
Small OrC = Unit {0}
Small (ThreshW k n) = (k < 4294967296) × (n < 134217728)
Small (ThreshE k n) = (k < 4294967296) × (n < 134217728)
Small EndIf = Unit {0}
Small EndIfNotIf = Unit {0}
Small EndIfElse = Unit {0}

abbrev pub AllSmall : List NonTerm → Type 0
AllSmall [] = Unit {0}
AllSmall (e ∷ es) = Small e × AllSmall es

-- a thresh's k and n in a number
abbrev pub k_of : ℕ → ℕ
k_of number = number / 32 % 4294967296

abbrev pub n_of : ℕ → ℕ
n_of number = number / 137438953472

-- NonTerm's order
abbrev pub in_order : ℕ → ℕ → List NonTerm
in_order k n =
    Expression ∷ WExpression ∷ Swap ∷ MaybeAndV ∷ Alt ∷ Check ∷ DupIf ∷ Verify ∷ NonZero ∷ ZeroNotEqual ∷ AndV ∷ AndB ∷ Tern ∷ OrB ∷ OrD ∷ OrC
    ∷ ThreshW k n ∷ ThreshE k n ∷ EndIf ∷ EndIfNotIf ∷ EndIfElse ∷ []

-- the entry of a number
unfoldable pub unpacked : ℕ → NonTerm
unpacked number = get_or (in_order (k_of number) (n_of number)) (number % 32) EndIfElse

-- the first w entries of a work table, the newest on top
abbrev pub entry_at : List ℕ → ℕ → rows.NonTerm
entry_at work i = entry_of (unpacked (get_or work i 0))

abbrev pub work_of : List ℕ → ℕ → List rows.NonTerm
work_of work w = newest (entry_at work) w
