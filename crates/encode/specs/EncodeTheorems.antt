-- What the contract of `encode` settles (document 01, "Pinned down"). Assumes nothing.
-- Why: the contract is one equation whose right side knows the lent bytes and numbers, the work table's length and what the output held; so two outcomes that meet it are equal, and what the work table held before can't enter.
use Rattle.std.specs.Prelude.{◌≡◌, List, ℕ}
use Rattle.std.proofs.Common.{sym, ap, ◌∙◌}
use Rattle.encoding.specs.Encoding as encoding
use Rattle.encoding.specs.Encoding.{Outcome, encoding_of}
use Rattle.encode.specs.declared.Encoded.{Encoded}
use Rattle.encode.specs.Encode.{outcome_at}

-- the answer with these four numbers
abbrev answered : encoding.Answer → Encoded
answered a = record { number = a.number; reason = a.reason; place = a.place; bytes = a.bytes }

-- THEOREM: any two outcomes that meet the contract are identical, the answer, the output and the work table
pub encode_outcome_unique : (kind : ℕ) (nodes keys material : List ℕ) (room : ℕ) (before : List ℕ) (r r' : Encoded) (output output' work work' : List ℕ)
    → outcome_at r output work ≡ encoding_of kind nodes keys material room before → outcome_at r' output' work' ≡ encoding_of kind nodes keys material room before
    → (r ≡ r') × (output ≡ output') × (work ≡ work')
encode_outcome_unique kind nodes keys material room before r r' output output' work work' p q = (
  ap (λ (o : Outcome). answered o.answer) (p ∙ sym q),
  ap (λ (o : Outcome). o.output) (p ∙ sym q),
  ap (λ (o : Outcome). o.work) (p ∙ sym q),
)
