-- What the contracts of the encoder's exported entries settle (document 01, "Pinned down"), and that the told part lies in the script and is the leaf's. Assumes nothing.
use Rattle.std.specs.Prelude.{◌≡◌, refl, Bool, true, false, List, [], ℕ, zero, suc, ◌+◌, ◌≤◌, leb, length, take, drop}
use Rattle.std.proofs.Common.{sym, ap, ◌∙◌, arith, leb-true, ne_eqb, length-drop, length-take-le}
use Rattle.tables.specs.Choose.{pick}
use Rattle.encoding.specs.Encoding as encoding
use Rattle.encoding.specs.Encoding.{Outcome, encoding_of}
use Rattle.leaf_part.specs.LeafPart.{leaf_bytes, leaf_part}
use Rattle.exports.specs.declared.Encoded.{Encoded}
use Rattle.exports.specs.declared.Part.{Part}
use Rattle.exports.specs.Encodings.{encoded_at, part_in}

-- the answer with these four numbers
abbrev answered : encoding.Answer → Encoded
answered a = record { number = a.number; reason = a.reason; place = a.place; bytes = a.bytes }

-- THEOREM: any two outcomes that meet the contract of `phagdrulis_encode` are identical, the answer, the output and the work table
pub exported_encode_unique : (kind : ℕ) (nodes keys material : List ℕ) (room : ℕ) (before : List ℕ) (r r' : Encoded) (output output' work work' : List ℕ)
    → encoded_at r output work ≡ encoding_of kind nodes keys material room before → encoded_at r' output' work' ≡ encoding_of kind nodes keys material room before
    → (r ≡ r') × (output ≡ output') × (work ≡ work')
exported_encode_unique kind nodes keys material room before r r' output output' work work' p q = (
  ap (λ (o : Outcome). answered o.answer) (p ∙ sym q),
  ap (λ (o : Outcome). o.output) (p ∙ sym q),
  ap (λ (o : Outcome). o.work) (p ∙ sym q),
)

-- THEOREM: and any two of `phagdrulis_leaf_part`
pub exported_part_unique : (scriptKind : ℕ) (script : List ℕ) (kind place : ℕ) (r r' : Part)
    → r ≡ part_in place (leaf_part scriptKind script kind place) → r' ≡ part_in place (leaf_part scriptKind script kind place) → r ≡ r'
exported_part_unique scriptKind script kind place r r' p q = p ∙ sym q

-- so many bytes of a script from the told start on are this part of it
abbrev Tells : List ℕ → List ℕ → Part → Type 0
Tells script part r = (r.start + r.bytes ≤ length script) × (take r.bytes (drop r.start script) ≡ part)

tells_nothing : (script : List ℕ) (place : ℕ) → Tells script [] (part_in place [])
tells_nothing script place = (omega arith, refl)

tells_part : (script : List ℕ) (place bytes : ℕ) → place + bytes ≤ length script → Tells script (take bytes (drop place script)) (part_in place (take bytes (drop place script)))
tells_part script place zero h = tells_nothing script place
tells_part script place (suc n) h =
    let l : length (take (suc n) (drop place script)) ≡ suc n = length-take-le (suc n) (drop place script) (omega (arith, length-drop place script)) in
    let some : suc n ≡ 0 → ⊥ = λ z. let no : ⊥ = omega arith in no in
    rw (l, ne_eqb (suc n) 0 some) (h, refl)

-- THEOREM: what `phagdrulis_leaf_part` tells lies in the script and is the leaf's key or hash, byte for byte
pub exported_part_lies : (scriptKind : ℕ) (script : List ℕ) (kind place : ℕ) (r : Part)
    → r ≡ part_in place (leaf_part scriptKind script kind place) → Tells script (leaf_part scriptKind script kind place) r
unfolding leaf_part
exported_part_lies scriptKind script kind place r e = rw e (by (leb scriptKind 1) (leb (place + leaf_bytes scriptKind kind) (length script)) refl)
  where
    by : (known inside : Bool) → leb (place + leaf_bytes scriptKind kind) (length script) ≡ inside
        → Tells script (pick known (pick inside (take (leaf_bytes scriptKind kind) (drop place script)) []) []) (part_in place (pick known (pick inside (take (leaf_bytes scriptKind kind) (drop place script)) []) []))
    by false inside q = tells_nothing script place
    by true false q = tells_nothing script place
    by true true q = tells_part script place (leaf_bytes scriptKind kind) (leb-true (place + leaf_bytes scriptKind kind) (length script) q)
