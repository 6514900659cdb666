-- What is decided is the whole outcome's answer, and what is then written and cleared is the whole outcome. Assumes nothing.
-- Why: the checks' verdict is that of the tree in the table; the told length is the script's as far as the limit; and a refusal leaves the output alone.
use mathlib.Core.Path.{◌≡◌, refl, sym, ap, ◌∙◌, subst}
use mathlib.Core.Bool.{Bool, true, false}
use mathlib.Core.List.{List, ◌++◌}
use Prim.Native.Nat.{ℕ, ◌+◌, ◌*◌, ◌/◌, ◌≤◌, ◌<◌}
use native.Mathlib.Omega.{arith}
use borrow.Author.Tests.{le-leb, lt-leb, ltb-true, ltb-false}
use lib.Dec.{eqb, leb, ltb}
use lib.ListN.{length, drop}
use Rattle.lex.specs.Script.{script_limit}
use Rattle.spelling.specs.Spell.{spell}
use Rattle.tables.specs.Choose.{pick}
use Rattle.tables.specs.Tables.{zeros}
use Rattle.standard.specs.Tree.{Tree}
use Rattle.standard.specs.Written.{written}
use Rattle.encoding.specs.Checks.{Found, found, refused}
use Rattle.encoding.specs.Encoding as encoding
use Rattle.encoding.specs.Encoding.{Outcome, refusing, writing, written_within, node_count, tree_in, encoded, encoding_of}
use Rattle.closing.specs.Verdicts.{Verdict, verdict_on}
use Rattle.closing.proofs.CheckLaws.{refusal_numbered}
use Rattle.script_length.specs.Length.{capped, length_in}
use Rattle.script_length.proofs.LengthTheorem.{length_of_tree}
use Rattle.script_length.proofs.CappedLaws.{told_within, told_above}
use Rattle.there_and_back.specs.Numbers.{FoundNumbered, tree_numbered}
use Rattle.there_and_back.specs.ThereAndBack.{Written, accepted_is_written}
use Rattle.write_script.specs.Writing.{bytes_of, IsFound, Writable}
use Rattle.encode.specs.declared.Encoded.{Encoded}
use Rattle.encode.specs.Encode.{answer, answer_of, outcome_at}
use Rattle.encode.specs.declared.Refusal.{Refusal}
use Rattle.encode.specs.declared.Refusal.TheVariants.{ScriptKind, Unsound, TooLong, NoWork, NoRoom}
use Rattle.encode.specs.Decided.{refusal_answer, room_refusal, Answers}

-- Decided

-- the checks refuse
verdict_decided : (n work : ℕ) (output : List ℕ) (f : Found) (v : Verdict) → v ≡ verdict_on f → (v.number ≡ 0 → ⊥) → answer v.number v.reason 0 ≡ (encoded n work output f).answer
verdict_decided n work output (found t) v e some = absurd (some (ap (λ (x : Verdict). x.number) e))
verdict_decided n work output (refused number reason) v e some = ap (λ (x : Verdict). answer x.number x.reason 0) e

-- the checks find a tree
verdict_found : (f : Found) (v : Verdict) → FoundNumbered f → v ≡ verdict_on f → v.number ≡ 0 → (t : Tree) × (f ≡ found t)
verdict_found (found t) v s e z = (t, refl)
verdict_found (refused number reason) v s e z = let q : number ≡ 0 = sym (ap (λ (x : Verdict). x.number) e) ∙ z in let no : ⊥ = omega arith in absurd no

-- the tests of length and room, by the told length
module _ (nodes work : ℕ) (output bytes : List ℕ) (length-told : ℕ) (e : length-told ≡ capped (length bytes)) where
  abbrev number_told : ℕ
  number_told = room_refusal nodes length-told work (length output)

  abbrev Told : encoding.Answer → Type 0
  Told a = ((number_told ≡ 0 → ⊥) → answer number_told 0 0 ≡ a) × (number_told ≡ 0 → answer 0 0 length-told ≡ a)

  by_room : leb (length bytes) script_limit ≡ true → ltb 10000 length-told ≡ false → length-told ≡ length bytes → (x y : Bool) → ltb work (8 * nodes + 2) ≡ x → ltb (length output) length-told ≡ y → Told (written_within nodes work output bytes).answer
  by_room l s q true y p r =
      let w = ltb-true work (8 * nodes + 2) p in
      rw (l, s, p, lt-leb (8 * nodes + 2) work w) ((λ some. refl), (λ z. let no : ⊥ = omega arith in absurd no))
  by_room l s q false true p r =
      let w = ltb-false work (8 * nodes + 2) p in
      let o = ltb-true (length output) length-told r in
      rw (l, s, p, r, le-leb (8 * nodes + 2) work w, lt-leb (length bytes) (length output) (omega arith)) ((λ some. refl), (λ z. let no : ⊥ = omega arith in absurd no))
  by_room l s q false false p r =
      let w = ltb-false work (8 * nodes + 2) p in
      let o = ltb-false (length output) length-told r in
      rw (l, s, p, r, le-leb (8 * nodes + 2) work w, le-leb (length bytes) (length output) (omega arith)) ((λ some. absurd (some refl)), (λ z. ap (answer 0 0) q))

  by_length : (x : Bool) → ltb 10000 length-told ≡ x → Told (written_within nodes work output bytes).answer
  by_length true p =
      let l : leb (length bytes) script_limit ≡ false = told_above (length bytes) e (ltb-true 10000 length-told p) in
      rw (l, p) ((λ some. refl), (λ z. let no : ⊥ = omega arith in absurd no))
  by_length false p =
      let l = told_within (length bytes) e (ltb-false 10000 length-told p) in
      by_room l.0 p l.1 (ltb work (8 * nodes + 2)) (ltb (length output) length-told) refl refl

  room_told_lem : Told (written_within nodes work output bytes).answer
  room_told_lem = by_length (ltb 10000 length-told) refl

-- as the code goes
module _ (kind : ℕ) (nodes keys material : List ℕ) (work out : ℕ) where
  pub unknown_kind : 1 < kind → Answers kind nodes keys material work out (answer 20 0 0)
  unfolding encoding_of
  unknown_kind h output l = rw (lt-leb kind 1 h) refl

  module _ (known : kind ≤ 1) (v : Verdict) (verdict-is : v ≡ verdict_on (tree_in (eqb kind 0) nodes keys material)) where
    known_outcome : (output : List ℕ) → encoded (node_count nodes) work output (tree_in (eqb kind 0) nodes keys material) ≡ encoding_of kind nodes keys material work output
    unfolding encoding_of
    known_outcome output = rw (le-leb kind 1 known) refl

    pub refused_by_checks : (v.number ≡ 0 → ⊥) → Answers kind nodes keys material work out (answer v.number v.reason 0)
    refused_by_checks some output l =
        verdict_decided (node_count nodes) work output (tree_in (eqb kind 0) nodes keys material) v verdict-is some ∙ ap (λ (o : Outcome). o.answer) (known_outcome output)

    module _ (checked : v.number ≡ 0) (bytes : ℕ) (bytes-are : bytes ≡ length_in (eqb kind 0) nodes) where
      abbrev room : ℕ
      room = room_refusal (length nodes / 9) bytes work out

      is_found : (t : Tree) × (tree_in (eqb kind 0) nodes keys material ≡ found t)
      is_found = verdict_found (tree_in (eqb kind 0) nodes keys material) v (tree_numbered (eqb kind 0) material keys nodes) verdict-is checked

      told_of : (output : List ℕ) → length output ≡ out
          → ((room ≡ 0 → ⊥) → answer room 0 0 ≡ (encoded (node_count nodes) work output (tree_in (eqb kind 0) nodes keys material)).answer)
          × (room ≡ 0 → answer 0 0 bytes ≡ (encoded (node_count nodes) work output (tree_in (eqb kind 0) nodes keys material)).answer)
      told_of output l =
          let f = is_found in
          let e : bytes ≡ capped (length (spell (written f.0))) = bytes-are ∙ length_of_tree (eqb kind 0) material keys nodes f.0 f.1 in
          rw (← l, f.1) (room_told_lem (node_count nodes) work output (spell (written f.0)) bytes e)

      pub refused_by_room : (room ≡ 0 → ⊥) → Answers kind nodes keys material work out (answer room 0 0)
      refused_by_room some output l = (told_of output l).0 some ∙ ap (λ (o : Outcome). o.answer) (known_outcome output)

      pub accepted : room ≡ 0 → Answers kind nodes keys material work out (answer 0 0 bytes)
      accepted z output l = (told_of output l).1 z ∙ ap (λ (o : Outcome). o.answer) (known_outcome output)

-- The whole outcome

whole : (o : Outcome) (r : Encoded) (output work : List ℕ) → answer_of r ≡ o.answer → output ≡ o.output → work ≡ o.work → outcome_at r output work ≡ o
whole o r output work a b c = rw (a, b, c)

-- work ends zero either way, and a refusal leaves the output
abbrev Leaves : List ℕ → ℕ → Outcome → Type 0
Leaves output work o = (zeros work ≡ o.work) × ((o.answer.number ≡ 0 → ⊥) → output ≡ o.output)

refusing_leaves : (output : List ℕ) (work number reason : ℕ) → Leaves output work (refusing output work number reason)
refusing_leaves output work number reason = (refl, λ some. refl)

encoded_leaves : (nodes work : ℕ) (output : List ℕ) (f : Found) → Leaves output work (encoded nodes work output f)
encoded_leaves nodes work output (refused number reason) = refusing_leaves output work number reason
encoded_leaves nodes work output (found t) =
    by (leb (length (spell (written t))) script_limit) (leb (8 * nodes + 2) work) (leb (length (spell (written t))) (length output))
  where
    by : (a b c : Bool) → Leaves output work (pick a (pick b (pick c (writing output work (spell (written t))) (refusing output work 22 0)) (refusing output work 17 0)) (refusing output work 1 0))
    by false b c = refusing_leaves output work 1 0
    by true false c = refusing_leaves output work 17 0
    by true true false = refusing_leaves output work 22 0
    by true true true = (refl, λ some. absurd (some refl))

module _ (kind : ℕ) (nodes keys material work output : List ℕ) where
  abbrev outcome : Outcome
  outcome = encoding_of kind nodes keys material (length work) output

  leaves : Leaves output (length work) outcome
  unfolding encoding_of
  leaves = by (leb kind 1)
    where
      by : (b : Bool) → Leaves output (length work) (pick b (encoded (node_count nodes) (length work) output (tree_in (eqb kind 0) nodes keys material)) (refusing output (length work) 20 0))
      by true = encoded_leaves (node_count nodes) (length work) output (tree_in (eqb kind 0) nodes keys material)
      by false = refusing_leaves output (length work) 20 0

  module _ (a : encoding.Answer) (answers : Answers kind nodes keys material (length work) (length output) a) where
    answer_is : a ≡ outcome.answer
    answer_is = answers output refl

    pub decided_refusal : (a.number ≡ 0 → ⊥) → (r : Encoded) (work' : List ℕ) → answer_of r ≡ a → work' ≡ zeros (length work) → outcome_at r output work' ≡ outcome
    decided_refusal some r work' e w =
        whole outcome r output work' (e ∙ answer_is) (leaves.1 (λ z. some (ap (λ (x : encoding.Answer). x.number) answer_is ∙ z))) (w ∙ leaves.0)

    module _ (zero_number : a.number ≡ 0) where
      written_tree : Written kind nodes keys material (length work) output
      written_tree = accepted_is_written kind nodes keys material (length work) output (sym (ap (λ (x : encoding.Answer). x.number) answer_is) ∙ zero_number)

      pub writable : Writable (eqb kind 0) nodes keys material (length work) (length output)
      writable =
          let w = written_tree in
          record {
            is_found = subst IsFound (sym w.holds) tt;
            work_room = w.enough;
            out_room = rw w.holds w.room;
          }

      pub decided_writing : (r : Encoded) (output' work' : List ℕ) → answer_of r ≡ a
          → output' ≡ bytes_of (tree_in (eqb kind 0) nodes keys material) ++ drop (length (bytes_of (tree_in (eqb kind 0) nodes keys material))) output
          → work' ≡ zeros (length work) → outcome_at r output' work' ≡ outcome
      decided_writing r output' work' e o w =
          let v = written_tree in
          let out-is : output' ≡ outcome.output = o ∙ ap (λ (f : Found). bytes_of f ++ drop (length (bytes_of f)) output) v.holds ∙ sym (ap (λ (x : Outcome). x.output) v.outcome) in
          whole outcome r output' work' (e ∙ answer_is) out-is (w ∙ leaves.0)

-- every refusal has a number
pub answer_numbered : (r : Refusal) → (refusal_answer r).number ≡ 0 → ⊥
answer_numbered ScriptKind e = omega arith
answer_numbered (Unsound r) e = refusal_numbered r e
answer_numbered TooLong e = omega arith
answer_numbered NoWork e = omega arith
answer_numbered NoRoom e = omega arith

-- with no bytes and place 0
answer_without : (r : Refusal) → answer (refusal_answer r).number (refusal_answer r).reason 0 ≡ refusal_answer r
answer_without ScriptKind = refl
answer_without (Unsound r) = refl
answer_without TooLong = refl
answer_without NoWork = refl
answer_without NoRoom = refl

pub refused_with : (r : Refusal) {number reason : ℕ} → number ≡ (refusal_answer r).number → reason ≡ (refusal_answer r).reason → answer number reason 0 ≡ refusal_answer r
refused_with r {number} {reason} n k = ap (λ (x : ℕ). answer x reason 0) n ∙ ap (λ (x : ℕ). answer (refusal_answer r).number x 0) k ∙ answer_without r
