-- Places rise from instruction to instruction, the two tokens of a fused opcode share one, and pushed data starts one byte behind its token's place and lies within the script. Assumes nothing.
use mathlib.Core.Path.{◌≡◌, refl, sym, ap, subst, ◌∙◌}
use mathlib.Core.List.{List, ◌∷◌}
use Prim.Native.Nat.{ℕ, ◌+◌, ◌-◌, ◌≤◌}
use native.Mathlib.Omega.{arith}
use native.Mathlib.Nat.{add-zero}
use borrow.Author.Tests.{ne_eqb, le-leb}
use lib.ListN.{length, take, drop, get_or, length-drop}
use lib.Seq.{get_or-drop, get_or-take}
use Rattle.tables.proofs.ListLaws.{take_whole}
use Rattle.lex.specs.Token.{Bytes, Token, token, push, data_length, data_at, lexeme}
use Rattle.lex.specs.Script.{lex_of, tokens}
use Rattle.instruction.proofs.SizeLaws.{one_fits, two_fits}
use Rattle.lex.proofs.Derivation.{Gives, done, one, two, derived}
use Rattle.lex.proofs.Theorems.{Each}
use Rattle.spelling.specs.Spell.{instruction_bytes}
use Rattle.spelling.specs.Lexemes.{Formed}
use Rattle.spelling.specs.Places as places
use Rattle.spelling.specs.Places.{Rising, DataWithin}
use Rattle.spelling.proofs.InstructionSpelling.{fused_low, Canonical, instruction_canonical}
use Rattle.spelling.proofs.SpellingLexes.{data_short}

gives_rise : (s : List ℕ) {at last : ℕ} {ts : List Token} → Gives s at last ts → (least : ℕ) → least ≤ at → Rising s least ts
gives_rise s (done e) least h = places.none
gives_rise s (one {at} {last} {c} {v} {n} {ts} l e g) least h =
    let f : (1 ≤ n) × (n ≤ length s - at) = one_fits s at last l (sym e) c v n refl in
    places.one h l (gives_rise s g (at + 1) (omega arith))
gives_rise s (two {at} {last} {c} {n} {ts} l e g) least h =
    let f : (1 ≤ n) × (n ≤ length s - at) = two_fits s at last l (sym e) c n refl in
    places.two h l refl refl (gives_rise s g (at + 1) (omega arith))

-- places rise, and the tokens of one instruction share one place
pub places_rise : (room : ℕ) (s : List ℕ) (ts : List Token) → lex_of room s ≡ tokens ts → Rising s 0 ts
places_rise room s ts e = gives_rise s (derived room s ts e).1 0 (omega arith)

-- ---- pushed data
lexeme_data : (s : List ℕ) (c v at : ℕ) → 29 ≤ c → c ≤ 32 → lexeme s (token c v at) ≡ push c (data_at s (at + 1) (data_length c))
unfolding lexeme
lexeme_data s c v at l h = simp (ne_eqb c 28 (λ e. omega arith), le-leb 29 c l, le-leb c 32 h)

first_byte : (s : List ℕ) (at n b : ℕ) (r : List ℕ) → 1 ≤ n → take n (drop at s) ≡ b ∷ r → get_or s at 0 ≡ b
first_byte s at n b r h e =
    ap (λ (k : ℕ). get_or s k 0) (sym (add-zero at)) ∙ sym (get_or-drop at s 0 0) ∙ sym (get_or-take n (drop at s) 0 0 (omega arith)) ∙ ap (λ (l : List ℕ). get_or l 0 0) e

one_data : (s : List ℕ) (at c v n : ℕ) → 1 ≤ n → take n (drop at s) ≡ instruction_bytes (lexeme s (token c v at)) → Formed (lexeme s (token c v at)) → DataWithin s (token c v at)
one_data s at c v n k t f l h =
    let e : lexeme s (token c v at) ≡ push c (data_at s (at + 1) (data_length c)) = lexeme_data s c v at l h in
    let g : length (take (data_length c) (drop (at + 1) s)) ≡ data_length c = (subst Formed e f).2 in
    let w : data_length c ≤ length (drop (at + 1) s) = take_whole (data_length c) (drop (at + 1) s) g in
    let d : 2 ≤ data_length c = (data_short c).1 in (
      first_byte s at n (length (take (data_length c) (drop (at + 1) s))) (take (data_length c) (drop (at + 1) s)) k (t ∙ ap instruction_bytes e) ∙ g,
      omega (arith, length-drop (at + 1) s),
    )

gives_data : (s : List ℕ) → Bytes s → {at last : ℕ} {ts : List Token} → Gives s at last ts → Each (DataWithin s) ts
gives_data s b (done e) = tt
gives_data s b (one {at} {last} {c} {v} {n} {ts} l e g) =
    let k = subst (Canonical s at last b l) e (instruction_canonical s at last b l) in
    let f : (1 ≤ n) × (n ≤ length s - at) = one_fits s at last l (sym e) c v n refl in
    (one_data s at c v n f.0 k.0 k.1, gives_data s b g)
gives_data s b (two {at} {last} {c} {n} {ts} l e g) =
    let k = subst (Canonical s at last b l) e (instruction_canonical s at last b l) in
    let f : c ≤ 8 = (fused_low c k.1).1 in
    ((λ p q. absurd (omega arith)), ((λ p q. absurd (omega arith)), gives_data s b g))

-- the data of a Hash20, Bytes32, Bytes33, Bytes65 starts at place + 1, behind its length, and lies within the script
pub data_within_the_script : (room : ℕ) (s : List ℕ) (ts : List Token) → Bytes s → lex_of room s ≡ tokens ts → Each (DataWithin s) ts
data_within_the_script room s ts b e = gives_data s b (derived room s ts e).1
