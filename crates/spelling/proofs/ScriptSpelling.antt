-- A script that is accepted is the spelling of its lexemes, but for NUMEQUAL VERIFY written as two instructions. Assumes nothing.
-- Why: each instruction is its lexeme's spelling, and where the spelling would fuse two of them, the VERIFY rule leaves NUMEQUAL alone.
use mathlib.Core.Path.{◌≡◌, refl, sym, ap, subst, ◌∙◌}
use mathlib.Core.Bool.{Bool, true, false, true≢false}
use mathlib.Core.List.{List, [], ◌∷◌, ◌++◌, map}
use Prim.Native.Nat.{ℕ, ◌+◌, ◌≤◌}
use native.Mathlib.Omega.{arith}
use borrow.Author.Tests.{eqb-true}
use lib.Dec.{eqb, leb}
use lib.ListN.{length, take, drop, drop_of_length-le, take-append-drop}
use lib.Seq.{drop-drop}
use Rattle.tables.specs.Choose.{pick}
use Rattle.tables.proofs.BoolLaws.{picked_both}
use Rattle.tables.specs.Tables.{flat}
use Rattle.lex.specs.Token.{Bytes, Token, token, Data, Lexeme, op, num, push, data_length, data_at, lexeme, bare, NUMEQUAL, VERIFY}
use Rattle.instruction.specs.Instruction.{verify_refused}
use Rattle.lex.specs.Script.{lex_of, tokens}
use Rattle.lex.proofs.Derivation.{Gives, done, one, two, derived}
use Rattle.spelling.specs.Spell.{has_fused, fused_byte, instruction_bytes, verified_bytes, is_verify, is_fusible, fuses, spelling, spell}
use Rattle.spelling.specs.Lexemes.{Formed, AllFormed, lexemes, ButForNumEqualVerify, none, same, apart, Spells, NoNumEqualVerify}
use Rattle.spelling.proofs.InstructionSpelling.{fused_low, lexeme_op, Canonical, instruction_canonical}

-- ---- what a lexeme says of its token's code
of_code : (P : Lexeme → Bool) (s : List ℕ) (c v at : ℕ) → ((n : ℕ) → P (num n) ≡ false) → ((k : ℕ) (d : Data) → P (push k d) ≡ false) → P (lexeme s (token c v at)) ≡ true → (lexeme s (token c v at) ≡ op c) × (P (op c) ≡ true)
unfolding lexeme
of_code P s c v at p q e = by (eqb c 28) (leb 29 c) (leb c 32) e
  where
    by : (x y z : Bool) → P (pick x (num v) (pick y (pick z (push c (data_at s (at + 1) (data_length c))) (op c)) (op c))) ≡ true
        → (pick x (num v) (pick y (pick z (push c (data_at s (at + 1) (data_length c))) (op c)) (op c)) ≡ op c) × (P (op c) ≡ true)
    by true y z f = absurd (true≢false (sym f ∙ p v))
    by false true true f = absurd (true≢false (sym f ∙ q c (data_at s (at + 1) (data_length c))))
    by false true false f = (refl, f)
    by false false z f = (refl, f)

verify_code : (s : List ℕ) (c v at : ℕ) → is_verify (lexeme s (token c v at)) ≡ true → c ≡ VERIFY
verify_code s c v at e = eqb-true c VERIFY (of_code is_verify s c v at (λ n. refl) (λ k d. refl) e).1

fusible_code : (s : List ℕ) (c v at : ℕ) → is_fusible (lexeme s (token c v at)) ≡ true → (lexeme s (token c v at) ≡ op c) × (has_fused c ≡ true)
fusible_code s c v at e = of_code is_fusible s c v at (λ n. refl) (λ k d. refl) e

pub is_verify_lem : (m : Lexeme) → is_verify m ≡ true → m ≡ op VERIFY
is_verify_lem (op c) e = ap op (eqb-true c VERIFY e)
is_verify_lem (num n) e = absurd (true≢false (sym e))
is_verify_lem (push c d) e = absurd (true≢false (sym e))

-- of the codes that have a fused form, the VERIFY rule lets NUMEQUAL alone pass
only_numequal : (c : ℕ) → has_fused c ≡ true → verify_refused c ≡ false → c ≡ NUMEQUAL
unfolding has_fused verify_refused
only_numequal c e f = by (eqb c 4) (eqb c 5) (eqb c 6) (eqb c 8) refl e f
  where
    by : (w x y z : Bool) → eqb c 5 ≡ x → pick w true (pick x true (pick y true z)) ≡ true → pick w true (pick y true z) ≡ false → c ≡ NUMEQUAL
    by true x y z h p q = absurd (true≢false q)
    by false true y z h p q = eqb-true c 5 h
    by false false true z h p q = absurd (true≢false q)
    by false false false true h p q = absurd (true≢false q)
    by false false false false h p q = absurd (true≢false (sym p))

-- ---- the next token is VERIFY only where the rule lets it
abbrev starts_verify : List Lexeme → Bool
starts_verify [] = false
starts_verify (m ∷ ls) = is_verify m

verify_allowed : (s : List ℕ) → Bytes s → {at last : ℕ} {ts : List Token} → Gives s at last ts → starts_verify (lexemes s ts) ≡ true → verify_refused last ≡ false
verify_allowed s b (done e) v = absurd (true≢false (sym v))
verify_allowed s b (one {at} {last} {c} {v} {n} {ts} h e g) w =
    (subst (Canonical s at last b h) e (instruction_canonical s at last b h)).2 (verify_code s c v at w)
verify_allowed s b (two {at} {last} {c} {n} {ts} h e g) w =
    let k = subst (Canonical s at last b h) e (instruction_canonical s at last b h) in
    absurd ((fused_low c k.1).2 (verify_code s c 0 at w))

-- ---- one instruction more in front
verify_spelling : (ls : List Lexeme) → spelling (op VERIFY ∷ ls) ≡ (0x69 ∷ []) ∷ spelling ls
unfolding has_fused
verify_spelling [] = refl
verify_spelling (m ∷ ls) = refl

begins : {i : List ℕ} {rest written : List (List ℕ)} → ButForNumEqualVerify (i ∷ rest) written → i ≡ 0x69 ∷ [] → (w : List (List ℕ)) × (written ≡ i ∷ w) × ButForNumEqualVerify rest w
begins (same {instruction} {rest} {written} r) e = (written, refl, r)
begins (apart {rest} {written} r) e = let z : ◌≡◌ {A = ℕ} 0x9d 0x69 = cc in absurd (omega arith)

-- NUMEQUAL before a VERIFY that stands alone
apart_of : (ls : List Lexeme) (bytes : List ℕ) → Spells (op VERIFY ∷ ls) bytes → Spells (op NUMEQUAL ∷ op VERIFY ∷ ls) (instruction_bytes (op NUMEQUAL) ++ bytes)
unfolding has_fused fused_byte
apart_of ls bytes sp =
    let w : (w : List (List ℕ)) × (sp.written ≡ (0x69 ∷ []) ∷ w) × ButForNumEqualVerify (spelling ls) w =
    begins (subst (λ (is : List (List ℕ)). ButForNumEqualVerify is sp.written) (verify_spelling ls) sp.but_for) refl in
    record {
      written = (0x9c ∷ []) ∷ (0x69 ∷ []) ∷ w.0;
      but_for = apart w.2;
      same_bytes = ap (λ (b : List ℕ). 0x9c ∷ b) (sp.same_bytes ∙ ap flat w.1);
    }

in_front : (l : Lexeme) (ls : List Lexeme) (bytes : List ℕ) → (is_fusible l ≡ true → starts_verify ls ≡ true → l ≡ op NUMEQUAL) → Spells ls bytes → Spells (l ∷ ls) (instruction_bytes l ++ bytes)
in_front l [] bytes only sp =
    record { written = instruction_bytes l ∷ sp.written; but_for = same sp.but_for; same_bytes = ap (λ (b : List ℕ). instruction_bytes l ++ b) sp.same_bytes }
in_front l (m ∷ ls) bytes only sp = by (fuses l m) refl
  where
    by : (b : Bool) → fuses l m ≡ b → Spells (l ∷ m ∷ ls) (instruction_bytes l ++ bytes)
    by false e =
        record {
          written = instruction_bytes l ∷ sp.written;
          but_for = subst (λ (c : Bool). ButForNumEqualVerify (pick c (verified_bytes l ∷ spelling ls) (instruction_bytes l ∷ spelling (m ∷ ls))) (instruction_bytes l ∷ sp.written)) (sym e) (same sp.but_for);
          same_bytes = ap (λ (b : List ℕ). instruction_bytes l ++ b) sp.same_bytes;
        }
    by true e =
        let f : (is_fusible l ≡ true) × (is_verify m ≡ true) = picked_both (is_fusible l) (is_verify m) e in
        let n : l ≡ op NUMEQUAL = only f.0 f.1 in
        let v : m ≡ op VERIFY = is_verify_lem m f.1 in
        subst (λ (k : Lexeme). Spells (k ∷ m ∷ ls) (instruction_bytes k ++ bytes)) (sym n)
        (subst (λ (k : Lexeme). Spells (op NUMEQUAL ∷ k ∷ ls) (instruction_bytes (op NUMEQUAL) ++ bytes)) (sym v)
        (apart_of ls bytes (subst (λ (k : Lexeme). Spells (k ∷ ls) bytes) v sp)))

fused_in_front : (c : ℕ) (ls : List Lexeme) (bytes : List ℕ) → has_fused c ≡ true → Spells ls bytes → Spells (op c ∷ op VERIFY ∷ ls) (fused_byte c ∷ bytes)
fused_in_front c ls bytes e sp =
    record {
      written = (fused_byte c ∷ []) ∷ sp.written;
      but_for = subst (λ (b : Bool). ButForNumEqualVerify (pick (pick b true false) ((fused_byte c ∷ []) ∷ spelling ls) (instruction_bytes (op c) ∷ spelling (op VERIFY ∷ ls))) ((fused_byte c ∷ []) ∷ sp.written)) (sym e) (same sp.but_for);
      same_bytes = ap (λ (b : List ℕ). fused_byte c ∷ b) sp.same_bytes;
    }

-- ---- the whole script
cut : (s : List ℕ) (at n : ℕ) → drop at s ≡ take n (drop at s) ++ drop (at + n) s
cut s at n = sym (take-append-drop n (drop at s)) ∙ ap (λ (l : List ℕ). take n (drop at s) ++ l) (drop-drop n at s)

gives_spells : (s : List ℕ) → Bytes s → {at last : ℕ} {ts : List Token} → Gives s at last ts → Spells (lexemes s ts) (drop at s) × AllFormed (lexemes s ts)
gives_spells s b (done {at} e) =
    let l : length s ≤ at = omega arith in
    (record { written = []; but_for = none; same_bytes = drop_of_length-le s l }, tt)
gives_spells s b (one {at} {last} {c} {v} {n} {ts} h e g) =
    let i : Spells (lexemes s ts) (drop (at + n) s) × AllFormed (lexemes s ts) = gives_spells s b g in
    let k = subst (Canonical s at last b h) e (instruction_canonical s at last b h) in (
      subst (Spells (lexeme s (token c v at) ∷ lexemes s ts)) (sym (cut s at n ∙ ap (λ (l : List ℕ). l ++ drop (at + n) s) k.0))
          (in_front (lexeme s (token c v at)) (lexemes s ts) (drop (at + n) s)
          (λ p q. let f = fusible_code s c v at p in f.0 ∙ ap op (only_numequal c f.1 (verify_allowed s b g q)))
          i.0),
      (k.1, i.1),
    )
gives_spells s b (two {at} {last} {c} {n} {ts} h e g) =
    let i : Spells (lexemes s ts) (drop (at + n) s) × AllFormed (lexemes s ts) = gives_spells s b g in
    let k = subst (Canonical s at last b h) e (instruction_canonical s at last b h) in
    let f : (1 ≤ c) × (c ≤ 8) × (c ≡ VERIFY → ⊥) = fused_low c k.1 in
    let x : lexeme s (token c 0 at) ≡ op c = lexeme_op s c 0 at (let z : c ≤ 8 = f.1 in omega arith) in
    let y : lexeme s (token VERIFY 0 at) ≡ op VERIFY = lexeme_op s VERIFY 0 at (omega arith) in (
      subst (λ (l : Lexeme). Spells (l ∷ lexeme s (token VERIFY 0 at) ∷ lexemes s ts) (drop at s)) (sym x)
          (subst (λ (l : Lexeme). Spells (op c ∷ l ∷ lexemes s ts) (drop at s)) (sym y)
          (subst (Spells (op c ∷ op VERIFY ∷ lexemes s ts)) (sym (cut s at n ∙ ap (λ (l : List ℕ). l ++ drop (at + n) s) k.0))
          (fused_in_front c (lexemes s ts) (drop (at + n) s) k.1 i.0))),
      (subst Formed (sym x) (f.0, let z : c ≤ 8 = f.1 in omega arith), (subst Formed (sym y) (omega arith, omega arith), i.1)),
    )

-- every script that lexes is the spelling of its lexemes, but for NUMEQUAL VERIFY written as two bytes at instruction boundaries; and its lexemes are of the lists that a script can give
pub lexed_is_spelled : (room : ℕ) (s : List ℕ) (ts : List Token) → Bytes s → lex_of room s ≡ tokens ts → Spells (lexemes s ts) s × AllFormed (lexemes s ts)
lexed_is_spelled room s ts b e = gives_spells s b (derived room s ts e).1

-- ---- places don't matter to the spelling
bare_bytes : (l : Lexeme) → instruction_bytes (bare l) ≡ instruction_bytes l
bare_bytes (op c) = refl
bare_bytes (num n) = refl
bare_bytes (push c d) = refl

bare_verified : (l : Lexeme) → verified_bytes (bare l) ≡ verified_bytes l
bare_verified (op c) = refl
bare_verified (num n) = refl
bare_verified (push c d) = refl

bare_fuses : (l m : Lexeme) → fuses (bare l) (bare m) ≡ fuses l m
bare_fuses (op c) (op k) = refl
bare_fuses (op c) (num k) = refl
bare_fuses (op c) (push k d) = refl
bare_fuses (num n) (op k) = refl
bare_fuses (num n) (num k) = refl
bare_fuses (num n) (push k d) = refl
bare_fuses (push c e) (op k) = refl
bare_fuses (push c e) (num k) = refl
bare_fuses (push c e) (push k d) = refl

-- lexemes that differ in places alone have one spelling
pub spelling_without_places : (ls : List Lexeme) → spelling (map bare ls) ≡ spelling ls
spelling_without_places [] = refl
spelling_without_places (l ∷ []) = ap (λ (b : List ℕ). b ∷ []) (bare_bytes l)
spelling_without_places (l ∷ m ∷ ls) =
    let p : spelling (map bare ls) ≡ spelling ls = spelling_without_places ls in
    let q : spelling (map bare (m ∷ ls)) ≡ spelling (m ∷ ls) = spelling_without_places (m ∷ ls) in
    ap (λ (b : Bool). pick b (verified_bytes (bare l) ∷ spelling (map bare ls)) (instruction_bytes (bare l) ∷ spelling (map bare (m ∷ ls)))) (bare_fuses l m)
    ∙ ap (λ (is : List (List ℕ)). pick (fuses l m) is (instruction_bytes (bare l) ∷ spelling (map bare (m ∷ ls))))
    (ap (λ (b : List ℕ). b ∷ spelling (map bare ls)) (bare_verified l) ∙ ap (λ (r : List (List ℕ)). verified_bytes l ∷ r) p)
    ∙ ap (λ (is : List (List ℕ)). pick (fuses l m) (verified_bytes l ∷ spelling ls) is)
    (ap (λ (b : List ℕ). b ∷ spelling (map bare (m ∷ ls))) (bare_bytes l) ∙ ap (λ (r : List (List ℕ)). instruction_bytes l ∷ r) q)

-- two scripts with the same lexemes, whatever their places, are one spelling, each but for NUMEQUAL VERIFY
pub same_lexemes_same_bytes : (room room' : ℕ) (s s' : List ℕ) (ts ts' : List Token) → Bytes s → Bytes s' → lex_of room s ≡ tokens ts → lex_of room' s' ≡ tokens ts'
    → map bare (lexemes s ts) ≡ map bare (lexemes s' ts') → Spells (lexemes s ts) s × Spells (lexemes s ts) s'
same_lexemes_same_bytes room room' s s' ts ts' b b' e e' p =
    let sp : Spells (lexemes s' ts') s' = (lexed_is_spelled room' s' ts' b' e').0 in
    let q : spelling (lexemes s' ts') ≡ spelling (lexemes s ts) = sym (spelling_without_places (lexemes s' ts')) ∙ ap spelling (sym p) ∙ spelling_without_places (lexemes s ts) in (
      (lexed_is_spelled room s ts b e).0,
      record { written = sp.written; but_for = subst (λ (is : List (List ℕ)). ButForNumEqualVerify is sp.written) q sp.but_for; same_bytes = sp.same_bytes },
    )

-- ---- without NUMEQUALVERIFY the bytes are fixed
exactly : {canonical written : List (List ℕ)} → ButForNumEqualVerify canonical written → NoNumEqualVerify canonical → written ≡ canonical
exactly none h = refl
exactly (same {instruction} {rest} {written} r) h = ap (λ (is : List (List ℕ)). instruction ∷ is) (exactly r h.1)
exactly (apart {rest} {written} r) h = absurd (h.0 refl)

-- where the spelling has no NUMEQUALVERIFY, the bytes are the spelling itself
pub bytes_are_the_spelling : (ls : List Lexeme) (bytes : List ℕ) → Spells ls bytes → NoNumEqualVerify (spelling ls) → bytes ≡ spell ls
unfolding spell
bytes_are_the_spelling ls bytes sp h = sp.same_bytes ∙ ap flat (exactly sp.but_for h)

-- and two scripts with the same lexemes are the same bytes
pub same_lexemes_same_script : (room room' : ℕ) (s s' : List ℕ) (ts ts' : List Token) → Bytes s → Bytes s' → lex_of room s ≡ tokens ts → lex_of room' s' ≡ tokens ts'
    → map bare (lexemes s ts) ≡ map bare (lexemes s' ts') → NoNumEqualVerify (spelling (lexemes s ts)) → s ≡ s'
same_lexemes_same_script room room' s s' ts ts' b b' e e' p h =
    let q : Spells (lexemes s ts) s × Spells (lexemes s ts) s' = same_lexemes_same_bytes room room' s s' ts ts' b b' e e' p in
    bytes_are_the_spelling (lexemes s ts) s q.0 h ∙ sym (bytes_are_the_spelling (lexemes s ts) s' q.1 h)
