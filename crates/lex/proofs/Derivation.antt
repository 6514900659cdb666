-- Which tokens a script gives, as a derivation: an instruction at each place, one behind the other, to the script's end. It is the outcome without room: with room for the tokens the two are the same. Assumes nothing.
-- Why: the definition goes on from one place to the next, and room only decides whether it stops early.
use mathlib.Core.Path.{◌≡◌, refl, sym, ap, subst, ◌∙◌}
use mathlib.Core.Bool.{Bool, true, false}
use mathlib.Core.List.{List, [], ◌∷◌}
use Prim.Native.Nat.{ℕ, zero, suc, ◌+◌, ◌-◌, ◌*◌, ◌≤◌, ◌<◌}
use native.Mathlib.Omega.{arith}
use borrow.Author.Tests.{le-leb, leb-true, leb-false}
use lib.Dec.{leb}
use lib.ListN.{length, drop, drop_of_length-le}
use Rattle.tables.specs.Choose.{pick}
use Rattle.instruction.specs.Error.{Lexing}
use Rattle.instruction.specs.declared.Lexed.TheVariants.{One, Two}
use Rattle.std.specs.Prelude.{Ok, Err}
use Rattle.instruction.specs.Instruction.{instruction_of}
use Rattle.lex.specs.Token.{Token, token, VERIFY}
use Rattle.lex.specs.Script.{script_limit, Outcome, tokens, refused, and_then, after, instructions, lex_of}
use Rattle.lex.proofs.ScanLaws.{opened}
use Rattle.instruction.proofs.SizeLaws.{one_fits, two_fits}

-- ts are the tokens from place `at` on, after a token with the code `last`
pub data Gives (s : List ℕ) : ℕ → ℕ → List Token → Type 0 where
  done : {at last : ℕ} → at ≡ length s → Gives s at last []
  one : {at last c v n : ℕ} {ts : List Token} → at < length s → instruction_of (drop at s) last ≡ Ok (One c n v) → Gives s (at + n) c ts → Gives s at last (token c v at ∷ ts)
  two : {at last c n : ℕ} {ts : List Token} → at < length s → instruction_of (drop at s) last ≡ Ok (Two c n) → Gives s (at + n) VERIFY ts → Gives s at last (token c 0 at ∷ token VERIFY 0 at ∷ ts)

-- ---- from the outcome to the derivation
then_tokens : (t : Token) (o : Outcome) (ts : List Token) → and_then t o ≡ tokens ts → (us : List Token) × (o ≡ tokens us) × (ts ≡ t ∷ us)
then_tokens t (tokens us) ts e = (us, refl, cc)
then_tokens t (refused k p) ts e = let z : ◌≡◌ {A = ℕ} 0 1 = cc in absurd (omega arith)

pick_tokens : (b : Bool) (o : Outcome) (k p : ℕ) (ts : List Token) → pick b o (refused k p) ≡ tokens ts → (b ≡ true) × (o ≡ tokens ts)
pick_tokens true o k p ts e = (refl, e)
pick_tokens false o k p ts e = let z : ◌≡◌ {A = ℕ} 0 1 = cc in absurd (omega arith)

module _ (s : List ℕ) where
  -- what the rest gives, once the instruction here is known
  Rest : ℕ → ℕ → Type 0
  Rest most at = (room last : ℕ) (ts : List Token) → length s - at ≤ most → at ≤ length s → instructions most room at last (drop at s) ≡ tokens ts → Gives s at last ts

  module _ (most at last room : ℕ) (ts : List Token) (enough : length s - at ≤ suc most) (here : at < length s) (rest : (n : ℕ) → Rest most (at + n)) where
    abbrev goes : ℕ → ℕ → ℕ → Outcome
    goes left n code = instructions most left (at + n) code (drop (at + n) s)

    step_gives : (x : Lexing) → instruction_of (drop at s) last ≡ x → after room at x goes ≡ tokens ts → Gives s at last ts
    unfolding Rest
    step_gives (Ok (One c n v)) e p =
        let f : (1 ≤ n) × (n ≤ length s - at) = one_fits s at last here (sym e) c v n refl in
        let q : (leb 1 room ≡ true) × (and_then (token c v at) (goes (room - 1) n c) ≡ tokens ts) = pick_tokens (leb 1 room) _ 8 at ts p in
        let u : (us : List Token) × (goes (room - 1) n c ≡ tokens us) × (ts ≡ token c v at ∷ us) = then_tokens (token c v at) (goes (room - 1) n c) ts q.1 in
        subst (Gives s at last) (sym u.2) (one here e (rest n (room - 1) c u.0 (omega arith) (omega arith) u.1))
    step_gives (Ok (Two c n)) e p =
        let f : (1 ≤ n) × (n ≤ length s - at) = two_fits s at last here (sym e) c n refl in
        let q : (leb 2 room ≡ true) × (and_then (token c 0 at) (and_then (token VERIFY 0 at) (goes (room - 2) n VERIFY)) ≡ tokens ts) = pick_tokens (leb 2 room) _ 8 at ts p in
        let u : (us : List Token) × (and_then (token VERIFY 0 at) (goes (room - 2) n VERIFY) ≡ tokens us) × (ts ≡ token c 0 at ∷ us) = then_tokens (token c 0 at) (and_then (token VERIFY 0 at) (goes (room - 2) n VERIFY)) ts q.1 in
        let w : (us : List Token) × (goes (room - 2) n VERIFY ≡ tokens us) × (u.0 ≡ token VERIFY 0 at ∷ us) = then_tokens (token VERIFY 0 at) (goes (room - 2) n VERIFY) u.0 u.1 in
        subst (Gives s at last) (sym (u.2 ∙ ap (λ (l : List Token). token c 0 at ∷ l) w.2))
        (two here e (rest n (room - 2) VERIFY w.0 (omega arith) (omega arith) w.1))
    step_gives (Err k) e p = let z : ◌≡◌ {A = ℕ} 0 1 = cc in absurd (omega arith)

  ended_gives : (most room at last : ℕ) (ts : List Token) → at ≡ length s → instructions most room at last (drop at s) ≡ tokens ts → Gives s at last ts
  ended_gives most room at last ts e p =
      let l : length s ≤ at = omega arith in
      here most (ap (instructions most room at last) (sym (drop_of_length-le s l)) ∙ p)
    where
      here : (m : ℕ) → instructions m room at last [] ≡ tokens ts → Gives s at last ts
      here zero q = let z : ts ≡ [] = cc in subst (Gives s at last) (sym z) (done e)
      here (suc m) q = let z : ts ≡ [] = cc in subst (Gives s at last) (sym z) (done e)

  all_gives : (most at : ℕ) → Rest most at
  unfolding Rest
  all_gives zero at room last ts enough within p = ended_gives zero room at last ts (omega arith) p
  all_gives (suc most) at room last ts enough within p = split (λ n. all_gives most (at + n)) (leb (length s) at) refl
    where
      split : ((n : ℕ) → Rest most (at + n)) → (b : Bool) → leb (length s) at ≡ b → Gives s at last ts
      split rest true e = ended_gives (suc most) room at last ts (let l : length s ≤ at = leb-true (length s) at e in omega arith) p
      split rest false e =
          let l : at < length s = leb-false (length s) at e in
          step_gives most at last room ts enough l rest (instruction_of (drop at s) last) refl (sym (opened most room at last s l) ∙ p)

  -- ---- and back
  pub gives_few : {at last : ℕ} {ts : List Token} → Gives s at last ts → length ts + 2 * at ≤ 2 * length s
  gives_few (done e) = omega arith
  gives_few (one {at} {last} {c} {v} {n} {ts} h e g) =
      let i : length ts + 2 * (at + n) ≤ 2 * length s = gives_few g in
      let f : (1 ≤ n) × (n ≤ length s - at) = one_fits s at last h (sym e) c v n refl in
      omega arith
  gives_few (two {at} {last} {c} {n} {ts} h e g) =
      let i : length ts + 2 * (at + n) ≤ 2 * length s = gives_few g in
      let f : (1 ≤ n) × (n ≤ length s - at) = two_fits s at last h (sym e) c n refl in
      omega arith

  step_lexes : (most room at last : ℕ) (x : Lexing) (o : Outcome) → at < length s → length s - at ≤ most → instruction_of (drop at s) last ≡ x
      → after room at x (λ left n code. instructions (most - 1) left (at + n) code (drop (at + n) s)) ≡ o → instructions most room at last (drop at s) ≡ o
  step_lexes most room at last x o h enough e p =
      let f : most ≡ suc (most - 1) = omega arith in
      ap (λ (m : ℕ). instructions m room at last (drop at s)) f
      ∙ opened (most - 1) room at last s h
      ∙ ap (λ (y : Lexing). after room at y (λ left n code. instructions (most - 1) left (at + n) code (drop (at + n) s))) e
      ∙ p

  gives_lexes : {at last : ℕ} {ts : List Token} → Gives s at last ts → (most room : ℕ) → length s - at ≤ most → length ts ≤ room → instructions most room at last (drop at s) ≡ tokens ts
  gives_lexes (done {at} {last} e) most room enough fits =
      let l : length s ≤ at = omega arith in
      ap (instructions most room at last) (drop_of_length-le s l) ∙ here most
    where
      here : (m : ℕ) → instructions m room at last [] ≡ tokens []
      here zero = refl
      here (suc m) = refl
  gives_lexes (one {at} {last} {c} {v} {n} {ts} h e g) most room enough fits =
      let f : (1 ≤ n) × (n ≤ length s - at) = one_fits s at last h (sym e) c v n refl in
      let i : instructions (most - 1) (room - 1) (at + n) c (drop (at + n) s) ≡ tokens ts = gives_lexes g (most - 1) (room - 1) (omega arith) (omega arith) in
      step_lexes most room at last (Ok (One c n v)) (tokens (token c v at ∷ ts)) h enough e
      (simp (le-leb 1 room (omega arith)) (ap (and_then (token c v at)) i))
  gives_lexes (two {at} {last} {c} {n} {ts} h e g) most room enough fits =
      let f : (1 ≤ n) × (n ≤ length s - at) = two_fits s at last h (sym e) c n refl in
      let i : instructions (most - 1) (room - 2) (at + n) VERIFY (drop (at + n) s) ≡ tokens ts = gives_lexes g (most - 1) (room - 2) (omega arith) (omega arith) in
      step_lexes most room at last (Ok (Two c n)) (tokens (token c 0 at ∷ token VERIFY 0 at ∷ ts)) h enough e
      (simp (le-leb 2 room (omega arith)) (ap (λ (o : Outcome). and_then (token c 0 at) (and_then (token VERIFY 0 at) o)) i))

-- ---- the whole script
limit_pick : (b : Bool) (o : Outcome) (ts : List Token) → pick b o (refused 1 0) ≡ tokens ts → (b ≡ true) × (o ≡ tokens ts)
limit_pick b o ts e = pick_tokens b o 1 0 ts e

-- the derivation of an accepted script, whose length is within the limit
pub derived : (room : ℕ) (s : List ℕ) (ts : List Token) → lex_of room s ≡ tokens ts → (length s ≤ script_limit) × Gives s 0 0 ts
unfolding lex_of Rest
derived room s ts e =
    let p : (leb (length s) script_limit ≡ true) × (instructions (length s) room 0 0 s ≡ tokens ts) = limit_pick (leb (length s) script_limit) (instructions (length s) room 0 0 s) ts e in
    (leb-true (length s) script_limit p.0, all_gives s (length s) 0 room 0 ts (omega arith) (omega arith) p.1)

-- a derivation is the outcome, in any room that holds its tokens
pub outcome_of_lem : (room : ℕ) (s : List ℕ) (ts : List Token) → length s ≤ script_limit → Gives s 0 0 ts → length ts ≤ room → lex_of room s ≡ tokens ts
unfolding lex_of
outcome_of_lem room s ts h g fits = simp (le-leb (length s) script_limit h) (gives_lexes s g (length s) room (omega arith) fits)
