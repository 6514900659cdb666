-- Looking a token up among the cases of a point: a code that no case has falls through them all. Assumes nothing.
-- Why: a case fits an opcode or a push by its code and a number by code 28, so a token whose code is none of these passes it by.
use mathlib.Core.Path.{◌≡◌, refl, ap, ◌∙◌}
use mathlib.Core.Bool.{Bool, true, false}
use mathlib.Core.List.{List, [], ◌∷◌, ◌++◌}
use Prim.Native.Nat.{ℕ, ◌+◌}
use lib.Dec.{eqb, leb}
use borrow.Author.Tests.{ne_eqb}
use Rattle.tables.specs.Choose.{pick}
use Rattle.lex.specs.Token.{Data, data_at, data_length, token, lexeme, Lexeme, op, num, push, NUM, HASH20, BYTES32, BYTES33, BYTES65}
use Rattle.standard.specs.Rows.{Act, Case, opcode, number, any_number, pushed, other, fits, look}

-- `lexeme` of a token given by its numbers, in a form that computes once its code is known
abbrev pub length_by : ℕ → ℕ
length_by code = pick (eqb code HASH20) 20 (pick (eqb code BYTES32) 32 (pick (eqb code BYTES33) 33 65))

abbrev pub lexeme_by : List ℕ → ℕ → ℕ → ℕ → Lexeme
lexeme_by script code n place =
    pick (eqb code NUM) (num n)
    (pick (leb HASH20 code)
    (pick (leb code BYTES65) (push code (data_at script (place + 1) (length_by code))) (op code))
    (op code))

pub lexeme_by_lem : (script : List ℕ) (code n place : ℕ) → lexeme script (token code n place) ≡ lexeme_by script code n place
unfolding lexeme data_length
lexeme_by_lem script code n place = refl

-- the code that a case is for
abbrev pub code_of : Case → ℕ
code_of (opcode c act) = c
code_of (number k act) = NUM
code_of (any_number act) = NUM
code_of (pushed c act) = c
code_of (other act) = 0

abbrev pub codes : List Case → List ℕ
codes [] = []
codes (c ∷ cs) = code_of c ∷ codes cs

-- none of the cases takes any other token
abbrev pub Plain : List Case → Type 0
Plain [] = Unit {0}
Plain (opcode c act ∷ cs) = Plain cs
Plain (number k act ∷ cs) = Plain cs
Plain (any_number act ∷ cs) = Plain cs
Plain (pushed c act ∷ cs) = Plain cs
Plain (other act ∷ cs) = ⊥

-- c is none of the codes: as a `match` leaves it, the last arm's fact outermost; and the first one's outermost
abbrev pub Rest : ℕ → Type 0 → List ℕ → Type 0
Rest c A [] = A
Rest c A (k ∷ ks) = Rest c (A × (c ≡ k → ⊥)) ks

abbrev pub None : ℕ → List ℕ → Type 0
None c [] = Unit {0}
None c (k ∷ ks) = (c ≡ k → ⊥) × None c ks

all : (c : ℕ) (A : Type 0) (ks : List ℕ) → Rest c A ks → A × None c ks
all c A [] x = (x, tt)
all c A (k ∷ ks) x = let m : (A × (c ≡ k → ⊥)) × None c ks = all c (A × (c ≡ k → ⊥)) ks x in (m.0.0, (m.0.1, m.1))

pub none_of : (c : ℕ) (ks : List ℕ) → Rest c (Unit {0}) ks → None c ks
none_of c ks x = (all c (Unit {0}) ks x).1

-- a token that is a number (b), a push (d and e) or an opcode passes a case for another code by
by_opcode : (b d e : Bool) (c k n : ℕ) (h : Data) (act next : Act) → eqb c k ≡ false → fits (opcode k act) (pick b (num n) (pick d (pick e (push c h) (op c)) (op c))) next ≡ next
by_opcode true d e c k n h act next p = refl
by_opcode false true true c k n h act next p = refl
by_opcode false true false c k n h act next p = ap (λ (z : Bool). pick z act next) p
by_opcode false false e c k n h act next p = ap (λ (z : Bool). pick z act next) p

by_push : (b d e : Bool) (c k n : ℕ) (h : Data) (act : Data → Act) (next : Act) → eqb c k ≡ false → fits (pushed k act) (pick b (num n) (pick d (pick e (push c h) (op c)) (op c))) next ≡ next
by_push true d e c k n h act next p = refl
by_push false true true c k n h act next p = ap (λ (z : Bool). pick z (act h) next) p
by_push false true false c k n h act next p = refl
by_push false false e c k n h act next p = refl

by_number : (d e : Bool) (c k : ℕ) (h : Data) (act next : Act) → fits (number k act) (pick d (pick e (push c h) (op c)) (op c)) next ≡ next
by_number true true c k h act next = refl
by_number true false c k h act next = refl
by_number false e c k h act next = refl

by_any : (d e : Bool) (c : ℕ) (h : Data) (act : ℕ → Act) (next : Act) → fits (any_number act) (pick d (pick e (push c h) (op c)) (op c)) next ≡ next
by_any true true c h act next = refl
by_any true false c h act next = refl
by_any false e c h act next = refl

module _ (script : List ℕ) (c n place : ℕ) where
  abbrev it : Lexeme
  it = lexeme_by script c n place

  abbrev its : Data
  its = data_at script (place + 1) (length_by c)

  -- the cases for other codes are passed by, and what stands behind them decides
  pub look_missed : (cs more : List Case) → Plain cs → None c (codes cs) → look it (cs ++ more) ≡ look it more
  look_missed [] more q m = refl
  look_missed (opcode k act ∷ cs) more q m =
      by_opcode (eqb c NUM) (leb HASH20 c) (leb c BYTES65) c k n its act _ (ne_eqb c k m.0) ∙ look_missed cs more q m.1
  look_missed (number k act ∷ cs) more q m =
      ap (λ (b : Bool). fits (number k act) (pick b (num n) (pick (leb HASH20 c) (pick (leb c BYTES65) (push c its) (op c)) (op c))) (look it (cs ++ more))) (ne_eqb c NUM m.0)
      ∙ by_number (leb HASH20 c) (leb c BYTES65) c k its act _
      ∙ look_missed cs more q m.1
  look_missed (any_number act ∷ cs) more q m =
      ap (λ (b : Bool). fits (any_number act) (pick b (num n) (pick (leb HASH20 c) (pick (leb c BYTES65) (push c its) (op c)) (op c))) (look it (cs ++ more))) (ne_eqb c NUM m.0)
      ∙ by_any (leb HASH20 c) (leb c BYTES65) c its act _
      ∙ look_missed cs more q m.1
  look_missed (pushed k act ∷ cs) more q m =
      by_push (eqb c NUM) (leb HASH20 c) (leb c BYTES65) c k n its act _ (ne_eqb c k m.0) ∙ look_missed cs more q m.1
  look_missed (other act ∷ cs) more q m = absurd q
