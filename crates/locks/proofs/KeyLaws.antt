-- The key form of a push, as the code tests it. Assumes nothing.
-- Why: the first byte of the pushed data is the script's byte at its offset.
use mathlib.Core.Path.{◌≡◌, refl, sym, ap, ◌∙◌}
use mathlib.Core.Bool.{Bool, true, ◌||◌}
use mathlib.Core.List.{List, [], ◌∷◌}
use Prim.Native.Nat.{ℕ, zero, suc}
use lib.ListN.{get_or, take, drop}
use lib.Dec.{eqb}
use Rattle.lex.specs.Token.{data_length, BYTES33}
use Rattle.standard.specs.Allowed.{key_form}
use Rattle.locks.specs.Leaves.{key_at}

first_byte : (script : List ℕ) (offset : ℕ) → get_or (take 33 (drop offset script)) 0 0 ≡ get_or script offset 0
first_byte [] zero = refl
first_byte [] (suc offset) = refl
first_byte (x ∷ script) zero = refl
first_byte (x ∷ script) (suc offset) = first_byte script offset

-- segwit, 33 bytes: by the first
pub by_first_byte : (segwit : Bool) (script : List ℕ) (code offset x : ℕ) → segwit ≡ true → code ≡ BYTES33 → get_or script offset 0 ≡ x → (eqb x 2 || eqb x 3) ≡ key_form segwit (key_at script code offset)
unfolding data_length
by_first_byte segwit script code offset x h c e =
    ap (λ (y : ℕ). eqb y 2 || eqb y 3) (sym e ∙ sym (first_byte script offset))
    ∙ ap (λ (k : ℕ). key_form true (key_at script k offset)) (sym c)
    ∙ ap (λ (g : Bool). key_form g (key_at script code offset)) (sym h)
