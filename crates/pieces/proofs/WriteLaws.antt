-- A piece that is a lexeme, by its tag. Assumes nothing.
use mathlib.Core.Path.{◌≡◌, refl, sym, ap, subst, ◌∙◌}
use mathlib.Core.Bool.{Bool, true, false}
use mathlib.Core.List.{List}
use Prim.Native.Nat.{ℕ, ◌+◌, ◌%◌, ◌≤◌, ◌<◌}
use native.Mathlib.Omega.{arith}
use lib.Dec.{eqb}
use lib.ListN.{length, take, drop, length-take, length-drop}
use borrow.Author.Tests.{ne_eqb, le-leb, lt-leb}
use Rattle.tables.specs.Choose.{pick}
use Rattle.lex.specs.Token.{Lexeme, push, data_at, data_length}
use Rattle.emit.specs.declared.Pen.{Pen}
use Rattle.emit.specs.Emission.{Room}
use Rattle.pieces.specs.Pieces.{lexeme_in, value_in, Whole}

-- The tables

module _ (code : ℕ) where
  pub length_bounds : (20 ≤ data_length code) × (data_length code ≤ 65)
  unfolding data_length
  length_bounds = by (eqb code 29) (eqb code 30) (eqb code 31)
    where
      by : (a b c : Bool) → (20 ≤ pick a 20 (pick b 32 (pick c 33 65))) × (pick a 20 (pick b 32 (pick c 33 65)) ≤ 65)
      by true b c = (omega arith, omega arith)
      by false true c = (omega arith, omega arith)
      by false false true = (omega arith, omega arith)
      by false false false = (omega arith, omega arith)

-- a push that is whole lies within the material
pub whole_within : (material : List ℕ) (place size : ℕ) → 1 ≤ size → length (take size (drop place material)) ≡ size → place + size ≤ length material
whole_within material place size h e = omega (arith, length-take size (drop place material), length-drop place material)

-- By the tag

module _ (material : List ℕ) (piece : ℕ) where
  pub is_push_lem : 27 < piece % 64 → (piece % 64 ≡ 28 → ⊥) → piece % 64 ≤ 32 → lexeme_in material piece ≡ push (piece % 64) (data_at material (value_in piece) (data_length (piece % 64)))
  is_push_lem a b h = rw (lt-leb (piece % 64) 27 a, ne_eqb (piece % 64) 28 b, le-leb (piece % 64) 32 h) refl

-- the same room, and the same writing, for another name of the lexeme
pub room_as : {size : ℕ} {p : Pen} {l m : Lexeme} → l ≡ m → Room size p l → Room size p m
room_as {size} {p} e r = subst (λ (x : Lexeme). Room size p x) e r

pub whole_as : (l m : Lexeme) → l ≡ m → Whole l → Whole m
whole_as l m e r = subst Whole e r

module _ (material out : List ℕ) (p : Pen) (piece : ℕ) where
  module _ (above : 27 < piece % 64) (not-number : piece % 64 ≡ 28 → ⊥) where
    module _ (place bytes : ℕ) (e : place ≡ value_in piece) (f : bytes ≡ data_length (piece % 64)) (h : piece % 64 ≤ 32) where
      same_push : lexeme_in material piece ≡ push (piece % 64) (data_at material place bytes)
      same_push =
          is_push_lem material piece above not-number h
          ∙ ap (λ (k : ℕ). push (piece % 64) (data_at material k (data_length (piece % 64)))) (sym e)
          ∙ ap (λ (k : ℕ). push (piece % 64) (data_at material place k)) (sym f)

      pub push_ready : (size : ℕ) → Room size p (lexeme_in material piece) → Whole (lexeme_in material piece)
          → (Room size p (push 0 (data_at material place bytes))) × (place + bytes ≤ length material) × (bytes ≤ 75)
      push_ready size r w =
          let room : Room size p (push (piece % 64) (data_at material place bytes)) = room_as same_push r in
          let whole : length (take bytes (drop place material)) ≡ data_length (piece % 64) = whole_as (lexeme_in material piece) (push (piece % 64) (data_at material place bytes)) same_push w in
          let bounds = length_bounds (piece % 64) in
          (record { some_bytes = room.some_bytes; fits = room.fits; coded = tt }, whole_within material place bytes (omega (arith, bounds.0)) (whole ∙ sym f), omega (arith, bounds.1))
