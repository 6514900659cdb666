-- What a line means, the bytes before its line feed: document 01, section "Program", "kind byte, then at most 520 script bytes (else 1); 23 goes before 20, 20 before 1".
use Rattle.std.specs.Prelude.{List, [], ◌∷◌, ℕ, leb, length}
use Rattle.tables.specs.Choose.{pick}
use Rattle.hex_line.specs.declared.Refusal.{Refusal}
use Rattle.hex_line.specs.declared.Refusal.TheVariants as refusal
use Rattle.hex_line.specs.Digits.{Bytes, bytes, not_hex, bytes_of}

-- the numbers of the refusals
abbrev pub number_of : Refusal → ℕ
number_of refusal.NotHex = 23
number_of refusal.NoKind = 20
number_of refusal.TooLong = 1

-- refused with a number, at place 0; or a script to be read, with its kind
pub data Meant : Type 0 where
  refused : ℕ → Meant
  script : ℕ → List ℕ → Meant

-- 23 if the line isn't hexadecimal of even length, or is empty; then 20 by the kind; then 1 by the length
abbrev pub meant_by : Bytes → Meant
meant_by not_hex = refused 23
meant_by (bytes []) = refused 23
meant_by (bytes (kind ∷ rest)) = pick (leb kind 1) (pick (leb (length rest) 520) (script kind rest) (refused 1)) (refused 20)

abbrev pub line_of : List ℕ → Meant
line_of line = meant_by (bytes_of line)
