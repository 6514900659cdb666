-- Script numbers: document 01, "Lengths 0 to 4 are script numbers, little-endian with a sign bit; a longer or non-minimal number is 4, whatever its sign, any other negative one 5".
use Rattle.std.specs.Prelude.{Bool, true, false, List, [], ◌∷◌, ℕ, ◌+◌, ◌-◌, ◌*◌, ◌%◌, eqb, leb, length, get_or}
use Rattle.tables.specs.Choose.{pick}
use Rattle.std.specs.Prelude.{Ok, Err}
use Rattle.instruction.specs.Error.{Number}
use Rattle.instruction.specs.declared.Error.TheVariants as error

-- bytes as a number, the lowest first
abbrev pub little_endian : List ℕ → ℕ
little_endian [] = 0
little_endian (b ∷ bytes) = b + 256 * little_endian bytes

-- the last byte, which holds the sign in its top bit
abbrev pub last_byte : List ℕ → ℕ
last_byte bytes = get_or bytes (length bytes - 1) 0

-- minimal: a last byte of no value but for the sign is there only because the byte before it needs its top bit
unfoldable pub minimal : List ℕ → Bool
minimal bytes =
    pick (eqb (length bytes) 0) true
    (pick (eqb (last_byte bytes % 128) 0)
    (pick (eqb (length bytes) 1) false (leb 128 (get_or bytes (length bytes - 2) 0)))
    true)

-- the minimal test first, then the sign, then the value
unfoldable pub number_of : List ℕ → Number
number_of bytes = pick (minimal bytes) (pick (leb 128 (last_byte bytes)) (Err error.NegativeInt) (Ok (little_endian bytes))) (Err error.InvalidInt)
