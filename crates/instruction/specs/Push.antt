-- Bitcoin's minimal push rule: document 01, "Within one instruction, in order: length bytes missing (2); length form too wide (3); one-byte push of 1 to 16 or 0x81 (3); data missing (2)".
use Rattle.std.specs.Prelude.{Bool, true, false, List, ℕ, ◌+◌, eqb, leb, ltb, length, take, drop, get_or}
use Rattle.tables.specs.Choose.{pick}
use Rattle.instruction.specs.Error.{Lexing, Number}
use Rattle.instruction.specs.declared.Lexed.TheVariants as gives
use Rattle.std.specs.Prelude.{Ok, Err}
use Rattle.instruction.specs.declared.Error.TheVariants as error
use Rattle.instruction.specs.Code.{NUM, HASH20, BYTES32, BYTES33, BYTES65}
use Rattle.instruction.specs.Number.{little_endian, number_of}

-- bytes that have an opcode of their own: 1 to 16, and 0x81
unfoldable pub small : ℕ → Bool
small b = pick (eqb b 0x81) true (pick (leb 1 b) (leb b 16) false)

-- a number's token, of an instruction with `all` bytes
abbrev pub numbered : Number → ℕ → Lexing
numbered (Ok v) all = Ok (gives.One NUM all v)
numbered (Err e) all = Err e

-- the token of a push of n bytes, by its length
unfoldable pub pushed : List ℕ → ℕ → ℕ → Lexing
pushed bytes n all =
    pick (eqb n 20) (Ok (gives.One HASH20 all 0))
    (pick (eqb n 32) (Ok (gives.One BYTES32 all 0))
    (pick (eqb n 33) (Ok (gives.One BYTES33 all 0))
    (pick (eqb n 65) (Ok (gives.One BYTES65 all 0))
    (pick (leb n 4) (numbered (number_of bytes) all) (Err error.InvalidInt)))))

-- a one-byte push of a small byte; a byte that is missing reads 0, which isn't small
unfoldable pub has_opcode : List ℕ → ℕ → ℕ → Bool
has_opcode rest head n = pick (eqb n 1) (small (get_or rest head 0)) false

-- a push of n bytes. rest is the script from the instruction on, whose first `head` bytes are no data
unfoldable pub push_of : List ℕ → ℕ → ℕ → Lexing
push_of rest head n =
    pick (has_opcode rest head n) (Err error.NonMinimalPush)
    (pick (leb (head + n) (length rest)) (pushed (take n (drop head rest)) n (head + n))
    (Err error.EarlyEndOfScript))

-- a push whose length stands in w bytes after the opcode, and needs so many if it is at least `least`
unfoldable pub sized_of : List ℕ → ℕ → ℕ → Lexing
sized_of rest w least =
    pick (leb (1 + w) (length rest))
    (pick (ltb (little_endian (take w (drop 1 rest))) least) (Err error.NonMinimalPush)
    (push_of rest (1 + w) (little_endian (take w (drop 1 rest)))))
    (Err error.EarlyEndOfScript)
