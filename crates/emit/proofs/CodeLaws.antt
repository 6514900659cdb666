-- The table of opcodes: a code past its end. Assumes nothing.
use mathlib.Core.Path.{◌≡◌, sym}
use Prim.Native.Nat.{ℕ, ◌-◌, ◌≤◌, ◌<◌}
use native.Mathlib.Omega.{arith}
use lib.ListN.{length, get_or-eq_default}
use Rattle.spelling.specs.Spell.{opcodes, opcode_byte}

pub not_listed : (code : ℕ) → 27 < code → 0 ≡ opcode_byte code
not_listed code l =
    let b : length opcodes ≤ code - 1 = omega arith in
    sym (get_or-eq_default opcodes 0 b)
