-- Where the tokens of a script stand: document 01, "two tokens at one place", and the data of a Hash20, Bytes32, Bytes33, Bytes65.
use Rattle.std.specs.Prelude.{◌≡◌, List, [], ◌∷◌, ℕ, ◌+◌, ◌≤◌, ◌<◌, length, get_or}
use Rattle.lex.specs.Token.{VERIFY, HASH20, BYTES65, data_length, Token}

-- places rise from instruction to instruction, from `least` on and within the script; a fused opcode's VERIFY shares the place of the token before it
pub data Rising (script : List ℕ) : ℕ → List Token → Type 0 where
  none : {least : ℕ} → Rising script least []
  one : {least : ℕ} {t : Token} {ts : List Token} → least ≤ t.place → t.place < length script → Rising script (t.place + 1) ts → Rising script least (t ∷ ts)
  two : {least : ℕ} {t u : Token} {ts : List Token} → least ≤ t.place → t.place < length script → u.place ≡ t.place → u.code ≡ VERIFY → Rising script (t.place + 1) ts → Rising script least (t ∷ u ∷ ts)

-- the token's data starts one byte behind its place, where its length stands, and lies within the script
abbrev pub DataWithin : List ℕ → Token → Type 0
DataWithin script t = HASH20 ≤ t.code → t.code ≤ BYTES65 → (get_or script t.place 0 ≡ data_length t.code) × (t.place + 1 + data_length t.code ≤ length script)
