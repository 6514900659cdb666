-- Worked examples of the spelling, each by computation.
use Rattle.std.specs.Prelude.{◌≡◌, refl, [], ◌∷◌, replicate}
use Rattle.lex.specs.Token.{EQUAL, NUMEQUAL, CHECKSIG, VERIFY, IF, HASH20, op, num, push}
use Rattle.spelling.specs.Spell.{has_fused, fused_byte, digits, number_bytes, spell}

-- 0, 16, 17, 128, 32,768 and the largest number
numbers : spell (num 0 ∷ num 16 ∷ num 17 ∷ num 128 ∷ num 32768 ∷ num 2147483647 ∷ []) ≡ 0x00 ∷ 0x60 ∷ 0x01 ∷ 0x11 ∷ 0x02 ∷ 0x80 ∷ 0x00 ∷ 0x03 ∷ 0x00 ∷ 0x80 ∷ 0x00 ∷ 0x04 ∷ 0xff ∷ 0xff ∷ 0xff ∷ 0x7f ∷ []
unfolding has_fused fused_byte digits number_bytes spell
numbers = refl

-- EQUAL VERIFY VERIFY is EQUALVERIFY VERIFY; NUMEQUAL VERIFY is NUMEQUALVERIFY
fused : spell (op EQUAL ∷ op VERIFY ∷ op VERIFY ∷ op NUMEQUAL ∷ op VERIFY ∷ op CHECKSIG ∷ op IF ∷ []) ≡ 0x88 ∷ 0x69 ∷ 0x9d ∷ 0xac ∷ 0x63 ∷ []
unfolding has_fused fused_byte digits number_bytes spell
fused = refl

-- a hash
hash : spell (push HASH20 (record { place = 7; bytes = replicate 20 0xaa }) ∷ []) ≡ 20 ∷ replicate 20 0xaa
unfolding has_fused fused_byte digits number_bytes spell
hash = refl
