-- For the proof: what an output holds when one lexeme more is written behind those before: document 01, "Encoder" ("canonical bytes at the front, four fused forms wherever they apply").
use Rattle.std.specs.Prelude.{Bool, false, List, [], ◌∷◌, ℕ, zero, suc, ◌+◌, ◌-◌, ◌/◌, ◌%◌, ◌≤◌, eqb, ltb, length}
use Rattle.tables.specs.Choose.{pick}
use Rattle.tables.specs.Tables.{put_at}
use Rattle.lex.specs.Token.{VERIFY, Lexeme, op, num, push}
use Rattle.spelling.specs.Spell.{opcode_byte, has_fused, fused_byte, push_bytes, number_bytes}
use Rattle.emit.specs.declared.Pen.{Pen}

abbrev pub pen : ℕ → ℕ → Pen
pen at last = record { at = at; last = last }

-- whether an opcode is written as one with the last
abbrev pub fusing : ℕ → ℕ → Bool
fusing last code = pick (has_fused last) (eqb code VERIFY) false

-- the output with one lexeme more
abbrev pub inked : List ℕ → Pen → Lexeme → List ℕ
inked out p (op code) = pick (fusing p.last code) (put_at out (p.at - 1) (fused_byte p.last ∷ [])) (put_at out p.at (opcode_byte code ∷ []))
inked out p (num n) = put_at out p.at (number_bytes n)
inked out p (push code d) = put_at out p.at (push_bytes d.bytes)

-- how far it has then been written
abbrev pub penned : Pen → Lexeme → Pen
penned p (op code) = pen (pick (fusing p.last code) p.at (p.at + 1)) code
penned p (num n) = pen (p.at + length (number_bytes n)) 0
penned p (push code d) = pen (p.at + length (push_bytes d.bytes)) 0

-- an opcode has a code from 1 on
abbrev pub Coded : Lexeme → Type 0
Coded (op code) = 1 ≤ code
Coded (num n) = Unit {0}
Coded (push code d) = Unit {0}

-- an output of so many bytes has room for one lexeme more
pub record Room (size : ℕ) (p : Pen) (l : Lexeme) : Type 0 where
  pub some_bytes : 1 ≤ (penned p l).at
  pub fits : (penned p l).at ≤ size
  pub coded : Coded l

-- and with several, one after the other
abbrev pub inked_all : List ℕ → Pen → List Lexeme → List ℕ
inked_all out p [] = out
inked_all out p (l ∷ ls) = inked_all (inked out p l) (penned p l) ls

abbrev pub penned_all : Pen → List Lexeme → Pen
penned_all p [] = p
penned_all p (l ∷ ls) = penned_all (penned p l) ls

abbrev pub RoomForAll : ℕ → Pen → List Lexeme → Type 0
RoomForAll size p [] = Unit {0}
RoomForAll size p (l ∷ ls) = Room size p l × RoomForAll size (penned p l) ls

-- how many bytes the digits of a number have
unfoldable pub digit_count : ℕ → ℕ
digit_count n = pick (ltb n 0x80) 1 (pick (ltb n 0x8000) 2 (pick (ltb n 0x800000) 3 4))

-- the lowest bytes of a number, the lowest first
abbrev pub low_bytes : ℕ → ℕ → List ℕ
low_bytes zero n = []
low_bytes (suc size) n = n % 256 ∷ low_bytes size (n / 256)
