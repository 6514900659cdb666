-- For the proof: what BIP 379 writes for a multi and a multi_a whose keys stand in a key table.
use Rattle.std.specs.Prelude.{List, [], ◌∷◌, ◌++◌, ℕ, ◌+◌, get_or, take, drop}
use Rattle.lex.specs.Token.{NUMEQUAL, CHECKSIG, CHECKMULTISIG, BYTES32, Lexeme, op, num, push, data_at}
use Rattle.standard.specs.Written.{keys_before, added_keys_before}
use Rattle.standard.specs.Table.{keys_at, datas_at}
use Rattle.emit.specs.declared.Pen.{Pen}
use Rattle.emit.specs.Emission.{RoomForAll}
use Rattle.pieces.specs.Pieces.{Whole}

-- the keys of so many entries from the entry `first` on
abbrev pub multi_keys : List ℕ → List ℕ → ℕ → ℕ → List Lexeme
multi_keys keys material count first = keys_before (keys_at material (take count (drop first keys))) []

abbrev pub added_keys : List ℕ → List ℕ → ℕ → ℕ → List Lexeme
added_keys keys material count first = added_keys_before (datas_at material (take count (drop first keys))) []

abbrev pub multi_script : List ℕ → List ℕ → ℕ → ℕ → ℕ → List Lexeme
multi_script keys material k count first = num k ∷ multi_keys keys material count first ++ (num count ∷ op CHECKMULTISIG ∷ [])

abbrev pub multi_a_script : List ℕ → List ℕ → ℕ → ℕ → ℕ → List Lexeme
multi_a_script keys material k further first =
    push BYTES32 (data_at material (get_or keys first 0) 32) ∷ op CHECKSIG ∷ added_keys keys material further (first + 1) ++ (num k ∷ op NUMEQUAL ∷ [])

abbrev pub AllWhole : List Lexeme → Type 0
AllWhole [] = Unit {0}
AllWhole (l ∷ ls) = Whole l × AllWhole ls

-- lexemes that can be written one after the other, in an output of so many bytes
pub record Ready (size : ℕ) (p : Pen) (ls : List Lexeme) : Type 0 where
  pub room : RoomForAll size p ls
  pub whole : AllWhole ls
