-- For the proof: what feeding a line byte by byte does to how far it has been read and to the lent buffer. FeedingLaws says that it comes to what the line means.
use Rattle.std.specs.Prelude.{Bool, true, false, List, [], ◌∷◌, ℕ, ◌+◌, ◌*◌, ◌%◌, eqb, leb, ltb, length, take, drop, set, Result, Ok, Err}
use Rattle.tables.specs.Choose.{pick}
use Rattle.hex_line.specs.declared.Line.{Line}
use Rattle.hex_line.specs.declared.Line.TheVariants.{Nothing, HalfKind, Whole, Half, NotHex}
use Rattle.hex_line.specs.declared.Script.{Script}
use Rattle.hex_line.specs.declared.Refusal.{Refusal}
use Rattle.hex_line.specs.declared.Refusal.TheVariants as refusal
use Rattle.hex_line.specs.Digits.{digit_of}
use Rattle.hex_line.specs.Meant.{Meant, refused, script, number_of}

-- how far a line has been read, and the buffer
pub record Fed : Type 0 where
  pub line : Line
  pub buffer : List ℕ

abbrev pub fed : Line → List ℕ → Fed
fed line buffer = record { line = line; buffer = buffer }

abbrev pub byte_of : ℕ → ℕ → ℕ
byte_of high low = (16 * high + low) % 256

-- one digit more
unfoldable pub digit_fed : ℕ → Line → List ℕ → Fed
digit_fed low Nothing buffer = fed (HalfKind low) buffer
digit_fed low (HalfKind high) buffer = fed (Whole (byte_of high low) 0) buffer
digit_fed low (Whole kind size) buffer = fed (Half kind size low) buffer
digit_fed low (Half kind size high) buffer =
    pick (ltb size 520) (fed (Whole kind (size + 1)) (set buffer size (byte_of high low))) (fed (Whole kind 521) buffer)
digit_fed low NotHex buffer = fed NotHex buffer

-- one byte more
unfoldable pub step : ℕ → Fed → Fed
step byte f = pick (ltb (digit_of byte) 16) (digit_fed (digit_of byte) f.line f.buffer) (fed NotHex f.buffer)

-- all bytes of a part of a line
abbrev pub feed_all : List ℕ → Fed → Fed
feed_all [] f = f
feed_all (b ∷ rest) f = feed_all rest (step b f)

-- the bytes up to a line feed, 10, or up to the end
abbrev pub of_line : List ℕ → List ℕ
of_line [] = []
of_line (b ∷ rest) = pick (eqb b 10) [] (b ∷ of_line rest)

-- how far a line has been read, and where in the input that stopped
pub record Stopped : Type 0 where
  pub state : Fed
  pub at : ℕ

abbrev pub stopped : Fed → ℕ → Stopped
stopped f at = record { state = f; at = at }

-- what the line that goes on at a position of the input does
unfoldable pub line_fed : List ℕ → ℕ → Fed → Stopped
line_fed input from f = stopped (feed_all (of_line (drop from input)) f) (from + length (of_line (drop from input)))

-- what the line means where it ends
unfoldable pub ended : Line → Result Script Refusal
ended Nothing = Err refusal.NotHex
ended (HalfKind high) = Err refusal.NotHex
ended (Whole kind size) = pick (leb kind 1) (pick (leb size 520) (Ok (record { kind = kind; size = size })) (Err refusal.TooLong)) (Err refusal.NoKind)
ended (Half kind size high) = Err refusal.NotHex
ended NotHex = Err refusal.NotHex

-- a meaning with the script at the buffer's front
abbrev pub told : Result Script Refusal → List ℕ → Meant
told (Err why) buffer = refused (number_of why)
told (Ok s) buffer = script s.kind (take s.size buffer)

abbrev pub told_of : Fed → Meant
told_of f = told (ended f.line) f.buffer

-- whether no byte of the line has been fed
abbrev pub untouched : Line → Bool
untouched Nothing = true
untouched (HalfKind high) = false
untouched (Whole kind size) = false
untouched (Half kind size high) = false
untouched NotHex = false

-- a whole input: each line is told at its line feed, and a last one without it at the end of the input
abbrev pub told_all : Fed → List ℕ → List Meant
told_all f [] = pick (untouched f.line) [] (told_of f ∷ [])
told_all f (b ∷ rest) = pick (eqb b 10) (told_of f ∷ told_all (fed Nothing f.buffer) rest) (told_all (step b f) rest)

-- a part of an input: the lines that end in it, and how far the last line has been read then
abbrev pub told_in : Fed → List ℕ → List Meant
told_in f [] = []
told_in f (b ∷ rest) = pick (eqb b 10) (told_of f ∷ told_in (fed Nothing f.buffer) rest) (told_in (step b f) rest)

abbrev pub left_by : Fed → List ℕ → Fed
left_by f [] = f
left_by f (b ∷ rest) = pick (eqb b 10) (left_by (fed Nothing f.buffer) rest) (left_by (step b f) rest)
