-- Worked examples of what a line means, each by computation.
use Rattle.std.specs.Prelude.{◌≡◌, refl, [], ◌∷◌, replicate}
use Rattle.hex_line.specs.Digits.{digit_of}
use Rattle.hex_line.specs.Meant.{refused, script, line_of}
use Rattle.hex_line.specs.Input.{lines_of, input_of}

-- `006351670068`
counter : line_of (48 ∷ 48 ∷ 54 ∷ 51 ∷ 53 ∷ 49 ∷ 54 ∷ 55 ∷ 48 ∷ 48 ∷ 54 ∷ 56 ∷ []) ≡ script 0 (0x63 ∷ 0x51 ∷ 0x67 ∷ 0x00 ∷ 0x68 ∷ [])
unfolding digit_of
counter = refl

-- `01aF9A`: either case
either_case : line_of (48 ∷ 49 ∷ 97 ∷ 70 ∷ 57 ∷ 65 ∷ []) ≡ script 1 (0xaf ∷ 0x9a ∷ [])
unfolding digit_of
either_case = refl

-- `00` alone is the empty script
empty_script : line_of (48 ∷ 48 ∷ []) ≡ script 0 []
unfolding digit_of
empty_script = refl

-- an empty line
empty_line : line_of [] ≡ refused 23
empty_line = refl

-- `005`: an odd digit
odd : line_of (48 ∷ 48 ∷ 53 ∷ []) ≡ refused 23
unfolding digit_of
odd = refl

-- `00 51`: a blank is no digit; neither is a carriage return
blank : line_of (48 ∷ 48 ∷ 32 ∷ 53 ∷ 49 ∷ []) ≡ refused 23
unfolding digit_of
blank = refl

carriage_return : line_of (48 ∷ 48 ∷ 13 ∷ []) ≡ refused 23
unfolding digit_of
carriage_return = refl

-- just outside the digits: `/` and `:`, `@` and `G`, the back quote and `g`
neighbours : (digit_of 47 ≡ 16) × (digit_of 58 ≡ 16) × (digit_of 64 ≡ 16) × (digit_of 71 ≡ 16) × (digit_of 96 ≡ 16) × (digit_of 103 ≡ 16)
unfolding digit_of
neighbours = (refl, refl, refl, refl, refl, refl)

-- `0251`: kind 2
kind_two : line_of (48 ∷ 50 ∷ 53 ∷ 49 ∷ []) ≡ refused 20
unfolding digit_of
kind_two = refl

-- `02g`: 23 goes before 20
not_hex_before_kind : line_of (48 ∷ 50 ∷ 103 ∷ []) ≡ refused 23
unfolding digit_of
not_hex_before_kind = refl

-- 520 script bytes are read, 521 are 1, and 20 goes before 1
script_520 : line_of (replicate 1042 48) ≡ script 0 (replicate 520 0)
unfolding digit_of
script_520 = refl

script_521 : line_of (replicate 1044 48) ≡ refused 1
unfolding digit_of
script_521 = refl

kind_before_length : line_of (48 ∷ 50 ∷ replicate 1042 48) ≡ refused 20
unfolding digit_of
kind_before_length = refl

-- an odd digit behind 521 script bytes is 23: a long line is read to its end first
long_and_odd : line_of (replicate 1045 48) ≡ refused 23
unfolding digit_of
long_and_odd = refl

-- an empty input has no line; a line feed alone ends an empty one
no_input : lines_of [] ≡ []
no_input = refl

line_feed_alone : lines_of (10 ∷ []) ≡ [] ∷ []
line_feed_alone = refl

-- `00`, line feed, line feed, `01`: three lines, the last without a line feed
three_lines : input_of (48 ∷ 48 ∷ 10 ∷ 10 ∷ 48 ∷ 49 ∷ []) ≡ script 0 [] ∷ refused 23 ∷ script 1 [] ∷ []
unfolding digit_of
three_lines = refl

-- nothing after the last line feed is no line
ended_line : input_of (48 ∷ 48 ∷ 10 ∷ []) ≡ script 0 [] ∷ []
unfolding digit_of
ended_line = refl
