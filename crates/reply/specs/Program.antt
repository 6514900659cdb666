-- What the program writes: document 01, section "Program". For each line of the input its listing, one after the other; a refused line's is its header alone.
use Rattle.std.specs.Prelude.{List, [], ◌∷◌, ◌++◌, ℕ}
use Rattle.hex_line.specs.Meant.{Meant, refused, script}
use Rattle.hex_line.specs.Input.{input_of}
use Rattle.listing.specs.declared.Header.{Header}
use Rattle.listing.specs.Lines.{header_line}
use Rattle.listing.specs.Listing.{listing}
use Rattle.standard.specs.Outcome.{Answer, Lengths, Outcome, outcome_of}

-- the header of what the reader answers
abbrev pub header_of : Answer → Header
header_of a =
    record {
      number = a.number;
      reason = a.reason;
      place = a.place;
      tokens = a.tokens;
      steps = a.steps;
      nodes = a.nodes;
      keys = a.keys;
    }

-- the header of a line that is refused before it is read, at place 0
abbrev pub refusal_of : ℕ → Header
refusal_of number = record { number = number; reason = 0; place = 0; tokens = 0; steps = 0; nodes = 0; keys = 0 }

-- the listing of an outcome of the reader
abbrev pub outcome_text : Outcome → List ℕ
outcome_text o = listing (header_of o.answer) o.nodes o.keys

-- the program's tables: 1,040 tokens of three numbers, 512 nodes of nine, 128 keys and 1,024 work entries
abbrev pub desk_lengths : Lengths
desk_lengths = record { tokens = 3120; nodes = 4608; keys = 128; work = 1024 }

-- what a line is answered with
abbrev pub text_of : Meant → List ℕ
text_of (refused number) = header_line (refusal_of number)
text_of (script kind bytes) = outcome_text (outcome_of kind bytes desk_lengths)

abbrev pub texts_of : List Meant → List ℕ
texts_of [] = []
texts_of (m ∷ ms) = text_of m ++ texts_of ms

-- all that the program writes for an input
abbrev pub output_of : List ℕ → List ℕ
output_of input = texts_of (input_of input)
