-- What is still to be written for a part of the input, by what the clerk has in hand: the rest of a listing, then the texts of the lines that end in the rest of the part.
use Rattle.std.specs.Prelude.{Bool, true, false, List, [], ◌∷◌, ◌++◌, ℕ, suc, ◌+◌, ◌-◌, ◌≤◌, ◌<◌, drop}
use Rattle.hex_line.specs.declared.Line.{Line}
use Rattle.hex_line.specs.Feeding.{Fed, fed, told_all, told_in, left_by}
use Rattle.listing.specs.declared.Header.{Header}
use Rattle.listing.specs.Listing.{lines_from, line_at}
use Rattle.reply.specs.Program.{refusal_of, texts_of}
use Rattle.clerk.specs.declared.Hand.{Hand}

-- how many lines a listing has: its header, its nodes and its keys
abbrev pub line_count : Header → ℕ
line_count h = suc (h.nodes + h.keys)

-- the lines of a listing from one on
abbrev pub rest_of : Header → ℕ → List ℕ → List ℕ → List ℕ
rest_of h next nodes keys = lines_from (line_at h nodes keys) next (line_count h - next)

-- all that is still to be written for a part, while the clerk has this in hand and the buffer of the script and the tables of nodes and keys hold this
abbrev pub owed : Hand → List ℕ → List ℕ → List ℕ → List ℕ → List ℕ
owed hand part script nodes keys = rest_of hand.header hand.next nodes keys ++ texts_of (told_in (fed hand.line script) (drop hand.at part))

-- how far the line that the part leaves open will have been read at the part's end
abbrev pub leaves : Hand → List ℕ → List ℕ → Fed
leaves hand part script = left_by (fed hand.line script) (drop hand.at part)

-- what a part is to be answered with, by how far the line before it was read; an empty part says that the input has ended
abbrev pub due : Fed → List ℕ → List ℕ
due f [] = texts_of (told_all f [])
due f (b ∷ part) = texts_of (told_in f (b ∷ part))

-- a hand with nothing laid out and nothing of the part read
abbrev pub started : Line → Hand
started line = record { line = line; at = 0; header = refusal_of 0; next = 1; used = 0 }

-- the same hand, further along its listing
abbrev pub laid : Hand → ℕ → ℕ → Hand
laid hand next used = record { line = hand.line; at = hand.at; header = hand.header; next = next; used = used }

-- all lines of the listing are laid out, and bytes of the part are left
abbrev pub Ready : Hand → ℕ → Type 0
Ready hand n = (line_count hand.header ≤ hand.next) × (hand.at < n)

-- all lines of the listing are laid out, and all bytes of the part are read
abbrev pub Answered : Hand → ℕ → Type 0
Answered hand n = (line_count hand.header ≤ hand.next) × (n ≤ hand.at)

-- a Bool that says whether a fact holds
abbrev pub Says : Bool → Type 0 → Type 0
Says true fact = fact
Says false fact = fact → ⊥
