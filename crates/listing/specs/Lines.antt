-- The three lines of a listing: document 01, section "Program", "Header: number, reason, place, tokens, steps, nodes, keys; then nodes, then one eight-digit key offset a line", with the widths of its example.
use Rattle.std.specs.Prelude.{List, [], ◌∷◌, ◌++◌, ℕ, ◌+◌, ◌*◌, get_or}
use Rattle.listing.specs.declared.Header.{Header}
use Rattle.listing.specs.Digits.{digits}

abbrev pub SPACE : ℕ
SPACE = 32

abbrev pub LINE_FEED : ℕ
LINE_FEED = 10

-- words with single spaces between them, and a line feed at the end
abbrev pub line : List (List ℕ) → List ℕ
line [] = LINE_FEED ∷ []
line (word ∷ []) = word ++ (LINE_FEED ∷ [])
line (word ∷ next ∷ words) = word ++ (SPACE ∷ line (next ∷ words))

unfoldable pub header_line : Header → List ℕ
header_line h =
    line
    (digits 2 h.number ∷
    digits 2 h.reason ∷
    digits 8 h.place ∷
    digits 8 h.tokens ∷
    digits 8 h.steps ∷
    digits 8 h.nodes ∷
    digits 8 h.keys ∷
    [])

-- number j of node i, in a node table of nine numbers a node: kind, number, count, place, size, base, input, d, u
abbrev pub node_field : List ℕ → ℕ → ℕ → ℕ
node_field nodes i j = get_or nodes (9 * i + j) 0

-- base, input, d and u run together
unfoldable pub type_word : List ℕ → ℕ → List ℕ
type_word nodes i =
    digits 1 (node_field nodes i 5)
    ++ digits 1 (node_field nodes i 6)
    ++ digits 1 (node_field nodes i 7)
    ++ digits 1 (node_field nodes i 8)

unfoldable pub node_line : List ℕ → ℕ → List ℕ
node_line nodes i =
    line
    (digits 2 (node_field nodes i 0) ∷
    digits 8 (node_field nodes i 1) ∷
    digits 8 (node_field nodes i 2) ∷
    digits 8 (node_field nodes i 3) ∷
    digits 8 (node_field nodes i 4) ∷
    type_word nodes i ∷
    [])

unfoldable pub key_line : List ℕ → ℕ → List ℕ
key_line keys i = line (digits 8 (get_or keys i 0) ∷ [])
