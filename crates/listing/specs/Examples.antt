-- Document 01's example: the listing of `006351670068`, byte for byte, by computation from its header and its node table.
use Rattle.std.specs.Prelude.{◌≡◌, refl, List, [], ◌∷◌, ℕ}
use Rattle.listing.specs.declared.Header.{Header}
use Rattle.listing.specs.Lines.{header_line, type_word, node_line, key_line}
use Rattle.listing.specs.Listing.{listing}

-- accepted, 5 tokens, 8 steps, 3 nodes
abbrev example_header : Header
example_header = record { number = 0; reason = 0; place = 0; tokens = 5; steps = 8; nodes = 3; keys = 0 }

-- False, True and or_i of the two, nine numbers each
abbrev example_nodes : List ℕ
example_nodes =
    2 ∷ 0 ∷ 0 ∷ 0 ∷ 1 ∷ 1 ∷ 1 ∷ 1 ∷ 1 ∷
    1 ∷ 0 ∷ 0 ∷ 0 ∷ 1 ∷ 1 ∷ 1 ∷ 0 ∷ 1 ∷
    25 ∷ 0 ∷ 0 ∷ 0 ∷ 3 ∷ 1 ∷ 2 ∷ 1 ∷ 1 ∷
    []

-- 00 00 00000000 00000005 00000008 00000003 00000000
-- 02 00000000 00000000 00000000 00000001 1111
-- 01 00000000 00000000 00000000 00000001 1101
-- 19 00000000 00000000 00000000 00000003 1211
abbrev example_text : List ℕ
example_text =
    48 ∷ 48 ∷ 32 ∷ 48 ∷ 48 ∷ 32 ∷ 48 ∷ 48 ∷ 48 ∷ 48 ∷ 48 ∷ 48 ∷ 48 ∷ 48 ∷ 32 ∷ 48 ∷ 48 ∷ 48 ∷ 48 ∷ 48 ∷ 48 ∷ 48 ∷ 53 ∷ 32 ∷ 48 ∷ 48 ∷ 48 ∷ 48 ∷ 48 ∷ 48 ∷ 48 ∷ 56 ∷ 32 ∷ 48 ∷ 48 ∷ 48 ∷ 48 ∷ 48 ∷ 48 ∷ 48 ∷ 51 ∷ 32 ∷ 48 ∷ 48 ∷ 48 ∷ 48 ∷ 48 ∷ 48 ∷ 48 ∷ 48 ∷ 10 ∷
    48 ∷ 50 ∷ 32 ∷ 48 ∷ 48 ∷ 48 ∷ 48 ∷ 48 ∷ 48 ∷ 48 ∷ 48 ∷ 32 ∷ 48 ∷ 48 ∷ 48 ∷ 48 ∷ 48 ∷ 48 ∷ 48 ∷ 48 ∷ 32 ∷ 48 ∷ 48 ∷ 48 ∷ 48 ∷ 48 ∷ 48 ∷ 48 ∷ 48 ∷ 32 ∷ 48 ∷ 48 ∷ 48 ∷ 48 ∷ 48 ∷ 48 ∷ 48 ∷ 49 ∷ 32 ∷ 49 ∷ 49 ∷ 49 ∷ 49 ∷ 10 ∷
    48 ∷ 49 ∷ 32 ∷ 48 ∷ 48 ∷ 48 ∷ 48 ∷ 48 ∷ 48 ∷ 48 ∷ 48 ∷ 32 ∷ 48 ∷ 48 ∷ 48 ∷ 48 ∷ 48 ∷ 48 ∷ 48 ∷ 48 ∷ 32 ∷ 48 ∷ 48 ∷ 48 ∷ 48 ∷ 48 ∷ 48 ∷ 48 ∷ 48 ∷ 32 ∷ 48 ∷ 48 ∷ 48 ∷ 48 ∷ 48 ∷ 48 ∷ 48 ∷ 49 ∷ 32 ∷ 49 ∷ 49 ∷ 48 ∷ 49 ∷ 10 ∷
    49 ∷ 57 ∷ 32 ∷ 48 ∷ 48 ∷ 48 ∷ 48 ∷ 48 ∷ 48 ∷ 48 ∷ 48 ∷ 32 ∷ 48 ∷ 48 ∷ 48 ∷ 48 ∷ 48 ∷ 48 ∷ 48 ∷ 48 ∷ 32 ∷ 48 ∷ 48 ∷ 48 ∷ 48 ∷ 48 ∷ 48 ∷ 48 ∷ 48 ∷ 32 ∷ 48 ∷ 48 ∷ 48 ∷ 48 ∷ 48 ∷ 48 ∷ 48 ∷ 51 ∷ 32 ∷ 49 ∷ 50 ∷ 49 ∷ 49 ∷ 10 ∷
    []

pub example_listing : listing example_header example_nodes [] ≡ example_text
unfolding header_line type_word node_line key_line
example_listing = refl
