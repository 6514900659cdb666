-- The whole listing of a script: document 01, section "Program": the header, then the nodes, then the keys. "A refusal is its header alone", since it has no nodes and no keys.
use Rattle.std.specs.Prelude.{List, [], ◌++◌, ℕ, zero, suc, ◌-◌, eqb, leb}
use Rattle.tables.specs.Choose.{pick}
use Rattle.listing.specs.declared.Header.{Header}
use Rattle.listing.specs.Lines.{header_line, node_line, key_line}

-- lines i, i + 1 and so on, so many
abbrev pub lines_from : (ℕ → List ℕ) → ℕ → ℕ → List ℕ
lines_from line_of i zero = []
lines_from line_of i (suc n) = line_of i ++ lines_from line_of (suc i) n

abbrev pub listing : Header → List ℕ → List ℕ → List ℕ
listing h nodes keys = header_line h ++ lines_from (node_line nodes) 0 h.nodes ++ lines_from (key_line keys) 0 h.keys

-- line k of a listing: 0 is the header, then come the nodes, then the keys
unfoldable pub line_at : Header → List ℕ → List ℕ → ℕ → List ℕ
line_at h nodes keys k = pick (eqb k 0) (header_line h) (pick (leb k h.nodes) (node_line nodes (k - 1)) (key_line keys (k - 1 - h.nodes)))
