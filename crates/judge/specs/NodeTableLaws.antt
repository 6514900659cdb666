-- The flat node table, read by index: its newest node and what lies under that node's subtree; nodes written one after the other are read back; and a node more is put on the front of the list, or behind the nodes of the table. Assumes nothing.
use Rattle.std.specs.Prelude.{◌≡◌, refl, List, [], ◌∷◌, ◌++◌, map, reverse, ℕ, zero, suc, ◌+◌, ◌-◌, ◌*◌, ◌≤◌, ◌<◌, length, get_or, drop}
use Rattle.std.proofs.Common.{sym, ap, subst, ◌∙◌, add-zero, arith}
use Rattle.std.proofs.lemmas.List.{map-append, length-map}
use Rattle.tables.specs.Tables.{zeros, flat, put_at, newest}
use Rattle.tables.proofs.PutLaws.{put_inside, put_before}
use Rattle.tables.proofs.FlatLaws.{strided_map, append_entry}
use Rattle.tables.proofs.NewestLaws.{newest_all, newest_push, newest_pop, newest_drop}
use Rattle.standard.specs.Table.{Node, cells}
use Rattle.judge.specs.Nodes.{no_node, top_node, under_top}
use Rattle.judge.specs.NodeTable.{node_at, size_at, Subtrees}

-- The newest subtree

module _ (t : List ℕ) (m : ℕ) (some : 1 ≤ m) where
  pub top_read : top_node (newest (node_at t) m) ≡ node_at t (m - 1)
  top_read = ap top_node (newest_pop (node_at t) m some)

  pub under_read : {s : ℕ} → s ≡ size_at t (m - 1) → under_top (newest (node_at t) m) ≡ newest (node_at t) (m - s)
  under_read {s} e =
      ap (λ (n : Node). drop n.size (newest (node_at t) m)) top_read
      ∙ ap (λ (k : ℕ). drop k (newest (node_at t) m)) (sym e)
      ∙ newest_drop (node_at t) m s

-- A node by its cells

abbrev node_by : (ℕ → ℕ) → Node
node_by cell = record { kind = cell 0; number = cell 1; count = cell 2; place = cell 3; size = cell 4; base = cell 5; input = cell 6; d = cell 7; u = cell 8 }

abbrev nine : ℕ → ℕ → ℕ → ℕ → ℕ → ℕ → ℕ → ℕ → ℕ → Node
nine a b c d e f g h i = record { kind = a; number = b; count = c; place = d; size = e; base = f; input = g; d = h; u = i }

same_node : (f g : ℕ → ℕ) → ((j : ℕ) → j < 9 → f j ≡ g j) → node_by f ≡ node_by g
same_node f g e =
    ap (λ (x : ℕ). nine x (f 1) (f 2) (f 3) (f 4) (f 5) (f 6) (f 7) (f 8)) (e 0 (omega arith))
    ∙ ap (λ (x : ℕ). nine (g 0) x (f 2) (f 3) (f 4) (f 5) (f 6) (f 7) (f 8)) (e 1 (omega arith))
    ∙ ap (λ (x : ℕ). nine (g 0) (g 1) x (f 3) (f 4) (f 5) (f 6) (f 7) (f 8)) (e 2 (omega arith))
    ∙ ap (λ (x : ℕ). nine (g 0) (g 1) (g 2) x (f 4) (f 5) (f 6) (f 7) (f 8)) (e 3 (omega arith))
    ∙ ap (λ (x : ℕ). nine (g 0) (g 1) (g 2) (g 3) x (f 5) (f 6) (f 7) (f 8)) (e 4 (omega arith))
    ∙ ap (λ (x : ℕ). nine (g 0) (g 1) (g 2) (g 3) (g 4) x (f 6) (f 7) (f 8)) (e 5 (omega arith))
    ∙ ap (λ (x : ℕ). nine (g 0) (g 1) (g 2) (g 3) (g 4) (g 5) x (f 7) (f 8)) (e 6 (omega arith))
    ∙ ap (λ (x : ℕ). nine (g 0) (g 1) (g 2) (g 3) (g 4) (g 5) (g 6) x (f 8)) (e 7 (omega arith))
    ∙ ap (λ (x : ℕ). nine (g 0) (g 1) (g 2) (g 3) (g 4) (g 5) (g 6) (g 7) x) (e 8 (omega arith))

abbrev cell_at : List ℕ → ℕ → ℕ → ℕ
cell_at t i j = get_or t (9 * i + j) 0

node_cells_lem : (t : List ℕ) (i : ℕ) → node_by (cell_at t i) ≡ node_at t i
node_cells_lem t i =
    ap (λ (k : ℕ). nine (get_or t k 0) (cell_at t i 1) (cell_at t i 2) (cell_at t i 3) (cell_at t i 4) (cell_at t i 5) (cell_at t i 6) (cell_at t i 7) (cell_at t i 8)) (add-zero (9 * i))

-- two nodes are the same if their cells are
same_cells : (t u : List ℕ) (i k : ℕ) → ((j : ℕ) → j < 9 → cell_at t i j ≡ cell_at u k j) → node_at t i ≡ node_at u k
same_cells t u i k e = sym (node_cells_lem t i) ∙ same_node (cell_at t i) (cell_at u k) e ∙ node_cells_lem u k

-- Nodes written one after the other

node_behind : (n : Node) (t : List ℕ) (i : ℕ) → node_at (cells n ++ t) (suc i) ≡ node_at t i
node_behind n t i =
    same_cells (cells n ++ t) t (suc i) i
    (λ j h.
    let e : 9 * suc i + j ≡ suc (suc (suc (suc (suc (suc (suc (suc (suc (9 * i + j))))))))) = omega arith in
    ap (λ (k : ℕ). get_or (cells n ++ t) k 0) e)

pub node_read : (ns : List Node) (rest : List ℕ) (i : ℕ) → i < length ns → node_at (flat (map cells ns) ++ rest) i ≡ get_or ns i no_node
node_read [] rest i h = let e : ⊥ = omega arith in absurd e
node_read (n ∷ ns) rest zero h = refl
node_read (n ∷ ns) rest (suc i) h = node_behind n (flat (map cells ns) ++ rest) i ∙ node_read ns rest i (omega arith)

-- the first nodes of the table, the newest first
pub table_read : (ns : List Node) (rest : List ℕ) → newest (node_at (flat (map cells ns) ++ rest)) (length ns) ≡ reverse ns
table_read ns rest = newest_all (node_at (flat (map cells ns) ++ rest)) ns no_node (node_read ns rest)

-- One node more

-- on the front of the list
pub put_newest : (t : List ℕ) (m : ℕ) (n : Node) → 9 * m + 9 ≤ length t → newest (node_at (put_at t (9 * m) (cells n))) (m + 1) ≡ n ∷ newest (node_at t) m
put_newest t m n room =
    newest_push (node_at t) (node_at (put_at t (9 * m) (cells n))) m n
    (λ i h. same_cells (put_at t (9 * m) (cells n)) t i i (λ j b. put_before t (9 * m) (9 * i + j) (cells n) (omega arith)))
    (sym (node_cells_lem (put_at t (9 * m) (cells n)) m)
    ∙ same_node (cell_at (put_at t (9 * m) (cells n)) m) (λ j. get_or (cells n) j 0) (λ j b. put_inside t (9 * m) j (cells n) room b))

-- behind the nodes of the table, with zeros after it
pub put_flat : (size : ℕ) (ns : List Node) (n : Node) → 9 * (length ns + 1) ≤ size
    → put_at (flat (map cells ns) ++ zeros (size - 9 * length ns)) (9 * length ns) (cells n) ≡ flat (map cells (ns ++ (n ∷ []))) ++ zeros (size - 9 * (length ns + 1))
put_flat size ns n room =
    append_entry 9 size (length ns) (map cells ns) (cells n) (strided_map 9 cells (λ x. refl) ns) refl (length-map ns cells) room
    ∙ ap (λ (es : List (List ℕ)). flat es ++ zeros (size - 9 * (length ns + 1))) (sym (map-append cells ns (n ∷ [])))

-- Subtrees one after the other

pub one_more : (n i : ℕ) → i < n → n - i ≡ suc (n - (i + 1))
one_more n i more = omega arith

-- of n subtrees that stand one after the other i are done: the next one is there, and those after it
pub next_there : (t : List ℕ) (n : ℕ) {at i : ℕ} → i < n → Subtrees (n - i) at t
    → (1 ≤ at) × (1 ≤ size_at t (at - 1)) × (size_at t (at - 1) ≤ at) × Subtrees (n - (i + 1)) (at - size_at t (at - 1)) t
next_there t n {at} {i} more waiting = subst (λ (k : ℕ). Subtrees k at t) (one_more n i more) waiting
