-- For the proof: what a list of pieces says over the trees whose nodes are still to be taken: the lexemes still to be written.
use Rattle.std.specs.Prelude.{List, [], ◌∷◌, ℕ, suc, ◌+◌, ◌-◌, ◌*◌, length}
use Rattle.lex.specs.Token.{Lexeme}
use Rattle.standard.specs.Tree.{Trees, nil, ◌⊳◌}
use Rattle.standard.specs.Written.{tree_before}
use Rattle.pieces.specs.Pieces.{Piece, subtree, writes}

-- each subtree is the next tree
abbrev pub text : List Piece → Trees → List Lexeme
text [] us = []
text (writes l ∷ ps) us = l ∷ text ps us
text (subtree ∷ ps) nil = []
text (subtree ∷ ps) (u ⊳ us) = tree_before u (text ps us)

-- how many subtrees
abbrev pub subtrees : List Piece → ℕ
subtrees [] = 0
subtrees (writes l ∷ ps) = subtrees ps
subtrees (subtree ∷ ps) = suc (subtrees ps)

-- falls with each step of the pass: a node brings at most seven pieces more than two for each subtree among them
abbrev pub to_write : List Piece → ℕ → ℕ
to_write ps left = 9 * left + length ps - 2 * subtrees ps
