-- The key table of the finished trees: a new tree's own keys stand behind those of its children. How many keys it has, TableLaws of `standard` says. Assumes nothing.
use Rattle.std.specs.Prelude.{◌≡◌, refl, List, ◌++◌, ℕ}
use Rattle.std.proofs.Common.{sym, ap, ◌∙◌, append_assoc, append-nil}
use Rattle.standard.specs.Tree.{Tree, Trees, leaf, wrap, join, and_or, thresh, ◌⊳◌, ◌⊕◌}
use Rattle.standard.specs.Table.{keys_of, key_table}
use Rattle.standard.proofs.TableLaws.{key_table_append}
use Rattle.forest.specs.Forest.{children, own_keys}

own_keys_last : (t : Tree) → keys_of t ≡ key_table (children t) ++ own_keys t
own_keys_last (leaf l) = refl
own_keys_last (wrap w x) = sym (append-nil (keys_of x))
own_keys_last (join c x y) = sym (append-nil (keys_of y ++ keys_of x))
own_keys_last (and_or x y z) = sym (append-nil ((keys_of y ++ keys_of z) ++ keys_of x) ∙ append_assoc (keys_of y) (keys_of z) (keys_of x))
own_keys_last (thresh k x xs) = sym (append-nil (key_table xs ++ keys_of x))

pub new_keys : (t : Tree) (done : Trees) → key_table (t ⊳ done) ≡ key_table (◌⊕◌ (children t) done) ++ own_keys t
new_keys t done =
    ap (λ (l : List ℕ). key_table done ++ l) (own_keys_last t)
    ∙ sym (append_assoc (key_table done) (key_table (children t)) (own_keys t))
    ∙ ap (λ (l : List ℕ). l ++ own_keys t) (sym (key_table_append (children t) done))
