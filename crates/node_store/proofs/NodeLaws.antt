-- The nine numbers of `put`, copied over a part of the table, are one node put at its place. Assumes nothing.
use mathlib.Core.Path.{◌≡◌, sym, ap, ◌∙◌}
use mathlib.Core.List.{List, ◌++◌}
use Prim.Native.Nat.{ℕ, ◌+◌, ◌≤◌}
use lib.ListN.{length, take, drop}
use borrow.Rule.Slice.PartMut.{put_mid}
use Rattle.std.proofs.lemmas.List.{append_assoc, drop-drop}
use Rattle.tables.specs.Tables.{put_at}
use Rattle.tables.proofs.PutLaws.{put_parts}
use Rattle.standard.specs.Table.{Node, cells}

pub nine_copied : (t : List ℕ) (i : ℕ) (x : Node) {k : ℕ} {written : List ℕ} → k ≡ 9 → i + 9 ≤ length t → written ≡ cells x → put_mid i k t written ≡ put_at t i (cells x)
nine_copied t i x {k} {written} e h w =
    ap (λ (n : ℕ). put_mid i n t written) e
    ∙ ap (put_mid i 9 t) w
    ∙ ap (λ (rest : List ℕ). take i t ++ (cells x ++ rest)) (drop-drop 9 i t)
    ∙ sym (append_assoc (take i t) (cells x) (drop (i + 9) t))
    ∙ sym (put_parts t i (cells x) h)
