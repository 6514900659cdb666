-- Records stored in a flat table one after the other: what is still to be stored after each, over plain lists. Assumes nothing.
--     put_all i rs t    the records' numbers stored in t, the first record's as node number i
--     stored_end       with none left to store it is the table
--     stored_all       all of them stored, their numbers stand at the table's front
use mathlib.Core.Path.{◌≡◌, sym, ◌∙◌, ap}
use Prim.Native.Nat.{ℕ, suc, ◌<◌, ◌≤◌, ◌+◌, ◌*◌}
use native.Mathlib.Omega.{arith}
use mathlib.Core.List.{List, [], ◌∷◌, ◌++◌, map, append_assoc}
use lib.ListN.{length, get_or, take, drop, take-append-drop, drop_of_length-le, length-append}
use lib.Seq.{length-take-le, drop-cons, take_at, drop_at, drop-drop}
use Rattle.tables.specs.Tables.{flat, put_at}
use Rattle.tables.proofs.PutLaws.{put_parts, put_length}
use Rattle.judge.specs.declared.Node.{Node}
use Rattle.node_records.specs.Records.{zero_record, numbers_of, written_over}

abbrev pub put_all : ℕ → List Node → List ℕ → List ℕ
put_all i [] t = t
put_all i (v ∷ vs) t = put_all (i + 1) vs (put_at t (9 * i) (numbers_of v))

pub stored_end : (i : ℕ) (l : List Node) (t : List ℕ) → length l ≤ i → put_all i (drop i l) t ≡ t
stored_end i l t le = ap (λ (r : List Node). put_all i r t) (drop_of_length-le l le)

-- from node number i on
stored_from : (i : ℕ) (rs : List Node) (t : List ℕ) → 9 * (i + length rs) ≤ length t → put_all i rs t ≡ take (9 * i) t ++ (flat (map numbers_of rs) ++ drop (9 * (i + length rs)) t)
stored_from i [] t h =
    let e : 9 * i ≡ 9 * (i + 0) = omega arith in
    sym (take-append-drop (9 * i) t) ∙ ap (λ (k : ℕ). take (9 * i) t ++ drop k t) e
stored_from i (v ∷ vs) t h =
    let after : List ℕ = put_at t (9 * i) (numbers_of v) in
    let front : List ℕ = take (9 * i) t ++ numbers_of v in
    let parts : after ≡ front ++ drop (9 * i + 9) t = put_parts t (9 * i) (numbers_of v) (omega (arith, h)) in
    let f : length front ≡ 9 * (i + 1) = length-append (take (9 * i) t) (numbers_of v) ∙ omega (arith, length-take-le (9 * i) t (omega (arith, h))) in
    let same : length after ≡ length t = put_length t (9 * i) (numbers_of v) in
    let far : 9 * (i + 1 + length vs) ≡ 9 * (i + 1) + 9 * length vs = omega arith in
    let near : 9 * i + 9 + 9 * length vs ≡ 9 * (i + suc (length vs)) = omega arith in
    let begins : take (9 * (i + 1)) after ≡ front = ap (take (9 * (i + 1))) parts ∙ take_at front (drop (9 * i + 9) t) (9 * (i + 1)) f in
    let middle : drop (9 * (i + 1)) after ≡ drop (9 * i + 9) t = ap (drop (9 * (i + 1))) parts ∙ drop_at front (drop (9 * i + 9) t) (9 * (i + 1)) f in
    let ends : drop (9 * (i + 1 + length vs)) after ≡ drop (9 * (i + suc (length vs))) t =
    ap (λ (k : ℕ). drop k after) far ∙ sym (drop-drop (9 * length vs) (9 * (i + 1)) after) ∙ ap (drop (9 * length vs)) middle ∙ drop-drop (9 * length vs) (9 * i + 9) t ∙ ap (λ (k : ℕ). drop k t) near in
    stored_from (i + 1) vs after (omega (arith, h, same))
    ∙ ap (λ (l : List ℕ). l ++ (flat (map numbers_of vs) ++ drop (9 * (i + 1 + length vs)) after)) begins
    ∙ ap (λ (l : List ℕ). front ++ (flat (map numbers_of vs) ++ l)) ends
    ∙ append_assoc (take (9 * i) t) (numbers_of v) (flat (map numbers_of vs) ++ drop (9 * (i + suc (length vs))) t)

pub stored_all : (rs : List Node) (t : List ℕ) → 9 * length rs ≤ length t → put_all 0 rs t ≡ written_over rs t
unfolding written_over
stored_all rs t h =
    let e : 9 * (0 + length rs) ≡ 9 * length rs = omega arith in
    stored_from 0 rs t (omega (arith, h)) ∙ ap (λ (k : ℕ). flat (map numbers_of rs) ++ drop k t) e
