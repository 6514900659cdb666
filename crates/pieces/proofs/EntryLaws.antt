-- Entering pieces into the work table: the loops, and the list of pieces that the table then holds. Assumes nothing.
use mathlib.Core.Path.{◌≡◌, refl, sym, ap, ◌∙◌}
use mathlib.Core.Bool.{Bool, true, false}
use mathlib.Core.List.{List, [], ◌∷◌, ◌++◌, map, reverse, reverse_aux, reverse-append}
use Prim.Native.Nat.{ℕ, zero, suc, ◌+◌, ◌-◌, ◌*◌, ◌/◌, ◌%◌, ◌≤◌, ◌<◌}
use native.Mathlib.Nat.{mod-eq_of_lt}
use native.Mathlib.Omega.{arith}
use lib.Dec.{eqb}
use lib.ListN.{length, get_or, set, length-set, length-append}
use Rattle.tables.specs.Choose.{pick}
use Rattle.tables.specs.Tables.{put_at}
use Rattle.tables.proofs.PutLaws.{put_more, put_before, put_inside}
use Rattle.tables.proofs.NewestLaws.{newest_grown, newest_pop}
use Rattle.lex.specs.Token.{ADD, EQUAL, NUM}
use Rattle.pieces.specs.Pieces.{Piece, SUBTREE, piece_for, value_for, entry_for, entries, piece_of, pieces_in, add_tags, thresh_tags}

-- One entry

value_small : (number place tag : ℕ) → number < 4294967296 → place < 4294967296 → value_for number place tag < 4294967296
value_small number place tag a b = by (eqb tag NUM)
  where
    by : (t : Bool) → pick t number place < 4294967296
    by true = a
    by false = b

-- the piece of an entry
entry_piece : (material : List ℕ) (number place tag : ℕ) → number < 4294967296 → place < 4294967296 → tag < 64
    → piece_of material (entry_for number place tag) ≡ piece_for material tag (value_for number place tag)
unfolding piece_of
entry_piece material number place tag a b t =
    by (value_for number place tag) (value_small number place tag a b)
  where
    by : (v : ℕ) → v < 4294967296 → piece_for material ((tag + 64 * v) % 64) ((tag + 64 * v) / 64 % 4294967296) ≡ piece_for material tag v
    by v h =
        let e : (tag + 64 * v) % 64 ≡ tag = omega arith in
        let q : (tag + 64 * v) / 64 ≡ v = omega arith in
        let f : (tag + 64 * v) / 64 % 4294967296 ≡ v = ap (λ (k : ℕ). k % 4294967296) q ∙ mod-eq_of_lt h in
        ap (λ (k : ℕ). piece_for material k ((tag + 64 * v) / 64 % 4294967296)) e ∙ ap (piece_for material tag) f

-- Several

abbrev pub AllTags : List ℕ → Type 0
AllTags [] = Unit {0}
AllTags (t ∷ ts) = (t < 64) × AllTags ts

abbrev pub piece_with : List ℕ → ℕ → ℕ → ℕ → Piece
piece_with material number place tag = piece_for material tag (value_for number place tag)

map_length : {A B : Type 0} (f : A → B) (l : List A) → length (map f l) ≡ length l
map_length f [] = refl
map_length f (x ∷ l) = ap suc (map_length f l)

module _ (material work : List ℕ) (w number place : ℕ) (a : number < 4294967296) (b : place < 4294967296) where
  -- entries are pushed in turn, the last one on top
  pub entered : (ts : List ℕ) → w + length ts ≤ length work → AllTags ts
      → pieces_in material (put_at work w (entries number place ts)) (w + length ts) ≡ reverse_aux (map (piece_with material number place) ts) (pieces_in material work w)
  entered ts h s =
      let l : length (map (piece_with material number place) ts) ≡ length ts = map_length (piece_with material number place) ts in
      let m : length (entries number place ts) ≡ length ts = map_length (entry_for number place) ts in
      ap (λ (n : ℕ). pieces_in material (put_at work w (entries number place ts)) (w + n)) (sym l)
      ∙ newest_grown (λ i. piece_of material (get_or work i 0)) (λ i. piece_of material (get_or (put_at work w (entries number place ts)) i 0)) w
      (map (piece_with material number place) ts) (piece_with material number place 0)
      (λ i k. ap (piece_of material) (put_before work w i (entries number place ts) k))
      (λ j k.
      ap (piece_of material) (put_inside work w j (entries number place ts) (omega arith) (omega arith))
      ∙ at ts j (omega arith) s)
    where
      at : (us : List ℕ) (j : ℕ) → j < length us → AllTags us → piece_of material (get_or (entries number place us) j 0) ≡ get_or (map (piece_with material number place) us) j (piece_with material number place 0)
      at [] j k s = absurd (omega arith)
      at (u ∷ us) zero k s = entry_piece material number place u a b s.0
      at (u ∷ us) (suc j) k s = at us j (omega arith) s.1

-- Taking

pub taken : (material work : List ℕ) (w : ℕ) → 1 ≤ w → pieces_in material work w ≡ piece_of material (get_or work (w - 1) 0) ∷ pieces_in material work (w - 1)
taken material work w h = newest_pop (λ i. piece_of material (get_or work i 0)) w h

-- One entry behind several

entries_more : (before : List ℕ) (w number place : ℕ) (done : List ℕ) (tag x n : ℕ) (now : List ℕ) → now ≡ put_at before w (entries number place done) → n ≡ w + length done → x ≡ entry_for number place tag
    → set now n x ≡ put_at before w (entries number place (done ++ (tag ∷ [])))
entries_more before w number place done tag x n now h e f =
    let l : length (entries number place done) ≡ length done = map_length (entry_for number place) done in
    let k : n ≡ w + length (entries number place done) = omega arith in
    ap (λ (t : List ℕ). set t n x) h
    ∙ ap (λ (i : ℕ). set (put_at before w (entries number place done)) i x) k
    ∙ ap (λ (y : ℕ). set (put_at before w (entries number place done)) (w + length (entries number place done)) y) f
    ∙ put_more before w (entries number place done) (entry_for number place tag)
    ∙ ap (put_at before w) (sym (map_snoc done))
  where
    map_snoc : (l : List ℕ) → entries number place (l ++ (tag ∷ [])) ≡ entries number place l ++ (entry_for number place tag ∷ [])
    map_snoc [] = refl
    map_snoc (y ∷ l) = ap (λ (r : List ℕ). entry_for number place y ∷ r) (map_snoc l)

-- The loop over the tags of a template

-- `rest` are the tags still to be entered, the first one last
pub record Entering (before now : List ℕ) (w number place : ℕ) (tags rest : List ℕ) (n : ℕ) : Type 0 where
  pub done : List ℕ
  pub parts : reverse tags ≡ done ++ reverse rest
  pub at : n ≡ w + length done
  pub kept : length now ≡ length before
  pub holds : now ≡ put_at before w (entries number place done)

snoc : (l : List ℕ) (x : ℕ) (r : List ℕ) → l ++ (x ∷ r) ≡ (l ++ (x ∷ [])) ++ r
snoc [] x r = refl
snoc (y ∷ l) x r = ap (λ (s : List ℕ). y ∷ s) (snoc l x r)

module _ {before : List ℕ} {w number place : ℕ} {tags : List ℕ} where
  module _ {now rest : List ℕ} {n : ℕ} (c : Entering before now w number place tags rest n) where
    module _ (next : List ℕ) (tag : ℕ) (one : rest ≡ next ++ (tag ∷ [])) where
      pub tag_turned : (x i k : ℕ) → x ≡ entry_for number place tag → i ≡ n → k ≡ n + 1 → Entering before (set now i x) w number place tags next k
      tag_turned x i k v here behind =
          record {
            done = c.done ++ (tag ∷ []);
            parts = c.parts ∙ ap (λ (l : List ℕ). c.done ++ l) (ap reverse one ∙ reverse-append next (tag ∷ [])) ∙ snoc c.done tag (reverse next);
            at = omega (arith, c.at, length-append c.done (tag ∷ []), behind);
            kept = length-set now i x ∙ c.kept;
            holds = entries_more before w number place c.done tag x i now c.holds (here ∙ c.at) v;
          }

-- The loop over a thresh's children

abbrev added : ℕ → List ℕ
added i = EQUAL ∷ NUM ∷ add_tags i []

add_length : (i : ℕ) (rest : List ℕ) → length (add_tags i rest) ≡ 2 * i + length rest
add_length zero rest = omega arith
add_length (suc i) rest = omega (arith, add_length i rest)

add_more : (i : ℕ) (rest : List ℕ) → add_tags i [] ++ rest ≡ add_tags i rest
add_more zero rest = refl
add_more (suc i) rest = ap (λ (l : List ℕ). ADD ∷ SUBTREE ∷ l) (add_more i rest)

add_last : (i : ℕ) → add_tags i (ADD ∷ SUBTREE ∷ []) ≡ add_tags (suc i) []
add_last zero = refl
add_last (suc i) = ap (λ (l : List ℕ). ADD ∷ SUBTREE ∷ l) (add_last i)

pub thresh_length : (further : ℕ) → length (thresh_tags further) ≡ 2 * further + 3
thresh_length further = omega (arith, add_length further (SUBTREE ∷ []))

pub record Adding (before now : List ℕ) (w further number place i n : ℕ) : Type 0 where
  pub within : i ≤ further
  pub at : n ≡ w + 2 + 2 * i
  pub kept : length now ≡ length before
  pub holds : now ≡ put_at before w (entries number place (added i))

-- before the loop
pub thresh_start : (before : List ℕ) (w number place x y : ℕ) → x ≡ entry_for number place EQUAL → y ≡ entry_for number place NUM
    → set (set before w x) (w + 1) y ≡ put_at before w (entries number place (EQUAL ∷ NUM ∷ []))
thresh_start before w number place x y e f =
    ap (λ (k : ℕ). set (set before w k) (w + 1) y) e ∙ ap (λ (k : ℕ). set (set before w (entry_for number place EQUAL)) (w + 1) k) f

-- whatever the table held before the first two
abbrev pub AddingFrom : List ℕ → List ℕ → ℕ → ℕ → ℕ → ℕ → ℕ → ℕ → Type 0
AddingFrom start now w further number place i n = (before : List ℕ) → start ≡ put_at before w (entries number place (EQUAL ∷ NUM ∷ [])) → Adding before now w further number place i n

module _ {before : List ℕ} {w further number place : ℕ} where
  module _ {now : List ℕ} {i n : ℕ} (c : Adding before now w further number place i n) where
    at_added : n ≡ w + length (added i)
    at_added = omega (arith, c.at, add_length i [])

    pub thresh_turned : (x y : ℕ) → i < further → x ≡ entry_for number place ADD → y ≡ entry_for number place SUBTREE
        → Adding before (set (set now n x) (n + 1) y) w further number place (i + 1) (w + 2 + 2 * (i + 1))
    thresh_turned x y h e f =
        let s : suc i ≡ i + 1 = omega arith in
        let one : set now n x ≡ put_at before w (entries number place (added i ++ (ADD ∷ []))) = entries_more before w number place (added i) ADD x n now c.holds at_added e in
        let l : n + 1 ≡ w + length (added i ++ (ADD ∷ [])) = omega (arith, at_added, length-append (added i) (ADD ∷ [])) in
        let same : (added i ++ (ADD ∷ [])) ++ (SUBTREE ∷ []) ≡ added (i + 1) =
        sym (snoc (added i) ADD (SUBTREE ∷ [])) ∙ ap (λ (r : List ℕ). EQUAL ∷ NUM ∷ r) (add_more i (ADD ∷ SUBTREE ∷ []) ∙ add_last i) ∙ ap added s in
        record {
          within = omega arith;
          at = refl;
          kept = length-set (set now n x) (n + 1) y ∙ length-set now n x ∙ c.kept;
          holds = entries_more before w number place (added i ++ (ADD ∷ [])) SUBTREE y (n + 1) (set now n x) one l f ∙ ap (λ (r : List ℕ). put_at before w (entries number place r)) same;
        }

    pub thresh_ended : (x : ℕ) → further ≤ i → x ≡ entry_for number place SUBTREE
        → (set now (w + 2 + 2 * further) x ≡ put_at before w (entries number place (thresh_tags further))) × (w + 2 + 2 * further + 1 ≡ w + 2 * further + 3)
    thresh_ended x h e =
        let j : i ≤ further = c.within in
        let z : i ≡ further = omega arith in
        let k : w + 2 + 2 * further ≡ w + length (added i) = omega (arith, at_added, c.at) in (
          entries_more before w number place (added i) SUBTREE x (w + 2 + 2 * further) now c.holds k e
              ∙ ap (λ (r : List ℕ). put_at before w (entries number place (EQUAL ∷ NUM ∷ r))) (add_more i (SUBTREE ∷ []))
              ∙ ap (λ (k : ℕ). put_at before w (entries number place (thresh_tags k))) z,
          omega arith,
        )
