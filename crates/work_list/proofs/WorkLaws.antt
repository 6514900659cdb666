-- The work list that a work table holds: what entering entries makes of it, what taking one leaves, and that what lies above the newest entry never matters. Assumes nothing.
-- Why: an entry is read off one cell, and a packed entry is unpacked to itself.
use mathlib.Core.Path.{◌≡◌, sym, ap, ◌∙◌}
use mathlib.Core.List.{List, [], ◌∷◌, map, reverse_aux}
use Prim.Native.Nat.{ℕ, zero, suc, ◌+◌, ◌-◌, ◌≤◌, ◌<◌}
use native.Mathlib.Omega.{arith}
use lib.ListN.{length, get_or, set, take, length-map, get_or-map}
use Rattle.std.proofs.lemmas.List.{length-take-le, map-append, take_more}
use Rattle.tables.specs.Tables.{put_at}
use Rattle.tables.proofs.PutLaws.{put_inside, put_before, put_more}
use Rattle.tables.proofs.NewestLaws.{newest_same, newest_grown, newest_pop}
use Rattle.row.specs.declared.NonTerm.{NonTerm}
use Rattle.row.specs.declared.NonTerm.TheVariants.{Expression}
use Rattle.row.specs.Request.{entry_of}
use Rattle.work_list.specs.Work.{packed, Small, AllSmall, unpacked, entry_at, work_of}
use Rattle.work_list.proofs.PackLaws.{unpacked_packed}

-- One store more, of an entry's number: before turn i of `enter` the first i entries are written

pub enters_more : (work : List ℕ) (w : ℕ) {written : List ℕ} {i x : ℕ} (es : List NonTerm) → i < length es → written ≡ put_at work w (map packed (take i es)) → x ≡ packed (get_or es i Expression)
    → set written (w + i) x ≡ put_at work w (map packed (take (i + 1) es))
enters_more work w {written} {i} es h e p =
    let a : NonTerm = get_or es i Expression in
    let l : length (map packed (take i es)) ≡ i = length-map (take i es) packed ∙ length-take-le i es (omega arith) in
    ap (set written (w + i)) p
    ∙ ap (λ (t : List ℕ). set t (w + i) (packed a)) e
    ∙ ap (λ (n : ℕ). set (put_at work w (map packed (take i es))) (w + n) (packed a)) (sym l)
    ∙ put_more work w (map packed (take i es)) (packed a)
    ∙ ap (put_at work w) (sym (map-append packed (take i es) (a ∷ [])) ∙ ap (map packed) (sym (take_more es i Expression h)))

-- Entering

-- the entries of a list of entries
pub all_small : (es : List NonTerm) → AllSmall es → (j : ℕ) → j < length es → Small (get_or es j Expression)
all_small [] s j h = absurd (omega arith)
all_small (e ∷ es) s zero h = s.0
all_small (e ∷ es) s (suc j) h = all_small es s.1 j (omega arith)

module _ (work : List ℕ) (w : ℕ) where
  -- a cell below keeps its entry, and the cells written hold the new ones
  kept : (es : List NonTerm) (i : ℕ) → i < w → entry_at (put_at work w (map packed es)) i ≡ entry_at work i
  kept es i h = ap (λ (number : ℕ). entry_of (unpacked number)) (put_before work w i (map packed es) h)

  written : (es : List NonTerm) → w + length es ≤ length work → AllSmall es → (j : ℕ) → j < length es
      → entry_at (put_at work w (map packed es)) (w + j) ≡ get_or (map entry_of es) j (entry_of Expression)
  written es h s j b =
      let l : length (map packed es) ≡ length es = length-map es packed in
      ap (λ (number : ℕ). entry_of (unpacked number))
      (put_inside work w j (map packed es) (omega arith) (omega arith) ∙ get_or-map packed es j Expression)
      ∙ ap entry_of (unpacked_packed (get_or es j Expression) (all_small es s j b))
      ∙ sym (get_or-map entry_of es j Expression)

  -- entries are pushed in turn, the last one on top
  pub entered : (es : List NonTerm) → w + length es ≤ length work → AllSmall es → work_of (put_at work w (map packed es)) (w + length es) ≡ reverse_aux (map entry_of es) (work_of work w)
  entered es h s =
      let l : length (map entry_of es) ≡ length es = length-map es entry_of in
      ap (λ (n : ℕ). work_of (put_at work w (map packed es)) (w + n)) (sym l)
      ∙ newest_grown (entry_at work) (entry_at (put_at work w (map packed es))) w (map entry_of es) (entry_of Expression) (kept es) (λ j b. written es h s j (omega arith))

-- Taking

-- the entry that `take` answers, over those that are left
pub taken : (work : List ℕ) (w : ℕ) → 1 ≤ w → work_of work w ≡ entry_of (unpacked (get_or work (w - 1) 0)) ∷ work_of work (w - 1)
taken work w h = newest_pop (entry_at work) w h

-- What lies at w or above

pub same_below : (work other : List ℕ) (w : ℕ) → ((i : ℕ) → i < w → get_or other i 0 ≡ get_or work i 0) → work_of other w ≡ work_of work w
same_below work other w e = newest_same (entry_at work) (entry_at other) w (λ i h. ap (λ (number : ℕ). entry_of (unpacked number)) (e i h))
