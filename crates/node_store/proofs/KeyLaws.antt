-- The loop that copies a multi's keys, and the key table when they are copied: as numbers with zeros behind. Assumes nothing.
-- Why: before turn i the offsets of the first i tokens are written, and the next token is the one that the loop has reached.
use mathlib.Core.Path.{◌≡◌, refl, sym, ap, ◌∙◌}
use mathlib.Core.List.{List, [], ◌∷◌, ◌++◌}
use Prim.Native.Nat.{min, ℕ, zero, suc, ◌+◌, ◌-◌, ◌*◌, ◌/◌, ◌%◌, ◌≤◌, ◌<◌}
use mathlib.Core.Logic.{⊎_elim, inl, inr}
use native.Mathlib.Nat.{eq-or-lt_of_le, mul-zero, mul-suc, div-add-mod', mod-lt}
use native.Mathlib.Omega.{arith}
use lib.ListN.{length, set, length-set, length-append, length-replicate, get_or-eq_default}
use Rattle.tables.specs.Tables.{zeros, put_at}
use Rattle.tables.proofs.PutLaws.{put_more}
use Rattle.tables.proofs.FlatLaws.{append_numbers}
use Rattle.row.specs.Request.{offsets_from}
use Rattle.node_store.specs.Stored.{keys_in}
use Rattle.node_store.specs.Offsets.{offset_at, SameToken}

-- Offsets

pub offsets_length : (table : List ℕ) (n first stride : ℕ) → length (offsets_from table n first stride) ≡ n
offsets_length table zero first stride = refl
offsets_length table (suc n) first stride = ap suc (offsets_length table n (first + stride) stride)

-- one more at the end
pub offsets_more : (table : List ℕ) (n first stride : ℕ) → offsets_from table n first stride ++ (offset_at table (first + stride * n) ∷ []) ≡ offsets_from table (suc n) first stride
offsets_more table zero first stride =
    let e : first + stride * 0 ≡ first = omega (arith, mul-zero stride) in
    ap (λ (i : ℕ). offset_at table i ∷ []) e
offsets_more table (suc n) first stride =
    let e : first + stride * suc n ≡ first + stride + stride * n = omega (arith, mul-suc stride n) in
    ap (λ (offsets : List ℕ). offset_at table first ∷ offsets)
    (ap (λ (i : ℕ). offsets_from table n (first + stride) stride ++ (offset_at table i ∷ [])) e ∙ offsets_more table n (first + stride) stride)

-- Tokens that aren't there

pub behind : (table : List ℕ) (i : ℕ) → length table / 3 ≤ i → offset_at table i ≡ 1
behind table i h =
    let d : length table / 3 * 3 + length table % 3 ≡ length table = div-add-mod' (length table) 3 in
    let m : length table % 3 < 3 = mod-lt (length table) (omega arith) in
    ap (λ (x : ℕ). x + 1) (get_or-eq_default table 0 (omega arith))

pub same_offset : (table : List ℕ) (i j : ℕ) → SameToken table i j → offset_at table i ≡ offset_at table j
same_offset table i j h = ⊎_elim (λ e. ap (offset_at table) e) (λ b. behind table i b.0 ∙ sym (behind table j b.1)) h

-- a stride further, or the last number that there is
pub saturated : (table : List ℕ) (at stride : ℕ) {r : ℕ} → length table < 18446744073709551616 → r ≡ min (at + stride) 18446744073709551615 → SameToken table r (at + stride)
saturated table at stride {r} h e =
    let most : r ≤ at + stride = omega arith in
    ⊎_elim (λ s. inl s) (λ l. inr (omega arith, omega arith)) (eq-or-lt_of_le most)

pub same_further : (table : List ℕ) (r at stride reached : ℕ) → SameToken table r (at + stride) → SameToken table at reached → SameToken table r (reached + stride)
same_further table r at stride reached h g =
    ⊎_elim
    (λ e. ⊎_elim (λ f. inl (omega arith)) (λ f. inr (omega arith, f.1)) (rw e at h))
    (λ b. ⊎_elim (λ f. inr (omega arith, omega arith)) (λ f. inr (f.0, omega arith)) h)
    g

-- The loop

-- before turn i, the next key at the token `at`
pub record Copying (table before now : List ℕ) (from n first stride i at : ℕ) : Type 0 where
  pub within : i ≤ n
  pub reached : SameToken table at (first + stride * i)
  pub kept : length now ≡ length before
  pub holds : now ≡ put_at before from (offsets_from table i first stride)

module _ {table before : List ℕ} {from n first stride : ℕ} where
  module _ {now : List ℕ} {i at : ℕ} (c : Copying table before now from n first stride i at) where
    pub turned : (next x : ℕ) → i < n → x ≡ offset_at table at → SameToken table next (at + stride) → Copying table before (set now (from + i) x) from n first stride (i + 1) next
    turned next x h v f =
        let l : length (offsets_from table i first stride) ≡ i = offsets_length table i first stride in
        let s : suc i ≡ i + 1 = omega arith in
        let r : first + stride * i + stride ≡ first + stride * (i + 1) = omega (arith, mul-suc stride i, ap (λ (k : ℕ). stride * k) s) in
        record {
          within = omega arith;
          reached = rw r at (same_further table next at stride (first + stride * i) f c.reached);
          kept = length-set now (from + i) x ∙ c.kept;
          holds =
              ap (λ (y : ℕ). set now (from + i) y) (v ∙ same_offset table at (first + stride * i) c.reached)
              ∙ ap (λ (t : List ℕ). set t (from + i) (offset_at table (first + stride * i))) c.holds
              ∙ ap (λ (k : ℕ). set (put_at before from (offsets_from table i first stride)) (from + k) (offset_at table (first + stride * i))) (sym l)
              ∙ put_more before from (offsets_from table i first stride) (offset_at table (first + stride * i))
              ∙ ap (put_at before from) (offsets_more table i first stride)
              ∙ ap (λ (k : ℕ). put_at before from (offsets_from table k first stride)) s;
        }

-- The key table

pub keys_none : (size : ℕ) → keys_in size [] ≡ zeros size
keys_none size = let e : size - 0 ≡ size = omega arith in ap zeros e

pub keys_length : (size : ℕ) (keys : List ℕ) → length keys ≤ size → length (keys_in size keys) ≡ size
keys_length size keys h = length-append keys (zeros (size - length keys)) ∙ omega (arith, length-replicate {A = ℕ} (size - length keys) 0)

-- more keys behind those that stand there
pub copied : (size : ℕ) (keys more : List ℕ) → length keys + length more ≤ size → put_at (keys_in size keys) (length keys) more ≡ keys_in size (keys ++ more)
copied size keys more h =
    let e : size - length keys - length more ≡ size - length (keys ++ more) = omega (arith, length-append keys more) in
    append_numbers keys more (size - length keys) (omega arith) ∙ ap (λ (k : ℕ). keys ++ more ++ zeros k) e
