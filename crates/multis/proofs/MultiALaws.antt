-- The keys of a multi_a: the loop over those with CHECKSIGADD, the one with CHECKSIG, and k and n behind them. Assumes nothing.
-- Why: with n keys read, from the token `left` on, the row from there is that of the first point; a CHECKSIGADD and a key that passes lead from one such state to the next.
use mathlib.Core.Path.{◌≡◌, refl, sym, ap, ◌∙◌}
use mathlib.Core.Bool.{Bool, true, false, ◌&&◌, not, false≢true}
use mathlib.Core.List.{List, [], ◌∷◌}
use Prim.Native.Nat.{ℕ, zero, suc, ◌+◌, ◌*◌, ◌≤◌, ◌<◌}
use native.Mathlib.Omega.{arith}
use lib.ListN.{length, get_or}
use lib.Dec.{eqb, leb}
use borrow.Author.Tests.{le-leb, eqb-true, eqb-false, not-false}
use Rattle.std.specs.Prelude.{Result, Ok, Err}
use Rattle.tables.specs.Choose.{pick}
use Rattle.lex.specs.Token.{Data, data_at, push, CHECKSIGADD, BYTES32}
use Rattle.standard.specs.Tree.{MultiA}
use Rattle.standard.specs.Allowed as allowed
use Rattle.standard.specs.Allowed.{multi_a_threshold}
use Rattle.standard.specs.Table.{data_places}
use Rattle.standard.specs.Rows.{multiAKeys, afterCheckSigAdd, afterCheckSig, read_on, refuse, make, makes}
use Rattle.row.specs.declared.Row.TheVariants as row
use Rattle.row.specs.declared.Found.{Found}
use Rattle.row.specs.declared.Refused.{Refused}
use Rattle.row.specs.declared.table.Taken.{Taken}
use Rattle.row.specs.declared.table.Tokens.{Tokens}
use Rattle.row.specs.Next.{IsTaken}
use Rattle.row.specs.Tokens.{token_at, lexemes_left, ahead_of}
use Rattle.row.specs.Request.{Request, Reading, refused, keys_node, reading, asked, offsets_from, refused_at, reading_of}
use Rattle.row.specs.Told.{row_from}
use Rattle.row.proofs.TakenLaws.{row_pick, led, dry, arm, arm_at, onward_at, unfit_at}
use Rattle.multis.specs.Keys.{datas_from, is_check_sig_add, added_refusal, left_behind, added_key_of, multi_a_row, ToldMultiA}

-- the keys, as the row hands them on
data_offsets : (script table : List ℕ) (n i : ℕ) → data_places (datas_from script table n i) ≡ offsets_from table n i 2
data_offsets script table zero i = refl
data_offsets script table (suc n) i =
    let e : suc (suc i) ≡ i + 2 = omega arith in
    ap (λ (l : List ℕ). (get_or table (3 * i + 2) 0 + 1) ∷ l) (data_offsets script table n (suc (suc i)) ∙ ap (λ (j : ℕ). offsets_from table n j 2) e)

datas_length : (script table : List ℕ) (n i : ℕ) → length (datas_from script table n i) ≡ n
datas_length script table zero i = refl
datas_length script table (suc n) i = ap suc (datas_length script table n (suc (suc i)))

-- a multi_a whose n keys have passed, the first of them at the token i
all_passed : (script table : List ℕ) (k n i : ℕ) {r : Result Found Refused} → 1 ≤ k → k ≤ 999 → allowed.all_multi_a_keys false (datas_from script table n (suc (suc i))) ≡ true → r ≡ multi_a_row k (suc n) i → reading_of script table r ≡ reading (asked false (makes (MultiA k (data_at script ((token_at table i).place + 1) 32) (datas_from script table n (suc (suc i)))) [])) (lexemes_left script table i)
unfolding multi_a_row
all_passed script table k n i l h o e =
    ap (reading_of script table) e
    ∙ row_pick script table (leb k (suc n) && leb (suc n) 999) (row.Keys 28 k (suc n) i 2) 13 i
    ∙ ap (λ (d : Request). reading d (lexemes_left script table i))
    (ap (λ (ps : List ℕ). pick (leb k (suc n) && leb (suc n) 999) (keys_node 28 k ps []) (refused 13)) (sym (data_offsets script table (suc n) i))
    ∙ decided (leb k (suc n) && leb (suc n) 999) (multi_a_threshold k) (allowed.all_multi_a_keys false others) threshold o
    ∙ ap (λ (m : ℕ). pick (multi_a_threshold k && (allowed.all_multi_a_keys false others && (leb k (suc m) && leb (suc m) 999))) (keys_node 28 k (data_places (datas_from script table (suc n) i)) []) (refused (pick (multi_a_threshold k) (pick (allowed.all_multi_a_keys false others) 13 11) 13))) (sym (datas_length script table n (suc (suc i)))))
  where
    others : List Data
    others = datas_from script table n (suc (suc i))

    threshold : multi_a_threshold k ≡ true
    threshold = simp (le-leb 1 k l, le-leb k 999 h)

    decided : (t c m : Bool) → c ≡ true → m ≡ true → pick t (keys_node 28 k (data_places (datas_from script table (suc n) i)) []) (refused 13) ≡ pick (c && (m && t)) (keys_node 28 k (data_places (datas_from script table (suc n) i)) []) (refused (pick c (pick m 13 11) 13))
    decided t true true p q = refl
    decided t true false p q = absurd (false≢true q)
    decided t false m p q = absurd (false≢true p)

-- CHECKSIG was taken, and a push of 32 bytes before it
module _ (segwit : Bool) (script table : List ℕ) (left k n : ℕ) {j : Taken} (t : IsTaken table left j) (q : j.code ≡ BYTES32) where
  pub first_in_segwit : {r : Result Found Refused} → segwit ≡ true → r ≡ refused_at 11 j.rest.left → reading_of script table r ≡ row_from segwit (afterCheckSig k (datas_from script table n (left + 1))) script table left
  first_in_segwit g s =
      arm segwit (afterCheckSig k (datas_from script table n (left + 1))) script table left t BYTES32 q
      (ap (reading_of script table) s
      ∙ ap (λ (b : Bool). led segwit (afterCheckSig k (datas_from script table n (left + 1))) script table (pick (allowed.multi_a_key b (data_at script (j.place + 1) 32)) (make (MultiA k (data_at script (j.place + 1) 32) (datas_from script table n (left + 1))) []) (refuse 11)) (push BYTES32 (data_at script (j.place + 1) 32)) j.rest.left) (sym g))

  pub first_in_tapscript : {r : Result Found Refused} → segwit ≡ false → 1 ≤ k → k ≤ 999 → allowed.all_multi_a_keys segwit (datas_from script table n (left + 1)) ≡ true → r ≡ multi_a_row k (n + 1) j.rest.left → reading_of script table r ≡ row_from segwit (afterCheckSig k (datas_from script table n (left + 1))) script table left
  first_in_tapscript {r} g l h o s =
      arm segwit (afterCheckSig k (datas_from script table n (left + 1))) script table left t BYTES32 q
      (all_passed script table k n j.rest.left l h
      (ap (λ (i : ℕ). allowed.all_multi_a_keys false (datas_from script table n i)) two ∙ ap (λ (b : Bool). allowed.all_multi_a_keys b (datas_from script table n (left + 1))) (sym g) ∙ o)
      (s ∙ ap (λ (i : ℕ). multi_a_row k i j.rest.left) one)
      ∙ ap (λ (i : ℕ). reading (asked false (makes (MultiA k (data_at script ((token_at table j.rest.left).place + 1) 32) (datas_from script table n i)) [])) (lexemes_left script table j.rest.left)) two
      ∙ ap (λ (x : ℕ). reading (asked false (makes (MultiA k (data_at script (x + 1) 32) (datas_from script table n (left + 1))) [])) (lexemes_left script table j.rest.left)) place_is
      ∙ ap (λ (b : Bool). led b (afterCheckSig k (datas_from script table n (left + 1))) script table (pick (allowed.multi_a_key b (data_at script (j.place + 1) 32)) (make (MultiA k (data_at script (j.place + 1) 32) (datas_from script table n (left + 1))) []) (refuse 11)) (push BYTES32 (data_at script (j.place + 1) 32)) j.rest.left) (sym g))
    where
      one : n + 1 ≡ suc n
      one = omega arith

      two : suc (suc j.rest.left) ≡ left + 1
      two = omega (arith, t.left_is)

      place_is : (token_at table j.rest.left).place ≡ j.place
      place_is = sym t.place

-- the token looked at is the one that is taken
pub not_added : (table : List ℕ) (left : ℕ) {j : Taken} → IsTaken table left j → is_check_sig_add (ahead_of table left) ≡ false → j.code ≡ CHECKSIGADD → ⊥
not_added table left {j} t h = eqb-false j.code CHECKSIGADD (ap (λ (c : ℕ). eqb c CHECKSIGADD) t.code ∙ ap (λ (m : ℕ). is_check_sig_add (ahead_of table m)) t.left_is ∙ h)

-- n keys are read, from the token `left` on
pub record KeysAdded (segwit : Bool) (table : List ℕ) (from k left n : ℕ) : Type 0 where
  pub few : n + left < 2147483648
  pub passed : (script : List ℕ) → allowed.all_multi_a_keys segwit (datas_from script table n left) ≡ true
  pub same : (script : List ℕ) → row_from segwit (multiAKeys k (datas_from script table n left)) script table left ≡ row_from segwit (multiAKeys k []) script table from

clash : {none : Refused} {rest : ℕ} → ◌≡◌ {A = Result ℕ Refused} (Err none) (Ok rest) → ⊥
clash e = cc

abbrev left_in : Result ℕ Refused → ℕ
left_in (Ok m) = m
left_in (Err none) = none.left

-- a CHECKSIGADD is taken: what its key says
module _ (segwit : Bool) (table : List ℕ) (k : ℕ) where
  abbrev code : ℕ → ℕ
  code i = (token_at table i).code

  -- what a key says by its code
  key_said : (m : ℕ) (b g : Bool) → eqb (code m) BYTES32 ≡ b → segwit ≡ g → added_key_of segwit table (suc (suc m)) ≡ pick b (pick g (Err (record { number = 11; left = m })) (Ok m)) (Err (record { number = 10; left = m }))
  unfolding added_refusal
  key_said m b g d q = ap (λ (x : Bool). left_behind m (pick x (pick segwit (Err (record { number = 11; left = m })) (Ok tt)) (Err (record { number = 10; left = m })))) d ∙ ap (λ (x : Bool). left_behind m (pick b (pick x (Err (record { number = 11; left = m })) (Ok tt)) (Err (record { number = 10; left = m })))) q ∙ by b g
    where
      by : (b g : Bool) → left_behind m (pick b (pick g (Err (record { number = 11; left = m })) (Ok tt)) (Err (record { number = 10; left = m }))) ≡ pick b (pick g (Err (record { number = 11; left = m })) (Ok m)) (Err (record { number = 10; left = m }))
      by true true = refl
      by true false = refl
      by false g = refl

  pub key_refused : (script : List ℕ) (left : ℕ) (ds : List Data) {none : Refused} → is_check_sig_add (ahead_of table left) ≡ true → added_key_of segwit table left ≡ Err none → reading_of script table (Err none) ≡ row_from segwit (multiAKeys k ds) script table left
  key_refused script zero ds a h = absurd (false≢true a)
  key_refused script (suc zero) ds a h =
      ap refusal_in (sym h)
      ∙ onward_at segwit (multiAKeys k ds) script table (token_at table 0) 0 1 refl refl CHECKSIGADD (afterCheckSigAdd k ds) (eqb-true (code 0) CHECKSIGADD a) refl (dry segwit (afterCheckSigAdd k ds) script table 0 (Err (record { number = 9; left = 0 })) (refl, refl) refl)
    where
      refusal_in : Result ℕ Refused → Reading
      refusal_in (Ok i) = reading (refused 0) []
      refusal_in (Err x) = reading_of script table (Err x)
  key_refused script (suc (suc m)) ds {none = none} a h =
      onward_at segwit (multiAKeys k ds) script table (token_at table (suc m)) (suc m) (suc (suc m)) refl refl CHECKSIGADD (afterCheckSigAdd k ds) (eqb-true (code (suc m)) CHECKSIGADD a) refl (by (eqb (code m) BYTES32) segwit refl refl)
    where
      its : Result ℕ Refused
      its = added_key_of segwit table (suc (suc m))

      refusal_in : Result ℕ Refused → Reading
      refusal_in (Ok i) = reading (refused 0) []
      refusal_in (Err x) = reading_of script table (Err x)

      by : (b g : Bool) → eqb (code m) BYTES32 ≡ b → segwit ≡ g → reading_of script table (Err none) ≡ row_from segwit (afterCheckSigAdd k ds) script table (suc m)
      by true true d g =
          let x : its ≡ Err (record { number = 11; left = m }) = key_said m true true d g in
          arm_at segwit (afterCheckSigAdd k ds) script table (token_at table m) m (suc m) refl refl BYTES32 (eqb-true (code m) BYTES32 d)
          (ap refusal_in (sym h ∙ x)
          ∙ ap (λ (b : Bool). led segwit (afterCheckSigAdd k ds) script table (pick (allowed.multi_a_key b (data_at script ((token_at table m).place + 1) 32)) (read_on (multiAKeys k (data_at script ((token_at table m).place + 1) 32 ∷ ds))) (refuse 11)) (push BYTES32 (data_at script ((token_at table m).place + 1) 32)) m) (sym g))
      by true false d g = let x : its ≡ Ok m = key_said m true false d g in let y : Ok m ≡ Err none = sym x ∙ h in cc
      by false g d q =
          let x : its ≡ Err (record { number = 10; left = m }) = key_said m false g d q in
          ap refusal_in (sym h ∙ x)
          ∙ unfit_at segwit (afterCheckSigAdd k ds) script table (token_at table m) m (suc m) refl refl tt refl (tt, eqb-false (code m) BYTES32 d) refl

  pub again : (from left n rest : ℕ) → KeysAdded segwit table from k left n → is_check_sig_add (ahead_of table left) ≡ true → added_key_of segwit table left ≡ Ok rest → KeysAdded segwit table from k rest (n + 1)
  again from zero n rest s a z = absurd (false≢true a)
  again from (suc zero) n rest s a z = absurd (clash (z))
  again from (suc (suc m)) n rest s a z = by (eqb (code m) BYTES32) segwit refl refl
    where
      its : Result ℕ Refused
      its = added_key_of segwit table (suc (suc m))

      by : (b g : Bool) → eqb (code m) BYTES32 ≡ b → segwit ≡ g → KeysAdded segwit table from k rest (n + 1)
      by false g d q = absurd (clash (sym (key_said m false g d q) ∙ z))
      by true true d q = absurd (clash (sym (key_said m true true d q) ∙ z))
      by true false d q =
          let l : rest ≡ m = ap left_in (sym z ∙ key_said m true false d q) in
          let o : n + 1 ≡ suc n = omega arith in
          let f : n + suc (suc m) < 2147483648 = s.few in
          let ds : (script : List ℕ) → datas_from script table (n + 1) rest ≡ data_at script ((token_at table m).place + 1) 32 ∷ datas_from script table n (suc (suc m)) =
          λ script. ap (λ (j : ℕ). datas_from script table j rest) o ∙ ap (λ (j : ℕ). datas_from script table (suc n) j) l in
          record {
            few = omega arith;
            passed = λ script. ap (allowed.all_multi_a_keys segwit) (ds script) ∙ ap (λ (b : Bool). allowed.multi_a_key b (data_at script ((token_at table m).place + 1) 32) && allowed.all_multi_a_keys segwit (datas_from script table n (suc (suc m)))) q ∙ s.passed script;
            same = λ script.
                ap (λ (j : ℕ). row_from segwit (multiAKeys k (datas_from script table (n + 1) rest)) script table j) l
                ∙ ap (λ (x : List Data). row_from segwit (multiAKeys k x) script table m) (ds script)
                ∙ onward_at segwit (multiAKeys k (datas_from script table n (suc (suc m)))) script table (token_at table (suc m)) (suc m) (suc (suc m)) refl refl CHECKSIGADD (afterCheckSigAdd k (datas_from script table n (suc (suc m)))) (eqb-true (code (suc m)) CHECKSIGADD a) refl
                (onward_at segwit (afterCheckSigAdd k (datas_from script table n (suc (suc m)))) script table (token_at table m) m (suc m) refl refl BYTES32 (multiAKeys k (data_at script ((token_at table m).place + 1) 32 ∷ datas_from script table n (suc (suc m)))) (eqb-true (code m) BYTES32 d)
                (ap (λ (b : Bool). pick (allowed.multi_a_key b (data_at script ((token_at table m).place + 1) 32)) (read_on (multiAKeys k (data_at script ((token_at table m).place + 1) 32 ∷ datas_from script table n (suc (suc m))))) (refuse 11)) q)
                refl)
                ∙ s.same script;
          }

-- what looking ahead has told
pub is_added : {b looked : Bool} → b ≡ looked → not b ≡ false → looked ≡ true
is_added {b} e h = sym e ∙ not-false b h

-- CHECKSIG was taken: the keys behind it are those from the token behind it on
pub behind : (segwit : Bool) (table : List ℕ) (left k n : ℕ) {j : Taken} (r : Result Found Refused) → IsTaken table left j → ToldMultiA afterCheckSig segwit j.rest (j.rest.left + 1) k n r → (script : List ℕ) → allowed.all_multi_a_keys segwit (datas_from script table n left) ≡ true → reading_of script j.rest.table.now r ≡ row_from segwit (afterCheckSig k (datas_from script table n left)) script j.rest.table.now j.rest.left
behind segwit table left k n {j} r t told script passed =
    let q : j.rest.left + 1 ≡ left = omega (arith, t.left_is) in
    let ds : datas_from script j.rest.table.now n (j.rest.left + 1) ≡ datas_from script table n left =
    ap (λ (y : List ℕ). datas_from script y n (j.rest.left + 1)) t.same ∙ ap (datas_from script table n) q in
    told script (ap (allowed.all_multi_a_keys segwit) ds ∙ passed) ∙ ap (λ (d : List Data). row_from segwit (afterCheckSig k d) script j.rest.table.now j.rest.left) ds

-- the loop: n keys are read, and these tokens of the table are left
pub record KeysIn (segwit : Bool) (from : Tokens) (k : ℕ) (tokens : Tokens) (n : ℕ) : Type 0 where
  pub its : tokens.table.now ≡ from.table.now
  pub added : KeysAdded segwit from.table.now from.left k tokens.left n

module _ (segwit : Bool) (from : Tokens) (k : ℕ) (tokens : Tokens) (n : ℕ) (s : KeysIn segwit from k tokens n) (a : is_check_sig_add (ahead_of tokens.table.now tokens.left) ≡ true) where
  ahead : is_check_sig_add (ahead_of from.table.now tokens.left) ≡ true
  ahead = ap (λ (y : List ℕ). is_check_sig_add (ahead_of y tokens.left)) (sym s.its) ∙ a

  pub added_again : (rest : Tokens) → (rest.table.now ≡ tokens.table.now) × (added_key_of segwit tokens.table.now tokens.left ≡ Ok rest.left) → KeysIn segwit from k rest (n + 1)
  added_again rest h =
      record {
        its = h.0 ∙ s.its;
        added = again segwit from.table.now k from.left tokens.left n rest.left s.added ahead (ap (λ (y : List ℕ). added_key_of segwit y tokens.left) (sym s.its) ∙ h.1);
      }

  pub added_refused : (script : List ℕ) {none : Refused} → added_key_of segwit tokens.table.now tokens.left ≡ Err none → reading_of script from.table.now (Err none) ≡ row_from segwit (multiAKeys k []) script from.table.now from.left
  added_refused script h =
      key_refused segwit from.table.now k script tokens.left (datas_from script from.table.now n tokens.left) ahead (ap (λ (y : List ℕ). added_key_of segwit y tokens.left) (sym s.its) ∙ h)
      ∙ s.added.same script
