-- The keys of a multi: the loop that reads them, and its k behind them. Assumes nothing.
-- Why: with i keys read, from the token `left` on, the row from there is that of the first point; each key that passes leads from one such state to the next.
use mathlib.Core.Path.{◌≡◌, refl, sym, ap, subst, ◌∙◌}
use mathlib.Core.Bool.{Bool, true, false, ◌&&◌, false≢true}
use mathlib.Core.List.{List, [], ◌∷◌}
use Prim.Native.Nat.{ℕ, zero, suc, ◌+◌, ◌-◌, ◌*◌, ◌≤◌, ◌<◌}
use native.Mathlib.Omega.{arith}
use lib.ListN.{length, get_or}
use lib.Dec.{eqb}
use borrow.Author.Tests.{le-leb, eqb-true, eqb-false}
use Rattle.std.specs.Prelude.{Result, Ok, Err, IsErrAnd}
use Rattle.tables.specs.Choose.{pick}
use Rattle.lex.specs.Token.{BYTES33, BYTES65, data_length}
use Rattle.standard.specs.Tree.{Key, Multi}
use Rattle.standard.specs.Allowed as allowed
use Rattle.standard.specs.Allowed.{within, multi_key, multi_count}
use Rattle.standard.specs.Table.{key_places}
use Rattle.standard.specs.Rows.{Point, multi_keys, Act, read_on, refuse, makes, act_at, cases}
use Rattle.row.specs.declared.Row.TheVariants as row
use Rattle.row.specs.declared.Found.{Found}
use Rattle.row.specs.declared.Refused.{Refused}
use Rattle.row.specs.declared.table.Taken.{Taken}
use Rattle.row.specs.declared.table.Tokens.{Tokens}
use Rattle.row.specs.Next.{IsTaken}
use Rattle.row.specs.Tokens.{token_at, lexemes_left}
use Rattle.row.specs.Request.{Request, refused, keys_node, reading, asked, offsets_from, reading_of}
use Rattle.row.specs.Told.{row_from}
use Rattle.row.proofs.LookLaws.{lexeme_by, look_missed}
use Rattle.row.proofs.TakenLaws.{row_pick, led, took}
use Rattle.locks.specs.Leaves.{key_at}
use Rattle.multis.specs.Keys.{keys_from, form_refusal, key_refusal, multi_row, ToldMulti}

-- the keys, as the row hands them on
key_offsets : (script table : List ℕ) (n i : ℕ) → key_places (keys_from script table n i) ≡ offsets_from table n i 1
key_offsets script table zero i = refl
key_offsets script table (suc n) i =
    let e : suc i ≡ i + 1 = omega arith in
    ap (λ (l : List ℕ). (get_or table (3 * i + 2) 0 + 1) ∷ l) (key_offsets script table n (suc i) ∙ ap (λ (j : ℕ). offsets_from table n j 1) e)

keys_length : (script table : List ℕ) (n i : ℕ) → length (keys_from script table n i) ≡ n
keys_length script table zero i = refl
keys_length script table (suc n) i = ap suc (keys_length script table n (suc i))

-- a multi whose keys have passed
pub multi_is : (segwit : Bool) (script table : List ℕ) (k n left first : ℕ) {r : Result Found Refused} → 1 ≤ n → n ≤ 20 → allowed.all_multi_keys segwit (keys_from script table n first) ≡ true → r ≡ multi_row k n first left → reading_of script table r ≡ reading (asked segwit (makes (Multi k (keys_from script table n first)) [])) (lexemes_left script table left)
unfolding multi_row
multi_is segwit script table k n left first l h o e =
    ap (reading_of script table) e
    ∙ row_pick script table (within 1 k n) (row.Keys 27 k n first 1) 13 left
    ∙ ap (λ (d : Request). reading d (lexemes_left script table left))
    (ap (λ (ps : List ℕ). pick (within 1 k n) (keys_node 27 k ps []) (refused 13)) (sym (key_offsets script table n first))
    ∙ decided (within 1 k n) (multi_count (length (keys_from script table n first))) (allowed.all_multi_keys segwit (keys_from script table n first)) count o
    ∙ ap (λ (m : ℕ). pick (multi_count (length (keys_from script table n first)) && (allowed.all_multi_keys segwit (keys_from script table n first) && within 1 k m)) (keys_node 27 k (key_places (keys_from script table n first)) []) (refused (pick (multi_count (length (keys_from script table n first))) (pick (allowed.all_multi_keys segwit (keys_from script table n first)) 13 11) 13))) (sym (keys_length script table n first)))
  where
    count : multi_count (length (keys_from script table n first)) ≡ true
    count = ap multi_count (keys_length script table n first) ∙ simp (le-leb 1 n l, le-leb n 20 h)

    decided : (t c m : Bool) → c ≡ true → m ≡ true → pick t (keys_node 27 k (key_places (keys_from script table n first)) []) (refused 13) ≡ pick (c && (m && t)) (keys_node 27 k (key_places (keys_from script table n first)) []) (refused (pick c (pick m 13 11) 13))
    decided t true true p q = refl
    decided t true false p q = absurd (false≢true q)
    decided t false m p q = absurd (false≢true p)

module _ (segwit : Bool) (script : List ℕ) (t : Taken) where
  abbrev its : Key
  its = key_at script t.code (t.place + 1)

  abbrev decided_by : Result (Unit {0}) Refused → Point → Act
  decided_by (Ok u) further = read_on further
  decided_by (Err none) further = refuse none.number

  by_form : (form : Bool) (further : Point) → pick form (read_on further) (refuse 11) ≡ decided_by (form_refusal form t.rest.left) further
  by_form true further = refl
  by_form false further = refl

  -- the case of a key: on to the next, or refused
  key_case : (m : ℕ) (ks : List Key) → act_at segwit (multi_keys (suc m) ks) (lexeme_by script t.code t.number t.place) ≡ decided_by (key_refusal segwit script t) (multi_keys m (its ∷ ks))
  unfolding data_length key_refusal
  key_case m ks = by (eqb t.code BYTES33) (eqb t.code BYTES65) refl refl
    where
      further : Point
      further = multi_keys m (its ∷ ks)

      act : ℕ → Act
      act c = act_at segwit (multi_keys (suc m) ks) (lexeme_by script c t.number t.place)

      want : ℕ → Act
      want c = pick (multi_key segwit (key_at script c (t.place + 1))) (read_on (multi_keys m (key_at script c (t.place + 1) ∷ ks))) (refuse 11)

      form : Result (Unit {0}) Refused
      form = form_refusal (multi_key segwit its) t.rest.left

      else-10 : Result (Unit {0}) Refused
      else-10 = Err (record { number = 10; left = t.rest.left })

      at : (c : ℕ) → act c ≡ want c → t.code ≡ c → act t.code ≡ decided_by form further
      at c h e = ap act e ∙ h ∙ ap want (sym e) ∙ by_form (multi_key segwit its) further

      by : (b d : Bool) → eqb t.code BYTES33 ≡ b → eqb t.code BYTES65 ≡ d → act t.code ≡ decided_by (pick (eqb t.code BYTES33) form (pick (eqb t.code BYTES65) form else-10)) further
      by true d e f = at 31 refl (eqb-true t.code 31 e) ∙ ap (λ (z : Bool). decided_by (pick z form (pick (eqb t.code BYTES65) form else-10)) further) (sym e)
      by false true e f =
          at 32 refl (eqb-true t.code 32 f)
          ∙ ap (λ (z : Bool). decided_by (pick z form else-10) further) (sym f)
          ∙ ap (λ (z : Bool). decided_by (pick z form (pick (eqb t.code BYTES65) form else-10)) further) (sym e)
      by false false e f =
          look_missed script t.code t.number t.place (cases segwit (multi_keys (suc m) ks)) [] tt (eqb-false t.code 31 e, (eqb-false t.code 32 f, tt))
          ∙ ap (λ (z : Bool). decided_by (pick z form else-10) further) (sym f)
          ∙ ap (λ (z : Bool). decided_by (pick z form (pick (eqb t.code BYTES65) form else-10)) further) (sym e)

  allowed_key : {u : Unit {0}} → key_refusal segwit script t ≡ Ok u → multi_key segwit its ≡ true
  unfolding key_refusal
  allowed_key h = by (eqb t.code BYTES33) (eqb t.code BYTES65) (multi_key segwit its) h
    where
      by : (b d form : Bool) {u : Unit {0}} → pick b (form_refusal form t.rest.left) (pick d (form_refusal form t.rest.left) (Err (record { number = 10; left = t.rest.left }))) ≡ Ok u → form ≡ true
      by true d true e = refl
      by true d false e = cc
      by false true true e = refl
      by false true false e = cc
      by false false form e = cc

  -- a key that is refused was taken
  abbrev left_in : Result (Unit {0}) Refused → ℕ
  left_in (Ok u) = t.rest.left
  left_in (Err none) = none.left

  refused_left : {none : Refused} → key_refusal segwit script t ≡ Err none → none.left ≡ t.rest.left
  unfolding key_refusal
  refused_left h = sym (ap left_in h) ∙ by (eqb t.code BYTES33) (eqb t.code BYTES65) (multi_key segwit its)
    where
      by : (b d form : Bool) → left_in (pick b (form_refusal form t.rest.left) (pick d (form_refusal form t.rest.left) (Err (record { number = 10; left = t.rest.left })))) ≡ t.rest.left
      by true d true = refl
      by true d false = refl
      by false true true = refl
      by false true false = refl
      by false false form = refl

module _ (segwit : Bool) (script table : List ℕ) (left : ℕ) {k : Taken} (t : IsTaken table left k) where
  pub key_refused : (n : ℕ) (ks : List Key) {a : Result (Unit {0}) Refused} {none : Refused} (r : Result Found Refused) → 1 ≤ n → a ≡ key_refusal segwit script k → a ≡ Err none → IsErrAnd r (λ x. x ≡ none) → reading_of script table r ≡ row_from segwit (multi_keys n ks) script table left
  key_refused zero ks r l q h g = absurd (omega arith)
  key_refused (suc n) ks (Ok x) l q h g = absurd g
  key_refused (suc n) ks {a} {none} (Err x) l q h g =
      ap (λ (y : Refused). reading_of script table (Err y)) g
      ∙ ap (λ (i : ℕ). reading (refused none.number) (lexemes_left script table i)) (refused_left segwit script k (sym q ∙ h))
      ∙ took segwit (multi_keys (suc n) ks) script table left t
      (ap (λ (y : Act). led segwit (multi_keys (suc n) ks) script table y (lexeme_by script k.code k.number k.place) k.rest.left)
      (sym
      (key_case segwit script k n ks
      ∙ ap (λ (z : Result (Unit {0}) Refused). decided_by segwit script k z (multi_keys n (key_at script k.code (k.place + 1) ∷ ks))) (sym q ∙ h))))

  key_passed : (n : ℕ) (ks : List Key) {u : Unit {0}} → key_refusal segwit script k ≡ Ok u → row_from segwit (multi_keys n (key_at script k.code (k.place + 1) ∷ ks)) script table k.rest.left ≡ row_from segwit (multi_keys (suc n) ks) script table left
  unfolding row_from
  key_passed n ks q =
      took segwit (multi_keys (suc n) ks) script table left t
      (ap (λ (y : Act). led segwit (multi_keys (suc n) ks) script table y (lexeme_by script k.code k.number k.place) k.rest.left)
      (sym (key_case segwit script k n ks ∙ ap (λ (z : Result (Unit {0}) Refused). decided_by segwit script k z (multi_keys n (key_at script k.code (k.place + 1) ∷ ks))) q)))

-- the loop: i keys of n are read, and these tokens of the table are left
pub record KeysRead (segwit : Bool) (script table : List ℕ) (from n : ℕ) (tokens : Tokens) (i : ℕ) : Type 0 where
  pub its : tokens.table.now ≡ table
  pub count : i ≤ n
  pub passed : allowed.all_multi_keys segwit (keys_from script table i tokens.left) ≡ true
  pub same : row_from segwit (multi_keys (n - i) (keys_from script table i tokens.left)) script table tokens.left ≡ row_from segwit (multi_keys n []) script table from

pub again : (segwit : Bool) (script table : List ℕ) (from n : ℕ) (tokens : Tokens) (i : ℕ) {j : Taken} {r : Result (Unit {0}) Refused} {u : Unit {0}} → KeysRead segwit script table from n tokens i → i < n → IsTaken tokens.table.now tokens.left j → r ≡ key_refusal segwit script j → r ≡ Ok u → KeysRead segwit script table from n j.rest (i + 1)
again segwit script table from n tokens i {j = j} {u = u} r l taken q z =
    let t : IsTaken table tokens.left j = subst (λ (y : List ℕ). IsTaken y tokens.left j) r.its taken in
    let k : key_refusal segwit script j ≡ Ok u = sym q ∙ z in
    let a : i + 1 ≡ suc i = omega arith in
    let d : n - i ≡ suc (n - (i + 1)) = omega arith in
    let c : (token_at table j.rest.left).code ≡ j.code = sym t.code in
    let p : (token_at table j.rest.left).place ≡ j.place = sym t.place in
    let ks : keys_from script table (i + 1) j.rest.left ≡ key_at script j.code (j.place + 1) ∷ keys_from script table i tokens.left =
    ap (λ (m : ℕ). keys_from script table m j.rest.left) a
    ∙ ap (λ (m : ℕ). key_at script (token_at table j.rest.left).code ((token_at table j.rest.left).place + 1) ∷ keys_from script table i m) t.left_is
    ∙ ap (λ (m : ℕ). key_at script m ((token_at table j.rest.left).place + 1) ∷ keys_from script table i tokens.left) c
    ∙ ap (λ (m : ℕ). key_at script j.code (m + 1) ∷ keys_from script table i tokens.left) p in
    record {
      its = t.same;
      count = omega arith;
      passed = ap (allowed.all_multi_keys segwit) ks ∙ ap (λ (b : Bool). b && allowed.all_multi_keys segwit (keys_from script table i tokens.left)) (allowed_key segwit script j k) ∙ r.passed;
      same =
          ap (λ (m : List Key). row_from segwit (multi_keys (n - (i + 1)) m) script table j.rest.left) ks
          ∙ key_passed segwit script table tokens.left t (n - (i + 1)) (keys_from script table i tokens.left) k
          ∙ ap (λ (m : ℕ). row_from segwit (multi_keys m (keys_from script table i tokens.left)) script table tokens.left) (sym d)
          ∙ r.same;
    }
