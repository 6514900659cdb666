-- What a step needs is there at every turn of the run. Assumes nothing.
use mathlib.Core.Path.{◌≡◌, sym, ap, ◌∙◌}
use mathlib.Core.Bool.{Bool, true, false}
use mathlib.Core.List.{List, [], ◌∷◌, reverse_aux}
use Prim.Native.Nat.{ℕ, zero, suc, ◌+◌, ◌-◌, ◌*◌, ◌/◌, ◌%◌, ◌≤◌, ◌<◌}
use native.Mathlib.Nat.{mod-lt}
use native.Mathlib.Omega.{arith}
use lib.Dec.{eqb, leb}
use lib.ListN.{length, get_or, take, length-take, length-reverse_aux}
use Rattle.tables.specs.Choose.{pick}
use Rattle.tables.proofs.NewestLaws.{newest_length}
use Rattle.lex.specs.Token.{Token, Lexeme, op, num, push, lexeme, data_at, data_length, NUM, HASH20, BYTES65}
use Rattle.standard.specs.Tree.{Trees, nil, ◌⊳◌, ◌⊕◌, many, sizes, key_counts}
use Rattle.standard.specs.Rows as rows
use Rattle.standard.specs.Machine as machine
use Rattle.standard.specs.Machine.{Limits}
use Rattle.standard.proofs.TreeLaws.{many_sizes, many_append}
use Rattle.standard.proofs.Sound.{Good}
use Rattle.standard.proofs.Bound.{pushes, pushes_le}
use Rattle.row.specs.declared.NonTerm.{NonTerm}
use Rattle.row.specs.declared.NonTerm.TheVariants as non-term
use Rattle.row.specs.Tokens.{InTable, token_at, lexemes_left}
use Rattle.row.specs.Request.{counted, entry_of}
use Rattle.work_list.specs.Work.{k_of, n_of, in_order, unpacked, entry_at, work_of}
use Rattle.forest.proofs.ForestLaws.{keys_counted}
use Rattle.lists.specs.Small.{SmallK, SmallLexeme, SmallLexemes}
use Rattle.lists.proofs.ReadyLaws.{countable, step_ready}
use Rattle.writes.specs.declared.State.{State}
use Rattle.perform.specs.View.{view_of, Inside}
use Rattle.run.specs.Stepping.{Stepping}
use Rattle.run.proofs.RunLaws.{Running, state_good, next_good, forest, nodes_inside, nodes_are}

-- An entry's k is a 32-bit number

AllSmallK : List NonTerm → Type 0
AllSmallK [] = Unit {0}
AllSmallK (e ∷ es) = SmallK (entry_of e) × AllSmallK es

one_small : (es : List NonTerm) (i : ℕ) (d : NonTerm) → AllSmallK es → SmallK (entry_of d) → SmallK (entry_of (get_or es i d))
unfolding AllSmallK
one_small [] i d h g = g
one_small (e ∷ es) zero d h g = h.0
one_small (e ∷ es) (suc i) d h g = one_small es i d h.1 g

infixr 40 ◌&◌
◌&◌ : {A B : Type 0} → A → B → A × B
◌&◌ a b = (a, b)

small_k : (number : ℕ) → SmallK (entry_of (unpacked number))
unfolding unpacked AllSmallK
small_k number =
    let k : k_of number < 4294967296 = mod-lt (number / 32) (omega arith) in
    one_small (in_order (k_of number) (n_of number)) (number % 32) non-term.EndIfElse
    (tt & tt & tt & tt & tt & tt & tt & tt & tt & tt & tt & tt & tt & tt & tt & tt & k & k & tt & tt & tt & tt) tt

-- The numbers among the tokens are 32-bit numbers

small_lexeme : (script : List ℕ) (t : Token) → t.number < 2147483648 → SmallLexeme (lexeme script t)
unfolding lexeme
small_lexeme script t h = by_code (eqb t.code NUM) (leb HASH20 t.code) (leb t.code BYTES65)
  where
    by_code : (a b c : Bool) → SmallLexeme (pick a (num t.number) (pick b (pick c (push t.code (data_at script (t.place + 1) (data_length t.code))) (op t.code)) (op t.code)))
    by_code true b c = omega arith
    by_code false true true = tt
    by_code false true false = tt
    by_code false false c = tt

small_lexemes : (script tokens : List ℕ) (left : ℕ) → ((i : ℕ) → get_or tokens i 0 < 2147483648) → SmallLexemes (lexemes_left script tokens left)
small_lexemes script tokens zero low = tt
small_lexemes script tokens (suc left) low = (small_lexeme script (token_at tokens left) (low (3 * left + 1)), small_lexemes script tokens left low)

-- A thresh has counted no more children than there are nodes
few_counted : (segwit : Bool) (all : List Lexeme) (e : NonTerm) (work : List rows.NonTerm) (left : List Lexeme) (done : Trees) → Good segwit all (machine.goes_on (entry_of e ∷ work) left done) → counted e ≤ sizes done
few_counted segwit all (non-term.ThreshW k n) work left done g =
    let p = g.1 in
    let e : many (◌⊕◌ p.0 p.1) ≤ sizes done = rw (← p.3) (many_sizes done) in
    omega (arith, p.4, many_append p.0 p.1, e)
few_counted segwit all (non-term.ThreshE k n) work left nil g = absurd g.1
few_counted segwit all (non-term.ThreshE k n) work left (x ⊳ done) g =
    let p = g.1 in
    let e : many (x ⊳ (◌⊕◌ p.0 p.1)) ≤ sizes (x ⊳ done) = rw (← p.3) (many_sizes (x ⊳ done)) in
    omega (arith, p.4, many_append p.0 p.1, e)
few_counted segwit all non-term.Expression work left done g = omega arith
few_counted segwit all non-term.WExpression work left done g = omega arith
few_counted segwit all non-term.Swap work left done g = omega arith
few_counted segwit all non-term.MaybeAndV work left done g = omega arith
few_counted segwit all non-term.Alt work left done g = omega arith
few_counted segwit all non-term.Check work left done g = omega arith
few_counted segwit all non-term.DupIf work left done g = omega arith
few_counted segwit all non-term.Verify work left done g = omega arith
few_counted segwit all non-term.NonZero work left done g = omega arith
few_counted segwit all non-term.ZeroNotEqual work left done g = omega arith
few_counted segwit all non-term.AndV work left done g = omega arith
few_counted segwit all non-term.AndB work left done g = omega arith
few_counted segwit all non-term.Tern work left done g = omega arith
few_counted segwit all non-term.OrB work left done g = omega arith
few_counted segwit all non-term.OrD work left done g = omega arith
few_counted segwit all non-term.OrC work left done g = omega arith
few_counted segwit all non-term.EndIf work left done g = omega arith
few_counted segwit all non-term.EndIfNotIf work left done g = omega arith
few_counted segwit all non-term.EndIfElse work left done g = omega arith

module _ (segwit : Bool) (script tokens : List ℕ) (count : ℕ) (limits : Limits) {nodes keys work : List ℕ} {s : State} {steps : ℕ} (running : Running segwit script tokens count limits nodes keys work s steps) where
  left_length : length running.state.left ≡ s.left
  unfolding view_of
  left_length = ap length (sym running.same.left) ∙ newest_length _ s.left

  -- no more tokens are left than there were
  pub left_few : s.left ≤ count
  left_few =
      let g = running.good in
      let e : length (reverse_aux running.state.left g.0) ≡ length (reverse_aux (lexemes_left script tokens count) []) = ap length g.2 in
      let c : length (lexemes_left script tokens count) ≡ count = newest_length _ count in
      omega (arith, left_length, length-reverse_aux running.state.left g.0, length-reverse_aux (lexemes_left script tokens count) [], e)

  pub keys_are : key_counts running.state.done ≡ s.keys
  unfolding view_of
  keys_are = sym (keys_counted segwit running.same.forest) ∙ simp length-take (omega (arith, running.keys_in))

  work_is : length running.state.work ≡ s.work
  unfolding view_of
  work_is = ap length (sym running.same.work) ∙ newest_length _ s.work

  pub inside : count ≤ 33554432 → Inside nodes keys work s
  inside few =
      let p : pushes (lexemes_left script tokens count) ≤ count = omega (arith, pushes_le (lexemes_left script tokens count), newest_length (λ (i : ℕ). lexeme script (token_at tokens i)) count) in
      record {
        in_nodes = omega (arith, nodes_inside segwit script tokens count limits running);
        in_keys = running.keys_in;
        in_work = omega (arith, work_is, running.fits.work_fits, ap (λ (l : Limits). l.work) running.rooms);
        few_nodes = omega (arith, nodes_are segwit script tokens count limits running, running.bounded.1);
        few_keys = omega (arith, keys_are, running.bounded.2);
      }

  pub stepping : 1 ≤ s.work → InTable tokens count → count ≤ 33554432 → Stepping segwit script tokens nodes keys work s
  stepping some table few =
      let i = inside few in
      let n : sizes running.state.done ≤ 67108864 = omega (arith, running.bounded.1) in
      let good : Good segwit (reverse_aux (lexemes_left script tokens count) []) (machine.goes_on (entry_at work (s.work - 1) ∷ work_of work (s.work - 1)) (lexemes_left script tokens s.left) running.state.done) = state_good segwit script tokens count limits running some in
      record {
        some = some;
        left_in_table = record { inside = omega (arith, left_few, table.inside); low = table.low; few = omega (arith, left_few, table.few) };
        inside = i;
        countable = omega (arith, few_counted segwit (reverse_aux (lexemes_left script tokens count) []) (unpacked (get_or work (s.work - 1) 0)) (work_of work (s.work - 1)) (lexemes_left script tokens s.left) running.state.done good);
        ready =
            step_ready segwit s.nodes nodes (take s.keys keys) (nodes_inside segwit script tokens count limits running) i.few_nodes (reverse_aux (lexemes_left script tokens count) [])
            (entry_at work (s.work - 1)) (work_of work (s.work - 1)) (lexemes_left script tokens s.left) running.state.done
            (countable segwit (reverse_aux (lexemes_left script tokens count) []) (entry_at work (s.work - 1)) (work_of work (s.work - 1)) (lexemes_left script tokens s.left) running.state.done good (omega arith) (small_k (get_or work (s.work - 1) 0)))
            (small_lexemes script tokens s.left table.low) (forest segwit script tokens count limits running some) (next_good segwit script tokens count limits running some);
      }
