-- The end of a run: what `close` answers is the machine's verdict, and the tables are the tree's. Assumes nothing.
use Rattle.std.proofs.Common.{Result, Ok, Err}
use mathlib.Core.Path.{◌≡◌, refl, sym, ap, subst, ◌∙◌}
use mathlib.Core.Bool.{Bool, true, false}
use mathlib.Core.List.{List, [], ◌∷◌, ◌++◌, map, map-append, reverse, reverse_aux, reverse-cons, reverse-reverse, append-nil}
use Prim.Native.Nat.{ℕ, zero, suc, ◌+◌, ◌-◌, ◌*◌, ◌/◌, ◌≤◌, ◌<◌}
use native.Mathlib.Omega.{arith}
use Rattle.standard.specs.Rows.{NonTerm}
use Rattle.work_list.specs.Work.{work_of}
use lib.Dec.{eqb}
use lib.ListN.{length, get_or, take, drop, length-take, length-drop, length-reverse}
use lib.Seq.{ext_get_or, get_or-take, get_or-drop, take-add}
use borrow.Author.Tests.{le-leb, lt-leb}
use Rattle.tables.specs.Choose.{pick}
use Rattle.tables.specs.Tables.{zeros, flat, newest}
use Rattle.tables.proofs.FlatLaws.{flat_append}
use Rattle.tables.proofs.NewestLaws.{newest_length, newest_pop}
use Rattle.base_input.specs.declared.Base.TheVariants.{B, K, «V», W}
use Rattle.base_input.specs.Tests.{is_b}
use Rattle.base_input.specs.Numbers.{base_of}
use Rattle.lex.specs.Token.{Lexeme}
use Rattle.std.specs.Prelude.{Ok}
use Rattle.standard.specs.Types.{type_of}
use Rattle.standard.specs.Tree.{Tree, Trees, nil, ◌⊳◌, sizes}
use Rattle.standard.specs.Table.{Node, cells, node_table, key_table}
use Rattle.standard.specs.Machine as machine
use Rattle.standard.specs.Machine.{Limits, Refusal, refusal, Run, ends, accepted, refused, carry_on, decode, closes, top_is, start}
use Rattle.standard.proofs.TreeLaws.{size_some}
use Rattle.standard.proofs.Sound.{Good, end_good}
use Rattle.row.specs.Tokens.{lexemes_left}
use Rattle.judge.specs.Nodes.{top_node, held_type}
use Rattle.judge.specs.NodeTable.{node_at}
use Rattle.node_store.specs.Stored.{nodes_in}
use Rattle.forest.specs.Forest.{Forest}
use Rattle.forest.proofs.ForestLaws.{forest_top}
use Rattle.forest.proofs.TableLaws.{table_is}
use Rattle.writes.specs.declared.State.{State}
use Rattle.writes.specs.declared.Stop.{Stop}
use Rattle.writes.specs.Written.{counts, stop_of}
use Rattle.perform.specs.View.{view_of, room_of, Behind}
use Rattle.run.specs.declared.Ran.{Ran}
use Rattle.run.specs.declared.Halted.{Halted}
use Rattle.run.specs.Runs.{ran_of, halts, closes_with, Runs}
use Rattle.run.proofs.RunLaws.{Running, nodes_are, nodes_inside}

-- Tables with zeros behind

pub behind_tail : (x : ℕ) (t : List ℕ) (n : ℕ) → Behind (x ∷ t) (suc n) → Behind t n
behind_tail x t n h i b = h (suc i) (omega arith)

behind_rest : (x : ℕ) (t : List ℕ) → Behind (x ∷ t) 0 → Behind t 0
behind_rest x t h i b = h (suc i) (omega arith)

pub all_zeros : (t : List ℕ) → Behind t 0 → t ≡ zeros (length t)
all_zeros [] h = refl
all_zeros (x ∷ t) h =
    ap (λ (y : ℕ). y ∷ t) (h 0 (omega arith)) ∙ ap (λ (l : List ℕ). 0 ∷ l) (all_zeros t (behind_rest x t h))

pub zeros_behind : (t : List ℕ) (n : ℕ) → n ≤ length t → Behind t n → t ≡ take n t ++ zeros (length t - n)
zeros_behind t zero l h = let e : length t - 0 ≡ length t = omega arith in all_zeros t h ∙ ap zeros (sym e)
zeros_behind [] (suc n) l h = let b : ⊥ = omega arith in absurd b
zeros_behind (x ∷ t) (suc n) l h =
    let e : length (x ∷ t) - suc n ≡ length t - n = omega arith in
    ap (λ (r : List ℕ). x ∷ r) (zeros_behind t n (omega arith) (behind_tail x t n h)) ∙ ap (λ (k : ℕ). x ∷ (take n t ++ zeros k)) (sym e)

-- nine numbers are a node

cell : (t : List ℕ) (m j : ℕ) → j < 9 → get_or (cells (node_at t m)) j 0 ≡ get_or t (9 * m + j) 0
cell t m zero h = let e : 9 * m ≡ 9 * m + 0 = omega arith in ap (λ (i : ℕ). get_or t i 0) e
cell t m (suc zero) h = refl
cell t m (suc (suc zero)) h = refl
cell t m (suc (suc (suc zero))) h = refl
cell t m (suc (suc (suc (suc zero)))) h = refl
cell t m (suc (suc (suc (suc (suc zero))))) h = refl
cell t m (suc (suc (suc (suc (suc (suc zero)))))) h = refl
cell t m (suc (suc (suc (suc (suc (suc (suc zero))))))) h = refl
cell t m (suc (suc (suc (suc (suc (suc (suc (suc zero)))))))) h = refl
cell t m (suc (suc (suc (suc (suc (suc (suc (suc (suc j))))))))) h = let b : ⊥ = omega arith in absurd b

node_cells_lem : (t : List ℕ) (m : ℕ) → 9 * m + 9 ≤ length t → take 9 (drop (9 * m) t) ≡ cells (node_at t m)
node_cells_lem t m h =
    let l : length (take 9 (drop (9 * m) t)) ≡ 9 = simp (length-take, length-drop) (omega arith) in
    ext_get_or 0 (take 9 (drop (9 * m) t)) (cells (node_at t m)) l
    (λ i b. get_or-take 9 (drop (9 * m) t) i 0 (omega arith) ∙ get_or-drop (9 * m) t i 0 ∙ sym (cell t m i (omega arith)))

-- the front of a table is its nodes
pub front_nodes : (t : List ℕ) (m : ℕ) → 9 * m ≤ length t → take (9 * m) t ≡ flat (map cells (reverse (newest (node_at t) m)))
front_nodes t zero h = refl
front_nodes t (suc m) h =
    let e : 9 * suc m ≡ 9 * m + 9 = omega arith in
    let x = node_at t m in
    let l = newest (node_at t) m in
    ap (λ (k : ℕ). take k t) e
    ∙ take-add (9 * m) 9 t
    ∙ ap (λ (front : List ℕ). front ++ take 9 (drop (9 * m) t)) (front_nodes t m (omega arith))
    ∙ ap (λ (last : List ℕ). flat (map cells (reverse l)) ++ last) (node_cells_lem t m (omega arith) ∙ sym (append-nil (cells x)))
    ∙ sym (flat_append (map cells (reverse l)) (cells x ∷ []))
    ∙ ap flat (sym (map-append cells (reverse l) (x ∷ [])))
    ∙ ap (λ (ns : List Node). flat (map cells ns)) (sym (reverse-cons x l))

pub whole_nodes : (t : List ℕ) (m : ℕ) → 9 * m ≤ length t → Behind t (9 * m) → t ≡ nodes_in (length t) (reverse (newest (node_at t) m))
whole_nodes t m h b =
    let c : length (reverse (newest (node_at t) m)) ≡ m = length-reverse (newest (node_at t) m) ∙ newest_length (node_at t) m in
    zeros_behind t (9 * m) h b
    ∙ ap (λ (front : List ℕ). front ++ zeros (length t - 9 * m)) (front_nodes t m h)
    ∙ ap (λ (k : ℕ). flat (map cells (reverse (newest (node_at t) m))) ++ zeros (length t - 9 * k)) (sym c)

-- The base in the newest node

is_base_b : (n : ℕ) → is_b (base_of n) ≡ eqb n 1
unfolding base_of
is_base_b n = by_tests (eqb n 1) (eqb n 2) (eqb n 3)
  where
    by_tests : (a b c : Bool) → is_b (pick a B (pick b K (pick c «V» W))) ≡ a
    by_tests true b c = refl
    by_tests false true c = refl
    by_tests false false true = refl
    by_tests false false false = refl

module _ (segwit : Bool) (script tokens : List ℕ) (count : ℕ) (limits : Limits) {nodes keys work : List ℕ} {s : State} {steps : ℕ} (running : Running segwit script tokens count limits nodes keys work s steps) (none_left : s.work ≡ 0) where
  abbrev lexemes : List Lexeme
  lexemes = reverse_aux (lexemes_left script tokens count) []

  abbrev left : List Lexeme
  left = lexemes_left script tokens s.left

  abbrev done : Trees
  done = running.state.done

  state_is : machine.goes running.state ≡ machine.goes_on [] left done
  unfolding view_of
  state_is =
      ap (λ (w : List NonTerm). machine.goes_on w running.state.left done) (sym running.same.work ∙ ap (λ (n : ℕ). work_of work n) none_left)
      ∙ ap (λ (l : List Lexeme). machine.goes_on [] l done) (sym running.same.left)

  -- one tree is finished
  the_tree_lem : (t : Tree) × (done ≡ t ⊳ nil)
  the_tree_lem = let e = end_good segwit lexemes left done (subst (Good segwit lexemes) state_is running.good) in (e.0, e.1)

  run_ends : decode segwit limits lexemes ≡ ends steps (closes segwit left done)
  run_ends =
      let m : running.most ≡ suc (running.most - 1) = omega (arith, running.enough) in
      running.run ∙ ap (λ (k : ℕ). carry_on segwit limits k steps (machine.goes running.state)) m ∙ ap (carry_on segwit limits (suc (running.most - 1)) steps) state_is

  pub some_node : 1 ≤ s.nodes
  some_node = let e : sizes done ≡ sizes (the_tree_lem.0 ⊳ nil) = ap sizes the_tree_lem.1 in omega (arith, nodes_are segwit script tokens count limits running, e, size_some the_tree_lem.0)

  -- the newest node is the tree's root, and holds its type
  root_type : type_of segwit the_tree_lem.0 ≡ Ok (held_type (node_at nodes (s.nodes - 1)))
  unfolding view_of
  root_type =
      let f : Forest segwit (newest (node_at nodes) s.nodes) (take s.keys keys) (the_tree_lem.0 ⊳ nil) = rw the_tree_lem.1 at running.same.forest in
      forest_top segwit the_tree_lem.0 nil f ∙ ap (λ (ns : List Node). Ok (held_type (top_node ns))) (newest_pop (node_at nodes) s.nodes some_node)

  abbrev base_cell : ℕ
  base_cell = get_or nodes (9 * (s.nodes - 1) + 5) 0

  top_is_lem : top_is the_tree_lem.0 (type_of segwit the_tree_lem.0) ≡ pick (eqb base_cell 1) (accepted the_tree_lem.0) (refused (refusal 19 0 []))
  top_is_lem = ap (top_is the_tree_lem.0) root_type ∙ ap (λ (b : Bool). pick b (accepted the_tree_lem.0) (refused (refusal 19 0 []))) (is_base_b base_cell)

  -- a refusal after the last entry leaves the tables as they are
  refuses_here : (number before : ℕ) (q : Refusal) → decode segwit limits lexemes ≡ ends steps (refused q) → q ≡ record { number = number; reason = 0; before = before } → 1 ≤ number
      → Runs segwit (decode segwit limits lexemes) nodes keys (halts number before s steps)
  refuses_here number before q v e p =
      rw v (record {
        number_is = sym (ap (λ (x : Refusal). x.number) e);
        reason_is = sym (ap (λ (x : Refusal). x.reason) e);
        left_is = sym (ap (λ (x : Refusal). x.before) e);
        steps_are = refl;
        some = omega (arith, ap (λ (x : Refusal). x.number) e);
        the_nodes_in = nodes_inside segwit script tokens count limits running;
        keys_in = running.keys_in;
        nodes_behind = running.nodes_behind;
        keys_behind = running.keys_behind;
      })

  accepts_here : decode segwit limits lexemes ≡ ends steps (accepted the_tree_lem.0) → Runs segwit (decode segwit limits lexemes) nodes keys (Ok (ran_of s steps))
  unfolding view_of
  accepts_here v =
      let t = the_tree_lem.0 in
      let f : Forest segwit (newest (node_at nodes) s.nodes) (take s.keys keys) (t ⊳ nil) = rw the_tree_lem.1 at running.same.forest in
      let table : reverse (newest (node_at nodes) s.nodes) ≡ node_table segwit (t ⊳ nil) = table_is segwit (reverse (newest (node_at nodes) s.nodes)) (t ⊳ nil) (reverse-reverse (newest (node_at nodes) s.nodes) ∙ f.nodes_are) in
      let n : s.nodes ≡ length (node_table segwit (t ⊳ nil)) = sym (newest_length (node_at nodes) s.nodes) ∙ sym (length-reverse (newest (node_at nodes) s.nodes)) ∙ ap length table in
      let taken : length (take s.keys keys) ≡ s.keys = simp length-take (omega (arith, running.keys_in)) in
      let k : s.keys ≡ length (key_table (t ⊳ nil)) = sym taken ∙ ap length f.keys_are in
      rw v (record {
        answers = ap (λ (i : ℕ). record { steps = steps; nodes = i; keys = s.keys }) n ∙ ap (λ (i : ℕ). record { steps = steps; nodes = length (node_table segwit (t ⊳ nil)); keys = i }) k;
        nodes_are = whole_nodes nodes s.nodes (nodes_inside segwit script tokens count limits running) running.nodes_behind ∙ ap (nodes_in (length nodes)) table;
        keys_are = zeros_behind keys s.keys running.keys_in running.keys_behind ∙ ap (λ (ks : List ℕ). ks ++ zeros (length keys - s.keys)) f.keys_are ∙ ap (λ (i : ℕ). key_table (t ⊳ nil) ++ zeros (length keys - i)) k;
      })

  -- what `close` answers, by the tokens left and the newest node's base
  by_left : (n : ℕ) → s.left ≡ n → Runs segwit (decode segwit limits lexemes) nodes keys (closes_with nodes s steps)
  by_left (suc n) e =
      let l : left ≡ lexemes_left script tokens (suc n) = ap (lexemes_left script tokens) e in
      let v : decode segwit limits lexemes ≡ ends steps (refused (refusal 18 0 (lexemes_left script tokens n))) = run_ends ∙ ap (λ (ls : List Lexeme). ends steps (closes segwit ls done)) l in
      let c : length (lexemes_left script tokens n) ≡ s.left - 1 = newest_length _ n ∙ omega arith in
      rw (le-leb 1 s.left (omega arith)) (refuses_here 18 (s.left - 1) _ v (ap (λ (i : ℕ). record { number = 18; reason = 0; before = i }) c) (omega arith))
  by_left zero e =
      let l : left ≡ [] = ap (lexemes_left script tokens) e in
      let v : decode segwit limits lexemes ≡ ends steps (pick (eqb base_cell 1) (accepted the_tree_lem.0) (refused (refusal 19 0 [])))
      = run_ends ∙ ap (λ (ls : List Lexeme). ends steps (closes segwit ls done)) l ∙ ap (λ (ts : Trees). ends steps (closes segwit [] ts)) the_tree_lem.1 ∙ ap (ends steps) top_is_lem in
      rw (lt-leb 1 s.left (omega arith)) (by_base (eqb base_cell 1) refl v)
    where
      by_base : (b : Bool) → eqb base_cell 1 ≡ b → decode segwit limits lexemes ≡ ends steps (pick b (accepted the_tree_lem.0) (refused (refusal 19 0 [])))
          → Runs segwit (decode segwit limits lexemes) nodes keys
          (pick b (Ok (ran_of s steps)) (halts 19 0 s steps))
      by_base true f v = accepts_here v
      by_base false f v = refuses_here 19 0 _ v refl (omega arith)

  pub closed : {r : Result Ran Halted} → r ≡ closes_with nodes s steps → Runs segwit (decode segwit limits lexemes) nodes keys r
  closed e = rw e (by_left s.left refl)

-- No room for the two entries at the start

no_room : (segwit : Bool) (limits : Limits) (l : List Lexeme) → limits.work < 2 → decode segwit limits (reverse_aux l []) ≡ ends 0 (refused (refusal 17 0 l))
unfolding decode
no_room segwit limits l h =
    let started : start segwit limits l ≡ machine.stops (refusal 17 0 l) = rw (le-leb 0 limits.keys (omega arith), le-leb 0 limits.nodes (omega arith), lt-leb 2 limits.work h) in
    let e : 8 * length (reverse_aux l []) + 2 ≡ suc (8 * length (reverse_aux l []) + 1) = omega arith in
    ap (carry_on segwit limits (8 * length (reverse_aux l []) + 2) 0) (ap (start segwit limits) (reverse-reverse l) ∙ started) ∙ ap (λ (k : ℕ). carry_on segwit limits k 0 (machine.stops (refusal 17 0 l))) e

pub full_at_start : (segwit : Bool) (script tokens : List ℕ) (count : ℕ) (nodes keys work : List ℕ) {stop : Stop} {h : Halted} → length work < 2 → Behind nodes 0 → Behind keys 0
    → stop ≡ stop_of (counts count 0 0 0) 17 0 → h ≡ record { stop = stop; ran = ran_of (counts count 0 0 0) 0 } → Runs segwit (decode segwit (room_of nodes keys work) (reverse_aux (lexemes_left script tokens count) [])) nodes keys (Err h)
full_at_start segwit script tokens count nodes keys work h bn bk e f =
    rw (f, e, no_room segwit (room_of nodes keys work) (lexemes_left script tokens count) h) (record {
      number_is = refl;
      reason_is = refl;
      left_is = sym (newest_length _ count);
      steps_are = refl;
      some = omega arith;
      the_nodes_in = omega arith;
      keys_in = omega arith;
      nodes_behind = bn;
      keys_behind = bk;
    })

-- Lengths

-- only the lengths of the tables are the room
pub same_room : (segwit : Bool) (nodes keys work other : List ℕ) (l : List Lexeme) (n k : List ℕ) (r : Result Ran Halted) → length work ≡ length other → Runs segwit (decode segwit (room_of nodes keys work) l) n k r → Runs segwit (decode segwit (room_of nodes keys other) l) n k r
same_room segwit nodes keys work other l n k r e h =
    subst (λ (i : ℕ). Runs segwit (decode segwit (record { nodes = length nodes / 9; keys = length keys; work = i }) l) n k r) e h

pub same_rooms : (nodes keys work nodes' keys' work' : List ℕ) (limits : Limits) → length nodes' ≡ length nodes → length keys' ≡ length keys → length work' ≡ length work → room_of nodes keys work ≡ limits → room_of nodes' keys' work' ≡ limits
same_rooms nodes keys work nodes' keys' work' limits n k w e =
    ap (λ (i : ℕ). record { nodes = i / 9; keys = length keys'; work = length work' }) n
    ∙ ap (λ (i : ℕ). record { nodes = length nodes / 9; keys = i; work = length work' }) k
    ∙ ap (λ (i : ℕ). record { nodes = length nodes / 9; keys = length keys; work = i }) w
    ∙ e
