-- What was written, read as lists: each request is carried out as the machine on lists does it. Assumes nothing.
use Rattle.std.proofs.Common.{Ok}
use mathlib.Core.Path.{◌≡◌, refl, sym, ap, ◌∙◌}
use mathlib.Core.Bool.{Bool, true, false}
use mathlib.Core.List.{List, [], ◌∷◌, ◌++◌}
use Prim.Native.Nat.{ℕ, ◌+◌, ◌*◌, ◌/◌, ◌≤◌, ◌<◌}
use native.Mathlib.Omega.{arith}
use lib.Dec.{leb}
use lib.ListN.{length, take, drop, length-append, length-take}
use lib.Seq.{take_at}
use borrow.Author.Tests.{leb-true, leb-false}
use Rattle.tables.specs.Choose.{pick}
use Rattle.tables.specs.Tables.{newest, put_at}
use Rattle.tables.proofs.NewestLaws.{newest_length}
use Rattle.tables.proofs.PutLaws.{put_length, put_behind, put_parts}
use Rattle.standard.specs.Table.{Node, cells}
use Rattle.standard.specs.Rows as rows
use Rattle.standard.specs.Machine.{refusal}
use Rattle.row.specs.Tokens.{lexemes_left}
use Rattle.row.specs.Request.{Request, refused, entries, keys_node, oneChild, twoChildren, three_children, many_children}
use Rattle.row.specs.Request as request
use Rattle.judge.specs.Nodes.{Making, makes, refuses, new_leaf, reduce_one, reduce_two, reduce_three, reduce_many}
use Rattle.judge.specs.NodeTable.{node_at}
use Rattle.work_list.specs.Work.{work_of}
use Rattle.judge.specs.NodeTableLaws.{put_newest}
use Rattle.lists.specs.Lists.{Lists, goes, stops, fitting, made}
use Rattle.lists.specs.FittingLaws.{all_fits, no_work_room, no_node_room, no_key_room}
use Rattle.writes.specs.declared.State.{State}
use Rattle.writes.specs.Written.{Step, counts, stopped, Enters, Stores, Finishes, Verified, Keyed}
use Rattle.perform.specs.View.{view_of, seen, room_of, perform_on, Inside, Behind, Kept, Performs}

module _ (tokens nodes keys work : List ℕ) (s : State) (inside : Inside nodes keys work s) where
  -- The lists before

  abbrev lists : List ℕ → List rows.NonTerm → List Node → List ℕ → Lists
  lists script w n k = record { work = w; left = lexemes_left script tokens s.left; nodes = n; keys = k }

  work_length : length (work_of work s.work) ≡ s.work
  work_length = newest_length _ s.work

  nodes_length : length (newest (node_at nodes) s.nodes) ≡ s.nodes
  nodes_length = newest_length (node_at nodes) s.nodes

  keys_length : length (take s.keys keys) ≡ s.keys
  keys_length = simp length-take (omega (arith, inside.in_keys))

  -- a refusal is about the last token taken
  refused_here : (script : List ℕ) (number reason : ℕ) → stops (record { number = number; reason = reason; before = s.left }) ≡ stops (refusal number reason (lexemes_left script tokens s.left))
  refused_here script number reason = ap (λ (n : ℕ). stops (record { number = number; reason = reason; before = n })) (sym (newest_length _ s.left))

  -- Entries

  enters_by : (numbers : List ℕ) (es : List rows.NonTerm) (b : Bool) → leb (s.work + length numbers) (length work) ≡ b → length es ≡ length numbers
      → (s.work + length numbers ≤ length work → work_of (put_at work s.work numbers) (s.work + length numbers) ≡ es ++ work_of work s.work)
      → (script : List ℕ) → seen script tokens nodes keys (pick b (put_at work s.work numbers) work) (pick b (Ok (counts s.left (s.work + length numbers) s.nodes s.keys)) (stopped s 17 0))
      ≡ perform_on script tokens nodes keys work s (entries es)
  unfolding view_of
  enters_by numbers es true e l w script =
      let h : s.work + length numbers ≤ length work = leb-true (s.work + length numbers) (length work) e in
      ap (λ (v : List rows.NonTerm). goes (lists script v (newest (node_at nodes) s.nodes) (take s.keys keys))) (w h)
      ∙ sym (all_fits (room_of nodes keys work) (lists script (es ++ work_of work s.work) (newest (node_at nodes) s.nodes) (take s.keys keys))
      (omega (arith, keys_length, inside.in_keys)) (omega (arith, nodes_length, inside.in_nodes)) (omega (arith, length-append es (work_of work s.work), work_length)))
  enters_by numbers es false e l w script =
      let h : length work < s.work + length numbers = leb-false (s.work + length numbers) (length work) e in
      refused_here script 17 0
      ∙ sym (no_work_room (room_of nodes keys work) (lists script (es ++ work_of work s.work) (newest (node_at nodes) s.nodes) (take s.keys keys))
      (omega (arith, keys_length, inside.in_keys)) (omega (arith, nodes_length, inside.in_nodes)) (omega (arith, length-append es (work_of work s.work), work_length)))

  enters_kept : (b : Bool) (w : ℕ) → Kept nodes nodes keys keys s (pick b (Ok (counts s.left w s.nodes s.keys)) (stopped s 17 0))
  enters_kept true w = (((λ h. h), (λ h. h)), inside.in_keys)
  enters_kept false w = (refl, refl)

  pub enters_performs : {work' numbers : List ℕ} (es : List rows.NonTerm) {r : Step} → Enters work work' s numbers r → length es ≡ length numbers
      → (s.work + length numbers ≤ length work → work_of (put_at work s.work numbers) (s.work + length numbers) ≡ es ++ work_of work s.work)
      → Performs tokens nodes keys work nodes keys work' s (entries es) r
  enters_performs {work'} {numbers} es {r} h l w =
      record {
        answers = λ script. rw (h.answers, h.table) (enters_by numbers es (leb (s.work + length numbers) (length work)) refl l w script);
        kept = rw h.answers (enters_kept (leb (s.work + length numbers) (length work)) (s.work + length numbers));
      }

  -- Nodes

  put_kept : (x : Node) → Behind nodes (9 * s.nodes) → Behind (put_at nodes (9 * s.nodes) (cells x)) (9 * (s.nodes + 1))
  put_kept x h i b = put_behind nodes (9 * s.nodes) i (cells x) (omega arith) ∙ h i (omega arith)

  stores_by : (x : Node) (b : Bool) → leb (s.nodes + 1) (length nodes / 9) ≡ b
      → (script : List ℕ) → seen script tokens (pick b (put_at nodes (9 * s.nodes) (cells x)) nodes) keys work (pick b (Ok (counts s.left s.work (s.nodes + 1) s.keys)) (stopped s 15 0))
      ≡ fitting (room_of nodes keys work) (lists script (work_of work s.work) (x ∷ newest (node_at nodes) s.nodes) (take s.keys keys))
  unfolding view_of
  stores_by x true e script =
      let h : s.nodes + 1 ≤ length nodes / 9 = leb-true (s.nodes + 1) (length nodes / 9) e in
      ap (λ (n : List Node). goes (lists script (work_of work s.work) n (take s.keys keys))) (put_newest nodes s.nodes x (omega arith))
      ∙ sym (all_fits (room_of nodes keys work) (lists script (work_of work s.work) (x ∷ newest (node_at nodes) s.nodes) (take s.keys keys))
      (omega (arith, keys_length, inside.in_keys)) (omega (arith, nodes_length)) (omega (arith, work_length, inside.in_work)))
  stores_by x false e script =
      let h : length nodes / 9 < s.nodes + 1 = leb-false (s.nodes + 1) (length nodes / 9) e in
      refused_here script 15 0
      ∙ sym (no_node_room (room_of nodes keys work) (lists script (work_of work s.work) (x ∷ newest (node_at nodes) s.nodes) (take s.keys keys))
      (omega (arith, keys_length, inside.in_keys)) (omega (arith, nodes_length)))

  stores_kept : (x : Node) (b : Bool) → Kept nodes (pick b (put_at nodes (9 * s.nodes) (cells x)) nodes) keys keys s (pick b (Ok (counts s.left s.work (s.nodes + 1) s.keys)) (stopped s 15 0))
  stores_kept x true = ((put_kept x, (λ h. h)), inside.in_keys)
  stores_kept x false = (refl, refl)

  -- a node judged, or refused with 14
  finishes_made : (m : Making) (nodes' : List ℕ) (r : Step) → Finishes nodes nodes' s m r → (script : List ℕ)
      → seen script tokens nodes' keys work r ≡ made (room_of nodes keys work) (work_of work s.work) (lexemes_left script tokens s.left) (newest (node_at nodes) s.nodes) (take s.keys keys) m
  finishes_made (makes x) nodes' r h script = rw (h.answers, h.table) (stores_by x (leb (s.nodes + 1) (length nodes / 9)) refl script)
  finishes_made (refuses reason) nodes' r h script = rw h.0 (refused_here script 14 reason)

  finishes_kept : (m : Making) (nodes' : List ℕ) (r : Step) → Finishes nodes nodes' s m r → Kept nodes nodes' keys keys s r
  finishes_kept (makes x) nodes' r h = rw (h.answers, h.table) (stores_kept x (leb (s.nodes + 1) (length nodes / 9)))
  finishes_kept (refuses reason) nodes' r h = rw h.0 (h.1, refl)

  -- what a reduction makes of these nodes
  abbrev reduced : Request → Making → Type 0
  reduced r m = (script : List ℕ) → perform_on script tokens nodes keys work s r ≡ made (room_of nodes keys work) (work_of work s.work) (lexemes_left script tokens s.left) (newest (node_at nodes) s.nodes) (take s.keys keys) m

  finishes_performs : (request : Request) (m n : Making) (nodes' : List ℕ) (r : Step) → reduced request n → m ≡ n → Finishes nodes nodes' s m r → Performs tokens nodes keys work nodes' keys work s request r
  finishes_performs request m n nodes' r d e h =
      record {
        answers = λ script. finishes_made m nodes' r h script ∙ ap (made (room_of nodes keys work) (work_of work s.work) (lexemes_left script tokens s.left) (newest (node_at nodes) s.nodes) (take s.keys keys)) e ∙ sym (d script);
        kept = finishes_kept m nodes' r h;
      }

  pub one_performs : (kind : ℕ) (m : Making) (nodes' : List ℕ) (r : Step) → m ≡ reduce_one kind (newest (node_at nodes) s.nodes) → Finishes nodes nodes' s m r → Performs tokens nodes keys work nodes' keys work s (oneChild kind) r
  one_performs kind m nodes' r e h = finishes_performs (oneChild kind) m _ nodes' r (λ script. refl) e h

  pub two_performs : (kind : ℕ) (m : Making) (nodes' : List ℕ) (r : Step) → m ≡ reduce_two kind (newest (node_at nodes) s.nodes) → Finishes nodes nodes' s m r → Performs tokens nodes keys work nodes' keys work s (twoChildren kind) r
  two_performs kind m nodes' r e h = finishes_performs (twoChildren kind) m _ nodes' r (λ script. refl) e h

  pub three_performs : (m : Making) (nodes' : List ℕ) (r : Step) → m ≡ reduce_three (newest (node_at nodes) s.nodes) → Finishes nodes nodes' s m r → Performs tokens nodes keys work nodes' keys work s three_children r
  three_performs m nodes' r e h = finishes_performs three_children m _ nodes' r (λ script. refl) e h

  pub many_performs : (k n : ℕ) (m : Making) (nodes' : List ℕ) (r : Step) → m ≡ reduce_many k n (newest (node_at nodes) s.nodes) → Finishes nodes nodes' s m r → Performs tokens nodes keys work nodes' keys work s (many_children k n) r
  many_performs k n m nodes' r e h = finishes_performs (many_children k n) m _ nodes' r (λ script. refl) e h

  -- Leaves

  pub leaf_performs : (kind number place : ℕ) (x : Node) {nodes' : List ℕ} {r : Step} → x ≡ new_leaf kind number 0 place → Stores nodes nodes' s x r → Performs tokens nodes keys work nodes' keys work s (request.leaf_node kind number place []) r
  leaf_performs kind number place x {nodes'} {r} e h =
      record {
        answers = λ script. finishes_made (makes x) nodes' r h script ∙ ap (λ (y : Node). fitting (room_of nodes keys work) (lists script (work_of work s.work) (y ∷ newest (node_at nodes) s.nodes) (take s.keys keys))) e;
        kept = finishes_kept (makes x) nodes' r h;
      }

  module _ (x : Node) (numbers : List ℕ) (wrapper : rows.NonTerm) (one : length numbers ≡ 1) (entered : s.work + 1 ≤ length work → work_of (put_at work s.work numbers) (s.work + 1) ≡ wrapper ∷ work_of work s.work) where
    verified_by : (b c : Bool) → leb (s.nodes + 1) (length nodes / 9) ≡ b → leb (s.work + 1) (length work) ≡ c → (script : List ℕ)
        → seen script tokens (pick b (pick c (put_at nodes (9 * s.nodes) (cells x)) nodes) nodes) keys (pick b (pick c (put_at work s.work numbers) work) work)
        (pick b (pick c (Ok (counts s.left (s.work + 1) (s.nodes + 1) s.keys)) (stopped s 17 0)) (stopped s 15 0))
        ≡ fitting (room_of nodes keys work) (lists script (wrapper ∷ work_of work s.work) (x ∷ newest (node_at nodes) s.nodes) (take s.keys keys))
    unfolding view_of
    verified_by true true e f script =
        let h : s.nodes + 1 ≤ length nodes / 9 = leb-true (s.nodes + 1) (length nodes / 9) e in
        let g : s.work + 1 ≤ length work = leb-true (s.work + 1) (length work) f in
        ap (λ (n : List Node). goes (lists script (work_of (put_at work s.work numbers) (s.work + 1)) n (take s.keys keys))) (put_newest nodes s.nodes x (omega arith))
        ∙ ap (λ (w : List rows.NonTerm). goes (lists script w (x ∷ newest (node_at nodes) s.nodes) (take s.keys keys))) (entered g)
        ∙ sym (all_fits (room_of nodes keys work) (lists script (wrapper ∷ work_of work s.work) (x ∷ newest (node_at nodes) s.nodes) (take s.keys keys))
        (omega (arith, keys_length, inside.in_keys)) (omega (arith, nodes_length)) (omega (arith, work_length)))
    verified_by true false e f script =
        let h : s.nodes + 1 ≤ length nodes / 9 = leb-true (s.nodes + 1) (length nodes / 9) e in
        let g : length work < s.work + 1 = leb-false (s.work + 1) (length work) f in
        refused_here script 17 0
        ∙ sym (no_work_room (room_of nodes keys work) (lists script (wrapper ∷ work_of work s.work) (x ∷ newest (node_at nodes) s.nodes) (take s.keys keys))
        (omega (arith, keys_length, inside.in_keys)) (omega (arith, nodes_length)) (omega (arith, work_length)))
    verified_by false c e f script =
        let h : length nodes / 9 < s.nodes + 1 = leb-false (s.nodes + 1) (length nodes / 9) e in
        refused_here script 15 0
        ∙ sym (no_node_room (room_of nodes keys work) (lists script (wrapper ∷ work_of work s.work) (x ∷ newest (node_at nodes) s.nodes) (take s.keys keys))
        (omega (arith, keys_length, inside.in_keys)) (omega (arith, nodes_length)))

    verified_kept : (b c : Bool) → Kept nodes (pick b (pick c (put_at nodes (9 * s.nodes) (cells x)) nodes) nodes) keys keys s
        (pick b (pick c (Ok (counts s.left (s.work + 1) (s.nodes + 1) s.keys)) (stopped s 17 0)) (stopped s 15 0))
    verified_kept true true = ((put_kept x, (λ h. h)), inside.in_keys)
    verified_kept true false = (refl, refl)
    verified_kept false c = (refl, refl)

    pub verified_performs : (kind number place : ℕ) {nodes' work' : List ℕ} {r : Step} → x ≡ new_leaf kind number 0 place → Verified nodes nodes' work work' s x numbers r
        → Performs tokens nodes keys work nodes' keys work' s (request.leaf_node kind number place (wrapper ∷ [])) r
    verified_performs kind number place e h =
        let b = leb (s.nodes + 1) (length nodes / 9) in
        let c = leb (s.work + 1) (length work) in
        record {
          answers = λ script. rw (h.answers, h.nodes_are, h.work_is) (verified_by b c refl refl script
              ∙ ap (λ (y : Node). fitting (room_of nodes keys work) (lists script (wrapper ∷ work_of work s.work) (y ∷ newest (node_at nodes) s.nodes) (take s.keys keys))) e);
          kept = rw (h.answers, h.nodes_are) (verified_kept b c);
        }

  -- Keys

  keys_after : (offsets : List ℕ) → s.keys + length offsets ≤ length keys → take (s.keys + length offsets) (put_at keys s.keys offsets) ≡ take s.keys keys ++ offsets
  keys_after offsets h =
      ap (take (s.keys + length offsets)) (put_parts keys s.keys offsets h)
      ∙ take_at (take s.keys keys ++ offsets) (drop (s.keys + length offsets) keys) (s.keys + length offsets) (length-append (take s.keys keys) offsets ∙ ap (λ (k : ℕ). k + length offsets) keys_length)

  copied_kept : (offsets : List ℕ) → Behind keys s.keys → Behind (put_at keys s.keys offsets) (s.keys + length offsets)
  copied_kept offsets h i b = put_behind keys s.keys i offsets b ∙ h i (omega arith)

  module _ (x : Node) (offsets : List ℕ) where
    abbrev after : List ℕ → Lists
    after script = lists script (work_of work s.work) (x ∷ newest (node_at nodes) s.nodes) (take s.keys keys ++ offsets)

    keys_after_length : length (take s.keys keys ++ offsets) ≡ s.keys + length offsets
    keys_after_length = length-append (take s.keys keys) offsets ∙ ap (λ (k : ℕ). k + length offsets) keys_length

    keyed_by : (b c : Bool) → leb (s.keys + length offsets) (length keys) ≡ b → leb (s.nodes + 1) (length nodes / 9) ≡ c → (script : List ℕ)
        → seen script tokens (pick b (pick c (put_at nodes (9 * s.nodes) (cells x)) nodes) nodes) (pick b (pick c (put_at keys s.keys offsets) keys) keys) work
        (pick b (pick c (Ok (counts s.left s.work (s.nodes + 1) (s.keys + length offsets))) (stopped s 15 0)) (stopped s 16 0))
        ≡ fitting (room_of nodes keys work) (after script)
    unfolding view_of
    keyed_by true true e f script =
        let h : s.keys + length offsets ≤ length keys = leb-true (s.keys + length offsets) (length keys) e in
        let g : s.nodes + 1 ≤ length nodes / 9 = leb-true (s.nodes + 1) (length nodes / 9) f in
        ap (λ (n : List Node). goes (lists script (work_of work s.work) n (take (s.keys + length offsets) (put_at keys s.keys offsets)))) (put_newest nodes s.nodes x (omega arith))
        ∙ ap (λ (k : List ℕ). goes (lists script (work_of work s.work) (x ∷ newest (node_at nodes) s.nodes) k)) (keys_after offsets h)
        ∙ sym (all_fits (room_of nodes keys work) (after script) (omega (arith, keys_after_length)) (omega (arith, nodes_length)) (omega (arith, work_length, inside.in_work)))
    keyed_by true false e f script =
        let h : s.keys + length offsets ≤ length keys = leb-true (s.keys + length offsets) (length keys) e in
        let g : length nodes / 9 < s.nodes + 1 = leb-false (s.nodes + 1) (length nodes / 9) f in
        refused_here script 15 0 ∙ sym (no_node_room (room_of nodes keys work) (after script) (omega (arith, keys_after_length)) (omega (arith, nodes_length)))
    keyed_by false c e f script =
        let h : length keys < s.keys + length offsets = leb-false (s.keys + length offsets) (length keys) e in
        refused_here script 16 0 ∙ sym (no_key_room (room_of nodes keys work) (after script) (omega (arith, keys_after_length)))

    keyed_kept : (b c : Bool) → leb (s.keys + length offsets) (length keys) ≡ b → Kept nodes (pick b (pick c (put_at nodes (9 * s.nodes) (cells x)) nodes) nodes) keys (pick b (pick c (put_at keys s.keys offsets) keys) keys) s
        (pick b (pick c (Ok (counts s.left s.work (s.nodes + 1) (s.keys + length offsets))) (stopped s 15 0)) (stopped s 16 0))
    keyed_kept true true e = ((put_kept x, copied_kept offsets), omega (arith, put_length keys s.keys offsets, leb-true (s.keys + length offsets) (length keys) e))
    keyed_kept true false e = (refl, refl)
    keyed_kept false c e = (refl, refl)

    pub keyed_performs : (kind k n : ℕ) {nodes' keys' : List ℕ} {r : Step} → length offsets ≡ n → x ≡ new_leaf kind k n s.keys → Keyed nodes nodes' keys keys' s x offsets r
        → Performs tokens nodes keys work nodes' keys' work s (keys_node kind k offsets []) r
    keyed_performs kind k n l e h =
        let b = leb (s.keys + length offsets) (length keys) in
        let c = leb (s.nodes + 1) (length nodes / 9) in
        let same : x ≡ new_leaf kind k (length offsets) (length (take s.keys keys)) = e ∙ ap (λ (i : ℕ). new_leaf kind k i s.keys) (sym l) ∙ ap (new_leaf kind k (length offsets)) (sym keys_length) in
        record {
          answers = λ script. rw (h.answers, h.nodes_are, h.keys_are) (keyed_by b c refl refl script
              ∙ ap (λ (y : Node). fitting (room_of nodes keys work) (lists script (work_of work s.work) (y ∷ newest (node_at nodes) s.nodes) (take s.keys keys ++ offsets))) same);
          kept = rw (h.answers, h.nodes_are, h.keys_are) (keyed_kept b c refl);
        }

  -- Nothing to write

  pub refused_performs : (number : ℕ) {r : Step} → r ≡ stopped s number 0 → Performs tokens nodes keys work nodes keys work s (refused number) r
  refused_performs number e = record { answers = λ script. rw e (refused_here script number 0); kept = rw e (refl, refl) }

  pub goes_performs : {r : Step} → r ≡ Ok s → Performs tokens nodes keys work nodes keys work s (entries []) r
  unfolding view_of
  goes_performs e =
      record {
        answers = λ script. rw e (sym (all_fits (room_of nodes keys work) (lists script (work_of work s.work) (newest (node_at nodes) s.nodes) (take s.keys keys))
            (omega (arith, keys_length, inside.in_keys)) (omega (arith, nodes_length, inside.in_nodes)) (omega (arith, work_length, inside.in_work))));
        kept = rw e (((λ h. h), (λ h. h)), inside.in_keys);
      }
