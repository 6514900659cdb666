-- The loop of `run`: at each turn the tables hold what the machine on trees holds, and the run from there on is the run from the start. Assumes nothing.
use Rattle.std.proofs.Common.{Result, Ok, Err, MatchResult}
use mathlib.Core.Path.{◌≡◌, refl, sym, ap, subst, ◌∙◌}
use mathlib.Core.Bool.{Bool, true, false}
use mathlib.Core.List.{List, [], ◌∷◌, reverse_aux, reverse-reverse}
use Prim.Native.Nat.{ℕ, zero, suc, ◌+◌, ◌-◌, ◌*◌, ◌≤◌, ◌<◌}
use native.Mathlib.Omega.{arith}
use lib.Dec.{leb}
use lib.ListN.{length, take, length-reverse_aux}
use borrow.Author.Tests.{le-leb, leb-true, leb-false}
use Rattle.tables.specs.Choose.{pick}
use Rattle.tables.specs.Tables.{newest, put_at}
use Rattle.tables.proofs.BoolLaws.{left_true}
use Rattle.tables.proofs.NewestLaws.{newest_length}
use Rattle.lex.specs.Token.{Lexeme}
use Rattle.standard.specs.Tree.{Trees, nil, sizes, key_counts}
use Rattle.standard.specs.Allowed.{within}
use Rattle.standard.specs.Rows.{NonTerm, Expression, MaybeAndV}
use Rattle.standard.specs.Machine as machine
use Rattle.standard.specs.Machine.{Limits, Refusal, refusal, Run, ends, refused, carry_on, decode, start}
use Rattle.standard.proofs.Sound.{Good, start_good, step_good}
use Rattle.standard.proofs.Bound.{pushes, to_step, to_make, Less, step_less, Bounded, begin_bounded, step_bounded}
use Rattle.standard.proofs.ReadLexemes.{never_empty}
use Rattle.row.specs.Tokens.{lexemes_left}
use Rattle.judge.specs.NodeTable.{node_at}
use Rattle.work_list.specs.Work.{entry_at, work_of}
use Rattle.work_list.proofs.WorkLaws.{taken}
use Rattle.forest.specs.Forest.{Forest}
use Rattle.forest.proofs.ForestLaws.{forest_empty, nodes_counted}
use Rattle.lists.specs.Lists.{goes, stops, step_by}
use Rattle.lists.proofs.StepLaws.{Same, Tied, step_tied}
use Rattle.writes.specs.declared.State.{State}
use Rattle.writes.specs.declared.Stop.{Stop}
use Rattle.writes.specs.Written.{Step, counts, stop_of, stopped, Enters}
use Rattle.perform.specs.View.{view_of, seen, room_of, Behind, Kept, Steps}
use Rattle.run.specs.declared.Halted.{Halted}
use Rattle.run.specs.Runs.{ran_of, halted, Runs}

-- An answer with the count of steps, by what it was

pub went_from : (r : Step) (s : State) (steps : ℕ) {t : State} → MatchResult r (λ (x : State). ◌≡◌ {A = Result State Halted} (Ok t) (Ok x)) (λ (stop : Stop). ◌≡◌ {A = Result State Halted} (Ok t) (halted stop s steps)) → r ≡ Ok t
went_from (Ok x) s steps h = cc
went_from (Err stop) s steps h = cc

pub halted_from : (r : Step) (s : State) (steps : ℕ) {h : Halted} → MatchResult r (λ (x : State). ◌≡◌ {A = Result State Halted} (Err h) (Ok x)) (λ (stop : Stop). ◌≡◌ {A = Result State Halted} (Err h) (halted stop s steps))
    → (stop : Stop) × (r ≡ Err stop) × (h ≡ record { stop = stop; ran = ran_of s steps })
halted_from (Ok x) s steps h = absurd cc
halted_from (Err stop) s steps h = (stop, refl, cc)

-- Entries entered, by the answer

module _ {work work' numbers : List ℕ} {s : State} {r : Step} (enters : Enters work work' s numbers r) where
  pub entered_all : {t : State} → r ≡ Ok t → (s.work + length numbers ≤ length work) × ((work' ≡ put_at work s.work numbers) × (t ≡ counts s.left (s.work + length numbers) s.nodes s.keys))
  entered_all {t} e = by_test (leb (s.work + length numbers) (length work)) refl (sym e ∙ enters.answers) enters.table
    where
      by_test : (b : Bool) → leb (s.work + length numbers) (length work) ≡ b → ◌≡◌ {A = Step} (Ok t) (pick b (Ok (counts s.left (s.work + length numbers) s.nodes s.keys)) (stopped s 17 0)) → work' ≡ pick b (put_at work s.work numbers) work
          → (s.work + length numbers ≤ length work) × ((work' ≡ put_at work s.work numbers) × (t ≡ counts s.left (s.work + length numbers) s.nodes s.keys))
      by_test true b h w = (leb-true (s.work + length numbers) (length work) b, (w, cc))
      by_test false b h w = absurd cc

  pub entered_none : {stop : Stop} → r ≡ Err stop → (length work < s.work + length numbers) × (stop ≡ stop_of s 17 0)
  entered_none {stop} e = by_test (leb (s.work + length numbers) (length work)) refl (sym e ∙ enters.answers)
    where
      by_test : (b : Bool) → leb (s.work + length numbers) (length work) ≡ b → ◌≡◌ {A = Step} (Err stop) (pick b (Ok (counts s.left (s.work + length numbers) s.nodes s.keys)) (stopped s 17 0)) → (length work < s.work + length numbers) × (stop ≡ stop_of s 17 0)
      by_test true b h = absurd cc
      by_test false b h = (leb-false (s.work + length numbers) (length work) b, cc)

-- What fits

pub record Fits (limits : Limits) (s : machine.State) : Type 0 where
  pub keys_fit : key_counts s.done ≤ limits.keys
  pub nodes_fit : sizes s.done ≤ limits.nodes
  pub work_fits : length s.work ≤ limits.work

by_tests : (limits : Limits) (s t : machine.State) (a b c : Bool) → leb (key_counts s.done) limits.keys ≡ a → leb (sizes s.done) limits.nodes ≡ b → leb (length s.work) limits.work ≡ c
    → pick a (pick b (pick c (machine.goes s) (machine.stops (refusal 17 0 s.left))) (machine.stops (refusal 15 0 s.left))) (machine.stops (refusal 16 0 s.left)) ≡ machine.goes t
    → (machine.goes s ≡ machine.goes t) × Fits limits s
by_tests limits s t true true true ka nb wc h = (h, record { keys_fit = leb-true _ _ ka; nodes_fit = leb-true _ _ nb; work_fits = leb-true _ _ wc })
by_tests limits s t true true false ka nb wc h = let z : ◌≡◌ {A = ℕ} 0 1 = cc in let x : ⊥ = omega arith in absurd x
by_tests limits s t true false c ka nb wc h = let z : ◌≡◌ {A = ℕ} 0 1 = cc in let x : ⊥ = omega arith in absurd x
by_tests limits s t false b c ka nb wc h = let z : ◌≡◌ {A = ℕ} 0 1 = cc in let x : ⊥ = omega arith in absurd x

same_state : (s t : machine.State) → machine.goes s ≡ machine.goes t → s ≡ t
same_state s t e = cc

went : (limits : Limits) (x : machine.Next) (t : machine.State) → machine.fitting limits x ≡ machine.goes t → (x ≡ machine.goes t) × Fits limits t
went limits (machine.stops r) t h = let z : ◌≡◌ {A = ℕ} 0 1 = cc in let x : ⊥ = omega arith in absurd x
went limits (machine.goes s) t h =
    let p = by_tests limits s t (leb (key_counts s.done) limits.keys) (leb (sizes s.done) limits.nodes) (leb (length s.work) limits.work) refl refl refl h in
    (p.0, subst (Fits limits) (same_state s t p.0) p.1)

module _ (segwit : Bool) (script tokens : List ℕ) (count : ℕ) (limits : Limits) where
  -- the tokens, the next one first; and the script's lexemes
  abbrev left₀ : List Lexeme
  left₀ = lexemes_left script tokens count

  abbrev lexemes : List Lexeme
  lexemes = reverse_aux left₀ []

  -- The invariant

  pub record Running (nodes keys work : List ℕ) (s : State) (steps : ℕ) : Type 0 where
    pub state : machine.State
    pub most : ℕ
    pub same : Same segwit (view_of script tokens nodes keys work s) state
    pub good : Good segwit lexemes (machine.goes state)
    pub bounded : Bounded count (pushes left₀) steps (machine.goes state)
    pub run : decode segwit limits lexemes ≡ carry_on segwit limits most steps (machine.goes state)
    pub enough : to_step state.work state.left + 1 ≤ most
    pub rooms : room_of nodes keys work ≡ limits
    pub fits : Fits limits state
    pub nodes_behind : Behind nodes (9 * s.nodes)
    pub keys_behind : Behind keys s.keys
    pub keys_in : s.keys ≤ length keys

  -- The start

  begin : machine.State
  begin = record { work = Expression ∷ MaybeAndV ∷ []; left = left₀; done = nil }

  pub begun : (nodes keys work : List ℕ) → room_of nodes keys work ≡ limits → 2 ≤ length work → work_of work 2 ≡ Expression ∷ MaybeAndV ∷ [] → Behind nodes 0 → Behind keys 0
      → Running nodes keys work (counts count 2 0 0) 0
  unfolding view_of decode begin
  begun nodes keys work rooms two w bn bk =
      let room : 2 ≤ limits.work = omega (arith, ap (λ (l : Limits). l.work) rooms) in
      let started : start segwit limits left₀ ≡ machine.goes begin = rw (le-leb 0 limits.keys (omega arith), le-leb 0 limits.nodes (omega arith), le-leb 2 limits.work room) in
      let counted : length left₀ ≡ count = newest_length _ count in
      let b : Bounded (length left₀) (pushes left₀) 0 (machine.goes begin) = begin_bounded left₀ in
      let l : length lexemes ≡ count = omega (arith, length-reverse_aux left₀ []) in
      record {
        state = begin;
        most = 8 * length lexemes + 2;
        same = record { work = w; left = refl; forest = forest_empty segwit };
        good = start_good segwit lexemes left₀ refl;
        bounded = rw counted at b;
        run = ap (carry_on segwit limits (8 * length lexemes + 2) 0) (ap (start segwit limits) (reverse-reverse left₀) ∙ started);
        enough = omega (arith, b.0);
        rooms = rooms;
        fits = record { keys_fit = omega arith; nodes_fit = omega arith; work_fits = room };
        nodes_behind = bn;
        keys_behind = bk;
        keys_in = omega arith;
      }

  module _ {nodes keys work : List ℕ} {s : State} {steps : ℕ} (running : Running nodes keys work s steps) where
    pub nodes_are : sizes running.state.done ≡ s.nodes
    unfolding view_of
    nodes_are = sym (nodes_counted segwit running.same.forest) ∙ newest_length (node_at nodes) s.nodes

    pub nodes_inside : 9 * s.nodes ≤ length nodes
    nodes_inside = omega (arith, nodes_are, running.fits.nodes_fit, ap (λ (l : Limits). l.nodes) running.rooms)

  -- A turn

  module _ {nodes keys work : List ℕ} {s : State} {steps : ℕ} (running : Running nodes keys work s steps) (some : 1 ≤ s.work) where
    abbrev entry : NonTerm
    entry = entry_at work (s.work - 1)

    abbrev rest : List NonTerm
    rest = work_of work (s.work - 1)

    abbrev left : List Lexeme
    left = lexemes_left script tokens s.left

    abbrev done : Trees
    done = running.state.done

    pub entry_first : running.state.work ≡ entry ∷ rest
    unfolding view_of
    entry_first = sym running.same.work ∙ taken work s.work some

    pub tokens_left : running.state.left ≡ left
    unfolding view_of
    tokens_left = sym running.same.left

    -- the machine's state, by what the tables hold
    pub state_is : machine.goes running.state ≡ machine.goes_on (entry ∷ rest) left done
    state_is =
        ap (λ (w : List NonTerm). machine.goes_on w running.state.left done) entry_first
        ∙ ap (λ (l : List Lexeme). machine.goes_on (entry ∷ rest) l done) tokens_left

    pub state_good : Good segwit lexemes (machine.goes_on (entry ∷ rest) left done)
    state_good = subst (Good segwit lexemes) state_is running.good

    pub next_good : Good segwit lexemes (machine.step segwit (entry ∷ rest) left done)
    next_good = step_good segwit lexemes entry rest left done state_good

    abbrev next : machine.Next
    next = machine.fitting limits (machine.step segwit (entry ∷ rest) left done)

    pub forest : Forest segwit (newest (node_at nodes) s.nodes) (take s.keys keys) done
    unfolding view_of
    forest = running.same.forest

    -- the step on lists is the machine's
    tied : Tied segwit (step_by segwit limits entry rest left (newest (node_at nodes) s.nodes) (take s.keys keys)) next
    tied = step_tied segwit limits lexemes entry rest left (newest (node_at nodes) s.nodes) (take s.keys keys) done forest next_good

    -- one entry fewer to take
    fewer : ℕ
    fewer = running.most - 1

    run_on : decode segwit limits lexemes ≡ carry_on segwit limits fewer (suc steps) next
    unfolding fewer
    run_on =
        let m : running.most ≡ suc (running.most - 1) = omega (arith, running.enough) in
        running.run ∙ ap (λ (k : ℕ). carry_on segwit limits k steps (machine.goes running.state)) m ∙ ap (carry_on segwit limits (suc (running.most - 1)) steps) state_is

    seen_tied : (nodes' keys' work' : List ℕ) (r : Step) → Steps segwit script tokens nodes keys work nodes' keys' work' s r → Tied segwit (seen script tokens nodes' keys' work' r) next
    seen_tied nodes' keys' work' r h =
        let e : seen script tokens nodes' keys' work' r ≡ step_by segwit limits entry rest left (newest (node_at nodes) s.nodes) (take s.keys keys)
        = h.answers ∙ ap (λ (l : Limits). step_by segwit l entry rest left (newest (node_at nodes) s.nodes) (take s.keys keys)) running.rooms in
        rw e tied

    -- the run goes on
    went_on : (nodes' keys' work' : List ℕ) (t : State) (n : machine.Next) → next ≡ n → Tied segwit (goes (view_of script tokens nodes' keys' work' t)) n → room_of nodes' keys' work' ≡ limits
        → Behind nodes' (9 * t.nodes) → Behind keys' t.keys → t.keys ≤ length keys' → Running nodes' keys' work' t (steps + 1)
    unfolding fewer
    went_on nodes' keys' work' t (machine.stops r) e h rooms bn bk ki = absurd h
    went_on nodes' keys' work' t (machine.goes u) e h rooms bn bk ki =
        let w = went limits (machine.step segwit (entry ∷ rest) left done) u e in
        let b : Bounded count (pushes left₀) (suc steps) (machine.goes u)
        = rw w.0 at (step_bounded segwit count (pushes left₀) steps entry rest left done (subst (Bounded count (pushes left₀) steps) state_is running.bounded)) in
        let less : Less (to_step (entry ∷ rest) left) (sizes done + to_make (entry ∷ rest) left) (key_counts done + pushes left) (machine.goes u) = rw w.0 at (step_less segwit entry rest left done) in
        let old : to_step (entry ∷ rest) left + 1 ≤ running.most = rw (entry_first, tokens_left) at running.enough in
        let one : suc steps ≡ steps + 1 = omega arith in
        record {
          state = u;
          most = running.most - 1;
          same = h;
          good = rw w.0 at next_good;
          bounded = rw one at b;
          run = run_on ∙ ap (carry_on segwit limits (running.most - 1) (suc steps)) e ∙ ap (λ (k : ℕ). carry_on segwit limits (running.most - 1) k (machine.goes u)) one;
          enough = omega (arith, less.0);
          rooms = rooms;
          fits = w.1;
          nodes_behind = bn;
          keys_behind = bk;
          keys_in = ki;
        }

    pub turned : {nodes' keys' work' : List ℕ} (t : State) {r : Step} → r ≡ Ok t → Steps segwit script tokens nodes keys work nodes' keys' work' s r → room_of nodes' keys' work' ≡ limits → Running nodes' keys' work' t (steps + 1)
    turned {nodes'} {keys'} {work'} t {r} e h rooms =
        let k : Kept nodes nodes' keys keys' s (Ok t) = rw e at h.kept in
        let d : Tied segwit (seen script tokens nodes' keys' work' (Ok t)) next = rw e at (seen_tied nodes' keys' work' r h) in
        went_on nodes' keys' work' t next refl d rooms (k.0.0 running.nodes_behind) (k.0.1 running.keys_behind) k.1

    -- fewer steps are left
    pub lighter : {nodes' keys' work' : List ℕ} (t : State) {r : Step} → r ≡ Ok t → Steps segwit script tokens nodes keys work nodes' keys' work' s r → room_of nodes' keys' work' ≡ limits
        → to_step (work_of work' t.work) (lexemes_left script tokens t.left) < to_step (work_of work s.work) (lexemes_left script tokens s.left)
    unfolding view_of
    lighter {nodes'} {keys'} {work'} t {r} e h rooms =
        let d : Tied segwit (seen script tokens nodes' keys' work' (Ok t)) next = rw e at (seen_tied nodes' keys' work' r h) in
        by_next next refl d
      where
        by_next : (n : machine.Next) → next ≡ n → Tied segwit (goes (view_of script tokens nodes' keys' work' t)) n → to_step (work_of work' t.work) (lexemes_left script tokens t.left) < to_step (work_of work s.work) (lexemes_left script tokens s.left)
        by_next (machine.stops q) f g = absurd g
        by_next (machine.goes u) f g =
            let w = went limits (machine.step segwit (entry ∷ rest) left done) u f in
            let less : Less (to_step (entry ∷ rest) left) (sizes done + to_make (entry ∷ rest) left) (key_counts done + pushes left) (machine.goes u) = rw w.0 at (step_less segwit entry rest left done) in
            let a : to_step u.work u.left + 1 ≤ to_step (entry ∷ rest) left = less.0 in
            rw (g.work, g.left, taken work s.work some) (omega arith)

    -- the refusal that ends the run

    carry_stops : (k n : ℕ) (q : Refusal) → carry_on segwit limits k n (machine.stops q) ≡ ends n (refused q)
    carry_stops zero n q = refl
    carry_stops (suc k) n q = refl

    some_number : (q : Refusal) → (decode segwit limits lexemes).verdict ≡ refused q → 1 ≤ q.number
    some_number q e =
        let w : within 9 q.number 19 ≡ true = never_empty segwit limits lexemes q e in
        omega (arith, leb-true 9 q.number (left_true (leb 9 q.number) (leb q.number 19) w))

    keys_inside : s.keys ≤ length keys
    keys_inside = running.keys_in

    refuses_counted : {nodes' keys' work' : List ℕ} (stop : Stop) (counted : ℕ) {r : Step} → r ≡ Err stop → Steps segwit script tokens nodes keys work nodes' keys' work' s r → counted ≡ steps + 1
        → Runs segwit (decode segwit limits lexemes) nodes' keys' (halted stop s counted)
    refuses_counted {nodes'} {keys'} {work'} stop counted {r} e h one =
        let k : Kept nodes nodes' keys keys' s (Err stop) = rw e at h.kept in
        let d : Tied segwit (seen script tokens nodes' keys' work' (Err stop)) next = rw e at (seen_tied nodes' keys' work' r h) in
        rw (k.0, k.1) (by_next next refl d)
      where
        by_next : (n : machine.Next) → next ≡ n → Tied segwit (stops (record { number = stop.number; reason = stop.reason; before = stop.left })) n
            → Runs segwit (decode segwit limits lexemes) nodes keys (halted stop s counted)
        by_next (machine.goes u) f g = absurd g
        by_next (machine.stops q) f g =
            let v : decode segwit limits lexemes ≡ ends (suc steps) (refused q) = run_on ∙ ap (carry_on segwit limits fewer (suc steps)) f ∙ carry_stops fewer (suc steps) q in
            let p : 1 ≤ q.number = some_number q (ap (λ (x : Run). x.verdict) v) in
            rw v (record {
              number_is = ap (λ (x : Refusal). x.number) g;
              reason_is = ap (λ (x : Refusal). x.reason) g;
              left_is = ap (λ (x : Refusal). x.before) g;
              steps_are = omega arith;
              some = p;
              the_nodes_in = nodes_inside running;
              keys_in = keys_inside;
              nodes_behind = running.nodes_behind;
              keys_behind = running.keys_behind;
            })

    -- with the count apart, so that a wrong one is seen to be wrong
    pub refuses : {nodes' keys' work' : List ℕ} (stop : Stop) {counted : ℕ} {r : Step} {h : Halted} → r ≡ Err stop → Steps segwit script tokens nodes keys work nodes' keys' work' s r
        → h ≡ record { stop = stop; ran = ran_of s counted } → counted ≡ steps + 1 → Runs segwit (decode segwit limits lexemes) nodes' keys' (Err h)
    refuses {nodes'} {keys'} {work'} stop {counted} {r} {h} e taken is one =
        subst (λ (x : Halted). Runs segwit (decode segwit limits lexemes) nodes' keys' (Err x)) (sym is) (refuses_counted stop counted e taken one)
