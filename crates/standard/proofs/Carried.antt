-- What the runs of Sound, Complete and Bound say of `decode` with table limits: it accepts only what is written with its tokens; with ample limits it accepts what a run without limits ends in; it never runs out of its bound; it counts the entries taken.
use Rattle.std.specs.Prelude.{◌≡◌, Bool, true, false, ◌&&◌, ◌||◌, ℕ, zero, suc, ◌+◌, ◌*◌, ◌≤◌, ◌<◌, leb}
use Rattle.std.proofs.Math.Path.{refl, ap}
use Rattle.std.proofs.Common.{sym, ◌∙◌, true≢false, leb-true, le-leb}
use mathlib.Core.List.{List, [], ◌∷◌, reverse_aux, reverse-reverse}
use native.Mathlib.Omega.{arith}
use Rattle.std.proofs.Math.ListN.{length, length-reverse_aux}
use Rattle.correctness.specs.declared.Correctness.{Correctness}
use Rattle.correctness.specs.Typed.{Typed}
use Rattle.std.specs.Prelude.{Ok, Err}
use Rattle.base_input.specs.Tests.{is_b}
use Rattle.lex.specs.Token.{Lexeme}
use Rattle.tables.specs.Choose.{pick}
use Rattle.standard.specs.Tree.{Tree, Trees, nil, ◌⊳◌, sizes, key_counts}
use Rattle.standard.specs.Written.{written}
use Rattle.standard.specs.Allowed.{within}
use Rattle.standard.specs.Types.{type_of}
use Rattle.standard.specs.Rows.{NonTerm, Expression, MaybeAndV}
use Rattle.standard.specs.Machine.{State, Refusal, refusal, Next, goes, stops, goes_on, step, Limits, fitting, step_within, start, after, Verdict, accepted, refused, Run, ends, top_is, closes, when_empty, carry_on, decode, never}
use Rattle.standard.specs.Statements.{Ample}
use Rattle.standard.proofs.Sound.{Good, Passed, start_good, step_good, end_good}
use Rattle.standard.proofs.Runs.{begin, run}
use Rattle.standard.proofs.Bound.{pushes, Bounded, begin_bounded, step_bounded, work_le}

-- The limits only refuse, by 15, 16 or 17

pub fitting_keeps : (P : Next → Type 0) (limits : Limits) (a : Next) → P a → ((r : Refusal) → within 15 r.number 17 ≡ true → P (stops r)) → P (fitting limits a)
fitting_keeps P limits (stops r) p f = p
fitting_keeps P limits (goes s) p f = by (leb (key_counts s.done) limits.keys) (leb (sizes s.done) limits.nodes) (leb (length s.work) limits.work)
  where
    by : (a b c : Bool) → P (pick a (pick b (pick c (goes s) (stops (refusal 17 0 s.left))) (stops (refusal 15 0 s.left))) (stops (refusal 16 0 s.left)))
    by true true true = p
    by true true false = f _ refl
    by true false c = f _ refl
    by false b c = f _ refl

ample_fits : (limits : Limits) (t d n : ℕ) → Ample limits t d → (a : Next) → Bounded t d n a → fitting limits a ≡ a
ample_fits limits t d n h (stops r) b = refl
ample_fits limits t d n h (goes s) b =
    rw (le-leb (key_counts s.done) limits.keys (omega arith), le-leb (sizes s.done) limits.nodes (omega arith), le-leb (length s.work) limits.work (omega (arith, work_le s.work s.left)))

wider : (n : ℕ) → within 9 n 17 ≡ true → within 9 n 19 ≡ true
wider n h = by_parts (leb 9 n) (leb n 17) refl refl h
  where
    by_parts : (a b : Bool) → leb 9 n ≡ a → leb n 17 ≡ b → (a && b) ≡ true → (leb 9 n && leb n 19) ≡ true
    by_parts true true ea eb e = rw (ea, le-leb n 19 (omega (arith, leb-true n 17 eb)))
    by_parts true false ea eb e = absurd (true≢false (sym e))
    by_parts false b ea eb e = absurd (true≢false (sym e))

up : (n : ℕ) → within 9 n 14 ≡ true → within 9 n 17 ≡ true
up n h = by_parts (leb 9 n) (leb n 14) refl refl h
  where
    by_parts : (a b : Bool) → leb 9 n ≡ a → leb n 14 ≡ b → (a && b) ≡ true → (leb 9 n && leb n 17) ≡ true
    by_parts true true ea eb e = rw (ea, le-leb n 17 (omega (arith, leb-true n 14 eb)))
    by_parts true false ea eb e = absurd (true≢false (sym e))
    by_parts false b ea eb e = absurd (true≢false (sym e))

room_numbers : (n : ℕ) → within 15 n 17 ≡ true → within 9 n 17 ≡ true
room_numbers n h = by_parts (leb 15 n) (leb n 17) refl refl h
  where
    by_parts : (a b : Bool) → leb 15 n ≡ a → leb n 17 ≡ b → (a && b) ≡ true → (leb 9 n && leb n 17) ≡ true
    by_parts true true ea eb e = rw (eb, le-leb 9 n (omega (arith, leb-true 15 n ea)))
    by_parts true false ea eb e = absurd (true≢false (sym e))
    by_parts false b ea eb e = absurd (true≢false (sym e))

module _ (segwit : Bool) where
  -- a tree of base B that is well typed, allowed and written with these tokens
  abbrev pub Right : List Lexeme → Tree → Type 0
  Right tokens u = (written u ≡ tokens) × (Passed segwit u × ((c : Correctness) × (type_of segwit u ≡ Ok c) × (is_b c.base ≡ true)))

  -- Sound, with limits

  abbrev GoodWithin : List Lexeme → Next → Type 0
  GoodWithin tokens (stops r) = within 9 r.number 17 ≡ true
  GoodWithin tokens (goes s) = Good segwit tokens (goes s)

  loosen : (tokens : List Lexeme) (a : Next) → Good segwit tokens a → GoodWithin tokens a
  loosen tokens (stops r) g = up r.number g
  loosen tokens (goes s) g = g

  good_within : (tokens : List Lexeme) (limits : Limits) (a : Next) → Good segwit tokens a → GoodWithin tokens (fitting limits a)
  good_within tokens limits a g = fitting_keeps (GoodWithin tokens) limits a (loosen tokens a g) (λ r e. room_numbers r.number e)

  abbrev pub Ends : List Lexeme → Verdict → Type 0
  Ends tokens (accepted u) = Right tokens u
  Ends tokens (refused r) = within 9 r.number 19 ≡ true

  top_ends : (tokens : List Lexeme) (t : Tree) → Passed segwit t → written t ≡ tokens → (o : Typed) → type_of segwit t ≡ o → Ends tokens (top_is t o)
  top_ends tokens t p w (Err x) e = let q : Err x ≡ Ok p.1.0 = sym e ∙ p.1.1 in let z : ◌≡◌ {A = ℕ} 0 1 = cc in let b : ⊥ = omega arith in absurd b
  top_ends tokens t p w (Ok c) e = by (is_b c.base) refl
    where
      by : (b : Bool) → is_b c.base ≡ b → Ends tokens (pick b (accepted t) (refused (refusal 19 0 [])))
      by true eb = (w, (p, (c, e, eb)))
      by false eb = refl

  closes_ends : (tokens : List Lexeme) (left : List Lexeme) (done : Trees) → Good segwit tokens (goes_on [] left done) → Ends tokens (closes segwit left done)
  closes_ends tokens (x ∷ left) done g = refl
  closes_ends tokens [] done g =
      let h = end_good segwit tokens [] done g in
      rw h.1 (top_ends tokens h.0 h.2 h.3 (type_of segwit h.0) refl)

  module _ (limits : Limits) where
    at_end : (tokens : List Lexeme) (most steps : ℕ) (work : List NonTerm) (left : List Lexeme) (done : Trees) → Good segwit tokens (goes_on work left done)
        → (Good segwit tokens (step segwit work left done) → Ends tokens (carry_on segwit limits most (suc steps) (fitting limits (step segwit work left done))).verdict)
        → Ends tokens (when_empty work (ends steps (closes segwit left done)) (carry_on segwit limits most (suc steps) (fitting limits (step segwit work left done)))).verdict
    at_end tokens most steps [] left done g f = closes_ends tokens left done g
    at_end tokens most steps (e ∷ work) left done g f = f (step_good segwit tokens e work left done g)

    bounded_within : (t d n : ℕ) (a : Next) → Bounded t d n a → Bounded t d n (fitting limits a)
    bounded_within t d n a b = fitting_keeps (Bounded t d n) limits a b (λ r e. tt)

    bounded_step : (t d n : ℕ) (work : List NonTerm) (left : List Lexeme) (done : Trees) → Bounded t d n (goes_on work left done) → Bounded t d (suc n) (step segwit work left done)
    bounded_step t d n [] left done b = tt
    bounded_step t d n (e ∷ work) left done b = step_bounded segwit t d n e work left done b

    bounded_next : (t d n : ℕ) (s : State) → Bounded t d n (goes s) → Bounded t d (suc n) (step_within segwit limits s)
    bounded_next t d n s b = bounded_within t d (suc n) (step segwit s.work s.left s.done) (bounded_step t d n s.work s.left s.done b)

    -- the bound on the run is never reached
    carry_ends : (tokens : List Lexeme) (t d most steps : ℕ) → 8 * t + 2 ≤ most + steps → (a : Next) → Bounded t d steps a → GoodWithin tokens a → Ends tokens (carry_on segwit limits most steps a).verdict
    carry_ends tokens t d zero steps h (stops r) b g = wider r.number g
    carry_ends tokens t d zero steps h (goes s) b g = let x : ⊥ = omega arith in absurd x
    carry_ends tokens t d (suc most) steps h (stops r) b g = wider r.number g
    carry_ends tokens t d (suc most) steps h (goes s) b g =
        at_end tokens most steps s.work s.left s.done g
        (λ k. carry_ends tokens t d most (suc steps) (omega arith) (step_within segwit limits s) (bounded_next t d steps s b) (good_within tokens limits (step segwit s.work s.left s.done) k))

    -- every state is bounded
    after_bounded : (t d n m : ℕ) (a : Next) → Bounded t d n a → Bounded t d (n + m) (after segwit limits m a)
    after_bounded t d n zero a b = let z : n + 0 ≡ n = omega arith in rw z b
    after_bounded t d n (suc m) (stops r) b = tt
    after_bounded t d n (suc m) (goes s) b = let z : n + suc m ≡ suc n + m = omega arith in rw z (after_bounded t d (suc n) m (step_within segwit limits s) (bounded_next t d n s b))

    -- more of it changes nothing
    at_fuel : (work : List NonTerm) (now : Run) (x y : Run) → (x ≡ y) → when_empty work now x ≡ when_empty work now y
    at_fuel work now x y e = ap (when_empty work now) e

    pub carry_more : (t d most steps : ℕ) → 8 * t + 2 ≤ most + steps → (a : Next) → Bounded t d steps a → carry_on segwit limits (suc most) steps a ≡ carry_on segwit limits most steps a
    carry_more t d zero steps h (stops r) b = refl
    carry_more t d zero steps h (goes s) b = let x : ⊥ = omega arith in absurd x
    carry_more t d (suc most) steps h (stops r) b = refl
    carry_more t d (suc most) steps h (goes s) b =
        ap (when_empty s.work (ends steps (closes segwit s.left s.done))) (carry_more t d most (suc steps) (omega arith) (step_within segwit limits s) (bounded_next t d steps s b))

    -- steps
    steps_at : (work : List NonTerm) (steps n : ℕ) (v : Verdict) (r : Run) → steps ≤ n → r.steps ≤ n → (when_empty work (ends steps v) r).steps ≤ n
    steps_at [] steps n v r h g = h
    steps_at (e ∷ work) steps n v r h g = g

    pub carry_steps : (t d most steps : ℕ) (a : Next) → steps ≤ 8 * t + 2 → Bounded t d steps a → (carry_on segwit limits most steps a).steps ≤ 8 * t + 2
    carry_steps t d zero steps (stops r) h b = h
    carry_steps t d zero steps (goes s) h b = h
    carry_steps t d (suc most) steps (stops r) h b = h
    carry_steps t d (suc most) steps (goes s) h b =
        steps_at s.work steps (8 * t + 2) (closes segwit s.left s.done) (carry_on segwit limits most (suc steps) (step_within segwit limits s)) h
        (carry_steps t d most (suc steps) (step_within segwit limits s) (omega arith) (bounded_next t d steps s b))

    -- Complete, with ample limits

    no_run : (m : ℕ) (r : Refusal) (s : State) → run segwit m (stops r) ≡ goes s → ⊥
    no_run zero r s e = let z : ◌≡◌ {A = ℕ} 0 1 = cc in omega arith
    no_run (suc m) r s e = let z : ◌≡◌ {A = ℕ} 0 1 = cc in omega arith

    at_run : (m steps : ℕ) (work : List NonTerm) (left : List Lexeme) (done : Trees) (s : State) (now x y : Run) → run segwit m (step segwit work left done) ≡ goes s → x ≡ y → when_empty work now x ≡ y
    at_run m steps [] left done s now x y e f = absurd (no_run m never s e)
    at_run m steps (k ∷ work) left done s now x y e f = f

    carry_complete : (t d : ℕ) → Ample limits t d → (m most steps : ℕ) → 8 * t + 2 ≤ most + steps → (a : Next) (u : Tree) → Bounded t d steps a → run segwit m a ≡ goes_on [] [] (u ⊳ nil) → top_is u (type_of segwit u) ≡ accepted u
        → carry_on segwit limits most steps a ≡ ends (steps + m) (accepted u)
    carry_complete t d h zero zero steps f (stops r) u b e p = absurd (no_run 0 r _ e)
    carry_complete t d h zero zero steps f (goes s) u b e p = let x : ⊥ = omega arith in absurd x
    carry_complete t d h zero (suc most) steps f a u b e p = let z : steps + 0 ≡ steps = omega arith in rw (e, z, p)
    carry_complete t d h (suc m) zero steps f (stops r) u b e p = absurd (no_run (suc m) r _ e)
    carry_complete t d h (suc m) zero steps f (goes s) u b e p = let x : ⊥ = omega arith in absurd x
    carry_complete t d h (suc m) (suc most) steps f (stops r) u b e p = absurd (no_run (suc m) r _ e)
    carry_complete t d h (suc m) (suc most) steps f (goes s) u b e p =
        let b' = bounded_step t d steps s.work s.left s.done b in
        let fit : fitting limits (step segwit s.work s.left s.done) ≡ step segwit s.work s.left s.done = ample_fits limits t d (suc steps) h (step segwit s.work s.left s.done) b' in
        let z : suc steps + m ≡ steps + suc m = omega arith in
        let ih = carry_complete t d h m most (suc steps) (omega arith) (step segwit s.work s.left s.done) u b' e p in
        at_run m steps s.work s.left s.done _ _ _ _ e (ap (carry_on segwit limits most (suc steps)) fit ∙ ih ∙ ap (λ (i : ℕ). ends i (accepted u)) z)

    -- with ample limits no table refuses
    abbrev pub EndsAmple : Verdict → Type 0
    EndsAmple (accepted u) = Unit {0}
    EndsAmple (refused r) = (within 9 r.number 14 || within 18 r.number 19) ≡ true

    top_ample : (t : Tree) → Passed segwit t → (o : Typed) → type_of segwit t ≡ o → EndsAmple (top_is t o)
    top_ample t p (Err x) e = let q : Err x ≡ Ok p.1.0 = sym e ∙ p.1.1 in let z : ◌≡◌ {A = ℕ} 0 1 = cc in let b : ⊥ = omega arith in absurd b
    top_ample t p (Ok c) e = by (is_b c.base)
      where
        by : (b : Bool) → EndsAmple (pick b (accepted t) (refused (refusal 19 0 [])))
        by true = tt
        by false = refl

    closes_ample : (tokens : List Lexeme) (left : List Lexeme) (done : Trees) → Good segwit tokens (goes_on [] left done) → EndsAmple (closes segwit left done)
    closes_ample tokens (x ∷ left) done g = refl
    closes_ample tokens [] done g = let h = end_good segwit tokens [] done g in rw h.1 (top_ample h.0 h.2 (type_of segwit h.0) refl)

    at_ample : (tokens : List Lexeme) (steps : ℕ) (work : List NonTerm) (left : List Lexeme) (done : Trees) (x : Run) → Good segwit tokens (goes_on work left done)
        → (Good segwit tokens (step segwit work left done) → EndsAmple x.verdict) → EndsAmple (when_empty work (ends steps (closes segwit left done)) x).verdict
    at_ample tokens steps [] left done x g f = closes_ample tokens left done g
    at_ample tokens steps (e ∷ work) left done x g f = f (step_good segwit tokens e work left done g)

    or_left : (n : ℕ) → within 9 n 14 ≡ true → (within 9 n 14 || within 18 n 19) ≡ true
    or_left n e = rw e

    carry_ample : (t d : ℕ) → Ample limits t d → (tokens : List Lexeme) (most steps : ℕ) → 8 * t + 2 ≤ most + steps → (a : Next) → Bounded t d steps a → Good segwit tokens a → EndsAmple (carry_on segwit limits most steps a).verdict
    carry_ample t d h tokens zero steps f (stops r) b g = or_left r.number g
    carry_ample t d h tokens zero steps f (goes s) b g = let x : ⊥ = omega arith in absurd x
    carry_ample t d h tokens (suc most) steps f (stops r) b g = or_left r.number g
    carry_ample t d h tokens (suc most) steps f (goes s) b g =
        let b' = bounded_step t d steps s.work s.left s.done b in
        let fit : fitting limits (step segwit s.work s.left s.done) ≡ step segwit s.work s.left s.done = ample_fits limits t d (suc steps) h (step segwit s.work s.left s.done) b' in
        at_ample tokens steps s.work s.left s.done _ g (λ k. rw fit (carry_ample t d h tokens most (suc steps) (omega arith) (step segwit s.work s.left s.done) b' k))

    -- The steps are the entries taken: before each there is an entry to take, and after the last the run has ended

    abbrev pub Working : Next → Type 0
    Working (stops r) = ⊥
    Working (goes s) = (entry : NonTerm) × (rest : List NonTerm) × (s.work ≡ entry ∷ rest)

    abbrev pub Ended : Next → Verdict → Type 0
    Ended (stops r) v = v ≡ refused r
    Ended (goes s) v = (s.work ≡ []) × (v ≡ closes segwit s.left s.done)

    abbrev pub Counted : ℕ → Next → Run → Type 0
    Counted steps a r = (m : ℕ) × (r.steps ≡ steps + m) × (Ended (after segwit limits m a) r.verdict × ((i : ℕ) → i < m → Working (after segwit limits i a)))

    shift : (s : State) (m : ℕ) → Working (goes s) → ((j : ℕ) → j < m → Working (after segwit limits j (step_within segwit limits s))) → (i : ℕ) → i < suc m → Working (after segwit limits i (goes s))
    shift s m w f zero h = w
    shift s m w f (suc j) h = f j (omega arith)

    at_count : (steps : ℕ) (work : List NonTerm) (left : List Lexeme) (done : Trees) (x : Run)
        → Counted (suc steps) (fitting limits (step segwit work left done)) x → Counted steps (goes_on work left done) (when_empty work (ends steps (closes segwit left done)) x)
    at_count steps [] left done x c = (0, omega arith, ((refl, refl), λ i h. let z : ⊥ = omega arith in absurd z))
    at_count steps (e ∷ work) left done x c =
        (suc c.0, omega (arith, c.1), (c.2.0, shift (record { work = e ∷ work; left = left; done = done }) c.0 (e, work, refl) c.2.1))

    carry_counts : (t d most steps : ℕ) → 8 * t + 2 ≤ most + steps → (a : Next) → Bounded t d steps a → Counted steps a (carry_on segwit limits most steps a)
    carry_counts t d zero steps h (stops r) b = (0, omega arith, (refl, λ i g. let z : ⊥ = omega arith in absurd z))
    carry_counts t d zero steps h (goes s) b = let x : ⊥ = omega arith in absurd x
    carry_counts t d (suc most) steps h (stops r) b = (0, omega arith, (refl, λ i g. let z : ⊥ = omega arith in absurd z))
    carry_counts t d (suc most) steps h (goes s) b =
        at_count steps s.work s.left s.done (carry_on segwit limits most (suc steps) (step_within segwit limits s)) (carry_counts t d most (suc steps) (omega arith) (step_within segwit limits s) (bounded_next t d steps s b))

-- Ample limits never act, so a run is the same under any two of them

module _ (segwit : Bool) (limits other : Limits) (t d : ℕ) (h : Ample limits t d) (g : Ample other t d) where
  carry_same : (most steps : ℕ) (a : Next) → Bounded t d steps a → carry_on segwit limits most steps a ≡ carry_on segwit other most steps a
  carry_same zero steps (stops r) b = refl
  carry_same zero steps (goes s) b = refl
  carry_same (suc most) steps (stops r) b = refl
  carry_same (suc most) steps (goes s) b =
      let b' = bounded_step segwit limits t d steps s.work s.left s.done b in
      let p : fitting limits (step segwit s.work s.left s.done) ≡ step segwit s.work s.left s.done = ample_fits limits t d (suc steps) h (step segwit s.work s.left s.done) b' in
      let q : fitting other (step segwit s.work s.left s.done) ≡ step segwit s.work s.left s.done = ample_fits other t d (suc steps) g (step segwit s.work s.left s.done) b' in
      ap (when_empty s.work (ends steps (closes segwit s.left s.done)))
      (ap (carry_on segwit limits most (suc steps)) p ∙ carry_same most (suc steps) (step segwit s.work s.left s.done) b' ∙ ap (carry_on segwit other most (suc steps)) (sym q))

-- Tokens in script order and as they are read

pushes_reversed : (a b : List Lexeme) → pushes (reverse_aux a b) ≡ pushes a + pushes b
pushes_reversed [] b = omega arith
pushes_reversed (t ∷ a) b = omega (arith, pushes_reversed a (t ∷ b))

module _ (segwit : Bool) (limits : Limits) (lexemes : List Lexeme) where
  abbrev left : List Lexeme
  left = reverse_aux lexemes []

  abbrev begun : Next
  begun = goes_on (Expression ∷ MaybeAndV ∷ []) left nil

  start_bounded : Bounded (length lexemes) (pushes lexemes) 0 begun
  start_bounded =
      let b = begin_bounded left in
      (omega (arith, b.0, length-reverse_aux lexemes []), omega (arith, b.1, length-reverse_aux lexemes []), omega (arith, b.2, pushes_reversed lexemes []))

  good : Good segwit lexemes begun
  good = start_good segwit lexemes left (reverse-reverse lexemes)

  -- every run ends: in a tree of base B that is written with its tokens, well typed and allowed, or in a refusal with a number from 9 to 19
  pub decode_ends : Ends segwit lexemes (decode segwit limits lexemes).verdict
  unfolding decode
  decode_ends = carry_ends segwit limits lexemes (length lexemes) (pushes lexemes) (8 * length lexemes + 2) 0 (omega arith) (start segwit limits left)
      (bounded_within segwit limits (length lexemes) (pushes lexemes) 0 begun start_bounded) (good_within segwit lexemes limits begun good)

  pub decode_bounded : (m : ℕ) → Bounded (length lexemes) (pushes lexemes) (0 + m) (after segwit limits m (start segwit limits left))
  decode_bounded m = after_bounded segwit limits (length lexemes) (pushes lexemes) 0 m (start segwit limits left) (bounded_within segwit limits (length lexemes) (pushes lexemes) 0 begun start_bounded)

  pub decode_more : (most : ℕ) → 8 * length lexemes + 2 ≤ most → carry_on segwit limits (suc most) 0 (start segwit limits left) ≡ carry_on segwit limits most 0 (start segwit limits left)
  decode_more most h = carry_more segwit limits (length lexemes) (pushes lexemes) most 0 (omega arith) (start segwit limits left) (bounded_within segwit limits (length lexemes) (pushes lexemes) 0 begun start_bounded)

  pub decode_steps : (decode segwit limits lexemes).steps ≤ 8 * length lexemes + 2
  unfolding decode
  decode_steps = carry_steps segwit limits (length lexemes) (pushes lexemes) (8 * length lexemes + 2) 0 (start segwit limits left) (omega arith) (bounded_within segwit limits (length lexemes) (pushes lexemes) 0 begun start_bounded)

  pub decode_counts : Counted segwit limits 0 (start segwit limits left) (decode segwit limits lexemes)
  unfolding decode
  decode_counts = carry_counts segwit limits (length lexemes) (pushes lexemes) (8 * length lexemes + 2) 0 (omega arith) (start segwit limits left) (bounded_within segwit limits (length lexemes) (pushes lexemes) 0 begun start_bounded)

  pub decode_ample : Ample limits (length lexemes) (pushes lexemes) → EndsAmple segwit limits (decode segwit limits lexemes).verdict
  unfolding decode
  decode_ample h =
      let fit : start segwit limits left ≡ begun = ample_fits limits (length lexemes) (pushes lexemes) 0 h begun start_bounded in
      rw fit (carry_ample segwit limits (length lexemes) (pushes lexemes) h lexemes (8 * length lexemes + 2) 0 (omega arith) begun start_bounded good)

  -- with ample limits, what a run without limits ends in is accepted, with its steps
  pub decode_complete : Ample limits (length lexemes) (pushes lexemes) → (m : ℕ) (u : Tree) → run segwit m (begin left) ≡ goes_on [] [] (u ⊳ nil) → top_is u (type_of segwit u) ≡ accepted u → decode segwit limits lexemes ≡ ends m (accepted u)
  unfolding decode begin
  decode_complete h m u e p =
      let fit : start segwit limits left ≡ begun = ample_fits limits (length lexemes) (pushes lexemes) 0 h begun start_bounded in
      let z : 0 + m ≡ m = omega arith in
      ap (carry_on segwit limits (8 * length lexemes + 2) 0) fit ∙ carry_complete segwit limits (length lexemes) (pushes lexemes) h m (8 * length lexemes + 2) 0 (omega arith) begun u start_bounded e p ∙ ap (λ (i : ℕ). ends i (accepted u)) z

pub decode_same : (segwit : Bool) (limits other : Limits) (lexemes : List Lexeme) → Ample limits (length lexemes) (pushes lexemes) → Ample other (length lexemes) (pushes lexemes)
    → decode segwit limits lexemes ≡ decode segwit other lexemes
unfolding decode
decode_same segwit limits other lexemes h g =
    let first = begun segwit limits lexemes in
    let b = start_bounded segwit limits lexemes in
    let p : fitting limits first ≡ first = ample_fits limits (length lexemes) (pushes lexemes) 0 h first b in
    let q : fitting other first ≡ first = ample_fits other (length lexemes) (pushes lexemes) 0 g first b in
    ap (carry_on segwit limits (8 * length lexemes + 2) 0) p
    ∙ carry_same segwit limits other (length lexemes) (pushes lexemes) h g (8 * length lexemes + 2) 0 first b
    ∙ ap (carry_on segwit other (8 * length lexemes + 2) 0) (sym q)

-- What is accepted, whatever the limits, is what a run without limits ends in

module _ (segwit : Bool) (limits : Limits) where
  goes_of : (a : Next) (s : State) → fitting limits a ≡ goes s → a ≡ goes s
  goes_of a s e = fitting_keeps (λ (x : Next). x ≡ goes s → a ≡ goes s) limits a (λ f. f) (λ r w f. let z : ◌≡◌ {A = ℕ} 0 1 = cc in let b : ⊥ = omega arith in absurd b) e

  stops_after : (m : ℕ) (r : Refusal) (s : State) → after segwit limits m (stops r) ≡ goes s → ⊥
  stops_after zero r s e = let z : ◌≡◌ {A = ℕ} 0 1 = cc in omega arith
  stops_after (suc m) r s e = let z : ◌≡◌ {A = ℕ} 0 1 = cc in omega arith

  after_run : (m : ℕ) (a : Next) (s : State) → after segwit limits m (fitting limits a) ≡ goes s → run segwit m a ≡ goes s
  after_run zero a s e = goes_of a s e
  after_run (suc m) (stops r) s e = absurd (stops_after (suc m) r s e)
  after_run (suc m) (goes x) s e =
      fitting_keeps (λ (y : Next). after segwit limits (suc m) y ≡ goes s → run segwit (suc m) (goes x) ≡ goes s) limits (goes x)
      (λ f. after_run m (step segwit x.work x.left x.done) s f) (λ r w f. absurd (stops_after (suc m) r s f)) e

  top_tree : (t u : Tree) (o : Typed) → top_is t o ≡ accepted u → t ≡ u
  top_tree t u (Ok c) e = by (is_b c.base) e
    where
      by : (b : Bool) → pick b (accepted t) (refused (refusal 19 0 [])) ≡ accepted u → t ≡ u
      by true f = cc
      by false f = let z : ◌≡◌ {A = ℕ} 0 1 = cc in let b : ⊥ = omega arith in absurd b
  top_tree t u (Err x) e = let z : ◌≡◌ {A = ℕ} 0 1 = cc in let b : ⊥ = omega arith in absurd b

  closes_tree : (left : List Lexeme) (done : Trees) (u : Tree) → closes segwit left done ≡ accepted u → (left ≡ []) × (done ≡ u ⊳ nil)
  closes_tree (x ∷ left) done u e = let z : ◌≡◌ {A = ℕ} 0 1 = cc in let b : ⊥ = omega arith in absurd b
  closes_tree [] nil u e = let z : ◌≡◌ {A = ℕ} 0 1 = cc in let b : ⊥ = omega arith in absurd b
  closes_tree [] (t ⊳ nil) u e = (refl, ap (λ (v : Tree). v ⊳ nil) (top_tree t u (type_of segwit t) e))
  closes_tree [] (t ⊳ (v ⊳ done)) u e = let z : ◌≡◌ {A = ℕ} 0 1 = cc in let b : ⊥ = omega arith in absurd b

  ended_run : (m : ℕ) (a : Next) (v : Verdict) (u : Tree) → v ≡ accepted u → (b : Next) → after segwit limits m (fitting limits a) ≡ b → Ended segwit limits b v → run segwit m a ≡ goes_on [] [] (u ⊳ nil)
  ended_run m a v u e (stops r) f g = let h : refused r ≡ accepted u = sym g ∙ e in let z : ◌≡◌ {A = ℕ} 0 1 = cc in let b : ⊥ = omega arith in absurd b
  ended_run m a v u e (goes s) f g =
      let c = closes_tree s.left s.done u (sym g.1 ∙ e) in
      after_run m a s f ∙ rw (g.0, c.0, c.1)

  pub accepted_run : (lexemes : List Lexeme) (u : Tree) → (decode segwit limits lexemes).verdict ≡ accepted u → (m : ℕ) × (run segwit m (begin (reverse_aux lexemes [])) ≡ goes_on [] [] (u ⊳ nil))
  unfolding begin
  accepted_run lexemes u e =
      let c = decode_counts segwit limits lexemes in
      (c.0, ended_run c.0 (goes_on (Expression ∷ MaybeAndV ∷ []) (reverse_aux lexemes []) nil) (decode segwit limits lexemes).verdict u e (after segwit limits c.0 (start segwit limits (reverse_aux lexemes []))) refl c.2.0)
