-- Feeding a line and ending it gives exactly what the line means, the script at the buffer's front; what the buffer held before never matters. Assumes nothing.
-- Why: after an even number of digits the buffer's front holds the script bytes so far, or there are too many of them; each pair adds one.
use Rattle.std.specs.Prelude.{◌≡◌, refl, Bool, true, false, List, [], ◌∷◌, ◌++◌, map, ℕ, suc, ◌+◌, ◌*◌, ◌≤◌, ◌<◌, eqb, leb, ltb, length, take, drop, set, Result, Ok, Err}
use Rattle.std.proofs.Common.{sym, ap, subst, ◌∙◌, append_assoc, append-nil, mod-eq_of_lt, add-one, arith, length-append, length-set, take-suc-set, le-ltb, ltb-true, ltb-false, le-leb, leb-true}
use Rattle.std.proofs.lemmas.Bool.{lt-leb}
use Rattle.tables.specs.Choose.{pick}
use Rattle.hex_line.specs.declared.Line.{Line}
use Rattle.hex_line.specs.declared.Line.TheVariants.{Nothing, HalfKind, Whole, Half, NotHex}
use Rattle.hex_line.specs.declared.Script.{Script}
use Rattle.hex_line.specs.declared.Refusal.{Refusal}
use Rattle.hex_line.specs.declared.Refusal.TheVariants as refusal
use Rattle.hex_line.specs.Digits.{digit_of, is_digit, Bytes, bytes, not_hex, before, bytes_of}
use Rattle.hex_line.specs.Meant.{refused, script, meant_by, line_of}
use Rattle.hex_line.specs.Input.{last_line, lines_from, input_of}
use Rattle.hex_line.specs.Feeding.{Fed, fed, byte_of, digit_fed, step, feed_all, Stopped, stopped, line_fed, ended, told, told_of, untouched, told_all, of_line, told_in, left_by}

-- by the two values of a test
decide : {P : Type 0} (b : Bool) → (b ≡ true → P) → (b ≡ false → P) → P
decide true t f = t refl
decide false t f = f refl

step_digit : (b : ℕ) (f : Fed) → is_digit b ≡ true → step b f ≡ digit_fed (digit_of b) f.line f.buffer
unfolding step
step_digit b f e = simp e

step_other : (b : ℕ) (f : Fed) → is_digit b ≡ false → step b f ≡ fed NotHex f.buffer
unfolding step
step_other b f e = simp e

-- a line that has met a byte that is no digit stays so
step_not_hex : (b : ℕ) (buffer : List ℕ) → step b (fed NotHex buffer) ≡ fed NotHex buffer
unfolding step digit_fed
step_not_hex b buffer = decide (is_digit b) (λ e. simp e) (λ e. simp e)

stays_not_hex : (rest buffer : List ℕ) → told_of (feed_all rest (fed NotHex buffer)) ≡ refused 23
unfolding ended
stays_not_hex [] buffer = refl
stays_not_hex (b ∷ rest) buffer = ap (λ (f : Fed). told_of (feed_all rest f)) (step_not_hex b buffer) ∙ stays_not_hex rest buffer

-- the byte of two digits needs no remainder
byte_of_digits : (a b : ℕ) → is_digit a ≡ true → is_digit b ≡ true → byte_of (digit_of a) (digit_of b) ≡ 16 * digit_of a + digit_of b
byte_of_digits a b p q =
    let m : digit_of a < 16 = ltb-true (digit_of a) 16 p in
    let n : digit_of b < 16 = ltb-true (digit_of b) 16 q in
    let s : 16 * digit_of a + digit_of b < 256 = omega arith in
    mod-eq_of_lt s

-- bytes in front of others
abbrev prepend : List ℕ → Bytes → Bytes
prepend xs (bytes ys) = bytes (xs ++ ys)
prepend xs not_hex = not_hex

prepend_one : (xs : List ℕ) (v : ℕ) (ys : Bytes) → prepend (xs ++ (v ∷ [])) ys ≡ prepend xs (before v ys)
prepend_one xs v (bytes ys) = ap bytes (append_assoc xs (v ∷ []) ys)
prepend_one xs v not_hex = refl

-- the buffer after so many script bytes: it holds them, or there are too many
data Kept (got : List ℕ) (size : ℕ) (buffer : List ℕ) : Type 0 where
  few : length buffer ≡ 520 → length got ≤ 520 → size ≡ length got → take size buffer ≡ got → Kept got size buffer
  many : length buffer ≡ 520 → 520 < length got → size ≡ 521 → Kept got size buffer

record After (kind : ℕ) (got : List ℕ) (f : Fed) : Type 0 where
  size : ℕ
  buffer : List ℕ
  is : f ≡ fed (Whole kind size) buffer
  kept : Kept got size buffer

-- one script byte more
stored : (kind size high low v : ℕ) (got buffer : List ℕ) {f : Fed} → f ≡ digit_fed low (Half kind size high) buffer → byte_of high low ≡ v → Kept got size buffer
    → After kind (got ++ (v ∷ [])) f
unfolding digit_fed
stored kind size high low v got buffer e w (few l h s t) =
    let grown : length (got ++ (v ∷ [])) ≡ length got + 1 = length-append got (v ∷ []) in
    decide (ltb size 520)
    (λ r.
    let room : size < length buffer = omega (arith, ltb-true size 520 r) in
    record {
      size = size + 1;
      buffer = set buffer size (byte_of high low);
      is = e ∙ simp r;
      kept = few (length-set buffer size (byte_of high low) ∙ l) (omega arith) (omega arith)
          (ap (λ (n : ℕ). take n (set buffer size (byte_of high low))) (add-one size)
          ∙ take-suc-set buffer size (byte_of high low) room
          ∙ ap (λ (front : List ℕ). front ++ (byte_of high low ∷ [])) t
          ∙ ap (λ (b : ℕ). got ++ (b ∷ [])) w);
    })
    (λ r. record { size = 521; buffer = buffer; is = e ∙ simp r; kept = many l (omega (arith, ltb-false size 520 r)) refl })
stored kind size high low v got buffer e w (many l h s) =
    let grown : length (got ++ (v ∷ [])) ≡ length got + 1 = length-append got (v ∷ []) in
    record { size = 521; buffer = buffer; is = e ∙ simp (le-ltb size 520 (omega arith)); kept = many l (omega arith) refl }

pair_more : (a b kind : ℕ) (got : List ℕ) (f : Fed) → is_digit a ≡ true → is_digit b ≡ true → After kind got f
    → After kind (got ++ ((16 * digit_of a + digit_of b) ∷ [])) (step b (step a f))
unfolding digit_fed
pair_more a b kind got f p q i =
    let half : step a f ≡ fed (Half kind i.size (digit_of a)) i.buffer = ap (step a) i.is ∙ step_digit a (fed (Whole kind i.size) i.buffer) p in
    stored kind i.size (digit_of a) (digit_of b) (16 * digit_of a + digit_of b) got i.buffer
    (ap (step b) half ∙ step_digit b (fed (Half kind i.size (digit_of a)) i.buffer) q)
    (byte_of_digits a b p q)
    i.kept

-- a pair of which one is no digit
first_no_digit : (a b : ℕ) (rest : List ℕ) (f : Fed) → is_digit a ≡ false → told_of (feed_all rest (step b (step a f))) ≡ refused 23
first_no_digit a b rest f p =
    ap (λ (g : Fed). told_of (feed_all rest (step b g))) (step_other a f p) ∙ stays_not_hex (b ∷ rest) f.buffer

second_no_digit : (b : ℕ) (rest : List ℕ) (f : Fed) → is_digit b ≡ false → told_of (feed_all rest (step b f)) ≡ refused 23
second_no_digit b rest f p = ap (λ (g : Fed). told_of (feed_all rest g)) (step_other b f p) ∙ stays_not_hex rest f.buffer

-- where the line ends
whole_told : (kind size : ℕ) (got buffer : List ℕ) → Kept got size buffer → told_of (fed (Whole kind size) buffer) ≡ meant_by (bytes (kind ∷ got))
unfolding ended
whole_told kind size got buffer k = decide (leb kind 1) (λ e. simp e (sized k)) (λ e. simp e)
  where
    sized : Kept got size buffer → told (pick (leb size 520) (Ok (record { kind = kind; size = size })) (Err refusal.TooLong)) buffer ≡ pick (leb (length got) 520) (script kind got) (refused 1)
    sized (few l h s t) = simp (le-leb size 520 (omega arith), le-leb (length got) 520 h, t)
    sized (many l h s) = simp (lt-leb size 520 (omega arith), lt-leb (length got) 520 h)

-- the rest of a line, after the kind and these script bytes
rest_told : (rest : List ℕ) (kind : ℕ) (got : List ℕ) (f : Fed) → After kind got f → told_of (feed_all rest f) ≡ meant_by (prepend (kind ∷ got) (bytes_of rest))
unfolding digit_fed ended
rest_told [] kind got f i =
    ap told_of i.is ∙ whole_told kind i.size got i.buffer i.kept ∙ ap (λ (s : List ℕ). meant_by (bytes (kind ∷ s))) (sym (append-nil got))
rest_told (a ∷ []) kind got f i =
    decide (is_digit a)
    (λ p. ap told_of (ap (step a) i.is ∙ step_digit a (fed (Whole kind i.size) i.buffer) p))
    (λ p. ap told_of (step_other a f p))
rest_told (a ∷ b ∷ rest) kind got f i =
    decide (is_digit a)
    (λ p.
    decide (is_digit b)
    (λ q.
    rest_told rest kind (got ++ ((16 * digit_of a + digit_of b) ∷ [])) (step b (step a f)) (pair_more a b kind got f p q i)
    ∙ ap meant_by (prepend_one (kind ∷ got) (16 * digit_of a + digit_of b) (bytes_of rest))
    ∙ simp (p, q))
    (λ q. second_no_digit b rest (step a f) q ∙ simp (p, q)))
    (λ p. first_no_digit a b rest f p ∙ simp p)

prepend_before : (v : ℕ) (ys : Bytes) → prepend (v ∷ []) ys ≡ before v ys
prepend_before v (bytes ys) = refl
prepend_before v not_hex = refl

-- THEOREM: a line that is fed from its start and then ended is told as it is meant, whatever the lent buffer held
pub feeding_a_line : (line buffer : List ℕ) → length buffer ≡ 520 → told_of (feed_all line (fed Nothing buffer)) ≡ line_of line
unfolding digit_fed ended
feeding_a_line [] buffer l = refl
feeding_a_line (a ∷ []) buffer l = decide (is_digit a) (λ p. ap told_of (step_digit a (fed Nothing buffer) p)) (λ p. ap told_of (step_other a (fed Nothing buffer) p))
feeding_a_line (a ∷ b ∷ rest) buffer l =
    decide (is_digit a)
    (λ p.
    decide (is_digit b)
    (λ q.
    let kind : ℕ = 16 * digit_of a + digit_of b in
    let begun : After kind [] (step b (step a (fed Nothing buffer))) =
    record {
      size = 0;
      buffer = buffer;
      is = ap (step b) (step_digit a (fed Nothing buffer) p)
          ∙ step_digit b (fed (HalfKind (digit_of a)) buffer) q
          ∙ ap (λ (k : ℕ). fed (Whole k 0) buffer) (byte_of_digits a b p q);
      kept = few l (omega arith) refl refl;
    } in
    rest_told rest kind [] (step b (step a (fed Nothing buffer))) begun ∙ ap meant_by (prepend_before kind (bytes_of rest)) ∙ simp (p, q))
    (λ q. second_no_digit b rest (step a (fed Nothing buffer)) q ∙ simp (p, q)))
    (λ p. first_no_digit a b rest (fed Nothing buffer) p ∙ simp p)

-- a line may come in parts: feeding one after the other is feeding both together
pub feeding_parts : (front rest : List ℕ) (f : Fed) → feed_all (front ++ rest) f ≡ feed_all rest (feed_all front f)
feeding_parts [] rest f = refl
feeding_parts (b ∷ front) rest f = feeding_parts front rest (step b f)

-- the buffer keeps its length
digit_length : (low : ℕ) (line : Line) (buffer : List ℕ) → length (digit_fed low line buffer).buffer ≡ length buffer
unfolding digit_fed
digit_length low Nothing buffer = refl
digit_length low (HalfKind high) buffer = refl
digit_length low (Whole kind size) buffer = refl
digit_length low (Half kind size high) buffer =
    decide (ltb size 520)
    (λ e. ap (λ (t : Bool). length (pick t (fed (Whole kind (size + 1)) (set buffer size (byte_of high low))) (fed (Whole kind 521) buffer)).buffer) e
    ∙ length-set buffer size (byte_of high low))
    (λ e. ap (λ (t : Bool). length (pick t (fed (Whole kind (size + 1)) (set buffer size (byte_of high low))) (fed (Whole kind 521) buffer)).buffer) e)
digit_length low NotHex buffer = refl

pub step_length : (b : ℕ) (f : Fed) → length (step b f).buffer ≡ length f.buffer
step_length b f =
    decide (is_digit b)
    (λ e. ap (λ (g : Fed). length g.buffer) (step_digit b f e) ∙ digit_length (digit_of b) f.line f.buffer)
    (λ e. ap (λ (g : Fed). length g.buffer) (step_other b f e))

-- a line that has been fed a byte is no longer untouched
digit_touches : (low : ℕ) (line : Line) (buffer : List ℕ) → untouched (digit_fed low line buffer).line ≡ false
unfolding digit_fed
digit_touches low Nothing buffer = refl
digit_touches low (HalfKind high) buffer = refl
digit_touches low (Whole kind size) buffer = refl
digit_touches low (Half kind size high) buffer = here (ltb size 520)
  where
    here : (t : Bool) → untouched (pick t (fed (Whole kind (size + 1)) (set buffer size (byte_of high low))) (fed (Whole kind 521) buffer)).line ≡ false
    here true = refl
    here false = refl
digit_touches low NotHex buffer = refl

step_touches : (b : ℕ) (f : Fed) → untouched (step b f).line ≡ false
step_touches b f =
    decide (is_digit b)
    (λ e. ap (λ (g : Fed). untouched g.line) (step_digit b f e) ∙ digit_touches (digit_of b) f.line f.buffer)
    (λ e. ap (λ (g : Fed). untouched g.line) (step_other b f e))

-- a state that these bytes of a line lead to, from some buffer of 520 bytes
record Led (line : List ℕ) (f : Fed) : Type 0 where
  from : List ℕ
  whole : length from ≡ 520
  by : f ≡ feed_all line (fed Nothing from)
  room : length f.buffer ≡ 520

led_more : (line : List ℕ) (b : ℕ) (f : Fed) → Led line f → Led (line ++ (b ∷ [])) (step b f)
led_more line b f i =
    record {
      from = i.from;
      whole = i.whole;
      by = ap (step b) i.by ∙ sym (feeding_parts line (b ∷ []) (fed Nothing i.from));
      room = step_length b f ∙ i.room;
    }

led_told : (line : List ℕ) (f : Fed) → Led line f → told_of f ≡ line_of line
led_told line f i = ap told_of i.by ∙ feeding_a_line line i.from i.whole

-- feeding one byte or more touches
fed_touches : (line : List ℕ) (f : Fed) → untouched f.line ≡ false → untouched (feed_all line f).line ≡ false
fed_touches [] f e = e
fed_touches (b ∷ line) f e = fed_touches line (step b f) (step_touches b f)

last_told : (line : List ℕ) (f : Fed) → Led line f → pick (untouched f.line) [] (told_of f ∷ []) ≡ map line_of (last_line line)
last_told [] f i = ap (λ (g : Fed). pick (untouched g.line) [] (told_of g ∷ [])) i.by
last_told (b ∷ line) f i =
    let e : untouched f.line ≡ false =
    ap (λ (g : Fed). untouched g.line) i.by ∙ fed_touches line (step b (fed Nothing i.from)) (step_touches b (fed Nothing i.from)) in
    simp (e, led_told (b ∷ line) f i)

rest_of_input : (rest line : List ℕ) (f : Fed) → Led line f → told_all f rest ≡ map line_of (lines_from line rest)
rest_of_input [] line f i = last_told line f i
rest_of_input (b ∷ rest) line f i =
    decide (eqb b 10)
    (λ e.
    let again : Led [] (fed Nothing f.buffer) = record { from = f.buffer; whole = i.room; by = refl; room = i.room } in
    simp (e, led_told line f i, rest_of_input rest [] (fed Nothing f.buffer) again))
    (λ e. simp (e, rest_of_input rest (line ++ (b ∷ [])) (step b f) (led_more line b f i)))

-- THEOREM: a whole input, each line told where it ends and the buffer used again as it is, is told as its lines are meant
pub feeding_an_input : (input buffer : List ℕ) → length buffer ≡ 520 → told_all (fed Nothing buffer) input ≡ input_of input
feeding_an_input input buffer l = rest_of_input input [] (fed Nothing buffer) (record { from = buffer; whole = l; by = refl; room = l })

-- what the buffer held before never matters
pub buffer_never_matters : (line buffer other : List ℕ) → length buffer ≡ 520 → length other ≡ 520
    → told_of (feed_all line (fed Nothing buffer)) ≡ told_of (feed_all line (fed Nothing other))
buffer_never_matters line buffer other l m = feeding_a_line line buffer l ∙ sym (feeding_a_line line other m)

-- `feed` and `end`: two outcomes that meet the contract are the same
pub one_outcome_of_feed : (b : ℕ) (f : Fed) {r s : Line} {buffer other : List ℕ} → fed r buffer ≡ step b f → fed s other ≡ step b f → (r ≡ s) × (buffer ≡ other)
one_outcome_of_feed b f p q = (ap (λ (g : Fed). g.line) (p ∙ sym q), ap (λ (g : Fed). g.buffer) (p ∙ sym q))

-- a script that is to be read lies in the buffer
abbrev Fits : Result Script Refusal → Type 0
Fits (Err why) = Unit {0}
Fits (Ok s) = s.size ≤ 520

ended_fits : (line : Line) → Fits (ended line)
unfolding ended
ended_fits Nothing = tt
ended_fits (HalfKind high) = tt
ended_fits (Whole kind size) = decide (leb kind 1) (λ e. simp e (decide (leb size 520) (λ s. simp s (leb-true size 520 s)) (λ s. simp s tt))) (λ e. simp e tt)
ended_fits (Half kind size high) = tt
ended_fits NotHex = tt

pub script_fits : (line : Line) (s : Script) {m : Result Script Refusal} → m ≡ ended line → m ≡ Ok s → s.size ≤ 520
script_fits line s e p = subst Fits (sym e ∙ p) (ended_fits line)

-- a line is read forward
pub stops_behind : (input : List ℕ) (from : ℕ) (f : Fed) {g : Fed} {at : ℕ} → stopped g at ≡ line_fed input from f → from ≤ at
unfolding line_fed
stops_behind input from f e = omega (arith, ap (λ (s : Stopped). s.at) e)

-- THEOREM: an input may come in parts, cut anywhere
pub input_in_parts : (front rest : List ℕ) (f : Fed) → told_all f (front ++ rest) ≡ told_in f front ++ told_all (left_by f front) rest
input_in_parts [] rest f = refl
input_in_parts (b ∷ front) rest f =
    decide (eqb b 10)
    (λ e. simp (e, input_in_parts front rest (fed Nothing f.buffer)))
    (λ e. simp (e, input_in_parts front rest (step b f)))

-- a part in which the line doesn't end
pub line_goes_on : (part : List ℕ) (f : Fed) → length part ≤ length (of_line part) → (told_in f part ≡ []) × (left_by f part ≡ feed_all (of_line part) f)
line_goes_on [] f h = (refl, refl)
line_goes_on (b ∷ rest) f h =
    decide (eqb b 10)
    (λ e. absurd (omega (arith, simp e at h)))
    (λ e.
    let shorter : length rest ≤ length (of_line rest) = omega (arith, simp e at h) in
    let more : (told_in (step b f) rest ≡ []) × (left_by (step b f) rest ≡ feed_all (of_line rest) (step b f)) = line_goes_on rest (step b f) shorter in
    (simp e more.0, simp e more.1))

-- a part in which the line ends: it is told, and the next begins behind its line feed
pub line_ends : (part : List ℕ) (f : Fed) → length (of_line part) < length part
    → (told_in f part ≡ told_of (feed_all (of_line part) f) ∷ told_in (fed Nothing (feed_all (of_line part) f).buffer) (drop (suc (length (of_line part))) part))
    × (left_by f part ≡ left_by (fed Nothing (feed_all (of_line part) f).buffer) (drop (suc (length (of_line part))) part))
line_ends [] f h = absurd (omega arith)
line_ends (b ∷ rest) f h =
    decide (eqb b 10)
    (λ e. (simp e, simp e))
    (λ e.
    let shorter : length (of_line rest) < length rest = omega (arith, simp e at h) in
    (simp e (line_ends rest (step b f) shorter).0, simp e (line_ends rest (step b f) shorter).1))
