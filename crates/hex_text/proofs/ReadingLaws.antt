-- Reading a text in hexadecimal byte by byte: what is read so far and what is still to be read are the whole. Assumes nothing.
-- Why: as long as there is room and two digits follow, one byte more is read; where not, nothing is left to be read.
use mathlib.Core.Path.{◌≡◌, refl, sym, ap, subst, ◌∙◌}
use Rattle.std.specs.Prelude.{Option, Some, None, is_some, unwrap_or}
use mathlib.Core.Bool.{Bool, true, false, true≢false, ◌&&◌, and-false}
use mathlib.Core.List.{List, [], ◌∷◌, ◌++◌, append-nil, append_assoc}
use Prim.Native.Nat.{ℕ, zero, suc, ◌+◌, ◌-◌, ◌*◌, ◌/◌, ◌≤◌, ◌<◌, min}
use lib.Dec.{leb}
use native.Mathlib.Omega.{arith}
use lib.ListN.{length, drop, get_or, set, length-append, length-drop, length-set}
use lib.Seq.{drop-cons}
use borrow.Author.Tests.{lt-ltb, ltb-true, leb-true, leb-false}
use Rattle.tables.specs.Choose.{pick}
use Rattle.tables.specs.Tables.{put_at}
use Rattle.tables.proofs.PutLaws.{put_more}
use Rattle.hex_line.specs.Digits.{digit_of, is_digit, digit_in}
use Rattle.hex_text.specs.HexText.{bytes_in, Unhexes}

-- A digit, or none

digit_there : (a b : ℕ) → Some a ≡ digit_in b → is_digit b ≡ true
digit_there a b e = here (is_digit b) e
  where
    here : (t : Bool) → Some a ≡ pick t (Some (digit_of b)) None → t ≡ true
    here true p = refl
    here false p = absurd (true≢false (ap is_some p))

digit_is : (a b : ℕ) → Some a ≡ digit_in b → a ≡ digit_of b
digit_is a b e = ap (λ (o : Option ℕ). unwrap_or o 0) (e ∙ ap (λ (t : Bool). pick t (Some (digit_of b)) None) (digit_there a b e))

no_digit : (b : ℕ) → None ≡ digit_in b → is_digit b ≡ false
no_digit b e = here (is_digit b) e
  where
    here : (t : Bool) → None ≡ pick t (Some (digit_of b)) None → t ≡ false
    here true p = absurd (true≢false (sym (ap is_some p)))
    here false p = refl

-- One byte more, or none

two_there : (text : List ℕ) (i : ℕ) → i + 2 ≤ length text → drop i text ≡ get_or text i 0 ∷ get_or text (i + 1) 0 ∷ drop (i + 2) text
two_there text i h =
    let e : suc i ≡ i + 1 = omega arith in
    let f : suc (i + 1) ≡ i + 2 = omega arith in
    drop-cons text i 0 (omega arith)
    ∙ ap (λ (k : ℕ). get_or text i 0 ∷ drop k text) e
    ∙ ap (λ (l : List ℕ). get_or text i 0 ∷ l) (drop-cons text (i + 1) 0 (omega arith))
    ∙ ap (λ (k : ℕ). get_or text i 0 ∷ get_or text (i + 1) 0 ∷ drop k text) f

one_byte : (room : ℕ) (text : List ℕ) (i : ℕ) → i + 2 ≤ length text → digit_of (get_or text i 0) < 16 → digit_of (get_or text (i + 1) 0) < 16
    → bytes_in (suc room) (drop i text) ≡ (16 * digit_of (get_or text i 0) + digit_of (get_or text (i + 1) 0)) ∷ bytes_in room (drop (i + 2) text)
one_byte room text i h a b =
    ap (bytes_in (suc room)) (two_there text i h)
    ∙ rw (lt-ltb (digit_of (get_or text i 0)) 16 a, lt-ltb (digit_of (get_or text (i + 1) 0)) 16 b)

none_here : (room : ℕ) (text : List ℕ) (i : ℕ) → i + 2 ≤ length text → (is_digit (get_or text i 0) && is_digit (get_or text (i + 1) 0)) ≡ false → bytes_in (suc room) (drop i text) ≡ []
none_here room text i h e = ap (bytes_in (suc room)) (two_there text i h) ∙ rw e

none_left : (room : ℕ) (text : List ℕ) → length text < 2 → bytes_in room text ≡ []
none_left zero text h = refl
none_left (suc room) [] h = refl
none_left (suc room) (a ∷ []) h = refl
none_left (suc room) (a ∷ b ∷ rest) h = let no : ⊥ = omega arith in absurd no

-- What holds at each turn: n bytes are read off the text, and stand at the front of what was lent

pub record Reading (text lent now : List ℕ) (n : ℕ) : Type 0 where
  pub front : List ℕ
  pub counted : length front ≡ n
  pub within : n ≤ length lent
  pub inside : 2 * n ≤ length text
  pub held : now ≡ put_at lent 0 front
  pub same_length : length now ≡ length lent
  pub rest : bytes_in (length lent) text ≡ front ++ bytes_in (length lent - n) (drop (2 * n) text)

module _ {text lent now : List ℕ} {n : ℕ} (h : Reading text lent now n) where
  -- one byte more
  pub again : (a b : ℕ) → n < length lent → 2 * n + 2 ≤ length text → Some a ≡ digit_in (get_or text (2 * n) 0) → Some b ≡ digit_in (get_or text (2 * n + 1) 0)
      → Reading text lent (set now n (16 * a + b)) (n + 1)
  again a b room more fa fb =
      let ea : a ≡ digit_of (get_or text (2 * n) 0) = digit_is a _ fa in
      let eb : b ≡ digit_of (get_or text (2 * n + 1) 0) = digit_is b _ fb in
      let la : digit_of (get_or text (2 * n) 0) < 16 = ltb-true _ 16 (digit_there a _ fa) in
      let lb : digit_of (get_or text (2 * n + 1) 0) < 16 = ltb-true _ 16 (digit_there b _ fb) in
      let x : ℕ = 16 * a + b in
      let k : n ≡ 0 + length h.front = omega (arith, h.counted) in
      let one : bytes_in (suc (length lent - (n + 1))) (drop (2 * n) text) ≡ (16 * digit_of (get_or text (2 * n) 0) + digit_of (get_or text (2 * n + 1) 0)) ∷ bytes_in (length lent - (n + 1)) (drop (2 * n + 2) text) =
      one_byte (length lent - (n + 1)) text (2 * n) more la lb in
      let room_is : length lent - n ≡ suc (length lent - (n + 1)) = omega arith in
      let byte-is : 16 * digit_of (get_or text (2 * n) 0) + digit_of (get_or text (2 * n + 1) 0) ≡ x = omega arith in
      let place_is : 2 * n + 2 ≡ 2 * (n + 1) = omega arith in
      record {
        front = h.front ++ (x ∷ []);
        counted = omega (arith, length-append h.front (x ∷ []), h.counted);
        within = omega arith;
        inside = omega arith;
        held =
            ap (λ (t : List ℕ). set t n x) h.held
            ∙ ap (λ (j : ℕ). set (put_at lent 0 h.front) j x) k
            ∙ put_more lent 0 h.front x;
        same_length = length-set now n x ∙ h.same_length;
        rest =
            h.rest
            ∙ ap (λ (j : ℕ). h.front ++ bytes_in j (drop (2 * n) text)) room_is
            ∙ ap (λ (l : List ℕ). h.front ++ l) one
            ∙ ap (λ (y : ℕ). h.front ++ (y ∷ bytes_in (length lent - (n + 1)) (drop (2 * n + 2) text))) byte-is
            ∙ ap (λ (j : ℕ). h.front ++ (x ∷ bytes_in (length lent - (n + 1)) (drop j text))) place_is
            ∙ sym (append_assoc h.front (x ∷ []) (bytes_in (length lent - (n + 1)) (drop (2 * (n + 1)) text)));
      }

  -- Where it ends, that is all
  ended : bytes_in (length lent - n) (drop (2 * n) text) ≡ [] → Unhexes text lent now n
  ended e =
      let all : bytes_in (length lent) text ≡ h.front = h.rest ∙ ap (λ (l : List ℕ). h.front ++ l) e ∙ append-nil h.front in
      record { fits = h.within; counted = sym (ap length all ∙ h.counted); put = h.held ∙ ap (put_at lent 0) (sym all) }

  -- the room or the text ends
  pub full : {most : ℕ} → most ≡ min (length lent) (length text / 2) → n ≤ most → most ≤ n → Unhexes text lent now most
  full {most} m s l = subst (Unhexes text lent now) (omega (arith, s, l)) (ended (nothing (leb (length lent) n) refl))
    where
      nothing : (t : Bool) → leb (length lent) n ≡ t → bytes_in (length lent - n) (drop (2 * n) text) ≡ []
      nothing true e =
          let z : length lent - n ≡ 0 = omega (arith, leb-true (length lent) n e) in
          ap (λ (k : ℕ). bytes_in k (drop (2 * n) text)) z
      nothing false e = none_left (length lent - n) (drop (2 * n) text) (omega (arith, length-drop (2 * n) text, leb-false (length lent) n e, m, l))

  module _ (room : n < length lent) (more : 2 * n + 2 ≤ length text) where
    no_byte : (is_digit (get_or text (2 * n) 0) && is_digit (get_or text (2 * n + 1) 0)) ≡ false → Unhexes text lent now n
    no_byte e =
        let z : length lent - n ≡ suc (length lent - (n + 1)) = omega arith in
        ended (ap (λ (k : ℕ). bytes_in k (drop (2 * n) text)) z ∙ none_here (length lent - (n + 1)) text (2 * n) more e)

    pub first_ends : None ≡ digit_in (get_or text (2 * n) 0) → Unhexes text lent now n
    first_ends e = no_byte (ap (λ (t : Bool). t && is_digit (get_or text (2 * n + 1) 0)) (no_digit _ e))

    pub second_ends : None ≡ digit_in (get_or text (2 * n + 1) 0) → Unhexes text lent now n
    second_ends e = no_byte (ap (λ (t : Bool). is_digit (get_or text (2 * n) 0) && t) (no_digit _ e) ∙ and-false (is_digit (get_or text (2 * n) 0)))
