-- Taking a line of the input: the part ends within it, or it ends and is answered. And the beginning of a part, or the end of the input. Assumes nothing.
use mathlib.Core.Path.{◌≡◌, refl, sym, ap, ◌∙◌}
use mathlib.Core.Bool.{Bool, false}
use mathlib.Core.List.{List, [], ◌∷◌, ◌++◌}
use Prim.Native.Nat.{ℕ, suc, ◌+◌, ◌-◌, ◌≤◌, ◌<◌}
use native.Mathlib.Omega.{arith}
use lib.ListN.{length, drop, length-drop, drop_of_length-le}
use lib.Seq.{drop-drop}
use Rattle.hex_line.specs.declared.Line.{Line}
use Rattle.hex_line.specs.declared.Line.TheVariants.{Nothing}
use Rattle.hex_line.specs.Feeding.{Fed, fed, feed_all, of_line, Stopped, stopped, line_fed, told_of, untouched, told_in, left_by}
use Rattle.hex_line.proofs.FeedingLaws.{line_goes_on, line_ends}
use Rattle.listing.specs.declared.Header.{Header}
use Rattle.listing.specs.Listing.{listing}
use Rattle.reply.specs.Program.{text_of, texts_of}
use Rattle.clerk.specs.declared.Hand.{Hand}
use Rattle.clerk.specs.Owed.{line_count, owed, leaves, due}
use Rattle.clerk.proofs.LayingLaws.{none_left, all_left}

-- where feeding a line stopped
stopped_at : (part : List ℕ) (i : ℕ) (f g : Fed) (at : ℕ) → stopped g at ≡ line_fed part i f → (g ≡ feed_all (of_line (drop i part)) f) × (at ≡ i + length (of_line (drop i part)))
unfolding line_fed
stopped_at part i f g at e = (ap (λ (s : Stopped). s.state) e, ap (λ (s : Stopped). s.at) e)

-- the part ends within a line
goes_on : (part : List ℕ) (i : ℕ) (f g : Fed) (at : ℕ) → stopped g at ≡ line_fed part i f → length part ≤ at → i ≤ length part
    → (told_in f (drop i part) ≡ []) × (left_by f (drop i part) ≡ g)
goes_on part i f g at e h w =
    let s : (g ≡ feed_all (of_line (drop i part)) f) × (at ≡ i + length (of_line (drop i part))) = stopped_at part i f g at e in
    let d : length (drop i part) ≡ length part - i = length-drop i part in
    let on : (told_in f (drop i part) ≡ []) × (left_by f (drop i part) ≡ feed_all (of_line (drop i part)) f) = line_goes_on (drop i part) f (omega (arith, s.1)) in
    (on.0, on.1 ∙ sym s.0)

-- a line ends, and the next begins
ends : (part : List ℕ) (i : ℕ) (f g : Fed) (at : ℕ) → stopped g at ≡ line_fed part i f → at < length part → i ≤ length part
    → (i ≤ at)
    × (told_in f (drop i part) ≡ told_of g ∷ told_in (fed Nothing g.buffer) (drop (at + 1) part))
    × (left_by f (drop i part) ≡ left_by (fed Nothing g.buffer) (drop (at + 1) part))
ends part i f g at e h w =
    let s : (g ≡ feed_all (of_line (drop i part)) f) × (at ≡ i + length (of_line (drop i part))) = stopped_at part i f g at e in
    let d : length (drop i part) ≡ length part - i = length-drop i part in
    let m : ℕ = length (of_line (drop i part)) in
    let e : _ = line_ends (drop i part) f (omega (arith, s.1)) in
    let k : i + suc m ≡ at + 1 = omega (arith, s.1) in
    let rest : drop (suc m) (drop i part) ≡ drop (at + 1) part = drop-drop (suc m) i part ∙ ap (λ (j : ℕ). drop j part) k in (
      omega (arith, s.1),
      e.0
          ∙ ap (λ (x : Fed). told_of x ∷ told_in (fed Nothing x.buffer) (drop (suc m) (drop i part))) (sym s.0)
          ∙ ap (λ (l : List ℕ). told_of g ∷ told_in (fed Nothing g.buffer) l) rest,
      e.1
          ∙ ap (λ (x : Fed). left_by (fed Nothing x.buffer) (drop (suc m) (drop i part))) (sym s.0)
          ∙ ap (left_by (fed Nothing g.buffer)) rest,
    )

-- what `take_line` ensures
abbrev pub Takes : Hand → ℕ → List ℕ → List ℕ → Hand → List ℕ → List ℕ → List ℕ → Type 0
Takes hand n part script r after nodes keys =
    (hand.at < r.at)
    × (r.at ≤ n)
    × (leaves r part after ≡ leaves hand part script)
    × (owed r part after nodes keys ≡ texts_of (told_in (fed hand.line script) (drop hand.at part)))

pub part_ended : (part : List ℕ) (hand : Hand) (script nodes keys : List ℕ) (line : Line) (after : List ℕ) (at used : ℕ) → line_count hand.header ≤ hand.next → hand.at < length part
    → stopped (fed line after) at ≡ line_fed part hand.at (fed hand.line script) → length part ≤ at
    → Takes hand (length part) part script (record { line = line; at = length part; header = hand.header; next = hand.next; used = used }) after nodes keys
part_ended part hand script nodes keys line after at used whole w e h =
    let g : _ = goes_on part hand.at (fed hand.line script) (fed line after) at e h (omega arith) in
    let d : drop (length part) part ≡ [] = drop_of_length-le part {i = length part} (omega arith) in (
      w,
      omega arith,
      ap (left_by (fed line after)) d ∙ sym g.1,
      ap (λ (rest : List ℕ). rest ++ texts_of (told_in (fed line after) (drop (length part) part))) (none_left hand.header nodes keys hand.next whole)
          ∙ ap (λ (rest : List ℕ). texts_of (told_in (fed line after) rest)) d
          ∙ ap texts_of (sym g.0),
    )

pub line_ended : (part : List ℕ) (hand : Hand) (script nodes keys : List ℕ) (line : Line) (after : List ℕ) (at used : ℕ) (header : Header) → hand.at < length part
    → stopped (fed line after) at ≡ line_fed part hand.at (fed hand.line script) → at < length part
    → listing header nodes keys ≡ text_of (told_of (fed line after))
    → Takes hand (length part) part script (record { line = Nothing; at = at + 1; header = header; next = 0; used = 0 }) after nodes keys
line_ended part hand script nodes keys line after at used header w e h t =
    let g : _ = ends part hand.at (fed hand.line script) (fed line after) at e h (omega arith) in (
      omega (arith, g.0),
      omega arith,
      sym g.2,
      ap (λ (rest : List ℕ). rest ++ texts_of (told_in (fed Nothing after) (drop (at + 1) part))) (all_left header nodes keys ∙ t) ∙ ap texts_of (sym g.1),
    )

-- what `receive` ensures
abbrev pub Receives : Line → ℕ → List ℕ → Hand → List ℕ → List ℕ → Type 0
Receives line n script r nodes keys =
    (r.at ≡ 0)
    × (r.used ≡ 0)
    × ((part : List ℕ) → length part ≡ n
    → (owed r part script nodes keys ≡ due (fed line script) part) × (0 < n → leaves r part script ≡ left_by (fed line script) part))

pub last_came : (line : Line) (n : ℕ) (script nodes keys : List ℕ) (header : Header) {t : Bool} → n ≤ 0 → t ≡ untouched line → t ≡ false
    → listing header nodes keys ≡ text_of (told_of (fed line script))
    → Receives line n script (record { line = line; at = 0; header = header; next = 0; used = 0 }) nodes keys
last_came line n script nodes keys header {t} h q p told = (refl, refl, here)
  where
    u : untouched line ≡ false
    u = sym q ∙ p

    here : (part : List ℕ) → length part ≡ n
        → (owed (record { line = line; at = 0; header = header; next = 0; used = 0 }) part script nodes keys ≡ due (fed line script) part)
        × (0 < n → leaves (record { line = line; at = 0; header = header; next = 0; used = 0 }) part script ≡ left_by (fed line script) part)
    here [] l =
        (ap (λ (text : List ℕ). text ++ []) (all_left header nodes keys ∙ told) ∙ simp u, λ z. absurd (omega arith))
    here (b ∷ part) l = absurd (omega arith)
