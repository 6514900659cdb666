-- Turn after turn of the clerk, each written and crossed off before the next: the line that the part leaves open stays the same, and so does what was written, with what waits and what is still owed. Assumes nothing.
use mathlib.Core.Path.{◌≡◌, ap, subst, ◌∙◌}
use mathlib.Core.List.{List, ◌++◌, append_assoc}
use Prim.Native.Nat.{ℕ, ◌≤◌}
use lib.ListN.{take}
use Rattle.hex_line.specs.Feeding.{Fed}
use Rattle.clerk.specs.declared.Hand.{Hand}
use Rattle.calls.specs.declared.Failed.{Failed}
use Rattle.std.specs.Prelude.{Result, Ok}
use Rattle.desk.specs.Stops.{Sends}
use Rattle.clerk.specs.Owed.{owed, leaves, laid, Answered}

-- what `turn` ensures
abbrev pub Turns : ℕ → List ℕ → Hand → List ℕ → List ℕ → List ℕ → Hand → List ℕ → List ℕ → List ℕ → List ℕ → Type 0
Turns n part hand script nodes keys r script₁ nodes₁ keys₁ out₁ =
    (r.at ≤ n)
    × (r.used ≤ 8192)
    × (r.used ≡ 0 → Answered r n)
    × (leaves r part script₁ ≡ leaves hand part script)
    × (take r.used out₁ ++ owed r part script₁ nodes₁ keys₁ ≡ owed hand part script nodes keys)

-- `written` is what was laid out and crossed off so far
pub record Sending (n : ℕ) (part text : List ℕ) (left : Fed) (hand : Hand) (script nodes keys out : List ℕ) : Type 0 where
  pub within : hand.at ≤ n
  pub small : hand.used ≤ 8192
  pub idle : hand.used ≡ 0 → Answered hand n
  pub leaving : leaves hand part script ≡ left
  pub written : List ℕ
  pub whole : written ++ (take hand.used out ++ owed hand part script nodes keys) ≡ text

-- how writing went, told of the case
pub all_sent : (P : Hand → Type 0) (r : Result Hand Failed) {hand : Hand} → r ≡ Ok hand → Sends r P → P hand
all_sent P r e s = subst (λ (x : Result Hand Failed). Sends x P) e s

-- nothing of what a turn laid out waits any more
abbrev pub CrossedOff : Hand → Hand → Type 0
CrossedOff hand left = left ≡ laid hand hand.next 0

-- a hand from which all bytes that waited were crossed off owes and leaves what it did
pub crossed_off : (n : ℕ) (part : List ℕ) (hand left : Hand) (script nodes keys : List ℕ) (r : Hand) (script₁ nodes₁ keys₁ out₁ : List ℕ) → CrossedOff hand left
    → Turns n part left script nodes keys r script₁ nodes₁ keys₁ out₁ → Turns n part hand script nodes keys r script₁ nodes₁ keys₁ out₁
crossed_off n part hand left script nodes keys r script₁ nodes₁ keys₁ out₁ e t = subst (λ (h : Hand). Turns n part h script nodes keys r script₁ nodes₁ keys₁ out₁) e t

-- what waited is crossed off, and the clerk takes another turn
pub turned : (n : ℕ) (part text : List ℕ) (left : Fed) (hand : Hand) (script nodes keys out : List ℕ) (r : Hand) (script₁ nodes₁ keys₁ out₁ : List ℕ)
    → Sending n part text left hand script nodes keys out → Turns n part hand script nodes keys r script₁ nodes₁ keys₁ out₁
    → Sending n part text left r script₁ nodes₁ keys₁ out₁
turned n part text left hand script nodes keys out r script₁ nodes₁ keys₁ out₁ s t =
    record {
      within = t.0;
      small = t.1;
      idle = t.2;
      leaving = t.3 ∙ s.leaving;
      written = s.written ++ take hand.used out;
      whole =
          append_assoc s.written (take hand.used out) (take r.used out₁ ++ owed r part script₁ nodes₁ keys₁)
          ∙ ap (λ (o : List ℕ). s.written ++ (take hand.used out ++ o)) t.4
          ∙ s.whole;
    }

-- What is left of a turn while its bytes are written: the same hand, with fewer bytes that wait.
abbrev pub Crossed : Hand → Hand → Type 0
Crossed hand left = (left ≡ laid hand hand.next left.used) × (left.used ≤ hand.used)
