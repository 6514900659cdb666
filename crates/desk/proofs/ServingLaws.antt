-- Part after part of the input: how far the line at hand has been read is what all parts so far leave, cut as they were. Assumes nothing.
use mathlib.Core.Path.{◌≡◌, refl, sym, ap, ◌∙◌}
use mathlib.Core.List.{List, [], ◌∷◌, ◌++◌}
use Prim.Native.Nat.{ℕ}
use Rattle.hex_line.specs.declared.Line.{Line}
use Rattle.hex_line.specs.Feeding.{Fed, fed, left_by}

-- the parts one after the other, the line that one leaves open going on in the next
abbrev pub left_by_all : Fed → List (List ℕ) → Fed
left_by_all f [] = f
left_by_all f (part ∷ parts) = left_by_all (left_by f part) parts

one_more : (f : Fed) (parts : List (List ℕ)) (part : List ℕ) → left_by_all f (parts ++ (part ∷ [])) ≡ left_by (left_by_all f parts) part
one_more f [] part = refl
one_more f (first ∷ parts) part = one_more (left_by f first) parts part

-- `parts` is what the reads gave so far
pub record Serving (start : Fed) (line : Line) (script : List ℕ) : Type 0 where
  pub parts : List (List ℕ)
  pub at_hand : fed line script ≡ left_by_all start parts

pub part_answered : (start : Fed) (line : Line) (script part : List ℕ) (line₁ : Line) (script₁ : List ℕ) → Serving start line script
    → fed line₁ script₁ ≡ left_by (fed line script) part → Serving start line₁ script₁
part_answered start line script part line₁ script₁ s e =
    record { parts = s.parts ++ (part ∷ []); at_hand = e ∙ ap (λ (f : Fed). left_by f part) s.at_hand ∙ sym (one_more start s.parts part) }
