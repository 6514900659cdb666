-- A conjunction that holds: its parts, and from its parts. A conjunction is `&&`, or `pick a b false`. Assumes nothing.
use mathlib.Core.Path.{◌≡◌, refl, sym}
use mathlib.Core.Bool.{Bool, true, false, true≢false, ◌&&◌}
use Rattle.tables.specs.Choose.{pick}

pub left_true : (a b : Bool) → (a && b) ≡ true → a ≡ true
left_true true b h = refl
left_true false b h = h

pub right_true : (a b : Bool) → (a && b) ≡ true → b ≡ true
right_true true b h = h
right_true false b h = absurd (true≢false (sym h))

pub both_true : {a b : Bool} → a ≡ true → b ≡ true → (a && b) ≡ true
both_true e f = rw (e, f)

pub picked_both : (a b : Bool) → pick a b false ≡ true → (a ≡ true) × (b ≡ true)
picked_both true b h = (refl, h)
picked_both false b h = absurd (true≢false (sym h))
