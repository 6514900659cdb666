-- Where the part lies in the script, and where it doesn't. Assumes nothing.
use mathlib.Core.Path.{◌≡◌, ap, ◌∙◌}
use mathlib.Core.List.{List, []}
use Prim.Native.Nat.{ℕ, ◌+◌, ◌≤◌, ◌<◌}
use native.Mathlib.Nat.{add-sub_cancel_left}
use native.Mathlib.Omega.{arith}
use borrow.Author.Tests.{le-leb, lt-leb}
use denote.Ref.{Bor}
use lib.ListN.{length, take, drop}
use Rattle.std.specs.Prelude.{Option, Some, None, MatchOption, ◌⊎◌}
use mathlib.Core.Logic.{inl, inr}
use Rattle.std.specs.Option.{unwrap_or}
use Rattle.std.specs.List.{slice_range}
use Rattle.leaf_part.specs.LeafPart.{leaf_bytes, leaf_part}

module _ (scriptKind : ℕ) (script : List ℕ) (kind place : ℕ) where
  pub unknown_script : 1 < scriptKind → [] ≡ leaf_part scriptKind script kind place
  unfolding leaf_part
  unknown_script h = rw (lt-leb scriptKind 1 h)

  module _ (bytes : ℕ) (are : bytes ≡ leaf_bytes scriptKind kind) (known : scriptKind ≤ 1) where
    ends_beyond : length script < place + bytes → [] ≡ leaf_part scriptKind script kind place
    unfolding leaf_part
    ends_beyond h = rw (le-leb scriptKind 1 known, ← are, lt-leb (place + bytes) (length script) h)

    inside : place + bytes ≤ length script → slice_range script place (place + bytes) ≡ leaf_part scriptKind script kind place
    unfolding leaf_part
    inside h = rw (le-leb scriptKind 1 known, ← are, le-leb (place + bytes) (length script) h) (ap (λ (k : ℕ). take k (drop place script)) (add-sub_cancel_left place bytes))

    -- what `get` looks up, or the empty part
    pub looked_up : (o : Option (Bor (List ℕ))) (other : Bor (List ℕ)) → other.now ≡ []
        → MatchOption o ((place + bytes < place) ⊎ (length script < place + bytes)) (λ x. (place ≤ place + bytes) × (place + bytes ≤ length script) × (x.now ≡ slice_range script place (place + bytes)) × (length x.now + place ≡ place + bytes))
        → (unwrap_or o other).now ≡ leaf_part scriptKind script kind place
    looked_up None other e (inl h) = absurd (omega arith)
    looked_up None other e (inr h) = e ∙ ends_beyond h
    looked_up (Some x) other e h = h.2 ∙ inside h.1
