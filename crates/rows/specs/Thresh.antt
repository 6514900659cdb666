-- For the proof: the row of ThreshE, decided by document 01's "Thresh 1 ≤ k ≤ n" (13).
use Rattle.std.specs.Prelude.{ℕ, Result}
use Rattle.tables.specs.Choose.{pick}
use Rattle.standard.specs.Allowed.{within}
use Rattle.row.specs.declared.Row.TheVariants as row
use Rattle.row.specs.declared.Found.{Found}
use Rattle.row.specs.declared.Refused.{Refused}
use Rattle.row.specs.Request.{asked_at, refused_at}

unfoldable pub thresh_row : ℕ → ℕ → ℕ → Result Found Refused
thresh_row k n left = pick (within 1 k n) (asked_at (row.Thresh k n) left) (refused_at 13 left)
