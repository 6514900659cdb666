-- Writing into a lent output at a position: the exact new contents and where the text ends; or, if there is no room, the contents as they were.
use Rattle.std.specs.Prelude.{List, ◌++◌, ℕ, ◌+◌, leb, length, take, drop, Option, Some, None}
use Rattle.tables.specs.Choose.{pick}

-- an output with a text at a position, where it fits
unfoldable pub write : List ℕ → ℕ → List ℕ → List ℕ
write out at text = take at out ++ text ++ drop (at + length text) out

-- what a lent output holds in the end, and where the text that was put there ends; nothing, if there was no room
pub record Put : Type 0 where
  pub out : List ℕ
  pub end : Option ℕ

abbrev pub put : List ℕ → Option ℕ → Put
put out end = record { out = out; end = end }

abbrev pub puts : List ℕ → ℕ → List ℕ → Put
puts out at text = pick (leb (at + length text) (length out)) (put (write out at text) (Some (at + length text))) (put out None)
