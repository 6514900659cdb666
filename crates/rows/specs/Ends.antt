-- For the proof: the codes before which an and_v doesn't go on.
use Rattle.std.specs.Prelude.{Bool, true, ℕ, eqb}
use Rattle.tables.specs.Choose.{pick}
use Rattle.lex.specs.Token.{IF, NOTIF, ELSE, TOALTSTACK, SWAP}

abbrev pub ends_and_v : ℕ → Bool
ends_and_v c = pick (eqb c IF) true (pick (eqb c NOTIF) true (pick (eqb c ELSE) true (pick (eqb c TOALTSTACK) true (eqb c SWAP))))
