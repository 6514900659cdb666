-- For the proof: the numbers of a thresh's entries are small, so that an entry fits one 64-bit number.
use Rattle.std.specs.Prelude.{ℕ, ◌<◌, List, [], ◌∷◌}
use Rattle.lex.specs.Token.{Lexeme, op, num, push}
use Rattle.standard.specs.Rows.{NonTerm, Expression, WExpression, MaybeAndV, AndV, Alt, Swap, EndIf, EndIfNotIf, EndIfElse, Tern, Reduce1, Reduce2, ThreshW, ThreshE}

-- k is below 2^32 and the children counted are below this bound
abbrev pub SmallEntry : ℕ → NonTerm → Type 0
SmallEntry most Expression = Unit {0}
SmallEntry most WExpression = Unit {0}
SmallEntry most MaybeAndV = Unit {0}
SmallEntry most AndV = Unit {0}
SmallEntry most Alt = Unit {0}
SmallEntry most Swap = Unit {0}
SmallEntry most EndIf = Unit {0}
SmallEntry most EndIfNotIf = Unit {0}
SmallEntry most EndIfElse = Unit {0}
SmallEntry most Tern = Unit {0}
SmallEntry most (Reduce1 w) = Unit {0}
SmallEntry most (Reduce2 c) = Unit {0}
SmallEntry most (ThreshW k n) = (k < 4294967296) × (n < most)
SmallEntry most (ThreshE k n) = (k < 4294967296) × (n < most)

abbrev pub SmallEntries : ℕ → List NonTerm → Type 0
SmallEntries most [] = Unit {0}
SmallEntries most (e ∷ es) = SmallEntry most e × SmallEntries most es

-- every number among the tokens is below 2^32
abbrev pub SmallLexeme : Lexeme → Type 0
SmallLexeme (op c) = Unit {0}
SmallLexeme (num n) = n < 4294967296
SmallLexeme (push c d) = Unit {0}

abbrev pub SmallLexemes : List Lexeme → Type 0
SmallLexemes [] = Unit {0}
SmallLexemes (t ∷ ts) = SmallLexeme t × SmallLexemes ts

-- the k of a thresh's entry is below 2^32
abbrev pub SmallK : NonTerm → Type 0
SmallK Expression = Unit {0}
SmallK WExpression = Unit {0}
SmallK MaybeAndV = Unit {0}
SmallK AndV = Unit {0}
SmallK Alt = Unit {0}
SmallK Swap = Unit {0}
SmallK EndIf = Unit {0}
SmallK EndIfNotIf = Unit {0}
SmallK EndIfElse = Unit {0}
SmallK Tern = Unit {0}
SmallK (Reduce1 w) = Unit {0}
SmallK (Reduce2 c) = Unit {0}
SmallK (ThreshW k n) = k < 4294967296
SmallK (ThreshE k n) = k < 4294967296
