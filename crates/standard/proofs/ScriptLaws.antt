-- What the lexer's laws say of a script's lexemes: no more pushes than bytes (`pushes_at_most_bytes`), a lexing refusal has a number from 1 to 8 (`lexing_numbers`), a tree that is written with a script's lexemes holds the script's bytes (`tree_of_script`), and the first token stands at place 0 (`first_place`).
use Rattle.std.specs.Prelude.{◌≡◌, refl, Bool, true, false, List, [], ◌∷◌, ◌++◌, map, ℕ, zero, suc, ◌+◌, ◌-◌, ◌≤◌, eqb, leb, length, drop}
use Rattle.std.proofs.Common.{sym, arith}
use Rattle.instruction.specs.Error.{Lexing}
use Rattle.instruction.specs.declared.Lexed.TheVariants.{One, Two}
use Rattle.std.specs.Prelude.{Ok, Err}
use Rattle.lex.specs.Token.{Bytes, Token, token, Data, Lexeme, op, num, push, lexeme, data_at, data_length, NUM, HASH20, BYTES65, VERIFY}
use Rattle.instruction.specs.Instruction.{instruction_of}
use Rattle.lex.specs.Script as lex
use Rattle.lex.specs.Script.{script_limit, and_then, after, instructions, lex_of}
use Rattle.instruction.proofs.LowLaws.{bytes_drop, Low, low_instruction}
use Rattle.instruction.proofs.SizeLaws.{one_fits, two_fits}
use Rattle.lex.proofs.Derivation.{Gives, done, one, two, derived}
use Rattle.tables.specs.Choose.{pick}
use Rattle.standard.specs.Tree.{Key, key, Leaf, True, False, PkK, RawPkH, After, Older, HashLock, Multi, MultiA, Tree, Trees, leaf, wrap, join, and_or, thresh, nil, ◌⊳◌}
use Rattle.standard.specs.Written.{keys_before, added_keys_before, leaf_before, opening, closing, first, between, last, tree_before, added_trees_before, written}
use Rattle.standard.specs.Table.{DataOf, KeysOf, DatasOf, LeafOf, TreeOf, TreesOf}
use Rattle.standard.specs.Outcome.{place_at}
use Rattle.standard.proofs.Bound.{key_credit, pushes}

-- Numbers of lexing refusals

abbrev Numbered : lex.Outcome → Type 0
Numbered (lex.tokens ts) = Unit {0}
Numbered (lex.refused k p) = (1 ≤ k) × (k ≤ 8)

then_numbered : (t : Token) (o : lex.Outcome) → Numbered o → Numbered (and_then t o)
then_numbered t (lex.tokens ts) h = tt
then_numbered t (lex.refused k p) h = h

if_numbered : (b : Bool) (o : lex.Outcome) (k p : ℕ) → Numbered o → (1 ≤ k) × (k ≤ 8) → Numbered (pick b o (lex.refused k p))
if_numbered true o k p h g = h
if_numbered false o k p h g = g

after_numbered : (room at : ℕ) (x : Lexing) (onward : ℕ → ℕ → ℕ → lex.Outcome) → Low x → ((a b c : ℕ) → Numbered (onward a b c)) → Numbered (after room at x onward)
after_numbered room at (Ok (One code size number)) onward l h = if_numbered (leb 1 room) _ 8 at (then_numbered (token code number at) (onward (room - 1) size code) (h (room - 1) size code)) (omega arith, omega arith)
after_numbered room at (Ok (Two code size)) onward l h =
    if_numbered (leb 2 room) _ 8 at (then_numbered (token code 0 at) (and_then (token VERIFY 0 at) (onward (room - 2) size VERIFY)) (then_numbered (token VERIFY 0 at) (onward (room - 2) size VERIFY) (h (room - 2) size VERIFY))) (omega arith, omega arith)
after_numbered room at (Err k) onward l h = (omega (arith, l.0), omega (arith, l.1))

instructions_numbered : (most room at last : ℕ) (rest : List ℕ) → Bytes rest → Numbered (instructions most room at last rest)
instructions_numbered zero room at last rest b = tt
instructions_numbered (suc most) room at last [] b = tt
instructions_numbered (suc most) room at last (x ∷ rest) b =
    after_numbered room at (instruction_of (x ∷ rest) last) _ (low_instruction (x ∷ rest) last b) (λ left size code. instructions_numbered most left (at + size) code (drop size (x ∷ rest)) (bytes_drop size (x ∷ rest) b))

lex_numbered : (room : ℕ) (s : List ℕ) → Bytes s → Numbered (lex_of room s)
unfolding lex_of
lex_numbered room s b = if_numbered (leb (length s) script_limit) (instructions (length s) room 0 0 s) 1 0 (instructions_numbered (length s) room 0 0 s b) (omega arith, omega arith)

pub lexing_numbers : (room : ℕ) (s : List ℕ) (k p : ℕ) → Bytes s → lex_of room s ≡ lex.refused k p → (1 ≤ k) × (k ≤ 8)
lexing_numbers room s k p b e = let h : Numbered (lex.refused k p) = rw e at (lex_numbered room s b) in h

-- Pushes

one_key : (l : Lexeme) → key_credit l ≤ 1
one_key (op c) = omega arith
one_key (num n) = omega arith
one_key (push c d) = omega arith

gives_pushes : (s : List ℕ) {at last : ℕ} {ts : List Token} → Gives s at last ts → pushes (map (lexeme s) ts) + at ≤ length s
unfolding lexeme
gives_pushes s (done e) = omega arith
gives_pushes s (one {at} {last} {c} {v} {n} {ts} l e g) =
    let f : (1 ≤ n) × (n ≤ length s - at) = one_fits s at last l (sym e) c v n refl in
    omega (arith, f.0, one_key (lexeme s (token c v at)), gives_pushes s g)
gives_pushes s (two {at} {last} {c} {n} {ts} l e g) =
    let f : (1 ≤ n) × (n ≤ length s - at) = two_fits s at last l (sym e) c n refl in
    omega (arith, f.0, one_key (lexeme s (token c 0 at)), gives_pushes s g)

pub pushes_at_most_bytes : (room : ℕ) (s : List ℕ) (ts : List Token) → lex_of room s ≡ lex.tokens ts → pushes (map (lexeme s) ts) ≤ length s
pushes_at_most_bytes room s ts e = omega (arith, gives_pushes s (derived room s ts e).1)

-- Data

abbrev Pushed : List ℕ → Lexeme → Type 0
Pushed s (op c) = Unit {0}
Pushed s (num n) = Unit {0}
Pushed s (push c d) = DataOf s c d

abbrev AllPushed : List ℕ → List Lexeme → Type 0
AllPushed s [] = Unit {0}
AllPushed s (l ∷ ls) = Pushed s l × AllPushed s ls

lexeme_pushed : (s : List ℕ) (t : Token) → Pushed s (lexeme s t)
unfolding lexeme
lexeme_pushed s t = by (eqb t.code NUM) (leb HASH20 t.code) (leb t.code BYTES65)
  where
    by : (a b c : Bool) → Pushed s (pick a (num t.number) (pick b (pick c (push t.code (data_at s (t.place + 1) (data_length t.code))) (op t.code)) (op t.code)))
    by true b c = tt
    by false true true = refl
    by false true false = tt
    by false false c = tt

lexemes_pushed : (s : List ℕ) (ts : List Token) → AllPushed s (map (lexeme s) ts)
lexemes_pushed s [] = tt
lexemes_pushed s (t ∷ ts) = (lexeme_pushed s t, lexemes_pushed s ts)

module _ (s : List ℕ) where
  skip : (a rest : List Lexeme) → AllPushed s (a ++ rest) → AllPushed s rest
  skip [] rest h = h
  skip (x ∷ a) rest h = skip a rest h.1

  keys_of : (ks : List Key) (rest : List Lexeme) → AllPushed s (keys_before ks rest) → KeysOf s ks × AllPushed s rest
  keys_of [] rest h = (tt, h)
  keys_of (key c d ∷ ks) rest h = let g = keys_of ks rest h.1 in ((h.0, g.0), g.1)

  added_of : (ds : List Data) (rest : List Lexeme) → AllPushed s (added_keys_before ds rest) → DatasOf s ds × AllPushed s rest
  added_of [] rest h = (tt, h)
  added_of (d ∷ ds) rest h = let g = added_of ds rest h.1.1 in ((h.0, g.0), g.1)

  leaf_of_lem : (l : Leaf) (rest : List Lexeme) → AllPushed s (leaf_before l rest) → LeafOf s l × AllPushed s rest
  leaf_of_lem True rest h = (tt, h.1)
  leaf_of_lem False rest h = (tt, h.1)
  leaf_of_lem (PkK (key c d)) rest h = (h.0, h.1)
  leaf_of_lem (RawPkH d) rest h = (h.1.1.0, h.1.1.1.1.1)
  leaf_of_lem (After n) rest h = (tt, h.1.1)
  leaf_of_lem (Older n) rest h = (tt, h.1.1)
  leaf_of_lem (HashLock a d) rest h = (h.1.1.1.1.1.0, h.1.1.1.1.1.1.1)
  leaf_of_lem (Multi k ks) rest h = let g = keys_of ks _ h.1 in (g.0, g.1.1.1)
  leaf_of_lem (MultiA k d ds) rest h = let g = added_of ds _ h.1.1 in ((h.0, g.0), g.1.1.1)

  mutual
    tree_of : (t : Tree) (rest : List Lexeme) → AllPushed s (tree_before t rest) → TreeOf s t × AllPushed s rest
    tree_of (leaf l) rest h = leaf_of_lem l rest h
    tree_of (wrap w x) rest h = let g = tree_of x (closing w ++ rest) (skip (opening w) _ h) in (g.0, skip (closing w) rest g.1)
    tree_of (join c x y) rest h =
        let g = tree_of x (between c ++ tree_before y (last c ++ rest)) (skip (first c) _ h) in
        let k = tree_of y (last c ++ rest) (skip (between c) _ g.1) in
        ((g.0, k.0), skip (last c) rest k.1)
    tree_of (and_or x y z) rest h =
        let g = tree_of x _ h in
        let k = tree_of z _ g.1.1 in
        let m = tree_of y _ k.1.1 in
        ((g.0, (m.0, k.0)), m.1.1)
    tree_of (thresh k x xs) rest h =
        let g = tree_of x _ h in
        let m = trees_of_lem xs _ g.1 in
        ((g.0, m.0), m.1.1.1)

    trees_of_lem : (ts : Trees) (rest : List Lexeme) → AllPushed s (added_trees_before ts rest) → TreesOf s ts × AllPushed s rest
    trees_of_lem nil rest h = (tt, h)
    trees_of_lem (t ⊳ ts) rest h =
        let g = tree_of t _ h in
        let m = trees_of_lem ts rest g.1.1 in
        ((g.0, m.0), m.1)

-- a tree that is written with the lexemes of a script's tokens holds the script's bytes at its places
pub tree_of_script : (s : List ℕ) (ts : List Token) (t : Tree) → written t ≡ map (lexeme s) ts → TreeOf s t
unfolding written
tree_of_script s ts t e = (tree_of s t [] (rw e (lexemes_pushed s ts))).0

-- a script's first token stands at place 0
gives_first : (s : List ℕ) {last : ℕ} {ts : List Token} → Gives s 0 last ts → place_at ts 0 ≡ 0
gives_first s (done e) = refl
gives_first s (one l e g) = refl
gives_first s (two l e g) = refl

pub first_place : (room : ℕ) (s : List ℕ) (ts : List Token) → lex_of room s ≡ lex.tokens ts → place_at ts 0 ≡ 0
first_place room s ts e = gives_first s (derived room s ts e).1
