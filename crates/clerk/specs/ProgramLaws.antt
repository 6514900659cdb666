-- The input read in parts, cut anywhere, is answered as the whole: what is due for each part and for the end, one after the other, is `output_of`; and what turn after turn hands out is what was owed. Assumes nothing.
use Rattle.std.specs.Prelude.{◌≡◌, refl, List, [], ◌∷◌, ◌++◌, ℕ, length}
use Rattle.std.proofs.Common.{sym, ap, ◌∙◌, append_assoc}
use Rattle.tables.specs.Tables.{flat}
use Rattle.hex_line.specs.declared.Line.TheVariants.{Nothing}
use Rattle.hex_line.specs.Meant.{Meant}
use Rattle.hex_line.specs.Feeding.{Fed, fed, told_all, told_in, left_by}
use Rattle.hex_line.proofs.FeedingLaws.{input_in_parts, feeding_an_input}
use Rattle.reply.specs.Program.{text_of, texts_of, output_of}
use Rattle.clerk.specs.Owed.{due}

-- a read that gave no bytes says that the input has ended, so each part has some
abbrev pub NoneEmpty : List (List ℕ) → Type 0
NoneEmpty [] = Unit {0}
NoneEmpty ([] ∷ parts) = ⊥
NoneEmpty ((b ∷ part) ∷ parts) = NoneEmpty parts

-- what is due for the parts, one after the other, and then for the end of the input
abbrev pub parts_text : Fed → List (List ℕ) → List ℕ
parts_text f [] = due f []
parts_text f (part ∷ parts) = due f part ++ parts_text (left_by f part) parts

texts_append : (ms ns : List Meant) → texts_of (ms ++ ns) ≡ texts_of ms ++ texts_of ns
texts_append [] ns = refl
texts_append (m ∷ ms) ns = ap (λ (t : List ℕ). text_of m ++ t) (texts_append ms ns) ∙ sym (append_assoc (text_of m) (texts_of ms) (texts_of ns))

parts_told : (parts : List (List ℕ)) (f : Fed) → NoneEmpty parts → parts_text f parts ≡ texts_of (told_all f (flat parts))
parts_told [] f h = refl
parts_told ([] ∷ parts) f h = absurd h
parts_told ((b ∷ part) ∷ parts) f h =
    ap (λ (t : List ℕ). texts_of (told_in f (b ∷ part)) ++ t) (parts_told parts (left_by f (b ∷ part)) h)
    ∙ sym (texts_append (told_in f (b ∷ part)) (told_all (left_by f (b ∷ part)) (flat parts)))
    ∙ ap texts_of (sym (input_in_parts (b ∷ part) (flat parts) f))

-- THEOREM: however the input is cut into parts, and whatever the buffer held, what is due for them is the answer to the whole input
pub parts_are_the_input : (parts : List (List ℕ)) (buffer : List ℕ) → NoneEmpty parts → length buffer ≡ 520 → parts_text (fed Nothing buffer) parts ≡ output_of (flat parts)
parts_are_the_input parts buffer h l = parts_told parts (fed Nothing buffer) h ∙ ap texts_of (feeding_an_input (flat parts) buffer l)

-- the blocks that turn after turn lays out of a text that is owed: each, with what is owed after it, is what was owed before it, until nothing is
abbrev pub LaidOut : List ℕ → List (List ℕ) → Type 0
LaidOut text [] = text ≡ []
LaidOut text (front ∷ blocks) = (rest : List ℕ) × (front ++ rest ≡ text) × LaidOut rest blocks

-- THEOREM: however the output is cut into blocks, they are the text
pub blocks_are_the_text : (text : List ℕ) (blocks : List (List ℕ)) → LaidOut text blocks → flat blocks ≡ text
blocks_are_the_text text [] e = sym e
blocks_are_the_text text (front ∷ blocks) l = ap (λ (t : List ℕ). front ++ t) (blocks_are_the_text l.0 blocks l.2) ∙ l.1
