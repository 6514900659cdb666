-- A refused line, and a script that was read: the header and the tables lay out as what the line is answered with. Assumes nothing.
use mathlib.Core.Path.{◌≡◌, sym, ap, ◌∙◌}
use mathlib.Core.List.{List}
use Rattle.std.specs.Prelude.{Result, Ok}
use Prim.Native.Nat.{ℕ}
use lib.ListN.{length, take}
use Rattle.listing.specs.declared.Header.{Header}
use Rattle.listing.specs.Listing.{listing}
use Rattle.hex_line.specs.declared.Line.{Line}
use Rattle.hex_line.specs.declared.Script.{Script}
use Rattle.hex_line.specs.declared.Refusal.{Refusal}
use Rattle.hex_line.specs.Feeding.{fed, ended, told, told_of}
use Rattle.decode.specs.declared.Answer.{Answer}
use Rattle.decode.specs.Read.{lengths_of, outcome_at}
use Rattle.standard.specs.Outcome.{Outcome, outcome_of}
use Rattle.reply.specs.Program.{desk_lengths, outcome_text, text_of}
use Rattle.reply.specs.Narrow.{narrowed}
use Rattle.reply.proofs.NarrowLaws.{narrowed_listing}

-- a script that was read
pub read_text : (line : Line) (buffer : List ℕ) (s : Script) (tokens nodes keys work : List ℕ) (a : Answer) {m : Result Script Refusal} {h : Header} → m ≡ ended line
    → m ≡ Ok s → outcome_at a tokens nodes keys work ≡ outcome_of s.kind (take s.size buffer) desk_lengths → 4608 ≡ length nodes → 128 ≡ length keys
    → h ≡ narrowed a → listing h nodes keys ≡ text_of (told_of (fed line buffer))
read_text line buffer s tokens nodes keys work a {m} {h} e p r n k q =
    ap (λ (x : Header). listing x nodes keys) q
    ∙ narrowed_listing s.kind (take s.size buffer) tokens nodes keys work a r n k
    ∙ ap outcome_text r
    ∙ ap (λ (x : Result Script Refusal). text_of (told x buffer)) (sym p ∙ e)

-- the program's tables have these lengths
pub read_sized : (kind : ℕ) (bytes tokens nodes keys work : List ℕ) {o : Outcome} → 3120 ≡ length tokens → 4608 ≡ length nodes → 128 ≡ length keys → 1024 ≡ length work
    → o ≡ outcome_of kind bytes (lengths_of tokens nodes keys work) → o ≡ outcome_of kind bytes desk_lengths
read_sized kind bytes tokens nodes keys work t n k w e = e ∙ ap (outcome_of kind bytes) lengths where
  lengths : lengths_of tokens nodes keys work ≡ desk_lengths
  lengths = simp (← t, ← n, ← k, ← w)
