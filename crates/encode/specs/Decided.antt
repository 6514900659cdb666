-- For the proof: what is decided before anything is written.
use Rattle.std.specs.Prelude.{◌≡◌, List, ℕ, ◌+◌, ◌*◌, ltb, length, Result, Ok, Err}
use Rattle.tables.specs.Choose.{pick}
use Rattle.encoding.specs.Encoding as encoding
use Rattle.encoding.specs.Encoding.{encoding_of}
use Rattle.closing.specs.Verdicts.{refusal_verdict}
use Rattle.encode.specs.declared.Refusal.{Refusal}
use Rattle.encode.specs.declared.Refusal.TheVariants.{ScriptKind, Unsound, TooLong, NoWork, NoRoom}
use Rattle.encode.specs.Encode.{answer}

-- the answer of each refusal
abbrev pub refusal_answer : Refusal → encoding.Answer
refusal_answer ScriptKind = answer 20 0 0
refusal_answer (Unsound r) = answer (refusal_verdict r).number (refusal_verdict r).reason 0
refusal_answer TooLong = answer 1 0 0
refusal_answer NoWork = answer 17 0 0
refusal_answer NoRoom = answer 22 0 0

abbrev pub room_told : {A : Type 0} → Result A Refusal → encoding.Answer
room_told (Ok a) = answer 0 0 0
room_told (Err r) = refusal_answer r

-- and of so many bytes to be written
abbrev pub answer_told : Result ℕ Refusal → encoding.Answer
answer_told (Ok bytes) = answer 0 0 bytes
answer_told (Err r) = refusal_answer r

abbrev pub room_refusal : ℕ → ℕ → ℕ → ℕ → ℕ
room_refusal nodes bytes work out = pick (ltb 10000 bytes) 1 (pick (ltb work (8 * nodes + 2)) 17 (pick (ltb out bytes) 22 0))

-- an answer is that of the whole outcome, whatever an output of this length holds
abbrev pub Answers : ℕ → List ℕ → List ℕ → List ℕ → ℕ → ℕ → encoding.Answer → Type 0
Answers kind nodes keys material work out a = (output : List ℕ) → length output ≡ out → a ≡ (encoding_of kind nodes keys material work output).answer

abbrev pub Decides : ℕ → List ℕ → List ℕ → List ℕ → ℕ → ℕ → Result ℕ Refusal → Type 0
Decides kind nodes keys material work out r = Answers kind nodes keys material work out (answer_told r)
