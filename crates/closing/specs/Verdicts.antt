-- The verdict of the closing checks in two numbers: document 01, "When the desk says no" and "Encoder". 0 and 0 for a table that holds one tree.
use Rattle.std.specs.Prelude.{ℕ, Result, Ok, Err}
use Rattle.encoding.specs.Checks.{Found, found, refused}
use Rattle.node_shape.specs.Shapes.{number_of}
use Rattle.closing.specs.declared.Refusal.{Refusal}
use Rattle.closing.specs.declared.Refusal.TheVariants.{NotOneTree, Value, WrongType, TopNotB}

pub record Verdict : Type 0 where
  pub number : ℕ
  pub reason : ℕ

abbrev pub verdict : ℕ → ℕ → Verdict
verdict number reason = record { number = number; reason = reason }

abbrev pub verdict_on : Found → Verdict
verdict_on (found t) = verdict 0 0
verdict_on (refused number reason) = verdict number reason

-- the two numbers of each refusal, and of a table that passes
abbrev pub refusal_verdict : Refusal → Verdict
refusal_verdict NotOneTree = verdict 21 0
refusal_verdict (Value e) = verdict (number_of e) 0
refusal_verdict (WrongType reason) = verdict 14 reason
refusal_verdict TopNotB = verdict 19 0

abbrev pub verdict_told : {A : Type 0} → Result A Refusal → Verdict
verdict_told (Ok a) = verdict 0 0
verdict_told (Err r) = refusal_verdict r
