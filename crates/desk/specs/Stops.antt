-- Where the desk stops: at the end of the input, or at a write that failed (document 01, section "Program"). A `Part` and a `Wrote` are made by the system calls alone, so that these are parts of no byte and writes that took none. Assumes nothing.
use Rattle.std.specs.Prelude.{◌≡◌, Result, Ok, Err}
use Rattle.calls.specs.declared.Ended.{Ended}
use Rattle.calls.specs.declared.Failed.{Failed}
use Rattle.clerk.specs.declared.Hand.{Hand}

abbrev pub Stops : Result Ended Failed → Type 0
Stops (Ok end) = end.part.n ≡ 0
Stops (Err failed) = failed.wrote.n ≡ 0

-- all is written, and the hand is such a one; or a write failed
abbrev pub Sends : Result Hand Failed → (Hand → Type 0) → Type 0
Sends (Ok hand) P = P hand
Sends (Err failed) P = failed.wrote.n ≡ 0
