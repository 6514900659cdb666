-- `hex_line::feed_line` meets its contract. The loop of FeedLineLaws: what is still to feed comes to what was to feed from the start.
use Prim.Native.Nat.{◌+◌}
use Rattle.hex_line.proofs.FeedLineLaws.{at_end, at_line_feed, goes_on}
use Rattle.hex_line.proofs.feed_line.Goals as goal
use Rattle.hex_line.specs.Feeding.{Fed, fed, stopped, line_fed}
use mathlib.Core.Path.{◌≡◌, sym, ap, ◌∙◌}
use native.Mathlib.Omega.{arith}

pub returns-then-byte-eq10 : goal.returns-then-byte-eq10
returns-then-byte-eq10 c = at_line_feed c.args.input.now c.loop-at.at (fed c.loop-at.read c.loop-at.script) c.loop-at-test.true c.if-byte-eq10.true ∙ sym c.loop-at.invariant.0

pub loop-at-preserved : goal.loop-at-preserved
loop-at-preserved c =
    (c.loop-at.invariant.0 ∙ goes_on c.args.input.now c.loop-at.at (fed c.loop-at.read c.loop-at.script) c.loop-at-test.true c.if-byte-eq10.false ∙ ap (λ (f : Fed). line_fed c.args.input.now (c.loop-at.at + 1) f) (sym c.feed-read.ensures), omega (arith, c.loop-at-test.true))

pub returns : goal.returns
returns c =
    let e : c.max-at.result ≡ c.loop-at.at = omega (arith, c.max-at.ensures, c.loop-at.auto.at, c.loop-at.invariant.1, c.loop-at-test.false) in
    let f : Fed = fed c.loop-at.read c.loop-at.script in
    ap (stopped f) e
    ∙ at_end c.args.input.now c.loop-at.at f c.loop-at-test.false
    ∙ sym c.loop-at.invariant.0
