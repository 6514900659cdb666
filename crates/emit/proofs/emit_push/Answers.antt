-- `emit::emit_push` meets its contract.
use Rattle.std.proofs.Common.{ℕ, ◌+◌, set, take, drop, ap, refl, ◌∙◌}
use Rattle.std.proofs.Math.Nat.{add-sub_cancel_left}
use Rattle.tables.specs.Tables.{put_at}
use Rattle.emit.specs.Emission.{pen}
use Rattle.emit.proofs.ByteLaws.{push_ends, wrote_push}
use Rattle.emit.proofs.emit_push.Goals as goal

pub returns : goal.returns
returns c = (
  wrote_push c.args.out.now c.args.material.now c.args.pen.at c.args.place c.args.size c.requires.1 c.args.size refl c.put_bytes.new.out
      (c.put_bytes.ensures ∙ ap (λ (k : ℕ). put_at (set c.args.out.now c.args.pen.at c.args.size) (c.args.pen.at + 1) (take k (drop c.args.place c.args.material.now))) (add-sub_cancel_left c.args.place c.args.size)),
  ap (λ (k : ℕ). pen k 0) (push_ends c.args.out.now c.args.material.now c.args.pen.at c.args.place c.args.size c.requires.1),
)
