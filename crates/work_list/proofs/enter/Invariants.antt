-- `work_list::enter` meets its contract.
use Rattle.std.proofs.Common.{◌≡◌, map, take}
use Rattle.tables.specs.Tables.{put_at}
use Rattle.work_list.specs.Work.{packed}
use Rattle.work_list.proofs.enter.Given as goal

abbrev pub invariant-loop-i : goal.invariant-loop-i
invariant-loop-i l = l.work ≡ put_at l.initial.work l.w (map packed (take l.i l.entries))
